-- What only the code's shape needs: its two ways to take a line, judged, and of a reply that is known to be good, where
-- a package is not read again. Assumes nothing.
use Rattle.std.specs.Prelude.{leb, length, get_or, Bool, cond, List, ℕ}
use Rattle.package.specs.Package.{verdict_of, package_of}
use Rattle.package.specs.declared.Refusal as packages
use Rattle.reply_line.specs.declared.Line.{Line}
use Rattle.reply_line.specs.declared.Refusal.{Refusal}
use Rattle.reply_line.specs.Line.{package_line, by_first}

-- the refusal of a line, by that of its package
unfoldable pub of_package : packages.Refusal → Refusal
of_package packages.Refusal.BadPart = Refusal.BadPart
of_package packages.Refusal.TooManyParts = Refusal.TooManyParts

unfoldable pub package_by : Bool → List ℕ → Line
package_by known s = cond known Line.Package (package_line (verdict_of (package_of s)))

unfoldable pub later_by : Bool → List ℕ → Line
unfolding package_by
later_by known s = cond (leb 1 (length s)) (by_first (package_by known s) (get_or s 0 0) s) Line.Empty
