-- Laws of the rows of the command table. Assumes nothing.
use lib.ListN.{drop, get_or, replicate}
use lib.Seq.{get_or-drop}
use mathlib.Core.Bool.{Bool, true, false, ◌&&◌}
use mathlib.Core.List.{List, [], ◌∷◌}
use mathlib.Core.Path.{◌≡◌, refl, sym, ◌∙◌, ap}
use native.Mathlib.Omega.{arith}
use Prim.Native.Nat.{ℕ, zero, suc, ◌+◌, ◌-◌, ◌≤◌}
use Rattle.line.specs.Command.{Command, commands, tag_command, command_at}
use Rattle.line.specs.declared.Make.TheVariants as Make
use Rattle.word.specs.Word.{padded}

pub both : (a b : Bool) → (a && b) ≡ true → (a ≡ true) × (b ≡ true)
both true b e = (refl, e)
both false b e = let z : ◌≡◌ {A = ℕ} 0 1 = cc in absurd (omega arith)

-- ---- what the last arm of a match on a number knows

-- x is none of these, of which the first was tested last
abbrev pub Others : List ℕ → ℕ → Type 0
Others [] x = Unit {0}
Others (k ∷ ks) x = Others ks x × (x ≡ k → ⊥)

-- the numbers below n
abbrev pub below : ℕ → List ℕ
below zero = []
below (suc n) = n ∷ below n

pub past : (n x : ℕ) → Others (below n) x → n ≤ x
past zero x o = omega arith
past (suc n) x o = omega (arith, past n x o.0, o.1)

-- ---- the rows from n on

from_row : (n k : ℕ) (cs : List Command) → n ≤ k → get_or cs k tag_command ≡ get_or (drop n cs) (k - n) tag_command
from_row n k cs h =
    let e : n + (k - n) ≡ k = omega arith in
    rw (get_or-drop n cs (k - n) tag_command, e) refl

same_tail : (d : Command) (m : ℕ) → d ≡ get_or (d ∷ []) m d
same_tail d zero = refl
same_tail d (suc m) = refl

pub last_make : (k : ℕ) → 28 ≤ k → Make.Tag ≡ (command_at k).make
unfolding command_at commands tag_command
last_make k h = ap (λ (c : Command). c.make) (same_tail tag_command (k - 28) ∙ sym (from_row 28 k commands h))

-- commands without arguments
abbrev Plain : List Command → Type 0
Plain [] = Unit {0}
Plain (c ∷ cs) = (replicate 6 32 ≡ c.shape) × Plain cs

plain_row : (cs : List Command) (m : ℕ) → Plain cs → replicate 6 32 ≡ (get_or cs m tag_command).shape
unfolding tag_command padded
plain_row [] m p = refl
plain_row (c ∷ cs) zero p = p.0
plain_row (c ∷ cs) (suc m) p = plain_row cs m p.1

pub last_shape : (k : ℕ) → 18 ≤ k → replicate 6 32 ≡ (command_at k).shape
unfolding command_at commands tag_command padded
last_shape k h =
    let plain : Plain (drop 18 commands) =
    (refl, (refl, (refl, (refl, (refl, (refl, (refl, (refl, (refl, (refl, (refl, tt))))))))))) in
    plain_row (drop 18 commands) (k - 18) plain ∙ sym (ap (λ (c : Command). c.shape) (from_row 18 k commands h))
