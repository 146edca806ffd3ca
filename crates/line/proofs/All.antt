-- The words read in a row are the arguments. Assumes nothing.
use borrow.Author.Tests.{eqb-true}
use lib.Dec.{eqb}
use lib.ListN.{length, get_or}
use mathlib.Core.Bool.{Bool, true, ◌&&◌}
use mathlib.Core.List.{List}
use mathlib.Core.Path.{◌≡◌, refl}
use native.Mathlib.Omega.{arith}
use Prim.Native.Nat.{ℕ}
use Rattle.argument.proofs.Past.{said_past}
use Rattle.argument.specs.Argument.{empty_said, said, stopped, said_at}
use Rattle.argument.specs.declared.Argument.TheVariants as Argument
use Rattle.argument.specs.declared.Form.TheVariants as Form
use Rattle.argument.specs.declared.Said.{Said}
use Rattle.line.proofs.Rows.{both}
use Rattle.line.specs.Code.{over, all_over}
use Rattle.line.specs.Command.{Arguments, form_of}
use Rattle.line.specs.Line.{arguments_at}

abbrev together : Said → Said → Said → Said → Said → Said → Said → Arguments
together a b c d e f g =
    record {
      a = a.argument;
      b = b.argument;
      c = c.argument;
      d = d.argument;
      e = e.argument;
      f = f.argument;
      end = g.argument;
    }

-- what the first three letters say from i on
pub record First (names : List (List ℕ)) (line k : List ℕ) (i : ℕ) (a b c : Said) : Type 0 where
  pub one : a ≡ said_at names line (form_of (get_or k 0 0)) i
  pub two : b ≡ said_at names line (form_of (get_or k 1 0)) a.stop
  pub three : c ≡ said_at names line (form_of (get_or k 2 0)) b.stop

-- what the others say from i on, and that nothing follows
pub record Rest (names : List (List ℕ)) (line k : List ℕ) (i : ℕ) (d e f g : Said) : Type 0 where
  pub four : d ≡ said_at names line (form_of (get_or k 3 0)) i
  pub five : e ≡ said_at names line (form_of (get_or k 4 0)) d.stop
  pub six : f ≡ said_at names line (form_of (get_or k 5 0)) e.stop
  pub last : g ≡ said_at names line Form.Nothing f.stop

pub all : {names : List (List ℕ)} {line k : List ℕ} {i : ℕ} {a b c d e f g : Said}
    → First names line k i a b c → Rest names line k c.stop d e f g
    → together a b c d e f g ≡ arguments_at names line k i
unfolding arguments_at
all x y = rw (y.last, y.six, y.five, y.four, x.three, x.two, x.one) refl

-- ---- a line that is over

nothing_said : (names : List (List ℕ)) (line : List ℕ) (i : ℕ) → i ≡ length line
    → stopped Argument.Nothing i ≡ said_at names line Form.Nothing i
unfolding said empty_said
nothing_said names line i h = said_past names line Form.Nothing i Argument.Nothing refl (omega arith) refl

pub says_nothing : (names : List (List ℕ)) (line : List ℕ) (letter i : ℕ) → over letter (length line) i ≡ true
    → stopped Argument.Nothing i ≡ said_at names line (form_of letter) i
unfolding form_of
says_nothing names line letter i h =
    let is = both (eqb letter 32) (eqb i (length line)) h in
    let blank : letter ≡ 32 = eqb-true _ _ is.0 in
    rw blank (nothing_said names line i (eqb-true _ _ is.1))

pub nothing_left : {names : List (List ℕ)} {line k : List ℕ} {i : ℕ} → all_over k (length line) i ≡ true
    → Rest names line k i (stopped Argument.Nothing i) (stopped Argument.Nothing i) (stopped Argument.Nothing i)
    (stopped Argument.Nothing i)
unfolding form_of
nothing_left {names} {line} {k} {i} h =
    let now : Bool = over (get_or k 3 0) (length line) i in
    let two = both (now && eqb (get_or k 4 0) 32) (eqb (get_or k 5 0) 32) h in
    let one = both now (eqb (get_or k 4 0) 32) two.0 in
    let at_end_lem = eqb-true _ _ (both (eqb (get_or k 3 0) 32) (eqb i (length line)) one.0).1 in
    let fifth : get_or k 4 0 ≡ 32 = eqb-true _ _ one.1 in
    let sixth : get_or k 5 0 ≡ 32 = eqb-true _ _ two.1 in
    record {
      four = says_nothing names line (get_or k 3 0) i one.0;
      five = rw fifth (nothing_said names line i at_end_lem);
      six = rw sixth (nothing_said names line i at_end_lem);
      last = nothing_said names line i at_end_lem;
    }
