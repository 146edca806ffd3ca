-- The tests of a state's shape.
use Prim.Native.Nat.{ℕ, ◌≤◌, ◌<◌}
use mathlib.Core.Path.{◌≡◌, sym, ◌∙◌}
use mathlib.Core.Bool.{Bool, true, false, ◌&&◌, and-true}
use mathlib.Core.List.{List}
use native.Mathlib.Omega.{arith}
use lib.Dec.{leb}
use lib.ListN.{length}
use borrow.Author.Tests.{le-leb, leb-true, leb-false}
pub use Rattle.laws.proofs.Bools.{and_l, and_r}
use Rattle.table.specs.declared.Item.{Item}
use Rattle.state.specs.State.{State, cells_ok}
use Rattle.steps.specs.Machine.{opens_ok, state_ok}
use Rattle.steps.specs.Code.{Stands}

-- ---- a run in shape

pub record Shaped (xs : List Item) (m : State) : Type 0 where
  pub at : m.at ≤ length xs
  pub few : length m.boxes ≤ 8
  pub boxes : opens_ok xs m.boxes ≡ true
  pub cells : cells_ok m.vars ≡ true

pub shaped_ok : (xs : List Item) (m : State) → Shaped xs m → state_ok xs m ≡ true
shaped_ok xs m s = rw (le-leb m.at (length xs) s.at, le-leb (length m.boxes) 8 s.few, s.boxes) s.cells

pub ok_shaped : (xs : List Item) (m : State) → state_ok xs m ≡ true → Shaped xs m
ok_shaped xs m e =
    let within = leb m.at (length xs) in
    let few = leb (length m.boxes) 8 in
    let boxes = opens_ok xs m.boxes in
    let a = and_l (within && few && boxes) (cells_ok m.vars) e in
    let b = and_l (within && few) boxes a in
    record {
      at = leb-true m.at (length xs) (and_l within few b);
      few = leb-true (length m.boxes) 8 (and_r within few b);
      boxes = and_r (within && few) boxes a;
      cells = and_r (within && few && boxes) (cells_ok m.vars) e;
    }

pub shape_stands : (xs : List Item) (m : State) → length xs ≤ 128 → state_ok xs m ≡ true → Stands m
shape_stands xs m h e =
    let s = ok_shaped xs m e in
    record { within = omega (arith, s.at); few = s.few }

-- fewer than 8, where 63 is not for some other reason
pub room : (n : ℕ) (b : Bool) → (leb 8 n && b) ≡ false → b ≡ true → n < 8
room n b e q = leb-false 8 n (sym (and-true (leb 8 n)) ∙ rw q at e)
