-- What stays in bounds: the places that an item leads to, the values that are kept, and the boxes that are left open.
use Rattle.std.proofs.Common.{Result, Ok, Err}
use Rattle.value.specs.declared.Stop.{Stop}
use Prim.Native.Nat.{ℕ, zero, suc, ◌+◌, ◌≤◌, ◌<◌, zero-le}
use mathlib.Core.Path.{◌≡◌, refl, ap}
use mathlib.Core.Bool.{Bool, true, false, not, ◌&&◌, cond, true≢false}
use mathlib.Core.List.{List, [], ◌∷◌}
use mathlib.Core.Option.{Option, none, some}
use native.Mathlib.Omega.{arith}
use lib.IntN.{ℤ, pos, negsuc}
use lib.Ieee.{Float}
use lib.Dec.{eqb, ltb, leb}
use lib.ListN.{length, set, drop, length-drop, drop_of_length-le}
use borrow.Author.Tests.{ltb-true, ltb-false}
pub use Rattle.laws.proofs.Bools.{and_t}
use Rattle.value.specs.declared.Operation.{Operation}
use Rattle.value.specs.declared.Value.{Value}
use Rattle.value.specs.Arithmetic.{finite, is_finite, calculated, checked, wholes, reals, is_zero}
use Rattle.table.specs.declared.Branch.TheVariants as Branch
use Rattle.table.specs.declared.Item.{Item}
use Rattle.table.specs.Item.{is_close, is_loop, opens_a}
use Rattle.table.specs.ReadWrite.{lowest, condition_reads}
use Rattle.mates.specs.declared.Open.{Open}
use Rattle.mates.specs.Mates.{scan, boxes_at, belongs, close_from, close_of, item_at, past}
use Rattle.state.specs.State.{Cell}
use Rattle.state.specs.State.{Vars, cell_at, holds, State, cell_ok, cells_ok}
use Rattle.steps.specs.Machine.{Chosen, into, beyond, bad, or_bad, read_faults, tried, choose, unwind, outside}
use Rattle.steps.specs.Machine.{inside, is_none, opens_ok}
use Rattle.steps.specs.Code.{ninth, box_ok}
use Rattle.steps.proofs.Shapes.{and_l, and_r, room}

-- ---- places

close_within_lem : (p j : ℕ) (st : List Open) (ys : List Item) (k : ℕ) → close_from p j st ys ≡ some k
    → k < j + length ys
close_within_lem p j st [] k e = absurd (true≢false (ap is_none e))
close_within_lem p j st (y ∷ ys) k e = go (is_close y && belongs p y st) refl (close_within_lem p (suc j)
    (scan j y st) ys k)
  where
    go : (b : Bool) → (is_close y && belongs p y st) ≡ b
        → (close_from p (suc j) (scan j y st) ys ≡ some k → k < suc j + length ys) → k < j + suc (length ys)
    go true q rec =
        let f : some j ≡ some k = rw q at e in
        let g : j ≡ k = cc in
        omega arith
    go false q rec =
        let f : close_from p (suc j) (scan j y st) ys ≡ some k = rw q at e in
        omega (arith, rec f)

pub past_within : (xs : List Item) (p : ℕ) → past (close_of xs p) ≤ length xs
past_within xs p = go (close_of xs p) refl
  where
    go : (o : Option ℕ) → close_of xs p ≡ o → past o ≤ length xs
    go none e = zero-le
    go (some k) e = pick (ltb (length xs) p) refl
      where
        pick : (b : Bool) → ltb (length xs) p ≡ b → suc k ≤ length xs
        pick true q =
            let d : drop p xs ≡ [] = drop_of_length-le xs {i = p} (omega (arith, ltb-true (length xs) p q)) in
            let f : close_from p p (boxes_at xs p) [] ≡ some k = rw d at e in
            absurd (true≢false (ap is_none f))
        pick false q =
            omega (
              arith,
              close_within_lem p p (boxes_at xs p) (drop p xs) k e,
              length-drop p xs,
              ltb-false
                  (length xs) p q,
            )

abbrev pub Within : Chosen → ℕ → Type 0
Within (into i) n = i ≤ n
Within (beyond i) n = i ≤ n
Within (bad k) n = Unit {0}

within_cond : (b : Bool) (c d : Chosen) (n : ℕ) → Within c n → Within d n → Within (cond b c d) n
within_cond true c d n p q = p
within_cond false c d n p q = q

within_bad : (k : ℕ) (c : Chosen) (n : ℕ) → Within c n → Within (or_bad k c) n
within_bad zero c n p = p
within_bad (suc k) c n p = tt

within_tried : (vs : Vars) (x : Item) (j n : ℕ) (r : Chosen) → j < n → Within r n → Within (tried vs x j r) n
within_tried vs (Item.Branch (Branch.ElseIf c)) j n r h p =
    within_bad (lowest (read_faults vs (condition_reads c))) _ n (within_cond (holds vs c) (into (suc j)) r n h p)
within_tried vs (Item.Branch Branch.Else) j n r h p = h
within_tried vs (Item.Close e) j n r h p = h
within_tried vs (Item.Act a) j n r h p = p
within_tried vs (Item.Pack a) j n r h p = p
within_tried vs (Item.Open a) j n r h p = p
within_tried vs Item.Break j n r h p = p
within_tried vs Item.Tag j n r h p = p

pub within_choose : (vs : Vars) (p j : ℕ) (st : List Open) (ys : List Item) (n : ℕ) → j + length ys ≤ n
    → Within (choose vs p j st ys) n
within_choose vs p j st [] n h = tt
within_choose vs p j st (y ∷ ys) n h =
    let r = within_choose vs p (suc j) (scan j y st) ys n (omega arith) in
    within_cond (belongs p y st) _ _ n (within_tried vs y j n (choose vs p (suc j) (scan j y st) ys) (omega arith) r) r

-- ---- names

pub cells-set : (vs : Vars) (n : ℕ) (c : Cell) → cells_ok vs ≡ true → cell_ok c ≡ true → cells_ok (set vs n c) ≡ true
cells-set [] n c e f = e
cells-set (v ∷ vs) zero c e f = rw f (and_r (cell_ok v) (cells_ok vs) e)
cells-set (v ∷ vs) (suc n) c e f =
    and_t (and_l (cell_ok v) (cells_ok vs) e)
    (cells-set vs n c (and_r (cell_ok v) (cells_ok vs) e) f)

pub cell_at_lem : (vs : Vars) (n : ℕ) → cells_ok vs ≡ true → cell_ok (cell_at vs n) ≡ true
cell_at_lem [] n e = refl
cell_at_lem (v ∷ vs) zero e = and_l (cell_ok v) (cells_ok vs) e
cell_at_lem (v ∷ vs) (suc n) e = cell_at_lem vs n (and_r (cell_ok v) (cells_ok vs) e)

abbrev pub Fine : Result Value Stop → Type 0
Fine (Ok v) = finite v ≡ true
Fine (Err Stop.ByZero) = Unit {0}
Fine (Err Stop.NotFinite) = Unit {0}

fine_cond : (b : Bool) (c d : Result Value Stop) → (b ≡ true → Fine c) → Fine d → Fine (cond b c d)
fine_cond true c d p q = p refl
fine_cond false c d p q = q

pub checked_fine : (x : Float) → Fine (checked x)
unfolding checked finite
checked_fine x = fine_cond (is_finite x) (Ok (Value.Real x)) (Err Stop.NotFinite) (λ e. e) tt

wholes_fine : (o : Operation) (a b : ℤ) → Fine (wholes o a b)
unfolding wholes finite
wholes_fine Operation.Add a b = refl
wholes_fine Operation.Sub a b = refl
wholes_fine Operation.Mul a b = refl
wholes_fine Operation.Div a (pos zero) = tt
wholes_fine Operation.Div a (pos (suc b)) = refl
wholes_fine Operation.Div a (negsuc b) = refl

reals_fine : (o : Operation) (a b : Float) → Fine (reals o a b)
unfolding reals
reals_fine Operation.Add a b = checked_fine _
reals_fine Operation.Sub a b = checked_fine _
reals_fine Operation.Mul a b = checked_fine _
reals_fine Operation.Div a b = fine_cond (is_zero b) (Err Stop.ByZero) _ (λ e. tt) (checked_fine _)

pub calculated_fine : (o : Operation) (a b : Value) → Fine (calculated o a b)
unfolding calculated
calculated_fine o (Value.Whole a) (Value.Whole b) = wholes_fine o a b
calculated_fine o (Value.Real a) (Value.Real b) = reals_fine o a b
calculated_fine o (Value.Whole a) (Value.Real b) = tt
calculated_fine o (Value.Real a) (Value.Whole b) = tt

-- ---- boxes

pub opens_outside : (xs : List Item) (i : ℕ) (ps : List ℕ) → opens_ok xs ps ≡ true → opens_ok xs (outside i ps) ≡ true
opens_outside xs i [] e = refl
opens_outside xs i (p ∷ ps) e = go (eqb p i)
  where
    go : (b : Bool) → opens_ok xs (cond b ps (p ∷ ps)) ≡ true
    go true = and_r (box_ok xs p) (opens_ok xs ps) e
    go false = e

pub few_out : (i : ℕ) (ps : List ℕ) → length (outside i ps) ≤ length ps
few_out i [] = omega arith
few_out i (p ∷ ps) = go (eqb p i)
  where
    go : (b : Bool) → length (cond b ps (p ∷ ps)) ≤ suc (length ps)
    go true = omega arith
    go false = omega arith

pub few_outside : (m : State) → ninth m true ≡ false → length m.boxes ≤ 8 → length (outside m.at m.boxes) < 8
few_outside m e h = go m.boxes e h
  where
    go : (ps : List ℕ) → (leb 8 (length ps) && not (inside m.at ps)) ≡ false → length ps ≤ 8
        → length (outside m.at ps) < 8
    go [] q k = omega arith
    go (p ∷ ps) q k = pick (eqb p m.at) refl
      where
        pick : (b : Bool) → eqb p m.at ≡ b → length (cond b ps (p ∷ ps)) < 8
        pick true z = omega arith
        pick false z = room (suc (length ps)) (not (eqb p m.at)) q (rw z)

pub few_if : (m : State) → ninth m false ≡ false → length m.boxes < 8
few_if m e = room (length m.boxes) true e refl

pub opens_unwind : (xs : List Item) (ps : List ℕ) → opens_ok xs ps ≡ true
    → (opens_ok xs (unwind xs ps) ≡ true) × (length (unwind xs ps) ≤ length ps)
opens_unwind xs [] e = (refl, omega arith)
opens_unwind xs (p ∷ ps) e =
    go (opens_a is_loop (item_at xs p)) (opens_unwind xs ps (and_r (box_ok xs p) (opens_ok xs ps) e))
  where
    go : (b : Bool) → (opens_ok xs (unwind xs ps) ≡ true) × (length (unwind xs ps) ≤ length ps)
        → (opens_ok xs (cond b (p ∷ ps) (unwind xs ps)) ≡ true)
        × (length (cond b (p ∷ ps) (unwind xs ps)) ≤ suc (length ps))
    go true r = (e, omega arith)
    go false r = (r.0, omega (arith, r.1))
