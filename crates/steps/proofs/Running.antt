-- What an effect makes of a run, for acts, package marks and opening marks.
use Rattle.std.proofs.Common.{Some, None, Result, Ok, Err}
use Prim.Native.Nat.{ℕ, zero, suc, ◌-◌, ◌≤◌, ◌<◌}
use mathlib.Core.Path.{◌≡◌, refl}
use mathlib.Core.Bool.{Bool, true, false, ◌&&◌, cond}
use mathlib.Core.List.{List}
use native.Mathlib.Numerals.{add-one}
use native.Mathlib.Omega.{arith}
use lib.Dec.{eqb, ltb, eqb-suc-zero}
use lib.ListN.{length, get_or}
use borrow.Author.Tests.{lt-ltb}
use Rattle.value.specs.declared.Value.{Value}
use Rattle.value.specs.Arithmetic.{finite, calculated, checked}
use Rattle.table.specs.declared.Act.{Act}
use Rattle.table.specs.declared.Item.{Item}
use Rattle.table.specs.declared.Operand.{Operand}
use Rattle.table.specs.declared.Pack.{Pack}
use Rattle.table.specs.declared.Sweep.{Sweep}
use Rattle.mates.specs.Mates.{past, close_of}
use Rattle.state.specs.declared.LoopSort.{LoopSort}
use Rattle.state.specs.declared.Offer.{Offer}
use Rattle.state.specs.declared.Point.{Point}
use Rattle.value.specs.declared.Stop.{Stop}
use Rattle.state.specs.declared.What.TheVariants as What
use Rattle.state.specs.State as states
use Rattle.state.specs.State.{Vars, cell_at, cell_value, value_of, Out, State, stops_by, code0010, outer, measures, da}
use Rattle.state.specs.State.{ba}
use Rattle.state.specs.Meaning.{tops}
use Rattle.state.proofs.Boxes.{tops_push}
use Rattle.effect.specs.declared.Chosen.{Chosen}
use Rattle.effect.specs.declared.Spot.{Spot}
use Rattle.operands.specs.Code.{Written}
use Rattle.effect.specs.Code as effects
use Rattle.operands.specs.Code as operands
use Rattle.steps.specs.Machine as rules
use Rattle.steps.specs.Machine.{inside, kept, enter, leave}
use Rattle.steps.specs.Code.{live_state, wrote, step_of, operand_cell, chosen_of, open_at}
use Rattle.steps.proofs.Loops.{enter_again, enter_first, leave_again, leave_empty}

-- ---- the open boxes of a spot

pub after_is : (n : ℕ) → n < 128 → effects.after n ≡ suc n
after_is n h = rw (lt-ltb n 128 h) (add-one n)

pub below_is : (d : ℕ) → effects.below (suc d) ≡ d
below_is d =
    let e : suc d - 1 ≡ d = omega arith in
    rw (eqb-suc-zero d, e)

abbrev pub top : List ℕ → ℕ → ℕ
top l d = cond (ltb (effects.below d) 8) (get_or l (effects.below d) 0) 0

pub top_is : (l : List ℕ) (d : ℕ) → suc d ≤ 8 → top l (suc d) ≡ get_or l d 0
top_is l d h = rw (below_is d, lt-ltb d 8 h)

pub inside_is : (l : List ℕ) (d at : ℕ) → d ≤ 8 → cond (eqb d 0) false (eqb (top l d) at) ≡ inside at (tops l d)
inside_is l zero at h = refl
inside_is l (suc d) at h = rw (top_is l d h, eqb-suc-zero d)

outer_is : (l : List ℕ) (d : ℕ) → tops l (effects.below d) ≡ outer (tops l d)
outer_is l zero = refl
outer_is l (suc d) = rw (below_is d)

-- ---- acts and package marks

pub operand_value : (vs : Vars) (z : Operand) → value_of vs z ≡ cell_value (operand_cell vs z)
operand_value vs (Operand.Name n) = refl
operand_value vs (Operand.Literal l) = refl

module _ (os : List Out) (vs : Vars) (s : Spot) (h : s.at < 128) where
  kept_is : (n t : ℕ) (c : Result Value Stop)
      → step_of os vs (effects.keep_result s n t c) ≡ kept (live_state vs s) n t c
  kept_is n t (Ok v) = rw (after_is s.at h)
  kept_is n t (Err Stop.ByZero) = refl
  kept_is n t (Err Stop.NotFinite) = refl

  pub acted : (a : Act) (o : Offer)
      → step_of os vs (effects.run_act s a (operand_cell vs (operands.act_operands a).a)
      (operand_cell vs (operands.act_operands a).b) o)
      ≡ rules.run_act (live_state vs s) a o
  acted (Act.Var v) o = rw (after_is s.at h)
  acted (Act.Store v l t) o = rw (after_is s.at h)
  acted (Act.Copy n m) o = rw (after_is s.at h)
  acted (Act.Calc f n z) o =
      rw (operand_value vs z)
      (kept_is n (states.cell_type (cell_at vs n))
      (calculated f (cell_value (cell_at vs n)) (cell_value (operand_cell vs z))))
  acted (Act.Meas z n t) o = kept_is n t (checked (states.reading o))
  acted (Act.TimerGet n) o = kept_is n states.eb (checked (states.reading o))
  acted (Act.SendString t) o = rw (after_is s.at h)
  acted (Act.Wait z) o = rw (after_is s.at h, operand_value vs z)
  acted (Act.SetE z) o = rw (after_is s.at h, operand_value vs z)
  acted (Act.SetMode n) o = rw (after_is s.at h)
  acted Act.TimerStart o = rw (after_is s.at h)
  acted Act.CellOn o = rw (after_is s.at h)
  acted Act.CellOff o = rw (after_is s.at h)
  acted Act.Abort o = rw (after_is s.at h)

  pub packed : (p : Pack)
      → step_of os vs (effects.run_pack s p (operand_cell vs (operands.pack_operands p).a))
      ≡ rules.run_pack (live_state vs s) p
  packed Pack.Start = rw (after_is s.at h)
  packed (Pack.Add n) = rw (after_is s.at h)
  packed Pack.End = rw (after_is s.at h)

-- ---- opening marks

module _ (os : List Out) (vs : Vars) (s : Spot) (h : s.at < 128) (d : s.depth ≤ 8) (w : length s.boxes ≡ 8) where
  abbrev m : State
  m = live_state vs s

  enters_is : (k : LoopSort) (p q : Written) → (inside s.at (open_at s) ≡ false → s.depth < 8)
      → step_of os vs (effects.enter_loop s k p q) ≡ enter k (live_state (wrote q (wrote p vs)) s)
  enters_is k p q r = rw (inside_is s.boxes s.depth s.at d) (go (inside s.at (open_at s)) refl)
    where
      go : (b : Bool) → inside s.at (open_at s) ≡ b
          → step_of os vs (cond b (effects.acting (effects.go_on s) What.Nothing What.Nothing p q)
          (effects.acting (effects.go_on (effects.push s)) (What.Enter k) What.Nothing p q))
          ≡ enter k (live_state (wrote q (wrote p vs)) s)
      go true e = rw (after_is s.at h) (enter_again k (live_state (wrote q (wrote p vs)) s) e)
      go false e =
          rw (
            lt-ltb s.depth 8 (r e),
            after_is s.at h,
            tops_push s.boxes s.depth s.at (omega (arith, w, r e)),
          )
          (enter_first k (live_state (wrote q (wrote p vs)) s) e)

  leaves_is : (xs : List Item) (k : LoopSort) (i : ℕ) → i ≡ past (close_of xs s.at)
      → step_of os vs (effects.leave_loop s k i) ≡ leave xs k m
  leaves_is xs k i f = rw (inside_is s.boxes s.depth s.at d) (go (inside s.at (open_at s)) refl)
    where
      go : (b : Bool) → inside s.at (open_at s) ≡ b
          → step_of os vs (cond b
          (effects.saying (effects.leave_to s (effects.below s.depth) i (measures k)) (What.Leave k))
          (effects.acting (effects.leave_to s s.depth i (measures k)) (What.Enter k) (What.Leave k)
          None None))
          ≡ leave xs k m
      go true e = rw (outer_is s.boxes s.depth) (leave_again xs k m (measures k) i refl f e)
      go false e = leave_empty xs k m (measures k) i refl f e

  pub chosen_is : (c : Chosen) → s.depth < 8 → step_of os vs (effects.run_chosen s c) ≡ rules.chosen m (chosen_of c)
  chosen_is (Chosen.Into i) r = rw (lt-ltb s.depth 8 r, tops_push s.boxes s.depth s.at (omega (arith, w)))
  chosen_is (Chosen.Beyond i) r = refl
  chosen_is (Chosen.Bad f) r = refl

  abbrev first : Sweep → Point → Written
  first v p = Some (v.potential, Some (Value.Real p.potential, da))

  abbrev second : Sweep → Point → Written
  second v p = Some (v.current, Some (Value.Real p.current, ba))

  point_is : (v : Sweep) (p : Point) → (inside s.at (open_at s) ≡ false → s.depth < 8)
      → step_of os vs (effects.run_point s v p) ≡ rules.run_point m v p.potential p.current
  point_is v p r = go (finite (Value.Real p.potential) && finite (Value.Real p.current))
    where
      go : (b : Bool)
          → step_of os vs (cond b (effects.enter_loop s LoopSort.Sweep (first v p) (second v p))
          (effects.stop_by s Stop.NotFinite))
          ≡ cond b (enter LoopSort.Sweep (live_state (wrote (second v p) (wrote (first v p) vs)) s))
          (stops_by code0010 m)
      go true = enters_is LoopSort.Sweep (first v p) (second v p) r
      go false = refl

  pub sweep_is : (xs : List Item) (v : Sweep) (i : ℕ) (o : Offer) → i ≡ past (close_of xs s.at)
      → (inside s.at (open_at s) ≡ false → s.depth < 8)
      → step_of os vs (effects.run_sweep s v i o) ≡ rules.run_sweep xs m v o
  sweep_is xs v i Offer.Nothing f r = leaves_is xs LoopSort.Sweep i f
  sweep_is xs v i (Offer.Float x) f r = leaves_is xs LoopSort.Sweep i f
  sweep_is xs v i (Offer.Point p) f r = point_is v p r
  sweep_is xs v i Offer.Done f r = leaves_is xs LoopSort.Sweep i f

  pub loop_is : (xs : List Item) (b : Bool) (i : ℕ) → i ≡ past (close_of xs s.at)
      → (inside s.at (open_at s) ≡ false → s.depth < 8)
      → step_of os vs (effects.run_loop s b i) ≡ cond b (enter LoopSort.Loop m) (leave xs LoopSort.Loop m)
  loop_is xs true i f r = enters_is LoopSort.Loop None None r
  loop_is xs false i f r = leaves_is xs LoopSort.Loop i f
