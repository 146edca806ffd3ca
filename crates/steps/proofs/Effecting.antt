-- An effect is 01's step: for every item, for an abort, for the end of the items and for a run that has ended.
use Rattle.std.proofs.Common.{Some, None, Option as Maybe}
use Prim.Native.Nat.{ℕ, zero, suc, ◌≤◌, ◌<◌}
use mathlib.Core.Path.{◌≡◌, refl, sym, ap, ◌∙◌}
use mathlib.Core.Bool.{Bool, true, false, not, ◌&&◌, ◌||◌, cond, true≢false, false≢true, and-true}
use mathlib.Core.List.{List, [], ◌∷◌}
use mathlib.Core.Option.{Option, none, some}
use native.Mathlib.Omega.{arith}
use lib.Dec.{eqb, ltb, eqb-suc-zero}
use lib.ListN.{length, get_or, drop}
use borrow.Author.Tests.{lt-ltb, lt-leb, le-leb, le-ltb, ltb-true, ltb-false}
use Rattle.table.specs.declared.Close.TheVariants as Close
use Rattle.table.specs.declared.Head.TheVariants as Head
use Rattle.table.specs.declared.Item.{Item}
use Rattle.table.specs.Item.{is_branch, is_close, is_loop, is_sweep, opens_a}
use Rattle.table.specs.ReadWrite.{lowest, breaks_order}
use Rattle.mates.specs.Mates.{item_at, boxes_at, past, close_of}
use Rattle.state.specs.declared.Answer.TheVariants as Answer
use Rattle.state.specs.declared.Control.{Control}
use Rattle.state.specs.declared.Fault.{Fault}
use Rattle.state.specs.declared.LoopSort.TheVariants as LoopSort
use Rattle.state.specs.declared.Offer.{Offer}
use Rattle.state.specs.declared.Status.{Status}
use Rattle.state.specs.declared.What.TheVariants as What
use Rattle.state.specs.State as states
use Rattle.state.specs.State.{Vars, Out, State, Step, said, goto, unskip, cleared, outer}
use Rattle.state.specs.Meaning.{tops}
use Rattle.effect.specs.declared.Chosen.{Chosen}
use Rattle.effect.specs.declared.Effect.{Effect}
use Rattle.effect.specs.declared.Looked.{Looked}
use Rattle.effect.specs.declared.Spot.{Spot}
use Rattle.effect.specs.Code as effects
use Rattle.operands.specs.Code as operands
use Rattle.steps.specs.Machine as rules
use Rattle.steps.specs.Machine.{unwind, leave_outs, strays, astray, too_deep, faults, next, bad_of, tag_from, ahead}
use Rattle.steps.specs.Machine.{served, or_fault, told, any_open}
use Rattle.steps.specs.Code.{state_with, live_state, step_of, Reads, chosen_of, chosen_at, close_top, sweep_top}
use Rattle.steps.specs.Code.{open_at}
use Rattle.steps.specs.Code.{Surrounds, or_last, Here, LooksUp, step_known}
use Rattle.steps.proofs.Loops.{if_chosen}
use Rattle.steps.proofs.Placed.{fault_mark}
use Rattle.steps.proofs.Stepping.{unfaulted, tag_below, item_faults, item_runs, at_end_lem, faults_by_is}
use Rattle.steps.proofs.Running.{below_is, top, top_is, acted, packed, chosen_is, sweep_is, loop_is}
use Rattle.steps.proofs.Faulting.{room_loop, room_if, missing_is, wrong_is, depth_is, trouble_of, fault_number_lem}
pub use Rattle.steps.proofs.Running.{after_is}
pub use Rattle.steps.proofs.Faulting.{missing_two, wrong_two, holds_two}

-- ---- one item

unwind_loop : (xs : List Item) (ps : List ℕ) (p : ℕ) (qs : List ℕ) → unwind xs ps ≡ p ∷ qs
    → opens_a is_loop (item_at xs p) ≡ true
unwind_loop xs [] p qs e = absurd (true≢false (ap rules.is_empty e))
unwind_loop xs (q ∷ ps) p qs e = go (opens_a is_loop (item_at xs q)) refl (λ z. unwind_loop xs ps p qs z)
  where
    same : opens_a is_loop (item_at xs q) ≡ true → q ∷ ps ≡ p ∷ qs → opens_a is_loop (item_at xs p) ≡ true
    same f z =
        let k : q ≡ p = cc in
        rw (← k) f

    go : (b : Bool) → opens_a is_loop (item_at xs q) ≡ b → (unwind xs ps ≡ p ∷ qs
        → opens_a is_loop (item_at xs p) ≡ true)
        → opens_a is_loop (item_at xs p) ≡ true
    go true f r = same f (rw f at e)
    go false f r = r (rw f at e)

module _ {xs : List Item} {vs : Vars} {s : Spot} {k : Looked} (os : List Out) (l : LooksUp xs vs s k)
    (g : Here xs vs s k)
    (q : s.at < length xs) (o : Offer) where
  abbrev x : Item
  x = k.item

  abbrev run : State
  run = live_state vs s

  within : s.at < 128
  within = omega (arith, l.few)

  fault_is : trouble_of (effects.fault_of s x k.cells k.around.stray) ≡ lowest (faults xs run x)
  fault_is =
      fault_number_lem (effects.cells_missing (effects.need_of x) k.cells)
      (effects.cells_wrong (effects.need_of x) k.cells)
      k.around.stray (effects.depth_fault' s x) (breaks_order x s.packed)
      ∙ rw (
        missing_is vs k.cells x g.read,
        wrong_is vs k.cells x g.read,
        g.around.stray,
        depth_is vs s l.deep x,
      )

  -- a mark that is not astray has an innermost box
  top_of : (y : Item) → (is_branch y || is_close y) ≡ true → astray xs run y ≡ false → (e : ℕ) × (s.depth ≡ suc e)
  top_of y p n = go s.depth refl (sym (fault_mark xs run y p) ∙ n)
    where
      go : (d : ℕ) → s.depth ≡ d → strays y (open_at s) (boxes_at xs s.at) ≡ false → (e : ℕ) × (s.depth ≡ suc e)
      go zero e f = absurd (true≢false (rw e at f))
      go (suc d) e f = (d, e)

  abbrev Runs : Item → Type 0
  Runs y = step_of os vs (effects.run_item s y k.cells k.chosen k.around o) ≡ rules.run xs run y o

  branches : (y : Item) (e : ℕ) → s.depth ≡ suc e → k.around.close ≡ close_top xs (open_at s)
      → step_of os vs (effects.runs (effects.leave_to s (effects.below s.depth) k.around.close false)) ≡
      rules.run_branch xs run (open_at s)
  branches y e f h = rw (h, f, below_is e, and-true s.skip)

  ends_if : (e : ℕ) → s.depth ≡ suc e
      → step_of os vs (effects.runs (effects.leave_to s (effects.below s.depth) (effects.after s.at) false)) ≡
      rules.run_close xs run Close.EndIf (open_at s)
  ends_if e f = rw (f, below_is e, after_is s.at within, and-true s.skip)

  -- where an endloop leads: out of its box, or back to its head
  abbrev ways : Bool → ℕ → ℕ → Effect
  ways b d p =
      cond b (effects.saying (effects.leave_to s d (suc s.at) true) (What.Leave LoopSort.Sweep))
      (effects.runs (effects.go_to s p))

  ends_loop : (e : ℕ) → s.depth ≡ suc e → k.around.sweep ≡ sweep_top xs (open_at s)
      → step_of os vs (effects.run_endloop s k.around.sweep) ≡ rules.run_close xs run Close.EndLoop (open_at s)
  ends_loop e f h =
      rw (h, after_is s.at within)
      (ap (λ (d : ℕ). step_of os vs (ways (sweep_top xs (tops s.boxes d) && (s.pending || s.skip)) (effects.below d)
      (top s.boxes d))) f
      ∙ rw (top_is s.boxes e (rw f at l.deep), below_is e)
      (go (opens_a is_sweep (item_at xs (get_or s.boxes e 0)) && (s.pending || s.skip)))
      ∙ sym (ap (λ (d : ℕ). rules.run_close xs run Close.EndLoop (tops s.boxes d)) f))
    where
      go : (b : Bool) → step_of os vs (ways b e (get_or s.boxes e 0))
          ≡ cond b (said (states.leaves LoopSort.Sweep ∷ []) (unskip true (goto run (suc s.at) (tops s.boxes e))))
          (said [] (goto run (get_or s.boxes e 0) (get_or s.boxes e 0 ∷ tops s.boxes e)))
      go true = refl
      go false = rw f

  breaks : (l : List ℕ) → unwind xs (open_at s) ≡ l → (l ≡ [] → ⊥) → k.around.close ≡ close_top xs l
      → k.around.sweep ≡ sweep_top xs l
      → tops s.boxes k.around.outside ≡ outer l
      → step_of os vs (effects.run_item s Item.Break k.cells k.chosen k.around o) ≡ rules.run_break xs run l
  breaks [] e n c w u = absurd (n refl)
  breaks (p ∷ ps) e n c w u =
      rw (c, w, unwind_loop xs (open_at s) p ps e) (go (opens_a is_sweep (item_at xs p)))
    where
      go : (b : Bool)
          → step_of os vs (effects.saying (effects.leave_to s k.around.outside (past (close_of xs p)) b)
          (What.Leave (effects.loop_sort b)))
          ≡ said (cond b (states.leaves LoopSort.Sweep ∷ []) (states.leaves LoopSort.Loop ∷ []))
          (unskip b (goto run (past (close_of xs p)) ps))
      go true = rw u
      go false = rw u

  runs_at : (y : Item) → Reads vs (operands.operands_of y) k.cells → chosen_of k.chosen ≡ chosen_at xs run y
      → Surrounds xs s y k.around
      → astray xs run y ≡ false → too_deep run y ≡ false → Runs y
  runs_at (Item.Act a) r c w n t = rw (← r.first, ← r.second) (acted os vs s within a o)
  runs_at (Item.Pack p) r c w n t = rw (← r.first) (packed os vs s within p)
  runs_at (Item.Open (Head.If z)) r c w n t =
      chosen_is os vs s within l.deep l.wide k.chosen (room_if s.boxes s.depth t)
      ∙ ap (λ (y : rules.Chosen). rules.chosen run y) c
      ∙ if_chosen xs run z o
  runs_at (Item.Open (Head.Loop z)) r c w n t =
      rw (holds_two vs k.cells z r.first r.second)
      (loop_is os vs s within l.deep l.wide xs (states.holds vs z) k.around.close w.close
      (room_loop s.boxes s.depth s.at t))
  runs_at (Item.Open (Head.Sweep v)) r c w n t =
      sweep_is os vs s within l.deep l.wide xs v k.around.close o w.close
      (room_loop s.boxes s.depth s.at t)
  runs_at (Item.Branch b) r c w n t =
      let d = top_of (Item.Branch b) refl n in
      branches (Item.Branch b) d.0 d.1 w.close
  runs_at (Item.Close Close.EndIf) r c w n t =
      let d = top_of (Item.Close Close.EndIf) refl n in
      ends_if d.0 d.1
  runs_at (Item.Close Close.EndLoop) r c w n t =
      let d = top_of (Item.Close Close.EndLoop) refl n in
      ends_loop d.0 d.1 (w.sweep refl)
  runs_at Item.Break r c w n t =
      breaks (unwind xs (open_at s)) refl (λ e. false≢true (sym n ∙ ap rules.is_empty e)) w.close (w.sweep refl)
      (w.outside refl)
  runs_at Item.Tag r c w n t = rw (after_is s.at within)

  module _ (before : Spot) where
    served_is : (q : states.Meets) (e : Effect) (t : Step) → step_of os vs e ≡ t
        → step_of os vs (effects.served before s q e) ≡ served (live_state vs before) run q t
    served_is states.ready e t f = f
    served_is states.short e t f = refl
    served_is states.amiss e t f = refl

    unless_is : (c : Chosen) (z : rules.Chosen) → chosen_of c ≡ z → (q : states.Meets) (e : Effect) (t : Step)
        → step_of os vs e ≡ t
        → step_of os vs (effects.unless (effects.chosen_fault c) s (effects.served before s q e))
        ≡ or_fault (bad_of z) run
        (served (live_state vs before) run q t)
    unless_is (Chosen.Into i) z p q e t f = rw (← p) (served_is q e t f)
    unless_is (Chosen.Beyond i) z p q e t f = rw (← p) (served_is q e t f)
    unless_is (Chosen.Bad g) z p q e t f = rw (← p) (faults_by_is g run (served (live_state vs before) run q t))

    abbrev inner : Effect
    inner =
        effects.served before s (states.meets (states.wanted_by x) o)
        (effects.run_item s x k.cells k.chosen k.around o)

    item_is : step_of os vs (effects.at_item before s k o) ≡ rules.at_item xs (live_state vs before) run o
        (drop s.at xs)
    item_is = go (effects.fault_of s x k.cells k.around.stray) refl
      where
        go : (t : Maybe Fault) → effects.fault_of s x k.cells k.around.stray ≡ t
            → step_of os vs (effects.unless (effects.or_else t (effects.chosen_fault k.chosen)) s inner) ≡ rules.at_item
            xs (live_state vs before) run o (drop s.at xs)
        go (Some f) e =
            item_faults xs (live_state vs before) run o x q g.item f (sym fault_is ∙ ap trouble_of e)
        go None e =
            let h = sym fault_is ∙ ap trouble_of e in
            let c = unfaulted xs run x h in
            unless_is k.chosen (chosen_at xs run x) g.chosen (states.meets (states.wanted_by x) o)
            (effects.run_item s x k.cells k.chosen k.around o) (rules.run xs run x o)
            (runs_at x g.read g.chosen g.around c.0 c.1)
            ∙ item_runs xs (live_state vs before) run o x q g.item h

-- ---- the end of the items, and an abort

module _ (vs : Vars) (before s : Spot) where
  finish_is : (os : List Out) (o : Offer)
      → step_of os vs (effects.finish before s o) ≡ rules.finish (live_state vs before) (live_state vs s) o os
  finish_is os Offer.Nothing = refl
  finish_is os (Offer.Float x) = refl
  finish_is os (Offer.Point p) = refl
  finish_is os Offer.Done = refl

  end_is : (os : List Out) (o : Offer) (d : ℕ) → s.depth ≡ d → (d ≡ 0 → os ≡ [])
      → step_of os vs (effects.at_end before s o) ≡ rules.at_end (live_state vs before) (live_state vs s) o
  end_is os o zero e h =
      ap (λ (d : ℕ). step_of os vs (cond (eqb d 0)
      (cond s.packed (effects.fault_by s Fault.Package) (effects.finish before s o))
      (effects.fault_by s Fault.Box))) e
      ∙ go s.packed
      ∙ sym (ap (λ (d : ℕ). or_fault (lowest ((62, not (rules.is_empty (tops s.boxes d))) ∷ (64, s.packed) ∷ []))
      (live_state vs s) (rules.finish (live_state vs before) (live_state vs s) o [])) e)
    where
      go : (b : Bool) → step_of os vs (cond b (effects.fault_by s Fault.Package) (effects.finish before s o))
          ≡ or_fault (cond b 64 0) (live_state vs s) (rules.finish (live_state vs before) (live_state vs s) o [])
      go true = refl
      go false =
          finish_is os o ∙ ap (λ (z : List Out). rules.finish (live_state vs before) (live_state vs s) o z) (h refl)
  end_is os o (suc d) e h = rw (e, eqb-suc-zero d)

module _ (vs : Vars) (before s : Spot) (xs : List Item) (o : Offer) where
  to_tag : (i : ℕ) → i < 128 → (os : List Out)
      → step_of os vs (effects.leave_all before (effects.clear s (effects.after i)) Status.Live Answer.Running o)
      ≡ served (live_state vs before) (cleared (live_state vs s) i) (states.meets states.wants_nothing o)
      (said os (next (cleared (live_state vs s) i)))
  to_tag i h os = rw (after_is i h) (go o)
    where
      go : (o : Offer) → step_of os vs (effects.leave_all before (effects.clear s (suc i)) Status.Live Answer.Running o)
          ≡ served (live_state vs before) (cleared (live_state vs s) i) (states.meets states.wants_nothing o)
          (said os (next (cleared (live_state vs s) i)))
      go Offer.Nothing = refl
      go (Offer.Float x) = refl
      go (Offer.Point p) = refl
      go Offer.Done = refl

  abort_is : length xs ≤ 128 → (t n : ℕ) → n ≡ length xs → t ≡ or_last (length xs) (tag_from 0 xs)
      → step_of (leave_outs xs (open_at s)) vs (effects.abort before s t n o)
      ≡ rules.aborted xs (live_state vs before) (live_state vs s) o (ahead s.at (tag_from 0 xs))
  abort_is few t n e f = rw (e, f) (go (tag_from 0 xs) refl)
    where
      os : List Out
      os = leave_outs xs (open_at s)

      go : (p : Option ℕ) → tag_from 0 xs ≡ p
          → step_of os vs (effects.abort before s (or_last (length xs) p) (length xs) o)
          ≡ rules.aborted xs (live_state vs before) (live_state vs s) o (ahead s.at p)
      go none q = rw (le-ltb (length xs) (length xs) (omega arith)) (finish_is vs before (effects.clear s s.at) os o)
      go (some i) q = past_or_not (ltb i s.at) refl
        where
          below : i < length xs
          below = tag_below xs i q

          past_or_not : (b : Bool) → ltb i s.at ≡ b
              → step_of os vs (effects.abort before s i (length xs) o) ≡ rules.aborted xs (live_state vs before)
              (live_state vs s) o (cond b none (some i))
          past_or_not true w =
              rw (lt-ltb i (length xs) below, lt-leb s.at i (ltb-true i s.at w))
              (finish_is vs before (effects.clear s s.at) os o)
          past_or_not false w =
              rw (lt-ltb i (length xs) below, le-leb s.at i (ltb-false i s.at w))
              (to_tag i (omega (arith, below)) os)

-- ---- one step

module _ {xs : List Item} {vs : Vars} {s : Spot} {k : Looked} (before : Spot) (l : LooksUp xs vs s k) (o : Offer) where
  moved_is : step_of (leave_outs xs (open_at s)) vs (effects.moved before s k o) ≡ rules.moved xs (live_state vs before)
      (live_state vs s) o
  moved_is = rw (← l.sweeping) (due (effects.abort_due s k.around.sweeping))
    where
      os : List Out
      os = leave_outs xs (open_at s)

      inside_or_past : (b : Bool) → ltb s.at k.count ≡ b
          → step_of os vs (cond b (effects.at_item before s k o) (effects.at_end before s o)) ≡ rules.at_item xs
          (live_state vs before) (live_state vs s) o (drop s.at xs)
      inside_or_past true e =
          let q : s.at < length xs = rw l.count at (ltb-true s.at k.count e) in
          item_is os l (l.here q) q o before
      inside_or_past false e =
          let q : length xs ≤ s.at = rw l.count at (ltb-false s.at k.count e) in
          end_is vs before s os o s.depth refl (λ z. rw z)
          ∙ at_end_lem xs (live_state vs before) (live_state vs s) o q

      due : (b : Bool)
          → step_of os vs (cond b (effects.abort before s k.tag k.count o)
          (cond (ltb s.at k.count) (effects.at_item before s k o) (effects.at_end before s o)))
          ≡ cond b (rules.aborted xs (live_state vs before) (live_state vs s) o (ahead s.at (tag_from 0 xs)))
          (rules.at_item xs (live_state vs before) (live_state vs s) o (drop s.at xs))
      due true = abort_is vs before s xs o l.few k.tag k.count l.count l.tag
      due false = inside_or_past (ltb s.at k.count) refl

chosen_same : (xs : List Item) (m n : State) (x : Item) → m.vars ≡ n.vars → m.at ≡ n.at
    → chosen_at xs m x ≡ chosen_at xs n x
chosen_same xs m n (Item.Act a) e f = refl
chosen_same xs m n (Item.Pack p) e f = refl
chosen_same xs m n (Item.Open (Head.If c)) e f = rw (e, f)
chosen_same xs m n (Item.Open (Head.Loop c)) e f = refl
chosen_same xs m n (Item.Open (Head.Sweep w)) e f = refl
chosen_same xs m n (Item.Branch b) e f = refl
chosen_same xs m n (Item.Close c) e f = refl
chosen_same xs m n Item.Break e f = refl
chosen_same xs m n Item.Tag e f = refl

-- what is looked up holds with the flags that a control sets too
module _ {xs : List Item} {vs : Vars} {s : Spot} {k : Looked} (l : LooksUp xs vs s k) where
  abbrev flags : Bool → Bool → Spot
  flags p b =
      record {
        at = s.at;
        boxes = s.boxes;
        depth = s.depth;
        pending = p;
        skip = b;
        packed = s.packed;
      }

  with_flags : (p b : Bool) → LooksUp xs vs (flags p b) k
  with_flags p b = record {
    few = l.few;
    deep = l.deep;
    wide = l.wide;
    count = l.count;
    tag = l.tag;
    sweeping = l.sweeping;
    here = λ q.
        let h = l.here q in
        record {
          item = h.item;
          read = h.read;
          chosen = h.chosen ∙ chosen_same xs (live_state vs s) (live_state vs (flags p b)) k.item refl refl;
          around =
              record {
                stray = h.around.stray;
                close = h.around.close;
                sweep = h.around.sweep;
                outside = h.around.outside;
              };
        };
  }

  live_is : (c : Control) (o : Offer)
      → step_of (leave_outs xs (open_at s)) vs (effects.live' s k c o) ≡ rules.moved xs (live_state vs s)
      (told xs (live_state vs s) c) o
  live_is Control.None o = moved_is s l o
  live_is Control.Z o = moved_is s (with_flags true s.skip) o
  live_is Control.Y o =
      ap (λ (b : Bool). step_of (leave_outs xs (open_at s)) vs (effects.moved s (effects.with_skip s
      (s.skip || b)) k o))
      l.sweeping
      ∙ moved_is s (with_flags s.pending (s.skip || any_open is_sweep xs (open_at s))) o

module _ (xs : List Item) (vs : Vars) (s : Spot) (k : Looked) (c : Control) (o : Offer) where
  again_is : (t : Status) → LooksUp xs vs s k
      → step_of (leave_outs xs (open_at s)) vs (effects.again s t k c o) ≡ step_known true xs (state_with vs s t) c o
  again_is Status.Live l = live_is l c o
  again_is Status.Finished l = refl
  again_is (Status.Stopped q) l = refl
  again_is (Status.Fault f) l = refl

  -- what is looked up, made an effect and applied, is the step
  pub effect_is : (b : Bool) (t : Status) → (b ≡ true → LooksUp xs vs s k)
      → step_of (leave_outs xs (open_at s)) vs (effects.effect_of b s t k c o) ≡ step_known b xs (state_with vs s t) c o
  effect_is true t l = again_is t (l refl)
  effect_is false t l = refl
