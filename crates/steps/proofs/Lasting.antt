-- On every table in shape, a step from a state in shape leaves a state in shape: 30 never comes of the machine's own
-- doing.
use Rattle.std.proofs.Common.{Some, Result, Ok, Err}
use Rattle.value.specs.declared.Stop.{Stop}
use Prim.Native.Nat.{ℕ, zero, suc, ◌≤◌, ◌<◌, zero-le}
use mathlib.Core.Path.{◌≡◌, refl, sym, ◌∙◌}
use mathlib.Core.Bool.{Bool, true, false, not, ◌&&◌, ◌||◌, cond}
use mathlib.Core.List.{List, [], ◌∷◌}
use mathlib.Core.Option.{Option, none, some}
use native.Mathlib.Omega.{arith}
use lib.Ieee.{Float}
use lib.Dec.{ltb, leb}
use lib.ListN.{length, get_or, set, drop, length-drop, drop_of_length-le}
use lib.Seq.{drop-cons}
use borrow.Author.Tests.{ltb-true, ltb-false, lt-ltb}
use Rattle.value.specs.declared.Value.{Value}
use Rattle.value.specs.Arithmetic.{finite, calculated, checked}
use Rattle.table.specs.declared.Act.{Act}
use Rattle.table.specs.declared.Close.{Close}
use Rattle.table.specs.declared.Head.{Head}
use Rattle.table.specs.declared.Item.{Item}
use Rattle.table.specs.declared.Operand.TheVariants as Operand
use Rattle.table.specs.declared.Pack.{Pack}
use Rattle.table.specs.declared.Table.{Table}
use Rattle.table.specs.declared.Sweep.{Sweep}
use Rattle.table.specs.Item.{is_open, is_loop, is_sweep, opens_a, sort_of}
use Rattle.table.specs.ReadWrite.{lowest}
use Rattle.table.specs.Shape.{in_shape, items_of, items_ok, item_ok}
use Rattle.mates.specs.Mates.{boxes_at, close_of, item_at, past}
use Rattle.state.specs.declared.Control.{Control}
use Rattle.state.specs.declared.LoopSort.{LoopSort}
use Rattle.state.specs.declared.Offer.{Offer}
use Rattle.state.specs.State.{measures, Vars, cell_at, cell_type, value_of, holds, write, da, ba, eb, State, Status}
use Rattle.state.specs.State.{live}
use Rattle.state.specs.State.{finished_run, stopped_run, fault_run, Out, Step, Meets, ready, short, amiss, goto, keep}
use Rattle.state.specs.State.{unskip, end_with, reading, code0010, wants_nothing, wanted_by, meets, cleared, cells_ok}
use Rattle.state.specs.State as runs
use Rattle.steps.specs.Machine.{Chosen, into, beyond, bad, otherwise, next, unwind, outside, leave_outs, is_none}
use Rattle.steps.specs.Machine.{is_empty, faults, kept, run_act, run_pack, chosen, enter, leave, run_point, run_sweep}
use Rattle.steps.specs.Machine.{run_head, run_branch, run_close, run_break, run, served, or_fault, finish, tries}
use Rattle.steps.specs.Machine.{at_item, told, tag_from, ahead, abort_due, aborted, moved, again, opens_ok, state_ok}
use Rattle.steps.specs.Machine.{step}
use Rattle.steps.specs.Code.{ninth, box_ok}
use Rattle.steps.proofs.Shapes.{and_l, and_r, Shaped, shaped_ok, ok_shaped}
use Rattle.steps.proofs.Placed.{fault_open}
use Rattle.steps.proofs.Stepping.{tag_below, ahead_is, unfaulted, no_ninth}
use Rattle.steps.proofs.Bounded.{and_t, past_within, Within, within_choose, cells-set, cell_at_lem, Fine}
use Rattle.steps.proofs.Bounded.{checked_fine, calculated_fine, opens_outside, few_out, few_outside, few_if}
use Rattle.steps.proofs.Bounded.{opens_unwind}

-- ---- one item

module _ (xs : List Item) where
  goto_lasts : (m : State) (i : ℕ) (ps : List ℕ) → Shaped xs m → i ≤ length xs → length ps ≤ 8 → opens_ok xs ps ≡ true
      → Shaped xs (goto m i ps)
  goto_lasts m i ps s h k e = record { at = h; few = k; boxes = e; cells = s.cells }

  next_lasts : (m : State) → Shaped xs m → m.at < length xs → Shaped xs (next m)
  next_lasts m s h = goto_lasts m (suc m.at) m.boxes s h s.few s.boxes

  keep_lasts : (m : State) (vs : Vars) → Shaped xs m → cells_ok vs ≡ true → Shaped xs (keep m vs)
  keep_lasts m vs s e = record { at = s.at; few = s.few; boxes = s.boxes; cells = e }

  unskip_lasts : (b : Bool) (m : State) → Shaped xs m → Shaped xs (unskip b m)
  unskip_lasts b m s = record { at = s.at; few = s.few; boxes = s.boxes; cells = s.cells }

  end_lasts : (m : State) (t : Status) → Shaped xs m → Shaped xs (end_with m t)
  end_lasts m t s = record { at = s.at; few = s.few; boxes = s.boxes; cells = s.cells }

  kept_lasts : (m : State) (n t : ℕ) (c : Result Value Stop) → Shaped xs m → m.at < length xs → Fine c
      → Shaped xs (kept m n t c).next
  kept_lasts m n t (Ok v) s h f =
      next_lasts (keep m (write m.vars n v t))
      (keep_lasts m (write m.vars n v t) s (cells-set m.vars n (Some (v, t)) s.cells f)) h
  kept_lasts m n t (Err Stop.ByZero) s h f = end_lasts m (stopped_run runs.code0028) s
  kept_lasts m n t (Err Stop.NotFinite) s h f = end_lasts m (stopped_run code0010) s

  module _ (names size : ℕ) where
    stored_fine : (v : ℕ) (l : Value) (t : ℕ) → item_ok names size (Item.Act (Act.Store v l t)) ≡ true → finite l ≡ true
    stored_fine v l t e = and_r (ltb v names) (finite l) e

    act_lasts : (m : State) (a : Act) (o : Offer) → Shaped xs m → m.at < length xs
        → item_ok names size (Item.Act a) ≡ true
        → Shaped xs (run_act m a o).next
    act_lasts m (Act.Var v) o s h e = next_lasts m s h
    act_lasts m (Act.Store v l t) o s h e =
        next_lasts (keep m (write m.vars v l t))
        (keep_lasts m (write m.vars v l t) s
        (cells-set m.vars v (Some (l, t)) s.cells (stored_fine v l t e))) h
    act_lasts m (Act.Copy a b) o s h e =
        next_lasts (keep m (set m.vars b (cell_at m.vars a)))
        (keep_lasts m (set m.vars b (cell_at m.vars a)) s
        (cells-set m.vars b (cell_at m.vars a) s.cells (cell_at_lem m.vars a s.cells))) h
    act_lasts m (Act.Calc f v x) o s h e =
        kept_lasts m v (cell_type (cell_at m.vars v))
        (calculated f (value_of m.vars (Operand.Name v)) (value_of m.vars x)) s h
        (calculated_fine f (value_of m.vars (Operand.Name v)) (value_of m.vars x))
    act_lasts m (Act.Meas f v t) o s h e = kept_lasts m v t (checked (reading o)) s h (checked_fine (reading o))
    act_lasts m (Act.TimerGet v) o s h e = kept_lasts m v eb (checked (reading o)) s h (checked_fine (reading o))
    act_lasts m (Act.SendString t) o s h e = next_lasts m s h
    act_lasts m (Act.Wait f) o s h e = next_lasts m s h
    act_lasts m (Act.SetE f) o s h e = next_lasts m s h
    act_lasts m (Act.SetMode n) o s h e = next_lasts m s h
    act_lasts m Act.TimerStart o s h e = next_lasts m s h
    act_lasts m Act.CellOn o s h e = next_lasts m s h
    act_lasts m Act.CellOff o s h e = next_lasts m s h
    act_lasts m Act.Abort o s h e = record { at = h; few = s.few; boxes = s.boxes; cells = s.cells }

  pack_lasts : (m : State) (p : Pack) → Shaped xs m → m.at < length xs → Shaped xs (run_pack m p).next
  pack_lasts m Pack.Start s h = record { at = h; few = s.few; boxes = s.boxes; cells = s.cells }
  pack_lasts m (Pack.Add v) s h = next_lasts m s h
  pack_lasts m Pack.End s h = record { at = h; few = s.few; boxes = s.boxes; cells = s.cells }

  enter_lasts : (t : LoopSort) (m : State) → Shaped xs m → m.at < length xs → box_ok xs m.at ≡ true
      → ninth m true ≡ false → Shaped xs (enter t m).next
  enter_lasts t m s h b e =
      goto_lasts m (suc m.at) (m.at ∷ outside m.at m.boxes) s h (few_outside m e s.few)
      (and_t b
      (opens_outside xs m.at m.boxes s.boxes))

  leave_lasts : (t : LoopSort) (m : State) → Shaped xs m → Shaped xs (leave xs t m).next
  leave_lasts t m s =
      unskip_lasts (measures t) (goto m (past (close_of xs m.at)) (outside m.at m.boxes))
      (goto_lasts m (past (close_of xs m.at)) (outside m.at m.boxes) s (past_within xs m.at)
      (omega (arith, few_out m.at m.boxes, s.few)) (opens_outside xs m.at m.boxes s.boxes))

  cond_lasts : (b : Bool) (s t : Step) → (b ≡ true → Shaped xs s.next) → (b ≡ false → Shaped xs t.next)
      → Shaped xs (cond b s t).next
  cond_lasts true s t p q = p refl
  cond_lasts false s t p q = q refl

  chosen_lasts : (m : State) (c : Chosen) → Shaped xs m → length m.boxes < 8 → box_ok xs m.at ≡ true
      → Within c (length xs) → Shaped xs (chosen m c).next
  chosen_lasts m (into i) s f b w =
      goto_lasts m i (m.at ∷ m.boxes) s w f (and_t b s.boxes)
  chosen_lasts m (beyond i) s f b w = goto_lasts m i m.boxes s w s.few s.boxes
  chosen_lasts m (bad n) s f b w = end_lasts m (fault_run n) s

  point_lasts : (m : State) (w : Sweep) (x y : Float) → Shaped xs m → m.at < length xs → box_ok xs m.at ≡ true
      → ninth m true ≡ false → Shaped xs (run_point m w x y).next
  point_lasts m w x y s h b e =
      cond_lasts (finite (Value.Real x) && finite (Value.Real y)) _ _
      (λ q.
      let us = write m.vars w.potential (Value.Real x) da in
      let first = cells-set m.vars w.potential (Some (Value.Real x, da)) s.cells
      (and_l (finite (Value.Real x)) (finite (Value.Real y)) q) in
      let second = cells-set us w.current (Some (Value.Real y, ba)) first
      (and_r (finite (Value.Real x)) (finite (Value.Real y)) q) in
      let vs = write us w.current (Value.Real y) ba in
      enter_lasts LoopSort.Sweep (keep m vs) (keep_lasts m vs s second) h b e)
      (λ q. end_lasts m (stopped_run code0010) s)

  sweep_lasts : (m : State) (w : Sweep) (o : Offer) → Shaped xs m → m.at < length xs → box_ok xs m.at ≡ true
      → ninth m true ≡ false → Shaped xs (run_sweep xs m w o).next
  sweep_lasts m w (Offer.Point p) s h b e = point_lasts m w p.potential p.current s h b e
  sweep_lasts m w Offer.Done s h b e = leave_lasts LoopSort.Sweep m s
  sweep_lasts m w Offer.Nothing s h b e = leave_lasts LoopSort.Sweep m s
  sweep_lasts m w (Offer.Float x) s h b e = leave_lasts LoopSort.Sweep m s

  head_lasts : (m : State) (d : Head) (o : Offer) → Shaped xs m → m.at < length xs → box_ok xs m.at ≡ true
      → ninth m (is_loop (sort_of d)) ≡ false → Shaped xs (run_head xs m d o).next
  head_lasts m (Head.If c) o s h b e =
      cond_lasts (holds m.vars c) _ _
      (λ q. chosen_lasts m (into (suc m.at)) s (few_if m e) b h)
      (λ q. chosen_lasts m (otherwise xs m) s (few_if m e) b
      (within_choose m.vars m.at m.at (boxes_at xs m.at) (drop m.at xs) (length xs)
      (omega (arith, length-drop m.at xs))))
  head_lasts m (Head.Loop c) o s h b e =
      cond_lasts (holds m.vars c) _ _ (λ q. enter_lasts LoopSort.Loop m s h b e) (λ q. leave_lasts LoopSort.Loop m s)
  head_lasts m (Head.Sweep w) o s h b e = sweep_lasts m w o s h b e

  -- leaving the innermost of the boxes ps
  inner_lasts : (m : State) (p : ℕ) (ps : List ℕ) (i : ℕ) → Shaped xs m → opens_ok xs (p ∷ ps) ≡ true
      → length (p ∷ ps) ≤ 8 → i ≤ length xs → Shaped xs (goto m i ps)
  inner_lasts m p ps i s e f h = goto_lasts m i ps s h (omega arith) (and_r (box_ok xs p) (opens_ok xs ps) e)

  branch_lasts : (m : State) (ps : List ℕ) → Shaped xs m → opens_ok xs ps ≡ true → length ps ≤ 8
      → Shaped xs (run_branch xs m ps).next
  branch_lasts m [] s e f = end_lasts m (fault_run 62) s
  branch_lasts m (p ∷ ps) s e f = inner_lasts m p ps (past (close_of xs p)) s e f (past_within xs p)

  box_below : (p : ℕ) → box_ok xs p ≡ true → p ≤ length xs
  box_below p e =
      let a =
      and_l (ltb p (length xs)) (is_open (item_at xs p))
      (and_l (ltb p (length xs) && is_open (item_at xs p)) (not (is_none (close_of xs p))) e) in
      omega (arith, ltb-true p (length xs) a)

  close_lasts : (m : State) (c : Close) (ps : List ℕ) → Shaped xs m → m.at < length xs → opens_ok xs ps ≡ true
      → length ps ≤ 8 → Shaped xs (run_close xs m c ps).next
  close_lasts m c [] s h e f = end_lasts m (fault_run 62) s
  close_lasts m Close.EndIf (p ∷ ps) s h e f = inner_lasts m p ps (suc m.at) s e f h
  close_lasts m Close.EndLoop (p ∷ ps) s h e f =
      cond_lasts (opens_a is_sweep (item_at xs p) && (m.pending || m.skip)) _ _
      (λ q. unskip_lasts true (goto m (suc m.at) ps) (inner_lasts m p ps (suc m.at) s e f h))
      (λ q. goto_lasts m p (p ∷ ps) s (box_below p (and_l (box_ok xs p) (opens_ok xs ps) e)) f e)

  break_lasts : (m : State) (ps : List ℕ) → Shaped xs m → opens_ok xs ps ≡ true → length ps ≤ 8
      → Shaped xs (run_break xs m ps).next
  break_lasts m [] s e f = end_lasts m (fault_run 62) s
  break_lasts m (p ∷ ps) s e f =
      unskip_lasts (opens_a is_sweep (item_at xs p)) (goto m (past (close_of xs p)) ps)
      (inner_lasts m p ps (past (close_of xs p)) s e f (past_within xs p))

  -- ---- one step

  opening_ok : (m : State) (d : Head) → m.at < length xs → item_at xs m.at ≡ Item.Open d
      → lowest (faults xs m (Item.Open d)) ≡ 0 → box_ok xs m.at ≡ true
  opening_ok m d h q e =
      let g : is_none (close_of xs m.at) ≡ false =
      sym (fault_open xs m (Item.Open d) refl) ∙ (unfaulted xs m (Item.Open d) e).0 in
      rw (lt-ltb m.at (length xs) h, q, g)

  run_lasts : (names size : ℕ) (m : State) (x : Item) (o : Offer) → Shaped xs m → m.at < length xs
      → item_at xs m.at ≡ x → lowest (faults xs m x) ≡ 0 → item_ok names size x ≡ true
      → Shaped xs (run xs m x o).next
  run_lasts names size m (Item.Act a) o s h q e k = act_lasts names size m a o s h k
  run_lasts names size m (Item.Pack p) o s h q e k = pack_lasts m p s h
  run_lasts names size m (Item.Open d) o s h q e k =
      head_lasts m d o s h (opening_ok m d h q e) (no_ninth xs m (Item.Open d) e)
  run_lasts names size m (Item.Branch b) o s h q e k = branch_lasts m m.boxes s s.boxes s.few
  run_lasts names size m (Item.Close c) o s h q e k = close_lasts m c m.boxes s h s.boxes s.few
  run_lasts names size m Item.Break o s h q e k =
      let u = opens_unwind xs m.boxes s.boxes in
      break_lasts m (unwind xs m.boxes) s u.0 (omega (arith, u.1, s.few))
  run_lasts names size m Item.Tag o s h q e k = next_lasts m s h

  served_lasts : (m₀ m : State) (q : Meets) (t : Step) → Shaped xs m₀ → Shaped xs m → Shaped xs t.next
      → Shaped xs (served m₀ m q t).next
  served_lasts m₀ m ready t a b c = c
  served_lasts m₀ m short t a b c = b
  served_lasts m₀ m amiss t a b c = a

  fault_lasts : (n : ℕ) (m : State) (t : Step) → Shaped xs m → (n ≡ 0 → Shaped xs t.next)
      → Shaped xs (or_fault n m t).next
  fault_lasts zero m t s f = f refl
  fault_lasts (suc n) m t s f = end_lasts m (fault_run (suc n)) s

  finish_lasts : (m₀ m : State) (o : Offer) (os : List Out) → Shaped xs m₀ → Shaped xs m
      → Shaped xs (finish m₀ m o os).next
  finish_lasts m₀ m o os a b =
      served_lasts m₀ m (meets wants_nothing o)
      (record { answer = runs.finished; outs = os; next = end_with m finished_run }) a b (end_lasts m finished_run b)

  items_at : (names size : ℕ) (ys : List Item) (i : ℕ) → items_ok names size ys ≡ true → i < length ys
      → item_ok names size (get_or ys i Item.Tag) ≡ true
  items_at names size [] i e h = absurd (omega arith)
  items_at names size (y ∷ ys) zero e h = and_l (item_ok names size y) (items_ok names size ys) e
  items_at names size (y ∷ ys) (suc i) e h =
      items_at names size ys i (and_r (item_ok names size y) (items_ok names size ys) e) (omega arith)

  item_lasts : (names size : ℕ) (m₀ m : State) (o : Offer) → items_ok names size xs ≡ true → Shaped xs m₀ → Shaped xs m
      → Shaped xs (at_item xs m₀ m o (drop m.at xs)).next
  item_lasts names size m₀ m o k a b = go (ltb m.at (length xs)) refl
    where
      go : (t : Bool) → ltb m.at (length xs) ≡ t → Shaped xs (at_item xs m₀ m o (drop m.at xs)).next
      go true q =
          let h = ltb-true m.at (length xs) q in
          let x = item_at xs m.at in
          rw (drop-cons xs m.at Item.Tag h)
          (fault_lasts (lowest (faults xs m x)) m
          (or_fault (tries xs m x) m (served m₀ m (meets (wanted_by x) o) (run xs m x o))) b
          (λ z. fault_lasts (tries xs m x) m (served m₀ m (meets (wanted_by x) o) (run xs m x o)) b
          (λ y. served_lasts m₀ m (meets (wanted_by x) o) (run xs m x o) a b
          (run_lasts names size m x o b h refl z (items_at names size xs m.at k h)))))
      go false q =
          rw (drop_of_length-le xs {i = m.at} (ltb-false m.at (length xs) q))
          (fault_lasts (lowest ((62, not (is_empty m.boxes)) ∷ (64, m.packed) ∷ [])) m (finish m₀ m o []) b
          (λ z. finish_lasts m₀ m o [] a b))

  cleared_lasts : (m : State) (i : ℕ) → Shaped xs m → i ≤ length xs → Shaped xs (cleared m i)
  cleared_lasts m i s h = record { at = h; few = zero-le; boxes = refl; cells = s.cells }

  aborted_lasts : (m₀ m : State) (o : Offer) (p : Option ℕ) → ahead m.at (tag_from 0 xs) ≡ p → Shaped xs m₀
      → Shaped xs m → Shaped xs (aborted xs m₀ m o p).next
  aborted_lasts m₀ m o none e a b =
      finish_lasts m₀ (cleared m m.at) o (leave_outs xs m.boxes) a (cleared_lasts m m.at b b.at)
  aborted_lasts m₀ m o (some i) e a b =
      let h = tag_below xs i (ahead_is m.at (tag_from 0 xs) i e) in
      let c = cleared_lasts m i b (omega (arith, h)) in
      served_lasts m₀ (cleared m i) (meets wants_nothing o) _ a c (next_lasts (cleared m i) c h)

  told_lasts : (m : State) (c : Control) → Shaped xs m → Shaped xs (told xs m c)
  told_lasts m Control.None s = s
  told_lasts m Control.Z s = record { at = s.at; few = s.few; boxes = s.boxes; cells = s.cells }
  told_lasts m Control.Y s = record { at = s.at; few = s.few; boxes = s.boxes; cells = s.cells }

  moved_lasts : (names size : ℕ) (m₀ m : State) (o : Offer) → items_ok names size xs ≡ true → Shaped xs m₀ → Shaped xs m
      → Shaped xs (moved xs m₀ m o).next
  moved_lasts names size m₀ m o k a b =
      cond_lasts (abort_due xs m) _ _ (λ q. aborted_lasts m₀ m o (ahead m.at (tag_from 0 xs)) refl a b)
      (λ q. item_lasts names size m₀ m o k a b)

  again_lasts : (t : Status) (m : State) (s : Step) → Shaped xs m → Shaped xs s.next → Shaped xs (again t m s).next
  again_lasts live m s a b = b
  again_lasts finished_run m s a b = a
  again_lasts (stopped_run c) m s a b = a
  again_lasts (fault_run n) m s a b = a

module _ (size : ℕ) (s : Table) (m : State) (c : Control) (o : Offer) (t : in_shape size s ≡ true)
    (e : state_ok (items_of s) m ≡ true) where
  pub keeps_shape : state_ok (items_of s) (step size s m c o).next ≡ true
  unfolding step in_shape
  keeps_shape =
      let a = ok_shaped (items_of s) m e in
      let k = and_r (leb s.count 128 && leb s.names 32) (items_ok s.names size (items_of s)) t in
      rw (t, e)
      (shaped_ok (items_of s) _ (again_lasts (items_of s) m.status m _ a
      (moved_lasts (items_of s) s.names size m (told (items_of s) m c) o k a (told_lasts (items_of s) m c a))))

  -- an ended run repeats its answer to any control and offer, handing out nothing
  pub ended_finished : m.status ≡ finished_run
      → step size s m c o ≡ record { answer = runs.finished; outs = []; next = m }
  unfolding step
  ended_finished q = rw (t, e, q)

  pub ended_stopped : (n : ℕ) → m.status ≡ stopped_run n
      → step size s m c o ≡ record { answer = runs.stopped n; outs = []; next = m }
  unfolding step
  ended_stopped n q = rw (t, e, q)

  pub ended_fault : (n : ℕ) → m.status ≡ fault_run n
      → step size s m c o ≡ record { answer = runs.fault n; outs = []; next = m }
  unfolding step
  ended_fault n q = rw (t, e, q)
