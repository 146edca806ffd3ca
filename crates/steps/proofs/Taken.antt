-- A step that takes an item neither waits nor is refused, and it hands out at most 8 things.
use Rattle.std.proofs.Common.{Result, Ok, Err}
use Rattle.value.specs.declared.Stop.{Stop}
use Prim.Native.Nat.{ℕ, suc, ◌≤◌, zero-le}
use mathlib.Core.Path.{◌≡◌, refl}
use mathlib.Core.Bool.{Bool, true, false, ◌&&◌, ◌||◌, cond}
use mathlib.Core.List.{List, [], ◌∷◌, ◌++◌}
use lib.ListN.{length}
use native.Mathlib.Omega.{arith}
use Rattle.value.specs.declared.Value.{Value}
use Rattle.value.specs.Arithmetic.{finite, calculated, checked}
use Rattle.table.specs.declared.Act.{Act}
use Rattle.table.specs.declared.Close.{Close}
use Rattle.table.specs.declared.Head.{Head}
use Rattle.table.specs.declared.Item.{Item}
use Rattle.table.specs.declared.Operand.TheVariants as Operand
use Rattle.table.specs.declared.Pack.{Pack}
use Rattle.table.specs.declared.Sweep.{Sweep}
use Rattle.table.specs.Item.{is_sweep, opens_a, is_loop}
use Rattle.mates.specs.Mates.{item_at}
use Rattle.state.specs.declared.LoopSort.{LoopSort}
use Rattle.state.specs.declared.Offer.{Offer}
use Rattle.state.specs.State.{keep, write, da, ba, State, Out, Step, cell_at, cell_type, value_of, eb, reading, holds}
use Rattle.state.specs.State.{is_held, enters, leaves}
use Rattle.steps.specs.Machine.{Chosen, into, beyond, bad, kept, run_act, run_pack, otherwise, chosen, run_sweep}
use Rattle.steps.specs.Machine.{run_head, run_branch, run_close, run_break, unwind, run, leave_outs, inside, enter}
use Rattle.steps.specs.Machine.{leave}

pub record Taken (s : Step) : Type 0 where
  pub plain : is_held s.answer ≡ false
  pub few : length s.outs ≤ 8

silent : {s : Step} → is_held s.answer ≡ false → s.outs ≡ [] → Taken s
silent p e = record { plain = p; few = rw e zero-le }

single : {s : Step} (x : Out) → is_held s.answer ≡ false → s.outs ≡ x ∷ [] → Taken s
single x p e = record { plain = p; few = rw e (omega arith) }

either : (b : Bool) (s t : Step) → Taken s → Taken t → Taken (cond b s t)
either true s t p q = p
either false s t p q = q

pub few_leaves : (xs : List Item) (ps : List ℕ) → length (leave_outs xs ps) ≤ length ps
few_leaves xs [] = zero-le
few_leaves xs (p ∷ ps) = go (opens_a is_sweep (item_at xs p)) (opens_a is_loop (item_at xs p)) (few_leaves xs ps)
  where
    go : (a b : Bool) → length (leave_outs xs ps) ≤ length ps
        → length (cond a (leaves LoopSort.Sweep ∷ leave_outs xs ps)
        (cond b (leaves LoopSort.Loop ∷ leave_outs xs ps) (leave_outs xs ps)))
        ≤ suc (length ps)
    go true b h = omega arith
    go false true h = omega arith
    go false false h = omega arith

-- ---- each item

kept_taken : (m : State) (n t : ℕ) (c : Result Value Stop) → Taken (kept m n t c)
kept_taken m n t (Ok v) = silent refl refl
kept_taken m n t (Err Stop.ByZero) = silent refl refl
kept_taken m n t (Err Stop.NotFinite) = silent refl refl

act_taken : (m : State) (a : Act) (o : Offer) → Taken (run_act m a o)
act_taken m (Act.Var v) o = silent refl refl
act_taken m (Act.Store v l t) o = silent refl refl
act_taken m (Act.Copy a b) o = silent refl refl
act_taken m (Act.Calc f v x) o =
    kept_taken m v (cell_type (cell_at m.vars v))
    (calculated f (value_of m.vars (Operand.Name v)) (value_of m.vars x))
act_taken m (Act.Meas f v t) o = kept_taken m v t (checked (reading o))
act_taken m (Act.TimerGet v) o = kept_taken m v eb (checked (reading o))
act_taken m (Act.SendString t) o = single _ refl refl
act_taken m (Act.Wait f) o = single _ refl refl
act_taken m (Act.SetE f) o = single _ refl refl
act_taken m (Act.SetMode n) o = single _ refl refl
act_taken m Act.TimerStart o = silent refl refl
act_taken m Act.CellOn o = single _ refl refl
act_taken m Act.CellOff o = single _ refl refl
act_taken m Act.Abort o = silent refl refl

pack_taken : (m : State) (p : Pack) → Taken (run_pack m p)
pack_taken m Pack.Start = single _ refl refl
pack_taken m (Pack.Add v) = single _ refl refl
pack_taken m Pack.End = single _ refl refl

enter_taken : (s : LoopSort) (m : State) → Taken (enter s m)
enter_taken s m = record { plain = refl; few = go (inside m.at m.boxes) }
  where
    go : (b : Bool) → length (cond b [] (enters s ∷ [])) ≤ 8
    go true = zero-le
    go false = omega arith

leave_taken : (xs : List Item) (s : LoopSort) (m : State) → Taken (leave xs s m)
leave_taken xs s m = record { plain = refl; few = go (inside m.at m.boxes) }
  where
    go : (b : Bool) → length (cond b [] (enters s ∷ []) ++ (leaves s ∷ [])) ≤ 8
    go true = omega arith
    go false = omega arith

chosen_taken : (m : State) (c : Chosen) → Taken (chosen m c)
chosen_taken m (into i) = silent refl refl
chosen_taken m (beyond i) = silent refl refl
chosen_taken m (bad n) = silent refl refl

sweep_taken : (xs : List Item) (m : State) (w : Sweep) (o : Offer) → Taken (run_sweep xs m w o)
sweep_taken xs m w (Offer.Point p) =
    either (finite (Value.Real p.potential) && finite (Value.Real p.current)) _ _
    (enter_taken LoopSort.Sweep
    (keep m (write (write m.vars w.potential (Value.Real p.potential) da) w.current
    (Value.Real p.current) ba))) (silent refl refl)
sweep_taken xs m w Offer.Done = leave_taken xs LoopSort.Sweep m
sweep_taken xs m w Offer.Nothing = leave_taken xs LoopSort.Sweep m
sweep_taken xs m w (Offer.Float x) = leave_taken xs LoopSort.Sweep m

head_taken : (xs : List Item) (m : State) (h : Head) (o : Offer) → Taken (run_head xs m h o)
head_taken xs m (Head.If c) o = either (holds m.vars c) _ _ (silent refl refl) (chosen_taken m (otherwise xs m))
head_taken xs m (Head.Loop c) o =
    either (holds m.vars c) _ _ (enter_taken LoopSort.Loop m) (leave_taken xs LoopSort.Loop m)
head_taken xs m (Head.Sweep w) o = sweep_taken xs m w o

branch_taken : (xs : List Item) (m : State) (ps : List ℕ) → Taken (run_branch xs m ps)
branch_taken xs m [] = silent refl refl
branch_taken xs m (p ∷ ps) = silent refl refl

close_taken : (xs : List Item) (m : State) (e : Close) (ps : List ℕ) → Taken (run_close xs m e ps)
close_taken xs m e [] = silent refl refl
close_taken xs m Close.EndIf (p ∷ ps) = silent refl refl
close_taken xs m Close.EndLoop (p ∷ ps) =
    either (opens_a is_sweep (item_at xs p) && (m.pending || m.skip)) _ _ (single _ refl refl) (silent refl refl)

break_taken : (xs : List Item) (m : State) (ps : List ℕ) → Taken (run_break xs m ps)
break_taken xs m [] = silent refl refl
break_taken xs m (p ∷ ps) = record { plain = refl; few = omega (arith, few_leaves xs (p ∷ [])) }

pub run_taken : (xs : List Item) (m : State) (x : Item) (o : Offer) → Taken (run xs m x o)
run_taken xs m (Item.Act a) o = act_taken m a o
run_taken xs m (Item.Pack p) o = pack_taken m p
run_taken xs m (Item.Open h) o = head_taken xs m h o
run_taken xs m (Item.Branch b) o = branch_taken xs m m.boxes
run_taken xs m (Item.Close e) o = close_taken xs m e m.boxes
run_taken xs m Item.Break o = break_taken xs m (unwind xs m.boxes)
run_taken xs m Item.Tag o = silent refl refl
