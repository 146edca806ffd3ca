-- The machine (01): one step takes a control and an offer. In the order within a step:
--
--   step      30, where table or state is out of shape (`in_shape`, `state_ok`)
--   again     a run that has ended repeats its answer
--   told      the control
--   moved     an abort that is due (`abort_due`) takes effect: `aborted`, to the tag or to the end; otherwise
--   at_item    the item at which the run stands, or the end of the items (`at_end`):
--     faults    60 to 64, the lowest; and `tries`, those of the mates that a false condition tries
--     served    the offer: what is wanted, a wait, or 31 (`wanted_by` and `meets` of specs/State.antt)
--     run       the item itself, each by its own clause; 0028 and 0010 (`kept`, `run_point`)
--
-- They stand here the other way round, since a definition cites only what stands before it: the open boxes, faults, one
-- item, one step, the state's shape, and `step` last. The names, the run, what a step answers and hands out, what an
-- item wants and what an offer meets stand in specs/State.antt of the crate `state`.
use Rattle.std.specs.Prelude.{Result, Ok, Err}
use Rattle.value.specs.declared.Stop.{Stop}
use Rattle.std.specs.Prelude.{ℕ, zero, suc, Bool, true, false, not, ◌&&◌, ◌||◌, cond, List, [], ◌∷◌, ◌++◌, eqb, ltb}
use Rattle.std.specs.Prelude.{leb, length, set, drop, Float}
use Rattle.std.proofs.Math.Option.{Option, none, some}
use Rattle.value.specs.declared.Value.{Value}
use Rattle.value.specs.Arithmetic.{finite, calculated, checked}
use Rattle.table.specs.declared.Act.{Act}
use Rattle.table.specs.declared.Branch.TheVariants as Branch
use Rattle.table.specs.declared.Close.{Close}
use Rattle.table.specs.declared.Head.{Head}
use Rattle.table.specs.declared.Item.{Item}
use Rattle.table.specs.declared.Operand.TheVariants as Operand
use Rattle.table.specs.declared.Pack.{Pack}
use Rattle.table.specs.declared.Table.{Table}
use Rattle.table.specs.declared.Sort.{Sort}
use Rattle.table.specs.declared.Sweep.{Sweep}
use Rattle.table.specs.declared.Read.{Read}
use Rattle.table.specs.Item.{is_open, is_branch, is_close, is_break, is_tag, is_loop, is_sweep, opens_a}
use Rattle.table.specs.ReadWrite.{reads_of, condition_reads, wrong, missing, breaks_order, lowest}
use Rattle.table.specs.Shape.{items_of, in_shape}
use Rattle.mates.specs.declared.Open.{Open}
use Rattle.mates.specs.Mates.{scan, boxes_at, belongs, close_of, item_at, past}
use Rattle.state.specs.declared.Control.{Control}
use Rattle.state.specs.declared.LoopSort.{LoopSort}
use Rattle.state.specs.declared.Offer.{Offer}
use Rattle.state.specs.State.{measures, Vars, cell_at, cell_type, cell_value, written, kind_now, value_of, holds, write}
use Rattle.state.specs.State.{da}
use Rattle.state.specs.State.{ba, eb, cells_ok, Status, live, finished_run, stopped_run, fault_run, code0028, code0010}
use Rattle.state.specs.State.{State, goto, keep, unskip, end_with, packing, pend, told_in, cleared, Out, enters, leaves}
use Rattle.state.specs.State.{pack_start, pack_end, pack_part, says, waits, sets_e, sets_mode, switches_cell, waiting}
use Rattle.state.specs.State.{finished, stopped, fault, refuse, Step, said, faults_by, stops_by, Meets, ready, short}
use Rattle.state.specs.State.{amiss, wants_nothing, wanted_by, meets, reading}

-- ---- the open boxes

abbrev pub is_empty : List ℕ → Bool
is_empty [] = true
is_empty (p ∷ ps) = false

abbrev pub any_open : (Sort → Bool) → List Item → List ℕ → Bool
any_open f xs [] = false
any_open f xs (p ∷ ps) = opens_a f (item_at xs p) || any_open f xs ps

-- from the innermost open loop outwards
abbrev pub unwind : List Item → List ℕ → List ℕ
unwind xs [] = []
unwind xs (p ∷ ps) = let r = unwind xs ps in cond (opens_a is_loop (item_at xs p)) (p ∷ ps) r

-- the boxes outside the loop item at i: its own box, where it is the innermost, is not one
abbrev pub outside : ℕ → List ℕ → List ℕ
outside i [] = []
outside i (p ∷ ps) = cond (eqb p i) ps (p ∷ ps)

abbrev pub inside : ℕ → List ℕ → Bool
inside i [] = false
inside i (p ∷ ps) = eqb p i

-- the marks that leaving the boxes hands out, innermost first
abbrev pub leave_outs : List Item → List ℕ → List Out
leave_outs xs [] = []
leave_outs xs (p ∷ ps) =
    cond (opens_a is_sweep (item_at xs p)) (leaves LoopSort.Sweep ∷ leave_outs xs ps)
    (cond (opens_a is_loop (item_at xs p)) (leaves LoopSort.Loop ∷ leave_outs xs ps) (leave_outs xs ps))

-- ---- faults

abbrev pub is_none : Option ℕ → Bool
is_none none = true
is_none (some j) = false

-- the mark x does not belong to the innermost open box
abbrev pub strays : Item → List ℕ → List Open → Bool
strays x [] st = true
strays x (p ∷ ps) st = not (belongs p x st)

-- an elseif that is reached after a taken branch reads nothing
abbrev pub reads : Item → List Read
reads x = cond (is_branch x) [] (reads_of x)

abbrev pub read_faults : Vars → List Read → List (ℕ × Bool)
read_faults vs ws = (60, missing (written vs) ws) ∷ (61, wrong (kind_now vs) ws) ∷ []

-- an opening mark with no closing mate, another box mark whose opening mark is not the innermost open box, or breakloop
-- in no open loop
abbrev pub astray : List Item → State → Item → Bool
astray xs m x =
    is_open x && is_none (close_of xs m.at)
    || (is_branch x || is_close x) && strays x m.boxes (boxes_at xs m.at)
    || is_break x && is_empty (unwind xs m.boxes)

-- an opening mark with eight boxes open, save a loop item whose box is the innermost
abbrev pub too_deep : State → Item → Bool
too_deep m x = is_open x && leb 8 (length m.boxes) && not (opens_a is_loop x && inside m.at m.boxes)

abbrev pub faults : List Item → State → Item → List (ℕ × Bool)
faults xs m x =
    (60, missing (written m.vars) (reads x))
    ∷ (61, wrong (kind_now m.vars) (reads x))
    ∷ (62, astray xs m x)
    ∷ (63, too_deep m x)
    ∷ (64, breaks_order x m.packed)
    ∷ []

-- ---- one item

abbrev pub next : State → State
next m = goto m (suc m.at) m.boxes

-- a result or a reading is kept, or the run stops and no name is changed
abbrev pub kept : State → ℕ → ℕ → Result Value Stop → Step
kept m n t (Ok v) = said [] (next (keep m (write m.vars n v t)))
kept m n t (Err Stop.ByZero) = stops_by code0028 m
kept m n t (Err Stop.NotFinite) = stops_by code0010 m

abbrev pub run_act : State → Act → Offer → Step
run_act m (Act.Var v) o = said [] (next m)
run_act m (Act.Store v l t) o = said [] (next (keep m (write m.vars v l t)))
run_act m (Act.Copy a b) o = said [] (next (keep m (set m.vars b (cell_at m.vars a))))
run_act m (Act.Calc f v x) o =
    kept m v (cell_type (cell_at m.vars v)) (calculated f (value_of m.vars (Operand.Name v)) (value_of m.vars x))
run_act m (Act.Meas f v t) o = kept m v t (checked (reading o))
run_act m (Act.TimerGet v) o = kept m v eb (checked (reading o))
run_act m (Act.SendString t) o = said (says t ∷ []) (next m)
run_act m (Act.Wait f) o = said (waits (value_of m.vars f) ∷ []) (next m)
run_act m (Act.SetE f) o = said (sets_e (value_of m.vars f) ∷ []) (next m)
run_act m (Act.SetMode n) o = said (sets_mode n ∷ []) (next m)
run_act m Act.TimerStart o = said [] (next m)
run_act m Act.CellOn o = said (switches_cell true ∷ []) (next m)
run_act m Act.CellOff o = said (switches_cell false ∷ []) (next m)
run_act m Act.Abort o = said [] (next (pend m))

abbrev pub run_pack : State → Pack → Step
run_pack m Pack.Start = said (pack_start ∷ []) (next (packing m true))
run_pack m Pack.End = said (pack_end ∷ []) (next (packing m false))
run_pack m (Pack.Add v) = said (pack_part (cell_value (cell_at m.vars v)) (cell_type (cell_at m.vars v)) ∷ []) (next m)

-- where a false condition leads: into a branch, past endif, or to a fault of the elseif tried
pub data Chosen : Type 0 where
  into beyond : ℕ → Chosen
  bad : ℕ → Chosen

abbrev pub or_bad : ℕ → Chosen → Chosen
or_bad zero c = c
or_bad (suc n) c = bad (suc n)

-- only a branch or closing mark is a mate (`belongs`): the other clauses are not reached
abbrev pub tried : Vars → Item → ℕ → Chosen → Chosen
tried vs (Item.Branch (Branch.ElseIf c)) j r =
    or_bad (lowest (read_faults vs (condition_reads c))) (cond (holds vs c) (into (suc j)) r)
tried vs (Item.Branch Branch.Else) j r = into (suc j)
tried vs (Item.Close e) j r = beyond (suc j)
tried vs (Item.Act a) j r = r
tried vs (Item.Pack p) j r = r
tried vs (Item.Open h) j r = r
tried vs Item.Break j r = r
tried vs Item.Tag j r = r

-- the mates of the box that opens at p, among the items from j on, tried in turn; the end is not reached, since 62 of
-- `faults` has seen to a closing mate
abbrev pub choose : Vars → ℕ → ℕ → List Open → List Item → Chosen
choose vs p j st [] = bad 62
choose vs p j st (x ∷ xs) = let r = choose vs p (suc j) (scan j x st) xs in cond (belongs p x st) (tried vs x j r) r

-- where the if at which the run stands leads when its condition is false
abbrev pub otherwise : List Item → State → Chosen
otherwise xs m = choose m.vars m.at m.at (boxes_at xs m.at) (drop m.at xs)

-- the last clause is not reached: `tries` has seen to such a fault before
abbrev pub chosen : State → Chosen → Step
chosen m (into i) = said [] (goto m i (m.at ∷ m.boxes))
chosen m (beyond i) = said [] (goto m i m.boxes)
chosen m (bad n) = faults_by n m

-- the mark that a loop's first entering hands out
abbrev pub enter_outs : LoopSort → State → List Out
enter_outs s m = cond (inside m.at m.boxes) [] (enters s ∷ [])

abbrev pub enter : LoopSort → State → Step
enter s m = said (enter_outs s m) (goto m (suc m.at) (m.at ∷ outside m.at m.boxes))

abbrev pub leave : List Item → LoopSort → State → Step
leave xs s m =
    said (enter_outs s m ++ (leaves s ∷ []))
    (unskip (measures s) (goto m (past (close_of xs m.at)) (outside m.at m.boxes)))

abbrev pub run_point : State → Sweep → Float → Float → Step
run_point m w x y =
    cond (finite (Value.Real x) && finite (Value.Real y))
    (enter LoopSort.Sweep
    (keep m (write (write m.vars w.potential (Value.Real x) da) w.current (Value.Real y) ba)))
    (stops_by code0010 m)

-- a point or done is what it wants: `served` lets nothing else come here, and the last two clauses are not reached
abbrev pub run_sweep : List Item → State → Sweep → Offer → Step
run_sweep xs m w (Offer.Point p) = run_point m w p.potential p.current
run_sweep xs m w Offer.Done = leave xs LoopSort.Sweep m
run_sweep xs m w Offer.Nothing = leave xs LoopSort.Sweep m
run_sweep xs m w (Offer.Float x) = leave xs LoopSort.Sweep m

abbrev pub run_head : List Item → State → Head → Offer → Step
run_head xs m (Head.If c) o =
    cond (holds m.vars c) (said [] (goto m (suc m.at) (m.at ∷ m.boxes))) (chosen m (otherwise xs m))
run_head xs m (Head.Loop c) o = cond (holds m.vars c) (enter LoopSort.Loop m) (leave xs LoopSort.Loop m)
run_head xs m (Head.Sweep w) o = run_sweep xs m w o

-- past the closing mark of the innermost box; with none open 62 of `faults` has come before (`strays`), and the first
-- clause is not reached
abbrev pub run_branch : List Item → State → List ℕ → Step
run_branch xs m [] = faults_by 62 m
run_branch xs m (p ∷ ps) = said [] (goto m (past (close_of xs p)) ps)

abbrev pub run_endloop : List Item → State → ℕ → List ℕ → Step
run_endloop xs m p ps =
    cond (opens_a is_sweep (item_at xs p) && (m.pending || m.skip))
    (said (leaves LoopSort.Sweep ∷ []) (unskip true (goto m (suc m.at) ps))) (said [] (goto m p (p ∷ ps)))

-- here too the first clause is not reached
abbrev pub run_close : List Item → State → Close → List ℕ → Step
run_close xs m e [] = faults_by 62 m
run_close xs m Close.EndIf (p ∷ ps) = said [] (goto m (suc m.at) ps)
run_close xs m Close.EndLoop (p ∷ ps) = run_endloop xs m p ps

-- from the innermost open loop; with none 62 of `faults` has come before, and the first clause is not reached
abbrev pub run_break : List Item → State → List ℕ → Step
run_break xs m [] = faults_by 62 m
run_break xs m (p ∷ ps) =
    said (leave_outs xs (p ∷ [])) (unskip (opens_a is_sweep (item_at xs p)) (goto m (past (close_of xs p)) ps))

abbrev pub run : List Item → State → Item → Offer → Step
run xs m (Item.Act a) o = run_act m a o
run xs m (Item.Pack p) o = run_pack m p
run xs m (Item.Open h) o = run_head xs m h o
run xs m (Item.Branch b) o = run_branch xs m m.boxes
run xs m (Item.Close e) o = run_close xs m e m.boxes
run xs m Item.Break o = run_break xs m (unwind xs m.boxes)
run xs m Item.Tag o = said [] (next m)

-- ---- one step

-- the state before the step is kept by a refusal; what the control made of it by a wait
abbrev pub served : State → State → Meets → Step → Step
served m₀ m ready s = s
served m₀ m short s = record { answer = waiting; outs = []; next = m }
served m₀ m amiss s = record { answer = refuse 31 0; outs = []; next = m₀ }

abbrev pub or_fault : ℕ → State → Step → Step
or_fault zero m s = s
or_fault (suc n) m s = faults_by (suc n) m

-- the run finishes, wanting nothing
abbrev pub finish : State → State → Offer → List Out → Step
finish m₀ m o os =
    served m₀ m (meets wants_nothing o) (record { answer = finished; outs = os; next = end_with m finished_run })

abbrev pub at_end : State → State → Offer → Step
at_end m₀ m o = or_fault (lowest ((62, not (is_empty m.boxes)) ∷ (64, m.packed) ∷ [])) m (finish m₀ m o [])

-- the fault of the mates that a false condition tries, 0 where there is none
abbrev pub bad_of : Chosen → ℕ
bad_of (into i) = 0
bad_of (beyond i) = 0
bad_of (bad n) = n

abbrev pub tries : List Item → State → Item → ℕ
tries xs m (Item.Act a) = 0
tries xs m (Item.Pack p) = 0
tries xs m (Item.Open (Head.If c)) = cond (holds m.vars c) 0 (bad_of (otherwise xs m))
tries xs m (Item.Open (Head.Loop c)) = 0
tries xs m (Item.Open (Head.Sweep w)) = 0
tries xs m (Item.Branch b) = 0
tries xs m (Item.Close e) = 0
tries xs m Item.Break = 0
tries xs m Item.Tag = 0

-- m₀ before the step, m with the control
abbrev pub at_item : List Item → State → State → Offer → List Item → Step
at_item xs m₀ m o [] = at_end m₀ m o
at_item xs m₀ m o (x ∷ rest) =
    or_fault (lowest (faults xs m x)) m (or_fault (tries xs m x) m (served m₀ m (meets (wanted_by x) o) (run xs m x o)))

-- the control, told to the run where it stands
abbrev pub told : List Item → State → Control → State
told xs m c = told_in (any_open is_sweep xs m.boxes) m c

-- the first tag from item i on
abbrev pub tag_from : ℕ → List Item → Option ℕ
tag_from i [] = none
tag_from i (x ∷ xs) = let r = tag_from (suc i) xs in cond (is_tag x) (some i) r

-- the tag, unless item i is past it
abbrev pub ahead : ℕ → Option ℕ → Option ℕ
ahead i none = none
ahead i (some t) = cond (ltb t i) none (some t)

-- an abort is due: pending, outside every measuring loop, and no package is open
abbrev pub abort_due : List Item → State → Bool
abort_due xs m = m.pending && not (any_open is_sweep xs m.boxes) && not m.packed

-- to the tag, or to the end; the tag itself does nothing, and with no box and no package open it has no fault
abbrev pub aborted : List Item → State → State → Offer → Option ℕ → Step
aborted xs m₀ m o none = finish m₀ (cleared m m.at) o (leave_outs xs m.boxes)
aborted xs m₀ m o (some i) =
    served m₀ (cleared m i) (meets wants_nothing o) (said (leave_outs xs m.boxes) (next (cleared m i)))

abbrev pub moved : List Item → State → State → Offer → Step
moved xs m₀ m o =
    cond (abort_due xs m) (aborted xs m₀ m o (ahead m.at (tag_from 0 xs))) (at_item xs m₀ m o (drop m.at xs))

-- a run that has ended repeats its answer, handing out nothing
abbrev pub again : Status → State → Step → Step
again live m s = s
again finished_run m s = record { answer = finished; outs = []; next = m }
again (stopped_run c) m s = record { answer = stopped c; outs = []; next = m }
again (fault_run n) m s = record { answer = fault n; outs = []; next = m }

-- ---- the state's shape

abbrev pub opens_ok : List Item → List ℕ → Bool
opens_ok xs [] = true
opens_ok xs (p ∷ ps) = ltb p (length xs) && is_open (item_at xs p) && not (is_none (close_of xs p)) && opens_ok xs ps

-- the item number at most the item count, at most 8 open boxes each at an opening item with a closing mate, every
-- written float finite
abbrev pub state_ok : List Item → State → Bool
state_ok xs m = leb m.at (length xs) && leb (length m.boxes) 8 && opens_ok xs m.boxes && cells_ok m.vars

abbrev pub shapeless : State → Step
shapeless m = record { answer = refuse 30 0; outs = []; next = m }

-- the length of the script's bytes, the table, the state, the control and the offer
unfoldable pub step : ℕ → Table → State → Control → Offer → Step
step size s m c o =
    cond (in_shape size s && state_ok (items_of s) m)
    (again m.status m (moved (items_of s) m (told (items_of s) m c) o))
    (shapeless m)
