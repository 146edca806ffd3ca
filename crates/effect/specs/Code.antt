-- What a step makes of a run, as the code makes it from what was looked up: definitions that compute, one for each
-- function. That they are 01's step is shown in the crate `steps`, where text and names are.
use Rattle.std.specs.Prelude.{Option, Some, None, Result, Ok, Err}
use Rattle.std.specs.Prelude.{ℕ, ◌+◌, ◌-◌, Bool, true, false, not, ◌&&◌, ◌||◌, cond, eqb, ltb, leb, get_or, set}
use Rattle.laws.specs.Least.{least}
use Rattle.value.specs.Arithmetic.{finite, calculated, checked, compares}
use Rattle.table.specs.ReadWrite.{breaks_order}
use Rattle.state.specs.State as rules
use Rattle.state.specs.State.{cell_value, cell_type, measures, reading, da, ba, eb}
use Rattle.value.specs.declared.Value.{Value}
use Rattle.table.specs.declared.Act.{Act}
use Rattle.table.specs.declared.Branch.{Branch}
use Rattle.table.specs.declared.Close.{Close}
use Rattle.table.specs.declared.Condition.{Condition}
use Rattle.table.specs.declared.Head.{Head}
use Rattle.table.specs.declared.Item.{Item}
use Rattle.table.specs.declared.Pack.{Pack}
use Rattle.table.specs.declared.Sweep.{Sweep}
use Rattle.state.specs.declared.Answer.{Answer}
use Rattle.state.specs.State.{Cell}
use Rattle.state.specs.declared.Control.{Control}
use Rattle.state.specs.declared.Fault.{Fault}
use Rattle.state.specs.declared.LoopSort.{LoopSort}
use Rattle.state.specs.declared.Offer.{Offer}
use Rattle.state.specs.declared.Order.TheVariants as Order
use Rattle.state.specs.declared.Point.{Point}
use Rattle.state.specs.declared.Refusal.TheVariants as Refusal
use Rattle.state.specs.declared.Status.{Status}
use Rattle.value.specs.declared.Stop.{Stop}
use Rattle.state.specs.declared.What.{What}
use Rattle.effect.specs.declared.Around.{Around}
use Rattle.operands.specs.Code.{Cells}
use Rattle.effect.specs.declared.Chosen.{Chosen}
use Rattle.effect.specs.declared.Effect.{Effect}
use Rattle.effect.specs.declared.Looked.{Looked}
use Rattle.effect.specs.declared.Need.{Need}
use Rattle.effect.specs.declared.Spot.{Spot}
use Rattle.operands.specs.Code.{Written}

-- ---- src/spots.rt: the spot anew

abbrev pub after : ℕ → ℕ
after n = cond (ltb n 128) (n + 1) n

abbrev pub go_to : Spot → ℕ → Spot
go_to s i =
    record { at = i; boxes = s.boxes; depth = s.depth; pending = s.pending; skip = s.skip; packed = s.packed }

abbrev pub go_on : Spot → Spot
go_on s = go_to s (after s.at)

abbrev pub with_pending : Spot → Spot
with_pending s =
    record { at = s.at; boxes = s.boxes; depth = s.depth; pending = true; skip = s.skip; packed = s.packed }

abbrev pub with_packed : Spot → Bool → Spot
with_packed s b =
    record { at = s.at; boxes = s.boxes; depth = s.depth; pending = s.pending; skip = s.skip; packed = b }

abbrev pub with_skip : Spot → Bool → Spot
with_skip s b =
    record { at = s.at; boxes = s.boxes; depth = s.depth; pending = s.pending; skip = b; packed = s.packed }

abbrev pub take_control : Spot → Control → Bool → Spot
take_control s Control.None b = s
take_control s Control.Z b = with_pending s
take_control s Control.Y b = with_skip s (s.skip || b)

abbrev pub leave_to : Spot → ℕ → ℕ → Bool → Spot
leave_to s d i b =
    record { at = i; boxes = s.boxes; depth = d; pending = s.pending; skip = s.skip && not b; packed = s.packed }

abbrev pub below : ℕ → ℕ
below d = cond (eqb d 0) 0 (d - 1)

abbrev pub pushed : Spot → Spot
pushed s =
    record {
      at = s.at;
      boxes = set s.boxes s.depth s.at;
      depth = s.depth + 1;
      pending = s.pending;
      skip = s.skip;
      packed = s.packed;
    }

abbrev pub push : Spot → Spot
push s = cond (ltb s.depth 8) (pushed s) s

abbrev pub clear : Spot → ℕ → Spot
clear s i = record { at = i; boxes = s.boxes; depth = 0; pending = false; skip = false; packed = s.packed }

abbrev pub top_of : Spot → ℕ
top_of s = cond (ltb (below s.depth) 8) (get_or s.boxes (below s.depth) 0) 0

abbrev pub is_inside : Spot → Bool
is_inside s = cond (eqb s.depth 0) false (eqb (top_of s) s.at)

-- ---- src/effects.rt: the effects that steps have

abbrev pub acting : Spot → What → What → Written → Written → Effect
acting s v w p q =
    record {
      spot = s;
      status = Status.Live;
      answer = Answer.Running;
      one = v;
      two = w;
      leaves = false;
      first = p;
      second = q;
    }

abbrev pub still : Spot → Status → Answer → Effect
still s t a =
    record {
      spot = s;
      status = t;
      answer = a;
      one = What.Nothing;
      two = What.Nothing;
      leaves = false;
      first = None;
      second = None;
    }

abbrev pub leaving : Spot → Status → Answer → Effect
leaving s t a =
    record {
      spot = s;
      status = t;
      answer = a;
      one = What.Nothing;
      two = What.Nothing;
      leaves = true;
      first = None;
      second = None;
    }

abbrev pub runs : Spot → Effect
runs s = still s Status.Live Answer.Running

abbrev pub saying : Spot → What → Effect
saying s w = acting s w What.Nothing None None

abbrev pub writing : Spot → Written → Effect
writing s w = acting s What.Nothing What.Nothing w None

abbrev pub fault_by : Spot → Fault → Effect
fault_by s f = still s (Status.Fault f) (Answer.Fault f)

abbrev pub stop_by : Spot → Stop → Effect
stop_by s q = still s (Status.Stopped q) (Answer.Stopped q)

-- ---- src/boxes.rt: how many boxes a step leaves

abbrev pub boxes_left : Bool → ℕ → ℕ → ℕ
boxes_left b d h = cond (b && eqb h 0) (least d 8) 0

-- ---- src/faults.rt: the faults of an item where the run stands

abbrev pub act_need : Act → Need
act_need (Act.Var v) = Need.Nothing
act_need (Act.Store v l t) = Need.Nothing
act_need (Act.Copy n m) = Need.Any
act_need (Act.Calc o n x) = Need.Alike
act_need (Act.Meas x v t) = Need.Float
act_need (Act.TimerGet v) = Need.Nothing
act_need (Act.SendString s) = Need.Nothing
act_need (Act.Wait x) = Need.Float
act_need (Act.SetE x) = Need.Float
act_need (Act.SetMode n) = Need.Nothing
act_need Act.TimerStart = Need.Nothing
act_need Act.CellOn = Need.Nothing
act_need Act.CellOff = Need.Nothing
act_need Act.Abort = Need.Nothing

abbrev pub pack_need : Pack → Need
pack_need Pack.Start = Need.Nothing
pack_need (Pack.Add n) = Need.Any
pack_need Pack.End = Need.Nothing

abbrev pub head_need : Head → Need
head_need (Head.If c) = Need.Alike
head_need (Head.Loop c) = Need.Alike
head_need (Head.Sweep w) = Need.Four

abbrev pub need_of : Item → Need
need_of (Item.Act a) = act_need a
need_of (Item.Pack p) = pack_need p
need_of (Item.Open h) = head_need h
need_of (Item.Branch b) = Need.Nothing
need_of (Item.Close e) = Need.Nothing
need_of Item.Break = Need.Nothing
need_of Item.Tag = Need.Nothing

abbrev pub is_gone : Cell → Bool
is_gone None = true
is_gone (Some (v, t)) = false

abbrev pub is_whole : Cell → Bool
is_whole None = false
is_whole (Some (Value.Whole z, t)) = true
is_whole (Some (Value.Real x, t)) = false

abbrev pub is_real : Cell → Bool
is_real None = false
is_real (Some (Value.Whole z, t)) = false
is_real (Some (Value.Real x, t)) = true

abbrev pub cells_missing : Need → Cells → Bool
cells_missing Need.Nothing k = false
cells_missing Need.Any k = is_gone k.a
cells_missing Need.Alike k = is_gone k.a || is_gone k.b
cells_missing Need.Float k = is_gone k.a
cells_missing Need.Four k = ((is_gone k.d || is_gone k.c) || is_gone k.b) || is_gone k.a

abbrev pub kinds_differ : Cell → Cell → Bool
kinds_differ x y = (is_whole x && is_real y) || (is_real x && is_whole y)

abbrev pub cells_wrong : Need → Cells → Bool
cells_wrong Need.Nothing k = false
cells_wrong Need.Any k = false
cells_wrong Need.Alike k = kinds_differ k.a k.b
cells_wrong Need.Float k = is_whole k.a
cells_wrong Need.Four k = ((is_whole k.d || is_whole k.c) || is_whole k.b) || is_whole k.a

abbrev pub ninth_box : Spot → Head → Bool
ninth_box s (Head.If c) = true
ninth_box s (Head.Loop c) = not (is_inside s)
ninth_box s (Head.Sweep w) = not (is_inside s)

abbrev pub deep_item : Spot → Item → Bool
deep_item s (Item.Act a) = false
deep_item s (Item.Pack p) = false
deep_item s (Item.Open h) = ninth_box s h
deep_item s (Item.Branch b) = false
deep_item s (Item.Close e) = false
deep_item s Item.Break = false
deep_item s Item.Tag = false

abbrev pub depth_fault' : Spot → Item → Bool
depth_fault' s x = cond (ltb s.depth 8) false (deep_item s x)

abbrev pub read_fault : Bool → Bool → Option Fault
read_fault b c = cond b (Some Fault.Unwritten) (cond c (Some Fault.Kind) None)

abbrev pub need_fault : Need → Cells → Option Fault
need_fault n k = read_fault (cells_missing n k) (cells_wrong n k)

abbrev pub mark_fault : Bool → Bool → Bool → Option Fault
mark_fault b c d =
    cond b (Some Fault.Box)
    (cond c (Some Fault.Depth) (cond d (Some Fault.Package) None))

abbrev pub or_else : Option Fault → Option Fault → Option Fault
or_else None t = t
or_else (Some f) t = Some f

abbrev pub fault_of : Spot → Item → Cells → Bool → Option Fault
fault_of s x k b =
    or_else (need_fault (need_of x) k)
    (mark_fault b (depth_fault' s x) (breaks_order x s.packed))

-- ---- src/tries.rt: the mates that a false condition tries

abbrev pub holds : Condition → Cells → Bool
holds c k = compares c.by (cell_value k.a) (cell_value k.b)

abbrev pub try_holding : Bool → ℕ → Option Chosen
try_holding b i = cond b (Some (Chosen.Into (after i))) None

-- an elseif, with the fault of what it reads
abbrev pub try_unless : Option Fault → Bool → ℕ → Option Chosen
try_unless None b i = try_holding b i
try_unless (Some f) b i = Some (Chosen.Bad f)

abbrev pub try_condition : Condition → Cells → ℕ → Option Chosen
try_condition c k i = try_unless (need_fault Need.Alike k) (holds c k) i

abbrev pub try_branch : Branch → Cells → ℕ → Option Chosen
try_branch (Branch.ElseIf c) k i = try_condition c k i
try_branch Branch.Else k i = Some (Chosen.Into (after i))

abbrev pub try_mate : Item → Cells → ℕ → Option Chosen
try_mate (Item.Act a) k i = None
try_mate (Item.Pack p) k i = None
try_mate (Item.Open h) k i = None
try_mate (Item.Branch b) k i = try_branch b k i
try_mate (Item.Close e) k i = Some (Chosen.Beyond (after i))
try_mate Item.Break k i = None
try_mate Item.Tag k i = None

abbrev pub try_head : Head → Cells → ℕ → Option Chosen
try_head (Head.If c) k i = try_holding (holds c k) i
try_head (Head.Loop c) k i = Some (Chosen.Into 0)
try_head (Head.Sweep w) k i = Some (Chosen.Into 0)

abbrev pub try_first : Item → Cells → ℕ → Option Chosen
try_first (Item.Act a) k i = Some (Chosen.Into 0)
try_first (Item.Pack p) k i = Some (Chosen.Into 0)
try_first (Item.Open h) k i = try_head h k i
try_first (Item.Branch b) k i = Some (Chosen.Into 0)
try_first (Item.Close e) k i = Some (Chosen.Into 0)
try_first Item.Break k i = Some (Chosen.Into 0)
try_first Item.Tag k i = Some (Chosen.Into 0)

abbrev pub tries_on : Option Chosen → ℕ → ℕ → Bool
tries_on (Some c) i n = false
tries_on None i n = ltb i n

abbrev pub chosen_by : Option Chosen → Chosen
chosen_by (Some c) = c
chosen_by None = Chosen.Bad Fault.Box

abbrev pub chosen_fault : Chosen → Option Fault
chosen_fault (Chosen.Into i) = None
chosen_fault (Chosen.Beyond i) = None
chosen_fault (Chosen.Bad f) = Some f

-- ---- src/acts.rt: acts and package marks

abbrev pub keep_result : Spot → ℕ → ℕ → Result Value Stop → Effect
keep_result s n t (Ok v) = writing (go_on s) (Some (n, Some (v, t)))
keep_result s n t (Err q) = stop_by s q

abbrev pub run_act : Spot → Act → Cell → Cell → Offer → Effect
run_act s (Act.Var v) x y o = runs (go_on s)
run_act s (Act.Store n v t) x y o = writing (go_on s) (Some (n, Some (v, t)))
run_act s (Act.Copy n m) x y o = writing (go_on s) (Some (m, x))
run_act s (Act.Calc f n z) x y o = keep_result s n (cell_type x) (calculated f (cell_value x) (cell_value y))
run_act s (Act.Meas z n t) x y o = keep_result s n t (checked (reading o))
run_act s (Act.TimerGet n) x y o = keep_result s n eb (checked (reading o))
run_act s (Act.SendString t) x y o = saying (go_on s) (What.Text t)
run_act s (Act.Wait z) x y o = saying (go_on s) (What.Order (Order.Wait (cell_value x)))
run_act s (Act.SetE z) x y o = saying (go_on s) (What.Order (Order.SetE (cell_value x)))
run_act s (Act.SetMode n) x y o = saying (go_on s) (What.Order (Order.SetMode n))
run_act s Act.TimerStart x y o = runs (go_on s)
run_act s Act.CellOn x y o = saying (go_on s) (What.Order Order.CellOn)
run_act s Act.CellOff x y o = saying (go_on s) (What.Order Order.CellOff)
run_act s Act.Abort x y o = runs (go_on (with_pending s))

abbrev pub run_pack : Spot → Pack → Cell → Effect
run_pack s Pack.Start x = saying (go_on (with_packed s true)) What.Start
run_pack s (Pack.Add n) x = saying (go_on s) (What.Part (cell_value x) (cell_type x))
run_pack s Pack.End x = saying (go_on (with_packed s false)) What.End

-- ---- src/marks.rt: opening and closing marks

abbrev pub enter_loop : Spot → LoopSort → Written → Written → Effect
enter_loop s k p q =
    cond (is_inside s) (acting (go_on s) What.Nothing What.Nothing p q)
    (acting (go_on (push s)) (What.Enter k) What.Nothing p q)

abbrev pub leave_loop : Spot → LoopSort → ℕ → Effect
leave_loop s k i =
    cond (is_inside s) (saying (leave_to s (below s.depth) i (measures k)) (What.Leave k))
    (acting (leave_to s s.depth i (measures k)) (What.Enter k) (What.Leave k) None None)

abbrev pub run_loop : Spot → Bool → ℕ → Effect
run_loop s b i = cond b (enter_loop s LoopSort.Loop None None) (leave_loop s LoopSort.Loop i)

abbrev pub run_point : Spot → Sweep → Point → Effect
run_point s w p =
    cond (finite (Value.Real p.potential) && finite (Value.Real p.current))
    (enter_loop s LoopSort.Sweep (Some (w.potential, Some (Value.Real p.potential, da)))
    (Some (w.current, Some (Value.Real p.current, ba))))
    (stop_by s Stop.NotFinite)

abbrev pub run_sweep : Spot → Sweep → ℕ → Offer → Effect
run_sweep s w i Offer.Nothing = leave_loop s LoopSort.Sweep i
run_sweep s w i (Offer.Float x) = leave_loop s LoopSort.Sweep i
run_sweep s w i (Offer.Point p) = run_point s w p
run_sweep s w i Offer.Done = leave_loop s LoopSort.Sweep i

abbrev pub run_chosen : Spot → Chosen → Effect
run_chosen s (Chosen.Into i) = runs (go_to (push s) i)
run_chosen s (Chosen.Beyond i) = runs (go_to s i)
run_chosen s (Chosen.Bad f) = fault_by s f

abbrev pub run_head : Spot → Head → Cells → Chosen → ℕ → Offer → Effect
run_head s (Head.If q) k c i o = run_chosen s c
run_head s (Head.Loop q) k c i o = run_loop s (holds q k) i
run_head s (Head.Sweep w) k c i o = run_sweep s w i o

abbrev pub leave_if : Spot → ℕ → Effect
leave_if s i = runs (leave_to s (below s.depth) i false)

abbrev pub run_endloop : Spot → Bool → Effect
run_endloop s b =
    cond (b && (s.pending || s.skip))
    (saying (leave_to s (below s.depth) (after s.at) true) (What.Leave LoopSort.Sweep))
    (runs (go_to s (top_of s)))

abbrev pub run_close : Spot → Close → Bool → Effect
run_close s Close.EndIf b = leave_if s (after s.at)
run_close s Close.EndLoop b = run_endloop s b

abbrev pub loop_sort : Bool → LoopSort
loop_sort b = cond b LoopSort.Sweep LoopSort.Loop

abbrev pub run_break : Spot → Around → Effect
run_break s w = saying (leave_to s w.outside w.close w.sweep) (What.Leave (loop_sort w.sweep))

-- ---- src/step.rt: one step

abbrev pub run_item : Spot → Item → Cells → Chosen → Around → Offer → Effect
run_item s (Item.Act a) k c w o = run_act s a k.a k.b o
run_item s (Item.Pack p) k c w o = run_pack s p k.a
run_item s (Item.Open h) k c w o = run_head s h k c w.close o
run_item s (Item.Branch b) k c w o = leave_if s w.close
run_item s (Item.Close e) k c w o = run_close s e w.sweep
run_item s Item.Break k c w o = run_break s w
run_item s Item.Tag k c w o = runs (go_on s)

-- the spot before the step is kept by a refusal; what the control made of it by a wait
abbrev pub served : Spot → Spot → rules.Meets → Effect → Effect
served before s rules.ready e = e
served before s rules.short e = still s Status.Live Answer.Waiting
served before s rules.amiss e = still before Status.Live (Answer.Refused Refusal.Reading)

abbrev pub unless : Option Fault → Spot → Effect → Effect
unless None s e = e
unless (Some f) s e = fault_by s f

abbrev pub trouble_of : Spot → Looked → Option Fault
trouble_of s k = or_else (fault_of s k.item k.cells k.around.stray) (chosen_fault k.chosen)

abbrev pub sound_item : Spot → Spot → Looked → Offer → Effect
sound_item before s k o =
    served before s (rules.meets (rules.wanted_by k.item) o)
    (run_item s k.item k.cells k.chosen k.around o)

abbrev pub at_item : Spot → Spot → Looked → Offer → Effect
at_item before s k o = unless (trouble_of s k) s (sound_item before s k o)

abbrev pub leave_all : Spot → Spot → Status → Answer → Offer → Effect
leave_all before s t a o = served before s (rules.meets rules.wants_nothing o) (leaving s t a)

abbrev pub finish : Spot → Spot → Offer → Effect
finish before s o = leave_all before s Status.Finished Answer.Finished o

abbrev pub at_end : Spot → Spot → Offer → Effect
at_end before s o =
    cond (eqb s.depth 0) (cond s.packed (fault_by s Fault.Package) (finish before s o)) (fault_by s Fault.Box)

abbrev pub abort : Spot → Spot → ℕ → ℕ → Offer → Effect
abort before s t n o =
    cond (ltb t n && leb s.at t) (leave_all before (clear s (after t)) Status.Live Answer.Running o)
    (finish before (clear s s.at) o)

abbrev pub abort_due : Spot → Bool → Bool
abort_due s b = (s.pending && not b) && not s.packed

abbrev pub moved : Spot → Spot → Looked → Offer → Effect
moved before s k o =
    cond (abort_due s k.around.sweeping) (abort before s k.tag k.count o)
    (cond (ltb s.at k.count) (at_item before s k o) (at_end before s o))

abbrev pub live' : Spot → Looked → Control → Offer → Effect
live' before k c o = moved before (take_control before c k.around.sweeping) k o

abbrev pub is_live : Status → Bool
is_live Status.Live = true
is_live Status.Finished = false
is_live (Status.Stopped q) = false
is_live (Status.Fault f) = false

abbrev pub answer_of : Status → Answer
answer_of Status.Live = Answer.Running
answer_of Status.Finished = Answer.Finished
answer_of (Status.Stopped q) = Answer.Stopped q
answer_of (Status.Fault f) = Answer.Fault f

abbrev pub again : Spot → Status → Looked → Control → Offer → Effect
again s t k c o = cond (is_live t) (live' s k c o) (still s t (answer_of t))

abbrev pub effect_of : Bool → Spot → Status → Looked → Control → Offer → Effect
effect_of b s t k c o = cond b (again s t k c o) (still s t (Answer.Refused Refusal.Shape))
