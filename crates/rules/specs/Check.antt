-- The rules (01, The checker: 30 and 19 to 26) as one walk over the items in order. The state before an item is what
-- `after` made of the items before it; each rule is a row, its number and its test, and the lowest that holds is given.
use Rattle.std.specs.Prelude.{Option, Some, None}
use Rattle.std.specs.Prelude.{ℕ, zero, suc, Bool, true, false, not, ◌&&◌, ◌||◌, cond, List, [], ◌∷◌, eqb, ltb}
use Rattle.std.specs.Prelude.{leb, length, set, replicate}
use Rattle.table.specs.declared.Act.{Act}
use Rattle.table.specs.declared.Head.{Head}
use Rattle.table.specs.declared.Branch.{Branch}
use Rattle.table.specs.declared.Table.{Table}
use Rattle.table.specs.declared.Item.{Item}
use Rattle.table.specs.declared.Sort.{Sort}
use Rattle.table.specs.declared.Kind.{Kind}
use Rattle.table.specs.declared.Write.{Write}
use Rattle.table.specs.Item.{sort_of, is_open, is_branch, is_close, is_break, is_tag, is_else, is_loop}
use Rattle.table.specs.Item.{is_sweep, opens_a, fits}
use Rattle.table.specs.ReadWrite.{Kinds, kind_at, kind_in, Names, has, reads_of, writes_of, act_writes}
use Rattle.table.specs.ReadWrite.{head_writes, wrong}
use Rattle.table.specs.ReadWrite.{wrong_write, missing, breaks_order, packs, lowest}
use Rattle.table.specs.Shape.{slot_at, items_of, in_shape}
use Rattle.sets.specs.Names.{nothing, everything, both, put}

-- ---- kinds: "a name's kind is that of its first writing in text order, passing over arithmetic and any copy whose
-- source has no kind from earlier lines"

abbrev pub is_known : Option Kind → Bool
is_known None = false
is_known (Some j) = true

-- arithmetic, and a copy whose source has no kind
abbrev pub passed_act : Kinds → Act → Bool
passed_act k (Act.Var v) = false
passed_act k (Act.Store v l t) = false
passed_act k (Act.Copy a b) = not (is_known (kind_at k a))
passed_act k (Act.Calc o v x) = true
passed_act k (Act.Meas f v t) = false
passed_act k (Act.TimerGet v) = false
passed_act k (Act.SendString s) = false
passed_act k (Act.Wait f) = false
passed_act k (Act.SetE f) = false
passed_act k (Act.SetMode n) = false
passed_act k Act.TimerStart = false
passed_act k Act.CellOn = false
passed_act k Act.CellOff = false
passed_act k Act.Abort = false

abbrev pub passed_over : Kinds → Item → Bool
passed_over k (Item.Act a) = passed_act k a
passed_over k (Item.Pack p) = false
passed_over k (Item.Open h) = false
passed_over k (Item.Branch b) = false
passed_over k (Item.Close e) = false
passed_over k Item.Break = false
passed_over k Item.Tag = false

-- the first writing: a name that has a kind keeps it
abbrev pub or_else : Option Kind → Option Kind → Option Kind
or_else None k = k
or_else (Some j) k = Some j

abbrev pub learn : Kinds → List Write → Kinds
learn k [] = k
learn k (Write.Like n x ∷ gs) = learn (set k n (or_else (kind_at k n) (kind_in (kind_at k) x))) gs
learn k (Write.Float n ∷ gs) = learn (set k n (or_else (kind_at k n) (Some Kind.Real))) gs

abbrev pub learn_item : Kinds → Item → Kinds
learn_item k x = cond (passed_over k x) k (learn k (writes_of x))

abbrev pub kinds_of : Kinds → List Item → Kinds
kinds_of k [] = k
kinds_of k (x ∷ xs) = kinds_of (learn_item k x) xs

-- ---- the state: what is surely written; the open boxes, innermost first; whether a package is open; whether the tag
-- was seen. An open box: its sort, what held before it, what holds at the end of every branch so far, and whether else
-- was seen.

pub record Box : Type 0 where
  pub sort : Sort
  pub before : Names
  pub every_end : Names
  pub else_seen : Bool

pub record Held : Type 0 where
  pub sure : Names
  pub boxes : List Box
  pub packed : Bool
  pub tagged : Bool

abbrev pub begin : Held
begin = record { sure = nothing; boxes = []; packed = false; tagged = false }

abbrev pub any_box : (Sort → Bool) → List Box → Bool
any_box f [] = false
any_box f (b ∷ bs) = f b.sort || any_box f bs

abbrev pub is_empty {ℓ} : {A : Type ℓ} → List A → Bool
is_empty [] = true
is_empty (x ∷ xs) = false

-- ---- the tests

-- what an item's reads are judged by: a branch condition by what held before its if
abbrev pub base_of : Bool → Names → List Box → Names
base_of false s bs = s
base_of true s [] = s
base_of true s (b ∷ bs) = cond (is_loop b.sort) s b.before

abbrev pub base : Held → Item → Names
base s x = base_of (is_branch x) s.sure s.boxes

-- 21: a branch or closing mark without its box, a branch after else, breakloop in no loop
abbrev pub misplaced : Item → List Box → Bool
misplaced x [] = is_branch x || is_close x || is_break x
misplaced x (b ∷ bs) =
    (is_branch x || is_close x) && not (fits x b.sort)
    || is_branch x && b.else_seen
    || is_break x && not (any_box is_loop (b ∷ bs))

-- 25: the same name twice in meas_loop_lsv
abbrev pub same_in : Head → Bool
same_in (Head.If c) = false
same_in (Head.Loop c) = false
same_in (Head.Sweep w) = eqb w.potential w.current

abbrev pub same_name : Item → Bool
same_name (Item.Act a) = false
same_name (Item.Pack p) = false
same_name (Item.Open h) = same_in h
same_name (Item.Branch b) = false
same_name (Item.Close e) = false
same_name Item.Break = false
same_name Item.Tag = false

abbrev pub refusals : Kinds → Held → Item → List (ℕ × Bool)
refusals k s x =
    (19, wrong (kind_at k) (reads_of x) || wrong_write (kind_at k) (writes_of x))
    ∷ (20, missing (has (base s x)) (reads_of x))
    ∷ (21, misplaced x s.boxes)
    ∷ (22, is_open x && leb 8 (length s.boxes))
    ∷ (23, breaks_order x s.packed)
    ∷ (24, is_tag x && (s.tagged || not (is_empty s.boxes)))
    ∷ (25, same_name x)
    ∷ (26, opens_a is_sweep x && any_box is_sweep s.boxes)
    ∷ []

-- at the end: a box open, a package open
abbrev pub refusals_at_end : Held → List (ℕ × Bool)
refusals_at_end s = (21, not (is_empty s.boxes)) ∷ (23, s.packed) ∷ []

-- ---- the state after an item

-- after endif, what holds at the end of every branch, a missing else being an empty branch; after any loop, what held
-- before it
abbrev pub after_box : Sort → Box → Names → Names
after_box Sort.If b s = both (both b.every_end s) (cond b.else_seen everything b.before)
after_box Sort.Loop b s = b.before
after_box Sort.Sweep b s = b.before

-- each branch starts with what held before its if
abbrev pub branched : Branch → Held → List Box → Held
branched x s [] = s
branched x s (b ∷ bs) = record {
  sure = b.before;
  boxes = record {
    sort = b.sort;
    before = b.before;
    every_end = both b.every_end s.sure;
    else_seen = is_else x;
  } ∷ bs;
  packed = s.packed;
  tagged = s.tagged;
}

abbrev pub closed : Held → List Box → Held
closed s [] = s
closed s (b ∷ bs) =
    record { sure = after_box b.sort b s.sure; boxes = bs; packed = s.packed; tagged = s.tagged }

-- a loop body starts with what held before it, plus both names for a measuring loop; at the tag nothing is surely
-- written
abbrev pub after : Held → Item → Held
after s (Item.Act a) =
    record { sure = put s.sure (act_writes a); boxes = s.boxes; packed = s.packed; tagged = s.tagged }
after s (Item.Pack p) = record { sure = s.sure; boxes = s.boxes; packed = packs p s.packed; tagged = s.tagged }
after s (Item.Open h) = record {
  sure = put s.sure (head_writes h);
  boxes = record { sort = sort_of h; before = s.sure; every_end = everything; else_seen = false } ∷ s.boxes;
  packed = s.packed;
  tagged = s.tagged;
}
after s (Item.Branch b) = branched b s s.boxes
after s (Item.Close e) = closed s s.boxes
after s Item.Break = s
after s Item.Tag = record { sure = nothing; boxes = s.boxes; packed = s.packed; tagged = true }

-- ---- the verdict: accepted, or a refusal's number and place. The walk's place is the item's number, the count of
-- items at the end.

pub data Verdict : Type 0 where
  accepted : Verdict
  refused : ℕ → ℕ → Verdict

abbrev pub or_go : ℕ → ℕ → Verdict → Verdict
or_go zero i v = v
or_go (suc n) i v = refused (suc n) i

abbrev pub walk : Kinds → ℕ → Held → List Item → Verdict
walk k i s [] = or_go (lowest (refusals_at_end s)) i accepted
walk k i s (x ∷ xs) = or_go (lowest (refusals k s x)) i (walk k (suc i) (after s x) xs)

-- the line of item i, or the ending line
abbrev pub line_of : Table → ℕ → ℕ
line_of t i = cond (ltb i t.count) (slot_at t i).line t.end

abbrev pub at_line : Table → Verdict → Verdict
at_line t accepted = accepted
at_line t (refused n i) = refused n (line_of t i)

abbrev pub walked : Table → Verdict
walked t = walk (kinds_of (replicate 32 None) (items_of t)) 0 begin (items_of t)

-- of a script of so many bytes
unfoldable pub verdict : ℕ → Table → Verdict
verdict size t = cond (in_shape size t) (at_line t (walked t)) (refused 30 0)
