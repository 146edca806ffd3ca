-- What only the code's shape needs: kinds as two sets of names, items in brief, the innermost open box apart from those
-- around it, and the checker on its way, the verdict still to come from a place, which block checker and item checker
-- keep.
use Rattle.std.specs.Prelude.{Option, Some, None, Result, Ok, Err}
use Rattle.std.specs.Prelude.{ℕ, zero, suc, ◌≤◌, ◌<◌, ◌≡◌, Bool, true, false, not, ◌&&◌, ◌||◌, cond, List, []}
use Rattle.std.specs.Prelude.{◌∷◌, eqb, leb, length, get_or, set, drop}
use Rattle.table.specs.declared.Item.{Item}
use Rattle.table.specs.declared.Table.{Table}
use Rattle.table.specs.declared.Pack.{Pack}
use Rattle.table.specs.declared.Head.{Head}
use Rattle.table.specs.declared.Close.{Close}
use Rattle.table.specs.declared.Sort.{Sort}
use Rattle.table.specs.declared.Kind.{Kind}
use Rattle.table.specs.declared.Read.{Read}
use Rattle.table.specs.declared.Write.{Write}
use Rattle.table.specs.Item.{is_else, is_loop, is_sweep}
use Rattle.table.specs.ReadWrite.{Kinds, kind_at, Names, has, reads_of, writes_of, wrong, wrong_write, missing}
use Rattle.table.specs.Shape.{slot_at, reads_ok}
use Rattle.sets.specs.Names.{nothing, everything, both, either, outside, asks, put, names_of}
use Rattle.sets.specs.declared.NameSet.{NameSet}
use Rattle.rules.specs.Check.{or_else, Box, Held, any_box, after_box, Verdict, accepted, refused, walk}
use Rattle.rules.specs.declared.Refusal.{Refusal}
use Rattle.rules.specs.Verdict.{number_of}
pub use Rattle.rules.specs.declared.kinds.Sorted.{Sorted}
pub use Rattle.rules.specs.declared.briefs.Step.{Step}
pub use Rattle.rules.specs.declared.briefs.Step.TheVariants as Step
pub use Rattle.rules.specs.declared.briefs.Form.{Form}
pub use Rattle.rules.specs.declared.briefs.Form.TheVariants as Form
pub use Rattle.rules.specs.declared.briefs.Brief.{Brief}
pub use Rattle.rules.specs.declared.written.Around.{Around}
pub use Rattle.rules.specs.declared.boxes.Walk.{Walk}
pub use Rattle.rules.specs.declared.boxes.Out.{Out}
use Rattle.rules.specs.declared.written.Held as coded

-- ---- kinds: the set of the whole ones and that of the floats

abbrev pub kind_by : Bool → Bool → Option Kind
kind_by true real = Some Kind.Whole
kind_by false true = Some Kind.Real
kind_by false false = None

unfoldable pub kinds_by : Names → Names → Kinds
kinds_by [] t = []
kinds_by (a ∷ s) [] = []
kinds_by (a ∷ s) (b ∷ t) = kind_by a b ∷ kinds_by s t

unfoldable pub kinds_in : Sorted → Kinds
kinds_in k = kinds_by (names_of k.whole) (names_of k.real)

abbrev pub learnt : Kinds → ℕ → Option Kind → Kinds
learnt k n j = set k n (or_else (kind_at k n) j)

abbrev pub wrong_both : (ℕ → Option Kind) → List Read → List Write → Bool
wrong_both kind ws gs = wrong kind ws || wrong_write kind gs

-- ---- an item in brief

abbrev pub step_of : Pack → Step
step_of Pack.Start = Step.Start
step_of (Pack.Add v) = Step.Add
step_of Pack.End = Step.End

abbrev pub head_form : Head → Form
head_form (Head.If c) = Form.Open Sort.If
head_form (Head.Loop c) = Form.Open Sort.Loop
head_form (Head.Sweep w) = cond (eqb w.potential w.current) Form.Twice (Form.Open Sort.Sweep)

abbrev pub plain_form : Item → Form
plain_form (Item.Act a) = Form.Act
plain_form (Item.Pack p) = Form.Pack (step_of p)
plain_form (Item.Open h) = head_form h
plain_form (Item.Branch b) = Form.Branch (is_else b)
plain_form (Item.Close e) = Form.Close e
plain_form Item.Break = Form.Break
plain_form Item.Tag = Form.Tag

abbrev pub form_by : Bool → Item → Form
form_by wrongs x = cond wrongs Form.Wrong (plain_form x)

abbrev pub form_of : Kinds → Item → Form
form_of k x = form_by (wrong_both (kind_at k) (reads_of x) (writes_of x)) x

pub record Briefs (k : Kinds) (x : Item) (b : Brief) : Type 0 where
  pub reads : names_of b.reads ≡ asks nothing (reads_of x)
  pub writes : names_of b.writes ≡ put nothing (writes_of x)
  pub form : b.form ≡ form_of k x

-- what the walk takes from an item's brief: what it reads is missing, what it writes is put
pub record Noted (k : Kinds) (x : Item) (b : Brief) : Type 0 where
  pub missed : (s : NameSet) → outside (names_of b.reads) (names_of s) ≡ missing (has (names_of s)) (reads_of x)
  pub adds : (s : NameSet) → either (names_of s) (names_of b.writes) ≡ put (names_of s) (writes_of x)
  pub form : b.form ≡ form_of k x

-- where there is no brief
abbrev pub no_brief : Brief
no_brief = record { reads = record { 0 = 0 }; writes = record { 0 = 0 }; form = Form.Wrong }

abbrev pub brief_at : List Brief → ℕ → Brief
brief_at t i = get_or t i no_brief

pub record NotedAt (k : Kinds) (xs : List Item) (t : List Brief) (i : ℕ) : Type 0 where
  pub item : Item
  pub here : drop i xs ≡ item ∷ drop (suc i) xs
  pub noted : Noted k item (brief_at t i)

-- these are the briefs of the items
pub record Told (k : Kinds) (xs : List Item) (t : List Brief) : Type 0 where
  pub each : (i : ℕ) → i < length t → NotedAt k xs t i
  pub past : (i : ℕ) → length t ≤ i → drop i xs ≡ []

-- every name that an item reads is one of the 32
pub record Reached (t : Table) : Type 0 where
  pub items : t.count ≤ 128
  pub names : t.names ≤ 32
  pub each : (i : ℕ) → i < t.count → reads_ok t.names (reads_of (slot_at t i).item) ≡ true

-- ---- the forms

abbrev pub is_wrong : Form → Bool
is_wrong Form.Wrong = true
is_wrong Form.Act = false
is_wrong (Form.Pack s) = false
is_wrong (Form.Open s) = false
is_wrong Form.Twice = false
is_wrong (Form.Branch e) = false
is_wrong (Form.Close c) = false
is_wrong Form.Break = false
is_wrong Form.Tag = false

abbrev pub is_open : Form → Bool
is_open Form.Wrong = false
is_open Form.Act = false
is_open (Form.Pack s) = false
is_open (Form.Open s) = true
is_open Form.Twice = true
is_open (Form.Branch e) = false
is_open (Form.Close c) = false
is_open Form.Break = false
is_open Form.Tag = false

abbrev pub is_branch : Form → Bool
is_branch Form.Wrong = false
is_branch Form.Act = false
is_branch (Form.Pack s) = false
is_branch (Form.Open s) = false
is_branch Form.Twice = false
is_branch (Form.Branch e) = true
is_branch (Form.Close c) = false
is_branch Form.Break = false
is_branch Form.Tag = false

abbrev pub is_close : Form → Bool
is_close Form.Wrong = false
is_close Form.Act = false
is_close (Form.Pack s) = false
is_close (Form.Open s) = false
is_close Form.Twice = false
is_close (Form.Branch e) = false
is_close (Form.Close c) = true
is_close Form.Break = false
is_close Form.Tag = false

abbrev pub is_tag : Form → Bool
is_tag Form.Wrong = false
is_tag Form.Act = false
is_tag (Form.Pack s) = false
is_tag (Form.Open s) = false
is_tag Form.Twice = false
is_tag (Form.Branch e) = false
is_tag (Form.Close c) = false
is_tag Form.Break = false
is_tag Form.Tag = true

abbrev pub is_twice : Form → Bool
is_twice Form.Wrong = false
is_twice Form.Act = false
is_twice (Form.Pack s) = false
is_twice (Form.Open s) = false
is_twice Form.Twice = true
is_twice (Form.Branch e) = false
is_twice (Form.Close c) = false
is_twice Form.Break = false
is_twice Form.Tag = false

-- the sort of the box that is opened
abbrev pub sort_in : Form → Sort
sort_in Form.Wrong = Sort.If
sort_in Form.Act = Sort.If
sort_in (Form.Pack s) = Sort.If
sort_in (Form.Open s) = s
sort_in Form.Twice = Sort.Sweep
sort_in (Form.Branch e) = Sort.If
sort_in (Form.Close c) = Sort.If
sort_in Form.Break = Sort.If
sort_in Form.Tag = Sort.If

-- ---- where the checker stands in a row: the boxes around its own are `bs`, which no code holds

-- what holds in the row, with names as a set
pub record Holds : Type 0 where
  pub sure : Names
  pub every_end : Names
  pub else_seen : Bool
  pub packed : Bool
  pub tagged : Bool

abbrev pub holds_of : coded.Held → Holds
holds_of h = record {
  sure = names_of h.sure;
  every_end = names_of h.every_end;
  else_seen = h.else_seen;
  packed = h.packed;
  tagged = h.tagged;
}

abbrev pub box_of : Around → Holds → Box
box_of a h =
    record { sort = a.sort; before = names_of a.before; every_end = h.every_end; else_seen = h.else_seen }

abbrev pub boxes_in : ℕ → Box → List Box → List Box
boxes_in zero b bs = []
boxes_in (suc n) b bs = b ∷ bs

abbrev pub state_of : Around → Holds → List Box → Held
state_of a h bs =
    record { sure = h.sure; boxes = boxes_in a.depth (box_of a h) bs; packed = h.packed; tagged = h.tagged }

-- the boxes are what the code holds of them
pub record Boxed (a : Around) (bs : List Box) : Type 0 where
  pub count : (h : Holds) → length (boxes_in a.depth (box_of a h) bs) ≡ a.depth
  pub looped : (h : Holds) → a.looped ≡ any_box is_loop (boxes_in a.depth (box_of a h) bs)
  pub swept : (h : Holds) → a.swept ≡ any_box is_sweep (boxes_in a.depth (box_of a h) bs)
  pub none : a.depth ≡ 0 → bs ≡ []

-- no box is around the whole, and nothing holds at its start
pub record Outside (a : Around) : Type 0 where
  pub depth : a.depth ≡ 0
  pub looped : a.looped ≡ false
  pub swept : a.swept ≡ false

pub record Starts (h : coded.Held) : Type 0 where
  pub sure : names_of h.sure ≡ nothing
  pub packed : h.packed ≡ false
  pub tagged : h.tagged ≡ false

-- ---- the tests, of what the code holds

abbrev pub in_if : Around → Bool
in_if a = not (eqb a.depth 0) && not (is_loop a.sort)

abbrev pub in_loop : Around → Bool
in_loop a = not (eqb a.depth 0) && is_loop a.sort

abbrev pub base_in : Around → Holds → Form → Names
base_in a h f = cond (is_branch f && in_if a) (names_of a.before) h.sure

unfoldable pub mark_in : Around → Holds → Form → Bool
mark_in a h Form.Wrong = false
mark_in a h Form.Act = false
mark_in a h (Form.Pack s) = false
mark_in a h (Form.Open s) = false
mark_in a h Form.Twice = false
mark_in a h (Form.Branch e) = not (in_if a) || h.else_seen
mark_in a h (Form.Close Close.EndIf) = not (in_if a)
mark_in a h (Form.Close Close.EndLoop) = not (in_loop a)
mark_in a h Form.Break = not a.looped
mark_in a h Form.Tag = false

abbrev pub order_in : Bool → Form → Bool
order_in p Form.Wrong = false
order_in p Form.Act = false
order_in p (Form.Pack Step.Start) = p
order_in p (Form.Pack Step.Add) = not p
order_in p (Form.Pack Step.End) = not p
order_in p (Form.Open s) = p
order_in p Form.Twice = p
order_in p (Form.Branch e) = p
order_in p (Form.Close c) = p
order_in p Form.Break = p
order_in p Form.Tag = p

abbrev pub rows_in : Around → Holds → Names → Form → List (ℕ × Bool)
rows_in a h reads f =
    (19, is_wrong f)
    ∷ (20, outside reads (base_in a h f))
    ∷ (21, mark_in a h f)
    ∷ (22, is_open f && leb 8 a.depth)
    ∷ (23, order_in h.packed f)
    ∷ (24, is_tag f && (h.tagged || not (eqb a.depth 0)))
    ∷ (25, is_twice f)
    ∷ (26, is_sweep (sort_in f) && a.swept)
    ∷ []

abbrev pub rows_at_end : ℕ → Bool → List (ℕ × Bool)
rows_at_end depth packed = (21, not (eqb depth 0)) ∷ (23, packed) ∷ []

-- ---- what holds after an item that opens no box

abbrev pub surely : Holds → Names → Holds
surely h s =
    record { sure = s; every_end = h.every_end; else_seen = h.else_seen; packed = h.packed; tagged = h.tagged }

abbrev pub packs_in : Step → Bool → Bool
packs_in Step.Start p = true
packs_in Step.Add p = p
packs_in Step.End p = false

unfoldable pub moved : Around → Holds → Names → Form → Holds
moved a h writes Form.Wrong = h
moved a h writes Form.Act = surely h (either h.sure writes)
moved a h writes (Form.Pack s) = record {
  sure = h.sure;
  every_end = h.every_end;
  else_seen = h.else_seen;
  packed = packs_in s h.packed;
  tagged = h.tagged;
}
moved a h writes (Form.Open s) = h
moved a h writes Form.Twice = h
moved a h writes (Form.Branch e) = record {
  sure = names_of a.before;
  every_end = both h.every_end h.sure;
  else_seen = e;
  packed = h.packed;
  tagged = h.tagged;
}
moved a h writes (Form.Close c) = surely h (after_box a.sort (box_of a h) h.sure)
moved a h writes Form.Break = h
moved a h writes Form.Tag = record {
  sure = nothing;
  every_end = h.every_end;
  else_seen = h.else_seen;
  packed = h.packed;
  tagged = true;
}

-- the state after it: its own box is left behind by a closing mark
abbrev pub state_after : Bool → Around → Holds → List Box → Held
state_after true a h bs = record { sure = h.sure; boxes = bs; packed = h.packed; tagged = h.tagged }
state_after false a h bs = state_of a h bs

-- ---- in a box that an item opens

pub record Deeper (a : Around) (h : coded.Held) (f : Form) (r : Around) : Type 0 where
  pub depth : r.depth ≡ suc a.depth
  pub sort : r.sort ≡ sort_in f
  pub before : r.before ≡ h.sure
  pub looped : r.looped ≡ (is_loop (sort_in f) || a.looped)
  pub swept : r.swept ≡ (is_sweep (sort_in f) || a.swept)

abbrev pub entered : Holds → Names → Holds
entered h writes = record {
  sure = either h.sure writes;
  every_end = everything;
  else_seen = false;
  packed = h.packed;
  tagged = h.tagged;
}

-- ---- the way

unfoldable pub rest_of : Kinds → List Item → ℕ → Held → Verdict
rest_of k xs i s = walk k i s (drop i xs)

-- where nothing is found, what is left to come
-- which refusal, and at what item
abbrev pub Refused : Type 0
Refused = Refusal × ℕ

-- what came of a whole row that no box is around
abbrev pub outcome : Result Out Refused → Verdict
outcome (Ok r) = accepted
outcome (Err e) = refused (number_of e.0) e.1

abbrev pub out_state : Out → List Box → Held
out_state r bs = record { sure = names_of r.sure; boxes = bs; packed = r.packed; tagged = r.tagged }

abbrev pub back_by : Out → coded.Held → Walk
back_by r h = record {
  at = r.at;
  closed = false;
  held = record {
    sure = r.sure;
    every_end = h.every_end;
    else_seen = h.else_seen;
    packed = r.packed;
    tagged = r.tagged;
  };
}

abbrev pub left_by : Walk → Out
left_by r = record {
  at = r.at;
  sure = r.held.sure;
  packed = r.held.packed;
  tagged = r.held.tagged;
}

-- from item i of a row the verdict is a refusal at item j, of whatever items these are the briefs, and whatever is
-- around
abbrev pub Says : List Brief → ℕ → Around → coded.Held → Refusal → ℕ → Type 0
Says t i a h q j =
    (k : Kinds) (xs : List Item) → Told k xs t → (bs : List Box) → Boxed a bs
    → refused (number_of q) j ≡ rest_of k xs i (state_of a (holds_of h) bs)

-- so it is, and j is an item of the row from i on, or its end
pub record Refuses (t : List Brief) (i : ℕ) (a : Around) (h : coded.Held) (q : Refusal) (j : ℕ) : Type 0 where
  pub same : Says t i a h q j
  pub within : j ≤ length t
  pub ahead : i ≤ j

-- the block checker has come out of the row: the verdict is the same from there
pub record Leaves (t : List Brief) (i : ℕ) (a : Around) (h : coded.Held) (r : Out) : Type 0 where
  pub same : (k : Kinds) (xs : List Item) → Told k xs t → (bs : List Box) → Boxed a bs
      → rest_of k xs r.at (out_state r bs) ≡ rest_of k xs i (state_of a (holds_of h) bs)
  pub within : r.at ≤ length t
  pub ahead : i ≤ r.at
  pub done : (k : Kinds) (xs : List Item) → Told k xs t → (bs : List Box) → Boxed a bs → a.depth ≡ 0
      → rest_of k xs r.at (out_state r bs) ≡ accepted

-- the item checker has passed item i, and the box that it opens
pub record Passes (t : List Brief) (i : ℕ) (a : Around) (h : coded.Held) (r : Walk) : Type 0 where
  pub same : (k : Kinds) (xs : List Item) → Told k xs t → (bs : List Box) → Boxed a bs
      → rest_of k xs r.at (state_after r.closed a (holds_of r.held) bs) ≡ rest_of k xs i (state_of a (holds_of h) bs)
  pub within : r.at ≤ length t
  pub later : i < r.at
  pub inside : r.closed ≡ true → a.depth ≡ 0 → ⊥

abbrev pub Went : List Brief → ℕ → Around → coded.Held → Result Out Refused → Type 0
Went t i a h (Ok r) = Leaves t i a h r
Went t i a h (Err e) = Refuses t i a h e.0 e.1

abbrev pub Took : List Brief → ℕ → Around → coded.Held → Result Walk Refused → Type 0
Took t i a h (Ok r) = Passes t i a h r
Took t i a h (Err e) = Refuses t i a h e.0 e.1
