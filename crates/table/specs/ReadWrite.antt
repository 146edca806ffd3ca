-- What an item reads and writes (01, Script text and The checker), and the tests on it that the checker and the machine
-- share: 19 with 61, 20 with 60, 23 with 64.
use Rattle.std.specs.Prelude.{Option, Some, None}
use Rattle.std.specs.Prelude.{ℕ, Bool, true, false, not, ◌||◌, cond, List, [], ◌∷◌, get_or}
use Rattle.table.specs.Item.{Value, Operand, Condition, Act, Pack, Head, Item}
pub use Rattle.table.specs.declared.Kind.{Kind}
pub use Rattle.table.specs.declared.Read.{Read}
pub use Rattle.table.specs.declared.Write.{Write}
use Rattle.table.specs.declared.Branch.TheVariants as Branch

-- ---- reads: an operand of any kind, two of one kind, or one that has to be a float

abbrev pub condition_reads : Condition → List Read
condition_reads c = Read.Alike c.left c.right ∷ []

abbrev pub head_reads : Head → List Read
head_reads (Head.If c) = condition_reads c
head_reads (Head.Loop c) = condition_reads c
head_reads (Head.Sweep w) =
    Read.Float w.begin ∷ Read.Float w.end ∷ Read.Float w.step ∷ Read.Float w.rate ∷ []

abbrev pub act_reads : Act → List Read
act_reads (Act.Var v) = []
act_reads (Act.Store v l t) = []
act_reads (Act.Copy a b) = Read.Any (Operand.Name a) ∷ []
act_reads (Act.Calc o v x) = Read.Alike (Operand.Name v) x ∷ []
act_reads (Act.Meas f v t) = Read.Float f ∷ []
act_reads (Act.TimerGet v) = []
act_reads (Act.SendString s) = []
act_reads (Act.Wait f) = Read.Float f ∷ []
act_reads (Act.SetE f) = Read.Float f ∷ []
act_reads (Act.SetMode n) = []
act_reads Act.TimerStart = []
act_reads Act.CellOn = []
act_reads Act.CellOff = []
act_reads Act.Abort = []

abbrev pub reads_of : Item → List Read
reads_of (Item.Act a) = act_reads a
reads_of (Item.Pack Pack.Start) = []
reads_of (Item.Pack Pack.End) = []
reads_of (Item.Pack (Pack.Add v)) = Read.Any (Operand.Name v) ∷ []
reads_of (Item.Open h) = head_reads h
reads_of (Item.Branch (Branch.ElseIf c)) = condition_reads c
reads_of (Item.Branch Branch.Else) = []
reads_of (Item.Close e) = []
reads_of Item.Break = []
reads_of Item.Tag = []

-- ---- writes: a name with the kind of an operand, or a name with a float. Arithmetic has the kind of its first
-- operand, the name itself.

abbrev pub act_writes : Act → List Write
act_writes (Act.Var v) = []
act_writes (Act.Store v l t) = Write.Like v (Operand.Literal l) ∷ []
act_writes (Act.Copy a b) = Write.Like b (Operand.Name a) ∷ []
act_writes (Act.Calc o v x) = Write.Like v (Operand.Name v) ∷ []
act_writes (Act.Meas f v t) = Write.Float v ∷ []
act_writes (Act.TimerGet v) = Write.Float v ∷ []
act_writes (Act.SendString s) = []
act_writes (Act.Wait f) = []
act_writes (Act.SetE f) = []
act_writes (Act.SetMode n) = []
act_writes Act.TimerStart = []
act_writes Act.CellOn = []
act_writes Act.CellOff = []
act_writes Act.Abort = []

abbrev pub head_writes : Head → List Write
head_writes (Head.If c) = []
head_writes (Head.Loop c) = []
head_writes (Head.Sweep w) = Write.Float w.potential ∷ Write.Float w.current ∷ []

abbrev pub writes_of : Item → List Write
writes_of (Item.Act a) = act_writes a
writes_of (Item.Pack p) = []
writes_of (Item.Open h) = head_writes h
writes_of (Item.Branch b) = []
writes_of (Item.Close e) = []
writes_of Item.Break = []
writes_of Item.Tag = []

-- ---- kinds: 19 and 61

abbrev pub kind_of : Value → Kind
kind_of (Value.Whole z) = Kind.Whole
kind_of (Value.Real x) = Kind.Real

abbrev pub alike_kind : Kind → Kind → Bool
alike_kind Kind.Whole Kind.Whole = true
alike_kind Kind.Whole Kind.Real = false
alike_kind Kind.Real Kind.Whole = false
alike_kind Kind.Real Kind.Real = true

-- two kinds that are known, and differ
abbrev pub differ : Option Kind → Option Kind → Bool
differ None k = false
differ (Some j) None = false
differ (Some j) (Some k) = not (alike_kind j k)

-- the kinds of the 32 names
abbrev pub Kinds : Type 0
Kinds = List (Option Kind)

abbrev pub kind_at : Kinds → ℕ → Option Kind
kind_at k n = get_or k n None

module _ (kind : ℕ → Option Kind) where
  abbrev pub kind_in : Operand → Option Kind
  kind_in (Operand.Name n) = kind n
  kind_in (Operand.Literal l) = Some (kind_of l)

  -- two operands of different kinds, or not the kind asked for
  abbrev pub wrong : List Read → Bool
  wrong [] = false
  wrong (Read.Any x ∷ ws) = wrong ws
  wrong (Read.Alike x y ∷ ws) = wrong ws || differ (kind_in x) (kind_in y)
  wrong (Read.Float x ∷ ws) = wrong ws || differ (kind_in x) (Some Kind.Real)

  -- a name written with the other kind
  abbrev pub wrong_write : List Write → Bool
  wrong_write [] = false
  wrong_write (Write.Like n x ∷ gs) = wrong_write gs || differ (kind n) (kind_in x)
  wrong_write (Write.Float n ∷ gs) = wrong_write gs || differ (kind n) (Some Kind.Real)

-- ---- sets of names, one flag for each of the 32

abbrev pub Names : Type 0
Names = List Bool

abbrev pub has : Names → ℕ → Bool
has s n = get_or s n false

-- ---- 20 and 60: a name is read that is not among those that are there
module _ (there : ℕ → Bool) where
  abbrev pub gone : Operand → Bool
  gone (Operand.Name n) = not (there n)
  gone (Operand.Literal l) = false

  abbrev pub missing : List Read → Bool
  missing [] = false
  missing (Read.Any x ∷ ws) = missing ws || gone x
  missing (Read.Alike x y ∷ ws) = missing ws || (gone x || gone y)
  missing (Read.Float x ∷ ws) = missing ws || gone x

-- ---- 23 and 64: the package order. pck_start in a package, pck_add or pck_end outside, any box mark, breakloop or tag
-- in a package
abbrev pub breaks_order : Item → Bool → Bool
breaks_order (Item.Act a) p = false
breaks_order (Item.Pack Pack.Start) p = p
breaks_order (Item.Pack Pack.End) p = not p
breaks_order (Item.Pack (Pack.Add v)) p = not p
breaks_order (Item.Open h) p = p
breaks_order (Item.Branch b) p = p
breaks_order (Item.Close e) p = p
breaks_order Item.Break p = p
breaks_order Item.Tag p = p

-- whether a package is open after a package's mark
abbrev pub packs : Pack → Bool → Bool
packs Pack.Start p = true
packs Pack.End p = false
packs (Pack.Add v) p = p

-- the lowest number whose test says true, of rows in rising order; 0 where none does
abbrev pub lowest : List (ℕ × Bool) → ℕ
lowest [] = 0
lowest (r ∷ rs) = cond r.1 r.0 (lowest rs)
