-- Every name that the checker is sure of has a kind by then.
use Rattle.std.proofs.Common.{Option, Some, None}
use Prim.Native.Nat.{ℕ, ◌<◌}
use mathlib.Core.Path.{◌≡◌, refl, sym, ap, ◌∙◌}
use mathlib.Core.Logic.{inl, inr}
use mathlib.Core.Bool.{Bool, true, false, not, cond}
use mathlib.Core.List.{List, [], ◌∷◌}
use native.Mathlib.Omega.{arith}
use lib.Dec.{ltb}
use lib.ListN.{length, set, length-set}
use lib.Seq.{get_or-set_same}
use borrow.Author.Tests.{not-false}
use Rattle.table.specs.declared.Kind.{Kind}
use Rattle.table.specs.declared.Operand.TheVariants as Operand
use Rattle.table.specs.declared.Act.{Act}
use Rattle.table.specs.declared.Head.{Head}
use Rattle.table.specs.declared.Item.{Item}
use Rattle.table.specs.declared.Sort.{Sort}
use Rattle.table.specs.declared.Write.{Write}
use Rattle.table.specs.ReadWrite.{act_reads, reads_of, act_writes, head_writes, writes_of, Kinds, kind_at, kind_in}
use Rattle.table.specs.ReadWrite.{Names}
use Rattle.table.specs.ReadWrite.{has, gone, missing}
use Rattle.table.specs.Shape.{writes_ok, item_ok}
use Rattle.sets.specs.Names.{everything, both, put}
use Rattle.rules.specs.Check.{is_known, or_else, learn, base, after_box}
use Rattle.rules.proofs.Placed.{Box, plain, bare, after}
use Rattle.safety.proofs.Laws.{no', or_l, and_l, AfterSet, get_d_set, both_l, both_r, not_nothing}
use Rattle.safety.proofs.Walk.{Accepted, state, writes_ok_lem, like_below, float_below}

-- every name of the set has a kind
abbrev pub Within : Names → Kinds → Type 0
Within s k = (n : ℕ) → has s n ≡ true → is_known (kind_at k n) ≡ true

abbrev pub AllWithin : List Box → Kinds → Type 0
AllWithin [] k = Unit {0}
AllWithin (b ∷ bs) k = Within b.before k × AllWithin bs k

-- each name written is one of the 32, with a kind that is known
abbrev Giving : Kinds → List Write → Type 0
Giving k [] = Unit {0}
Giving k (Write.Like n x ∷ gs) =
    (n < 32) × (is_known (kind_in (kind_at k) x) ≡ true) × Giving (set k n (or_else (kind_at k n) (kind_in
    (kind_at k) x))) gs
Giving k (Write.Float n ∷ gs) = (n < 32) × Giving (set k n (or_else (kind_at k n) (Some Kind.Real))) gs

known_or : (a b : Option Kind) → is_known b ≡ true → is_known (or_else a b) ≡ true
known_or None b h = h
known_or (Some j) b h = refl

known_orl : (a b : Option Kind) → is_known a ≡ true → is_known (or_else a b) ≡ true
known_orl None b h = no' h
known_orl (Some j) b h = refl

-- a kind once known stays
kind_up : (k : Kinds) (v : ℕ) (y : Option Kind) (n : ℕ) → is_known (kind_at k n) ≡ true
    → is_known (kind_at (set k v (or_else (kind_at k v) y)) n) ≡ true
kind_up k v y n h = go (get_d_set k v (or_else (kind_at k v) y) n None)
  where
    go : AfterSet k v (or_else (kind_at k v) y) n None
        → is_known (kind_at (set k v (or_else (kind_at k v) y)) n) ≡ true
    go (inl q) = ap is_known q.1 ∙ known_orl (kind_at k v) y (ap (λ (m : ℕ). is_known (kind_at k m)) (sym q.0) ∙ h)
    go (inr q) = ap is_known q ∙ h

pub learn_up : (gs : List Write) (k : Kinds) (n : ℕ) → is_known (kind_at k n) ≡ true
    → is_known (kind_at (learn k gs) n) ≡ true
learn_up [] k n h = h
learn_up (Write.Like v x ∷ gs) k n h = learn_up gs _ n (kind_up k v (kind_in (kind_at k) x) n h)
learn_up (Write.Float v ∷ gs) k n h = learn_up gs _ n (kind_up k v (Some Kind.Real) n h)

-- what is put is known, where the kind given is
set_known : (s : Names) (k : Kinds) (v : ℕ) (y : Option Kind) → length k ≡ 32 → v < 32 → is_known y ≡ true → Within s k
    → Within (set s v true) (set k v (or_else (kind_at k v) y))
set_known s k v y l u e w n h = go (get_d_set s v true n false)
  where
    go : AfterSet s v true n false → is_known (kind_at (set k v (or_else (kind_at k v) y)) n) ≡ true
    go (inl q) =
        rw (q.0, get_or-set_same k v (or_else (kind_at k v) y) None (omega arith)) (known_or (kind_at k v) y e)
    go (inr q) = kind_up k v y n (w n (sym q ∙ h))

put_known : (gs : List Write) (s : Names) (k : Kinds) → length k ≡ 32 → Within s k → Giving k gs
    → Within (put s gs) (learn k gs)
put_known [] s k l w g = w
put_known (Write.Like v x ∷ gs) s k l w g =
    put_known gs _ _ (length-set k v _ ∙ l) (set_known s k v (kind_in (kind_at k) x) l g.0 g.1 w) g.2
put_known (Write.Float v ∷ gs) s k l w g =
    put_known gs _ _ (length-set k v _ ∙ l) (set_known s k v (Some Kind.Real) l g.0 refl w) g.1

pub learn-length : (gs : List Write) (k : Kinds) → length (learn k gs) ≡ length k
learn-length [] k = refl
learn-length (Write.Like v x ∷ gs) k = learn-length gs _ ∙ length-set k v _
learn-length (Write.Float v ∷ gs) k = learn-length gs _ ∙ length-set k v _

all_up : (l : List Box) (k : Kinds) (gs : List Write) → AllWithin l k → AllWithin l (learn k gs)
all_up [] k gs h = tt
all_up (b ∷ bs) k gs h = (λ n e. learn_up gs k n (h.0 n e), all_up bs k gs h.1)

-- ---- one item further

module _ {names size : ℕ} {items : List Item} (ok : Accepted names size items) where
  giving_act : (a : Act) (su : Names) (k : Kinds) → writes_ok names (act_writes a) ≡ true
      → missing (has su) (act_reads a) ≡ false → Within su k → Giving k (act_writes a)
  giving_act (Act.Var v) su k g m w = tt
  giving_act (Act.Store v l c) su k g m w = (like_below ok v (Operand.Literal l) g, refl, tt)
  giving_act (Act.Copy a b) su k g m w = (like_below ok b (Operand.Name a) g, w a (not-false (has su a) m), tt)
  giving_act (Act.Calc o v x) su k g m w =
      (like_below ok v (Operand.Name v) g, w v (not-false (has su v) (or_l (not (has su v)) (gone (has su) x) m)), tt)
  giving_act (Act.Meas f v c) su k g m w = (float_below ok v [] g, tt)
  giving_act (Act.TimerGet v) su k g m w = (float_below ok v [] g, tt)
  giving_act (Act.SendString s) su k g m w = tt
  giving_act (Act.Wait f) su k g m w = tt
  giving_act (Act.SetE f) su k g m w = tt
  giving_act (Act.SetMode n) su k g m w = tt
  giving_act Act.TimerStart su k g m w = tt
  giving_act Act.CellOn su k g m w = tt
  giving_act Act.CellOff su k g m w = tt
  giving_act Act.Abort su k g m w = tt

  giving_head : (h : Head) (k : Kinds) → writes_ok names (head_writes h) ≡ true → Giving k (head_writes h)
  giving_head (Head.If c) k g = tt
  giving_head (Head.Loop c) k g = tt
  giving_head (Head.Sweep w) k g = (
    float_below ok w.potential (Write.Float w.current ∷ []) g,
    (float_below ok w.current [] (and_l (ltb w.current names) (ltb w.potential names) g), tt),
  )

  left_known : (o : Sort) (b : Box) (su : Names) (k : Kinds) → Within su k → Within b.before k
      → Within (after_box o (plain b) su) k
  left_known Sort.If b su k w v n e =
      w n (both_r b.every_end su n (both_l (both b.every_end su) (cond b.else_seen everything b.before) n e))
  left_known Sort.Loop b su k w v n e = v n e
  left_known Sort.Sweep b su k w v n e = v n e

  module _ (i : ℕ) (su : Names) (p tg : Bool) (k : Kinds) where
    pub sure_after : (l : List Box) (x : Item) → item_ok names size x ≡ true
        → missing (has (base (bare (state su l p tg)) x)) (reads_of x) ≡ false
        → length k ≡ 32 → Within su k → AllWithin l k
        → Within (after i (state su l p tg) x).sure (learn k (writes_of x))
    sure_after l (Item.Act a) g m e w v =
        put_known (act_writes a) su k e w (giving_act a su k (writes_ok_lem ok (Item.Act a) g) m w)
    sure_after l (Item.Pack q) g m e w v = w
    sure_after l (Item.Open h) g m e w v =
        put_known (head_writes h) su k e w (giving_head h k (writes_ok_lem ok (Item.Open h) g))
    sure_after [] (Item.Branch c) g m e w v = w
    sure_after (b ∷ bs) (Item.Branch c) g m e w v = v.0
    sure_after [] (Item.Close c) g m e w v = w
    sure_after (b ∷ bs) (Item.Close c) g m e w v = left_known b.sort b su k w v.0
    sure_after l Item.Break g m e w v = w
    sure_after l Item.Tag g m e w v = λ n h. not_nothing n h

    pub known_after : (l : List Box) (x : Item) → Within su k → AllWithin l k
        → AllWithin (after i (state su l p tg) x).boxes (learn k (writes_of x))
    known_after l (Item.Act a) w v = all_up l k (act_writes a) v
    known_after l (Item.Pack q) w v = v
    known_after l (Item.Open h) w v = (λ n e. learn_up (head_writes h) k n (w n e), all_up l k (head_writes h) v)
    known_after [] (Item.Branch c) w v = v
    known_after (b ∷ bs) (Item.Branch c) w v = v
    known_after [] (Item.Close c) w v = v
    known_after (b ∷ bs) (Item.Close c) w v = v.1
    known_after l Item.Break w v = v
    known_after l Item.Tag w v = v
