-- The invariant: a run of an accepted script stands where the checker's walk stood.
use Prim.Native.Nat.{ℕ, suc}
use mathlib.Core.Path.{◌≡◌, refl, sym, ap, ◌∙◌, subst}
use mathlib.Core.Logic.{◌⊎◌, inl, inr}
use mathlib.Core.Bool.{Bool, true, false, not, ◌&&◌}
use mathlib.Core.List.{List, [], ◌∷◌}
use native.Mathlib.Omega.{arith}
use lib.Dec.{ltb, leb}
use lib.ListN.{length}
use borrow.Author.Tests.{leb-false, ne_eqb, eq-eqb, lt-ltb, le-leb}
use Rattle.laws.proofs.Lists.{drop-get_or}
use Rattle.table.specs.declared.Head.{Head}
use Rattle.table.specs.declared.Item.{Item}
use Rattle.table.specs.Item.{is_open, is_loop, opens_a}
use Rattle.table.specs.ReadWrite.{writes_of, Kinds, kind_at, Names}
use Rattle.mates.specs.declared.Open.{Open}
use Rattle.mates.specs.Mates.{close_of, item_at}
use Rattle.rules.specs.Check.{is_known, learn, kinds_of}
use Rattle.rules.proofs.Placed.{Box, Placed}
use Rattle.rules.proofs.Writes.{learns}
use Rattle.state.specs.State.{Status, live, finished_run, stopped_run, fault_run, State}
use Rattle.steps.specs.Machine.{outside, is_none, opens_ok, state_ok}
use Rattle.safety.specs.Safety.{is_code}
use Rattle.safety.proofs.Laws.{no, no', and_t}
use Rattle.safety.proofs.Walk.{text_kinds, Accepted, state, Reach, clean, reach_kinds}
use Rattle.safety.proofs.Boxes.{erase, Below, Heads}
use Rattle.safety.proofs.Sure.{Within, learn_up}
use Rattle.safety.proofs.Static.{static}
use Rattle.safety.proofs.Mates.{close_head}
use Rattle.safety.proofs.Names.{Covers, AllCover, VarsOk, cells_ok_lem, Knows}

abbrev pub positions : List Box → List ℕ
positions [] = []
positions (b ∷ bs) = b.at ∷ positions bs

pub length-positions : (l : List Box) → length (positions l) ≡ length l
length-positions [] = refl
length-positions (b ∷ bs) = ap suc (length-positions bs)

abbrev pub first_loop : List Item → Bool
first_loop [] = false
first_loop (x ∷ xs) = opens_a is_loop x

-- the run's open boxes are the text's, or at a loop item its own box too
abbrev pub Opened : ℕ → List Item → List ℕ → List Box → Type 0
Opened i xs ps l = (ps ≡ positions l) ⊎ ((ps ≡ i ∷ positions l) × (first_loop xs ≡ true))

outside_eq : (i : ℕ) (xs : List Item) (ps : List ℕ) (l : List Box) → Below i l → Opened i xs ps l
    → outside i ps ≡ positions l
outside_eq i xs ps [] w (inl q) = rw q
outside_eq i xs ps (b ∷ bs) w (inl q) = rw (q, ne_eqb b.at i (λ e. omega (arith, w.0)))
outside_eq i xs ps l w (inr q) = rw (q.0, eq-eqb i i refl)

module _ {names size : ℕ} {items : List Item} (ok : Accepted names size items) where
  -- the checker's state before the item: su surely written, the boxes l, a package open or not, the tag seen or not
  pub record Here (m : State) (su : Names) (l : List Box) (p tg : Bool) (k : Kinds) (xs : List Item) : Type 0 where
    pub reach : Reach items m.at (state su l p tg) k xs
    pub boxes : Opened m.at xs m.boxes l
    pub packed : m.packed ≡ p
    pub cover : Covers su m.vars
    pub covers : AllCover l m.vars
    pub vars : VarsOk (text_kinds items) m.vars
    pub living : m.status ≡ live

  pub record Inv (m : State) : Type 0 where
    pub su : Names
    pub l : List Box
    pub p : Bool
    pub tg : Bool
    pub k : Kinds
    pub xs : List Item
    pub stands : Here m su l p tg k xs

  -- a run that has ended or stopped only repeats its answer; it is never broken by a fault
  abbrev pub Life : Status → State → Type 0
  Life live m = Inv m
  Life finished_run m = Unit {0}
  Life (stopped_run c) m = is_code c ≡ true
  Life (fault_run n) m = ⊥

  pub record Good (m : State) : Type 0 where
    pub shape : state_ok items m ≡ true
    pub life : Life m.status m

  -- ---- a run that stands so is in shape

  head_ok : {i : ℕ} {su : Names} {l : List Box} {p tg : Bool} {k : Kinds} {h : Head} {ys : List Item}
      → Reach items i (state su l p tg) k (Item.Open h ∷ ys)
      → (ltb i (length items) && is_open (item_at items i) && not (is_none (close_of items i))) ≡ true
  head_ok {i} {h = h} {ys = ys} r =
      let s = static ok r in
      rw (
        lt-ltb i (length items) (omega (arith, s.span)),
        drop-get_or i items Item.Tag (Item.Open h) ys s.text,
        (close_head ok r).is,
      )

  heads_ok : (i : ℕ) (st : List Open) (xs : List Item) (tg : Bool) (l : List Box) → Heads items i st xs tg l
      → opens_ok items (positions l) ≡ true
  heads_ok i st xs tg [] h = refl
  heads_ok i st xs tg (b ∷ bs) h = and_t (head_ok h.0.reach) (heads_ok i st xs tg bs h.1)

  opens_ok_lem : {i : ℕ} {su : Names} {l : List Box} {p tg : Bool} {k : Kinds} (xs : List Item) (ps : List ℕ)
      → Reach items i (state su l p tg) k xs
      → Opened i xs ps l → (leb (length ps) 8 ≡ true) × (opens_ok items ps ≡ true)
  opens_ok_lem {i} {l = l} {tg = tg} xs ps r (inl q) =
      let s = static ok r in
      rw q (
        le-leb (length (positions l)) 8 (omega (arith, length-positions l, s.few)),
        heads_ok i (erase l) xs tg l s.heads,
      )
  opens_ok_lem [] ps r (inr q) = no' q.1
  opens_ok_lem {i} {l = l} {tg = tg} (Item.Open h ∷ xs) ps r (inr q) =
      let s = static ok r in
      rw q.0 (
        le-leb (suc (length (positions l))) 8
            (omega (arith, length-positions l, leb-false 8 (length l) (clean ok r).eighth)),
        and_t (head_ok r) (heads_ok i (erase l) (Item.Open h ∷ xs) tg l s.heads),
      )
  opens_ok_lem (Item.Act a ∷ xs) ps r (inr q) = no' q.1
  opens_ok_lem (Item.Pack a ∷ xs) ps r (inr q) = no' q.1
  opens_ok_lem (Item.Branch a ∷ xs) ps r (inr q) = no' q.1
  opens_ok_lem (Item.Close a ∷ xs) ps r (inr q) = no' q.1
  opens_ok_lem (Item.Break ∷ xs) ps r (inr q) = no' q.1
  opens_ok_lem (Item.Tag ∷ xs) ps r (inr q) = no' q.1

  module _ {m : State} {su : Names} {l : List Box} {p tg : Bool} {k : Kinds} where
    pub shape_of : {xs : List Item} → Here m su l p tg k xs → state_ok items m ≡ true
    shape_of {xs} h =
        let s = static ok h.reach in
        let o = opens_ok_lem xs m.boxes h.reach h.boxes in
        rw (le-leb m.at (length items) (omega (arith, s.span)), o.0, o.1) (cells_ok_lem m.vars h.vars.fine)

    pub good : {xs : List Item} → Here m su l p tg k xs → Good m
    good {xs} h = record {
      shape = shape_of h;
      life =
          subst (λ (c : Status). Life c m) (sym h.living)
          (record { su = su; l = l; p = p; tg = tg; k = k; xs = xs; stands = h });
    }

    -- where a step lands
    pub land : {xs : List Item} → Reach items m.at (state su l p tg) k xs
        → Opened m.at xs m.boxes l → m.packed ≡ p → Covers su m.vars → AllCover l m.vars
        → VarsOk (text_kinds items) m.vars → m.status ≡ live → Good m
    land r o q c d v a = good (record { reach = r; boxes = o; packed = q; cover = c; covers = d; vars = v; living = a })

    -- at an item that is no loop the open boxes are the text's
    pub not_again : {x : Item} {xs : List Item} → Here m su l p tg k (x ∷ xs) → opens_a is_loop x ≡ false
        → m.boxes ≡ positions l
    not_again {x} {xs} h e = go h.boxes
      where
        go : Opened m.at (x ∷ xs) m.boxes l → m.boxes ≡ positions l
        go (inl q) = q
        go (inr q) = no (sym q.1 ∙ e)

    -- outside its own box too
    pub outside_is : {xs : List Item} → Here m su l p tg k xs → outside m.at m.boxes ≡ positions l
    outside_is {xs} h = outside_eq m.at xs m.boxes l (static ok h.reach).below h.boxes

  -- ---- the kinds of the whole text

  kinds_up : (xs : List Item) (k : Kinds) (n : ℕ) → is_known (kind_at k n) ≡ true
      → is_known (kind_at (kinds_of k xs) n) ≡ true
  kinds_up [] k n h = h
  kinds_up (x ∷ xs) k n h = rw (learns k x) (kinds_up xs (learn k (writes_of x)) n (learn_up (writes_of x) k n h))

  sure_kinds : {i : ℕ} {s : Placed} {k : Kinds} {xs : List Item} → Reach items i s k xs
      → Within s.sure (text_kinds items)
  sure_kinds {k = k} {xs = xs} r n h = rw (reach_kinds ok r) at (kinds_up xs k n ((static ok r).sure_known n h))

  pub knows : {m : State} {su : Names} {l : List Box} {p tg : Bool} {k : Kinds} {xs : List Item} → Here m su l p tg k xs
      → Knows (text_kinds items) su m.vars
  knows h = record { cover = h.cover; kinds = sure_kinds h.reach; vars = h.vars }
