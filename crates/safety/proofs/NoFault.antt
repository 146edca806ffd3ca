-- At no item of an accepted script has the machine a fault: 60 to 64, tested before the offer.
use Prim.Native.Nat.{ℕ, suc}
use mathlib.Core.Path.{◌≡◌, refl, ◌∙◌}
use mathlib.Core.Logic.{inl, inr}
use mathlib.Core.Bool.{Bool, true, false, ◌&&◌, cond}
use mathlib.Core.List.{List, [], ◌∷◌}
use lib.Dec.{leb}
use lib.ListN.{length}
use borrow.Author.Tests.{eq-eqb, not-false}
use Rattle.laws.proofs.Lists.{drop-get_or}
use Rattle.table.specs.declared.Condition.{Condition}
use Rattle.table.specs.declared.Head.TheVariants as Head
use Rattle.table.specs.declared.Item.{Item}
use Rattle.table.specs.declared.Read.{Read}
use Rattle.table.specs.Item.{is_open, is_loop, opens_a, fits}
use Rattle.table.specs.ReadWrite.{act_reads, reads_of, Kinds, wrong, Names, missing, lowest}
use Rattle.mates.specs.declared.Open.{Open}
use Rattle.mates.specs.Mates.{item_at}
use Rattle.rules.specs.Check.{any_box}
use Rattle.rules.proofs.Placed.{Box, Placed, plains}
use Rattle.state.specs.State.{Vars, written, kind_now, holds, State}
use Rattle.steps.specs.Machine.{unwind, strays, reads, astray, too_deep, faults, Chosen, otherwise, bad_of, tries}
use Rattle.safety.proofs.Laws.{no, no'}
use Rattle.safety.proofs.Walk.{text_kinds, Accepted, more, Clean, closes_fits, branch_fits, clean}
use Rattle.safety.proofs.Boxes.{erase, Headed, Heads}
use Rattle.safety.proofs.Static.{static}
use Rattle.safety.proofs.Mates.{no_mark_lem, Under, here, there, Picks, goes, passes, close_head, Readable}
use Rattle.safety.proofs.Mates.{choose_good}
use Rattle.safety.proofs.Names.{Knows, there_now, wrong_now}
use Rattle.safety.proofs.Stands.{positions, length-positions, Opened, Here, not_again, knows}

and-false : (a : Bool) → (a && false) ≡ false
and-false true = refl
and-false false = refl

module _ {names size : ℕ} {items : List Item} (ok : Accepted names size items) where
  -- ---- 60 and 61

  pub readable : {su : Names} {vs : Vars} → Knows (text_kinds items) su vs → Readable ok su vs
  readable a ws e f = rw (there_now a ws e, wrong_now a ws e, f)

  abbrev NoFault : List Read → Vars → Type 0
  NoFault ws vs = (missing (written vs) ws ≡ false) × (wrong (kind_now vs) ws ≡ false)

  -- the item x reads only what is written, and of the right kinds
  reads_fine : (x : Item) {s : Placed} {vs : Vars} → Clean (text_kinds items) s x → Knows (text_kinds items) s.sure vs
      → NoFault (reads x) vs
  reads_fine (Item.Act a) c n = (there_now n (act_reads a) c.there, wrong_now n (act_reads a) c.there ∙ c.kinds)
  reads_fine (Item.Pack p) c n =
      (there_now n (reads_of (Item.Pack p)) c.there, wrong_now n (reads_of (Item.Pack p)) c.there ∙ c.kinds)
  reads_fine (Item.Open h) c n =
      (there_now n (reads_of (Item.Open h)) c.there, wrong_now n (reads_of (Item.Open h)) c.there ∙ c.kinds)
  reads_fine (Item.Branch b) c n = (refl, refl)
  reads_fine (Item.Close e) c n = (refl, refl)
  reads_fine Item.Break c n = (refl, refl)
  reads_fine Item.Tag c n = (refl, refl)

  -- ---- 62

  -- an innermost open loop
  pub record Loop (i : ℕ) (st : List Open) (xs : List Item) (tg : Bool) (l : List Box) : Type 0 where
    pub b : Box
    pub bs : List Box
    pub under : Under b bs l
    pub headed : Headed items i st xs tg b bs
    pub loops : is_loop b.sort ≡ true
    pub found : unwind items (positions l) ≡ b.at ∷ positions bs

  pub find_loop : (i : ℕ) (st : List Open) (xs : List Item) (tg : Bool) (l : List Box) → Heads items i st xs tg l
      → any_box is_loop (plains l) ≡ true → Loop i st xs tg l
  find_loop i st xs tg [] h a = no' a
  find_loop i st xs tg (b ∷ bs) h a = go (is_loop b.sort) refl (λ q. find_loop i st xs tg bs h.1 q)
    where
      item : opens_a is_loop (item_at items b.at) ≡ is_loop b.sort
      item =
          rw (
            drop-get_or b.at items Item.Tag (Item.Open h.0.head) h.0.body (static ok h.0.reach).text,
            h.0.sort,
          )

      go : (f : Bool) → is_loop b.sort ≡ f → (any_box is_loop (plains bs) ≡ true → Loop i st xs tg bs)
          → Loop i st xs tg (b ∷ bs)
      go true e rec = record { b = b; bs = bs; under = here; headed = h.0; loops = e; found = rw (item, e) }
      go false e rec =
          let r = rec (rw e at a) in
          record {
            b = r.b;
            bs = r.bs;
            under = there r.under;
            headed = r.headed;
            loops = r.loops;
            found = rw (item, e) r.found;
          }

  pub innermost_loop : {m : State} {su : Names} {l : List Box} {p tg : Bool} {k : Kinds} {xs : List Item}
      → Here ok m su l p tg k (Item.Break ∷ xs)
      → Loop m.at (erase l) (Item.Break ∷ xs) tg l
  innermost_loop {l = []} h = no (clean ok h.reach).placed
  innermost_loop {m} {l = b ∷ bs} {tg = tg} {xs = xs} h =
      find_loop m.at (erase (b ∷ bs)) (Item.Break ∷ xs) tg (b ∷ bs) (static ok h.reach).heads
      (not-false (any_box is_loop (plains (b ∷ bs))) (clean ok h.reach).placed)

  strays_not : (x : Item) {ps : List ℕ} (b : Box) (bs : List Box) → ps ≡ positions (b ∷ bs) → fits x b.sort ≡ true
      → strays x ps (erase (b ∷ bs)) ≡ false
  strays_not x b bs q f = rw (q, f, eq-eqb b.at b.at refl)

  module _ {m : State} {su : Names} {p tg : Bool} {k : Kinds} {xs : List Item} where
    not_astray : (x : Item) (l : List Box) → Here ok m su l p tg k (x ∷ xs) → astray items m x ≡ false
    not_astray (Item.Act a) l h = refl
    not_astray (Item.Pack a) l h = refl
    not_astray (Item.Open a) l h = rw (close_head ok h.reach).is
    not_astray (Item.Branch a) [] h = no (clean ok h.reach).placed
    not_astray (Item.Branch a) (b ∷ bs) h =
        rw (
          (static ok h.reach).scanned,
          strays_not (Item.Branch a) b bs (not_again ok h refl) (branch_fits a b bs (clean ok h.reach).placed),
        )
    not_astray (Item.Close a) [] h = no (clean ok h.reach).placed
    not_astray (Item.Close a) (b ∷ bs) h =
        rw (
          (static ok h.reach).scanned,
          strays_not (Item.Close a) b bs (not_again ok h refl) (closes_fits a b bs (clean ok h.reach).placed),
        )
    not_astray Item.Break l h = rw (not_again ok h refl, (innermost_loop h).found)
    not_astray Item.Tag l h = refl

  -- ---- 63, and all of them

  module _ {m : State} {su : Names} {l : List Box} {p tg : Bool} {k : Kinds} {x : Item} {xs : List Item}
      (h : Here ok m su l p tg k (x ∷ xs)) where
    not_full : too_deep m x ≡ false
    not_full = go h.boxes
      where
        go : Opened m.at (x ∷ xs) m.boxes l → too_deep m x ≡ false
        go (inl q) = rw (q, length-positions l, (clean ok h.reach).eighth)
        go (inr q) =
            rw (q.0, q.1, eq-eqb m.at m.at refl) (and-false (is_open x && leb 8 (suc (length (positions l)))))

    pub no_fault : lowest (faults items m x) ≡ 0
    no_fault =
        let c = clean ok h.reach in
        let r = reads_fine x c (knows ok h) in
        rw (r.0, r.1, not_astray x l h, not_full, h.packed, c.packed)

  -- ---- the mates that a false condition tries

  module _ {m : State} {su : Names} {l : List Box} {p tg : Bool} {k : Kinds} {c : Condition} {xs : List Item}
      (h : Here ok m su l p tg k (Item.Open (Head.If c) ∷ xs)) where
    pub mates_good : Picks items m.at su l (otherwise items m)
    mates_good =
        let s = static ok h.reach in
        rw (s.scanned, s.text, no_mark_lem (Item.Open (Head.If c)) (λ s. refl) m.at (erase l))
        (choose_good ok m.vars xs (more h.reach) here refl refl (readable (knows ok h)))

  picks_good : {i : ℕ} {su : Names} {l : List Box} {d : Chosen} → Picks items i su l d → bad_of d ≡ 0
  picks_good (goes r e f) = refl
  picks_good (passes r e) = refl

  pub no_try : {m : State} {su : Names} {l : List Box} {p tg : Bool} {k : Kinds} (x : Item) {xs : List Item}
      → Here ok m su l p tg k (x ∷ xs) → tries items m x ≡ 0
  no_try (Item.Act a) h = refl
  no_try (Item.Pack q) h = refl
  no_try {m} (Item.Open (Head.If c)) h = go (holds m.vars c)
    where
      go : (b : Bool) → cond b 0 (bad_of (otherwise items m)) ≡ 0
      go true = refl
      go false = picks_good (mates_good h)
  no_try (Item.Open (Head.Loop c)) h = refl
  no_try (Item.Open (Head.Sweep w)) h = refl
  no_try (Item.Branch b) h = refl
  no_try (Item.Close e) h = refl
  no_try Item.Break h = refl
  no_try Item.Tag h = refl
