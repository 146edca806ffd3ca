-- One step of an accepted script: what it answers, and the run that it leaves.
use Prim.Native.Nat.{ℕ, suc, ◌≤◌}
use mathlib.Core.Path.{◌≡◌, refl, sym, ap, ◌∙◌}
use mathlib.Core.Logic.{inl, inr}
use mathlib.Core.Bool.{Bool, true, false, not, ◌&&◌, ◌||◌, cond}
use mathlib.Core.List.{List, [], ◌∷◌}
use mathlib.Core.Option.{Option, none, some}
use native.Mathlib.Omega.{arith}
use lib.ListN.{length, drop}
use borrow.Author.Tests.{le-leb, not-true}
use Rattle.table.specs.declared.Item.{Item}
use Rattle.table.specs.Item.{is_sweep}
use Rattle.table.specs.ReadWrite.{Kinds, Names, lowest}
use Rattle.rules.specs.Check.{is_empty}
use Rattle.rules.proofs.Placed.{Box, Placed, plains}
use Rattle.state.specs.declared.Control.{Control}
use Rattle.state.specs.declared.Offer.{Offer}
use Rattle.state.specs.State.{State, Out, Step, said, Meets, ready, short, amiss, wants_nothing, wanted_by, meets}
use Rattle.state.specs.State.{cleared, flagged}
use Rattle.steps.specs.Machine.{is_empty as has_none_open, any_open, leave_outs, is_none}
use Rattle.steps.specs.Machine.{next, run, served, finish, at_item}
use Rattle.steps.specs.Machine.{told, tag_from, ahead, abort_due, aborted, moved, state_ok}
use Rattle.safety.specs.Safety.{wanted_from, wanted_at, is_amiss}
use Rattle.steps.proofs.Stepping.{ahead_is}
use Rattle.safety.proofs.Laws.{no, no', or_r, and_r, not_nothing}
use Rattle.safety.proofs.Walk.{Accepted, state, Reach, outset, more, clean, ends}
use Rattle.safety.proofs.Static.{static}
use Rattle.safety.proofs.Names.{cells_ok_lem}
use Rattle.safety.proofs.Stands.{Opened, Here, Good, shape_of, good, land}
use Rattle.safety.proofs.NoFault.{no_fault, no_try}
use Rattle.safety.proofs.Items.{FineStep, run_fine}

abbrev pub is_short : Meets → Bool
is_short ready = false
is_short short = true
is_short amiss = false

-- where nothing is wanted there is no wait
quiet_short : (o : Offer) → is_short (meets wants_nothing o) ≡ false
quiet_short Offer.Nothing = refl
quiet_short (Offer.Float x) = refl
quiet_short (Offer.Point p) = refl
quiet_short Offer.Done = refl

module _ {names size : ℕ} {items : List Item} (ok : Accepted names size items) where
  -- a step of a run m that lives: made where the offer is what is wanted; m₁ is the run with the control, which a wait
  -- keeps
  pub record Comes (m : State) (wr : Bool) (s : Step) : Type 0 where
    pub met : Meets
    pub m₁ : State
    pub made : Step
    pub is : s ≡ served m m₁ met made
    pub amiss_is : is_amiss met ≡ wr
    pub waits : is_short met ≡ true → Good ok m₁
    pub fine : FineStep ok made

  quiet_comes : (m m₁ : State) (o : Offer) (s : Step) → FineStep ok s
      → Comes m (is_amiss (meets wants_nothing o)) (served m m₁ (meets wants_nothing o) s)
  quiet_comes m m₁ o s f =
      record {
        met = meets wants_nothing o;
        m₁ = m₁;
        made = s;
        is = refl;
        amiss_is = refl;
        waits = λ e. no' (sym (quiet_short o) ∙ e);
        fine = f;
      }

  finish_comes : (m₀ m : State) (o : Offer) (os : List Out) → state_ok items m ≡ true
      → Comes m₀ (is_amiss (meets wants_nothing o)) (finish m₀ m o os)
  finish_comes m₀ m o os g = quiet_comes m₀ m o _ (record { shape = g; life = tt })

  -- ---- an abort: to the tag, or to the end

  -- the item that an abort goes to
  record Tagged (i : ℕ) : Type 0 where
    s : Placed
    k : Kinds
    ys : List Item
    reach : Reach items i s k (Item.Tag ∷ ys)

  find_tag : (xs : List Item) (j : ℕ) {s : Placed} {k : Kinds} (i : ℕ) → Reach items j s k xs → tag_from j xs ≡ some i
      → Tagged i
  find_tag [] j i r e = no (ap is_none e)
  find_tag (Item.Tag ∷ xs) j {s} {k} i r e =
      let q : j ≡ i = cc in
      rw (← q) (record { s = s; k = k; ys = xs; reach = r })
  find_tag (Item.Act a ∷ xs) j i r e = find_tag xs (suc j) i (more r) e
  find_tag (Item.Pack a ∷ xs) j i r e = find_tag xs (suc j) i (more r) e
  find_tag (Item.Open a ∷ xs) j i r e = find_tag xs (suc j) i (more r) e
  find_tag (Item.Branch a ∷ xs) j i r e = find_tag xs (suc j) i (more r) e
  find_tag (Item.Close a ∷ xs) j i r e = find_tag xs (suc j) i (more r) e
  find_tag (Item.Break ∷ xs) j i r e = find_tag xs (suc j) i (more r) e

  none_open : (tg : Bool) (l : List Box) → (true && (tg || not (is_empty (plains l)))) ≡ false → l ≡ []
  none_open tg [] e = refl
  none_open tg (b ∷ bs) e = no (or_r tg true e)

  -- ---- from where the walk stood, m₀ before the step and m with the control

  module _ (m₀ : State) {m : State} {su : Names} {l : List Box} {p tg : Bool} {k : Kinds} (o : Offer) where
    end_boxes : Here ok m su l p tg k [] → has_none_open m.boxes ≡ true
    end_boxes h = go l h.boxes (ends ok h.reach).0
      where
        go : (l : List Box) → Opened m.at [] m.boxes l → is_empty (plains l) ≡ true → has_none_open m.boxes ≡ true
        go [] (inl q) e = rw q
        go (b ∷ bs) (inl q) e = no' e
        go l (inr q) e = no' q.1

    item_comes : (xs : List Item) → Here ok m su l p tg k xs
        → Comes m₀ (is_amiss (meets (wanted_from xs) o)) (at_item items m₀ m o xs)
    item_comes [] h =
        let z : lowest ((62, not (has_none_open m.boxes)) ∷ (64, m.packed) ∷ []) ≡ 0 =
        rw (end_boxes h, h.packed, (ends ok h.reach).1) in
        rw z (finish_comes m₀ m o [] (shape_of ok h))
    item_comes (x ∷ xs) h =
        rw (no_fault ok h, no_try ok x h) (record {
          met = meets (wanted_by x) o;
          m₁ = m;
          made = run items m x o;
          is = refl;
          amiss_is = refl;
          waits = λ e. good ok h;
          fine = run_fine ok x o h;
        })

    module _ {xs : List Item} (h : Here ok m su l p tg k xs) where
      -- all boxes closed, at item i
      cleared_ok : (i : ℕ) → i ≤ length items → state_ok items (cleared m i) ≡ true
      cleared_ok i g = rw (le-leb i (length items) g, cells_ok_lem m.vars h.vars.fine)

      abbrev to_end : Step
      to_end = finish m₀ (cleared m m.at) o (leave_outs items m.boxes)

      abbrev to_tag : ℕ → Step
      to_tag i = served m₀ (cleared m i) (meets wants_nothing o) (said (leave_outs items m.boxes) (next (cleared m i)))

      ending : Comes m₀ (is_amiss (meets wants_nothing o)) to_end
      ending =
          finish_comes m₀ (cleared m m.at) o (leave_outs items m.boxes)
          (cleared_ok m.at (omega (arith, (static ok h.reach).span)))

      tag_comes : {i : ℕ} → m.packed ≡ false → Tagged i → Comes m₀ (is_amiss (meets wants_nothing o)) (to_tag i)
      tag_comes {i} q g =
          quiet_comes m₀ (cleared m i) o _
          (land ok (more at_tag) (inl refl) q (λ n e. not_nothing n e) tt h.vars h.living)
        where
          boxes : g.s.boxes ≡ []
          boxes = none_open g.s.tagged g.s.boxes (clean ok g.reach).tagged

          at_tag : Reach items i (state g.s.sure [] false g.s.tagged) g.k (Item.Tag ∷ g.ys)
          at_tag = rw (boxes, (clean ok g.reach).packed) at g.reach

      abort_comes : (f : Option ℕ) → ahead m.at (tag_from 0 items) ≡ f → m.packed ≡ false
          → Comes m₀ (is_amiss (meets wants_nothing o)) (aborted items m₀ m o f)
      abort_comes none e q = ending
      abort_comes (some i) e q = tag_comes q (find_tag items 0 i outset (ahead_is m.at (tag_from 0 items) i e))

      pub moved_comes : Comes m₀ (is_amiss (meets (wanted_at items m) o)) (moved items m₀ m o)
      moved_comes = go (abort_due items m) refl
        where
          go : (b : Bool) → abort_due items m ≡ b
              → Comes m₀ (is_amiss (meets (cond b wants_nothing (wanted_from (drop m.at items))) o))
              (cond b (aborted items m₀ m o (ahead m.at (tag_from 0 items)))
              (at_item items m₀ m o (drop m.at items)))
          go true e =
              abort_comes (ahead m.at (tag_from 0 items)) refl
              (not-true m.packed (and_r (m.pending && not (any_open is_sweep items m.boxes)) (not m.packed) e))
          go false e = rw (static ok h.reach).text (item_comes xs h)

  -- the flags move nothing, and so the control moves nothing
  flagged_here : {m : State} (a b : Bool) {su : Names} {l : List Box} {p tg : Bool} {k : Kinds} {xs : List Item}
      → Here ok m su l p tg k xs → Here ok (flagged m a b) su l p tg k xs
  flagged_here a b h =
      record {
        reach = h.reach;
        boxes = h.boxes;
        packed = h.packed;
        cover = h.cover;
        covers = h.covers;
        vars = h.vars;
        living = h.living;
      }

  pub told_here : {m : State} (c : Control) {su : Names} {l : List Box} {p tg : Bool} {k : Kinds} {xs : List Item}
      → Here ok m su l p tg k xs → Here ok (told items m c) su l p tg k xs
  told_here {m} Control.None h = h
  told_here {m} Control.Z h = flagged_here true m.skip h
  told_here {m} Control.Y h = flagged_here m.pending (m.skip || any_open is_sweep items m.boxes) h
