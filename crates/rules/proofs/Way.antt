-- The checker on its way. Assumes nothing.
use Rattle.std.proofs.Common.{Option, Some, None, Result, Ok, Err}
use Prim.Native.Nat.{ℕ, zero, suc, ◌+◌, ◌≤◌, ◌<◌}
use mathlib.Core.Path.{◌≡◌, refl, sym, ◌∙◌, ap, ap₂, subst}
use mathlib.Core.Bool.{Bool, true, false}
use mathlib.Core.List.{List, []}
use native.Mathlib.Omega.{arith}
use native.Mathlib.Numerals.{add-one}
use lib.ListN.{length, drop, replicate}
use Rattle.table.specs.declared.Item.{Item}
use Rattle.table.specs.declared.Table.{Table}
use Rattle.table.specs.ReadWrite.{Kinds, kind_at, reads_of, writes_of, lowest}
use Rattle.table.specs.Shape.{items_of, in_shape}
use Rattle.sets.specs.Names.{names_of}
use Rattle.rules.specs.Check.{Box, Held, begin, kinds_of, refusals_at_end, after, Verdict, accepted}
use Rattle.rules.specs.Check.{refused, or_go, walk, at_line, verdict}
use Rattle.rules.specs.declared.Refusal.{Refusal}
use Rattle.rules.specs.Verdict.{number_of, found}
use Rattle.rules.specs.Code.{Form, Around, Holds, holds_of, box_of, boxes_in, state_of, state_after, Boxed}
use Rattle.rules.specs.Code.{Brief, brief_at, NotedAt, Told, is_open, is_close, rows_in, rows_at_end, moved, Deeper}
use Rattle.rules.specs.Code.{entered}
use Rattle.rules.specs.Code.{Outside, Starts, Walk, Out, rest_of, Refused, outcome, out_state}
use Rattle.rules.specs.Code.{back_by, left_by, Says, Refuses, Leaves, Passes, Went, plain_form, wrong_both, mark_in}
use Rattle.rules.specs.declared.written.Held as coded
use Rattle.rules.proofs.Forms.{no, plain_form_lem}
use Rattle.rules.proofs.Rows.{judged_in, end_in_lem, no_mark_lem, right_form, no_box_left}
use Rattle.rules.proofs.After.{moved_is, close_inside, deeper_is, deeper_boxed, no_boxes, begins}
use Rattle.rules.proofs.Noting.{few_items, reached}

-- ---- a refusal: its number is none of no rule's

stands : (q : Refusal) (i : ℕ) (v : Verdict) → or_go (number_of q) i v ≡ refused (number_of q) i
stands Refusal.Kinds i v = refl
stands Refusal.Unwritten i v = refl
stands Refusal.Mark i v = refl
stands Refusal.Ninth i v = refl
stands Refusal.Package i v = refl
stands Refusal.Tag i v = refl
stands Refusal.SameName i v = refl
stands Refusal.Nested i v = refl
stands Refusal.Shape i v = refl

or_go-same : (n i : ℕ) (u v : Verdict) → (n ≡ 0 → ⊥) → or_go n i u ≡ or_go n i v
or_go-same zero i u v h = absurd (h refl)
or_go-same (suc n) i u v h = refl

-- at the end of the items
rest_end : (k : Kinds) (xs : List Item) (i : ℕ) → drop i xs ≡ [] → (s : Held)
    → rest_of k xs i s ≡ or_go (lowest (refusals_at_end s)) i accepted
unfolding rest_of
rest_end k xs i e s = rw e

-- ---- the item checker's ways out: item i of a row is judged where the checker stands

pub record Judged (t : List Brief) (i : ℕ) (a : Around) (h : coded.Held) (f : Option Refusal) : Type 0 where
  pub there : i < length t
  pub number : found f ≡ lowest (rows_in a (holds_of h) (names_of (brief_at t i).reads) (brief_at t i).form)

module _ {t : List Brief} {i : ℕ} {a : Around} {h : coded.Held} {f : Option Refusal} (j : Judged t i a h f) where
  abbrev form : Form
  form = (brief_at t i).form

  -- whatever items these are the notes of, and whatever boxes are around
  module _ {k : Kinds} {xs : List Item} (told : Told k xs t) (bs : List Box) (b : Boxed a bs) where
    abbrev now' : NotedAt k xs t i
    now' = told.each i j.there

    abbrev state : Held
    state = state_of a (holds_of h) bs

    rest_next : rest_of k xs i state ≡ or_go (found f) i (rest_of k xs (i + 1) (after state now'.item))
    unfolding rest_of
    rest_next =
        rw (now'.here, add-one i)
        (ap (λ (n : ℕ). or_go n i (walk k (suc i) (after state now'.item) (drop (suc i) xs)))
        (sym (j.number ∙ judged_in now'.noted a h bs b)))

    goes_on : f ≡ None → rest_of k xs (i + 1) (after state now'.item) ≡ rest_of k xs i state
    goes_on e =
        sym (rest_next
        ∙ ap (λ (g : Option Refusal). or_go (found g) i (rest_of k xs (i + 1) (after state now'.item))) e)

    is_plain : f ≡ None → form ≡ plain_form now'.item
    is_plain e =
        plain_form_lem (wrong_both (kind_at k) (reads_of now'.item) (writes_of now'.item)) now'.item
        now'.noted.form
        (right_form a (holds_of h) (names_of (brief_at t i).reads) form (sym j.number ∙ ap found e))

  -- refused there
  pub refused_at : {q : Refusal} → f ≡ Some q → Refuses t i a h q i
  refused_at {q} e = record {
    same = λ k xs told bs b. sym (rest_next told bs b
        ∙ ap (λ (g : Option Refusal). or_go (found g) i
        (rest_of k xs (i + 1) (after (state told bs b) (now' told bs b).item))) e
        ∙ stands q i _);
    within = omega (arith, j.there);
    ahead = omega arith;
  }

  -- one item further
  pub passed : f ≡ None → is_open form ≡ false → (c : Bool) → c ≡ is_close form → (q : coded.Held)
      → holds_of q ≡ moved a (holds_of h) (names_of (brief_at t i).writes) form
      → Passes t i a h (record { at = i + 1; closed = c; held = q })
  passed e o c ce q qe = record {
    same = λ k xs told bs b. ap (rest_of k xs (i + 1)) (moves told bs b) ∙ goes_on told bs b e;
    within = omega (arith, j.there);
    later = omega arith;
    inside = λ z. close_inside a (holds_of h) form (sym ce ∙ z) unmarked;
  }
    where
      unmarked : mark_in a (holds_of h) form ≡ false
      unmarked = no_mark_lem a (holds_of h) (names_of (brief_at t i).reads) form (sym j.number ∙ ap found e)

      moves : {k : Kinds} {xs : List Item} (told : Told k xs t) (bs : List Box) (b : Boxed a bs)
          → state_after c a (holds_of q) bs ≡ after (state told bs b) (now' told bs b).item
      moves told bs b =
          let p = is_plain told bs b e in
          ap₂ (λ (x : Bool) (y : Holds). state_after x a y bs) ce qe
          ∙ ap (λ (g : Form). state_after (is_close g) a (moved a (holds_of h) (names_of (brief_at t i).writes) g) bs) p
          ∙ moved_is a (holds_of h) bs a.depth refl (now' told bs b).item (names_of (brief_at t i).writes)
          (sym (ap is_open p) ∙ o) (sym (ap (mark_in a (holds_of h)) p) ∙ unmarked) ((now' told bs b).noted.adds h.sure)

  -- the box that the item opens
  module _ (e : f ≡ None) (o : is_open form ≡ true) (r : Around) (d : Deeper a h form r) (q : coded.Held)
      (qe : holds_of q ≡ entered (holds_of h) (names_of (brief_at t i).writes)) where
    enters : {k : Kinds} {xs : List Item} (told : Told k xs t) (bs : List Box) (b : Boxed a bs)
        → rest_of k xs (i + 1) (state_of r (holds_of q) (boxes_in a.depth (box_of a (holds_of h)) bs))
        ≡ rest_of k xs i (state_of a (holds_of h) bs)
    enters {k} {xs} told bs b =
        let p = is_plain told bs b e in
        ap (rest_of k xs (i + 1))
        (deeper_is a h bs (now' told bs b).item r (holds_of q) (names_of (brief_at t i).writes)
        (subst (λ (g : Form). Deeper a h g r) p d) (sym (ap is_open p) ∙ o) qe ((now' told bs b).noted.adds h.sure))
        ∙ goes_on told bs b e

    -- past it
    pub opened : {out : Out} → Leaves t (i + 1) r q out → Passes t i a h (back_by out h)
    opened {out} w = record {
      same = λ k xs told bs b. w.same k xs told (boxes_in a.depth (box_of a (holds_of h)) bs)
          (deeper_boxed a h bs form r d b) ∙ enters told bs b;
      within = w.within;
      later = omega (arith, w.ahead);
      inside = λ z. no (sym z);
    }

    -- refused in it, at whatever place
    pub opened_says : (p : Refusal) {l : ℕ} → Says t (i + 1) r q p l → Says t i a h p l
    opened_says p w k xs told bs b =
        w k xs told (boxes_in a.depth (box_of a (holds_of h)) bs) (deeper_boxed a h bs form r d b) ∙ enters told bs b

    pub opened_refused : {p : Refusal} {l : ℕ} → Refuses t (i + 1) r q p l → Refuses t i a h p l
    opened_refused {p} w = record {
      same = opened_says p w.same;
      within = w.within;
      ahead = omega (arith, w.ahead);
    }

-- ---- the block checker's

-- the verdict to come from there is that from here, whatever is around
pub record Same (t : List Brief) (a : Around) (j : ℕ) (g : coded.Held) (i : ℕ) (h : coded.Held) : Type 0 where
  pub still : (k : Kinds) (xs : List Item) → Told k xs t → (bs : List Box) → Boxed a bs
      → rest_of k xs j (state_of a (holds_of g) bs) ≡ rest_of k xs i (state_of a (holds_of h) bs)
  pub onward : i ≤ j
  pub within : j ≤ length t

module _ {t : List Brief} {a : Around} {i j : ℕ} {h g : coded.Held} (s : Same t a j g i h) where
  pub again : {r : Walk} → Passes t j a g r → r.closed ≡ false → Same t a r.at r.held i h
  again {r} w c = record {
    still = λ k xs told bs b. sym (ap (λ (q : Bool). rest_of k xs r.at (state_after q a (holds_of r.held) bs)) c)
        ∙ w.same k xs told bs b ∙ s.still k xs told bs b;
    onward = omega (arith, w.later, s.onward);
    within = w.within;
  }

  pub out_says : (q : Refusal) {l : ℕ} → Says t j a g q l → Says t i a h q l
  out_says q w k xs told bs b = w k xs told bs b ∙ s.still k xs told bs b

  pub out_refused : {q : Refusal} {l : ℕ} → Refuses t j a g q l → Refuses t i a h q l
  out_refused {q} w = record {
    same = out_says q w.same;
    within = w.within;
    ahead = omega (arith, w.ahead, s.onward);
  }

  pub out_closed : {r : Walk} → Passes t j a g r → r.closed ≡ true → Leaves t i a h (left_by r)
  out_closed {r} w c = record {
    same = λ k xs told bs b. sym (ap (λ (q : Bool). rest_of k xs r.at (state_after q a (holds_of r.held) bs)) c)
        ∙ w.same k xs told bs b ∙ s.still k xs told bs b;
    within = w.within;
    ahead = omega (arith, w.later, s.onward);
    done = λ k xs told bs b o. absurd (w.inside c o);
  }

  -- at the end of the items
  module _ (e : length t ≤ j) (f : Option Refusal) (d : found f ≡ lowest (rows_at_end a.depth g.packed)) where
    at_end : (k : Kinds) (xs : List Item) (told : Told k xs t) (bs : List Box)
        → rest_of k xs j (state_of a (holds_of g) bs) ≡ or_go (found f) j accepted
    at_end k xs told bs =
        rest_end k xs j (told.past j e) (state_of a (holds_of g) bs)
        ∙ sym (ap (λ (m : ℕ). or_go m j accepted) (d ∙ ap lowest (end_in_lem a (holds_of g) bs)))

    pub end_refused : {q : Refusal} → f ≡ Some q → Refuses t i a h q j
    end_refused {q} z = record {
      same = λ k xs told bs b. sym (at_end k xs told bs ∙ ap (λ (o : Option Refusal). or_go (found o) j accepted) z
          ∙ stands q j accepted) ∙ s.still k xs told bs b;
      within = s.within;
      ahead = s.onward;
    }

    pub end_reached : f ≡ None
        → Leaves t i a h (record { at = j; sure = g.sure; packed = g.packed; tagged = g.tagged })
    end_reached z = record {
      same = λ k xs told bs b. none_left k xs told bs b ∙ sym (at_end k xs told bs
          ∙ ap (λ (o : Option Refusal). or_go (found o) j accepted) z) ∙ s.still k xs told bs b;
      within = s.within;
      ahead = s.onward;
      done = λ k xs told bs b o. none_left k xs told bs b;
    }
      where
        out : List Box → Held
        out bs = out_state (record { at = j; sure = g.sure; packed = g.packed; tagged = g.tagged }) bs

        none_left : (k : Kinds) (xs : List Item) → Told k xs t → (bs : List Box) → Boxed a bs
            → rest_of k xs j (out bs) ≡ accepted
        none_left k xs told bs b =
            rest_end k xs j (told.past j e) (out bs)
            ∙ ap (λ (m : ℕ). or_go m j accepted)
            (no_box_left a bs (names_of g.sure) g.packed g.tagged b (sym d ∙ ap found z))

-- ---- the whole row

pub came_says : (t : List Brief) {k : Kinds} {xs : List Item} (a : Around) (h : coded.Held) (q : Refusal) {j : ℕ}
    → Told k xs t → Outside a → Starts h → Says t 0 a h q j → refused (number_of q) j ≡ walk k 0 begin xs
unfolding rest_of
came_says t {k} {xs} a h q told o s w =
    w k xs told [] (no_boxes a o) ∙ ap (λ (z : Held). walk k 0 z xs) (begins a h o s)

pub came : (t : List Brief) {k : Kinds} {xs : List Item} (a : Around) (h : coded.Held) (r : Result Out Refused)
    → Told k xs t → Outside a → Starts h → Went t 0 a h r → outcome r ≡ walk k 0 begin xs
unfolding rest_of
came t {k} {xs} a h (Ok r) told o s w =
    sym (w.done k xs told [] (no_boxes a o) o.depth) ∙ w.same k xs told [] (no_boxes a o)
    ∙ ap (λ (z : Held). walk k 0 z xs) (begins a h o s)
came t a h (Err e) told o s w = came_says t a h e.0 told o s w.same

-- ---- the verdict

module _ (size : ℕ) (t : Table) where
  pub out_of_shape : in_shape size t ≡ false → refused 30 0 ≡ verdict size t
  unfolding verdict
  out_of_shape e = rw e

  -- the whole row is walked, and this is what came of it
  pub in_shape_lem : {k : Kinds} {v : Verdict} → in_shape size t ≡ true → k ≡ kinds_of (replicate 32 None) (items_of t)
      → v ≡ walk k 0 begin (items_of t) → at_line t v ≡ verdict size t
  unfolding verdict
  in_shape_lem e f g = rw (e, ← f, ← g)

-- what the verdict's function cites, for its attribute
pub ruleset deciding = (few_items, reached, out_of_shape)
