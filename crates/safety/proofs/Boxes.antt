-- The boxes that are open before an item of an accepted script: those of the text, each with its opening item, its
-- closing mark still ahead.
use Prim.Native.Nat.{ℕ, zero, suc, ◌+◌, ◌≤◌, ◌<◌}
use mathlib.Core.Path.{◌≡◌, refl, ap, ◌∙◌, subst}
use mathlib.Core.Bool.{Bool, true, false, ◌&&◌}
use mathlib.Core.List.{List, [], ◌∷◌}
use native.Mathlib.Nat.{add-zero, zero-add}
use native.Mathlib.Omega.{arith}
use lib.Dec.{eqb, leb}
use lib.ListN.{length, take, drop}
use borrow.Author.Tests.{leb-false, ne_eqb}
use Rattle.table.specs.declared.Head.{Head}
use Rattle.table.specs.declared.Close.{Close}
use Rattle.table.specs.declared.Item.{Item}
use Rattle.table.specs.Item.{sort_of, is_open, is_close, fits}
use Rattle.table.specs.ReadWrite.{Kinds, Names}
use Rattle.mates.specs.declared.Open.{Open}
use Rattle.mates.specs.Mates.{scan, scan_all, boxes_at, belongs, close_from, close_of}
use Rattle.rules.specs.Check.{misplaced}
use Rattle.rules.proofs.Placed.{Box, Placed, plains, after}
use Rattle.safety.proofs.Laws.{no, or_r}
use Rattle.safety.proofs.Walk.{state, Reach, Clean, closes_fits}

abbrev pub erase : List Box → List Open
erase [] = []
erase (b ∷ bs) = record { at = b.at; sort = b.sort } ∷ erase bs

-- each box opens before the one inside it, and all before n
abbrev pub Below : ℕ → List Box → Type 0
Below n [] = Unit {0}
Below n (b ∷ bs) = (b.at < n) × Below b.at bs

-- the state before a box
abbrev pub outer : Box → List Box → Bool → Placed
outer b bs tg = state b.before bs false tg

-- a box's opening item, and its closing mark still ahead
pub record Headed (items : List Item) (i : ℕ) (st : List Open) (xs : List Item) (tg : Bool) (b : Box) (bs : List Box) :
    Type 0 where
  pub head : Head
  pub kinds : Kinds
  pub body : List Item
  pub reach : Reach items b.at (outer b bs tg) kinds (Item.Open head ∷ body)
  pub sort : b.sort ≡ sort_of head
  pub mate : close_of items b.at ≡ close_from b.at i st xs

abbrev pub Heads : List Item → ℕ → List Open → List Item → Bool → List Box → Type 0
Heads items i st xs tg [] = Unit {0}
Heads items i st xs tg (b ∷ bs) = Headed items i st xs tg b bs × Heads items i st xs tg bs

-- ---- the text's open boxes

scan_next : (j : ℕ) (st : List Open) (i : ℕ) (l : List Item) (x : Item) (xs : List Item) → drop i l ≡ x ∷ xs
    → scan_all j st (take (suc i) l) ≡ scan (j + i) x (scan_all j st (take i l))
scan_next j st zero [] x xs e = cc
scan_next j st zero (y ∷ l) x xs e =
    let p : y ≡ x = cc in
    rw (p, add-zero)
scan_next j st (suc i) [] x xs e = cc
scan_next j st (suc i) (y ∷ l) x xs e =
    let n : suc j + i ≡ j + suc i = omega arith in
    rw (← n) (scan_next (suc j) (scan j y st) i l x xs e)

pub boxes_next : (items : List Item) (i : ℕ) (x : Item) (xs : List Item) → drop i items ≡ x ∷ xs
    → boxes_at items (suc i) ≡ scan i x (boxes_at items i)
boxes_next items i x xs e = scan_next 0 [] i items x xs e ∙ ap (λ (n : ℕ). scan n x (boxes_at items i)) (zero-add i)

-- ---- one item further

module _ (i : ℕ) (su : Names) (p tg : Bool) where
  -- the boxes after item i
  abbrev boxes_after : List Box → Item → List Box
  boxes_after l x = (after i (state su l p tg) x).boxes

  pub erase_after : (l : List Box) (x : Item) → misplaced x (plains l) ≡ false
      → scan i x (erase l) ≡ erase (boxes_after l x)
  erase_after l (Item.Act a) h = refl
  erase_after l (Item.Pack q) h = refl
  erase_after l (Item.Open e) h = refl
  erase_after [] (Item.Branch c) h = refl
  erase_after (b ∷ bs) (Item.Branch c) h = refl
  erase_after [] (Item.Close e) h = refl
  erase_after (b ∷ bs) (Item.Close e) h = rw (closes_fits e b bs h)
  erase_after l Item.Break h = refl
  erase_after l Item.Tag h = refl

  below_up : (l : List Box) → Below i l → Below (suc i) l
  below_up [] h = tt
  below_up (b ∷ bs) h = (omega (arith, h.0), h.1)

  below_down : (b : Box) (l : List Box) → b.at < i → Below b.at l → Below (suc i) l
  below_down b [] u v = tt
  below_down b (c ∷ cs) u v = (omega (arith, u, v.0), v.1)

  pub below_after : (l : List Box) (x : Item) → Below i l → Below (suc i) (boxes_after l x)
  below_after l (Item.Act a) h = below_up l h
  below_after l (Item.Pack q) h = below_up l h
  below_after l (Item.Open e) h = (omega arith, h)
  below_after [] (Item.Branch c) h = tt
  below_after (b ∷ bs) (Item.Branch c) h = below_up (b ∷ bs) h
  below_after [] (Item.Close e) h = tt
  below_after (b ∷ bs) (Item.Close e) h = below_down b bs h.0 h.1
  below_after l Item.Break h = below_up l h
  below_after l Item.Tag h = below_up l h

  pub few_after : (l : List Box) (x : Item) → (is_open x && leb 8 (length l)) ≡ false → length l ≤ 8
      → length (boxes_after l x) ≤ 8
  few_after l (Item.Act a) e h = h
  few_after l (Item.Pack q) e h = h
  few_after l (Item.Open d) e h = omega (arith, leb-false 8 (length l) e)
  few_after [] (Item.Branch c) e h = h
  few_after (b ∷ bs) (Item.Branch c) e h = h
  few_after [] (Item.Close c) e h = h
  few_after (b ∷ bs) (Item.Close c) e h = omega arith
  few_after l Item.Break e h = h
  few_after l Item.Tag e h = h

-- the boxes below n keep their closing mark ahead of an item that closes none of them
heads-map : (items : List Item) (i n : ℕ) (st : List Open) (x : Item) (xs : List Item) (tg : Bool) (l : List Box)
    → Below n l
    → ((p : ℕ) → p < n → (is_close x && belongs p x st) ≡ false)
    → Heads items i st (x ∷ xs) tg l → Heads items (suc i) (scan i x st) xs tg l
heads-map items i n st x xs tg [] w f h = tt
heads-map items i n st x xs tg (b ∷ bs) w f h = (
  record {
    head = h.0.head;
    kinds = h.0.kinds;
    body = h.0.body;
    reach = h.0.reach;
    sort = h.0.sort;
    mate = h.0.mate ∙ passed;
  },
  heads-map items i b.at st x xs tg bs w.1 (λ p q. f p (omega (arith, w.0))) h.1,
)
  where
    passed : close_from b.at i st (x ∷ xs) ≡ close_from b.at (suc i) (scan i x st) xs
    passed = rw (f b.at w.0)

-- a closing mark of the box c closes no box below it
not_below : (e : Close) (c : Box) (bs : List Box) (p : ℕ) → p < c.at
    → (is_close (Item.Close e) && belongs p (Item.Close e) (erase (c ∷ bs))) ≡ false
not_below e c bs p h = go (fits (Item.Close e) c.sort)
  where
    go : (f : Bool) → (f && eqb c.at p) ≡ false
    go true = ne_eqb c.at p (λ q. omega arith)
    go false = refl

module _ (items : List Item) {i : ℕ} {su : Names} {p tg : Bool} {k k₀ : Kinds} {xs : List Item} where
  pub heads_after : (x : Item) (l : List Box) → Reach items i (state su l p tg) k (x ∷ xs)
      → Clean k₀ (state su l p tg) x
      → drop i items ≡ x ∷ xs → boxes_at items i ≡ erase l → Below i l → Heads items i (erase l) (x ∷ xs) tg l
      → let s : Placed =
      after i (state su l p tg) x in Heads items (suc i) (scan i x (erase l)) xs s.tagged s.boxes
  heads_after (Item.Act a) l r c t e w h = heads-map items i i (erase l) (Item.Act a) xs tg l w (λ q u. refl) h
  heads_after (Item.Pack q) l r c t e w h = heads-map items i i (erase l) (Item.Pack q) xs tg l w (λ q u. refl) h
  heads_after (Item.Open d) l r c t e w h = (
    record {
      head = d;
      kinds = k;
      body = xs;
      reach = subst (λ (q : Bool). Reach items i (state su l q tg) k (Item.Open d ∷ xs)) c.packed r;
      sort = refl;
      mate = rw (e, t);
    },
    heads-map items i i (erase l) (Item.Open d) xs tg l w (λ q u. refl) h,
  )
  heads_after (Item.Branch d) [] r c t e w h = tt
  heads_after (Item.Branch d) (b ∷ bs) r c t e w h =
      let g = heads-map items i i (erase (b ∷ bs)) (Item.Branch d) xs tg (b ∷ bs) w (λ q u. refl) h in (
        record {
          head = g.0.head;
          kinds = g.0.kinds;
          body = g.0.body;
          reach = g.0.reach;
          sort = g.0.sort;
          mate = g.0.mate;
        },
        g.1,
      )
  heads_after (Item.Close d) [] r c t e w h = tt
  heads_after (Item.Close d) (b ∷ bs) r c t e w h =
      heads-map items i b.at (erase (b ∷ bs)) (Item.Close d) xs tg bs w.1 (not_below d b bs) h.1
  heads_after Item.Break l r c t e w h = heads-map items i i (erase l) Item.Break xs tg l w (λ q u. refl) h
  heads_after Item.Tag [] r c t e w h = tt
  heads_after Item.Tag (b ∷ bs) r c t e w h = no (or_r tg true c.tagged)
