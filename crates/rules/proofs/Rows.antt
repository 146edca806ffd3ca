-- Rows of tests: those of what the code holds are those of the definition, whatever boxes are around. Assumes nothing.
use Prim.Native.Nat.{ℕ, zero, suc, ◌<◌}
use mathlib.Core.Path.{◌≡◌, refl, sym, ◌∙◌, ap, ap₂}
use mathlib.Core.Bool.{Bool, true, false, not, ◌&&◌, ◌||◌, cond, or-false}
use mathlib.Core.List.{List, [], ◌∷◌}
use native.Mathlib.Omega.{arith}
use lib.Dec.{leb, eqb}
use borrow.Author.Tests.{ne_eqb, leb-false}
use Rattle.table.specs.declared.Item.{Item}
use Rattle.table.specs.declared.Close.TheVariants as Close
use Rattle.table.specs.declared.Head.{Head}
use Rattle.table.specs.declared.Sort.TheVariants as Sort
use Rattle.table.specs.Item as Of
use Rattle.table.specs.Item.{is_loop}
use Rattle.table.specs.ReadWrite.{Kinds, kind_at, Names, has, missing, lowest, reads_of, writes_of}
use Rattle.sets.specs.Names.{outside, names_of}
use Rattle.rules.specs.Check.{Box, Held, refusals, refusals_at_end, misplaced, base_of, any_box, is_empty}
use Rattle.rules.specs.Code.{Form, Around, Holds, holds_of, box_of, boxes_in, state_of, Boxed}
use Rattle.rules.specs.Code.{head_form, plain_form, form_by, wrong_both, Brief, Noted}
use Rattle.rules.specs.Code.{is_wrong, is_open, is_branch, in_if, base_in, mark_in, rows_in, rows_at_end}
use Rattle.rules.specs.declared.written.Held as coded
use Rattle.rules.proofs.Forms.{no, formed}

pub same_rows : {a a' b b' c c' d d' e e' f f' g g' h h' : Bool}
    → a ≡ a' → b ≡ b' → c ≡ c' → d ≡ d' → e ≡ e' → f ≡ f' → g ≡ g' → h ≡ h'
    → ◌≡◌ {A = List (ℕ × Bool)}
    ((19, a) ∷ (20, b) ∷ (21, c) ∷ (22, d) ∷ (23, e) ∷ (24, f) ∷ (25, g) ∷ (26, h) ∷ [])
    ((19, a') ∷ (20, b') ∷ (21, c') ∷ (22, d') ∷ (23, e') ∷ (24, f') ∷ (25, g') ∷ (26, h') ∷ [])
same_rows p q r s t u v w = rw (p, q, r, s, t, u, v, w)

-- ---- one test at a time; the depth is cased on

swap : (q : Bool) (x y : Names) → cond (not q) x y ≡ cond q y x
swap true x y = refl
swap false x y = refl

some_open : (d : ℕ) → eqb (suc d) 0 ≡ false
some_open d = ne_eqb (suc d) 0 (λ e. omega arith)

base_by : (d : ℕ) (p : Bool) (b : Box) (sure : Names) (bs : List Box)
    → cond (p && (not (eqb d 0) && not (is_loop b.sort))) b.before sure ≡ base_of p sure (boxes_in d b bs)
base_by d false b sure bs = refl
base_by zero true b sure bs = refl
base_by (suc d) true b sure bs = rw (some_open d) (swap (is_loop b.sort) b.before sure)

open_in : (d : ℕ) (b : Box) (bs : List Box) → not (eqb d 0) ≡ not (is_empty (boxes_in d b bs))
open_in zero b bs = refl
open_in (suc d) b bs = rw (some_open d)

module _ (a : Around) (h : Holds) (bs : List Box) where
  head_in : (y : Head) → mark_in a h (head_form y) ≡ false
  unfolding mark_in
  head_in (Head.If c) = refl
  head_in (Head.Loop c) = refl
  head_in (Head.Sweep w) = by (eqb w.potential w.current)
    where
      by : (b : Bool) → mark_in a h (cond b Form.Twice (Form.Open Sort.Sweep)) ≡ false
      by true = refl
      by false = refl

  mark_in_lem : (d : ℕ) → a.depth ≡ d → a.looped ≡ any_box is_loop (boxes_in d (box_of a h) bs) → (x : Item)
      → mark_in a h (plain_form x) ≡ misplaced x (boxes_in d (box_of a h) bs)
  unfolding mark_in
  mark_in_lem zero e b (Item.Act y) = refl
  mark_in_lem (suc d) e b (Item.Act y) = refl
  mark_in_lem zero e b (Item.Pack y) = refl
  mark_in_lem (suc d) e b (Item.Pack y) = refl
  mark_in_lem zero e b (Item.Open y) = head_in y
  mark_in_lem (suc d) e b (Item.Open y) = head_in y
  mark_in_lem zero e b (Item.Branch y) = rw e
  mark_in_lem (suc d) e b (Item.Branch y) = rw (e, some_open d) (sym (or-false _))
  mark_in_lem zero e b (Item.Close Close.EndIf) = rw e
  mark_in_lem (suc d) e b (Item.Close Close.EndIf) = rw (e, some_open d) (sym (or-false _ ∙ or-false _))
  mark_in_lem zero e b (Item.Close Close.EndLoop) = rw e
  mark_in_lem (suc d) e b (Item.Close Close.EndLoop) = rw (e, some_open d) (sym (or-false _ ∙ or-false _))
  mark_in_lem zero e b Item.Break = ap not b
  mark_in_lem (suc d) e b Item.Break = ap not b
  mark_in_lem zero e b Item.Tag = refl
  mark_in_lem (suc d) e b Item.Tag = refl

-- ---- the rows, whatever boxes are around

module _ {k : Kinds} {x : Item} {brief : Brief} (n : Noted k x brief) (a : Around) (h : coded.Held) where
  -- a base is what held before the box, or what is surely written
  missed_in : (g : Form)
      → outside (names_of brief.reads) (base_in a (holds_of h) g)
      ≡ missing (has (base_in a (holds_of h) g)) (reads_of x)
  missed_in g = by (is_branch g && in_if a)
    where
      by : (b : Bool) → outside (names_of brief.reads) (cond b (names_of a.before) (names_of h.sure))
          ≡ missing (has (cond b (names_of a.before) (names_of h.sure))) (reads_of x)
      by true = n.missed a.before
      by false = n.missed h.sure

  module _ (bs : List Box) (b : Boxed a bs) where
    abbrev within : List Box
    within = boxes_in a.depth (box_of a (holds_of h)) bs

    base_in_lem : (g : Form) → is_branch g ≡ Of.is_branch x
        → base_in a (holds_of h) g ≡ base_of (Of.is_branch x) (names_of h.sure) within
    base_in_lem g e = rw e (base_by a.depth (Of.is_branch x) (box_of a (holds_of h)) (names_of h.sure) bs)

    plain_rows : wrong_both (kind_at k) (reads_of x) (writes_of x) ≡ false
        → rows_in a (holds_of h) (names_of brief.reads) (plain_form x) ≡ refusals k (state_of a (holds_of h) bs) x
    plain_rows e =
        let g = formed x in
        same_rows
        (g.right ∙ sym e)
        (missed_in (plain_form x)
        ∙ ap (λ (s : Names). missing (has s) (reads_of x)) (base_in_lem (plain_form x) g.branches))
        (mark_in_lem a (holds_of h) bs a.depth refl (b.looped (holds_of h)) x)
        (ap₂ (λ (p : Bool) (m : ℕ). p && leb 8 m) g.opens' (sym (b.count (holds_of h))))
        (g.order h.packed)
        (ap₂ (λ (p q : Bool). p && (h.tagged || q)) g.tags (open_in a.depth (box_of a (holds_of h)) bs))
        g.twice
        (ap₂ (λ (p q : Bool). p && q) g.sweeps (b.swept (holds_of h)))

    pub judged_in : lowest (rows_in a (holds_of h) (names_of brief.reads) brief.form)
        ≡ lowest (refusals k (state_of a (holds_of h) bs) x)
    judged_in =
        ap (λ (g : Form). lowest (rows_in a (holds_of h) (names_of brief.reads) g)) n.form
        ∙ by (wrong_both (kind_at k) (reads_of x) (writes_of x)) refl
      where
        by : (q : Bool) → wrong_both (kind_at k) (reads_of x) (writes_of x) ≡ q
            → lowest (rows_in a (holds_of h) (names_of brief.reads) (form_by q x))
            ≡ lowest (refusals k (state_of a (holds_of h) bs) x)
        by true e = rw e
        by false e = ap lowest (plain_rows e)

pub end_in_lem : (a : Around) (h : Holds) (bs : List Box)
    → rows_at_end a.depth h.packed ≡ refusals_at_end (state_of a h bs)
end_in_lem a h bs = ap (λ (q : Bool). (21, q) ∷ (23, h.packed) ∷ []) (open_in a.depth (box_of a h) bs)

-- ---- no number is given: no rule is broken

-- every test says false
abbrev pub Quiet : List (ℕ × Bool) → Type 0
Quiet [] = Unit {0}
Quiet (r ∷ rs) = (r.1 ≡ false) × Quiet rs

abbrev Numbered : List (ℕ × Bool) → Type 0
Numbered [] = Unit {0}
Numbered (r ∷ rs) = (0 < r.0) × Numbered rs

skip : (n : ℕ) (b : Bool) (r : ℕ) → 0 < n → cond b n r ≡ 0 → (b ≡ false) × (r ≡ 0)
skip n true r h e = absurd (never h e)
  where
    never : {m : ℕ} → 0 < m → m ≡ 0 → ⊥
    never h e = omega arith
skip n false r h e = (refl, e)

quiet : (rs : List (ℕ × Bool)) → Numbered rs → lowest rs ≡ 0 → Quiet rs
quiet [] h e = tt
quiet (r ∷ rs) h e =
    let d = skip r.0 r.1 (lowest rs) h.0 e in
    (d.0, quiet rs h.1 d.1)

-- whatever the tests say
eight : Numbered
    ((19, false) ∷ (20, false) ∷ (21, false) ∷ (22, false) ∷ (23, false) ∷ (24, false) ∷ (25, false) ∷ (26, false) ∷ [])
eight = (
  omega arith,
  (omega arith, (omega arith, (omega arith, (omega arith, (omega arith, (omega arith, (omega arith, tt))))))),
)

pub no_refusal : (k : Kinds) (s : Held) (x : Item) → lowest (refusals k s x) ≡ 0 → Quiet (refusals k s x)
no_refusal k s x e = quiet (refusals k s x) eight e

pub no_refusal_at_end : (s : Held) → lowest (refusals_at_end s) ≡ 0 → Quiet (refusals_at_end s)
no_refusal_at_end s e = quiet (refusals_at_end s) (omega arith, (omega arith, tt)) e

module _ (a : Around) (h : Holds) (reads : Names) (f : Form) (e : lowest (rows_in a h reads f) ≡ 0) where
  all_quiet : Quiet (rows_in a h reads f)
  all_quiet = quiet (rows_in a h reads f) eight e

  pub right_form : is_wrong f ≡ false
  right_form = all_quiet.0

  pub no_mark_lem : mark_in a h f ≡ false
  no_mark_lem = all_quiet.1.1.0

  pub room : is_open f ≡ true → a.depth < 8
  room o = leb-false 8 a.depth (rw o at all_quiet.1.1.1.0)

-- at the end, with nothing found, no box is around
pub no_box_left : (a : Around) (bs : List Box) (sure : Names) (p t : Bool) → Boxed a bs
    → lowest (rows_at_end a.depth p) ≡ 0
    → lowest (refusals_at_end (record { sure = sure; boxes = bs; packed = p; tagged = t })) ≡ 0
no_box_left a bs sure p t b z =
    let q = quiet (rows_at_end a.depth p) (omega arith, (omega arith, tt)) z in
    rw (b.none (outermost a.depth q.0), q.1.0)
  where
    outermost : (d : ℕ) → not (eqb d 0) ≡ false → d ≡ 0
    outermost zero e = refl
    outermost (suc d) e = no (sym (ap not (some_open d)) ∙ e)
