-- Laws of one turn of the second pass: what the code puts together is the definition. Assumes nothing.
use Rattle.std.proofs.Common.{Option, Some, None}
use mathlib.Core.Bool.{Bool, true, false, cond}
use mathlib.Core.List.{List}
use mathlib.Core.Path.{◌≡◌, refl, sym, ◌∙◌, ap}
use native.Mathlib.Omega.{arith}
use Prim.Native.Nat.{ℕ, ◌-◌, ◌<◌, ◌≤◌}
use borrow.Author.Tests.{lt-ltb, le-ltb, ltb-true}
use lib.Dec.{ltb}
use lib.ListN.{take, drop}
use Rattle.reply_line.specs.declared.Line.{Line}
use Rattle.reply_line.specs.Code.{later_by}
use Rattle.reply.specs.declared.Change.{Change}
use Rattle.reply.specs.declared.NextLine.{NextLine}
use Rattle.reply.specs.declared.Row.{Row}
use Rattle.reply.specs.declared.Seen.{Seen}
use Rattle.reply.specs.declared.Stand.{Stand}
use Rattle.reply.specs.Code.{seen_of, seen_at, place_by, change_by, place_in}
use Rattle.reply.specs.Code.{turn_to, turned}
use Rattle.reply.specs.Lines.{line_to, next_line, none_left}
use Rattle.reply.proofs.Lines.{Stands, stands}

-- ---- the line at a place

pub seen_text : (s : List ℕ) (end at a e x : ℕ) (l : Line) → line_to a e x ≡ next_line s at
    → l ≡ later_by true (take (e - a) (drop a s)) → record { line = l; next = x } ≡ seen_at s end at
unfolding seen_at
seen_text s end at a e x l t is = ap (λ (m : Line). record { line = m; next = x }) is ∙ ap (seen_of s end) t

-- as the code has it
pub seen_found : (s : List ℕ) (end at : ℕ) (y : NextLine) (l : Line) → Some y ≡ next_line s at
    → l ≡ later_by true (take (y.end - y.start) (drop y.start s))
    → record { line = l; next = y.next } ≡ seen_at s end at
seen_found s end at y l t is = seen_text s end at y.start y.end y.next l t is

pub seen_none : (s : List ℕ) (end at : ℕ) → none_left ≡ next_line s at
    → record { line = Line.Quiet; next = end } ≡ seen_at s end at
unfolding seen_at
seen_none s end at t = ap (seen_of s end) t

pub next_is : (s : List ℕ) (end at a e x : ℕ) → line_to a e x ≡ next_line s at → (seen_at s end at).next ≡ x
unfolding seen_at
next_is s end at a e x t = sym (ap (λ (y : Option NextLine). (seen_of s end y).next) t)

-- the next line starts further on
pub ahead : (s : List ℕ) (end at : ℕ) → at < end → at < (seen_at s end at).next
unfolding seen_at
ahead s end at h = by_line (next_line s at) refl
  where
    by_line : (l : Option NextLine) → next_line s at ≡ l → at < (seen_of s end l).next
    by_line (Some y) t =
        let p : Stands s at y.start y.end y.next = stands s at y.start y.end y.next (sym t) in
        omega (arith, p.end, p.next)
    by_line None t = h

-- ---- the place of a turn

module _ (st : Stand) (n : ℕ) where
  abbrev spot : ℕ
  spot = place_by st.line st.holder st.rows

  pub place_fits : (p : ℕ) → p ≡ spot → p < n → p ≡ place_in st n
  unfolding place_in
  place_fits p is h = is ∙ sym (ap (λ (b : Bool). cond b spot 0) (lt-ltb spot n (rw is at h)))

  pub place_over : (p : ℕ) → p ≡ spot → n ≤ p → 0 ≡ place_in st n
  unfolding place_in
  place_over p is h = sym (ap (λ (b : Bool). cond b spot 0) (le-ltb spot n (rw is at h)))

  pub place_below : 0 < n → place_in st n < n
  unfolding place_in
  place_below some = by_test (ltb spot n) refl
    where
      by_test : (b : Bool) → ltb spot n ≡ b → cond b spot 0 < n
      by_test true e = ltb-true spot n e
      by_test false e = some

-- ---- the turn

pub turn_is : (s : List ℕ) (st : Stand) (old : Row) {c : Change} {x : Seen}
    → c ≡ change_by st.line st.holder st.rows old → x ≡ seen_at s st.end st.next
    → turn_to st c x ≡ turned s st old
unfolding turned
turn_is s st old is seen = λ i. turn_to st (is i) (seen i)
