-- Rows in front of a lent table: the second pass over it writes the definition's, and leaves the rest. Assumes nothing.
use Rattle.std.proofs.Common.{Ok, Err}
use mathlib.Core.List.{List, [], ◌∷◌, ◌++◌, append_assoc}
use mathlib.Core.Path.{◌≡◌, refl, sym, ◌∙◌, ap}
use native.Mathlib.Omega.{arith}
use Prim.Native.Nat.{ℕ, suc, ◌<◌}
use lib.ListN.{length, drop, get_or, set, length-set, length-append, get_or-append}
use lib.Seq.{drop-cons, set-append_seam, set-append_left}
use Rattle.reply.specs.declared.Row.{Row}
use Rattle.reply.specs.Code.{Passed, left_by, table}
use Rattle.reply.specs.Reply.{Answer, verdict}
use Rattle.reply.specs.Rows.{ReadRows, script_row, rows_of, over, lent_after, table_of}
use Rattle.reply.proofs.Pass.{Shows}
use Rattle.reply.proofs.Whole.{after, says_verdict, whole_is}

module _ (ys rows : List Row) where
  over_get : (i : ℕ) → i < length rows → get_or (over rows ys) i script_row ≡ get_or rows i script_row
  unfolding over
  over_get i h = get_or-append rows (drop (length rows) ys) script_row i h

  over-set : (i : ℕ) (r : Row) → i < length rows → set (over rows ys) i r ≡ over (set rows i r) ys
  unfolding over
  over-set i r h =
      set-append_left rows (drop (length rows) ys) i r h
      ∙ ap (λ (m : ℕ). set rows i r ++ drop m ys) (sym (length-set rows i r))

  over_more : (r : Row) → length rows < length ys → set (over rows ys) (length rows) r ≡ over (rows ++ (r ∷ [])) ys
  unfolding over
  over_more r h =
      let e : suc (length rows) ≡ length (rows ++ (r ∷ [])) = omega (arith, length-append rows (r ∷ [])) in
      ap (λ (t : List Row). set (rows ++ t) (length rows) r) (drop-cons ys (length rows) script_row h)
      ∙ set-append_seam rows (get_or ys (length rows) script_row) (drop (suc (length rows)) ys) r
      ∙ sym (append_assoc rows (r ∷ []) (drop (suc (length rows)) ys))
      ∙ ap (λ (m : ℕ). (rows ++ (r ∷ [])) ++ drop m ys) e

shows_table : (ys : List Row) → Shows table (length ys) (λ rows. over rows ys)
shows_table ys =
    record {
      reads = λ rows i fit h. over_get ys rows i h;
      over = λ rows i r h small. over-set ys rows i r h;
      behind = λ rows r h small. over_more ys rows r h;
    }

pub table_is : (s : List ℕ) (ys : List Row)
    → left_by table s (length ys) (verdict (length ys) s) ys ≡ table_of s ys
unfolding table_of lent_after over
table_is s ys = whole_is (shows_table ys) s ∙ by_answer (verdict (length ys) s)
  where
    by_answer : (v : Answer)
        → after v (over (rows_of (length ys) s) ys) ys ≡ lent_after v (rows_of (length ys) s) ys
    by_answer (Ok read) = refl
    by_answer (Err refused) = refl

pub read_rows : (s : List ℕ) (ys : List Row) {r : Answer} {out : List Row} → Passed table (length ys) s ys r out
    → ReadRows s ys r out
read_rows s ys p =
    record {
      says = says_verdict _ s p.says;
      rows = p.left ∙ ap (λ (v : Answer). left_by table s (length ys) v ys) p.says ∙ table_is s ys;
    }
