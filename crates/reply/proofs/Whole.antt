-- What the second pass leaves: a reply that is read, the definition's rows; one that is refused, all as it was. Assumes
-- nothing.
use Rattle.std.proofs.Common.{Option, Some, None, Ok, Err}
use mathlib.Core.Bool.{Bool, true, false, cond}
use mathlib.Core.List.{List, [], ◌∷◌}
use mathlib.Core.Path.{◌≡◌, refl, sym, ◌∙◌, ap}
use native.Mathlib.Omega.{arith}
use Prim.Native.Nat.{ℕ, zero, suc, ◌-◌, ◌<◌, ◌≤◌}
use borrow.Author.Tests.{leb-true}
use lib.Dec.{ltb, leb}
use lib.ListN.{length, take, drop}
use Rattle.text.specs.Cut.{lines}
use Rattle.reply_line.specs.declared.Line.{Line}
use Rattle.reply_line.specs.declared.Refusal.{Refusal}
use Rattle.reply_line.specs.Line.{line_at, first_line, first_error, with_row, is_e, error_code}
use Rattle.reply_step.specs.Move as Move
use Rattle.reply_step.specs.Step.{begun, step}
use Rattle.reply.specs.declared.Row.{Row}
use Rattle.reply.specs.declared.Stand.{Stand}
use Rattle.reply.specs.Code.{seen_at, place_by, one_more, change_by, begun_at, place_in}
use Rattle.reply.specs.Code.{turned, Memory, pass_from, left_by, whole}
use Rattle.reply.specs.Reply.{Answer, answered, meaning, outcome_of, refused_at, verdict_from, verdict}
use Rattle.reply.specs.Rows.{script_row, rows_after, holder_after, rows_of, rows_from}
use Rattle.reply.proofs.Course.{Place, past, says_from, makes_from, not_read, Met, rows_on, rows_ended}
use Rattle.reply.proofs.Course.{Leads, on, ends, leads}
use Rattle.reply.proofs.Course as course
use Rattle.reply.proofs.Pass.{Shows, Small, clamped, one_turn, no_turn, later, Going, bridge}
use Rattle.reply.proofs.Rows.{sound_step, sound_begun, none_yet, outset, used_more, answer_fits}
use Rattle.reply.proofs.Turns.{next_is, ahead}

-- ---- the first line: no mark and no package, and a table without a row refuses it

-- it makes nothing of the rows, and leads into no other
record Plain (l : Line) (at : ℕ) (rows : List Row) : Type 0 where
  same : rows_after l at rows ≡ rows
  stays : holder_after l at rows ≡ at

module _ (at : ℕ) (rows : List Row) where
  plain_quiet : Plain Line.Quiet at rows
  unfolding rows_after holder_after
  plain_quiet = record { same = refl; stays = refl }

  plain_error : (v : ℕ) → Plain (Line.Error v) at rows
  unfolding rows_after holder_after
  plain_error v = record { same = refl; stays = refl }

  plain_refused : (w : Refusal) → Plain (Line.Refused w) at rows
  unfolding rows_after holder_after
  plain_refused w = record { same = refl; stays = refl }

  with_row_lem : (n : ℕ) (l : Line) → Plain l at rows → Plain (with_row n l) at rows
  unfolding with_row
  with_row_lem n l p = by_test (ltb 0 n)
    where
      by_test : (b : Bool) → Plain (cond b l (Line.Refused Refusal.ShortTable)) at rows
      by_test true = p
      by_test false = plain_refused Refusal.ShortTable

  first_plain : (n : ℕ) (t : List ℕ) → Plain (line_at n 1 t) at rows
  unfolding line_at first_line first_error
  first_plain n t = by_test (is_e t) (error_code t)
    where
      by_test : (b : Bool) (c : Option ℕ) → Plain (cond b (with_row n Line.Quiet) (first_error n c)) at rows
      by_test true c = with_row_lem n Line.Quiet plain_quiet
      by_test false (Some v) = with_row_lem n (Line.Error v) (plain_error v)
      by_test false None = plain_refused Refusal.UnknownLine

first_refused : (t : List ℕ) → (w : Refusal) × (line_at 0 1 t ≡ Line.Refused w)
unfolding line_at first_line first_error with_row
first_refused t = by_test (is_e t) (error_code t)
  where
    by_test : (b : Bool) (c : Option ℕ)
        → (w : Refusal) × (cond b (with_row 0 Line.Quiet) (first_error 0 c) ≡ Line.Refused w)
    by_test true c = (Refusal.ShortTable, refl)
    by_test false (Some v) = (Refusal.ShortTable, refl)
    by_test false None = (Refusal.UnknownLine, refl)

no_table : (ls : List (List ℕ)) {c u r : ℕ} → verdict_from 0 1 0 begun ls ≡ answered c u r → ⊥
unfolding verdict_from step
no_table [] e = not_read e
no_table (l ∷ ls) e = not_read (rw (first_refused l).1 at e)

-- ---- a reply that is read

pub record Judged (n : ℕ) (s : List ℕ) (c u r : ℕ) : Type 0 where
  pub short : length s ≤ 65536
  pub good : verdict_from n 1 0 begun (lines s) ≡ answered c u r
  pub some : 0 < n

pub judged : {n : ℕ} {s : List ℕ} {c u r : ℕ} → verdict n s ≡ answered c u r → Judged n s c u r
unfolding verdict
judged {n} {s} {c} {u} {r} e = by_test (leb (length s) 65536) refl e
  where
    has_rows : (k : ℕ) → verdict_from k 1 0 begun (lines s) ≡ answered c u r → 0 < k
    has_rows zero good = absurd (no_table (lines s) good)
    has_rows (suc k) good = omega arith

    by_test : (b : Bool) → leb (length s) 65536 ≡ b
        → cond b (verdict_from n 1 0 begun (lines s)) (refused_at Refusal.TooLong 0) ≡ answered c u r
        → Judged n s c u r
    by_test true t e = record { short = leb-true (length s) 65536 t; good = e; some = has_rows n e }
    by_test false t e = absurd (not_read e)

pub rows_fit : {n : ℕ} {s : List ℕ} {c u r : ℕ} → Judged n s c u r → r ≤ n
rows_fit {n} {s} j = answer_fits n s j.some j.good

-- ---- the pass over it

script_small : Small script_row
script_small = record { parent = omega arith; packages = omega arith }

module _ {X : Type 0} {m : Memory X} {n : ℕ} {show : List Row → X} (w : Shows m n show) {s : List ℕ} {c u r : ℕ}
    (j : Judged n s c u r) where
  -- the first turn makes the script's row
  first_turn : (f : ℕ) → 0 < u
      → pass_from m (suc f) s n (begun_at s u) (show [])
      ≡ pass_from m f s n (later s u (seen_at s u 0).next 0 1) (show (script_row ∷ []))
  unfolding turned place_in place_by change_by one_more
  first_turn f h =
      one_turn m s n f (begun_at s u) (show []) h
      ∙ ap (pass_from m f s n (later s u (seen_at s u 0).next 0 1))
      (ap (λ (p : ℕ). m.put (show []) p script_row) (clamped n 0 j.some)
      ∙ w.behind [] script_row j.some script_small)

  -- after a first line that goes on, the second finds the script's row
  abbrev second : Line → ℕ → Place
  second l x =
      record { number = 2; used = x; state = (step n l begun).state; holder = 0; rows = script_row ∷ [] }

  module _ {l : Line} {x : ℕ} (d : Met s n outset l x) where
    first_is : Plain l 0 (script_row ∷ [])
    first_is = rw d.is (first_plain 0 (script_row ∷ []) n (take (d.end - d.start) (drop d.start s)))

    going : (step n l begun).to ≡ Move.On → says_from n (past n l x outset) (lines (drop x s)) ≡ answered c u r
        → Going s n c u r (second l x)
    going e more =
        record {
          second = omega arith;
          sound = rw (first_is.same, first_is.stays) at (sound_step sound_begun n l e);
          fit = j.some;
          few = omega (arith, none_yet, (course.standing d).end, (course.standing d).next);
          good = more;
        }

    rest : (step n l begun).to ≡ Move.On
        → makes_from n outset (lines s) ≡ makes_from n (second l x) (lines (drop x s))
    rest e =
        rows_on d e
        ∙ (λ i. rows_from n 2 (step n l begun).state (first_is.stays i) (first_is.same i) (lines (drop x s)))

  from_first : (f : ℕ) → u ≡ suc f
      → pass_from m (suc f) s n (begun_at s u) (show []) ≡ show (makes_from n outset (lines s))
  from_first f is = first_turn f (omega arith) ∙ by_lead (leads s n outset c u r j.good)
    where
      by_lead : Leads s n outset c u r
          → pass_from m f s n (later s u (seen_at s u 0).next 0 1) (show (script_row ∷ []))
          ≡ show (makes_from n outset (lines s))
      by_lead (on l x d e more) =
          ap (λ (y : ℕ). pass_from m f s n (later s u y 0 1) (show (script_row ∷ [])))
          (next_is s u 0 d.start d.end x d.text)
          ∙ bridge w s c u r j.short f (second l x) (omega (arith, (course.standing d).end, (course.standing d).next))
          (going d e more)
          ∙ sym (ap show (rest d e))
      by_lead (ends l v d e) =
          no_turn m s n f (later s u (seen_at s u 0).next 0 1) (show (script_row ∷ []))
          (omega (arith, next_is s u 0 d.start d.end u d.text))
          ∙ sym (ap show (rows_ended d e))

  read_whole : pass_from m u s n (begun_at s u) (show []) ≡ show (makes_from n outset (lines s))
  read_whole = by_fuel u refl
    where
      none : u ≡ 0 → 0 < u → ⊥
      none e h = omega arith

      by_fuel : (k : ℕ) → u ≡ k
          → pass_from m u s n (begun_at s u) (show []) ≡ show (makes_from n outset (lines s))
      by_fuel zero e = absurd (none e (used_more n outset (lines s) j.good))
      by_fuel (suc f) e =
          ap (λ (k : ℕ). pass_from m k s n (begun_at s u) (show [])) e ∙ from_first f e

-- ---- the whole

read_is : {X : Type 0} {m : Memory X} {n : ℕ} {show : List Row → X} → Shows m n show → (s : List ℕ) {c u r : ℕ}
    → verdict n s ≡ answered c u r → whole m s n u (show []) ≡ show (rows_of n s)
unfolding rows_of
read_is w s e = read_whole w (judged e)

-- what a memory is afterwards: read, the rows in front; refused, as it was
abbrev pub after : {X : Type 0} → Answer → X → X → X
after (Ok read) written lent = written
after (Err refused) written lent = lent

pub whole_is : {X : Type 0} {m : Memory X} {n : ℕ} {show : List Row → X} → Shows m n show → (s : List ℕ)
    → left_by m s n (verdict n s) (show []) ≡ after (verdict n s) (show (rows_of n s)) (show [])
whole_is {X} {m} {n} {show} w s = by_answer (verdict n s) refl
  where
    by_answer : (v : Answer) → verdict n s ≡ v → left_by m s n v (show []) ≡ after v (show (rows_of n s)) (show [])
    by_answer (Ok read) e = read_is w s e
    by_answer (Err refused) e = refl

-- ---- where a pass starts

-- where there is something to read there is a row, and the next line starts further on
pub record Starts (n : ℕ) (st : Stand) : Type 0 where
  pub some : st.pos < st.end → 0 < n
  pub on : st.pos < st.end → st.pos < st.next

pub starts : (s : List ℕ) (n : ℕ) {c u r : ℕ} → verdict n s ≡ answered c u r → Starts n (begun_at s u)
starts s n {c} {u} {r} e =
    record { some = λ h. (judged {n = n} {s = s} e).some; on = λ h. ahead s u 0 h }

-- the verdict says what is to be said
pub says_verdict : (n : ℕ) (s : List ℕ) {v : Answer} → v ≡ verdict n s → meaning v ≡ outcome_of n s
unfolding outcome_of
says_verdict n s e = ap meaning e
