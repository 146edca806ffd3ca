-- The course of a reading: where it stands before a line, and one induction for all that holds of the verdict, the rows
-- and the lines that are read. Assumes nothing.
use Rattle.std.proofs.Common.{Option, Some, None, Ok, Err}
use mathlib.Core.List.{List, [], ◌∷◌}
use mathlib.Core.Path.{◌≡◌, refl, sym, ◌∙◌, ap}
use native.Mathlib.Decide.{dec_lt}
use native.Mathlib.Omega.{arith}
use Prim.Native.Nat.{ℕ, ◌+◌, ◌-◌, ◌<◌}
use lib.ListN.{length, take, drop}
use Rattle.laws.proofs.Apart.{apart}
use Rattle.text.specs.Cut.{lines}
use Rattle.reply_line.specs.declared.Line.{Line}
use Rattle.reply_line.specs.declared.Refusal.{Refusal}
use Rattle.reply_line.specs.Line.{line_at}
use Rattle.reply_step.specs.Move.{Move}
use Rattle.reply_step.specs.Step.{Open, step}
use Rattle.reply.specs.declared.NextLine.{NextLine}
use Rattle.reply.specs.declared.Row.{Row}
use Rattle.reply.specs.Lines.{line_to, next_line, none_left}
use Rattle.reply.specs.Reply.{Answer, answered, by_move, refused_at, verdict_from}
use Rattle.reply.specs.Rows.{rows_after, holder_after, while_on, rows_from, seen_from}
use Rattle.reply.proofs.Lines.{Stands, stands, serves, Round, goes_on, ends_here, refused_here}
use Rattle.reply.proofs.Lines.{no_line, no_more}

-- before a line: its number, the bytes used, what is open, inside which row, and the rows so far
pub record Place : Type 0 where
  pub number : ℕ
  pub used : ℕ
  pub state : Open
  pub holder : ℕ
  pub rows : List Row

module _ (n : ℕ) where
  -- past the line l that leads on, where the next one starts at x
  abbrev pub past : Line → ℕ → Place → Place
  past l x p =
      record {
        number = p.number + 1;
        used = x;
        state = (step n l p.state).state;
        holder = holder_after l p.holder p.rows;
        rows = rows_after l p.holder p.rows;
      }

  -- what is still to come, of the lines ls
  abbrev pub says_from : Place → List (List ℕ) → Answer
  says_from p ls = verdict_from n p.number p.used p.state ls

  abbrev pub makes_from : Place → List (List ℕ) → List Row
  makes_from p ls = rows_from n p.number p.state p.holder p.rows ls

  abbrev pub reads_from : Place → List (List ℕ) → List Line
  reads_from p ls = seen_from n p.number p.state ls

pub not_read : {w : Refusal} {k c u r : ℕ} → refused_at w k ≡ answered c u r → ⊥
not_read e = apart cc

-- the bytes used and the rows of a reply that is read; 0 of another
abbrev pub used_in : Answer → ℕ
used_in (Ok r) = r.used
used_in (Err w) = 0

abbrev pub rows_in : Answer → ℕ
rows_in (Ok r) = r.rows
rows_in (Err w) = 0

-- ---- by each line

-- the reading ends before the line past p: read, it used more bytes, and the rows are counted
pub record Done (p : Place) (v : Answer) : Type 0 where
  pub farther : {c u r : ℕ} → v ≡ answered c u r → p.used < u
  pub counted : {c u r : ℕ} → v ≡ answered c u r → p.state.rows ≡ r

-- what holds where the reading ends, and of a place if it holds past the next line, holds of every place
module _ (n : ℕ) (P : Place → List Row → List Line → Answer → Type 0)
    (ends : (p : Place) (v : Answer) → Done p v → P p p.rows [] v)
    (leads : (p : Place) (l : Line) (x : ℕ) (out : List Row) (seen : List Line) (v : Answer)
    → p.used < x → (step n l p.state).to ≡ Move.On → P (past n l x p) out seen v → P p out (l ∷ seen) v) where
  pub by_lines : (p : Place) (ls : List (List ℕ)) → P p (makes_from n p ls) (reads_from n p ls) (says_from n p ls)
  unfolding verdict_from rows_from seen_from
  by_lines p [] =
      ends p (refused_at Refusal.NoEnding p.number)
      (record { farther = λ e. absurd (not_read e); counted = λ e. absurd (not_read e) })
  by_lines p (t ∷ ls) =
      by_move_lem (step n l p.state).to refl (makes_from n next ls) (reads_from n next ls) (says_from n next ls)
      (by_lines next ls)
    where
      l : Line
      l = line_at n p.number t

      x : ℕ
      x = p.used + length t + 1

      next : Place
      next = past n l x p

      by_move_lem : (m : Move) → (step n l p.state).to ≡ m → (out : List Row) (seen : List Line) (v : Answer)
          → P next out seen v
          → P p (while_on m out p.rows) (while_on m (l ∷ seen) []) (by_move m v p.number x p.state.rows)
      by_move_lem Move.On e out seen v q = leads p l x out seen v (omega arith) e q
      by_move_lem (Move.Ends w) e out seen v q =
          ends p (answered w x p.state.rows)
          (record {
            farther = λ {c} {u} {r} e. (let y : x ≡ u = ap used_in e in omega arith);
            counted = λ {c} {u} {r} e. ap rows_in e;
          })
      by_move_lem (Move.Refused w) e out seen v q =
          ends p (refused_at w p.number)
          (record { farther = λ e. absurd (not_read e); counted = λ e. absurd (not_read e) })

-- ---- a line met at a place of the reply

-- the line l stands there, and the next one starts at x
pub record Met (s : List ℕ) (n : ℕ) (p : Place) (l : Line) (x : ℕ) : Type 0 where
  pub start : ℕ
  pub end : ℕ
  pub text : line_to start end x ≡ next_line s p.used
  pub is : l ≡ line_at n p.number (take (end - start) (drop start s))

module _ {s : List ℕ} {n : ℕ} {p : Place} {l : Line} {x : ℕ} (m : Met s n p l x) where
  pub standing : Stands s p.used m.start m.end x
  standing = stands s p.used m.start m.end x m.text

  pub round : Round s n p.number p.used m.start m.end x p.state (step n l p.state)
  round = record { line = m.text; does = ap (λ (y : Line). step n y p.state) m.is }

  -- the rows still to come, here and past the line
  rows_line : (t : List ℕ) (ls : List (List ℕ)) → l ≡ line_at n p.number t
      → makes_from n p (t ∷ ls) ≡ while_on (step n l p.state).to (makes_from n (past n l x p) ls) p.rows
  unfolding rows_from
  rows_line t ls e = rw e refl

  rows_here : makes_from n p (lines (drop p.used s))
      ≡ while_on (step n l p.state).to (makes_from n (past n l x p) (lines (drop x s))) p.rows
  rows_here =
      ap (makes_from n p) (serves s p.used m.start m.end x m.text)
      ∙ rows_line (take (m.end - m.start) (drop m.start s)) (lines (drop x s)) m.is

  pub rows_on : (step n l p.state).to ≡ Move.On
      → makes_from n p (lines (drop p.used s)) ≡ makes_from n (past n l x p) (lines (drop x s))
  rows_on e = rows_here ∙ rw e refl

  pub rows_ended : {v : ℕ} → (step n l p.state).to ≡ Move.Ends v
      → makes_from n p (lines (drop p.used s)) ≡ p.rows
  rows_ended e = rows_here ∙ rw e refl

-- where the next line of a good reply leads: on, or to its end
pub data Leads (s : List ℕ) (n : ℕ) (p : Place) (c u r : ℕ) : Type 0 where
  on : (l : Line) (x : ℕ) → Met s n p l x → (step n l p.state).to ≡ Move.On
      → says_from n (past n l x p) (lines (drop x s)) ≡ answered c u r → Leads s n p c u r
  ends : (l : Line) (v : ℕ) → Met s n p l u → (step n l p.state).to ≡ Move.Ends v → Leads s n p c u r

pub leads : (s : List ℕ) (n : ℕ) (p : Place) (c u r : ℕ)
    → says_from n p (lines (drop p.used s)) ≡ answered c u r → Leads s n p c u r
leads s n p c u r good = by_line (next_line s p.used) refl
  where
    none : none_left ≡ next_line s p.used → Dec (length s < p.used) → ⊥
    none t (yes h) = not_read (sym (no_more s n p.number p.used p.state (omega arith)) ∙ good)
    none t (no h) = not_read (sym (no_line s n p.number p.used p.state (omega arith) t) ∙ good)

    by_line : (y : Option NextLine) → next_line s p.used ≡ y → Leads s n p c u r
    by_line None t = absurd (none (sym t) (dec_lt (length s) p.used))
    by_line (Some y) t = by_move_lem (step n l p.state).to refl
      where
        l : Line
        l = line_at n p.number (take (y.end - y.start) (drop y.start s))

        x : ℕ
        x = y.next

        met : Met s n p l x
        met = record { start = y.start; end = y.end; text = sym t; is = refl }

        by_move_lem : (m : Move) → (step n l p.state).to ≡ m → Leads s n p c u r
        by_move_lem Move.On m = on l x met m (sym (goes_on (round met) m) ∙ good)
        by_move_lem (Move.Ends v) m =
            let q : answered v x p.state.rows ≡ answered c u r = sym (ends_here (round met) m) ∙ good in
            let same : x ≡ u = ap used_in q in
            ends l v (rw same at met) m
        by_move_lem (Move.Refused w) m = absurd (not_read (sym (refused_here (round met) m) ∙ good))
