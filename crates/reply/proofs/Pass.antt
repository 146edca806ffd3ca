-- The second pass writes the rows of the definition into a memory, and leaves the rest: once for rows and for numbers,
-- by what a memory must be. Assumes nothing.
use mathlib.Core.Bool.{Bool, cond}
use mathlib.Core.List.{List, [], ◌∷◌, ◌++◌}
use mathlib.Core.Path.{◌≡◌, refl, sym, ◌∙◌, ap, ap₂}
use native.Mathlib.Omega.{arith}
use Prim.Native.Nat.{ℕ, zero, suc, ◌+◌, ◌-◌, ◌<◌, ◌≤◌}
use borrow.Author.Tests.{lt-ltb, le-ltb, ne_eqb}
use lib.ListN.{length, take, drop, get_or, set, length-set, length-append}
use lib.Seq.{set-get_or}
use Rattle.text.specs.Cut.{lines}
use Rattle.reply_line.specs.declared.RowKind.{RowKind}
use Rattle.reply_line.specs.declared.Line.{Line}
use Rattle.reply_line.specs.declared.Refusal.{Refusal}
use Rattle.reply_line.specs.Line.{later_line, line_at}
use Rattle.reply_line.proofs.Lines.{known_same}
use Rattle.reply_step.specs.Move as Move
use Rattle.reply_step.specs.Step.{Open, step}
use Rattle.reply_step.proofs.Leading.{refused_not_on, refused_not_ends, LeadsOn, onward, Ending, ending}
use Rattle.reply.specs.declared.Change.{Change}
use Rattle.reply.specs.declared.Row.{Row}
use Rattle.reply.specs.declared.Seen.{Seen}
use Rattle.reply.specs.declared.Stand.{Stand}
use Rattle.reply.specs.Reply.{answered}
use Rattle.reply.specs.Code.{seen_at, place_by, one_more, raised_row, change_by, clamp, place_in, turned}
use Rattle.reply.specs.Code.{Memory, turn_in, memory_after, pass_from}
use Rattle.reply.specs.Rows.{script_row, new_row, raised, rows_after, holder_after, is_opening, is_package}
use Rattle.reply.specs.Rows.{packages_of}
use Rattle.reply.proofs.Course.{Place, past, says_from, makes_from, Met, standing, rows_on, rows_ended}
use Rattle.reply.proofs.Course.{Leads, on, ends, leads}
use Rattle.reply.proofs.Rows.{Sound, sound_step, length-after, total_after, one_of, used_more}
use Rattle.reply.proofs.Turns.{seen_text}

-- ---- a memory that shows rows in front

-- a row whose counts fit 32 bits
pub record Small (r : Row) : Type 0 where
  pub parent : r.parent < 4294967296
  pub packages : r.packages < 4294967296

-- with room for n rows: a row is read as it is shown, put over, and put behind the last
pub record Shows {X : Type 0} (m : Memory X) (n : ℕ) (show : List Row → X) : Type 0 where
  pub reads : (rows : List Row) (i : ℕ) → length rows ≤ n → i < length rows
      → m.get (show rows) i ≡ get_or rows i script_row
  pub over : (rows : List Row) (i : ℕ) (r : Row) → i < length rows → Small r → m.put (show rows) i r
      ≡ show (set rows i r)
  pub behind : (rows : List Row) (r : Row) → length rows < n → Small r
      → m.put (show rows) (length rows) r ≡ show (rows ++ (r ∷ []))

-- ---- small laws

pub clamped : (n p : ℕ) → p < n → clamp n p ≡ p
clamped n p h = rw (lt-ltb p n h) refl

more_by_one : (m : ℕ) → m < 65536 → one_more m ≡ m + 1
unfolding one_more
more_by_one m h = rw (lt-ltb m 65536 h) refl

is_raised : (r : Row) → r.packages < 65536 → raised_row r ≡ raised r
unfolding raised_row
is_raised r h =
    ap (λ (m : ℕ). record { kind = r.kind; mark = r.mark; parent = r.parent; packages = m })
    (more_by_one r.packages h)

-- ---- one turn

-- what holds at a line of a good reply: the rows have room, and are few
record Held (o : Open) (at n : ℕ) (rows : List Row) : Type 0 where
  sound : Sound o at rows
  fit : length rows ≤ n
  few : length rows + packages_of rows < 65536

small_row : {o : Open} {at n : ℕ} {rows : List Row} → Held o at n rows → (i : ℕ) → i < length rows
    → Small (get_or rows i script_row)
small_row {rows = rows} g zero h =
    record { parent = omega (arith, g.sound.own); packages = omega (arith, g.few, one_of rows zero) }
small_row {rows = rows} g (suc i) h =
    record {
      parent = omega (arith, g.few, g.sound.up (suc i) h (omega arith));
      packages = omega (arith, g.few, one_of rows (suc i));
    }

module _ {X : Type 0} (m : Memory X) (n : ℕ) where
  -- which row a line is about, and what becomes of it
  abbrev place_for : ℕ → Line → ℕ → ℕ
  place_for count l at = clamp n (place_by l at count)

  abbrev change_for : ℕ → Line → ℕ → X → Change
  change_for count l at x = change_by l at count (m.get x (place_for count l at))

  abbrev put_for : ℕ → Line → ℕ → X → X
  put_for count l at x = m.put x (place_for count l at) (change_for count l at x).row

  -- what the turn makes is what the definition makes
  record Turned (show : List Row → X) (l : Line) (at : ℕ) (rows : List Row) : Type 0 where
    memory : put_for (length rows) l at (show rows) ≡ show (rows_after l at rows)
    holder : (change_for (length rows) l at (show rows)).holder ≡ holder_after l at rows
    count : (change_for (length rows) l at (show rows)).rows ≡ length (rows_after l at rows)

module _ {X : Type 0} {m : Memory X} {n : ℕ} {show : List Row → X} (w : Shows m n show)
    {o : Open} {at : ℕ} {rows : List Row} (g : Held o at n rows) where
  within : at < length rows
  within = g.sound.holder

  place : clamp n at ≡ at
  place = clamped n at (omega (arith, g.fit, within))

  old_row : m.get (show rows) (clamp n at) ≡ get_or rows at script_row
  old_row = ap (m.get (show rows)) place ∙ w.reads rows at g.fit within

  small : Small (get_or rows at script_row)
  small = small_row g at within

  few_in : (get_or rows at script_row).packages < 65536
  few_in = omega (arith, g.few, one_of rows at)

  -- the row that a line is inside of, put back as it was
  put_back : m.put (show rows) (clamp n at) (m.get (show rows) (clamp n at)) ≡ show rows
  put_back =
      ap₂ (m.put (show rows)) place old_row
      ∙ w.over rows at (get_or rows at script_row) within small
      ∙ ap show (set-get_or rows at script_row)

  turned_package : Turned m n show Line.Package at rows
  unfolding place_by change_by rows_after holder_after
  turned_package =
      record {
        memory = ap₂ (λ (p : ℕ) (r : Row). m.put (show rows) p (raised_row r)) place old_row
            ∙ ap (m.put (show rows) at) (is_raised (get_or rows at script_row) few_in)
            ∙ w.over rows at (raised (get_or rows at script_row)) within
            (record { parent = small.parent; packages = omega (arith, few_in) });
        holder = refl;
        count = sym (length-set rows at (raised (get_or rows at script_row)));
      }

  turned_opens : (k : RowKind) (v : ℕ) → o.rows < n → Turned m n show (Line.Opens k v) at rows
  unfolding place_by change_by rows_after holder_after
  turned_opens k v more =
      let room : length rows < n = omega (arith, g.sound.counted) in
      record {
        memory = ap (λ (p : ℕ). m.put (show rows) p (new_row k v at)) (clamped n (length rows) room)
            ∙ w.behind rows (new_row k v at) room
            (record { parent = omega (arith, g.few, within); packages = omega arith });
        holder = refl;
        count = more_by_one (length rows) (omega (arith, g.few)) ∙ sym (length-append rows (new_row k v at ∷ []));
      }

  turned_on : (l : Line) → LeadsOn n o l → Turned m n show l at rows
  unfolding place_by change_by rows_after holder_after
  turned_on Line.Quiet y = record { memory = put_back; holder = refl; count = refl }
  turned_on Line.Empty y = absurd y
  turned_on Line.Package y = turned_package
  turned_on (Line.Opens k v) y = turned_opens k v y
  turned_on (Line.Closes k) y = record { memory = put_back; holder = ap (λ (r : Row). r.parent) old_row; count = refl }
  turned_on (Line.Error v) y = absurd y
  turned_on (Line.Refused r) y = absurd y

  -- the line that ends the reply changes no row
  kept_at_end : (l : Line) → Ending l → put_for m n (length rows) l at (show rows) ≡ show rows
  unfolding place_by change_by
  kept_at_end Line.Quiet y = absurd y
  kept_at_end Line.Empty y = put_back
  kept_at_end Line.Package y = absurd y
  kept_at_end (Line.Opens k v) y = absurd y
  kept_at_end (Line.Closes k) y = absurd y
  kept_at_end (Line.Error v) y = put_back
  kept_at_end (Line.Refused r) y = absurd y

-- ---- turn by turn

module _ {X : Type 0} (m : Memory X) (s : List ℕ) (n : ℕ) where
  pub one_turn : (f : ℕ) (st : Stand) (x : X) → st.pos < st.end
      → pass_from m (suc f) s n st x ≡ pass_from m f s n (turn_in m s n st x).next (memory_after m s n st x)
  unfolding pass_from
  one_turn f st x h =
      ap (λ (b : Bool). cond b (pass_from m f s n (turn_in m s n st x).next (memory_after m s n st x)) x)
      (lt-ltb st.pos st.end h)

  pub no_turn : (f : ℕ) (st : Stand) (x : X) → st.end ≤ st.pos → pass_from m f s n st x ≡ x
  unfolding pass_from
  no_turn zero st x h = refl
  no_turn (suc f) st x h =
      ap (λ (b : Bool). cond b (pass_from m f s n (turn_in m s n st x).next (memory_after m s n st x)) x)
      (le-ltb st.pos st.end h)

-- the stand at a line that is not the first
abbrev pub later : List ℕ → ℕ → ℕ → ℕ → ℕ → Stand
later s end pos at count =
    record {
      pos = pos;
      end = end;
      line = (seen_at s end pos).line;
      next = (seen_at s end pos).next;
      holder = at;
      rows = count;
    }

module _ {X : Type 0} (m : Memory X) (s : List ℕ) (n end : ℕ) where
  turn_by : (f pos at count : ℕ) (x : X) (l : Line) (next : ℕ) → pos < end
      → record { line = l; next = next } ≡ seen_at s end pos
      → pass_from m (suc f) s n (later s end pos at count) x
      ≡ pass_from m f s n
      (later s end next (change_for m n count l at x).holder (change_for m n count l at x).rows)
      (put_for m n count l at x)
  unfolding turned place_in
  turn_by f pos at count x l next h q =
      one_turn m s n f (later s end pos at count) x h
      ∙ sym (ap (λ (y : Seen). pass_from m f s n
      (later s end y.next (change_for m n count y.line at x).holder (change_for m n count y.line at x).rows)
      (put_for m n count y.line at x)) q)

-- ---- a line of a good reply is the same where it is not judged again

refused_too : (n : ℕ) (l : Line) (o : Open) (r : Refusal) → l ≡ Line.Refused r → (step n l o).to ≡ Move.Refused r
unfolding step
refused_too n l o r e = ap (λ (m : Line). (step n m o).to) e

later_line_lem : (n k : ℕ) (t : List ℕ) → 2 ≤ k → line_at n k t ≡ later_line t
unfolding line_at
later_line_lem n k t h = rw (ne_eqb k 1 (λ e. omega arith)) refl

seen_here : {s : List ℕ} {n : ℕ} {p : Place} {l : Line} {x : ℕ} (m : Met s n p l x) (end : ℕ) → 2 ≤ p.number
    → ((r : Refusal) → (step n l p.state).to ≡ Move.Refused r → ⊥)
    → record { line = l; next = x } ≡ seen_at s end p.used
seen_here {s} {n} {p} {l} {x} m end h fine =
    seen_text s end p.used m.start m.end x l m.text (is_later ∙ sym (known_same text good))
  where
    text : List ℕ
    text = take (m.end - m.start) (drop m.start s)

    is_later : l ≡ later_line text
    is_later = m.is ∙ later_line_lem n p.number text h

    good : (r : Refusal) → later_line text ≡ Line.Refused r → ⊥
    good r e = fine r (refused_too n l p.state r (is_later ∙ e))

-- ---- the pass makes what the definition makes

-- at a line that is not the first, of a reply that is read
pub record Going (s : List ℕ) (n c u r : ℕ) (p : Place) : Type 0 where
  pub second : 2 ≤ p.number
  pub sound : Sound p.state p.holder p.rows
  pub fit : length p.rows ≤ n
  pub few : length p.rows + packages_of p.rows ≤ p.used
  pub good : says_from n p (lines (drop p.used s)) ≡ answered c u r

at_most_one : (l : Line) → is_opening l + is_package l ≤ 1
unfolding is_opening is_package
at_most_one Line.Quiet = omega arith
at_most_one Line.Empty = omega arith
at_most_one Line.Package = omega arith
at_most_one (Line.Opens k v) = omega arith
at_most_one (Line.Closes k) = omega arith
at_most_one (Line.Error v) = omega arith
at_most_one (Line.Refused r) = omega arith

-- an opening mark that leads on has its row
has_row : (n : ℕ) (o : Open) (l : Line) (count : ℕ) → LeadsOn n o l → o.rows ≡ count → count ≤ n
    → count + is_opening l ≤ n
unfolding is_opening
has_row n o Line.Quiet count y e h = omega arith
has_row n o Line.Empty count y e h = absurd y
has_row n o Line.Package count y e h = omega arith
has_row n o (Line.Opens k v) count y e h = omega arith
has_row n o (Line.Closes k) count y e h = omega arith
has_row n o (Line.Error v) count y e h = absurd y
has_row n o (Line.Refused r) count y e h = absurd y

module _ {s : List ℕ} {n c u r : ℕ} {p : Place} (g : Going s n c u r p) {l : Line} {x : ℕ} (d : Met s n p l x) where
  -- after a line that goes on, the same holds at the next
  going_on : (step n l p.state).to ≡ Move.On → says_from n (past n l x p) (lines (drop x s)) ≡ answered c u r
      → Going s n c u r (past n l x p)
  going_on e good =
      let long : length (rows_after l p.holder p.rows) ≡ length p.rows + is_opening l =
      length-after l p.holder p.rows in
      record {
        second = omega (arith, g.second);
        sound = sound_step g.sound n l e;
        fit = omega (
          arith,
          long,
          has_row n p.state l (length p.rows) (onward n p.state l e).may g.sound.counted g.fit,
        );
        few = omega (
          arith,
          g.few,
          (standing d).end,
          (standing d).next,
          long,
          at_most_one l,
          total_after l p.holder p.rows g.sound.holder,
        );
        good = good;
      }

  held : length s ≤ 65536 → Held p.state p.holder n p.rows
  held short =
      record {
        sound = g.sound;
        fit = g.fit;
        few = omega (arith, g.few, (standing d).end, (standing d).more);
      }

module _ {X : Type 0} {m : Memory X} {n : ℕ} {show : List Row → X} (w : Shows m n show) (s : List ℕ) (c u r : ℕ)
    (short : length s ≤ 65536) where
  abbrev at_place : Place → Stand
  at_place p = later s u p.used p.holder (length p.rows)

  -- with turns enough, the pass makes of the rows so far what the lines still make of them
  pub bridge : (f : ℕ) (p : Place) → u ≤ p.used + f → Going s n c u r p
      → pass_from m f s n (at_place p) (show p.rows) ≡ show (makes_from n p (lines (drop p.used s)))
  bridge zero p enough g = absurd (none (used_more n p (lines (drop p.used s)) g.good))
    where
      none : p.used < u → ⊥
      none h = omega arith
  bridge (suc f) p enough g = by_lead (leads s n p c u r g.good) (λ q e h. bridge f q e h)
    where
      left : p.used < u
      left = used_more n p (lines (drop p.used s)) g.good

      by_lead : Leads s n p c u r
          → ((q : Place) → u ≤ q.used + f → Going s n c u r q
          → pass_from m f s n (at_place q) (show q.rows) ≡ show (makes_from n q (lines (drop q.used s))))
          → pass_from m (suc f) s n (at_place p) (show p.rows) ≡ show (makes_from n p (lines (drop p.used s)))
      by_lead (on l x d e good) ih =
          let t : Turned m n show l p.holder p.rows =
          turned_on w (held g d short) l (onward n p.state l e).may in
          turn_by m s n u f p.used p.holder (length p.rows) (show p.rows) l x left
          (seen_here d u g.second (λ v q. refused_not_on (sym q ∙ e)))
          ∙ (λ i. pass_from m f s n (later s u x (t.holder i) (t.count i)) (t.memory i))
          ∙ ih (past n l x p) (omega (arith, (standing d).end, (standing d).next)) (going_on g d e good)
          ∙ sym (ap show (rows_on d e))
      by_lead (ends l v d e) ih =
          turn_by m s n u f p.used p.holder (length p.rows) (show p.rows) l u left
          (seen_here d u g.second (λ y q. refused_not_ends (sym q ∙ e)))
          ∙ no_turn m s n f (later s u u _ _) _ (omega arith)
          ∙ kept_at_end w (held g d short) l (ending n p.state l e)
          ∙ sym (ap show (rows_ended d e))
