-- Laws of the rows: one more than opening marks, in opening order; their packages are the package lines; a parent
-- stands before its row; the answer counts them. Assumes nothing.
use mathlib.Core.List.{List, [], ◌∷◌, ◌++◌, map, append_assoc, append-nil}
use mathlib.Core.Path.{◌≡◌, refl, sym, ◌∙◌, ap, subst}
use native.Mathlib.Decide.{dec_lt}
use native.Mathlib.Omega.{arith}
use Prim.Native.Nat.{ℕ, zero, suc, ◌+◌, ◌≤◌, ◌<◌}
use borrow.Table.Elements.{map_app}
use lib.ListN.{length, get_or, set, length-set, length-append, get_or-append, get_or-eq_default, get_or-map}
use lib.Seq.{get_or_at, map-set_same}
use Rattle.text.specs.Cut.{lines}
use Rattle.reply_line.specs.declared.RowKind.{RowKind}
use Rattle.reply_line.specs.declared.Line.{Line}
use Rattle.reply_step.specs.Move as Move
use Rattle.reply_step.specs.Step.{Open, begun, step, opened, closed}
use Rattle.reply_step.proofs.Leading.{LeadsOn, open_after, Onward, onward}
use Rattle.reply.specs.declared.Row.{Row}
use Rattle.reply.specs.Reply.{Answer, answered, verdict_from}
use Rattle.reply.specs.Rows.{script_row, new_row, raised, rows_after, holder_after, rows_of, seen_in}
use Rattle.reply.specs.Rows.{is_opening, opens, openings, is_package, count_by, packages_of}
use Rattle.reply.proofs.Course.{Place, past, makes_from, reads_from, says_from, Done, by_lines}

-- ---- what holds at every line: the rows are counted, the innermost is one, and parents stand before their rows

abbrev row_at : List Row → ℕ → Row
row_at rows i = get_or rows i script_row

pub record Sound (o : Open) (at : ℕ) (rows : List Row) : Type 0 where
  pub counted : o.rows ≡ length rows
  pub holder : at < length rows
  pub own : (get_or rows 0 script_row).parent ≡ 0
  pub up : (i : ℕ) → i < length rows → 0 < i → (get_or rows i script_row).parent < i

module _ {o : Open} {at : ℕ} {rows : List Row} (g : Sound o at rows) where
  -- an opening mark: one row more, whose parent is the innermost
  module _ (k : RowKind) (v : ℕ) where
    abbrev pub longer : List Row
    longer = rows ++ (new_row k v at ∷ [])

    pub one_longer : length longer ≡ length rows + 1
    one_longer = length-append rows (new_row k v at ∷ [])

    pub same_row : (i : ℕ) → i < length rows → row_at longer i ≡ row_at rows i
    same_row i h = get_or-append rows (new_row k v at ∷ []) script_row i h

    parent_before : (i : ℕ) → i < length longer → 0 < i → Dec (i < length rows) → (row_at longer i).parent < i
    parent_before i h p (yes q) = subst (λ (r : Row). r.parent < i) (sym (same_row i q)) (g.up i q p)
    parent_before i h p (no q) =
        let e : length rows ≡ i = omega (arith, one_longer) in
        subst (λ (r : Row). r.parent < i) (sym (get_or_at rows (new_row k v at) [] script_row i e))
        (subst (λ (m : ℕ). at < m) e g.holder)

    sound_open : Sound (opened k o) (length rows) longer
    sound_open =
        record {
          counted = ap (λ (m : ℕ). m + 1) g.counted ∙ sym one_longer;
          holder = omega (arith, one_longer);
          own = ap (λ (r : Row). r.parent) (same_row 0 (omega (arith, g.holder))) ∙ g.own;
          up = λ i h p. parent_before i h p (dec_lt i (length rows));
        }

  -- a package: one count is raised, nothing else moves
  abbrev pub counting : List Row
  counting = set rows at (raised (row_at rows at))

  pub as_long : length counting ≡ length rows
  as_long = length-set rows at (raised (row_at rows at))

  pub same_but_count : {X : Type 0} (f : Row → X) → ((r : Row) → f (raised r) ≡ f r) → (i : ℕ)
      → f (row_at counting i) ≡ f (row_at rows i)
  same_but_count {X} f same i =
      sym (get_or-map f counting i script_row)
      ∙ ap (λ (l : List X). get_or l i (f script_row))
      (map-set_same f rows at (raised (row_at rows at)) script_row (same (row_at rows at)))
      ∙ get_or-map f rows i script_row

  same_parents : (i : ℕ) → (row_at counting i).parent ≡ (row_at rows i).parent
  same_parents = same_but_count (λ (r : Row). r.parent) (λ r. refl)

  sound_package : Sound o at counting
  sound_package =
      record {
        counted = g.counted ∙ sym as_long;
        holder = omega (arith, as_long, g.holder);
        own = same_parents 0 ∙ g.own;
        up = λ i h p. subst (λ (m : ℕ). m < i) (sym (same_parents i)) (g.up i (omega (arith, as_long)) p);
      }

  -- a closing mark leads back to the parent, which is a row too
  sound_close : Sound (closed o) (row_at rows at).parent rows
  sound_close = record { counted = g.counted; holder = back at g.holder; own = g.own; up = g.up }
    where
      back : (i : ℕ) → i < length rows → (row_at rows i).parent < length rows
      back zero h = subst (λ (m : ℕ). m < length rows) (sym g.own) h
      back (suc i) h = omega (arith, g.up (suc i) h (omega arith))

  sound_after : (n : ℕ) (l : Line) → LeadsOn n o l
      → Sound (open_after l o) (holder_after l at rows) (rows_after l at rows)
  unfolding rows_after holder_after
  sound_after n Line.Quiet y = g
  sound_after n Line.Empty y = absurd y
  sound_after n Line.Package y = sound_package
  sound_after n (Line.Opens k v) y = sound_open k v
  sound_after n (Line.Closes k) y = sound_close
  sound_after n (Line.Error v) y = absurd y
  sound_after n (Line.Refused r) y = absurd y

  pub sound_step : (n : ℕ) (l : Line) → (step n l o).to ≡ Move.On
      → Sound (step n l o).state (holder_after l at rows) (rows_after l at rows)
  sound_step n l e =
      let y : Onward n o l = onward n o l e in
      subst (λ (x : Open). Sound x (holder_after l at rows) (rows_after l at rows)) (sym y.state)
      (sound_after n l y.may)

pub sound_begun : Sound begun 0 (script_row ∷ [])
sound_begun = record { counted = refl; holder = omega arith; own = refl; up = λ i h p. absurd (none i h p) }
  where
    none : (i : ℕ) → i < 1 → 0 < i → ⊥
    none i h p = omega arith

-- ---- what a line adds

pub length-after : (l : Line) (at : ℕ) (rows : List Row) → length (rows_after l at rows) ≡ length rows + is_opening l
unfolding rows_after is_opening
length-after Line.Quiet at rows = omega arith
length-after Line.Empty at rows = omega arith
length-after Line.Package at rows = length-set rows at (raised (row_at rows at)) ∙ omega arith
length-after (Line.Opens k v) at rows = length-append rows (new_row k v at ∷ [])
length-after (Line.Closes k) at rows = omega arith
length-after (Line.Error v) at rows = omega arith
length-after (Line.Refused r) at rows = omega arith

total_append : (rows : List Row) (r : Row) → packages_of (rows ++ (r ∷ [])) ≡ packages_of rows + r.packages
unfolding packages_of
total_append [] r = omega arith
total_append (x ∷ rows) r = omega (arith, total_append rows r)

total_raised : (rows : List Row) (j : ℕ) → j < length rows
    → packages_of (set rows j (raised (row_at rows j))) ≡ packages_of rows + 1
unfolding packages_of
total_raised [] j h = absurd (none j h)
  where
    none : (j : ℕ) → j < 0 → ⊥
    none j h = omega arith
total_raised (x ∷ rows) zero h = omega arith
total_raised (x ∷ rows) (suc j) h = omega (arith, total_raised rows j (omega arith))

pub total_after : (l : Line) (at : ℕ) (rows : List Row) → at < length rows
    → packages_of (rows_after l at rows) ≡ packages_of rows + is_package l
unfolding rows_after is_package
total_after Line.Quiet at rows h = omega arith
total_after Line.Empty at rows h = omega arith
total_after Line.Package at rows h = total_raised rows at h
total_after (Line.Opens k v) at rows h = total_append rows (new_row k v at)
total_after (Line.Closes k) at rows h = omega arith
total_after (Line.Error v) at rows h = omega arith
total_after (Line.Refused r) at rows h = omega arith

-- the kind and the code of a row
abbrev pub marking : Row → RowKind × ℕ
marking r = (r.kind, r.mark)

marks_after : (l : Line) (at : ℕ) (rows : List Row) → map marking (rows_after l at rows) ≡ map marking rows ++ opens l
unfolding rows_after opens
marks_after Line.Quiet at rows = sym (append-nil (map marking rows))
marks_after Line.Empty at rows = sym (append-nil (map marking rows))
marks_after Line.Package at rows =
    map-set_same marking rows at (raised (row_at rows at)) script_row refl ∙ sym (append-nil (map marking rows))
marks_after (Line.Opens k v) at rows = map_app marking rows (new_row k v at ∷ [])
marks_after (Line.Closes k) at rows = sym (append-nil (map marking rows))
marks_after (Line.Error v) at rows = sym (append-nil (map marking rows))
marks_after (Line.Refused r) at rows = sym (append-nil (map marking rows))

pub one_of : (rs : List Row) (i : ℕ) → (get_or rs i script_row).packages ≤ packages_of rs
unfolding packages_of
one_of [] i = omega arith
one_of (r ∷ rs) zero = omega arith
one_of (r ∷ rs) (suc i) = omega (arith, one_of rs i)

pub none_yet : packages_of (script_row ∷ []) ≡ 0
unfolding packages_of
none_yet = refl

-- ---- from a place on

-- the rows grow by the opening marks, in their order, and their packages by the package lines
pub record Grown (p : Place) (out : List Row) (seen : List Line) : Type 0 where
  pub rows : length out ≡ length p.rows + count_by is_opening seen
  pub marks : map marking out ≡ map marking p.rows ++ openings seen
  pub packages : packages_of out ≡ packages_of p.rows + count_by is_package seen

-- each parent stands before its row, and row 0 is its own
pub record Rooted (x : List Row) : Type 0 where
  pub own : (get_or x 0 script_row).parent ≡ 0
  pub up : (i : ℕ) → i < length x → 0 < i → (get_or x i script_row).parent < i

-- all of it, from a place that is sound
pub record Right (n : ℕ) (p : Place) (out : List Row) (seen : List Line) (v : Answer) : Type 0 where
  pub grown : Grown p out seen
  pub rooted : Rooted out
  pub counted : {c u r : ℕ} → v ≡ answered c u r → length out ≡ r
  pub fits : {c u r : ℕ} → p.state.rows ≤ n → v ≡ answered c u r → r ≤ n

abbrev pub SoundAt : Place → Type 0
SoundAt p = Sound p.state p.holder p.rows

right_done : (n : ℕ) (p : Place) (v : Answer) → Done p v → SoundAt p → Right n p p.rows [] v
unfolding count_by openings
right_done n p v d g =
    record {
      grown = record { rows = omega arith; marks = sym (append-nil (map marking p.rows)); packages = omega arith };
      rooted = record { own = g.own; up = g.up };
      counted = λ e. sym g.counted ∙ d.counted e;
      fits = λ h e. omega (arith, d.counted e, h);
    }

-- an opening mark that leads on has its row
still_fits : (n : ℕ) (l : Line) (o : Open) → Onward n o l → o.rows ≤ n → (step n l o).state.rows ≤ n
still_fits n l o y h = subst (λ (x : Open). x.rows ≤ n) (sym y.state) (by_line l y.may)
  where
    by_line : (l : Line) → LeadsOn n o l → (open_after l o).rows ≤ n
    by_line Line.Quiet y = h
    by_line Line.Empty y = h
    by_line Line.Package y = h
    by_line (Line.Opens k v) y = omega arith
    by_line (Line.Closes k) y = h
    by_line (Line.Error v) y = h
    by_line (Line.Refused r) y = h

right_on : (n : ℕ) (p : Place) (l : Line) (x : ℕ) (out : List Row) (seen : List Line) (v : Answer) → p.used < x
    → (step n l p.state).to ≡ Move.On → (SoundAt (past n l x p) → Right n (past n l x p) out seen v)
    → SoundAt p → Right n p out (l ∷ seen) v
unfolding count_by openings
right_on n p l x out seen v more e rest g =
    record {
      grown = record {
        rows = omega (arith, next.grown.rows, length-after l p.holder p.rows);
        marks = next.grown.marks
            ∙ ap (λ (m : List (RowKind × ℕ)). m ++ openings seen) (marks_after l p.holder p.rows)
            ∙ append_assoc (map marking p.rows) (opens l) (openings seen);
        packages = omega (arith, next.grown.packages, total_after l p.holder p.rows g.holder);
      };
      rooted = next.rooted;
      counted = next.counted;
      fits = λ h. next.fits (still_fits n l p.state (onward n p.state l e) h);
    }
  where
    next : Right n (past n l x p) out seen v
    next = rest (sound_step g n l e)

pub right : (n : ℕ) (p : Place) (ls : List (List ℕ)) → SoundAt p
    → Right n p (makes_from n p ls) (reads_from n p ls) (says_from n p ls)
right n = by_lines n (λ p out seen v. SoundAt p → Right n p out seen v) (right_done n) (right_on n)

pub used_more : (n : ℕ) (p : Place) (ls : List (List ℕ)) {c u r : ℕ} → says_from n p ls ≡ answered c u r → p.used < u
used_more n p ls {c} {u} {r} e =
    by_lines n (λ p out seen v. v ≡ answered c u r → p.used < u)
    (λ p v d. d.farther)
    (λ p l x out seen v more m rest e. omega (arith, more, rest e))
    p ls e

-- ---- of a whole reply

-- before the first line
abbrev pub outset : Place
outset = record { number = 1; used = 0; state = begun; holder = 0; rows = script_row ∷ [] }

module _ (n : ℕ) (s : List ℕ) where
  from_outset : Right n outset (rows_of n s) (seen_in n s) (verdict_from n 1 0 begun (lines s))
  unfolding rows_of seen_in
  from_outset = right n outset (lines s) sound_begun

  -- the count of rows is one more than the opening marks read
  pub rows_counted : length (rows_of n s) ≡ 1 + count_by is_opening (seen_in n s)
  rows_counted = from_outset.grown.rows

  -- in the order of opening, the script in front
  pub in_opening_order : map marking (rows_of n s) ≡ (RowKind.Script, 0) ∷ openings (seen_in n s)
  in_opening_order = from_outset.grown.marks

  -- the rows' packages are the package lines
  pub packages_counted : packages_of (rows_of n s) ≡ count_by is_package (seen_in n s)
  packages_counted = omega (arith, from_outset.grown.packages, none_yet)

  pub parents_before : (i : ℕ) → i < length (rows_of n s) → 0 < i → (get_or (rows_of n s) i script_row).parent < i
  parents_before = from_outset.rooted.up

  pub own_parent : (get_or (rows_of n s) 0 script_row).parent ≡ 0
  own_parent = from_outset.rooted.own

  -- the answer's count is the number of rows
  pub answer_counts : {c u r : ℕ} → verdict_from n 1 0 begun (lines s) ≡ answered c u r → length (rows_of n s) ≡ r
  answer_counts = from_outset.counted

  -- and no more than the table has
  pub answer_fits : {c u r : ℕ} → 0 < n → verdict_from n 1 0 begun (lines s) ≡ answered c u r → r ≤ n
  answer_fits some = from_outset.fits some

-- past the last row stands the script's
pub past_rows : (rows : List Row) (at : ℕ) → length rows ≤ at → script_row ≡ get_or rows at script_row
past_rows rows at h = sym (get_or-eq_default rows script_row h)
