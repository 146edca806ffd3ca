-- Laws of the rows: what is open around a line is the row that it stands in and the rows around that one; so the parent
-- of a scan's row is a measuring loop's, and no row's parent is a scan's. Assumes nothing.
use mathlib.Core.Bool.{true}
use mathlib.Core.List.{List, [], ◌∷◌}
use mathlib.Core.Path.{◌≡◌, refl, sym, ◌∙◌, ap, ap₂, subst}
use native.Mathlib.Decide.{dec_lt}
use native.Mathlib.Omega.{arith}
use Prim.Native.Nat.{ℕ, zero, suc, ◌≤◌, ◌<◌}
use lib.ListN.{length, get_or}
use lib.Seq.{get_or_at}
use Rattle.laws.proofs.Apart.{apart}
use Rattle.text.specs.Cut.{lines}
use Rattle.reply_line.specs.declared.Line.{Line}
use Rattle.reply_line.specs.declared.RowKind.{RowKind}
use Rattle.reply_step.specs.Move as Move
use Rattle.reply_step.specs.Step.{Open, begun, step, innermost, may_open, opened, closed, outer, closes}
use Rattle.reply_step.proofs.Leading.{LeadsOn, InPlace, open_after, Onward, onward}
use Rattle.reply_step.proofs.Places.{by_innermost, scan_inside, none_inside_scan, some_closed}
use Rattle.reply.specs.declared.Row.{Row}
use Rattle.reply.specs.Rows.{script_row, new_row, rows_after, holder_after, rows_of}
use Rattle.reply.proofs.Course.{Place, by_lines}
use Rattle.reply.proofs.Rows.{Sound, sound_step, sound_begun, SoundAt, one_longer, same_row, longer, counting}
use Rattle.reply.proofs.Rows.{as_long, same_but_count, outset, own_parent}

abbrev kind_at : List Row → ℕ → RowKind
kind_at rows i = (get_or rows i script_row).kind

abbrev parent_at : List Row → ℕ → ℕ
parent_at rows i = (get_or rows i script_row).parent

-- ---- what holds at every line

-- the row `at` and those around it are of these kinds, up to the script's
abbrev Around : List Row → List RowKind → ℕ → Type 0
Around rows [] at = at ≡ 0
Around rows (k ∷ ls) at = (at < length rows) × (kind_at rows at ≡ k) × Around rows ls (parent_at rows at)

-- each row but the script's may open inside its parent
abbrev Inside : List Row → Type 0
Inside rows =
    (i : ℕ) → i < length rows → 0 < i → may_open (kind_at rows i) (kind_at rows (parent_at rows i) ∷ []) ≡ true

record Nested (o : Open) (at : ℕ) (rows : List Row) : Type 0 where
  script : kind_at rows 0 ≡ RowKind.Script
  around : Around rows o.around at
  inside : Inside rows

-- the row that a line stands in is of the innermost kind
stands_in : {o : Open} {at : ℕ} {rows : List Row} → Nested o at rows → kind_at rows at ≡ innermost o.around
stands_in {o} {at} {rows} g = by_kinds o.around g.around
  where
    by_kinds : (ls : List RowKind) → Around rows ls at → kind_at rows at ≡ innermost ls
    by_kinds [] e = ap (kind_at rows) e ∙ g.script
    by_kinds (k ∷ ls) a = a.1

-- ---- rows that were there keep kind and parent

record Kept (old new : List Row) : Type 0 where
  more : length old ≤ length new
  kind : (i : ℕ) → i < length old → kind_at new i ≡ kind_at old i
  parent : (i : ℕ) → i < length old → parent_at new i ≡ parent_at old i

module _ {old new : List Row} (k : Kept old new) where
  around_kept : (ls : List RowKind) (at : ℕ) → Around old ls at → Around new ls at
  around_kept [] at e = e
  around_kept (l ∷ ls) at (h, e, up) = (
    omega (arith, k.more),
    k.kind at h ∙ e,
    subst (Around new ls) (sym (k.parent at h)) (around_kept ls (parent_at old at) up),
  )

  inside_kept : {o : Open} {at : ℕ} → Sound o at old → Inside old → (i : ℕ) → i < length old → 0 < i
      → may_open (kind_at new i) (kind_at new (parent_at new i) ∷ []) ≡ true
  inside_kept g inside i h p =
      let up : parent_at old i < i = g.up i h p in
      let same : kind_at new (parent_at new i) ≡ kind_at old (parent_at old i) =
      ap (kind_at new) (k.parent i h) ∙ k.kind (parent_at old i) (omega arith) in
      rw (k.kind i h, same) (inside i h p)

-- ---- line by line

module _ {o : Open} {at : ℕ} {rows : List Row} (g : Sound o at rows) (w : Nested o at rows) where
  -- an opening mark, where it may open
  module _ (k : RowKind) (v : ℕ) (may : may_open k o.around ≡ true) where
    abbrev out : List Row
    out = longer g k v

    kept : Kept rows out
    kept =
        record {
          more = omega (arith, one_longer g k v);
          kind = λ i h. ap (λ (r : Row). r.kind) (same_row g k v i h);
          parent = λ i h. ap (λ (r : Row). r.parent) (same_row g k v i h);
        }

    last : (i : ℕ) → length rows ≡ i → get_or out i script_row ≡ new_row k v at
    last i e = get_or_at rows (new_row k v at) [] script_row i e

    inside_open : (i : ℕ) → i < length out → 0 < i → Dec (i < length rows)
        → may_open (kind_at out i) (kind_at out (parent_at out i) ∷ []) ≡ true
    inside_open i h p (yes q) = inside_kept kept g w.inside i q p
    inside_open i h p (no q) =
        let new : get_or out i script_row ≡ new_row k v at = last i (omega (arith, one_longer g k v)) in
        let up : kind_at out (parent_at out i) ≡ innermost o.around =
        ap (λ (r : Row). kind_at out r.parent) new ∙ kept.kind at g.holder ∙ stands_in w in
        ap₂ (λ (x y : RowKind). may_open x (y ∷ [])) (ap (λ (r : Row). r.kind) new) up
        ∙ sym (by_innermost k o.around) ∙ may

    nested_open : Nested (opened k o) (length rows) out
    nested_open =
        let new : get_or out (length rows) script_row ≡ new_row k v at = last (length rows) refl in
        record {
          script = kept.kind 0 (omega (arith, g.holder)) ∙ w.script;
          around = (
            omega (arith, one_longer g k v),
            ap (λ (r : Row). r.kind) new,
            subst (λ (r : Row). Around out o.around r.parent) (sym new)
                (around_kept kept o.around at w.around),
          );
          inside = λ i h p. inside_open i h p (dec_lt i (length rows));
        }

  -- a package: kinds and parents stay
  counted : Kept rows (counting g)
  counted =
      record {
        more = omega (arith, as_long g);
        kind = λ i h. same_but_count g (λ (r : Row). r.kind) (λ r. refl) i;
        parent = λ i h. same_but_count g (λ (r : Row). r.parent) (λ r. refl) i;
      }

  nested_package : Nested o at (counting g)
  nested_package =
      record {
        script = counted.kind 0 (omega (arith, g.holder)) ∙ w.script;
        around = around_kept counted o.around at w.around;
        inside = λ i h p. inside_kept counted g w.inside i (omega (arith, as_long g)) p;
      }

  -- a closing mark leads back to the parent
  nested_close : (k : RowKind) → closes k o.around ≡ true → Nested (closed o) (parent_at rows at) rows
  nested_close k e =
      let some : Around rows (innermost o.around ∷ outer o.around) at =
      subst (λ (ls : List RowKind). Around rows ls at) (some_closed k o.around e) w.around in
      record { script = w.script; around = some.2; inside = w.inside }

  nested_after : (n : ℕ) (l : Line) → LeadsOn n o l → InPlace o l
      → Nested (open_after l o) (holder_after l at rows) (rows_after l at rows)
  unfolding rows_after holder_after
  nested_after n Line.Quiet y q = w
  nested_after n Line.Empty y q = absurd y
  nested_after n Line.Package y q = nested_package
  nested_after n (Line.Opens k v) y q = nested_open k v q
  nested_after n (Line.Closes k) y q = nested_close k q
  nested_after n (Line.Error v) y q = absurd y
  nested_after n (Line.Refused r) y q = absurd y

  nested_step : (n : ℕ) (l : Line) → (step n l o).to ≡ Move.On
      → Nested (step n l o).state (holder_after l at rows) (rows_after l at rows)
  nested_step n l e =
      let y : Onward n o l = onward n o l e in
      subst (λ (x : Open). Nested x (holder_after l at rows) (rows_after l at rows)) (sym y.state)
      (nested_after n l y.may y.place)

nested_begun : Nested begun 0 (script_row ∷ [])
nested_begun = record { script = refl; around = refl; inside = λ i h p. absurd (none i h p) }
  where
    none : (i : ℕ) → i < 1 → 0 < i → ⊥
    none i h p = omega arith

-- ---- of a whole reply

script_no_scan : RowKind.Script ≡ RowKind.Scan → ⊥
script_no_scan e = apart cc

record Placed (rows : List Row) : Type 0 where
  script : kind_at rows 0 ≡ RowKind.Script
  inside : Inside rows

abbrev NestedAt : Place → Type 0
NestedAt p = Nested p.state p.holder p.rows

module _ (n : ℕ) (s : List ℕ) where
  placed : Placed (rows_of n s)
  unfolding rows_of
  placed =
      by_lines n (λ p out seen v. SoundAt p → NestedAt p → Placed out)
      (λ p v d g w. record { script = w.script; inside = w.inside })
      (λ p l x out seen v more e rest g w. rest (sound_step g n l e) (nested_step g w n l e))
      outset (lines s) sound_begun nested_begun

  abbrev rows : List Row
  rows = rows_of n s

  -- the parent of a scan's row is a measuring loop's row
  pub scan_in_sweep : (i : ℕ) → i < length rows → (get_or rows i script_row).kind ≡ RowKind.Scan
      → (get_or rows (get_or rows i script_row).parent script_row).kind ≡ RowKind.Sweep
  scan_in_sweep zero h e = absurd (script_no_scan (sym placed.script ∙ e))
  scan_in_sweep (suc i) h e =
      scan_inside (kind_at rows (parent_at rows (suc i)))
      (subst (λ (k : RowKind). may_open k (kind_at rows (parent_at rows (suc i)) ∷ []) ≡ true) e
      (placed.inside (suc i) h (omega arith)))

  -- no row has a scan's row as its parent
  pub none_in_scan : (i : ℕ) → i < length rows
      → (get_or rows (get_or rows i script_row).parent script_row).kind ≡ RowKind.Scan → ⊥
  none_in_scan zero h e =
      script_no_scan (sym placed.script ∙ sym (ap (kind_at rows) (own_parent n s)) ∙ e)
  none_in_scan (suc i) h e =
      none_inside_scan (kind_at rows (suc i))
      (subst (λ (l : RowKind). may_open (kind_at rows (suc i)) (l ∷ []) ≡ true) e
      (placed.inside (suc i) h (omega arith)))
