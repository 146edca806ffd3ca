-- The pass over a table: the roles of its items, from which the marks are made, and whether the table is in shape.
use Prim.Native.Nat.{ℕ, ◌+◌, ◌≤◌, ◌<◌}
use mathlib.Core.Path.{◌≡◌, refl, sym, ap, ◌∙◌}
use mathlib.Core.Bool.{Bool, ◌&&◌, and-true, and_assoc}
use mathlib.Core.List.{List}
use native.Mathlib.Numerals.{add-one}
use native.Mathlib.Omega.{arith}
use lib.ListN.{length, set, take, drop, replicate, length-set, drop_of_length-le}
use lib.Seq.{take_all}
use Rattle.laws.specs.Least.{least}
use Rattle.laws.proofs.Least.{least_below}
use Rattle.table.specs.declared.Table.{Table}
use Rattle.table.specs.Shape.{slot_at, items_of, item_ok, items_ok, in_shape}
use Rattle.table.proofs.Items.{next_item}
use Rattle.mates.specs.declared.Mark.{Mark}
use Rattle.mates.specs.declared.Marks.{Marks}
use Rattle.mates.specs.declared.Role.{Role}
use Rattle.mates.specs.Code.{Marked, role_of, roles_of, marks_of, tag_in}
use Rattle.mates.proofs.Roles.{roles_more, length-roles}
use Rattle.mates.proofs.Scanned.{marked}
use Rattle.steps.proofs.Lookups.{count_is, items_few, item_here}
use Rattle.lookup.specs.declared.Survey.{Survey}
use Rattle.lookup.specs.Lookup.{sizes_ok, Surveys}

-- the marks are the table's, and b says whether it is in shape for a script of so many bytes
pub record Surveyed (size : ℕ) (t : Table) (ms : List Mark) (b : Bool) : Type 0 where
  pub marks : Marked (items_of t) ms
  pub shaped : b ≡ in_shape size t

same_marks : (rs rs' : List Role) (n : ℕ) → take n rs ≡ take n rs' → marks_of rs n ≡ marks_of rs' n
unfolding marks_of
same_marks rs rs' n e = rw e

-- j of n items are passed
pub record Passed (size : ℕ) (t : Table) (n : ℕ) (rs : List Role) (b : Bool) (j : ℕ) : Type 0 where
  pub within : j ≤ n
  pub long : length rs ≡ 128
  pub roles : take j rs ≡ roles_of (take j (items_of t))
  pub shape : (b && items_ok t.names size (drop j (items_of t))) ≡ in_shape size t

pub pass_starts : (size : ℕ) (t : Table) (n : ℕ) {b : Bool} → b ≡ sizes_ok t.count t.names
    → Passed size t n (replicate 128 Role.Tag) b 0
unfolding in_shape
pass_starts size t n e = record { within = omega arith; long = refl; roles = refl; shape = rw e }

module _ {size : ℕ} {t : Table} {n : ℕ} {rs : List Role} {b : Bool} {j : ℕ} (w : Passed size t n rs b j)
    (full : length t.items ≡ 128) (most : n ≡ least t.count 128) where
  counted : length (items_of t) ≡ n
  counted = count_is t full ∙ sym most

  below : j < n → (j < t.count) × (j < 128)
  below q = least_below j t.count 128 (rw most at q)

  pub pass_below : j < n → j < 128
  pass_below q = (below q).1

  -- one item more
  pub pass_more : {r : Role} {ok : Bool} → j < n → r ≡ role_of (slot_at t j).item
      → ok ≡ item_ok t.names size (slot_at t j).item
      → Passed size t n (set rs j r) (b && ok) (j + 1)
  pass_more {r} {ok} q e f =
      let inside : j < length (items_of t) = omega (arith, counted) in
      record {
        within = omega arith;
        long = length-set rs j r ∙ w.long;
        roles =
            rw (e, ← (item_here t full j inside))
            (roles_more (items_of t) rs j w.roles (omega (arith, w.long, (below q).1)) inside);
        shape =
            rw f (and_assoc b (item_ok t.names size (slot_at t j).item)
            (items_ok t.names size (drop (j + 1) (items_of t)))
            ∙ rw (add-one j) (rw (next_item t.count j t.items (below q).0
            (omega (arith, full, (below q).1))) at w.shape));
      }

  -- no item is left
  pub pass_ends : {ms : Marks} {tag : ℕ} → n ≤ j → ms ≡ marks_of rs n → tag ≡ tag_in ms.at n
      → Surveys size t (record { count = n; marks = ms; tag = tag; sound = b })
  pass_ends q e f =
      let all : j ≡ n = omega (arith, w.within) in
      let whole : take n (items_of t) ≡ items_of t = take_all n (items_of t) (omega (arith, counted)) in
      let whole_roles : take n (roles_of (items_of t)) ≡ roles_of (items_of t) =
      take_all n (roles_of (items_of t)) (omega (arith, counted, length-roles (items_of t))) in
      record {
        count = most;
        marks =
            e ∙ same_marks rs (roles_of (items_of t)) n
            (rw all at w.roles ∙ ap roles_of whole ∙ sym whole_roles);
        tag = f;
        sound =
            sym (and-true b)
            ∙ rw (drop_of_length-le (items_of t) {i = j} (omega (arith, counted))) at w.shape;
      }

-- a survey's marks are those of the table's items
pub surveyed : {size : ℕ} {t : Table} {r : Survey} → Surveys size t r → length t.items ≡ 128
    → Surveyed size t r.marks.at r.sound
surveyed {size} {t} {r} s full = record {
  marks =
      rw s.marks (marked (items_of t) (roles_of (items_of t)) r.count (items_few t full)
      (take_all r.count (roles_of (items_of t))
      (omega (arith, s.count, count_is t full, length-roles (items_of t)))));
  shaped = s.sound;
}
