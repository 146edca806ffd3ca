-- Laws of the walk over the lines, as the code goes. Assumes nothing.
use borrow.Author.Tests.{eq-eqb, ne_eqb, ltb-true, le-ltb}
use lib.Dec.{ltb}
use lib.ListN.{length, take, drop, set, replicate, length-drop, length-set, drop_of_length-le}
use lib.Seq.{length-take-le, take-suc-set}
use mathlib.Core.Bool.{Bool, true, false, cond}
use mathlib.Core.List.{List, [], ◌∷◌, ◌++◌}
use mathlib.Core.Path.{◌≡◌, refl, sym, ◌∙◌, ap, ap₂}
use native.Mathlib.Numerals.{add-one}
use native.Mathlib.Omega.{arith}
use Prim.Native.Nat.{ℕ, ◌+◌, ◌-◌, ◌≤◌, ◌<◌}
use Rattle.argument.specs.declared.Refusal.{Refusal}
use Rattle.argument.specs.declared.Refusal.TheVariants as R
use Rattle.argument.specs.Refusal.{number_of}
use Rattle.line.specs.Line.{item, refused, judged}
use Rattle.loader.proofs.Room.{apart, few}
use Rattle.loader.specs.Load.{Outcome, empty_table, declares, counted, appended, Line, nothing, given, Step}
use Rattle.loader.specs.Load.{taking, taken_by, line_step, name_row, named, refusal, accepted, walk, loaded}
use Rattle.table.specs.declared.Item.{Item}
use Rattle.table.specs.declared.Table.{Table}
use Rattle.text.proofs.Cut as C
use Rattle.text.specs.Bytes.{byte}
use Rattle.text.specs.Cut.{before, cut, lines}
use Rattle.word.specs.Word.{skipped}

-- ---- what holds at each line: what is still to come of the walk is the whole

pub record Loading (s : List ℕ) (p : Table) (rows : List (List ℕ)) (at nr : ℕ) : Type 0 where
  pub within : at ≤ length s
  pub numbered : nr ≤ at + 1
  pub few : p.names ≤ 32
  pub wide : length rows ≡ 32
  pub short : length s ≤ 8192
  pub same : walk s p (take p.names rows) at nr (lines (drop at s)) ≡ loaded s

pub begin : (s : List ℕ) → length s ≤ 8192 → Loading s empty_table (replicate 32 (replicate 16 32)) 0 1
unfolding loaded
begin s h =
    record {
      within = omega arith;
      numbered = omega arith;
      few = omega arith;
      wide = refl;
      short = h;
      same = simp (le-ltb _ _ h);
    }

pub no_line : {s : List ℕ} {p : Table} {rows : List (List ℕ)} {at nr : ℕ} → Loading s p rows at nr → length s ≤ at
    → refusal 11 nr ≡ loaded s
unfolding walk cut
no_line {s} {p} {rows} {at} {nr} i h =
    let e : walk s p (take p.names rows) at nr (lines (drop at s)) ≡ refusal 11 nr =
    rw (drop_of_length-le s h) refl in
    sym e ∙ i.same

-- ---- a newline looked for from `at` on

abbrev pub line : List ℕ → ℕ → ℕ → List ℕ
line s at stop = take (stop - at) (drop at s)

pub record Sought (s : List ℕ) (p : Table) (rows : List (List ℕ)) (at nr stop : ℕ) : Type 0 where
  pub inv : Loading s p rows at nr
  pub ends : stop ≡ at + before (byte "\n") (drop at s)

pub no_end : {s : List ℕ} {p : Table} {rows : List (List ℕ)} {at nr stop : ℕ} → Sought s p rows at nr stop
    → length s ≤ stop → refusal 11 nr ≡ loaded s
unfolding walk
no_end {s} {p} {rows} {at} {nr} {stop} f h =
    let q : stop ≡ length s = omega (arith, C.end_le (byte "\n") s at stop f.ends f.inv.within) in
    let e : walk s p (take p.names rows) at nr (lines (drop at s)) ≡ refusal 11 nr =
    rw (C.line_last_at s at stop f.ends q) refl in
    sym e ∙ f.inv.same

long : {s : List ℕ} {p : Table} {rows : List (List ℕ)} {at nr stop : ℕ} → Sought s p rows at nr stop
    → stop < length s → length (line s at stop) ≡ stop - at
long {s} {p} {rows} {at} {nr} {stop} f g =
    length-take-le (stop - at) (drop at s) (omega (arith, length-drop at s, f.ends))

-- the line from `at` up to `stop` is the first of those that are left
next : {s : List ℕ} {p : Table} {rows : List (List ℕ)} {at nr stop : ℕ} → Sought s p rows at nr stop
    → stop < length s → lines (drop at s) ≡ line s at stop ∷ lines (drop (stop + 1) s)
next {s} {p} {rows} {at} {nr} {stop} f g = C.found_at (byte "\n") s at stop f.ends f.inv.within [] g

pub ended : {s : List ℕ} {p : Table} {rows : List (List ℕ)} {at nr stop : ℕ} → Sought s p rows at nr stop
    → stop < length s → stop ≡ at → accepted p nr ≡ loaded s
unfolding walk
ended {s} {p} {rows} {at} {nr} {stop} f g q =
    let none : length (line s at stop) ≡ 0 = omega (arith, long f g) in
    let e : walk s p (take p.names rows) at nr (lines (drop at s)) ≡ accepted p nr =
    rw (next f g) (simp (eq-eqb (length (line s at stop)) 0 none)) in
    sym e ∙ f.inv.same

-- ---- a line that is not the ending one, and what it gives

pub record Round (s : List ℕ) (p : Table) (rows : List (List ℕ)) (at nr stop : ℕ) (l : Line) : Type 0 where
  pub sought : Sought s p rows at nr stop
  pub more : stop < length s
  pub some : stop ≡ at → ⊥
  pub takes : l ≡ taken_by p.count (take p.names rows) (line s at stop) (take stop s) at

pub known_as : {s : List ℕ} {p : Table} {rows : List (List ℕ)} {at nr stop : ℕ} {l l' : Line}
    → Round s p rows at nr stop l → l ≡ l' → Round s p rows at nr stop l'
known_as r e = record { sought = r.sought; more = r.more; some = r.some; takes = sym e ∙ r.takes }

module _ {s : List ℕ} {p : Table} {rows : List (List ℕ)} {at nr stop : ℕ} {l : Line}
    (r : Round s p rows at nr stop l) where
  abbrev names : List (List ℕ)
  names = take p.names rows

  abbrev left : Table → List (List ℕ) → Outcome
  left p' names' = walk s p' names' (stop + 1) (nr + 1) (lines (drop (stop + 1) s))

  abbrev stepped : Step
  stepped = line_step p names (line s at stop) (take stop s) at nr

  step_as : stepped ≡ taking p nr l
  unfolding line_step
  step_as = ap (taking p nr) (sym r.takes)

  to_end : at + length (line s at stop) ≡ stop
  to_end = omega (arith, long r.sought r.more, r.sought.ends)

  not_empty : length (line s at stop) ≡ 0 → ⊥
  not_empty z = r.some (omega (arith, to_end))

  pub bad_line : (stepped.number ≡ 0 → ⊥) → refusal stepped.number nr ≡ loaded s
  unfolding walk
  bad_line k =
      let full = ne_eqb (length (line s at stop)) 0 not_empty in
      let e : walk s p names at nr (lines (drop at s)) ≡ refusal stepped.number nr =
      rw (next r.sought r.more) (simp (to_end, full, ne_eqb stepped.number 0 k)) in
      sym e ∙ r.sought.inv.same

  pub good_line : stepped.number ≡ 0 → left stepped.table (named names l (line s at stop)) ≡ loaded s
  unfolding walk
  good_line k =
      let taken : Line = taken_by p.count names (line s at stop) (take stop s) at in
      let full = ne_eqb (length (line s at stop)) 0 not_empty in
      let e : walk s p names at nr (lines (drop at s)) ≡ left stepped.table (named names taken (line s at stop)) =
      rw (next r.sought r.more) (simp (to_end, full, eq-eqb stepped.number 0 k)) in
      ap (λ (y : Line). left stepped.table (named names y (line s at stop))) r.takes
      ∙ sym e ∙ r.sought.inv.same

  pub goes_on : (taking p nr l).number ≡ 0 → left (taking p nr l).table (named names l (line s at stop)) ≡ loaded s
  goes_on k =
      ap (λ (x : Step). left x.table (named names l (line s at stop))) (sym step_as)
      ∙ good_line (ap (λ (x : Step). x.number) step_as ∙ k)

-- ---- a line that is refused, and one that is skipped

pub not_zero : (r : Refusal) → number_of r ≡ 0 → ⊥
unfolding number_of
not_zero R.TooLong e = omega arith
not_zero R.NoEnd e = omega arith
not_zero R.LongLine e = omega arith
not_zero R.TooManyItems e = omega arith
not_zero R.UnknownCommand e = omega arith
not_zero R.BadArguments e = omega arith
not_zero R.Undeclared e = omega arith
not_zero R.DeclaredTwice e = omega arith
not_zero R.TooManyNames e = omega arith

pub refuses : {s : List ℕ} {p : Table} {rows : List (List ℕ)} {at nr stop : ℕ} (w : Refusal)
    → Round s p rows at nr stop (given (refused (number_of w))) → refusal (number_of w) nr ≡ loaded s
refuses {nr = nr} w r =
    let t : (stepped r).number ≡ number_of w = ap (λ (x : Step). x.number) (step_as r) in
    ap (λ (k : ℕ). refusal k nr) (sym t) ∙ bad_line r (λ z. not_zero w (sym t ∙ z))

pub skips : {s : List ℕ} {p : Table} {rows : List (List ℕ)} {at nr stop : ℕ}
    → Round s p rows at nr stop nothing → Loading s p rows (stop + 1) (nr + 1)
unfolding named
skips r =
    let i = r.sought.inv in
    record {
      within = omega (arith, r.more);
      numbered = omega (arith, i.numbered, r.sought.ends, r.some);
      few = i.few;
      wide = i.wide;
      short = i.short;
      same = goes_on r refl;
    }

-- ---- a line with an item

counted_as : (n : ℕ) (it : Item) (b : Bool) → declares it ≡ b → counted n it ≡ cond b (n + 1) n
unfolding counted
counted_as n it b d = simp d

named_as : (names : List (List ℕ)) (it : Item) (l : List ℕ) (b : Bool) → declares it ≡ b
    → named names (given (item it)) l ≡ cond b (names ++ (name_row l ∷ [])) names
unfolding named
named_as names it l b d = simp d

-- the table with the item on its line, and so many names
abbrev pub with_item : Table → Item → ℕ → ℕ → Table
with_item p it nr n =
    record {
      items = set p.items p.count (record { item = it; line = nr });
      count = p.count + 1;
      names = n;
      end = p.end;
    }

module _ {s : List ℕ} {p : Table} {rows : List (List ℕ)} {at nr stop : ℕ} {it : Item}
    (r : Round s p rows at nr stop (given (item it))) where
  abbrev inv : Loading s p rows at nr
  inv = r.sought.inv

  as_long : length (names r) ≡ p.names
  as_long = length-take-le p.names rows (omega (arith, inv.few, inv.wide))

  pub room_for : declares it ≡ true → p.names < 32
  unfolding appended
  room_for d =
      let known : length (names r) ≤ 32 = omega (arith, as_long, inv.few) in
      let most = few p (names r) (line s at stop) (take stop s) at nr (sym as_long) known in
      let counts : (stepped r).table.names ≡ counted p.names it =
      ap (λ (x : Step). x.table.names) (step_as r) in
      omega (arith, most.most, counts, counted_as p.names it true d)

  pub room_left : p.count < 128
  room_left =
      tests (ltb 127 (length (line s at stop))) (skipped (line s at stop)) (ltb p.count 128) refl r.takes
    where
      tests : (a b c : Bool) → ltb p.count 128 ≡ c
          → given (item it)
          ≡ cond a (given (refused 12))
          (cond b nothing (cond c (given (judged (names r) (take stop s) at)) (given (refused 13))))
          → p.count < 128
      tests true b c w v = apart cc
      tests false true c w v = apart cc
      tests false false true w v = ltb-true _ _ w
      tests false false false w v = apart cc

  -- the walk goes on behind it, with the names that there are then
  goes_on_with : (b : Bool) → declares it ≡ b
      → left r (with_item p it nr (cond b (p.names + 1) p.names))
      (cond b (names r ++ (name_row (line s at stop) ∷ [])) (names r))
      ≡ loaded s
  unfolding appended
  goes_on_with b d =
      let n = counted_as p.names it b d in
      let ns = named_as (names r) it (line s at stop) b d in
      sym (ap₂ (λ (m : ℕ) (ms : List (List ℕ)). left r (with_item p it nr m) ms) n ns) ∙ goes_on r refl

  pub takes_plain : declares it ≡ false → Loading s (with_item p it nr p.names) rows (stop + 1) (nr + 1)
  takes_plain d =
      record {
        within = omega (arith, r.more);
        numbered = omega (arith, inv.numbered, r.sought.ends, r.some);
        few = inv.few;
        wide = inv.wide;
        short = inv.short;
        same = goes_on_with false d;
      }

  pub takes_name : declares it ≡ true
      → Loading s (with_item p it nr (p.names + 1)) (set rows p.names (name_row (line s at stop)))
      (stop + 1) (nr + 1)
  takes_name d =
      let row : List ℕ = name_row (line s at stop) in
      let room : p.names < length rows = omega (arith, room_for d, inv.wide) in
      let put : take (p.names + 1) (set rows p.names row) ≡ names r ++ (row ∷ []) =
      rw (add-one) (take-suc-set rows p.names row room) in
      record {
        within = omega (arith, r.more);
        numbered = omega (arith, inv.numbered, r.sought.ends, r.some);
        few = omega (arith, room_for d);
        wide = length-set rows p.names row ∙ inv.wide;
        short = inv.short;
        same = ap (left r (with_item p it nr (p.names + 1))) put ∙ goes_on_with true d;
      }
