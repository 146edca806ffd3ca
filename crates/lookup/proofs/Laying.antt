-- Things laid behind each other in a row.
use Prim.Native.Nat.{ℕ, zero, suc, ◌+◌, ◌-◌, ◌≤◌, ◌<◌}
use mathlib.Core.Path.{◌≡◌, refl, sym, ap, ◌∙◌}
use mathlib.Core.Bool.{Bool, true, false, ◌&&◌, cond}
use mathlib.Core.List.{List, [], ◌∷◌, ◌++◌, append_assoc, append-nil}
use native.Mathlib.Numerals.{add-one}
use native.Mathlib.Omega.{arith}
use lib.Dec.{eqb, ltb}
use lib.ListN.{length, get_or, set, take, drop, replicate, length-set, length-append}
use lib.Seq.{take-suc-set, drop-set-lt}
use borrow.Author.Tests.{eqb-true, le-leb, lt-ltb, le-ltb}
use Rattle.std.proofs.lemmas.List.{set_past}
use Rattle.laws.specs.Least.{least}
use Rattle.laws.proofs.Lists.{drop-step}
use Rattle.table.specs.declared.Item.{Item}
use Rattle.mates.specs.declared.Mark.{Mark}
use Rattle.mates.specs.Code.{Marked, Seen}
use Rattle.state.specs.State.{Out, nought}
use Rattle.state.specs.Meaning.{out_of, outs_of, tops}
use Rattle.state.proofs.Things.{outs-set, outs-length}
use Rattle.effect.specs.Code as effects
use Rattle.effect.specs.declared.Effect.{Effect}
use Rattle.effect.specs.declared.Spot.{Spot}
use Rattle.state.specs.declared.What.{What}
use Rattle.steps.specs.Machine.{leave_outs}
use Rattle.steps.specs.Code.{handed, count_of, hands_out, open_at}
use Rattle.steps.proofs.Placed.{leave_more}
use Rattle.steps.proofs.Shapes.{and_l, and_r}
use Rattle.lookup.specs.Lookup.{leave_of, Lays}
use Rattle.lookup.proofs.Seeing.{leave_seen}

-- so many things stand in a row of n, with nothing past them
pub record Laid (n : ℕ) (hs : List What) (h : ℕ) (os : List Out) : Type 0 where
  pub wide : length hs ≡ n
  pub taken : take h (outs_of hs) ≡ os
  pub blank : drop h (outs_of hs) ≡ replicate (n - h) nought

-- a full row, in which nothing is laid
pub stays_full : (hs : List What) (n : ℕ) (v : What) → length hs ≤ n → Lays hs n v hs n
stays_full hs n v h = record {
  laid = sym (set_past hs n v h);
  counted = rw (le-ltb n (length hs) h) (omega arith);
}

set_front : {A : Type 0} (l : List A) (h : ℕ) (x : A) (r : List A) → drop h l ≡ x ∷ r → set l h x ≡ l
set_front [] h x r e = refl
set_front (y ∷ l) zero x r e =
    let k : y ≡ x = cc in
    rw k
set_front (y ∷ l) (suc h) x r e = ap {B = List _} (λ z. y ∷ z) (set_front l h x r e)

module _ {n : ℕ} {hs : List What} {h : ℕ} {os : List Out} (w : Laid n hs h os) (q : h < n) where
  some_left : drop h (outs_of hs) ≡ nought ∷ replicate (n - suc h) nought
  some_left =
      let e : n - h ≡ suc (n - suc h) = omega arith in
      rw e at w.blank

  lay_none : Laid n (set hs h What.Nothing) (h + 0) (os ++ [])
  lay_none =
      let e : h + 0 ≡ h = omega arith in
      let same : outs_of (set hs h What.Nothing) ≡ outs_of hs =
      outs-set hs h What.Nothing
      ∙ set_front (outs_of hs) h nought (replicate (n - suc h) nought) some_left in
      record {
        wide = length-set hs h What.Nothing ∙ w.wide;
        taken = rw (e, same, append-nil os) w.taken;
        blank = rw (e, same) w.blank;
      }

  lay_one : (v : What) → Laid n (set hs h (v)) (h + 1) (os ++ out_of v ∷ [])
  lay_one v = record {
    wide = length-set hs h (v) ∙ w.wide;
    taken =
        rw (add-one, outs-set hs h (v))
        (take-suc-set (outs_of hs) h (out_of v) (omega (arith, outs-length hs, w.wide))
        ∙ ap (λ (l : List Out). l ++ out_of v ∷ []) w.taken);
    blank =
        rw (add-one, outs-set hs h (v))
        (drop-set-lt (suc h) (outs_of hs) h (out_of v) (omega arith)
        ∙ drop-step h (outs_of hs) nought (replicate (n - suc h) nought) some_left);
  }

  lay : (v : What) (c : ℕ) → c ≡ count_of v → Laid n (set hs h (v)) (h + c) (os ++ handed v)
  lay v c e = rw e (go v)
    where
      go : (v : What) → Laid n (set hs h (v)) (h + count_of v) (os ++ handed v)
      go What.Nothing = lay_none
      go (What.Enter s) = lay_one (What.Enter s)
      go (What.Leave s) = lay_one (What.Leave s)
      go What.Start = lay_one What.Start
      go (What.Part x t) = lay_one (What.Part x t)
      go What.End = lay_one What.End
      go (What.Text t) = lay_one (What.Text t)
      go (What.Order o) = lay_one (What.Order o)

count_one : (v : What) → count_of v ≤ 1
count_one What.Nothing = omega arith
count_one (What.Enter s) = omega arith
count_one (What.Leave s) = omega arith
count_one What.Start = omega arith
count_one (What.Part x t) = omega arith
count_one What.End = omega arith
count_one (What.Text t) = omega arith
count_one (What.Order o) = omega arith

count-length : (v : What) → length (handed v) ≡ count_of v
count-length What.Nothing = refl
count-length (What.Enter s) = refl
count-length (What.Leave s) = refl
count-length What.Start = refl
count-length (What.Part x t) = refl
count-length What.End = refl
count-length (What.Text t) = refl
count-length (What.Order o) = refl

-- ---- the marks of boxes that are left

-- k boxes are still to be left; all comes to os; at most eight things more than h₀
record Leaving (n : ℕ) (xs : List Item) (l : List ℕ) (os : List Out) (h₀ : ℕ) (hs : List What) (h k : ℕ) : Type 0
  where
    pub laid : Laid n hs h (take h (outs_of hs))
    pub few : k ≤ 8
    pub room : h + k ≤ h₀ + 8
    pub so_far : take h (outs_of hs) ++ leave_outs xs (tops l k) ≡ os

relaid : {n : ℕ} {hs : List What} {h : ℕ} {os : List Out} → Laid n hs h os → Laid n hs h (take h (outs_of hs))
relaid w = record { wide = w.wide; taken = refl; blank = w.blank }

module _ {n : ℕ} {hs : List What} {h₀ h : ℕ} (os : List Out) (xs : List Item) (s : Spot) (e : Effect) where
  -- the effect's own things are laid
  leave_starts : (k : ℕ) → Laid n hs h ((os ++ handed e.one) ++ handed e.two)
      → h ≡ (h₀ + count_of e.one) + count_of e.two
      → k ≡ effects.boxes_left e.leaves s.depth (h - h₀) → (e.leaves ≡ true → s.depth ≤ 8)
      → Leaving n xs s.boxes (os ++ hands_out (leave_outs xs (open_at s)) e) h₀ hs h k
  leave_starts k w c q d = rw q (go (e.leaves && eqb (h - h₀) 0) refl)
    where
      hands : List Out
      hands = handed e.one ++ handed e.two

      counted : h - h₀ ≡ length hands
      counted =
          rw (length-append (handed e.one) (handed e.two), count-length e.one, count-length e.two)
          (omega arith)

      go : (b : Bool) → (e.leaves && eqb (h - h₀) 0) ≡ b
          → Leaving n xs s.boxes (os ++ hands_out (leave_outs xs (open_at s)) e) h₀ hs h
          (cond b (least s.depth 8) 0)
      go true z =
          let deep = d (and_l e.leaves (eqb (h - h₀) 0) z) in
          let none : h - h₀ ≡ 0 = eqb-true (h - h₀) 0 (and_r e.leaves (eqb (h - h₀) 0) z) in
          rw (le-leb s.depth 8 deep)
          (record {
            laid = relaid w;
            few = deep;
            room = omega (arith, none, c);
            so_far =
                rw (w.taken, append_assoc os (handed e.one) (handed e.two), ← counted, z)
                (append_assoc os hands (leave_outs xs (open_at s)));
          })
      go false z = record {
        laid = relaid w;
        few = omega arith;
        room = omega (arith, c, count_one e.one, count_one e.two);
        so_far =
            rw (w.taken, append_assoc os (handed e.one) (handed e.two), ← counted, z)
            (append_assoc os hands []);
      }

module _ {n : ℕ} {xs : List Item} {l : List ℕ} {os : List Out} {h₀ : ℕ} {hs : List What} {h k : ℕ}
    (w : Leaving n xs l os h₀ hs h k) where
  -- one box more, with its mark
  leave_on : (v : What) (c : ℕ) → 0 < k → h₀ + 8 ≤ n → c ≡ count_of v
      → handed v ≡ leave_outs xs (get_or l (k - 1) 0 ∷ [])
      → Leaving n xs l os h₀ (set hs h (v)) (h + c) (k - 1)
  leave_on v c q r e f =
      let new = lay w.laid (omega (arith, w.room)) v c e in
      record {
        laid = relaid new;
        few = omega (arith, w.few);
        room = omega (arith, w.room, e, count_one v);
        so_far =
            leave_more xs l k (take h (outs_of hs)) (take (h + c) (outs_of (set hs h (v))))
            (λ z. omega arith)
            (new.taken ∙ ap (λ (z : List Out). take h (outs_of hs) ++ z) f)
            ∙ w.so_far;
      }

  leave_ends : k ≤ 0 → Laid n hs h os
  leave_ends q =
      let z : k ≡ 0 = omega arith in
      record {
        wide = w.laid.wide;
        taken = sym (append-nil (take h (outs_of hs))) ∙ rw z at w.so_far;
        blank = w.laid.blank;
      }

none_laid : (hs : List What) → hs ≡ replicate 8 What.Nothing → Laid 8 hs 0 []
none_laid hs e = record { wide = rw e; taken = refl; blank = rw e }

pub laid_so : {n : ℕ} {hs : List What} {h : ℕ} {os os' : List Out} → Laid n hs h os → os ≡ os' → Laid n hs h os'
laid_so w e = record { wide = w.wide; taken = w.taken ∙ e; blank = w.blank }

pub counted_few : (v : What) {c : ℕ} → c ≡ count_of v → c ≤ 1
counted_few v e = rw e (count_one v)

-- ---- the things of one turn

-- where a turn begins: h things stand in a row of n, and eight more have room
pub record Ready (n : ℕ) (hs : List What) (h : ℕ) : Type 0 where
  pub laid : Laid n hs h (take h (outs_of hs))
  pub room : h + 8 ≤ n

pub none_yet : {hs : List What} → hs ≡ replicate 8 What.Nothing → Ready 8 hs 0
none_yet {hs} e = record { laid = none_laid hs e; room = omega arith }

-- an effect's own two things are laid behind the h₀ things of hs₀
pub record Begun (n : ℕ) (hs₀ : List What) (h₀ : ℕ) (e : Effect) (hs : List What) (h : ℕ) : Type 0 where
  pub room : h₀ + 8 ≤ n
  pub laid : Laid n hs h ((take h₀ (outs_of hs₀) ++ handed e.one) ++ handed e.two)
  pub counted : h ≡ (h₀ + count_of e.one) + count_of e.two

-- where there is room, the count is that of the thing
in_room : (hs : List What) (h : ℕ) (v : What) → h < length hs
    → h + cond (ltb h (length hs)) (count_of v) 0 ≡ h + count_of v
in_room hs h v q = ap (λ (b : Bool). h + cond b (count_of v) 0) (lt-ltb h (length hs) q)

pub counted_in : {hs : List What} {h : ℕ} {v : What} {hs' : List What} {h' : ℕ} → h < length hs → Lays hs h v hs' h'
    → h' ≡ h + count_of v
counted_in {hs} {h} {v} q l = l.counted ∙ in_room hs h v q

pub lays_in : {hs : List What} {h : ℕ} {v : What} {hs' : List What} {h' : ℕ} → h < length hs → hs' ≡ set hs h v
    → h' ≡ h + count_of v → Lays hs h v hs' h'
lays_in {hs} {h} {v} q l c = record { laid = l; counted = c ∙ sym (in_room hs h v q) }

lay_by : {n : ℕ} {hs : List What} {h : ℕ} {os : List Out} {v : What} {hs' : List What} {h' : ℕ} → Laid n hs h os
    → h < n → Lays hs h v hs' h'
    → Laid n hs' h' (os ++ handed v)
lay_by {v = v} w q l = rw (l.laid, counted_in (rw w.wide q) l) (lay w q v (count_of v) refl)

-- one behind the other
pub two_laid : {n h₀ h₁ h₂ : ℕ} {hs₀ hs₁ hs₂ : List What} {e : Effect} → Ready n hs₀ h₀ → Lays hs₀ h₀ e.one hs₁ h₁
    → Lays hs₁ h₁ e.two hs₂ h₂
    → Begun n hs₀ h₀ e hs₂ h₂
two_laid {n} {h₀} {h₁} {h₂} {hs₀} {hs₁} {hs₂} {e} w a b =
    let room : h₀ < n = omega (arith, w.room) in
    let first : h₁ ≡ h₀ + count_of e.one = counted_in (rw w.laid.wide room) a in
    let one = lay_by w.laid room a in
    let more : h₁ < n = omega (arith, w.room, first, count_one e.one) in
    record {
      room = w.room;
      laid = lay_by one more b;
      counted = counted_in (rw one.wide more) b ∙ ap (λ (k : ℕ). k + count_of e.two) first;
    }

-- k boxes are still to be left, of k₀ at the start, when h₀ things stood in hs₀; the turn began with `from` things
pub record Leaves
    (n : ℕ) (ms : List Mark) (l : List ℕ) (hs₀ : List What) (h₀ k₀ from : ℕ) (hs : List What) (h k : ℕ)
    : Type 0 where
  pub since : from ≤ h
  pub few : k ≤ 8
  pub room : h + k ≤ from + 8
  pub fits : from + 8 ≤ n
  pub laid : Laid n hs h (take h (outs_of hs))
  pub so_far : Seen ms (λ xs. take h (outs_of hs) ++ leave_outs xs (tops l k)
      ≡ take h₀ (outs_of hs₀) ++ leave_outs xs (tops l k₀))

module _ {n : ℕ} {ms : List Mark} {l : List ℕ} {hs₀ : List What} {h₀ k₀ from : ℕ} {hs : List What} {h k : ℕ}
    (w : Leaves n ms l hs₀ h₀ k₀ from hs h k) where
  leaving : (xs : List Item) → Marked xs ms
      → Leaving n xs l (take h₀ (outs_of hs₀) ++ leave_outs xs (tops l k₀)) from hs h k
  leaving xs m = record { laid = w.laid; few = w.few; room = w.room; so_far = w.so_far xs m }

  pub leaves_room : 0 < k → h < n
  leaves_room q = omega (arith, w.room, w.fits)

  -- one turn of the loop: the mark of one box more
  leaves_one : (v : What) → 0 < k → v ≡ leave_of ms (get_or l (k - 1) 0)
      → Leaves n ms l hs₀ h₀ k₀ from (set hs h v) (h + count_of v) (k - 1)
  leaves_one v q f = record {
    since = omega (arith, w.since);
    few = omega (arith, w.few);
    room = omega (arith, w.room, count_one v);
    fits = w.fits;
    laid = relaid (lay w.laid (leaves_room q) v (count_of v) refl);
    so_far =
        λ xs m. (leave_on (leaving xs m) v (count_of v) q w.fits refl
        (ap handed f ∙ leave_seen m (get_or l (k - 1) 0))).so_far;
  }

  pub leaves_on : {v : What} {hs' : List What} {h' : ℕ} → 0 < k → v ≡ leave_of ms (get_or l (k - 1) 0)
      → Lays hs h v hs' h'
      → Leaves n ms l hs₀ h₀ k₀ from hs' h' (k - 1)
  leaves_on {v} q f x = rw (x.laid, counted_in (rw w.laid.wide (leaves_room q)) x) (leaves_one v q f)

module _ {n : ℕ} {hs₀ : List What} {h₀ : ℕ} {e : Effect} {hs : List What} {h : ℕ} (w : Begun n hs₀ h₀ e hs h)
    (s : Spot) {k : ℕ} (q : k ≡ effects.boxes_left e.leaves s.depth (h - h₀))
    (deep : e.leaves ≡ true → s.depth ≤ 8) where
  begins : (xs : List Item)
      → Leaving n xs s.boxes (take h₀ (outs_of hs₀) ++ hands_out (leave_outs xs (open_at s)) e) h₀ hs h k
  begins xs = leave_starts (take h₀ (outs_of hs₀)) xs s e k w.laid w.counted q deep

  pub leaves_start : (ms : List Mark) → Leaves n ms s.boxes hs h k h₀ hs h k
  leaves_start ms = record {
    since = omega (arith, w.counted);
    few = (begins []).few;
    room = (begins []).room;
    fits = w.room;
    laid = (begins []).laid;
    so_far = λ xs m. refl;
  }

  -- no box is left over: all that the effect hands out is laid
  pub leaves_end : {ms : List Mark} {hs' : List What} {h' k' : ℕ} → Leaves n ms s.boxes hs h k h₀ hs' h' k'
      → k' ≤ 0
      → (xs : List Item) → Marked xs ms
      → Laid n hs' h' (take h₀ (outs_of hs₀) ++ hands_out (leave_outs xs (open_at s)) e)
  leaves_end v z xs m = laid_so (leave_ends (leaving v xs m) z) (begins xs).so_far
