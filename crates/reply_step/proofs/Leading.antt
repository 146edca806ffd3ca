-- What a line is that leads on, and what is open after it; what a line is that ends the reply. Assumes nothing.
use mathlib.Core.Bool.{Bool, true, false, cond}
use mathlib.Core.Path.{◌≡◌, refl}
use Prim.Native.Nat.{ℕ, ◌<◌}
use borrow.Author.Tests.{ltb-true}
use lib.Dec.{leb, ltb}
use lib.ListN.{length}
use Rattle.laws.proofs.Apart.{apart}
use Rattle.reply_line.specs.declared.Line.{Line}
use Rattle.reply_line.specs.declared.Refusal.{Refusal}
use Rattle.reply_line.specs.declared.RowKind.{RowKind}
use Rattle.reply_step.specs.Move as Move
use Rattle.reply_step.specs.Step.{Open, Next, goes, refused, may_open, closes, most_open, opened, closed}
use Rattle.reply_step.specs.Step.{step}

pub refused_not_on : {r : Refusal} → Move.Refused r ≡ Move.On → ⊥
refused_not_on e = apart cc

pub ends_not_on : {v : ℕ} → Move.Ends v ≡ Move.On → ⊥
ends_not_on e = apart cc

pub refused_not_ends : {r : Refusal} {v : ℕ} → Move.Refused r ≡ Move.Ends v → ⊥
refused_not_ends e = apart cc

-- what an opening mark does, by its three tests
abbrev opening : RowKind → Open → Bool → Bool → Bool → Next
opening k o a b c =
    cond a
    (cond b (cond c (goes Move.On (opened k o)) (refused Refusal.ShortTable o)) (refused Refusal.NinthOpen o))
    (refused Refusal.OutOfPlace o)

-- ---- a line that leads on

-- an opening mark has a row; an empty line, an error line and a refused one do not lead on
abbrev pub LeadsOn : ℕ → Open → Line → Type 0
LeadsOn n o Line.Quiet = Unit {0}
LeadsOn n o Line.Empty = ⊥
LeadsOn n o Line.Package = Unit {0}
LeadsOn n o (Line.Opens k v) = o.rows < n
LeadsOn n o (Line.Closes k) = Unit {0}
LeadsOn n o (Line.Error v) = ⊥
LeadsOn n o (Line.Refused r) = ⊥

abbrev pub open_after : Line → Open → Open
open_after Line.Quiet o = o
open_after Line.Empty o = o
open_after Line.Package o = o
open_after (Line.Opens k v) o = opened k o
open_after (Line.Closes k) o = closed o
open_after (Line.Error v) o = o
open_after (Line.Refused r) o = o

-- a mark stands where it may
abbrev pub InPlace : Open → Line → Type 0
InPlace o Line.Quiet = Unit {0}
InPlace o Line.Empty = Unit {0}
InPlace o Line.Package = Unit {0}
InPlace o (Line.Opens k v) = may_open k o.around ≡ true
InPlace o (Line.Closes k) = closes k o.around ≡ true
InPlace o (Line.Error v) = Unit {0}
InPlace o (Line.Refused r) = Unit {0}

pub record Onward (n : ℕ) (o : Open) (l : Line) : Type 0 where
  pub may : LeadsOn n o l
  pub place : InPlace o l
  pub state : (step n l o).state ≡ open_after l o

pub onward : (n : ℕ) (o : Open) (l : Line) → (step n l o).to ≡ Move.On → Onward n o l
unfolding step
onward n o Line.Quiet e = record { may = tt; place = tt; state = refl }
onward n o Line.Empty e = absurd (by_test (leb 1 (length o.around)) e)
  where
    by_test : (b : Bool) → (cond b (refused Refusal.OutOfPlace o) (goes (Move.Ends 0) o)).to ≡ Move.On → ⊥
    by_test true x = refused_not_on x
    by_test false x = ends_not_on x
onward n o Line.Package e = record { may = tt; place = tt; state = refl }
onward n o (Line.Opens k v) e =
    by_test (may_open k o.around) refl (ltb (length o.around) most_open) refl (ltb o.rows n) refl e
  where
    by_test : (a : Bool) → may_open k o.around ≡ a → (b : Bool) → ltb (length o.around) most_open ≡ b
        → (c : Bool) → ltb o.rows n ≡ c → (opening k o a b c).to ≡ Move.On → Onward n o (Line.Opens k v)
    by_test true p true q true r x =
        record { may = ltb-true o.rows n r; place = p; state = rw (p, q, r) refl }
    by_test true p true q false r x = absurd (refused_not_on x)
    by_test true p false q c r x = absurd (refused_not_on x)
    by_test false p b q c r x = absurd (refused_not_on x)
onward n o (Line.Closes k) e = by_test (closes k o.around) refl e
  where
    by_test : (b : Bool) → closes k o.around ≡ b
        → (cond b (goes Move.On (closed o)) (refused Refusal.OutOfPlace o)).to ≡ Move.On → Onward n o (Line.Closes k)
    by_test true p x = record { may = tt; place = p; state = rw p refl }
    by_test false p x = absurd (refused_not_on x)
onward n o (Line.Error v) e = absurd (ends_not_on e)
onward n o (Line.Refused r) e = absurd (refused_not_on e)

-- ---- a line that ends the reply

abbrev pub Ending : Line → Type 0
Ending Line.Quiet = ⊥
Ending Line.Empty = Unit {0}
Ending Line.Package = ⊥
Ending (Line.Opens k v) = ⊥
Ending (Line.Closes k) = ⊥
Ending (Line.Error v) = Unit {0}
Ending (Line.Refused r) = ⊥

pub ending : (n : ℕ) (o : Open) (l : Line) {v : ℕ} → (step n l o).to ≡ Move.Ends v → Ending l
unfolding step
ending n o Line.Quiet e = apart cc
ending n o Line.Empty e = tt
ending n o Line.Package e = apart cc
ending n o (Line.Opens k w) {v} e =
    by_test (may_open k o.around) (ltb (length o.around) most_open) (ltb o.rows n) e
  where
    by_test : (a b c : Bool) → (opening k o a b c).to ≡ Move.Ends v → ⊥
    by_test true true true x = apart cc
    by_test true true false x = refused_not_ends x
    by_test true false c x = refused_not_ends x
    by_test false b c x = refused_not_ends x
ending n o (Line.Closes k) {v} e = by_test (closes k o.around) e
  where
    by_test : (b : Bool)
        → (cond b (goes Move.On (closed o)) (refused Refusal.OutOfPlace o)).to ≡ Move.Ends v → ⊥
    by_test true x = apart cc
    by_test false x = refused_not_ends x
ending n o (Line.Error w) e = tt
ending n o (Line.Refused r) e = refused_not_ends e
