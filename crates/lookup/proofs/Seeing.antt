-- What is read from the marks, in 01's words, of the text whose marks they are.
use Rattle.std.proofs.Common.{None}
use Prim.Native.Nat.{ℕ, zero, suc, ◌≤◌, ◌<◌}
use mathlib.Core.Path.{◌≡◌, refl, sym, ap, ◌∙◌}
use mathlib.Core.Bool.{Bool, true, false, ◌||◌, cond, false≢true}
use mathlib.Core.List.{List, [], ◌∷◌}
use lib.ListN.{length, get_or}
use borrow.Author.Tests.{le-leb}
use Rattle.laws.specs.Least.{least}
use Rattle.laws.proofs.Bools.{no}
use Rattle.table.specs.declared.Head.{Head}
use Rattle.table.specs.declared.Item.{Item}
use Rattle.table.specs.Item.{is_open, is_branch, is_close, is_break, is_loop, is_sweep, opens_a}
use Rattle.mates.specs.declared.Mark.{Mark}
use Rattle.mates.specs.Mates.{belongs, boxes_at, close_of, item_at}
use Rattle.mates.specs.Code.{Marked, opens_at}
use Rattle.mates.proofs.Placed.{close_seen, opens_seen, open_seen, belongs_seen}
use Rattle.state.specs.declared.LoopSort.TheVariants as LoopSort
use Rattle.state.specs.declared.What.TheVariants as What
use Rattle.state.specs.State.{Vars, leaves, outer}
use Rattle.state.specs.Meaning.{state_of, tops}
use Rattle.state.specs.declared.State as coded
use Rattle.state.proofs.Boxes.{tops-length}
use Rattle.operands.specs.Code.{Cells}
use Rattle.operands.specs.Code as operands
use Rattle.effect.specs.declared.Spot.{Spot}
use Rattle.effect.specs.Code as effects
use Rattle.steps.specs.Machine as rules
use Rattle.steps.specs.Machine.{any_open, unwind, leave_outs, opens_ok, state_ok}
use Rattle.steps.specs.Code.{open_at, about_of, Surrounds, live_state, handed, operand_cell, tried_by, tried_at}
use Rattle.steps.proofs.Lookups.{tried_is}
use Rattle.steps.proofs.Placed.{fault_open, fault_mark, none_past}
use Rattle.lookup.specs.Lookup.{opens_in, state_in, held_in, sweeps, to_loop, leave_of, alone, around_open, around_mark}
use Rattle.lookup.specs.Lookup.{around_break, around_with, around_in, tried_in}

-- ---- boxes

-- the boxes from a loop outwards are the first of their row
loop_tops : (ms : List Mark) (l : List ℕ) (n : ℕ) → to_loop ms (tops l n) ≡ tops l (length (to_loop ms (tops l n)))
loop_tops ms l zero = refl
loop_tops ms l (suc n) = go (opens_at is_loop ms (get_or l n 0)) refl (loop_tops ms l n)
  where
    go : (b : Bool) → opens_at is_loop ms (get_or l n 0) ≡ b
        → to_loop ms (tops l n) ≡ tops l (length (to_loop ms (tops l n)))
        → to_loop ms (tops l (suc n)) ≡ tops l (length (to_loop ms (tops l (suc n))))
    go true e f = rw (e, tops-length l n)
    go false e f = rw e f

-- what is said around an item says whether a measuring loop is open
with_sweeping : (ms : List Mark) (b : Bool) (i : ℕ) (ps : List ℕ) (x : Item) → (around_with ms b i ps x).sweeping ≡ b
with_sweeping ms b i ps (Item.Act a) = refl
with_sweeping ms b i ps (Item.Pack p) = refl
with_sweeping ms b i ps (Item.Open h) = refl
with_sweeping ms b i [] (Item.Branch c) = refl
with_sweeping ms b i (p ∷ ps) (Item.Branch c) = refl
with_sweeping ms b i [] (Item.Close c) = refl
with_sweeping ms b i (p ∷ ps) (Item.Close c) = refl
with_sweeping ms b i ps Item.Break = go (to_loop ms ps)
  where
    go : (qs : List ℕ) → (around_break ms b qs).sweeping ≡ b
    go [] = refl
    go (q ∷ qs) = refl
with_sweeping ms b i ps Item.Tag = refl

module _ {xs : List Item} {ms : List Mark} (k : Marked xs ms) where
  sweeps_seen : (ps : List ℕ) → sweeps ms ps ≡ any_open is_sweep xs ps
  sweeps_seen [] = refl
  sweeps_seen (p ∷ ps) = rw (opens_seen xs ms k p is_sweep, sweeps_seen ps)

  loop_seen : (ps : List ℕ) → to_loop ms ps ≡ unwind xs ps
  loop_seen [] = refl
  loop_seen (p ∷ ps) = rw (opens_seen xs ms k p is_loop, loop_seen ps)

  pub leave_seen : (p : ℕ) → handed (leave_of ms p) ≡ leave_outs xs (p ∷ [])
  unfolding leave_of
  leave_seen p =
      rw (opens_seen xs ms k p is_sweep, opens_seen xs ms k p is_loop)
      (go (opens_a is_sweep (item_at xs p)) (opens_a is_loop (item_at xs p)))
    where
      go : (a b : Bool)
          → handed (cond a (What.Leave LoopSort.Sweep) (cond b (What.Leave LoopSort.Loop) What.Nothing))
          ≡ cond a (leaves LoopSort.Sweep ∷ []) (cond b (leaves LoopSort.Loop ∷ []) [])
      go true b = refl
      go false true = refl
      go false false = refl

  -- ---- the state's shape

  opens_in_lem : (n : ℕ) → length xs ≡ n → (ps : List ℕ) → opens_in ms n ps ≡ opens_ok xs ps
  opens_in_lem n e [] = refl
  opens_in_lem n e (p ∷ ps) =
      rw (e, open_seen xs ms k p, close_seen xs ms k p, none_past (close_of xs p), opens_in_lem n e ps)

  pub state_seen : (n : ℕ) (m : coded.State) → length xs ≡ n → state_in ms n m ≡ state_ok xs (state_of m)
  unfolding state_in
  state_seen n m e = rw (e, tops-length m.boxes m.depth, opens_in_lem n e (tops m.boxes m.depth))

  -- ---- around an item

  not_break : {X : Type 0} (x : Item) → is_break x ≡ false → x ≡ Item.Break → X
  not_break x e f = absurd (false≢true (sym e ∙ ap is_break f))

  module _ (s : Spot) (b : Bool) where
    around_none : (x : Item) → (is_open x || is_branch x || is_close x || is_break x) ≡ false
        → Surrounds xs s x (alone b false)
    around_none (Item.Act a) e =
        record { stray = refl; close = refl; sweep = λ f. refl; outside = λ f. not_break (Item.Act a) refl f }
    around_none (Item.Pack p) e =
        record { stray = refl; close = refl; sweep = λ f. refl; outside = λ f. not_break (Item.Pack p) refl f }
    around_none (Item.Open h) e = no e
    around_none (Item.Branch c) e = no e
    around_none (Item.Close c) e = no e
    around_none Item.Break e = no e
    around_none Item.Tag e =
        record { stray = refl; close = refl; sweep = λ f. refl; outside = λ f. not_break Item.Tag refl f }

    around_open_lem : (h : Head) → Surrounds xs s (Item.Open h) (around_open ms b s.at)
    around_open_lem h = record {
      stray =
          rw (close_seen xs ms k s.at, none_past (close_of xs s.at))
          (sym (fault_open xs (live_state [] s) (Item.Open h) refl));
      close = close_seen xs ms k s.at;
      sweep = λ f. absurd (false≢true (sym f));
      outside = λ f. not_break (Item.Open h) refl f;
    }

    -- a branch or closing mark is about the innermost box
    around_mark_lem : (x : Item) → (is_branch x || is_close x) ≡ true → is_break x ≡ false
        → about_of xs s.at (open_at s) x ≡ open_at s → item_at xs s.at ≡ x → (ps : List ℕ) → open_at s ≡ ps
        → Surrounds xs s x (around_mark ms b s.at ps)
    around_mark_lem x q n a here [] e = record {
      stray = sym (fault_mark xs (live_state [] s) x q ∙ rw e);
      close = rw (a, e);
      sweep = λ f. rw (a, e);
      outside = λ f. not_break x n f;
    }
    around_mark_lem x q n a here (p ∷ ps) e = record {
      stray = rw (fault_mark xs (live_state [] s) x q, e, belongs_seen xs ms k p s.at, here);
      close = rw (a, e) (close_seen xs ms k p);
      sweep = λ f. rw (a, e) (opens_seen xs ms k p is_sweep);
      outside = λ f. not_break x n f;
    }

    -- a breakloop is about the innermost loop
    around_break_lem : (ps : List ℕ) → unwind xs (open_at s) ≡ ps → ps ≡ tops s.boxes (length ps)
        → Surrounds xs s Item.Break (around_break ms b ps)
    around_break_lem [] e t = record { stray = rw e; close = rw e; sweep = λ f. rw e; outside = λ f. rw e }
    around_break_lem (p ∷ ps) e t = record {
      stray = rw e;
      close = rw e (close_seen xs ms k p);
      sweep = λ f. rw e (opens_seen xs ms k p is_sweep);
      outside = λ f. rw e (sym (ap outer t));
    }

  module _ (s : Spot) (d : s.depth ≤ 8) where
    held : held_in s ≡ open_at s
    held = rw (le-leb s.depth 8 d)

    abbrev sweeping : Bool
    sweeping = sweeps ms (held_in s)

    unwound : to_loop ms (held_in s) ≡ unwind xs (open_at s)
    unwound = loop_seen (held_in s) ∙ ap (unwind xs) held

    pub sweeping_seen : (x : Item) → (around_in ms s x).sweeping ≡ any_open is_sweep xs (open_at s)
    unfolding around_in
    sweeping_seen x =
        with_sweeping ms sweeping s.at (held_in s) x ∙ sweeps_seen (held_in s) ∙ ap (any_open is_sweep xs) held

    pub around_seen : (x : Item) → item_at xs s.at ≡ x → Surrounds xs s x (around_in ms s x)
    unfolding around_in
    around_seen (Item.Act a) e = around_none s sweeping (Item.Act a) refl
    around_seen (Item.Pack p) e = around_none s sweeping (Item.Pack p) refl
    around_seen (Item.Open h) e = around_open_lem s sweeping h
    around_seen (Item.Branch c) e = around_mark_lem s sweeping (Item.Branch c) refl refl refl e (held_in s) (sym held)
    around_seen (Item.Close c) e = around_mark_lem s sweeping (Item.Close c) refl refl refl e (held_in s) (sym held)
    around_seen Item.Break e =
        around_break_lem s sweeping (to_loop ms (held_in s)) (sym unwound) (loop_tops ms s.boxes (least s.depth 8))
    around_seen Item.Tag e = around_none s sweeping Item.Tag refl

  -- ---- the mates of an if

  pub tried_seen : (x : Item) (c : Cells) (p j : ℕ) (vs : Vars) (r : rules.Chosen) → item_at xs j ≡ x → j < 128
      → operand_cell vs (operands.operands_of x).a ≡ c.a → operand_cell vs (operands.operands_of x).b ≡ c.b
      → tried_by (tried_in ms x c p j) r ≡ tried_at xs vs p j r
  unfolding tried_in
  tried_seen x c p j vs r e h f g =
      rw (belongs_seen xs ms k p j, e) (go (belongs p x (boxes_at xs j)))
    where
      go : (b : Bool) → tried_by (cond b (effects.try_mate x c j) None) r ≡ cond b (rules.tried vs x j r) r
      go true = tried_is vs c j h x r f g
      go false = refl
