-- Every step of a run of an accepted script keeps the promise.
use Prim.Native.Nat.{ℕ}
use mathlib.Core.Path.{◌≡◌, refl, sym, ap, ◌∙◌}
use mathlib.Core.Logic.{inl}
use mathlib.Core.Bool.{Bool, true, false}
use mathlib.Core.List.{List, []}
use Rattle.table.specs.declared.Item.{Item}
use Rattle.state.specs.declared.Control.{Control}
use Rattle.state.specs.declared.Offer.{Offer}
use Rattle.state.specs.State.{Status, live, finished_run, stopped_run, fault_run, State, Answer, running, waiting}
use Rattle.state.specs.State.{finished, stopped, fault, refuse, Step, fresh, Meets, ready, short, amiss}
use Rattle.steps.specs.Machine.{served, told, moved, again}
use Rattle.safety.specs.Safety.{is_amiss, wrong_sort, allowed, unbroken, Promise}
use Rattle.safety.proofs.Laws.{no', not_nothing}
use Rattle.safety.proofs.Walk.{text_kinds, Accepted, outset}
use Rattle.safety.proofs.Names.{fresh_vars}
use Rattle.safety.proofs.Stands.{Life, Good, land}
use Rattle.safety.proofs.Items.{Fine, FineStep}
use Rattle.safety.proofs.Step.{is_short, Comes, moved_comes, told_here}

abbrev refuses : Answer → Bool
refuses running = false
refuses waiting = false
refuses finished = false
refuses (stopped n) = false
refuses (fault n) = false
refuses (refuse n k) = true

abbrev lives : Status → Bool
lives live = true
lives finished_run = false
lives (stopped_run n) = false
lives (fault_run n) = false

module _ {names size : ℕ} {items : List Item} (ok : Accepted names size items) where
  good_unbroken : {m : State} → Good ok m → unbroken m.status ≡ true
  good_unbroken {m} g = go m.status g.life
    where
      go : (a : Status) → Life ok a m → unbroken a ≡ true
      go live i = refl
      go finished_run i = refl
      go (stopped_run c) i = i
      go (fault_run n) i = absurd i

  module _ (m : State) (c : Control) (o : Offer) where
    -- the promise, and a run that the next step can start from
    abbrev pub Kept : Step → Type 0
    Kept s = Promise items m c o s × Good ok s.next

    -- an offer that is not of the wrong sort
    right_kept : {s : Step} → wrong_sort items m c o ≡ false → allowed s.answer ≡ true → refuses s.answer ≡ false
        → Good ok s.next → Kept s
    right_kept w a n g = (
      record {
        answer = a;
        state = good_unbroken g;
        of_wrong_sort = λ e f. no' (sym w ∙ f);
        only_wrong = λ e. no' (sym n ∙ ap refuses e);
      },
      g,
    )

    made_kept : {s : Step} → wrong_sort items m c o ≡ false → FineStep ok s → Kept s
    made_kept {s} w f = go s.answer refl f
      where
        go : (a : Answer) → s.answer ≡ a → Fine ok a s.next → Kept s
        go running e g = right_kept w (rw e) (rw e) g
        go waiting e g = absurd g
        go finished e g = right_kept w (rw e) (rw e) g
        go (stopped d) e g = right_kept w (rw e g.0) (rw e) g.1
        go (fault n) e g = absurd g
        go (refuse n k) e g = absurd g

    comes_kept : {s : Step} → m.status ≡ live → Good ok m → Comes ok m (wrong_sort items m c o) s → Kept s
    comes_kept a g f = rw f.is (go f.met f.amiss_is f.waits)
      where
        go : (d : Meets) → is_amiss d ≡ wrong_sort items m c o → (is_short d ≡ true → Good ok f.m₁)
            → Kept (served m f.m₁ d f.made)
        go ready e w = made_kept (sym e) f.fine
        go short e w = right_kept (sym e) refl refl (w refl)
        go amiss e w = (
          record { answer = refl; state = good_unbroken g; of_wrong_sort = λ p q. refl; only_wrong = λ q. (a, sym e) },
          g,
        )

    -- a run that has ended repeats its answer
    over_kept : (a : Answer) → allowed a ≡ true → refuses a ≡ false → lives m.status ≡ false → Good ok m
        → Kept (record { answer = a; outs = []; next = m })
    over_kept a h n l g = (
      record {
        answer = h;
        state = good_unbroken g;
        of_wrong_sort = λ e f. no' (sym l ∙ ap lives e);
        only_wrong = λ e. no' (sym n ∙ ap refuses e);
      },
      g,
    )

    pub again_kept : Good ok m → Kept (again m.status m (moved items m (told items m c) o))
    again_kept g = go m.status refl g.life
      where
        go : (a : Status) → m.status ≡ a → Life ok a m → Kept (again a m (moved items m (told items m c) o))
        go live e i = comes_kept e g (moved_comes ok m o (told_here ok c i.stands))
        go finished_run e i = over_kept finished refl refl (rw e) g
        go (stopped_run d) e i = over_kept (stopped d) i refl (rw e) g
        go (fault_run n) e i = absurd i

  pub fresh_good : Good ok fresh
  fresh_good = land ok outset (inl refl) refl (λ n e. not_nothing n e) tt (fresh_vars (text_kinds items)) refl
