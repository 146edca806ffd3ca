-- The checker accepts a text with every command, every box and the tag; two runs of it, step by step.
use Prim.Native.Nat.{ℕ}
use mathlib.Core.Path.{◌≡◌, refl}
use mathlib.Core.Bool.{true, false}
use mathlib.Core.List.{List, [], ◌∷◌, ◌++◌}
use lib.IntN.{pos}
use lib.Ieee.{Float, nan}
use lib.ListN.{length, replicate}
use Rattle.value.specs.declared.Value.TheVariants as Value
use Rattle.value.specs.Literal.{plain, over}
use Rattle.table.specs.declared.Table.{Table}
use Rattle.state.specs.declared.LoopSort.TheVariants as LoopSort
use Rattle.loader.specs.Load.{loaded}
use Rattle.rules.specs.Check.{accepted, verdict}
use Rattle.state.specs.declared.Control.{Control}
use Rattle.state.specs.declared.Offer.{Offer}
use Rattle.state.specs.State.{da, ba, code0010, State, Out, enters}
use Rattle.state.specs.State.{leaves, pack_start, pack_end, pack_part, says, waits}
use Rattle.state.specs.State.{sets_e, sets_mode, switches_cell, Answer, running, waiting, finished, stopped, refuse}
use Rattle.state.specs.State.{fresh}
use Rattle.steps.specs.Machine.{step}
use Rattle.safety.specs.Texts.{night}
use Rattle.safety.proofs.Opened.{all}

-- a step: the control, the offer, the answer, and what is handed out
abbrev Entry : Type 0
Entry = Control × Offer × Answer × List Out

-- the steps of a run, told and offered as the entries say
unfoldable pub log : ℕ → Table → State → List Entry → List Entry
log size t m [] = []
log size t m (e ∷ es) = let s = step size t m e.0 e.1 in
    (e.0, e.1, s.answer, s.outs) ∷ log size t s.next es

abbrev goes : List Out → Entry
goes os = (Control.None, Offer.Nothing, running, os)

-- the float that a whole number is
abbrev volts : ℕ → Float
volts n = plain (pos n)

abbrev at : ℕ → ℕ → Offer
at x y = Offer.Point (record { potential = volts x; current = volts y })

abbrev packed : ℕ → ℕ → List Entry
packed x y =
    goes (pack_start ∷ [])
    ∷ goes (pack_part (Value.Real (volts x)) da ∷ [])
    ∷ goes (pack_part (Value.Real (volts y)) ba ∷ [])
    ∷ goes (pack_end ∷ []) ∷ []

-- up to the first measuring loop
abbrev settle : List Entry
settle =
    replicate 5 (goes [])
    ++ goes (sets_mode 2 ∷ [])
    ∷ goes (switches_cell true ∷ [])
    ∷ goes (says (record { start = 93; end = 97 }) ∷ [])
    ∷ replicate 7 (goes [])
    ++ goes (waits (Value.Real (over (pos 100) 3)) ∷ [])
    ∷ goes (sets_e (Value.Real (volts 0)) ∷ [])
    ∷ []

abbrev whole_run : List Entry
whole_run =
    settle
    -- a float where a point or done is wanted: refused; nothing: a wait; a point enters
    ++ (Control.None, Offer.Float (volts 1), refuse 31 0, [])
    ∷ (Control.None, Offer.Nothing, waiting, [])
    ∷ (Control.None, at 1 2, running, enters LoopSort.Sweep ∷ [])
    ∷ packed 1 2
    ++ goes []
    -- the second point, and a skip in its package: the sweep is left at its endloop
    ∷ (Control.None, at 3 4, running, [])
    ∷ (Control.Y, Offer.Nothing, running, pack_start ∷ [])
    ∷ goes (pack_part (Value.Real (volts 3)) da ∷ [])
    ∷ goes (pack_part (Value.Real (volts 4)) ba ∷ [])
    ∷ goes (pack_end ∷ [])
    ∷ goes (leaves LoopSort.Sweep ∷ [])
    -- the loop, once by its if and once by its elseif, which breaks
    ∷ goes (enters LoopSort.Loop ∷ [])
    ∷ goes []
    ∷ goes []
    ∷ goes (waits (Value.Real (volts 1)) ∷ [])
    ∷ goes []
    ∷ goes []
    ∷ goes []
    ∷ goes []
    ∷ goes []
    ∷ goes (leaves LoopSort.Loop ∷ [])
    -- two readings, an empty sweep, the abort, the tag, the end; a finished run repeats its answer
    ∷ (Control.None, Offer.Float (volts 5), running, [])
    ∷ (Control.None, Offer.Float (volts 6), running, [])
    ∷ (Control.None, Offer.Done, running, enters LoopSort.Sweep ∷ leaves LoopSort.Sweep ∷ [])
    ∷ goes []
    ∷ goes []
    ∷ goes (switches_cell false ∷ [])
    ∷ (Control.None, Offer.Nothing, finished, [])
    ∷ (Control.Z, at 1 2, finished, [])
    ∷ []

-- the loop is entered, and a Z closes it and leads to the tag
abbrev aborted_run : List Entry
aborted_run =
    settle
    ++ (Control.None, Offer.Done, running, enters LoopSort.Sweep ∷ leaves LoopSort.Sweep ∷ [])
    ∷ goes (enters LoopSort.Loop ∷ [])
    ∷ (Control.Z, Offer.Nothing, running, leaves LoopSort.Loop ∷ [])
    ∷ goes (switches_cell false ∷ [])
    ∷ (Control.None, Offer.Nothing, finished, [])
    ∷ []

-- a point that is not a number stops the run with 0010
abbrev stopped_run : List Entry
stopped_run =
    settle
    ++ (Control.None, Offer.Point (record { potential = volts 1; current = nan }), stopped code0010, [])
    ∷ (Control.Z, Offer.Done, stopped code0010, [])
    ∷ []

pub night_accepted : ((loaded night).number ≡ 0) × (verdict (length night) (loaded night).table ≡ accepted)
unfolding all
night_accepted = (refl, refl)

pub night_runs : log (length night) (loaded night).table fresh whole_run ≡ whole_run
unfolding all log
night_runs = refl

pub night_aborts : log (length night) (loaded night).table fresh aborted_run ≡ aborted_run
unfolding all log
night_aborts = refl

pub night_stops : log (length night) (loaded night).table fresh stopped_run ≡ stopped_run
unfolding all log
night_stops = refl
