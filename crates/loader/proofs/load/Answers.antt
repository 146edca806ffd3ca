-- `loader::load` goes through the lines in order. What is known at a place of a round is said once, at the place.
-- Assumes nothing.
use Rattle.std.proofs.Common.{Option, Some, None, Result, Ok}
use borrow.Author.Tests.{lt-ltb}
use lib.Seq.{length-take-le}
use mathlib.Core.Path.{◌≡◌, sym, ◌∙◌, ap}
use native.Mathlib.Omega.{arith}
use Prim.Native.Nat.{◌-◌}
use Rattle.table.specs.declared.Item.{Item}
use Rattle.argument.specs.declared.Refusal.{Refusal}
use Rattle.argument.specs.Refusal.{number_of}
use Rattle.line.specs.Line.{item}
use Rattle.loader.proofs.Walk.{begin, no_line, Sought, no_end, ended, Round, known_as, refuses, skips}
use Rattle.loader.proofs.Walk.{room_for, takes_plain, takes_name}
use Rattle.loader.specs.Code.{taken_of}
use Rattle.loader.specs.Load.{nothing, given, loaded}
use Rattle.loader.proofs.load.Goals as goal
use Rattle.loader.proofs.load.Goals.{After-next_byte-stop, After-take_line-taken}

gives_item : {r : Result (Option Item) Refusal} {o : Option Item} {it : Item} → r ≡ Ok o → o ≡ Some it
    → taken_of r ≡ given (item it)
gives_item e f = ap taken_of (e ∙ ap Ok f)

gives_none : {r : Result (Option Item) Refusal} {o : Option Item} → r ≡ Ok o → o ≡ None → taken_of r ≡ nothing
gives_none e f = ap taken_of (e ∙ ap Ok f)

-- with the place of the next newline
module _ (c : After-next_byte-stop) where
  sought : Sought c.args.text.now c.loop-at.table c.loop-at.names c.loop-at.at c.loop-at.number c.next_byte-stop.result
  sought = record { inv = c.loop-at.invariant; ends = c.next_byte-stop.ensures.is }

-- with what the line gives
module _ (c : After-take_line-taken) where
  whole : c.next_byte-stop.result - 0 ≡ c.next_byte-stop.result
  whole = omega arith

  round : Round c.args.text.now c.loop-at.table c.loop-at.names c.loop-at.at c.loop-at.number
      c.next_byte-stop.result (taken_of c.take_line-taken.result)
  round =
      record {
        sought = record { inv = c.loop-at.invariant; ends = c.next_byte-stop.ensures.is };
        more = c.if-size-stop.false;
        some = c.if-stop-at.false;
        takes = rw whole at c.take_line-taken.ensures;
      }

pub returns-then-size-gt-MOST_BYTES : goal.returns-then-size-gt-MOST_BYTES
unfolding loaded number_of
returns-then-size-gt-MOST_BYTES c = simp (lt-ltb _ _ c.if-size-gt-MOST_BYTES.true)

pub loop-at-init : goal.loop-at-init
loop-at-init c = rw c.empty-table.ensures (begin _ c.if-size-gt-MOST_BYTES.false)

pub returns-then-size-stop : goal.returns-then-size-stop
unfolding number_of
returns-then-size-stop c =
    no_end (sought (goal.at.returns-then-size-stop c).After-next_byte-stop) c.if-size-stop.true

pub returns-then-stop-at : goal.returns-then-stop-at
returns-then-stop-at c =
    ended (sought (goal.at.returns-then-stop-at c).After-next_byte-stop) c.if-size-stop.false c.if-stop-at.true

pub slice_bounds-take_line-end-in-loop-at : goal.slice_bounds-take_line-end-in-loop-at
slice_bounds-take_line-end-in-loop-at c =
    let now = c.loop-at in
    sym (length-take-le now.table.names now.names (omega (arith, now.invariant.few, now.invariant.wide)))

pub returns-in-Err : goal.returns-in-Err
returns-in-Err c =
    let r = round (goal.at.returns-in-Err c).After-take_line-taken in
    refuses _ (known_as r (ap taken_of c.in-Err.is))

pub bounds-names-n : goal.bounds-names-n
bounds-names-n c =
    let r = round (goal.at.bounds-names-n c).After-take_line-taken in
    let given_item = gives_item c.in-Ok-Some.is (rw c.in-Ok-Some.is at c.in-Ok-Some.field-0-is) in
    room_for (known_as r given_item) (sym c.item_declares.ensures ∙ c.if-item_declares.true)

pub loop-at-preserved-then-item_declares : goal.loop-at-preserved-then-item_declares
loop-at-preserved-then-item_declares c =
    let r = round (goal.at.loop-at-preserved-then-item_declares c).After-take_line-taken in
    let declared = sym c.item_declares.ensures ∙ c.if-item_declares.true in
    let given_item = gives_item c.in-Ok-Some.is (rw c.in-Ok-Some.is at c.in-Ok-Some.field-0-is) in
    rw (← c.name_row-row.ensures) at (takes_name (known_as r given_item) declared)

pub loop-at-preserved-else-item_declares : goal.loop-at-preserved-else-item_declares
loop-at-preserved-else-item_declares c =
    let r = round (goal.at.loop-at-preserved-else-item_declares c).After-take_line-taken in
    let given_item = gives_item c.in-Ok-Some.is (rw c.in-Ok-Some.is at c.in-Ok-Some.field-0-is) in
    takes_plain (known_as r given_item) (sym c.item_declares.ensures ∙ c.if-item_declares.false)

pub loop-at-preserved : goal.loop-at-preserved
loop-at-preserved c =
    let r = round (goal.at.loop-at-preserved c).After-take_line-taken in
    skips (known_as r (gives_none c.in-Ok-None.is (rw c.in-Ok-None.is at c.in-Ok-None.field-0-is)))

pub returns : goal.returns
unfolding number_of
returns c = no_line c.loop-at.invariant c.loop-at-test.false
