-- `read_into` makes a turn a line. The turn is said once; the answers cite it. Assumes nothing.
use Rattle.std.proofs.Common.{Err}
use borrow.Author.Rules.{rules}
use mathlib.Core.List.{List}
use mathlib.Core.Path.{◌≡◌, refl, sym, ◌∙◌, ap}
use native.Mathlib.Omega.{arith}
use Prim.Native.Nat.{ℕ, ◌<◌}
use Rattle.reply.proofs.Coming.{come_first, Taken, take_on, take_less, come_end}
use Rattle.reply.proofs.Turns.{place_below}
use Rattle.reply.proofs.Whole.{starts}
use Rattle.reply.specs.Code.{Memory, memory, whole}
use Rattle.reply.specs.Reply.{verdict}
use Rattle.reply.proofs.read_into.Given.{Over}
use Rattle.reply.proofs.read_into.Goals as goal
use Rattle.reply.proofs.read_into.Goals.{After-place_in-at, After-put_row}

-- with the row put: a turn is taken
module _ (g : Over) (c : After-put_row g) where
  taken : Taken (memory g.K.Keep.got g.K.Keep.put) c.args.reply.now c.room-n.result c.loop-st.st c.loop-st.lent
      c.place_in-at.result c.row_in.result c.take_turn-t.result c.put_row.new.lent
  taken =
      record {
        place = c.place_in-at.ensures;
        row = c.row_in.ensures;
        turn = c.take_turn-t.ensures;
        memory = c.put_row.ensures;
      }

pub loop-st-init : goal.loop-st-init
loop-st-init g c =
    let good = sym c.in_ok-read.ensures in
    record { come = rw c.begin-st.ensures (come_first _ _ _ c.in_ok-read.read.used _ (starts _ _ good)); size = refl }

-- the place of a turn has room
module _ (g : Over) (c : After-place_in-at g) where
  fits : c.place_in-at.result < g.K.Keep.room c.loop-st.lent
  fits =
      let i = c.loop-st.invariant in
      omega (
        arith,
        c.place_in-at.ensures,
        place_below c.loop-st.st c.room-n.result (i.come.ready.some c.loop-st-test.true),
        c.room-n.ensures,
        g.met.K.Keep.keeps_room c.loop-st.lent c.args.lent.now i.size,
      )

pub row_in-requires : goal.row_in-requires
row_in-requires g c = fits g (goal.at.row_in-requires g c).After-place_in-at

pub put_row-requires : goal.put_row-requires
put_row-requires g c = fits g (goal.at.put_row-requires g c).After-place_in-at

pub loop-st-smaller : goal.loop-st-smaller
loop-st-smaller g c =
    take_less (taken g (goal.at.loop-st-smaller g c).After-put_row) c.loop-st.invariant.come c.loop-st-test.true

pub loop-st-preserved : goal.loop-st-preserved
loop-st-preserved g c =
    let i = c.loop-st.invariant in
    record {
      come = take_on (taken g (goal.at.loop-st-preserved g c).After-put_row) i.come c.loop-st-test.true;
      size = c.put_row.auto.lent ∙ i.size;
    }

pub returns-in_err-read : goal.returns-in_err-read
returns-in_err-read g c =
    let e : c.from_residual.result ≡ Err c.in_err-read.field-0.0 = search rules in
    record {
      says = e ∙ c.in_err-read.ensures ∙ ap (λ (n : ℕ). verdict n c.args.reply.now) c.room-n.ensures;
      left = rw e refl;
    }

pub returns : goal.returns
returns g c =
    let kept : Memory (List _) = memory g.K.Keep.got g.K.Keep.put in
    record {
      says = c.in_ok-read.ensures ∙ ap (λ (n : ℕ). verdict n c.args.reply.now) c.room-n.ensures;
      left =
          come_end c.loop-st.invariant.come c.loop-st-test.false
          ∙ ap (λ (n : ℕ). whole kept c.args.reply.now n c.in_ok-read.read.used c.args.lent.now)
          c.room-n.ensures;
    }
