-- `around_break` looks at the innermost open loop. Assumes nothing.
use Prim.Native.Nat.{ℕ, suc}
use mathlib.Core.Path.{◌≡◌, sym}
use mathlib.Core.Bool.{Bool, false}
use mathlib.Core.List.{List}
use lib.ListN.{get_or}
use Rattle.table.specs.Item.{is_sweep}
use Rattle.mates.specs.declared.Mark.{Mark}
use Rattle.mates.specs.Mates.{past}
use Rattle.mates.specs.Code.{opens_at, close_in}
use Rattle.mates.proofs.Placed.{unwrap_behind}
use Rattle.state.specs.Meaning.{tops}
use Rattle.state.proofs.Boxes.{tops-length}
use Rattle.effect.specs.declared.Around.{Around}
use Rattle.lookup.specs.Lookup as lookup
use Rattle.lookup.proofs.around.around_break.Goals as goal

broken : (ms : List Mark) (b : Bool) (l : List ℕ) (k : ℕ)
    → lookup.around_break ms b (tops l (suc k)) ≡ record {
      sweeping = b;
      stray = false;
      close = past (close_in ms (get_or l k 0));
      sweep = opens_at is_sweep ms (get_or l k 0);
      outside = k;
    }
broken ms b l k = rw (tops-length l k)

pub returns-in-Some : goal.returns-in-Some
returns-in-Some c =
    rw (
      c.in-Some.ensures.1,
      broken c.args.marks.now.at c.args.sweeping c.args.s.boxes c.in-Some.k,
      c.around_none.ensures,
      c.unwrap_or.ensures,
      c.close_of.ensures,
      unwrap_behind,
      c.sweep_at.ensures,
    )

pub returns-in-None : goal.returns-in-None
returns-in-None c = rw (c.in-None.ensures.1, c.around_none-in-None.ensures)
