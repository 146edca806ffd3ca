use Prim.Native.Nat.{◌-◌}
use mathlib.Core.Path.{◌≡◌}
use native.Mathlib.Omega.{arith}
use lib.ListN.{length, replicate}
use borrow.Author.Rules.{rules}
use Rattle.laws.proofs.Stack.{stack_sets}
use Rattle.state.proofs.Rests.{drop-filled}
use Rattle.state.proofs.states.neat_state.Goals as goal

pub returns : goal.returns
returns c =
    let boxes = c.args.m.boxes in
    let depth = c.args.m.depth in
    let eight : length c.args.m.boxes ≡ 8 = search rules in
    record {
      says = rw (c.zero_boxes.ensures, stack_sets 0 boxes depth (replicate (8 - depth) 0) depth (omega arith));
      neat = rw c.zero_boxes.ensures (drop-filled 0 boxes depth eight);
    }
