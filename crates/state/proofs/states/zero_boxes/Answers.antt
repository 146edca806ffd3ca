use lib.ListN.{length}
use mathlib.Core.Path.{◌≡◌}
use borrow.Author.Rules.{rules}
use Rattle.state.proofs.Rests.{filled}
use Rattle.state.proofs.states.zero_boxes.Goals as goal

pub returns : goal.returns
returns c =
    let eight : length c.args.boxes ≡ 8 = search rules in
    filled c.args.boxes c.fill.new.self c.args.d c.min.result eight c.min.ensures (c.fill.ensures.after (λ y e. e))
