-- `mates::marks_of` passes the roles in order, of which there are as many as places. Assumes nothing.
use mathlib.Core.Path.{◌≡◌}
use lib.ListN.{length}
use Rattle.std.proofs.Common.{rules}
use Rattle.mates.proofs.OpenBoxes.{pass_more, pass_ends}
use Rattle.mates.proofs.pass.marks_of.Goals as goal

pub loop-j-preserved : goal.loop-j-preserved
loop-j-preserved c =
    let full : length c.args.roles ≡ 128 = search rules in
    rw (
      c.depth_past-depth.ensures,
      c.sort_in.ensures,
      c.owner_of.ensures,
      c.fits_top-fits.ensures,
      c.saturating_sub.ensures,
    )
    (pass_more c.loop-j.invariant full (rw c.min-j-end.ensures at c.loop-j-test.true))

pub returns : goal.returns
returns c =
    let full : length c.args.roles ≡ 128 = search rules in
    pass_ends c.loop-j.invariant full (rw c.min-j-end.ensures at c.loop-j-test.false)
