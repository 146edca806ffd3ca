-- What a read leaves in the part that was lent to it, in the whole buffer. Assumes nothing.
use Rattle.std.proofs.Common.{rules, refl, ◌≡◌, ◌-◌, length}
use Rattle.stream.proofs.Hearing.{ends, goes_on, onward, over, within}
use Rattle.stream.proofs.read_whole.Goals as goal

pub returns-in-None : goal.returns-in-None
returns-in-None g c =
    let full : length c.read.new.buf ≡ length c.loop-size.buf - c.loop-size.size = search rules in
    over _ _ _ _ c.loop-size.invariant.0 refl full _ _ _ _ c.loop-size.invariant.2 c.read.ensures.bytes
    c.loop-size-test.true (ends _ (cc (c.in_ok-more.was, c.in-None.is, c.hear.ensures)))

pub overflow_add-size : goal.overflow_add-size
overflow_add-size g c =
    let come = goes_on c.read.result c.in-Some.more (cc (c.in_ok-more.was, c.in-Some.is, c.hear.ensures)) in
    let fits = within c.read.new.buf come.0 c.read.ensures.bound in
    search rules

pub loop-size-smaller : goal.loop-size-smaller
loop-size-smaller g c =
    let come = goes_on c.read.result c.in-Some.more (cc (c.in_ok-more.was, c.in-Some.is, c.hear.ensures)) in
    let fits = within c.read.new.buf come.0 c.read.ensures.bound in
    search rules

pub loop-size-preserved : goal.loop-size-preserved
loop-size-preserved g c =
    let come = goes_on c.read.result c.in-Some.more (cc (c.in_ok-more.was, c.in-Some.is, c.hear.ensures)) in
    let fits = within c.read.new.buf come.0 c.read.ensures.bound in
    let full : length c.read.new.buf ≡ length c.loop-size.buf - c.loop-size.size = search rules in (
      search rules,
      search rules,
      onward _ _ _ _ c.loop-size.invariant.0 refl full _ _ _ _ c.loop-size.invariant.2
          c.read.ensures.bytes c.in-Some.more come.0 fits,
    )
