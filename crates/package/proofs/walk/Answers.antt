-- `package::walk` goes through the parts: what is still to come of it is the whole's. Assumes nothing.
use Rattle.std.proofs.Common.{Option}
use borrow.Author.Rules.{rules}
use borrow.Author.Tests.{eq-eqb, le-leb, lt-leb, ne_eqb}
use mathlib.Core.Path.{◌≡◌, sym, ◌∙◌, ap}
use native.Mathlib.Omega.{arith}
use Prim.Native.Nat.{◌+◌}
use Rattle.package.proofs.Packages.{keeps_part, last_part, more_parts, too_many, wrong_part}
use Rattle.package.proofs.Packages.{Round, ends_within, from, part_read}
use Rattle.package.specs.Code.{walk_from, walk_meaning, kept_from, stopped}
use Rattle.package.specs.declared.Part.{Part}
use Rattle.package.specs.Package.{Reading, number_of, package_of, parts_from}
use Rattle.package.proofs.walk.Given.{Over}
use Rattle.package.proofs.walk.Goals as goal
use Rattle.package.proofs.walk.Goals.{After-read_part, At-loop-k}
use Rattle.package.proofs.walk.Goals.{then-s-lt1-via-then-s-lt1, then-s-lt1-via-else-s-lt1+then-s-ne80}

-- at the loop's head: what comes of the parts from here on is the whole's
module _ (g : Over) (c : At-loop-k g) where
  so_far : (r : Reading) → parts_from c.loop-k.k (from c.args.s.now c.loop-k.at) ≡ r
      → walk_from g.K.Keep.kept c.loop-k.k c.loop-k.kept r
      ≡ walk_from g.K.Keep.kept 0 c.args.start (package_of c.args.s.now)
  so_far r e = sym (ap (walk_from g.K.Keep.kept c.loop-k.k c.loop-k.kept) e) ∙ c.loop-k.invariant.same

-- with a part that was read as x
module _ (g : Over) (c : After-read_part g) where
  read_as : (x : Option Part) → c.read_part.result ≡ x
      → Round c.args.s.now c.loop-k.k c.loop-k.at c.next_byte-e.result x
  read_as _ = part_read c.loop-k-test.true c.loop-k.invariant.within c.next_byte-e.ensures c.read_part.ensures

pub returns-then-s-lt1 : goal.returns-then-s-lt1
unfolding walk_meaning walk_from number_of package_of
returns-then-s-lt1 g c =
    elim c.then-s-lt1.branch [
      | then-s-lt1-via-then-s-lt1 w ↦ simp (lt-leb _ _ w.if-s-lt1.true)
      | then-s-lt1-via-else-s-lt1+then-s-ne80 w ↦
          simp (le-leb _ _ w.if-s-lt1.false, ne_eqb _ _ w.if-s-ne80.true)
    ]

pub loop-k-init : goal.loop-k-init
unfolding package_of
loop-k-init g c =
    record {
      within = search rules;
      same = simp (le-leb _ _ c.if-s-lt1.false, eq-eqb _ _ c.if-s-ne80.false);
    }

pub slice_bounds-read_part-end : goal.slice_bounds-read_part-end
slice_bounds-read_part-end g c = omega (arith, c.next_byte-e.ensures.within, c.loop-k.invariant.within)

pub returns-in_default : goal.returns-in_default
unfolding walk_meaning walk_from number_of
returns-in_default g c =
    so_far g (goal.at.returns-in_default g c).At-loop-k _
    (wrong_part (read_as g (goal.at.returns-in_default g c).After-read_part _ c.in_default.is))

pub returns-then-e-s : goal.returns-then-e-s
unfolding walk_meaning walk_from kept_from
returns-then-e-s g c =
    let good = read_as g (goal.at.returns-then-e-s g c).After-read_part _ c.in-Some.is in
    rw c.keep.ensures
    (so_far g (goal.at.returns-then-e-s g c).At-loop-k _ (last_part good c.if-e-s.true))

pub overflow_add-at : goal.overflow_add-at
overflow_add-at g c = omega (arith, c.next_byte-e.ensures.within, c.loop-k.invariant.within)

pub loop-k-preserved : goal.loop-k-preserved
loop-k-preserved g c =
    let good = read_as g (goal.at.loop-k-preserved g c).After-read_part _ c.in-Some.is in
    record {
      within = omega (arith, ends_within good, c.if-e-s.false);
      same =
          rw c.keep.ensures
          (sym (keeps_part g.K.Keep.kept _ _ _ _)
          ∙ so_far g (goal.at.loop-k-preserved g c).At-loop-k _ (more_parts good c.if-e-s.false));
    }

pub returns : goal.returns
unfolding walk_meaning walk_from number_of
returns g c =
    let all : 17 ≡ c.loop-k.k + 1 = omega arith in
    ap (stopped 41) all
    ∙ so_far g (goal.at.returns g c).At-loop-k _
    (too_many c.loop-k.k c.loop-k.at c.args.s.now c.loop-k-test.false)
