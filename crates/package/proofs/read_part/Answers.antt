-- `package::read_part`: the letters, the metadata one after the other, the end, then the amount. Assumes nothing.
use borrow.Author.Tests.{le-leb, lt-leb}
use mathlib.Core.Path.{sym, ◌∙◌}
use Rattle.package.proofs.Parts.{Read, left_over, no_amount, whole_part}
use Rattle.package.specs.Package.{part_of}
use Rattle.package.proofs.read_part.Goals as goal
use Rattle.package.proofs.read_part.Goals.{After-metadatum_at-noise, then-s-lt10-via-then-s-lt10}
use Rattle.package.proofs.read_part.Goals.{then-s-lt10-via-else-s-lt10+then-not-is_lower}
use Rattle.package.proofs.read_part.Goals.{then-s-lt10-via-else-s-lt10+else-not-is_lower+then-not-is_lower-2}

-- past the noise: all metadata are read
module _ (c : After-metadatum_at-noise) where
  read : Read c.args.s.now c.metadatum_at-status.result.0 c.metadatum_at-range.result.0 c.metadatum_at-noise.result.0
      c.metadatum_at-status.result.1 c.metadatum_at-range.result.1 c.metadatum_at-noise.result.1
  read =
      record {
        letters = record {
          long = c.if-s-lt10.false;
          first = sym c.is_lower.ensures ∙ c.if-not-is_lower.false;
          second = sym c.is_lower-else-not-is_lower.ensures ∙ c.if-not-is_lower-2.false;
        };
        status = c.metadatum_at-status.ensures.found;
        past_status = c.metadatum_at-status.ensures.past;
        range = c.metadatum_at-range.ensures.found;
        past_range = c.metadatum_at-range.ensures.past;
        noise = c.metadatum_at-noise.ensures.found;
        past_noise = c.metadatum_at-noise.ensures.past;
      }

pub returns-then-s-lt10 : goal.returns-then-s-lt10
unfolding part_of
returns-then-s-lt10 c =
    elim c.then-s-lt10.branch [
      | then-s-lt10-via-then-s-lt10 w ↦ simp (lt-leb _ _ w.if-s-lt10.true)
      | then-s-lt10-via-else-s-lt10+then-not-is_lower w ↦
          simp (le-leb _ _ w.if-s-lt10.false, sym w.is_lower.ensures ∙ w.if-not-is_lower.true)
      | then-s-lt10-via-else-s-lt10+else-not-is_lower+then-not-is_lower-2 w ↦
          simp (
            le-leb _ _ w.if-s-lt10.false,
            sym w.is_lower.ensures ∙ w.if-not-is_lower.false,
            sym w.is_lower-else-not-is_lower.ensures ∙ w.if-not-is_lower-2.true,
          )
    ]

pub returns-then-at-s : goal.returns-then-at-s
returns-then-at-s c = left_over (read (goal.at.returns-then-at-s c).After-metadatum_at-noise) c.if-at-s.true

pub returns-in_err-amount_in : goal.returns-in_err-amount_in
returns-in_err-amount_in c =
    c.from_residual.ensures
    ∙ no_amount (read (goal.at.returns-in_err-amount_in c).After-metadatum_at-noise) c.if-at-s.false
    (sym c.in_err-amount_in.ensures)

pub returns : goal.returns
returns c =
    whole_part (read (goal.at.returns c).After-metadatum_at-noise) _ _ c.type_of.ensures c.if-at-s.false
    (sym c.in_ok-amount_in.ensures)
