-- Each pair is told apart by the verdict, computed. Assumes nothing.
use mathlib.Core.Path.{refl}
use Rattle.value.specs.Arithmetic.{finite, is_finite}
use Rattle.table.specs.Shape.{in_shape}
use Rattle.rules.specs.Check.{verdict}
use Rattle.rules.specs.Pairs.{AllTold, pairs}

pub told : AllTold pairs
unfolding verdict in_shape finite is_finite
told = (
  (refl, refl),
  (
    (refl, refl),
    (
      (refl, refl),
      (
        (refl, refl),
        (
          (refl, refl),
          (
            (refl, refl),
            (
              (refl, refl),
              ((refl, refl), tt),
            ),
          ),
        ),
      ),
    ),
  ),
)
