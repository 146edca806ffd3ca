-- `text::next_byte`: what stands before the byte behind a place, or the place past the end. Assumes nothing.
use lib.ListN.{drop, drop_of_length-le, length, length-drop}
use lib.Seq.{take_all}
use mathlib.Core.List.{List}
use mathlib.Core.Logic.{inl, inr}
use mathlib.Core.Path.{◌≡◌, ◌∙◌, ap}
use native.Mathlib.Omega.{arith}
use Prim.Native.Nat.{ℕ, ◌+◌, ◌≤◌, ◌<◌}
use Rattle.text.proofs.Cut.{before_is, before_le}
use Rattle.text.specs.Cut.{FirstFrom, before}
use Rattle.text.proofs.next_byte.Goals as goal
use Rattle.text.proofs.next_byte.Goals.{After-unwrap_or}

-- where the place is within
module _ (c : After-unwrap_or) where
  behind : c.in-Some.rest.now ≡ drop c.args.at c.args.s.now
  behind = c.in-Some.ensures.lookup.0.2 ∙ take_all _ _ (omega (arith, length-drop c.args.at c.args.s.now))

  stands : c.unwrap_or.result ≡ before c.args.c (drop c.args.at c.args.s.now)
  stands = rw (c.unwrap_or.ensures, c.place_of.ensures) (before_is _ _) ∙ ap (before c.args.c) behind

  short : c.args.at + c.unwrap_or.result ≤ length c.args.s.now
  short =
      omega (
        arith,
        stands,
        before_le c.args.c (drop c.args.at c.args.s.now),
        length-drop c.args.at c.args.s.now,
        c.in-Some.ensures.lookup.0.0,
      )

pub returns-in-Some : goal.returns-in-Some
returns-in-Some c =
    record { is = ap (λ n. c.args.at + n) (stands c); within = omega (arith, short c, c.in-Some.ensures.lookup.0.0) }

-- past the end there is none
past : (s : List ℕ) (at c : ℕ) → length s < at → FirstFrom s at c at
unfolding before
past s at c h =
    let k : length s ≤ at = omega arith in
    record { is = rw (drop_of_length-le s k) (omega arith); within = omega arith }

pub returns-in-None : goal.returns-in-None
returns-in-None c =
    elim c.in-None.ensures.lookup.0 [ inl h ↦ past _ _ _ h | inr h ↦ absurd (omega arith) ]
