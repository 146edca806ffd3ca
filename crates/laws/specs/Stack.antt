-- A stack as an array and a depth, over any element: the innermost stands last. Assumes nothing.
use Rattle.std.specs.Prelude.{List, [], ◌∷◌, ℕ, zero, suc, get_or}

-- the first n of the array, the last of them in front; `none` is what stands past the array
abbrev pub stack : {A : Type 0} → A → List A → ℕ → List A
stack none l zero = []
stack none l (suc n) = get_or l n none ∷ stack none l n
