-- A refusal is known by its number. Assumes nothing.
use mathlib.Core.Path.{◌≡◌, refl, sym, ◌∙◌, ap}
use mathlib.Core.List.{List, [], ◌∷◌}
use Prim.Native.Nat.{ℕ, ◌-◌}
use lib.ListN.{get_or}
use Rattle.argument.specs.declared.Refusal.{Refusal}
use Rattle.argument.specs.Refusal.{number_of}

-- in the order of their numbers
abbrev refusals : List Refusal
refusals =
    Refusal.TooLong ∷ Refusal.NoEnd ∷ Refusal.LongLine ∷ Refusal.TooManyItems ∷ Refusal.UnknownCommand
    ∷ Refusal.BadArguments ∷ Refusal.Undeclared ∷ Refusal.DeclaredTwice ∷ Refusal.TooManyNames ∷ []

abbrev refusal_of : ℕ → Refusal
refusal_of n = get_or refusals (n - 10) Refusal.TooLong

back : (r : Refusal) → refusal_of (number_of r) ≡ r
unfolding number_of
back Refusal.TooLong = refl
back Refusal.NoEnd = refl
back Refusal.LongLine = refl
back Refusal.TooManyItems = refl
back Refusal.UnknownCommand = refl
back Refusal.BadArguments = refl
back Refusal.Undeclared = refl
back Refusal.DeclaredTwice = refl
back Refusal.TooManyNames = refl

pub same_number : (r r' : Refusal) → number_of r ≡ number_of r' → r ≡ r'
same_number r r' e = sym (back r) ∙ ap refusal_of e ∙ back r'
