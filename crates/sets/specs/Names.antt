-- Sets of names, one flag for each of the 32, and the words whose bits they are.
use Rattle.std.specs.Prelude.{ℕ, zero, suc, ◌/◌, ◌%◌, Bool, true, false, not, ◌&&◌, ◌||◌, List, [], ◌∷◌, eqb, set}
use Rattle.std.specs.Prelude.{replicate}
use Rattle.table.specs.ReadWrite.{Names}
use Rattle.table.specs.declared.Operand.{Operand}
use Rattle.table.specs.declared.Read.{Read}
use Rattle.table.specs.declared.Write.{Write}
pub use Rattle.sets.specs.declared.NameSet.{NameSet}

abbrev pub nothing : Names
nothing = replicate 32 false

abbrev pub everything : Names
everything = replicate 32 true

abbrev pub both : Names → Names → Names
both [] t = []
both (a ∷ s) [] = []
both (a ∷ s) (b ∷ t) = (a && b) ∷ both s t

abbrev pub either : Names → Names → Names
either [] t = []
either (a ∷ s) [] = []
either (a ∷ s) (b ∷ t) = (a || b) ∷ either s t

-- a name of the first set is not in the second
abbrev pub outside : Names → Names → Bool
outside [] t = false
outside (a ∷ s) [] = a || outside s []
outside (a ∷ s) (b ∷ t) = a && not b || outside s t

-- the names of the set and those that are read
abbrev pub ask : Names → Operand → Names
ask s (Operand.Name n) = set s n true
ask s (Operand.Literal l) = s

abbrev pub asks : Names → List Read → Names
asks s [] = s
asks s (Read.Any x ∷ ws) = asks (ask s x) ws
asks s (Read.Alike x y ∷ ws) = asks (ask (ask s x) y) ws
asks s (Read.Float x ∷ ws) = asks (ask s x) ws

-- the names of the set and those that are written
abbrev pub put : Names → List Write → Names
put s [] = s
put s (Write.Like n x ∷ gs) = put (set s n true) gs
put s (Write.Float n ∷ gs) = put (set s n true) gs

-- the lowest n bits of a word, the lowest first
unfoldable pub bits_of : ℕ → ℕ → Names
bits_of zero w = []
bits_of (suc n) w = eqb (w % 2) 1 ∷ bits_of n (w / 2)

-- the set that a word stands for
unfoldable pub set_of : ℕ → Names
set_of w = bits_of 32 w

abbrev pub names_of : NameSet → Names
names_of s = set_of s.0
