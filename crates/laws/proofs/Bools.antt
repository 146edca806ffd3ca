-- Laws of Booleans that several crates cite and the kit's libraries do not have. Assumes nothing.
use mathlib.Core.Path.{◌≡◌, refl}
use mathlib.Core.Bool.{Bool, true, false, ◌&&◌, ◌||◌, true≢false, false≢true}

-- what cannot be
pub no : {X : Type 0} → true ≡ false → X
no e = absurd (true≢false e)

pub no' : {X : Type 0} → false ≡ true → X
no' e = absurd (false≢true e)

-- both, and each
pub and_l : (a b : Bool) → (a && b) ≡ true → a ≡ true
and_l true b e = refl
and_l false b e = e

pub and_r : (a b : Bool) → (a && b) ≡ true → b ≡ true
and_r true b e = e
and_r false b e = no' e

pub and_t : {a b : Bool} → a ≡ true → b ≡ true → (a && b) ≡ true
and_t {a} {b} p q = rw p q

-- neither, and each
pub or_l : (a b : Bool) → (a || b) ≡ false → a ≡ false
or_l true b e = e
or_l false b e = refl

pub or_r : (a b : Bool) → (a || b) ≡ false → b ≡ false
or_r true b e = no e
or_r false b e = e

pub or_f : {a b : Bool} → a ≡ false → b ≡ false → (a || b) ≡ false
or_f {a} {b} p q = rw p q
