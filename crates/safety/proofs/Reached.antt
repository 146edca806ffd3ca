-- Each of the faults 60 to 64 is reached by a script text that passes form and breaks the rules.
use Prim.Native.Nat.{ℕ}
use mathlib.Core.Path.{refl}
use mathlib.Core.List.{List, ◌∷◌, ◌++◌}
use lib.ListN.{replicate}
use Rattle.state.specs.declared.Control.{Control}
use Rattle.state.specs.declared.Offer.{Offer}
use Rattle.safety.specs.Safety.{Reaches}
use Rattle.safety.specs.Texts.{unwritten, unlike, stray, deep, loose, after_loop, after_sweep, after_tag}
use Rattle.safety.specs.Texts.{after_if, after_copy}
use Rattle.safety.proofs.Opened.{all}

-- n steps with no control and no offer
abbrev quietly : ℕ → List (Control × Offer)
quietly n = replicate n (Control.None, Offer.Nothing)

pub reaches_60 : Reaches unwritten 20 2 1 (quietly 2) 60
unfolding all
reaches_60 = record { formed = refl; breaks = refl; comes = refl }

pub reaches_61 : Reaches unlike 19 1 0 (quietly 1) 61
unfolding all
reaches_61 = record { formed = refl; breaks = refl; comes = refl }

pub reaches_62 : Reaches stray 21 1 0 (quietly 1) 62
unfolding all
reaches_62 = record { formed = refl; breaks = refl; comes = refl }

pub reaches_63 : Reaches deep 22 9 8 (quietly 9) 63
unfolding all
reaches_63 = record { formed = refl; breaks = refl; comes = refl }

pub reaches_64 : Reaches loose 23 1 0 (quietly 1) 64
unfolding all
reaches_64 = record { formed = refl; breaks = refl; comes = refl }

-- ---- each way in which a checker is easily too lax lets a fault through

pub needs_loop : Reaches after_loop 20 5 2 (quietly 3) 60
unfolding all
needs_loop = record { formed = refl; breaks = refl; comes = refl }

pub needs_sweep : Reaches after_sweep 20 5 3 (quietly 2 ++ (Control.None, Offer.Done) ∷ quietly 1) 60
unfolding all
needs_sweep = record { formed = refl; breaks = refl; comes = refl }

pub needs_tag : Reaches after_tag 20 4 1 ((Control.Z, Offer.Nothing) ∷ quietly 1) 60
unfolding all
needs_tag = record { formed = refl; breaks = refl; comes = refl }

pub needs_else : Reaches after_if 20 5 2 (quietly 3) 60
unfolding all
needs_else = record { formed = refl; breaks = refl; comes = refl }

pub needs_copy : Reaches after_copy 19 5 5 (quietly 6) 61
unfolding all
needs_copy = record { formed = refl; breaks = refl; comes = refl }
