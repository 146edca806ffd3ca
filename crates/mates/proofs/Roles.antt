-- A role says of an item all that the boxes need, and a row of roles is written one at a time.
use Prim.Native.Nat.{ℕ, suc, ◌+◌, ◌<◌}
use mathlib.Core.Path.{◌≡◌, refl, sym, ap}
use mathlib.Core.List.{List, [], ◌∷◌, ◌++◌}
use native.Mathlib.Numerals.{add-one}
use lib.ListN.{length, get_or, set, take}
use lib.Seq.{take-suc, take-suc-set}
use Rattle.table.specs.declared.Item.{Item}
use Rattle.table.specs.declared.Sort.{Sort}
use Rattle.table.specs.Item.{fits}
use Rattle.table.specs.declared.Close.TheVariants as Close
use Rattle.mates.specs.Mates.{Open, scan}
use Rattle.mates.specs.Code.{Role, role_of, roles_of, fits_role, scan_role}

pub fits_role_lem : (x : Item) (s : Sort) → fits x s ≡ fits_role (role_of x) s
fits_role_lem (Item.Act a) s = refl
fits_role_lem (Item.Pack p) s = refl
fits_role_lem (Item.Open h) s = refl
fits_role_lem (Item.Branch b) s = refl
fits_role_lem (Item.Close Close.EndIf) s = refl
fits_role_lem (Item.Close Close.EndLoop) s = refl
fits_role_lem Item.Break s = refl
fits_role_lem Item.Tag s = refl

pub scan_role_lem : (j : ℕ) (x : Item) (st : List Open) → scan j x st ≡ scan_role j (role_of x) st
scan_role_lem j (Item.Act a) st = refl
scan_role_lem j (Item.Pack p) st = refl
scan_role_lem j (Item.Open h) st = refl
scan_role_lem j (Item.Branch b) st = refl
scan_role_lem j (Item.Close e) [] = refl
scan_role_lem j (Item.Close Close.EndIf) (o ∷ st) = refl
scan_role_lem j (Item.Close Close.EndLoop) (o ∷ st) = refl
scan_role_lem j Item.Break st = refl
scan_role_lem j Item.Tag st = refl

-- ---- a row of roles

pub length-roles : (xs : List Item) → length (roles_of xs) ≡ length xs
length-roles [] = refl
length-roles (x ∷ xs) = ap suc (length-roles xs)

roles_append : (xs ys : List Item) → roles_of (xs ++ ys) ≡ roles_of xs ++ roles_of ys
roles_append [] ys = refl
roles_append (x ∷ xs) ys = ap {B = List Role} (λ (l : List Role). role_of x ∷ l) (roles_append xs ys)

-- one role more is written down
pub roles_more : (xs : List Item) (rs : List Role) (j : ℕ) → take j rs ≡ roles_of (take j xs) → j < length rs
    → j < length xs
    → take (j + 1) (set rs j (role_of (get_or xs j Item.Tag))) ≡ roles_of (take (j + 1) xs)
roles_more xs rs j e h k =
    rw (add-one j, take-suc-set rs j (role_of (get_or xs j Item.Tag)) h, take-suc xs j Item.Tag k, e)
    (sym (roles_append (take j xs) (get_or xs j Item.Tag ∷ [])))
