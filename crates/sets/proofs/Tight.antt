-- No second answer fits: for each public function, two answers that both keep its contract are equal. A word is below
-- 2 ^ 32. Assumes nothing.
use Prim.Native.Nat.{ℕ, ◌<◌, ◌^◌}
use mathlib.Core.Path.{◌≡◌, sym, ◌∙◌}
use mathlib.Core.Bool.{Bool, true}
use lib.ListN.{set}
use Rattle.table.specs.ReadWrite.{Names, has}
use Rattle.table.specs.Code.{all_reads, all_writes}
use Rattle.table.specs.declared.Writes.{Writes}
use Rattle.table.specs.declared.Reads.{Reads}
use Rattle.sets.specs.Names.{nothing, everything, both, either, outside, asks, put, NameSet, names_of}
use Rattle.sets.proofs.Bits.{one_word}

-- of a set that is determined
only_set : {s : Names} (x y : NameSet) → x.0 < 2 ^ 32 → y.0 < 2 ^ 32 → names_of x ≡ s → names_of y ≡ s → x ≡ y
only_set x y h k p q = one_word x y h k (p ∙ sym q)

pub only_name_set_none : (x y : NameSet) → x.0 < 2 ^ 32 → y.0 < 2 ^ 32
    → names_of x ≡ nothing → names_of y ≡ nothing → x ≡ y
only_name_set_none = only_set

pub only_name_set_all : (x y : NameSet) → x.0 < 2 ^ 32 → y.0 < 2 ^ 32
    → names_of x ≡ everything → names_of y ≡ everything → x ≡ y
only_name_set_all = only_set

pub only_name_set_has_name : (w : NameSet) (n : ℕ) (x y : Bool)
    → x ≡ has (names_of w) n → y ≡ has (names_of w) n → x ≡ y
only_name_set_has_name w n x y p q = p ∙ sym q

pub only_name_set_with_name : (w : NameSet) (n : ℕ) (x y : NameSet) → x.0 < 2 ^ 32 → y.0 < 2 ^ 32
    → names_of x ≡ set (names_of w) n true → names_of y ≡ set (names_of w) n true → x ≡ y
only_name_set_with_name w n = only_set

pub only_name_set_in_both : (a b : NameSet) (x y : NameSet) → x.0 < 2 ^ 32 → y.0 < 2 ^ 32
    → names_of x ≡ both (names_of a) (names_of b) → names_of y ≡ both (names_of a) (names_of b) → x ≡ y
only_name_set_in_both a b = only_set

pub only_name_set_in_either : (a b : NameSet) (x y : NameSet) → x.0 < 2 ^ 32 → y.0 < 2 ^ 32
    → names_of x ≡ either (names_of a) (names_of b) → names_of y ≡ either (names_of a) (names_of b) → x ≡ y
only_name_set_in_either a b = only_set

pub only_name_set_any_outside : (a b : NameSet) (x y : Bool)
    → x ≡ outside (names_of a) (names_of b) → y ≡ outside (names_of a) (names_of b) → x ≡ y
only_name_set_any_outside a b x y p q = p ∙ sym q

pub only_name_set_with_read : (w : NameSet) (ws : Reads) (x y : NameSet) → x.0 < 2 ^ 32 → y.0 < 2 ^ 32
    → names_of x ≡ asks (names_of w) (all_reads ws) → names_of y ≡ asks (names_of w) (all_reads ws) → x ≡ y
only_name_set_with_read w ws = only_set

pub only_name_set_with_written : (w : NameSet) (gs : Writes) (x y : NameSet) → x.0 < 2 ^ 32 → y.0 < 2 ^ 32
    → names_of x ≡ put (names_of w) (all_writes gs) → names_of y ≡ put (names_of w) (all_writes gs) → x ≡ y
only_name_set_with_written w gs = only_set
