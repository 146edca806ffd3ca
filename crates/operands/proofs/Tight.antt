-- No second answer fits a public function's contract.
use Prim.Native.Nat.{ℕ}
use mathlib.Core.Path.{◌≡◌, sym, ◌∙◌}
use Rattle.table.specs.declared.Item.{Item}
use Rattle.state.specs.State.{Cell}
use Rattle.operands.specs.Code.{operands_of, places_of, cells_of, write_place, write_over}
use Rattle.operands.specs.Code.{Operands, Places, Cells, Written}

pub only_operands_of : (item : Item) (r r' : Operands) → r ≡ operands_of item → r' ≡ operands_of item → r ≡ r'
only_operands_of item r r' e f = e ∙ sym f

pub only_places_of : (o : Operands) (r r' : Places) → r ≡ places_of o → r' ≡ places_of o → r ≡ r'
only_places_of o r r' e f = e ∙ sym f

pub only_cells_of : (o : Operands) (k : Cells) (r r' : Cells) → r ≡ cells_of o k.a k.b k.c k.d
    → r' ≡ cells_of o k.a k.b k.c k.d → r ≡ r'
only_cells_of o k r r' e f = e ∙ sym f

pub only_write_place : (w : Written) (r r' : ℕ) → r ≡ write_place w → r' ≡ write_place w → r ≡ r'
only_write_place w r r' e f = e ∙ sym f

pub only_write_over : (w : Written) (v : Cell) (r r' : Cell) → r ≡ write_over w v → r' ≡ write_over w v → r ≡ r'
only_write_over w v r r' e f = e ∙ sym f
