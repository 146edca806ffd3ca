-- Pairs of scripts that differ by one item, one pair for each of 19 to 26 (01, The checker): with the one item the
-- script is accepted, with the
-- other it is refused. So no constant verdict fits.
use Rattle.std.specs.Prelude.{ℕ, suc, ◌+◌, ◌-◌, ◌≡◌, false, List, [], ◌∷◌, ◌++◌, pos, length, replicate}
use Rattle.std.specs.Float.{fin}
use Rattle.value.specs.declared.Value.{Value}
use Rattle.table.specs.declared.Operand.TheVariants as Operand
use Rattle.value.specs.declared.Comparison.TheVariants as Comparison
use Rattle.table.specs.declared.Condition.{Condition}
use Rattle.table.specs.declared.Item.{Item}
use Rattle.table.specs.declared.Slot.{Slot}
use Rattle.table.specs.declared.Table.{Table}
use Rattle.table.specs.declared.Act.TheVariants as Act
use Rattle.table.specs.declared.Pack.TheVariants as Pack
use Rattle.table.specs.declared.Head.TheVariants as Head
use Rattle.table.specs.declared.Close.TheVariants as Close
use Rattle.table.specs.Shape.{no_slot}
use Rattle.rules.specs.Check.{accepted, refused, verdict}

-- the items on lines 1, 2 and so on, with four names and an ending line behind the last
abbrev slots : ℕ → List Item → List Slot
slots n [] = []
slots n (x ∷ xs) = record { item = x; line = n } ∷ slots (suc n) xs

abbrev pub script_of : List Item → Table
script_of xs = record {
  items = slots 1 xs ++ replicate (128 - length xs) no_slot;
  count = length xs;
  names = 4;
  end = length xs + 1;
}

pub record Pair : Type 0 where
  pub before : List Item
  pub good : Item
  pub bad : Item
  pub rest : List Item
  pub number : ℕ
  pub line : ℕ

-- the first script is accepted, the second refused by the number on the line
abbrev pub Told : Pair → Type 0
Told p =
    (verdict 0 (script_of (p.before ++ p.good ∷ p.rest)) ≡ accepted)
    × (verdict 0 (script_of (p.before ++ p.bad ∷ p.rest)) ≡ refused p.number p.line)

abbrev pub AllTold : List Pair → Type 0
AllTold [] = Unit {0}
AllTold (p ∷ ps) = Told p × AllTold ps

abbrev float : Value
float = Value.Real (fin false 0 (pos 0))

abbrev waiting : Item
waiting = Item.Act (Act.Wait (Operand.Name 0))

abbrev holding : Condition
holding = record { left = Operand.Literal float; by = Comparison.Equal; right = Operand.Literal float }

abbrev always : Item
always = Item.Open (Head.If holding)

abbrev looping : Item
looping = Item.Open (Head.Loop holding)

abbrev endif : Item
endif = Item.Close Close.EndIf

abbrev endloop : Item
endloop = Item.Close Close.EndLoop

abbrev sweeping : ℕ → ℕ → Item
sweeping v w =
    Item.Open (Head.Sweep (record {
      potential = v;
      current = w;
      begin = Operand.Literal float;
      end = Operand.Literal float;
      step = Operand.Literal float;
      rate = Operand.Literal float;
    }))

abbrev pub pairs : List Pair
pairs =
    record {
      before = [];
      good = Item.Act (Act.Store 0 float 0);
      bad = Item.Act (Act.Store 0 (Value.Whole (pos 1)) 0);
      rest = waiting ∷ [];
      number = 19;
      line = 2;
    }
    ∷ record {
      before = [];
      good = Item.Act (Act.Store 0 float 0);
      bad = Item.Act Act.CellOn;
      rest = waiting ∷ [];
      number = 20;
      line = 2;
    }
    ∷ record { before = always ∷ []; good = endif; bad = endloop; rest = []; number = 21; line = 2 }
    ∷ record {
      before = replicate 8 always;
      good = Item.Act Act.CellOn;
      bad = always;
      rest = replicate 8 endif;
      number = 22;
      line = 9;
    }
    ∷ record {
      before = Item.Pack Pack.Start ∷ [];
      good = Item.Pack Pack.End;
      bad = Item.Pack Pack.Start;
      rest = [];
      number = 23;
      line = 2;
    }
    ∷ record { before = Item.Tag ∷ []; good = Item.Act Act.CellOff; bad = Item.Tag; rest = []; number = 24; line = 2 }
    ∷ record { before = []; good = sweeping 0 1; bad = sweeping 0 0; rest = endloop ∷ []; number = 25; line = 1 }
    ∷ record {
      before = sweeping 0 1 ∷ [];
      good = looping;
      bad = sweeping 2 3;
      rest = endloop ∷ endloop ∷ [];
      number = 26;
      line = 2;
    }
    ∷ []
