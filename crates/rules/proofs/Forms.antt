-- What an item's form says of the item. Assumes nothing.
use mathlib.Core.Path.{◌≡◌, refl, sym, ap, ◌∙◌}
use mathlib.Core.Bool.{Bool, true, false, cond}
use lib.Dec.{eqb}
pub use Rattle.laws.proofs.Bools.{no}
use Rattle.table.specs.declared.Item.{Item}
use Rattle.table.specs.declared.Pack.TheVariants as Pack
use Rattle.table.specs.declared.Head.{Head}
use Rattle.table.specs.declared.Sweep.{Sweep}
use Rattle.table.specs.declared.Sort.TheVariants as Sort
use Rattle.table.specs.Item as Of
use Rattle.table.specs.ReadWrite.{breaks_order}
use Rattle.rules.specs.Check.{same_name}
use Rattle.rules.specs.Code.{Form, head_form, plain_form, form_by}
use Rattle.rules.specs.Code.{is_wrong, is_open, is_branch, is_close, is_tag, is_twice, sort_in, order_in}

pub record Formed (x : Item) (f : Form) : Type 0 where
  pub right : is_wrong f ≡ false
  pub opens' : is_open f ≡ Of.is_open x
  pub branches : is_branch f ≡ Of.is_branch x
  pub closes' : is_close f ≡ Of.is_close x
  pub tags : is_tag f ≡ Of.is_tag x
  pub twice : is_twice f ≡ same_name x
  pub sweeps : Of.is_sweep (sort_in f) ≡ Of.opens_a Of.is_sweep x
  pub order : (p : Bool) → order_in p f ≡ breaks_order x p

-- where the form computes, each is by computing
plainly : {x : Item} {f : Form} → is_wrong f ≡ false → is_open f ≡ Of.is_open x → is_branch f ≡ Of.is_branch x
    → is_close f ≡ Of.is_close x → is_tag f ≡ Of.is_tag x → is_twice f ≡ same_name x
    → Of.is_sweep (sort_in f) ≡ Of.opens_a Of.is_sweep x → ((p : Bool) → order_in p f ≡ breaks_order x p) → Formed x f
plainly a b c d e f g h = record {
  right = a;
  opens' = b;
  branches = c;
  closes' = d;
  tags = e;
  twice = f;
  sweeps = g;
  order = h;
}

-- the form of a measuring loop, by whether it has the same name twice
sweep_formed : (w : Sweep) (b : Bool) → eqb w.potential w.current ≡ b
    → Formed (Item.Open (Head.Sweep w)) (cond b Form.Twice (Form.Open Sort.Sweep))
sweep_formed w true e = plainly refl refl refl refl refl (sym e) refl (λ p. refl)
sweep_formed w false e = plainly refl refl refl refl refl (sym e) refl (λ p. refl)

pub formed : (x : Item) → Formed x (plain_form x)
formed (Item.Act a) = plainly refl refl refl refl refl refl refl (λ p. refl)
formed (Item.Pack Pack.Start) = plainly refl refl refl refl refl refl refl (λ p. refl)
formed (Item.Pack (Pack.Add v)) = plainly refl refl refl refl refl refl refl (λ p. refl)
formed (Item.Pack Pack.End) = plainly refl refl refl refl refl refl refl (λ p. refl)
formed (Item.Open (Head.If c)) = plainly refl refl refl refl refl refl refl (λ p. refl)
formed (Item.Open (Head.Loop c)) = plainly refl refl refl refl refl refl refl (λ p. refl)
formed (Item.Open (Head.Sweep w)) = sweep_formed w (eqb w.potential w.current) refl
formed (Item.Branch b) = plainly refl refl refl refl refl refl refl (λ p. refl)
formed (Item.Close e) = plainly refl refl refl refl refl refl refl (λ p. refl)
formed Item.Break = plainly refl refl refl refl refl refl refl (λ p. refl)
formed Item.Tag = plainly refl refl refl refl refl refl refl (λ p. refl)

pub head_sort : (y : Head) → sort_in (head_form y) ≡ Of.sort_of y
head_sort (Head.If c) = refl
head_sort (Head.Loop c) = refl
head_sort (Head.Sweep w) = by (eqb w.potential w.current)
  where
    by : (b : Bool) → sort_in (cond b Form.Twice (Form.Open Sort.Sweep)) ≡ Sort.Sweep
    by true = refl
    by false = refl

-- what is not wrong has its plain form
pub plain_form_lem : {f : Form} (wrongs : Bool) (x : Item) → f ≡ form_by wrongs x
    → is_wrong f ≡ false → f ≡ plain_form x
plain_form_lem true x e h = no (sym (ap is_wrong e) ∙ h)
plain_form_lem false x e h = e
