-- What the checker's state before an item says of the text.
use Prim.Native.Nat.{ℕ, suc, ◌+◌, ◌≤◌, zero-le}
use mathlib.Core.Path.{◌≡◌, refl, ap, ◌∙◌, subst}
use mathlib.Core.List.{List}
use native.Mathlib.Nat.{zero-add}
use native.Mathlib.Omega.{arith}
use lib.ListN.{length, drop}
use Rattle.laws.proofs.Lists.{drop-step}
use Rattle.table.specs.declared.Item.{Item}
use Rattle.table.specs.ReadWrite.{writes_of, Kinds}
use Rattle.mates.specs.declared.Open.{Open}
use Rattle.mates.specs.Mates.{scan, boxes_at}
use Rattle.rules.proofs.Placed.{Placed, after}
use Rattle.safety.proofs.Laws.{not_nothing}
use Rattle.safety.proofs.Walk.{Accepted, Reach, outset, more, clean, item_ok_lem}
use Rattle.safety.proofs.Boxes.{erase, Below, Heads, boxes_next, erase_after, below_after, few_after}
use Rattle.safety.proofs.Boxes.{heads_after}
use Rattle.safety.proofs.Sure.{Within, AllWithin, learn-length, sure_after, known_after}

pub record Static (items : List Item) (i : ℕ) (s : Placed) (k : Kinds) (xs : List Item) : Type 0 where
  pub text : drop i items ≡ xs
  pub span : i + length xs ≡ length items
  pub scanned : boxes_at items i ≡ erase s.boxes
  pub below : Below i s.boxes
  pub few : length s.boxes ≤ 8
  pub heads : Heads items i (erase s.boxes) xs s.tagged s.boxes
  pub sure_known : Within s.sure k
  pub boxes_known : AllWithin s.boxes k
  pub klen : length k ≡ 32

module _ {names size : ℕ} {items : List Item} (ok : Accepted names size items) where
  pub static : {i : ℕ} {s : Placed} {k : Kinds} {xs : List Item} → Reach items i s k xs → Static items i s k xs
  static outset = record {
    text = refl;
    span = zero-add (length items);
    scanned = refl;
    below = tt;
    few = zero-le;
    heads = tt;
    sure_known = λ n e. not_nothing n e;
    boxes_known = tt;
    klen = refl;
  }
  static (more {i} {s} {k} {x} {xs} r) =
      let q = static r in
      let c = clean ok r in
      let e = erase_after i s.sure s.packed s.tagged s.boxes x c.placed in
      record {
        text = drop-step i items x xs q.text;
        span = omega (arith, q.span);
        scanned = boxes_next items i x xs q.text ∙ ap (scan i x) q.scanned ∙ e;
        below = below_after i s.sure s.packed s.tagged s.boxes x q.below;
        few = few_after i s.sure s.packed s.tagged s.boxes x c.eighth q.few;
        heads =
            subst (λ (st : List Open). Heads items (suc i) st xs (after i s x).tagged (after i s x).boxes) e
            (heads_after items x s.boxes r c q.text q.scanned q.below q.heads);
        sure_known =
            sure_after ok i s.sure s.packed s.tagged k s.boxes x (item_ok_lem ok r) c.there q.klen
            q.sure_known q.boxes_known;
        boxes_known =
            known_after ok i s.sure s.packed s.tagged k s.boxes x q.sure_known q.boxes_known;
        klen = learn-length (writes_of x) k ∙ q.klen;
      }
