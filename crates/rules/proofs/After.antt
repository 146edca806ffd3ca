-- What holds after an item, whatever boxes are around. Assumes nothing.
use Prim.Native.Nat.{ℕ, zero, suc}
use mathlib.Core.Path.{◌≡◌, refl, sym, ◌∙◌, ap}
use mathlib.Core.Bool.{Bool, true, false, ◌||◌}
use mathlib.Core.List.{List, []}
use native.Mathlib.Omega.{arith}
use Rattle.table.specs.declared.Item.{Item}
use Rattle.table.specs.declared.Close.TheVariants as Close
use Rattle.table.specs.declared.Pack.TheVariants as Pack
use Rattle.table.specs.Item.{is_loop, is_sweep}
use Rattle.table.specs.ReadWrite.{Names, writes_of}
use Rattle.sets.specs.Names.{either, put, names_of}
use Rattle.rules.specs.Check.{Box, begin, after}
use Rattle.rules.specs.Code.{Form, Around, Holds, holds_of, box_of, boxes_in, state_of, state_after, Boxed, plain_form}
use Rattle.rules.specs.Code.{is_open, is_close, sort_in, mark_in, moved, Deeper, entered, Outside, Starts}
use Rattle.rules.specs.declared.written.Held as coded
use Rattle.rules.proofs.Forms.{no, formed, head_sort}

module _ (a : Around) (h : Holds) (bs : List Box) where
  -- an item that opens no box
  pub moved_is : (d : ℕ) → a.depth ≡ d → (x : Item) (writes : Names) → is_open (plain_form x) ≡ false
      → mark_in a h (plain_form x) ≡ false → either h.sure writes ≡ put h.sure (writes_of x)
      → state_after (is_close (plain_form x)) a (moved a h writes (plain_form x)) bs ≡ after (state_of a h bs) x
  unfolding mark_in moved
  moved_is d e (Item.Act y) w o m p = rw p
  moved_is d e (Item.Pack Pack.Start) w o m p = refl
  moved_is d e (Item.Pack (Pack.Add v)) w o m p = refl
  moved_is d e (Item.Pack Pack.End) w o m p = refl
  moved_is d e (Item.Open y) w o m p = no (sym (formed (Item.Open y)).opens' ∙ o)
  moved_is zero e (Item.Branch y) w o m p = no (rw e at m)
  moved_is (suc d) e (Item.Branch y) w o m p = rw e
  moved_is zero e (Item.Close Close.EndIf) w o m p = no (rw e at m)
  moved_is (suc d) e (Item.Close Close.EndIf) w o m p = rw e
  moved_is zero e (Item.Close Close.EndLoop) w o m p = no (rw e at m)
  moved_is (suc d) e (Item.Close Close.EndLoop) w o m p = rw e
  moved_is d e Item.Break w o m p = refl
  moved_is d e Item.Tag w o m p = refl

-- a closing mark in its place is in a box
pub close_inside : (a : Around) (h : Holds) (f : Form) → is_close f ≡ true → mark_in a h f ≡ false → a.depth ≡ 0 → ⊥
unfolding mark_in
close_inside a h Form.Wrong c m e = no (sym c)
close_inside a h Form.Act c m e = no (sym c)
close_inside a h (Form.Pack s) c m e = no (sym c)
close_inside a h (Form.Open s) c m e = no (sym c)
close_inside a h Form.Twice c m e = no (sym c)
close_inside a h (Form.Branch s) c m e = no (sym c)
close_inside a h (Form.Close Close.EndIf) c m e = no (rw e at m)
close_inside a h (Form.Close Close.EndLoop) c m e = no (rw e at m)
close_inside a h Form.Break c m e = no (sym c)
close_inside a h Form.Tag c m e = no (sym c)

-- an item that opens a box
module _ (a : Around) (h : coded.Held) (bs : List Box) where
  abbrev within : List Box
  within = boxes_in a.depth (box_of a (holds_of h)) bs

  pub deeper_is : (x : Item) (r : Around) (q : Holds) (writes : Names) → Deeper a h (plain_form x) r
      → is_open (plain_form x) ≡ true → q ≡ entered (holds_of h) writes
      → either (names_of h.sure) writes ≡ put (names_of h.sure) (writes_of x)
      → state_of r q within ≡ after (state_of a (holds_of h) bs) x
  deeper_is (Item.Act y) r q w d o e p = no (sym o)
  deeper_is (Item.Pack y) r q w d o e p = no (sym o)
  deeper_is (Item.Open y) r q w d o e p = rw (d.depth, d.sort ∙ head_sort y, d.before, e, p)
  deeper_is (Item.Branch y) r q w d o e p = no (sym o)
  deeper_is (Item.Close y) r q w d o e p = no (sym o)
  deeper_is Item.Break r q w d o e p = no (sym o)
  deeper_is Item.Tag r q w d o e p = no (sym o)

  pub deeper_boxed : (f : Form) (r : Around) → Deeper a h f r → Boxed a bs → Boxed r within
  deeper_boxed f r d b = record {
    count = λ g. rw d.depth (ap suc (b.count (holds_of h)));
    looped = λ g. rw (d.depth, d.looped, d.sort) (ap (λ (q : Bool). is_loop (sort_in f) || q) (b.looped (holds_of h)));
    swept = λ g. rw (d.depth, d.swept, d.sort) (ap (λ (q : Bool). is_sweep (sort_in f) || q) (b.swept (holds_of h)));
    none = λ z. absurd (omega (arith, d.depth));
  }

-- ---- the start

pub no_boxes : (a : Around) → Outside a → Boxed a []
no_boxes a o = record {
  count = λ h. rw o.depth;
  looped = λ h. rw o.depth o.looped;
  swept = λ h. rw o.depth o.swept;
  none = λ z. refl;
}

pub begins : (a : Around) (h : coded.Held) → Outside a → Starts h → state_of a (holds_of h) [] ≡ begin
begins a h o s = rw (o.depth, s.sure, s.packed, s.tagged)
