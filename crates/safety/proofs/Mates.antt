-- The closing mark and the branches of an open box, in a script that the checker accepts.
-- the box b lies over bs in the row
use Prim.Native.Nat.{ℕ, suc, ◌<◌}
use mathlib.Core.Path.{◌≡◌, refl, sym, ap, ◌∙◌}
use mathlib.Core.Bool.{Bool, true, false, not, ◌&&◌, cond}
use mathlib.Core.List.{List, [], ◌∷◌}
use mathlib.Core.Option.{Option, some}
use native.Mathlib.Omega.{arith}
use lib.Dec.{eqb}
use borrow.Author.Tests.{ne_eqb, eq-eqb}
use Rattle.table.specs.declared.Head.{Head}
use Rattle.table.specs.declared.Branch.{Branch}
use Rattle.table.specs.declared.Close.{Close}
use Rattle.table.specs.declared.Item.{Item}
use Rattle.table.specs.declared.Sort.{Sort}
use Rattle.table.specs.declared.Read.{Read}
use Rattle.table.specs.Item.{sort_of, is_else, is_loop, fits}
use Rattle.table.specs.ReadWrite.{condition_reads, Kinds, kind_at, wrong, Names, has, missing, lowest}
use Rattle.mates.specs.declared.Open.{Open}
use Rattle.mates.specs.Mates.{belongs, close_from, close_of, past}
use Rattle.sets.specs.Names.{everything, both}
use Rattle.rules.specs.Check.{is_empty, after_box}
use Rattle.rules.proofs.Placed.{Box, plain, plains}
use Rattle.state.specs.State.{Vars, holds}
use Rattle.steps.specs.Machine.{read_faults, Chosen, into, beyond, choose}
use Rattle.safety.proofs.Laws.{no, no', or_r, Sub, both_l, both_r}
use Rattle.safety.proofs.Walk.{text_kinds, Accepted, state, Reach, more, closes_fits, clean, ends}
use Rattle.safety.proofs.Boxes.{erase, Below}
use Rattle.safety.proofs.Static.{static}

pub data Under (b : Box) (bs : List Box) : List Box → Type 0 where
  here : Under b bs (b ∷ bs)
  there : {c : Box} {l : List Box} → Under b bs l → Under b bs (c ∷ l)

under_some : {b : Box} {bs l : List Box} → Under b bs l → is_empty (plains l) ≡ false
under_some here = refl
under_some (there u) = refl

pub under_below : {b : Box} {bs l : List Box} (n : ℕ) → Under b bs l → Below n l → b.at < n
under_below n here w = w.0
under_below n (there {c = c} u) w = omega (arith, w.0, under_below c.at u w.1)

-- the same box, some branches later
pub record Same (b c : Box) : Type 0 where
  pub at : c.at ≡ b.at
  pub sort : c.sort ≡ b.sort
  pub before : c.before ≡ b.before
  pub meet : Sub c.every_end b.every_end

-- the closing mark of the box b over bs is at j
pub record Closes (items : List Item) (b : Box) (bs : List Box) (found : Option ℕ) : Type 0 where
  pub j : ℕ
  pub su : Names
  pub p : Bool
  pub tg : Bool
  pub k : Kinds
  pub e : Close
  pub ys : List Item
  pub c : Box
  pub reach : Reach items j (state su (c ∷ bs) p tg) k (Item.Close e ∷ ys)
  pub same : Same b c
  pub is : found ≡ some j

-- where the run goes on past the closing mark of the box b over bs
pub record Past (items : List Item) (b : Box) (bs : List Box) (i : ℕ) : Type 0 where
  pub su : Names
  pub tg : Bool
  pub k : Kinds
  pub ys : List Item
  pub reach : Reach items i (state su bs false tg) k ys
  pub loops : is_loop b.sort ≡ true → Sub su b.before
  pub meets : is_loop b.sort ≡ false → Sub su b.every_end

-- ---- what holds past a closing mark

-- after a loop, what held before it
pub left_loop : (o : Sort) (c : Box) (su : Names) → is_loop o ≡ true → Sub (after_box o (plain c) su) c.before
left_loop Sort.If c su e = no' e
left_loop Sort.Loop c su e = λ n h. h
left_loop Sort.Sweep c su e = λ n h. h

-- after endif, what holds at the end of the branches before the last
left_meet : (o : Sort) (c : Box) (su : Names) → is_loop o ≡ false → Sub (after_box o (plain c) su) c.every_end
left_meet Sort.If c su e n h =
    both_l c.every_end su n (both_l (both c.every_end su) (cond c.else_seen everything c.before) n h)
left_meet Sort.Loop c su e n h = no e
left_meet Sort.Sweep c su e n h = no e

-- of the last
pub left_sure : (o : Sort) (c : Box) (su : Names) → is_loop o ≡ false → Sub (after_box o (plain c) su) su
left_sure Sort.If c su e n h =
    both_r c.every_end su n (both_l (both c.every_end su) (cond c.else_seen everything c.before) n h)
left_sure Sort.Loop c su e n h = no e
left_sure Sort.Sweep c su e n h = no e

-- and, with no else, what held before the if
left_before : (o : Sort) (c : Box) (su : Names) → is_loop o ≡ false → c.else_seen ≡ false
    → Sub (after_box o (plain c) su) c.before
left_before Sort.If c su e f n h =
    rw f at (both_r (both c.every_end su) (cond c.else_seen everything c.before) n h)
left_before Sort.Loop c su e f n h = no e
left_before Sort.Sweep c su e f n h = no e

-- a false condition leads into a branch of the box over bs, or past its endif
pub data Picks (items : List Item) (at : ℕ) (before : Names) (bs : List Box) : Chosen → Type 0 where
  goes : {i : ℕ} {c : Box} {tg : Bool} {k : Kinds} {ys : List Item}
      → Reach items i (state before (c ∷ bs) false tg) k ys → c.at ≡ at → c.before ≡ before
      → Picks items at before bs (into i)
  passes : {i : ℕ} {su : Names} {tg : Bool} {k : Kinds} {ys : List Item}
      → Reach items i (state su bs false tg) k ys → Sub su before → Picks items at before bs (beyond i)

pub no_mark_lem : (x : Item) → ((o : Sort) → fits x o ≡ false) → (p : ℕ) (st : List Open) → belongs p x st ≡ false
no_mark_lem x f p [] = refl
no_mark_lem x f p (o ∷ st) = rw (f o.sort)

-- the box over bs after a branch mark
abbrev pub branched_box : Branch → Box → Names → Box
branched_box x b su =
    record { at = b.at; sort = b.sort; before = b.before; every_end = both b.every_end su; else_seen = is_else x }

abbrev pub box_of : ℕ → Head → Names → Box
box_of i h su = record { at = i; sort = sort_of h; before = su; every_end = everything; else_seen = false }

module _ {names size : ℕ} {items : List Item} (ok : Accepted names size items) where
  pub find_close : (xs : List Item) {i : ℕ} {su : Names} {l : List Box} {p tg : Bool} {k : Kinds} {b : Box}
      {bs : List Box}
      → Reach items i (state su l p tg) k xs → Under b bs l → Closes items b bs (close_from b.at i (erase l) xs)
  find_close [] r u = no (sym (ends ok r).0 ∙ under_some u)
  find_close (Item.Act a ∷ xs) r u = find_close xs (more r) u
  find_close (Item.Pack q ∷ xs) r u = find_close xs (more r) u
  find_close (Item.Open h ∷ xs) r u = find_close xs (more r) (there u)
  find_close (Item.Branch x ∷ xs) {su = su} {b = b} r here =
      let f = find_close xs {b = branched_box x b su} (more r) here in
      record {
        j = f.j;
        su = f.su;
        p = f.p;
        tg = f.tg;
        k = f.k;
        e = f.e;
        ys = f.ys;
        c = f.c;
        reach = f.reach;
        same =
            record {
              at = f.same.at;
              sort = f.same.sort;
              before = f.same.before;
              meet = λ n h. both_l b.every_end su n (f.same.meet n h);
            };
        is = f.is;
      }
  find_close (Item.Branch x ∷ xs) r (there u) = find_close xs (more r) (there u)
  find_close (Item.Close x ∷ xs) {i} {su} {l} {p} {tg} {k} {b} {bs} r here = record {
    j = i;
    su = su;
    p = p;
    tg = tg;
    k = k;
    e = x;
    ys = xs;
    c = b;
    reach = r;
    same = record { at = refl; sort = refl; before = refl; meet = λ n h. h };
    is = rw (closes_fits x b bs (clean ok r).placed, eq-eqb b.at b.at refl);
  }
  find_close (Item.Close x ∷ xs) {i} {b = b} r (there {c = c} {l = d} u) =
      let lower : b.at < c.at = under_below c.at u (static ok r).below.1 in
      let q : close_from b.at i (erase (c ∷ d)) (Item.Close x ∷ xs) ≡ close_from b.at (suc i) (erase d) xs =
      rw (closes_fits x c d (clean ok r).placed, ne_eqb c.at b.at (λ e. omega arith)) in
      rw q (find_close xs (more r) u)
  find_close (Item.Break ∷ xs) r u = find_close xs (more r) u
  find_close (Item.Tag ∷ xs) {l = l} {tg = tg} r u =
      no (ap not (sym (under_some u)) ∙ or_r tg (not (is_empty (plains l))) (clean ok r).tagged)

  pub past_close : {b : Box} {bs : List Box} {found : Option ℕ} → Closes items b bs found → Past items b bs (past found)
  past_close {b} {bs} f =
      let r : Reach items f.j (state f.su (f.c ∷ bs) false f.tg) f.k (Item.Close f.e ∷ f.ys) =
      rw (clean ok f.reach).packed at f.reach in
      rw f.is (record {
        su = after_box f.c.sort (plain f.c) f.su;
        tg = f.tg;
        k = f.k;
        ys = f.ys;
        reach = more r;
        loops = λ h n q. rw f.same.before at (left_loop f.c.sort f.c f.su (rw f.same.sort h) n q);
        meets = λ h n q. f.same.meet n (left_meet f.c.sort f.c f.su (rw f.same.sort h) n q);
      })

  pub close_head : {i : ℕ} {su : Names} {l : List Box} {p tg : Bool} {k : Kinds} {h : Head} {ys : List Item}
      → Reach items i (state su l p tg) k (Item.Open h ∷ ys) → Closes items (box_of i h su) l (close_of items i)
  close_head {ys = ys} r =
      let s = static ok r in
      rw (s.scanned, s.text) (find_close ys (more r) here)

  -- reads that the checker lets through, with su surely written, have no fault
  abbrev pub Readable : Names → Vars → Type 0
  Readable su vs = (ws : List Read) → missing (has su) ws ≡ false → wrong (kind_at (text_kinds items)) ws ≡ false
      → lowest (read_faults vs ws) ≡ 0

  -- a mark belongs to no box below the innermost
  other_box : (x : Item) {i : ℕ} {su : Names} {c : Box} {l : List Box} {p tg : Bool} {k : Kinds} {b : Box}
      {bs : List Box} {xs : List Item}
      → Reach items i (state su (c ∷ l) p tg) k xs → Under b bs l → belongs b.at x (erase (c ∷ l)) ≡ false
  other_box x {c = c} {b = b} r u = go (fits x c.sort)
    where
      lower : b.at < c.at
      lower = under_below c.at u (static ok r).below.1

      go : (f : Bool) → (f && eqb c.at b.at) ≡ false
      go true = ne_eqb c.at b.at (λ q. omega (arith, lower))
      go false = refl

  module _ (vs : Vars) where
    pub choose_good : (xs : List Item) {i : ℕ} {su : Names} {l : List Box} {p tg : Bool} {k : Kinds} {b : Box}
        {bs : List Box}
        → Reach items i (state su l p tg) k xs → Under b bs l → b.else_seen ≡ false → is_loop b.sort ≡ false
        → Readable b.before vs
        → Picks items b.at b.before bs (choose vs b.at i (erase l) xs)
    choose_good [] r u e f g = no (sym (ends ok r).0 ∙ under_some u)
    choose_good (Item.Act a ∷ xs) {l = l} {b = b} r u e f g =
        rw (no_mark_lem (Item.Act a) (λ o. refl) b.at (erase l)) (choose_good xs (more r) u e f g)
    choose_good (Item.Pack q ∷ xs) {l = l} {b = b} r u e f g =
        rw (no_mark_lem (Item.Pack q) (λ o. refl) b.at (erase l)) (choose_good xs (more r) u e f g)
    choose_good (Item.Open h ∷ xs) {l = l} {b = b} r u e f g =
        rw (no_mark_lem (Item.Open h) (λ o. refl) b.at (erase l)) (choose_good xs (more r) (there u) e f g)
    choose_good (Item.Branch (Branch.ElseIf c) ∷ xs) {i} {su} {p = p} {tg = tg} {k = k} {b = b} {bs = bs} r here e f g =
        let r' : Reach items i (state su (b ∷ bs) false tg) k (Item.Branch (Branch.ElseIf c) ∷ xs) =
        rw (clean ok r).packed at r in
        let rest = choose_good xs {b = branched_box (Branch.ElseIf c) b su} (more r') here refl f g in
        rw (f, eq-eqb b.at b.at refl, g (condition_reads c) (rw f at (clean ok r).there) (clean ok r).kinds)
        (elim (holds vs c)
        as (λ h. Picks items b.at b.before bs (cond h (into (suc i)) (choose vs b.at (suc i) (erase (b ∷ bs)) xs)))
        [ true ↦ goes (more r') refl refl | false ↦ rest ])
    choose_good (Item.Branch Branch.Else ∷ xs) {i} {su} {p = p} {tg = tg} {k = k} {b = b} {bs = bs} r here e f g =
        let r' : Reach items i (state su (b ∷ bs) false tg) k (Item.Branch Branch.Else ∷ xs) =
        rw (clean ok r).packed at r in
        rw (f, eq-eqb b.at b.at refl) (goes (more r') refl refl)
    choose_good (Item.Branch x ∷ xs) r (there u) e f g =
        rw (other_box (Item.Branch x) r u) (choose_good xs (more r) (there u) e f g)
    choose_good (Item.Close x ∷ xs) {i} {su} {p = p} {tg = tg} {k = k} {b = b} {bs = bs} r here e f g =
        let r' : Reach items i (state su (b ∷ bs) false tg) k (Item.Close x ∷ xs) = rw (clean ok r).packed at r in
        rw (closes_fits x b bs (clean ok r).placed, eq-eqb b.at b.at refl)
        (passes (more r') (left_before b.sort b su f e))
    choose_good (Item.Close x ∷ xs) r (there {c = c} {l = d} u) e f g =
        rw (other_box (Item.Close x) r u, closes_fits x c d (clean ok r).placed) (choose_good xs (more r) u e f g)
    choose_good (Item.Break ∷ xs) {l = l} {b = b} r u e f g =
        rw (no_mark_lem Item.Break (λ o. refl) b.at (erase l)) (choose_good xs (more r) u e f g)
    choose_good (Item.Tag ∷ xs) {l = l} {tg = tg} r u e f g =
        no (ap not (sym (under_some u)) ∙ or_r tg (not (is_empty (plains l))) (clean ok r).tagged)
