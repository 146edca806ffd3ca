-- The names of a run: written where the checker was sure of it, each of its kind in the text, and finite.
use Rattle.std.proofs.Common.{Option, Some, None}
use Prim.Native.Nat.{ℕ, suc, ◌<◌}
use mathlib.Core.Path.{◌≡◌, refl, sym, ap, ◌∙◌}
use mathlib.Core.Logic.{inl, inr}
use mathlib.Core.Bool.{true, false}
use mathlib.Core.List.{List, [], ◌∷◌}
use native.Mathlib.Omega.{arith}
use lib.ListN.{length, set, replicate, length-set}
use lib.Seq.{get_or-set_same}
use borrow.Author.Tests.{not-false}
use Rattle.table.specs.declared.Operand.{Operand}
use Rattle.table.specs.declared.Kind.{Kind}
use Rattle.table.specs.declared.Read.{Read}
use Rattle.table.specs.ReadWrite.{kind_of, alike_kind, differ, Kinds, kind_at, kind_in, wrong, Names, has, gone}
use Rattle.table.specs.ReadWrite.{missing}
use Rattle.rules.specs.Check.{is_known}
use Rattle.rules.proofs.Placed.{Box}
use Rattle.state.specs.State.{Cell}
use Rattle.state.specs.State.{Vars, cell_at, is_written, cell_kind, cell_value, written, kind_now, cell_ok, cells_ok}
use Rattle.safety.proofs.Laws.{no', or_l, or_r, or_f, AfterSet, get_d_set, get_or-rep}
use Rattle.safety.proofs.Sure.{Within}

-- the names of the set are written
abbrev pub Covers : Names → Vars → Type 0
Covers su vs = (n : ℕ) → has su n ≡ true → written vs n ≡ true

-- and what held before each open box
abbrev pub AllCover : List Box → Vars → Type 0
AllCover [] vs = Unit {0}
AllCover (b ∷ bs) vs = Covers b.before vs × AllCover bs vs

-- every written name has its own kind, and its float is finite
pub record VarsOk (k : Kinds) (vs : Vars) : Type 0 where
  pub len : length vs ≡ 32
  pub agree : (n : ℕ) → differ (kind_at k n) (kind_now vs n) ≡ false
  pub fine : (n : ℕ) → cell_ok (cell_at vs n) ≡ true

pub fresh_vars : (k : Kinds) → VarsOk k (replicate 32 None)
fresh_vars k = record { len = refl; agree = agrees; fine = fines }
  where
    none_differs : (j : Option Kind) → differ j None ≡ false
    none_differs None = refl
    none_differs (Some j) = refl

    agrees : (n : ℕ) → differ (kind_at k n) (kind_now (replicate 32 None) n) ≡ false
    agrees n = rw (get_or-rep {A = Cell} 32 n None) (none_differs (kind_at k n))

    fines : (n : ℕ) → cell_ok (cell_at (replicate 32 None) n) ≡ true
    fines n = rw (get_or-rep {A = Cell} 32 n None)

pub cells_ok_lem : (vs : Vars) → ((n : ℕ) → cell_ok (cell_at vs n) ≡ true) → cells_ok vs ≡ true
cells_ok_lem [] f = refl
cells_ok_lem (v ∷ vs) f = rw (f 0) (cells_ok_lem vs (λ n. f (suc n)))

-- ---- writing a name

module _ (vs : Vars) (v : ℕ) (w : Cell) where
  pub set-vars : {k : Kinds} → VarsOk k vs → cell_ok w ≡ true → differ (kind_at k v) (cell_kind w) ≡ false
      → VarsOk k (set vs v w)
  set-vars {k} o f d = record {
    len = length-set vs v w ∙ o.len;
    agree = λ n. agrees n (get_d_set vs v w n None);
    fine = λ n. fines n (get_d_set vs v w n None);
  }
    where
      agrees : (n : ℕ) → AfterSet vs v w n None → differ (kind_at k n) (kind_now (set vs v w) n) ≡ false
      agrees n (inl q) = rw (q.1, q.0) d
      agrees n (inr q) = rw q (o.agree n)

      fines : (n : ℕ) → AfterSet vs v w n None → cell_ok (cell_at (set vs v w) n) ≡ true
      fines n (inl q) = rw q.1 f
      fines n (inr q) = rw q (o.fine n)

  pub written_up : (n : ℕ) → is_written w ≡ true → written vs n ≡ true → written (set vs v w) n ≡ true
  written_up n e h = go (get_d_set vs v w n None)
    where
      go : AfterSet vs v w n None → written (set vs v w) n ≡ true
      go (inl q) = rw q.1 e
      go (inr q) = rw q h

  pub all_cover_up : (l : List Box) → is_written w ≡ true → AllCover l vs → AllCover l (set vs v w)
  all_cover_up [] e h = tt
  all_cover_up (b ∷ bs) e h = (λ n q. written_up n e (h.0 n q), all_cover_up bs e h.1)

  pub cover-set : (su : Names) → length vs ≡ 32 → v < 32 → is_written w ≡ true → Covers su vs
      → Covers (set su v true) (set vs v w)
  cover-set su l u e c n h = go (get_d_set su v true n false)
    where
      go : AfterSet su v true n false → written (set vs v w) n ≡ true
      go (inl q) = rw (q.0, get_or-set_same vs v w None (omega arith)) e
      go (inr q) = written_up n e (c n (sym q ∙ h))

-- ---- reading a name: what the checker knows of it is so

alike_eq : (j k : Kind) → alike_kind j k ≡ true → j ≡ k
alike_eq Kind.Whole Kind.Whole h = refl
alike_eq Kind.Whole Kind.Real h = no' h
alike_eq Kind.Real Kind.Whole h = no' h
alike_eq Kind.Real Kind.Real h = refl

same_kind : (a b : Option Kind) → is_known a ≡ true → is_known b ≡ true → differ a b ≡ false → b ≡ a
same_kind None b p q h = no' p
same_kind (Some j) None p q h = no' q
same_kind (Some j) (Some k) p q h = ap Some (sym (alike_eq j k (not-false (alike_kind j k) h)))

known_cell : (w : Cell) → is_written w ≡ true → is_known (cell_kind w) ≡ true
known_cell None h = h
known_cell (Some (v, t)) h = refl

pub cell_kind_lem : (w : Cell) → is_written w ≡ true → cell_kind w ≡ Some (kind_of (cell_value w))
cell_kind_lem None h = no' h
cell_kind_lem (Some (v, t)) h = refl

-- what the checker knows of the names holds of the run: those of su are written and have a kind
pub record Knows (k : Kinds) (su : Names) (vs : Vars) : Type 0 where
  pub cover : Covers su vs
  pub kinds : Within su k
  pub vars : VarsOk k vs

module _ {k : Kinds} {su : Names} {vs : Vars} (a : Knows k su vs) where
  pub kind_now_lem : (n : ℕ) → has su n ≡ true → kind_now vs n ≡ kind_at k n
  kind_now_lem n h =
      same_kind (kind_at k n) (kind_now vs n) (a.kinds n h) (known_cell (cell_at vs n) (a.cover n h)) (a.vars.agree n)

  here_now : (x : Operand) → gone (has su) x ≡ false → gone (written vs) x ≡ false
  here_now (Operand.Name n) h = rw (a.cover n (not-false (has su n) h))
  here_now (Operand.Literal l) h = refl

  kind_in_lem : (x : Operand) → gone (has su) x ≡ false → kind_in (kind_now vs) x ≡ kind_in (kind_at k) x
  kind_in_lem (Operand.Name n) h = kind_now_lem n (not-false (has su n) h)
  kind_in_lem (Operand.Literal l) h = refl

  -- no name is missing that the checker was sure of
  pub there_now : (ws : List Read) → missing (has su) ws ≡ false → missing (written vs) ws ≡ false
  there_now [] h = refl
  there_now (Read.Any x ∷ ws) h = or_f (there_now ws (or_l _ _ h)) (here_now x (or_r (missing (has su) ws) _ h))
  there_now (Read.Alike x y ∷ ws) h =
      let b = or_r (missing (has su) ws) _ h in
      or_f (there_now ws (or_l _ _ h)) (or_f (here_now x (or_l _ _ b)) (here_now y (or_r (gone (has su) x) _ b)))
  there_now (Read.Float x ∷ ws) h = or_f (there_now ws (or_l _ _ h)) (here_now x (or_r (missing (has su) ws) _ h))

  -- and the kinds that meet are those of the text
  pub wrong_now : (ws : List Read) → missing (has su) ws ≡ false → wrong (kind_now vs) ws ≡ wrong (kind_at k) ws
  wrong_now [] h = refl
  wrong_now (Read.Any x ∷ ws) h = wrong_now ws (or_l _ _ h)
  wrong_now (Read.Alike x y ∷ ws) h =
      let b = or_r (missing (has su) ws) _ h in
      rw (wrong_now ws (or_l _ _ h), kind_in_lem x (or_l _ _ b), kind_in_lem y (or_r (gone (has su) x) _ b))
  wrong_now (Read.Float x ∷ ws) h = rw (wrong_now ws (or_l _ _ h), kind_in_lem x (or_r (missing (has su) ws) _ h))
