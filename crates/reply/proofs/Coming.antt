-- What holds at each turn of the second pass over a memory: what is still to come of it is the whole. Assumes nothing.
use mathlib.Core.List.{List}
use mathlib.Core.Path.{◌≡◌, refl, sym, ◌∙◌, ap}
use native.Mathlib.Omega.{arith}
use Prim.Native.Nat.{ℕ, zero, suc, ◌+◌, ◌-◌, ◌<◌, ◌≤◌}
use Rattle.reply.specs.declared.Row.{Row}
use Rattle.reply.specs.declared.Stand.{Stand}
use Rattle.reply.specs.declared.Turn.{Turn}
use Rattle.reply.specs.Code.{begun_at, place_in, turned, Memory, turn_in, memory_after, pass_from, whole}
use Rattle.reply.proofs.Pass.{one_turn, no_turn}
use Rattle.reply.proofs.Turns.{ahead}
use Rattle.reply.proofs.Whole.{Starts}

-- the stand st and the memory x, of a pass over so many bytes that began with the memory lent
pub record Come {X : Type 0} (m : Memory X) (s : List ℕ) (n used : ℕ) (lent : X) (st : Stand) (x : X) : Type 0 where
  pub fuel : ℕ
  pub enough : st.end ≤ st.pos + fuel
  pub left : pass_from m fuel s n st x ≡ whole m s n used lent
  pub ready : Starts n st

pub come_first : {X : Type 0} (m : Memory X) (s : List ℕ) (n used : ℕ) (lent : X) → Starts n (begun_at s used)
    → Come m s n used lent (begun_at s used) lent
come_first m s n used lent ready = record { fuel = used; enough = omega arith; left = refl; ready = ready }

-- ---- a turn

module _ {X : Type 0} {m : Memory X} {s : List ℕ} {n used : ℕ} {lent : X} {st : Stand} {x : X}
    (c : Come m s n used lent st x) (h : st.pos < st.end) where
  -- fewer bytes are left
  pub come_less : (old : Row) → (turned s st old).next.end - (turned s st old).next.pos < st.end - st.pos
  unfolding turned
  come_less old = omega (arith, c.ready.on h)

  ready_on : Starts n (turn_in m s n st x).next
  unfolding turned
  ready_on = record { some = λ g. c.ready.some h; on = λ g. ahead s st.end st.next g }

  enough_on : (f : ℕ) → st.end ≤ st.pos + suc f
      → (turn_in m s n st x).next.end ≤ (turn_in m s n st x).next.pos + f
  unfolding turned
  enough_on f e = omega (arith, c.ready.on h)

  pub come_on : Come m s n used lent (turn_in m s n st x).next (memory_after m s n st x)
  come_on = by_fuel c.fuel c.enough c.left
    where
      none : st.end ≤ st.pos + 0 → ⊥
      none e = omega arith

      by_fuel : (f : ℕ) → st.end ≤ st.pos + f → pass_from m f s n st x ≡ whole m s n used lent
          → Come m s n used lent (turn_in m s n st x).next (memory_after m s n st x)
      by_fuel zero e l = absurd (none e)
      by_fuel (suc f) e l =
          record {
            fuel = f;
            enough = enough_on f e;
            left = sym (one_turn m s n f st x h) ∙ l;
            ready = ready_on;
          }

-- a turn as the code makes it: the place, the row there, what becomes of it, and the memory then
pub record Taken {X : Type 0} (m : Memory X) (s : List ℕ) (n : ℕ) (st : Stand) (x : X) (at : ℕ) (old : Row) (t : Turn)
    (y : X) : Type 0 where
  pub place : at ≡ place_in st n
  pub row : old ≡ m.get x at
  pub turn : t ≡ turned s st old
  pub memory : y ≡ m.put x at t.row

module _ {X : Type 0} {m : Memory X} {s : List ℕ} {n : ℕ} {st : Stand} {x : X} {at : ℕ} {old : Row} {t : Turn} {y : X}
    (k : Taken m s n st x at old t y) where
  taken_turn : t ≡ turn_in m s n st x
  taken_turn = k.turn ∙ ap (turned s st) (k.row ∙ ap (m.get x) k.place)

  taken_memory : y ≡ memory_after m s n st x
  taken_memory = k.memory ∙ (λ i. m.put x (k.place i) (taken_turn i).row)

  pub take_on : {used : ℕ} {lent : X} → Come m s n used lent st x → st.pos < st.end → Come m s n used lent t.next y
  take_on c h = rw (taken_turn, taken_memory) (come_on c h)

  pub take_less : {used : ℕ} {lent : X} → Come m s n used lent st x → st.pos < st.end
      → t.next.end - t.next.pos < st.end - st.pos
  take_less c h = rw k.turn (come_less c h old)

-- ---- at the end

module _ {X : Type 0} {m : Memory X} {s : List ℕ} {n used : ℕ} {lent : X} {st : Stand} {x : X}
    (c : Come m s n used lent st x) where
  pub come_end : st.end ≤ st.pos → x ≡ whole m s n used lent
  come_end h = sym (no_turn m s n c.fuel st x h) ∙ c.left
