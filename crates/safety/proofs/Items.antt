-- Each item of an accepted script, run where the checker's walk stood, leaves the run where the walk stands after it.
use Rattle.std.proofs.Common.{Some, Result, Ok, Err}
use Rattle.value.specs.declared.Stop.{Stop}
use Prim.Native.Nat.{ℕ, suc, ◌<◌}
use mathlib.Core.Path.{◌≡◌, refl, ◌∙◌}
use mathlib.Core.Logic.{inl, inr}
use mathlib.Core.Bool.{Bool, true, false, not, ◌&&◌, ◌||◌, cond}
use mathlib.Core.List.{List, [], ◌∷◌}
use lib.Ieee.{Float}
use lib.Dec.{ltb}
use lib.ListN.{set}
use borrow.Author.Tests.{not-false, not-true}
use Rattle.value.specs.declared.Value.{Value}
use Rattle.value.specs.Arithmetic.{finite, checked, calculated}
use Rattle.table.specs.declared.Operand.TheVariants as Operand
use Rattle.table.specs.declared.Condition.{Condition}
use Rattle.table.specs.declared.Sweep.{Sweep}
use Rattle.table.specs.declared.Act.{Act}
use Rattle.table.specs.declared.Pack.{Pack}
use Rattle.table.specs.declared.Head.{Head}
use Rattle.table.specs.declared.Branch.{Branch}
use Rattle.table.specs.declared.Close.{Close}
use Rattle.table.specs.declared.Item.{Item}
use Rattle.state.specs.declared.LoopSort.{LoopSort}
use Rattle.table.specs.declared.Kind.TheVariants as Kind
use Rattle.table.specs.declared.Write.TheVariants as Write
use Rattle.table.specs.Item.{sort_of, is_loop, is_sweep, opens_a}
use Rattle.table.specs.ReadWrite.{act_writes, head_writes, kind_of, differ, Kinds, kind_at, wrong_write, Names, has}
use Rattle.table.specs.ReadWrite.{gone}
use Rattle.table.specs.Shape.{writes_ok}
use Rattle.mates.specs.Mates.{item_at}
use Rattle.rules.proofs.Placed.{Box}
use Rattle.sets.specs.Names.{put}
use Rattle.state.specs.State.{Cell}
use Rattle.state.specs.declared.Offer.{Offer}
use Rattle.state.specs.State.{Vars, cell_at, is_written, cell_kind, cell_value, cell_type, value_of, holds, da, ba, eb}
use Rattle.state.specs.State.{code0028, code0010, State, leaves, Answer, running, waiting, finished, stopped, fault}
use Rattle.state.specs.State.{refuse, Step, goto, keep, unskip, said, stops_by, reading, cell_ok}
use Rattle.steps.specs.Machine.{unwind, outside, next, kept, run_act, run_pack, Chosen, otherwise, chosen, enter, leave}
use Rattle.steps.specs.Machine.{run_point, run_head, run_branch, run_close, run_break, run}
use Rattle.safety.specs.Safety.{is_code}
use Rattle.safety.proofs.Laws.{no, or_l, or_r, and_l, and_r, both_r, not_nothing}
use Rattle.safety.proofs.Walk.{text_kinds, Accepted, more, closes_fits, branch_fits, clean, item_ok_lem, writes_ok_lem}
use Rattle.safety.proofs.Walk.{like_below, float_below}
use Rattle.safety.proofs.Boxes.{erase, Headed}
use Rattle.safety.proofs.Static.{static}
use Rattle.safety.proofs.Mates.{Under, here, there, left_sure, left_loop, Picks, goes, passes, find_close}
use Rattle.safety.proofs.Mates.{past_close, branched_box, close_head}
use Rattle.safety.proofs.Names.{Covers, AllCover, VarsOk, set-vars, written_up, all_cover_up, cover-set}
use Rattle.safety.proofs.Names.{cell_kind_lem, kind_now_lem}
use Rattle.safety.proofs.Stands.{positions, Here, Good, shape_of, land, not_again, outside_is, knows}
use Rattle.safety.proofs.NoFault.{innermost_loop, mates_good}
use Rattle.safety.proofs.Results.{checked_got, result_got}

cover_under : {b : Box} {bs l : List Box} (vs : Vars) → Under b bs l → AllCover l vs
    → Covers b.before vs × AllCover bs vs
cover_under vs here h = h
cover_under vs (there u) h = cover_under vs u h.1

module _ {names size : ℕ} {items : List Item} (ok : Accepted names size items) where
  -- what running an item can answer, and what it leaves
  abbrev pub Fine : Answer → State → Type 0
  Fine running m = Good ok m
  Fine waiting m = ⊥
  Fine finished m = Good ok m
  Fine (stopped c) m = (is_code c ≡ true) × Good ok m
  Fine (fault n) m = ⊥
  Fine (refuse n k) m = ⊥

  abbrev pub FineStep : Step → Type 0
  FineStep s = Fine s.answer s.next

  module _ {m : State} {su : Names} {l : List Box} {p tg : Bool} {k : Kinds} where
    stops : {xs : List Item} → Here ok m su l p tg k xs → (c : ℕ) → is_code c ≡ true → FineStep (stops_by c m)
    stops h c e = (e, record { shape = shape_of ok h; life = e })

    -- ---- items that open no box

    module _ (a : Act) {xs : List Item} (h : Here ok m su l p tg k (Item.Act a ∷ xs)) where
      wrote : (v : ℕ) (w : Cell) → put su (act_writes a) ≡ set su v true → v < 32
          → is_written w ≡ true → cell_ok w ≡ true → differ (kind_at (text_kinds items) v) (cell_kind w) ≡ false
          → Good ok (next (keep m (set m.vars v w)))
      wrote v w q u e f d =
          land ok (more h.reach) (inl (not_again ok h refl)) h.packed
          (rw q (cover-set m.vars v w su h.vars.len u e h.cover))
          (all_cover_up m.vars v w l e h.covers) (set-vars m.vars v w h.vars f d) h.living

      kept_fine : (v c : ℕ) (g : Result Value Stop) → put su (act_writes a) ≡ set su v true → v < 32
          → ((u : Value) → g ≡ Ok u
          → (finite u ≡ true) × (differ (kind_at (text_kinds items) v) (Some (kind_of u)) ≡ false))
          → FineStep (kept m v c g)
      kept_fine v c (Ok u) q b f = wrote v (Some (u, c)) q b refl (f u refl).0 (f u refl).1
      kept_fine v c (Err Stop.ByZero) q b f = stops h code0028 refl
      kept_fine v c (Err Stop.NotFinite) q b f = stops h code0010 refl

      float_fine : (v c : ℕ) (x : Float) → put su (act_writes a) ≡ set su v true → v < 32
          → differ (kind_at (text_kinds items) v) (Some Kind.Real) ≡ false → FineStep (kept m v c (checked x))
      float_fine v c x q b d = kept_fine v c (checked x) q b (λ u e. let r = checked_got x u e in (r.0, rw r.1 d))

      stays : put su (act_writes a) ≡ su → Good ok (next m)
      stays q =
          land ok (more h.reach) (inl (not_again ok h refl)) h.packed (rw q h.cover) h.covers h.vars
          h.living

      written_ok : writes_ok names (act_writes a) ≡ true
      written_ok = writes_ok_lem ok (Item.Act a) (item_ok_lem ok h.reach)

    act_fine : (a : Act) {xs : List Item} (o : Offer) → Here ok m su l p tg k (Item.Act a ∷ xs)
        → FineStep (run_act m a o)
    act_fine (Act.Var v) o h = stays (Act.Var v) h refl
    act_fine (Act.Store v x c) o h =
        let g = written_ok (Act.Store v x c) h in
        wrote (Act.Store v x c) h v (Some (x, c)) refl (like_below ok v (Operand.Literal x) g) refl
        (and_r (ltb v names) (finite x) g)
        (clean ok h.reach).gifts
    act_fine (Act.Copy a b) o h =
        let s : has su a ≡ true = not-false (has su a) (clean ok h.reach).there in
        wrote (Act.Copy a b) h b (cell_at m.vars a) refl
        (like_below ok b (Operand.Name a) (written_ok (Act.Copy a b) h))
        (h.cover a s) (h.vars.fine a)
        (rw (kind_now_lem (knows ok h) a s) (clean ok h.reach).gifts)
    act_fine (Act.Calc f v x) o h =
        let s : has su v ≡ true =
        not-false (has su v) (or_l (not (has su v)) (gone (has su) x) (clean ok h.reach).there) in
        kept_fine (Act.Calc f v x) h v (cell_type (cell_at m.vars v))
        (calculated f (cell_value (cell_at m.vars v)) (value_of m.vars x)) refl
        (like_below ok v (Operand.Name v) (written_ok (Act.Calc f v x) h))
        (λ u e. let r = result_got f (cell_value (cell_at m.vars v)) (value_of m.vars x) u e in
        (r.0, rw (r.1, ← (cell_kind_lem (cell_at m.vars v) (h.cover v s))) (h.vars.agree v)))
    act_fine (Act.Meas f v c) o h =
        float_fine (Act.Meas f v c) h v c (reading o) refl (float_below ok v [] (written_ok (Act.Meas f v c) h))
        (clean ok h.reach).gifts
    act_fine (Act.TimerGet v) o h =
        float_fine (Act.TimerGet v) h v eb (reading o) refl (float_below ok v [] (written_ok (Act.TimerGet v) h))
        (clean ok h.reach).gifts
    act_fine (Act.SendString s) o h = stays (Act.SendString s) h refl
    act_fine (Act.Wait f) o h = stays (Act.Wait f) h refl
    act_fine (Act.SetE f) o h = stays (Act.SetE f) h refl
    act_fine (Act.SetMode n) o h = stays (Act.SetMode n) h refl
    act_fine Act.TimerStart o h = stays Act.TimerStart h refl
    act_fine Act.CellOn o h = stays Act.CellOn h refl
    act_fine Act.CellOff o h = stays Act.CellOff h refl
    act_fine Act.Abort o h =
        land ok (more h.reach) (inl (not_again ok h refl)) h.packed h.cover h.covers h.vars h.living

    pack_fine : (q : Pack) {xs : List Item} → Here ok m su l p tg k (Item.Pack q ∷ xs) → FineStep (run_pack m q)
    pack_fine Pack.Start h =
        land ok (more h.reach) (inl (not_again ok h refl)) refl h.cover h.covers h.vars h.living
    pack_fine Pack.End h =
        land ok (more h.reach) (inl (not_again ok h refl)) refl h.cover h.covers h.vars h.living
    pack_fine (Pack.Add v) h =
        land ok (more h.reach) (inl (not_again ok h refl)) h.packed h.cover h.covers h.vars h.living

    pub tag_fine : {xs : List Item} → Here ok m su l p tg k (Item.Tag ∷ xs) → Good ok (next m)
    tag_fine h =
        land ok (more h.reach) (inl (not_again ok h refl)) h.packed (λ n e. not_nothing n e) h.covers
        h.vars h.living

    -- ---- opening marks

    -- a box is entered, with the names vs
    entered_fine : (d : Head) {xs : List Item} → Here ok m su l p tg k (Item.Open d ∷ xs) → (vs : Vars)
        → VarsOk (text_kinds items) vs → Covers (put su (head_writes d)) vs → Covers su vs → AllCover l vs
        → (ps : List ℕ) → ps ≡ positions l → Good ok (goto (keep m vs) (suc m.at) (m.at ∷ ps))
    entered_fine d h vs v c e a ps q = land ok (more h.reach) (inl (rw q)) h.packed c (e, a) v h.living

    leave_fine : (d : Head) {xs : List Item} (o : LoopSort) → Here ok m su l p tg k (Item.Open d ∷ xs)
        → is_loop (sort_of d) ≡ true → FineStep (leave items o m)
    leave_fine d o h q =
        let f = past_close ok (close_head ok h.reach) in
        land ok f.reach (inl (outside_is ok h)) (h.packed ∙ (clean ok h.reach).packed)
        (λ n e. h.cover n (f.loops q n e)) h.covers h.vars h.living

    picks_fine : {c : Condition} {xs : List Item} → Here ok m su l p tg k (Item.Open (Head.If c) ∷ xs) → {d : Chosen}
        → Picks items m.at su l d → FineStep (chosen m d)
    picks_fine h (goes r e f) =
        land ok r (inl (rw (e, not_again ok h refl))) (h.packed ∙ (clean ok h.reach).packed) h.cover
        (rw f h.cover, h.covers) h.vars h.living
    picks_fine h (passes r e) =
        land ok r (inl (not_again ok h refl)) (h.packed ∙ (clean ok h.reach).packed) (λ n q. h.cover n (e n q))
        h.covers h.vars h.living

    if_fine : (c : Condition) {xs : List Item} (o : Offer) → Here ok m su l p tg k (Item.Open (Head.If c) ∷ xs)
        → FineStep (run_head items m (Head.If c) o)
    if_fine c o h = go (holds m.vars c)
      where
        go : (b : Bool)
            → FineStep (cond b (said [] (goto m (suc m.at) (m.at ∷ m.boxes))) (chosen m (otherwise items m)))
        go true =
            entered_fine (Head.If c) h m.vars h.vars h.cover h.cover h.covers m.boxes
            (not_again ok h refl)
        go false = picks_fine h (mates_good ok h)

    loop_fine : (c : Condition) {xs : List Item} (o : Offer) → Here ok m su l p tg k (Item.Open (Head.Loop c) ∷ xs)
        → FineStep (run_head items m (Head.Loop c) o)
    loop_fine c o h = go (holds m.vars c)
      where
        go : (b : Bool) → FineStep (cond b (enter LoopSort.Loop m) (leave items LoopSort.Loop m))
        go true =
            entered_fine (Head.Loop c) h m.vars h.vars h.cover h.cover h.covers
            (outside m.at m.boxes)
            (outside_is ok h)
        go false = leave_fine (Head.Loop c) LoopSort.Loop h refl

    point_fine : (w : Sweep) {xs : List Item} (x y : Float) → Here ok m su l p tg k (Item.Open (Head.Sweep w) ∷ xs)
        → FineStep (run_point m w x y)
    point_fine w x y h = go (finite (Value.Real x)) (finite (Value.Real y)) refl refl
      where
        g : writes_ok names (Write.Float w.potential ∷ Write.Float w.current ∷ []) ≡ true
        g = writes_ok_lem ok (Item.Open (Head.Sweep w)) (item_ok_lem ok h.reach)

        d : wrong_write (kind_at (text_kinds items)) (Write.Float w.potential ∷ Write.Float w.current ∷ []) ≡ false
        d = (clean ok h.reach).gifts

        w₁ : Cell
        w₁ = Some (Value.Real x, da)

        w₂ : Cell
        w₂ = Some (Value.Real y, ba)

        v₁ : Vars
        v₁ = set m.vars w.potential w₁

        v₂ : Vars
        v₂ = set v₁ w.current w₂

        b₁ : w.potential < 32
        b₁ = float_below ok w.potential (Write.Float w.current ∷ []) g

        b₂ : w.current < 32
        b₂ = float_below ok w.current [] (and_l (ltb w.current names) (ltb w.potential names) g)

        d₁ : differ (kind_at (text_kinds items) w.potential) (Some Kind.Real) ≡ false
        d₁ = or_r (differ (kind_at (text_kinds items) w.current) (Some Kind.Real)) _ d

        d₂ : differ (kind_at (text_kinds items) w.current) (Some Kind.Real) ≡ false
        d₂ = or_l _ _ d

        go : (a b : Bool) → finite (Value.Real x) ≡ a → finite (Value.Real y) ≡ b
            → FineStep (cond (a && b) (enter LoopSort.Sweep (keep m v₂)) (stops_by code0010 m))
        go true true e f =
            let s₁ = set-vars m.vars w.potential w₁ h.vars e d₁ in
            entered_fine (Head.Sweep w) h v₂ (set-vars v₁ w.current w₂ s₁ f d₂)
            (cover-set v₁ w.current w₂ (set su w.potential true) s₁.len b₂ refl
            (cover-set m.vars w.potential w₁ su h.vars.len b₁ refl h.cover))
            (λ n q. written_up v₁ w.current w₂ n refl (written_up m.vars w.potential w₁ n refl (h.cover n q)))
            (all_cover_up v₁ w.current w₂ l refl (all_cover_up m.vars w.potential w₁ l refl h.covers))
            (outside m.at m.boxes) (outside_is ok h)
        go true false e f = stops h code0010 refl
        go false b e f = stops h code0010 refl

    head_fine : (d : Head) {xs : List Item} (o : Offer) → Here ok m su l p tg k (Item.Open d ∷ xs)
        → FineStep (run_head items m d o)
    head_fine (Head.If c) o h = if_fine c o h
    head_fine (Head.Loop c) o h = loop_fine c o h
    head_fine (Head.Sweep w) Offer.Nothing h = leave_fine (Head.Sweep w) LoopSort.Sweep h refl
    head_fine (Head.Sweep w) (Offer.Float x) h = leave_fine (Head.Sweep w) LoopSort.Sweep h refl
    head_fine (Head.Sweep w) (Offer.Point q) h = point_fine w q.potential q.current h
    head_fine (Head.Sweep w) Offer.Done h = leave_fine (Head.Sweep w) LoopSort.Sweep h refl

    break_fine : {xs : List Item} → Here ok m su l p tg k (Item.Break ∷ xs)
        → FineStep (run_break items m (unwind items m.boxes))
    break_fine {xs} h =
        let r = innermost_loop ok h in
        let f = past_close ok (find_close ok (Item.Break ∷ xs) h.reach r.under) in
        let v = cover_under m.vars r.under h.covers in
        rw (not_again ok h refl, r.found, r.headed.mate)
        (land ok f.reach (inl refl) (h.packed ∙ (clean ok h.reach).packed)
        (λ n e. v.0 n (f.loops r.loops n e)) v.1 h.vars h.living)

  -- ---- branch and closing marks

  module _ {m : State} {su : Names} {p tg : Bool} {k : Kinds} where
    branch_fine : (c : Branch) (l : List Box) {xs : List Item} → Here ok m su l p tg k (Item.Branch c ∷ xs)
        → FineStep (run_branch items m m.boxes)
    branch_fine c [] h = no (clean ok h.reach).placed
    branch_fine c (b ∷ bs) {xs} h =
        let f = past_close ok (find_close ok xs {b = branched_box c b su} (more h.reach) here) in
        rw (not_again ok h refl, (static ok h.reach).heads.0.mate)
        (land ok f.reach (inl refl) (h.packed ∙ (clean ok h.reach).packed)
        (λ n e. h.cover n (both_r b.every_end su n
        (f.meets (not-true (is_loop b.sort) (branch_fits c b bs (clean ok h.reach).placed)) n e)))
        h.covers.1 h.vars h.living)

    close_fine : (e : Close) (l : List Box) {xs : List Item} → Here ok m su l p tg k (Item.Close e ∷ xs)
        → FineStep (run_close items m e m.boxes)
    close_fine e [] h = no (clean ok h.reach).placed
    close_fine Close.EndIf (b ∷ bs) h =
        rw (not_again ok h refl)
        (land ok (more h.reach) (inl refl) h.packed
        (λ n e. h.cover n (left_sure b.sort b su
        (not-true (is_loop b.sort) (closes_fits Close.EndIf b bs (clean ok h.reach).placed)) n e))
        h.covers.1 h.vars h.living)
    close_fine Close.EndLoop (b ∷ bs) {xs} h =
        rw (not_again ok h refl) (go (opens_a is_sweep (item_at items b.at) && (m.pending || m.skip)))
      where
        loops : is_loop b.sort ≡ true
        loops = closes_fits Close.EndLoop b bs (clean ok h.reach).placed

        g : Headed items m.at (erase (b ∷ bs)) (Item.Close Close.EndLoop ∷ xs) tg b bs
        g = (static ok h.reach).heads.0

        go : (c : Bool)
            → FineStep (cond c (said (leaves LoopSort.Sweep ∷ []) (unskip true (goto m (suc m.at) (positions bs))))
            (said [] (goto m b.at (b.at ∷ positions bs))))
        go true =
            land ok (more h.reach) (inl refl) h.packed
            (λ n e. h.covers.0 n (left_loop b.sort b su loops n e)) h.covers.1 h.vars h.living
        go false =
            land ok g.reach (inr (refl, rw (← g.sort) loops)) (h.packed ∙ (clean ok h.reach).packed)
            h.covers.0 h.covers.1 h.vars h.living

  pub run_fine : {m : State} {su : Names} {l : List Box} {p tg : Bool} {k : Kinds} (x : Item) {xs : List Item}
      (o : Offer) → Here ok m su l p tg k (x ∷ xs) → FineStep (run items m x o)
  run_fine (Item.Act a) o h = act_fine a o h
  run_fine (Item.Pack q) o h = pack_fine q h
  run_fine (Item.Open d) o h = head_fine d o h
  run_fine {l = l} (Item.Branch c) o h = branch_fine c l h
  run_fine {l = l} (Item.Close e) o h = close_fine e l h
  run_fine Item.Break o h = break_fine h
  run_fine Item.Tag o h = tag_fine h
