-- No second answer fits a contract of this crate. Assumes nothing.
use Rattle.std.proofs.Common.{Result, Ok, Err}
use mathlib.Core.Path.{◌≡◌, refl, sym, ◌∙◌, ap}
use Prim.Native.Nat.{ℕ}
use Rattle.reply_line.specs.declared.Line.{Line}
use Rattle.reply_line.specs.declared.Refusal.{Refusal}
use Rattle.laws.proofs.Apart.{apart}
use Rattle.reply_step.specs.Move as Move
use Rattle.reply_step.specs.declared.Step.{Step}
use Rattle.reply_step.specs.Meaning.{bare, meant, stepped, Steps}
use Rattle.reply_step.specs.Step.{Open, Next}
use Rattle.reply_step.specs.declared.Open as coded
use Rattle.reply_step.proofs.Loops.{how_many}
use lib.ListN.{length}

pub only_nothing_open : (a b : coded.Open) → a ≡ bare → b ≡ bare → a ≡ b
only_nothing_open a b p q = p ∙ sym q

-- where it leads, the count of rows, the depth, and the whole array
pub only_step_of : (n : ℕ) (l : Line) (st : coded.Open) (a b : Result Step Refusal) → Steps n l st a → Steps n l st b
    → a ≡ b
only_step_of n l st a b p q = by_both a b refl refl (p.means ∙ sym q.means)
  where
    same_state : (x y : coded.Open) → x.around ≡ y.around → meant x ≡ meant y → x ≡ y
    same_state x y array e =
        let rows : x.rows ≡ y.rows = ap (λ (o : Open). o.rows) e in
        let depth : x.depth ≡ y.depth =
        sym (how_many x) ∙ ap (λ (o : Open). length o.around) e ∙ how_many y in
        λ i. record { around = array i; depth = depth i; rows = rows i }

    by_both : (x y : Result Step Refusal) → a ≡ x → b ≡ y → stepped st x ≡ stepped st y → x ≡ y
    by_both (Ok (Step.On x)) (Ok (Step.On y)) c d e =
        ap (λ (s : coded.Open). Ok (Step.On s))
        (same_state x y (p.array x c ∙ sym (q.array y d)) (ap (λ (m : Next). m.state) e))
    by_both (Ok (Step.On x)) (Ok (Step.Ends w)) c d e =
        let m : Move.On ≡ Move.Ends w = ap (λ (m : Next). m.to) e in
        absurd (apart cc)
    by_both (Ok (Step.On x)) (Err w) c d e =
        let m : Move.On ≡ Move.Refused w = ap (λ (m : Next). m.to) e in
        absurd (apart cc)
    by_both (Ok (Step.Ends v)) (Ok (Step.On y)) c d e =
        let m : Move.Ends v ≡ Move.On = ap (λ (m : Next). m.to) e in
        absurd (apart cc)
    by_both (Ok (Step.Ends v)) (Ok (Step.Ends w)) c d e =
        let m : Move.Ends v ≡ Move.Ends w = ap (λ (m : Next). m.to) e in
        cc
    by_both (Ok (Step.Ends v)) (Err w) c d e =
        let m : Move.Ends v ≡ Move.Refused w = ap (λ (m : Next). m.to) e in
        absurd (apart cc)
    by_both (Err v) (Ok (Step.On y)) c d e =
        let m : Move.Refused v ≡ Move.On = ap (λ (m : Next). m.to) e in
        absurd (apart cc)
    by_both (Err v) (Ok (Step.Ends w)) c d e =
        let m : Move.Refused v ≡ Move.Ends w = ap (λ (m : Next). m.to) e in
        absurd (apart cc)
    by_both (Err v) (Err w) c d e =
        let m : Move.Refused v ≡ Move.Refused w = ap (λ (m : Next). m.to) e in
        cc
