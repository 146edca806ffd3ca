-- No second answer fits: two answers of `run` that both keep its contract are equal. Assumes nothing.
use Rattle.std.proofs.Common.{Result, Ok, Err}
use Prim.Native.Nat.{ℕ}
use mathlib.Core.Path.{◌≡◌, refl, sym, ap, ◌∙◌}
use mathlib.Core.Bool.{false, cond}
use mathlib.Core.List.{List}
use lib.Dec.{eqb, ltb}
use Rattle.laws.proofs.Bools.{no}
use Rattle.argument.specs.declared.Refusal.{Refusal as Form}
use Rattle.argument.specs.Refusal.{number_of as form_number}
use Rattle.rules.proofs.Tight.{rule_of}
use Rattle.rules.specs.declared.Refusal.TheVariants as Rule
use Rattle.vetting.specs.declared.Refusal.{Refusal}
use Rattle.vetting.specs.Vet.{number_of}
use Rattle.course.specs.declared.Steps.{Steps}
use Rattle.course.specs.declared.Ran.{Ran}
use Rattle.course.specs.Course.{Course, steps_of, course_of}
use Rattle.state.proofs.Tight.{same_state}
use Rattle.course.proofs.Tight.{SizedRun, same_ran}
use Rattle.safety.specs.Outcome.{Outcome, ExactOutcome, meaning}

-- ---- from the numbers back to the answer

form_of : ℕ → Form
form_of n =
    cond (eqb n 10) Form.TooLong
    (cond (eqb n 11) Form.NoEnd
    (cond (eqb n 12) Form.LongLine
    (cond (eqb n 13) Form.TooManyItems
    (cond (eqb n 14) Form.UnknownCommand
    (cond (eqb n 15) Form.BadArguments
    (cond (eqb n 16) Form.Undeclared
    (cond (eqb n 17) Form.DeclaredTwice Form.TooManyNames)))))))

refusal_of : ℕ → Refusal
refusal_of n = cond (ltb n 19) (Refusal.Form (form_of n)) (Refusal.Rules (rule_of n))

refusal_back : (r : Refusal) → refusal_of (number_of r) ≡ r
unfolding refusal_of form_of form_number
refusal_back (Refusal.Form Form.TooLong) = refl
refusal_back (Refusal.Form Form.NoEnd) = refl
refusal_back (Refusal.Form Form.LongLine) = refl
refusal_back (Refusal.Form Form.TooManyItems) = refl
refusal_back (Refusal.Form Form.UnknownCommand) = refl
refusal_back (Refusal.Form Form.BadArguments) = refl
refusal_back (Refusal.Form Form.Undeclared) = refl
refusal_back (Refusal.Form Form.DeclaredTwice) = refl
refusal_back (Refusal.Form Form.TooManyNames) = refl
refusal_back (Refusal.Rules Rule.Kinds) = refl
refusal_back (Refusal.Rules Rule.Unwritten) = refl
refusal_back (Refusal.Rules Rule.Mark) = refl
refusal_back (Refusal.Rules Rule.Ninth) = refl
refusal_back (Refusal.Rules Rule.Package) = refl
refusal_back (Refusal.Rules Rule.Tag) = refl
refusal_back (Refusal.Rules Rule.SameName) = refl
refusal_back (Refusal.Rules Rule.Nested) = refl
refusal_back (Refusal.Rules Rule.Shape) = refl

-- a refusal's number is not that of an accepted text
apart : (r : Refusal) → eqb (number_of r) 0 ≡ false
unfolding form_number
apart (Refusal.Form Form.TooLong) = refl
apart (Refusal.Form Form.NoEnd) = refl
apart (Refusal.Form Form.LongLine) = refl
apart (Refusal.Form Form.TooManyItems) = refl
apart (Refusal.Form Form.UnknownCommand) = refl
apart (Refusal.Form Form.BadArguments) = refl
apart (Refusal.Form Form.Undeclared) = refl
apart (Refusal.Form Form.DeclaredTwice) = refl
apart (Refusal.Form Form.TooManyNames) = refl
apart (Refusal.Rules Rule.Kinds) = refl
apart (Refusal.Rules Rule.Unwritten) = refl
apart (Refusal.Rules Rule.Mark) = refl
apart (Refusal.Rules Rule.Ninth) = refl
apart (Refusal.Rules Rule.Package) = refl
apart (Refusal.Rules Rule.Tag) = refl
apart (Refusal.Rules Rule.SameName) = refl
apart (Refusal.Rules Rule.Nested) = refl
apart (Refusal.Rules Rule.Shape) = refl

-- ---- the whole answer

-- an array of the code has its length (`SizedRun`)
abbrev pub SizedIn : Result Ran (Refusal × ℕ) → Type 0
SizedIn (Ok r) = SizedRun r
SizedIn (Err e) = Unit {0}

abbrev number_in : Outcome → ℕ
number_in o = o.number

pub only_run : (text : List ℕ) (steps : Steps) (x y : Result Ran (Refusal × ℕ)) → SizedIn x → SizedIn y
    → ExactOutcome text (steps_of steps) x → ExactOutcome text (steps_of steps) y → x ≡ y
only_run text steps (Ok x) (Ok y) l k p q =
    let same : meaning (Ok x) ≡ meaning (Ok y) = p.says ∙ sym q.says in
    let c : course_of x ≡ course_of y = ap (λ (o : Outcome). o.course) same in
    let m : x.state ≡ y.state =
    same_state x.state y.state l.boxes k.boxes (ap (λ (z : Course). z.last) c) p.fixed.neat q.fixed.neat in
    ap Ok (same_ran x y l k c p.fixed.blank q.fixed.blank m)
only_run text steps (Ok x) (Err (w, n)) l k p q =
    let same : 0 ≡ number_of w = ap number_in (p.says ∙ sym q.says) in
    no (ap (λ (n : ℕ). eqb n 0) same ∙ apart w)
only_run text steps (Err (v, n)) (Ok y) l k p q =
    let same : 0 ≡ number_of v = ap number_in (q.says ∙ sym p.says) in
    no (ap (λ (n : ℕ). eqb n 0) same ∙ apart v)
only_run text steps (Err (v, n)) (Err (w, i)) l k p q =
    let same : meaning (Err (v, n)) ≡ meaning (Err (w, i)) = p.says ∙ sym q.says in
    let r : v ≡ w = sym (refusal_back v) ∙ ap (λ (o : Outcome). refusal_of o.number) same ∙ refusal_back w in
    let j : n ≡ i = ap (λ (o : Outcome). o.line) same in
    cc
