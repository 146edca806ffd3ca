-- No second answer fits a public function's contract.
use Rattle.std.proofs.Common.{Result, Ok, Err}
use mathlib.Core.List.{List}
use mathlib.Core.Path.{◌≡◌, refl, sym, ap, ◌∙◌}
use Prim.Native.Nat.{ℕ}
use Rattle.state.specs.declared.What.{What}
use Rattle.state.specs.Meaning.{out_of}
use Rattle.thing_text.specs.declared.Short.{Short}
use Rattle.thing_text.specs.Answer.{number_of, meaning, leaves_by}
use Rattle.thing_text.specs.Thing.{text_of, Answer, refused, accepted, leaves, write}

-- what an answer says tells the answer
put_of : Answer → Result ℕ Short
put_of (accepted n) = Ok n
put_of (refused number place) = Err (record {})

put_back : (x : Result ℕ Short) → put_of (meaning x) ≡ x
unfolding put_of
put_back (Ok n) = refl
put_back (Err short) = refl

pub only_number : (x : Result ℕ Short) (r r' : ℕ) → r ≡ number_of x → r' ≡ number_of x → r ≡ r'
only_number x r r' p q = p ∙ sym q

pub only_put_thing : (thing : What) (buf : List ℕ) (x y : Result ℕ Short) (out out' : List ℕ)
    → leaves_by x out ≡ write (text_of (out_of thing)) buf
    → leaves_by y out' ≡ write (text_of (out_of thing)) buf
    → (x ≡ y) × (out ≡ out')
only_put_thing thing buf x y out out' h k =
    let e : leaves (meaning x) out ≡ leaves (meaning y) out' = h ∙ sym k in
    let a : meaning x ≡ meaning y = cc in
    let o : out ≡ out' = cc in
    (sym (put_back x) ∙ ap put_of a ∙ put_back y, o)
