-- At the end of a line and past it stands an empty word. Assumes nothing.
use mathlib.Core.Path.{◌≡◌, sym, ◌∙◌, ap, ap₂}
use mathlib.Core.Bool.{false}
use mathlib.Core.List.{List, [], ◌∷◌}
use Prim.Native.Nat.{ℕ, ◌+◌, ◌-◌, ◌≤◌}
use native.Mathlib.Omega.{arith}
use lib.Seq.{take-nil}
use lib.ListN.{length, take, drop, length-drop}
use Rattle.word.proofs.Runs.{run_end}
use Rattle.word.specs.declared.Class.TheVariants as Class
use Rattle.word.specs.Word.{run, word_at, part}
use Rattle.argument.specs.Argument.{Form, Argument, is_text, said, stopped, said_at}

empty-take : (n : ℕ) (s : List ℕ) → length s ≡ 0 → take n s ≡ []
empty-take n [] h = take-nil n
empty-take n (c ∷ s) h = absurd (omega arith)

word_past : (s : List ℕ) (i : ℕ) → length s ≤ i → (part s (word_at s i) ≡ []) × ((word_at s i).end ≡ i)
unfolding word_at
word_past s i h =
    let f : ℕ = i + run Class.Blank (drop i s) in
    let b : run Class.Blank (drop i s) ≡ 0 = run_end Class.Blank s i h in
    let t : run Class.Solid (drop f s) ≡ 0 = run_end Class.Solid s f (omega arith) in
    (empty-take (f + run Class.Solid (drop f s) - f) (drop f s) (omega (arith, length-drop f s)), omega arith)

pub said_past : (names : List (List ℕ)) (s : List ℕ) (form : Form) (i : ℕ) (x : Argument)
    → is_text form ≡ false → length s ≤ i → x ≡ said form names [] → stopped x i ≡ said_at names s form i
unfolding said_at
said_past names s form i x t h e =
    let none = word_past s i h in
    ap (λ (y : Argument). stopped y i) e
    ∙ ap₂ (λ (w : List ℕ) (n : ℕ). stopped (said form names w) n) (sym none.0) (sym none.1)
    ∙ sym (simp t)
