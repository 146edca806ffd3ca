-- No second answer fits a public function's contract.
use Rattle.std.proofs.Common.{Option}
use mathlib.Core.Path.{◌≡◌, sym, ◌∙◌}
use mathlib.Core.Bool.{Bool}
use mathlib.Core.List.{List}
use Prim.Native.Nat.{ℕ, ◌+◌}
use lib.ListN.{drop}
use Rattle.word.specs.declared.Class.{Class}
use Rattle.word.specs.declared.Span.{Span}
use Rattle.word.specs.Word.{run, word_at, part, skipped, name_form, read_type, small_of, padded, seek}

pub only_run_from : (s : List ℕ) (i : ℕ) (k : Class) (r r' : ℕ) → r ≡ i + run k (drop i s) → r' ≡ i + run k (drop i s)
    → r ≡ r'
only_run_from s i k r r' e e' = e ∙ sym e'

pub only_word_at : (s : List ℕ) (i : ℕ) (r r' : Span) → r ≡ word_at s i → r' ≡ word_at s i → r ≡ r'
only_word_at s i r r' e e' = e ∙ sym e'

pub only_part_of : (line : List ℕ) (w : Span) (r r' : List ℕ) → r ≡ part line w → r' ≡ part line w → r ≡ r'
only_part_of line w r r' e e' = e ∙ sym e'

pub only_is_skipped : (line : List ℕ) (r r' : Bool) → r ≡ skipped line → r' ≡ skipped line → r ≡ r'
only_is_skipped line r r' e e' = e ∙ sym e'

pub only_is_name : (word : List ℕ) (r r' : Bool) → r ≡ name_form word → r' ≡ name_form word → r ≡ r'
only_is_name word r r' e e' = e ∙ sym e'

pub only_read_type : (word : List ℕ) (r r' : Option ℕ) → r ≡ read_type word → r' ≡ read_type word → r ≡ r'
only_read_type word r r' e e' = e ∙ sym e'

pub only_read_small : (word : List ℕ) (r r' : Option ℕ) → r ≡ small_of word → r' ≡ small_of word → r ≡ r'
only_read_small word r r' e e' = e ∙ sym e'

pub only_pad : (word : List ℕ) (r r' : List ℕ) → r ≡ padded word → r' ≡ padded word → r ≡ r'
only_pad word r r' e e' = e ∙ sym e'

pub only_seek_word : (rows : List (List ℕ)) (word : List ℕ) (r r' : Option ℕ)
    → r ≡ seek rows word → r' ≡ seek rows word → r ≡ r'
only_seek_word rows word r r' e e' = e ∙ sym e'
