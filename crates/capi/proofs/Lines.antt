-- Laws of a framed line's numbers: what the code puts together from an answer of `frame` is the definition. Assumes
-- nothing.
use Rattle.std.proofs.Common.{Result, Ok, Err}
use mathlib.Core.Path.{◌≡◌, sym, ◌∙◌, ap}
use mathlib.Core.List.{List}
use Prim.Native.Nat.{ℕ}
use Rattle.frame.specs.declared.Refusal.{Refusal}
use Rattle.frame.specs.Frame.{read, leaves, write}
use Rattle.frame.specs.declared.HostNumber.{HostNumber}
use Rattle.frame.specs.declared.InstrumentNumber.{InstrumentNumber}
use Rattle.frame.specs.Answer.{number_of, meaning_read, meaning_written}
use Rattle.capi.specs.Frames.{SatvFrame, good_frame, bad_frame, frame_numbers, wrote, frame_written}

-- ---- the reader

module _ (line : List ℕ) (expected : ℕ) (number : InstrumentNumber) (r : Result (ℕ × InstrumentNumber) Refusal)
    (f : SatvFrame)
    (made : number.0 ≡ expected) (reads : meaning_read r ≡ read line number.0) where
  read_as : (v : Result (ℕ × InstrumentNumber) Refusal) → r ≡ v
      → frame_numbers expected (meaning_read v) ≡ frame_numbers expected (read line expected)
  read_as v e =
      ap (λ (a : Result (ℕ × InstrumentNumber) Refusal). frame_numbers expected (meaning_read a)) (sym e)
      ∙ ap (frame_numbers expected) (reads ∙ ap (read line) made)

  pub is_content : (k : ℕ) (next : InstrumentNumber) (b : ℕ) → r ≡ Ok (k, next) → b ≡ next.0
      → f ≡ good_frame k b → f ≡ frame_numbers expected (read line expected)
  unfolding frame_numbers meaning_read
  is_content k next b e is told = told ∙ ap (good_frame k) is ∙ read_as (Ok (k, next)) e

  pub is_no_content : (w : Refusal) → r ≡ Err w → f ≡ bad_frame (number_of w) expected
      → f ≡ frame_numbers expected (read line expected)
  unfolding frame_numbers meaning_read
  is_no_content w e told = told ∙ read_as (Err w) e

-- ---- the writer

module _ (content : List ℕ) (n : ℕ) (buffer out : List ℕ) (number : HostNumber) (r : Result (ℕ × HostNumber) Refusal)
    (f : SatvFrame)
    (made : number.0 ≡ n) (writes : leaves (meaning_written r) out ≡ write content number.0 buffer) where
  written_as : (v : Result (ℕ × HostNumber) Refusal) → r ≡ v
      → wrote (frame_numbers n (meaning_written v)) out ≡ frame_written n (write content n buffer)
  unfolding frame_written
  written_as v e =
      ap (λ (a : Result (ℕ × HostNumber) Refusal). wrote (frame_numbers n (meaning_written a)) out) (sym e)
      ∙ ap (frame_written n) (writes ∙ ap (λ (m : ℕ). write content m buffer) made)

  pub is_written_lem : (k : ℕ) (next : HostNumber) (b : ℕ) → r ≡ Ok (k, next) → b ≡ next.0
      → f ≡ good_frame k b → wrote f out ≡ frame_written n (write content n buffer)
  unfolding frame_numbers meaning_written
  is_written_lem k next b e is told =
      ap (λ (x : SatvFrame). wrote x out) (told ∙ ap (good_frame k) is) ∙ written_as (Ok (k, next)) e

  pub is_not_written : (w : Refusal) → r ≡ Err w → f ≡ bad_frame (number_of w) n
      → wrote f out ≡ frame_written n (write content n buffer)
  unfolding frame_numbers meaning_written
  is_not_written w e told = ap (λ (x : SatvFrame). wrote x out) told ∙ written_as (Err w) e
