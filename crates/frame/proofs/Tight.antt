-- No second answer fits: for each public function, two answers (and two buffers) that both keep its contract are
-- equal. Assumes nothing.
use Rattle.std.proofs.Common.{Result, Ok, Err}
use Rattle.std.proofs.Common.{◌≡◌, ℕ, cond, eqb, List, take, sym, refl, ap, ◌∙◌}
use Rattle.frame.specs.Answer.{meaning_read, meaning_written, number_of}
use Rattle.frame.specs.declared.HostNumber.{HostNumber}
use Rattle.frame.specs.declared.InstrumentNumber.{InstrumentNumber}
use Rattle.frame.specs.declared.Refusal.{Refusal}
use Rattle.frame.specs.Frame.{Answer, refused, accepted, leaves, read, write}

-- ---- a number tells the refusal, and what an answer says tells the answer

named : ℕ → Refusal
named n =
    cond (eqb n 1) Refusal.BadContent
    (cond (eqb n 2) Refusal.ShortLine
    (cond (eqb n 3) Refusal.WrongCrc (cond (eqb n 4) Refusal.WrongNumber Refusal.ShortBuffer)))

named_back : (r : Refusal) → named (number_of r) ≡ r
unfolding named number_of
named_back Refusal.BadContent = refl
named_back Refusal.ShortLine = refl
named_back Refusal.WrongCrc = refl
named_back Refusal.WrongNumber = refl
named_back Refusal.ShortBuffer = refl

read_of : Answer → Result (ℕ × InstrumentNumber) Refusal
read_of (accepted k n) = Ok (k, (record { 0 = n }))
read_of (refused n place) = Err (named n)

read_back : (x : Result (ℕ × InstrumentNumber) Refusal) → read_of (meaning_read x) ≡ x
unfolding read_of meaning_read
read_back (Ok (k, n)) = refl
read_back (Err r) = ap Err (named_back r)

written_of : Answer → Result (ℕ × HostNumber) Refusal
written_of (accepted k n) = Ok (k, (record { 0 = n }))
written_of (refused n place) = Err (named n)

written_back : (x : Result (ℕ × HostNumber) Refusal) → written_of (meaning_written x) ≡ x
unfolding written_of meaning_written
written_back (Ok (k, n)) = refl
written_back (Err r) = ap Err (named_back r)

-- ---- the two counters: a number is its byte

pub only_host_number_first : (x y : HostNumber) → x.0 ≡ 0 → y.0 ≡ 0 → x ≡ y
only_host_number_first x y h k = λ i. record { 0 = (h ∙ sym k) i }

pub only_host_number_from_byte : (byte : ℕ) (x y : HostNumber) → x.0 ≡ byte → y.0 ≡ byte → x ≡ y
only_host_number_from_byte byte x y h k = λ i. record { 0 = (h ∙ sym k) i }

pub only_host_number_byte : (number : HostNumber) (x y : ℕ) → x ≡ number.0 → y ≡ number.0 → x ≡ y
only_host_number_byte number x y h k = h ∙ sym k

pub only_instrument_number_first : (x y : InstrumentNumber) → x.0 ≡ 0 → y.0 ≡ 0 → x ≡ y
only_instrument_number_first x y h k = λ i. record { 0 = (h ∙ sym k) i }

pub only_instrument_number_from_byte : (byte : ℕ) (x y : InstrumentNumber) → x.0 ≡ byte → y.0 ≡ byte → x ≡ y
only_instrument_number_from_byte byte x y h k = λ i. record { 0 = (h ∙ sym k) i }

pub only_instrument_number_byte : (number : InstrumentNumber) (x y : ℕ) → x ≡ number.0 → y ≡ number.0 → x ≡ y
only_instrument_number_byte number x y h k = h ∙ sym k

-- ---- the other public functions

pub only_u8_from_refusal : (r : Refusal) (x y : ℕ) → x ≡ number_of r → y ≡ number_of r → x ≡ y
only_u8_from_refusal r x y h k = h ∙ sym k

pub only_read_frame : (line : List ℕ) (expected : InstrumentNumber) (x y : Result (ℕ × InstrumentNumber) Refusal)
    → meaning_read x ≡ read line expected.0 → meaning_read y ≡ read line expected.0 → x ≡ y
only_read_frame line expected x y h k = sym (read_back x) ∙ ap read_of (h ∙ sym k) ∙ read_back y

pub only_content : (line : List ℕ) (length : ℕ) (x y : List ℕ) → x ≡ take length line → y ≡ take length line → x ≡ y
only_content line length x y h k = h ∙ sym k

pub only_write_frame : (content : List ℕ) (number : HostNumber) (buf : List ℕ)
    → (x y : Result (ℕ × HostNumber) Refusal) (out out' : List ℕ)
    → leaves (meaning_written x) out ≡ write content number.0 buf
    → leaves (meaning_written y) out' ≡ write content number.0 buf
    → (x ≡ y) × (out ≡ out')
only_write_frame content number buf x y out out' h k =
    let e : leaves (meaning_written x) out ≡ leaves (meaning_written y) out' = h ∙ sym k in
    let a : meaning_written x ≡ meaning_written y = cc in
    let o : out ≡ out' = cc in
    (sym (written_back x) ∙ ap written_of a ∙ written_back y, o)
