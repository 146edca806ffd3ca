-- 01, Sources: "it gets content length and next number". Assumes nothing.
use Rattle.std.specs.Prelude.{List, ℕ}
use Rattle.frame.specs.Frame.{Answer, refused, accepted, Written, leaves}
pub use Rattle.capi.specs.declared.frames.SatvFrame.{SatvFrame}

abbrev pub good_frame : ℕ → ℕ → SatvFrame
good_frame length next = record { result = 0; next = next; length = length }

abbrev pub bad_frame : ℕ → ℕ → SatvFrame
bad_frame result number = record { result = result; next = number; length = 0 }

-- result 0, the length and the next number; or a refusal's number, no length, and the caller's number as it was: its
-- place is always 0, and C gets none
unfoldable pub frame_numbers : ℕ → Answer → SatvFrame
frame_numbers number (accepted length next) = good_frame length next
frame_numbers number (refused result place) = bad_frame result number

-- the writer's numbers, and the lent buffer as it then is
pub data Wrote : Type 0 where
  wrote : SatvFrame → List ℕ → Wrote

unfoldable pub frame_written : ℕ → Written → Wrote
unfolding frame_numbers
frame_written number (leaves answer buffer) = wrote (frame_numbers number answer) buffer
