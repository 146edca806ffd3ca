-- No second answer fits: two answers that both keep the contract of an entry point are equal, and so is what it leaves
-- of lent memory. Assumes nothing.
use mathlib.Core.Path.{◌≡◌, sym, ◌∙◌}
use mathlib.Core.List.{List}
use Prim.Native.Nat.{ℕ}
use Rattle.frame.specs.Frame.{read, write}
use Rattle.reply.specs.Reply.{outcome_of}
use Rattle.vetting.specs.Vet.{vetted}
use Rattle.capi.specs.Frames.{SatvFrame, frame_numbers, wrote, frame_written}
use Rattle.capi.specs.declared.replies.SatvReply.{SatvReply}
use Rattle.capi.specs.declared.replies.SatvRow.{SatvRow}
use Rattle.capi.specs.Replies.{reply_numbers, RowsNumbered, row_numbers}
use Rattle.capi.specs.Scripts.{SatvVerdict, verdict_numbers}

pub only_satv_frame_read : (line : List ℕ) (expected : ℕ) (x y : SatvFrame)
    → x ≡ frame_numbers expected (read line expected) → y ≡ frame_numbers expected (read line expected)
    → x ≡ y
only_satv_frame_read line expected x y h k = h ∙ sym k

pub only_satv_frame_write : (content : List ℕ) (n : ℕ) (buffer : List ℕ) (x y : SatvFrame) (out out' : List ℕ)
    → wrote x out ≡ frame_written n (write content n buffer)
    → wrote y out' ≡ frame_written n (write content n buffer)
    → (x ≡ y) × (out ≡ out')
only_satv_frame_write content n buffer x y out out' h k =
    let e : wrote x out ≡ wrote y out' = h ∙ sym k in
    (cc, cc)

pub only_satv_reply_read : (s : List ℕ) (x y : SatvReply)
    → x ≡ reply_numbers (outcome_of 1024 s) → y ≡ reply_numbers (outcome_of 1024 s) → x ≡ y
only_satv_reply_read s x y h k = h ∙ sym k

pub only_satv_reply_rows : (s lent : List ℕ) (x y : SatvReply) (out out' : List ℕ)
    → RowsNumbered s lent x out → RowsNumbered s lent y out' → (x ≡ y) × (out ≡ out')
only_satv_reply_rows s lent x y out out' h k = (h.result ∙ sym k.result, h.numbers ∙ sym k.numbers)

pub only_satv_reply_row : (s : List ℕ) (row : ℕ) (x y : SatvRow)
    → x ≡ row_numbers s row → y ≡ row_numbers s row → x ≡ y
only_satv_reply_row s row x y h k = h ∙ sym k

pub only_satv_script_check : (text : List ℕ) (x y : SatvVerdict)
    → x ≡ verdict_numbers (vetted text) → y ≡ verdict_numbers (vetted text) → x ≡ y
only_satv_script_check text x y h k = h ∙ sym k
