-- `thing_text::put_thing`: the text, where the buffer has room for it. Assumes nothing.
use mathlib.Core.Path.{◌∙◌}
use Rattle.thing_text.proofs.Bytes.{all_written, too_short}
use Rattle.thing_text.proofs.put_thing.Goals as goal

pub returns-then-buf-bytes : goal.returns-then-buf-bytes
returns-then-buf-bytes c =
    too_short _ _ _ (c.as_slice-bytes.ensures ∙ c.words_of-words.ensures) c.if-buf-bytes.true

pub returns : goal.returns
returns c =
    all_written _ _ _ _ (c.as_slice-bytes.ensures ∙ c.words_of-words.ensures) c.if-buf-bytes.false c.put_bytes.ensures
