-- `thing_text::Words::push_hex16`: four times four digits. Assumes nothing.
use Rattle.thing_text.proofs.Bytes.{sixteen}
use Rattle.thing_text.proofs.Words.push_hex16.Goals as goal

pub returns : goal.returns
returns c =
    sixteen _ _ _ _ _ c.args.n c.low_bits.ensures c.low_bits-2.ensures c.low_bits-3.ensures c.low_bits-4.ensures
    c.push_hex4.ensures.bytes c.push_hex4-2.ensures.bytes c.push_hex4-3.ensures.bytes c.push_hex4-4.ensures.bytes
