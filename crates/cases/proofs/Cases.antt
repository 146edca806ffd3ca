-- Every case of the table holds: one statement, computed.
use mathlib.Core.Path.{◌≡◌, refl}
use mathlib.Core.List.{map}
use lib.Ieee as Ieee
use Rattle.text.specs.Bytes as Bytes
use Rattle.text.specs.Cut as Cut
use Rattle.text.specs.Hex as Hex
use Rattle.crc.specs.Crc as Crc
use Rattle.prefix.specs.Prefix as Prefix
use Rattle.value.specs.Literal as Literal
use Rattle.package.specs.Package as Package
use Rattle.loader.specs.Load as Load
use Rattle.table.specs.Shape as Shape
use Rattle.rules.specs.Check as Check
use Rattle.cases.specs.Cases.{Case, Answer, answer, checked, cases}

pub all_hold : map {B = Answer} (λ (c : Case). answer c.question) cases ≡ map (λ (c : Case). c.expected) cases
unfolding cases answer checked Check.verdict Shape.in_shape Crc.crc Crc.crc_from Crc.step Crc.shifts Crc.shift
    Literal.literal Literal.read_digits Literal.finish Literal.suffixed Literal.lettered Literal.over Literal.plain
    Ieee.div Ieee.of_int Ieee.round Ieee.units Ieee.odd Ieee.size Ieee.span Ieee.climb Bytes.lower Cut.cut
    Hex.digit_value Hex.hex_from Hex.read_hex Package.package_of Package.parts_from Package.part_of Package.end_in
    Package.noise_in Package.range_in Package.status_in Package.past Package.metadatum_at
    Package.part_with Package.amount_in Package.is_nan Package.number_with Prefix.prefix_of Prefix.in_steps
    Package.scale_of Package.scaled Package.value_of Load.loaded Load.walk
all_hold = refl
