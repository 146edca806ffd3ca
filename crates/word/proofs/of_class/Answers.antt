use Rattle.word.specs.Word.{in_class}
use Rattle.word.proofs.of_class.Goals as goal

pub returns-in-Blank : goal.returns-in-Blank
unfolding in_class
returns-in-Blank c = simp (c.is_blank.ensures, c.in-Blank.is)

pub returns-in-Solid : goal.returns-in-Solid
unfolding in_class
returns-in-Solid c = simp (c.is_blank-in-Solid.ensures, c.in-Solid.is)

pub returns-in-NameByte : goal.returns-in-NameByte
unfolding in_class
returns-in-NameByte c = simp (c.is_name_byte.ensures, c.in-NameByte.is)
