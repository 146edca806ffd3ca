-- All that the definitions of the loader, the checker and the machine compute with, opened by one name.
use Rattle.value.specs.Arithmetic
use Rattle.prefix.specs.Prefix
use Rattle.value.specs.Literal
use Rattle.text.specs.Bytes
use Rattle.text.specs.Cut
use Rattle.word.specs.Word
use Rattle.argument.specs.Argument
use Rattle.argument.specs.Refusal
use Rattle.line.specs.Command
use Rattle.line.specs.Line
use Rattle.loader.specs.Load
use Rattle.table.specs.Shape
use Rattle.rules.specs.Check
use Rattle.steps.specs.Machine
use Rattle.course.specs.Course
use lib.Ieee

unfoldable pub all : Unit {0}
unfolding Ieee.of_int Ieee.div Ieee.mul Arithmetic.rest Arithmetic.signed_word Arithmetic.wrap Arithmetic.wholes
    Arithmetic.is_finite Arithmetic.is_zero Arithmetic.checked Arithmetic.reals Arithmetic.calculated
    Arithmetic.finite Arithmetic.same Arithmetic.compare_wholes Arithmetic.compare_reals Arithmetic.compares
    Literal.plain Literal.times Literal.over Prefix.in_steps Prefix.prefix_of Literal.lettered Literal.suffixed
    Literal.finish Literal.read_digits Literal.literal Bytes.blank Bytes.digit Bytes.lower Bytes.letter Bytes.starts
    Bytes.name_byte Cut.before Cut.cut Word.in_class Word.run Word.word_at Word.skipped Word.name_form Word.read_type
    Word.read_small Word.small_of Word.padded Word.same_bytes Word.place Word.seek Argument.empty_said
    Argument.name_said Argument.new_said Argument.literal_said Argument.operand_said Argument.type_said
    Argument.number_said Argument.signs Argument.comparison_at Argument.comparison_said Argument.said Argument.text_at
    Argument.said_at Refusal.number_of Command.tag_command Command.commands Command.command_words Command.command_at
    Command.form_of Line.meaning Line.arguments_at Line.lower Line.lowest Line.judged Load.counted Load.appended
    Load.line_step Load.name_row Load.named Load.walk Load.loaded Shape.in_shape Check.verdict Machine.step
    Course.run_from
all = tt
