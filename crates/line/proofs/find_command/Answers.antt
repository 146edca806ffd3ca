-- `line::find_command` looks among the words of a letter. Assumes nothing.
use mathlib.Core.List.{[], ◌∷◌}
use mathlib.Core.Path.{◌∙◌}
use borrow.Author.Rules.{rules}
use Rattle.line.proofs.Letters as L
use Rattle.word.specs.Word.{padded}
use Rattle.line.proofs.find_command.Goals as goal

pub returns-then-word-eq0 : goal.returns-then-word-eq0
returns-then-word-eq0 c = L.no_bytes _ c.if-word-eq0.true

pub returns-in-97 : goal.returns-in-97
unfolding padded
returns-in-97 c =
    c.among.ensures
    ∙ L.by_letter _ 97 L.words_a (3 ∷ 27 ∷ []) L.letter_a c.if-word-eq0.false c.in-97.is

pub returns-in-98 : goal.returns-in-98
unfolding padded
returns-in-98 c =
    c.among-in-98.ensures
    ∙ L.by_letter _ 98 L.words_b (21 ∷ []) L.letter_b c.if-word-eq0.false c.in-98.is

pub returns-in-99 : goal.returns-in-99
unfolding padded
returns-in-99 c =
    c.among-in-99.ensures
    ∙ L.by_letter _ 99 L.words_c (2 ∷ 25 ∷ 26 ∷ []) L.letter_c c.if-word-eq0.false c.in-99.is

pub returns-in-100 : goal.returns-in-100
unfolding padded
returns-in-100 c =
    c.among-in-100.ensures
    ∙ L.by_letter _ 100 L.words_d (6 ∷ []) L.letter_d c.if-word-eq0.false c.in-100.is

pub returns-in-101 : goal.returns-in-101
unfolding padded
returns-in-101 c =
    c.among-in-101.ensures
    ∙ L.by_letter _ 101 L.words_e (8 ∷ 18 ∷ 19 ∷ 20 ∷ []) L.letter_e c.if-word-eq0.false c.in-101.is

pub returns-in-105 : goal.returns-in-105
unfolding padded
returns-in-105 c =
    c.among-in-105.ensures
    ∙ L.by_letter _ 105 L.words_i (7 ∷ []) L.letter_i c.if-word-eq0.false c.in-105.is

pub returns-in-108 : goal.returns-in-108
unfolding padded
returns-in-108 c =
    c.among-in-108.ensures
    ∙ L.by_letter _ 108 L.words_l (9 ∷ []) L.letter_l c.if-word-eq0.false c.in-108.is

pub returns-in-109 : goal.returns-in-109
unfolding padded
returns-in-109 c =
    c.among-in-109.ensures
    ∙ L.by_letter _ 109 L.words_m (5 ∷ 10 ∷ 11 ∷ []) L.letter_m c.if-word-eq0.false c.in-109.is

pub returns-in-111 : goal.returns-in-111
unfolding padded
returns-in-111 c =
    c.among-in-111.ensures
    ∙ L.by_letter _ 111 L.words_o (28 ∷ []) L.letter_o c.if-word-eq0.false c.in-111.is

pub returns-in-112 : goal.returns-in-112
unfolding padded
returns-in-112 c =
    c.among-in-112.ensures
    ∙ L.by_letter _ 112 L.words_p (13 ∷ 23 ∷ 24 ∷ []) L.letter_p c.if-word-eq0.false c.in-112.is

pub returns-in-115 : goal.returns-in-115
unfolding padded
returns-in-115 c =
    c.among-in-115.ensures
    ∙ L.by_letter _ 115 L.words_s (1 ∷ 4 ∷ 14 ∷ 16 ∷ 17 ∷ []) L.letter_s c.if-word-eq0.false c.in-115.is

pub returns-in-116 : goal.returns-in-116
unfolding padded
returns-in-116 c =
    c.among-in-116.ensures
    ∙ L.by_letter _ 116 L.words_t (12 ∷ 22 ∷ []) L.letter_t c.if-word-eq0.false c.in-116.is

pub returns-in-118 : goal.returns-in-118
unfolding padded
returns-in-118 c =
    c.among-in-118.ensures
    ∙ L.by_letter _ 118 L.words_v (0 ∷ []) L.letter_v c.if-word-eq0.false c.in-118.is

pub returns-in-119 : goal.returns-in-119
unfolding padded
returns-in-119 c =
    c.among-in-119.ensures
    ∙ L.by_letter _ 119 L.words_w (15 ∷ []) L.letter_w c.if-word-eq0.false c.in-119.is

pub returns-in_default : goal.returns-in_default
returns-in_default c = L.no_letter _ c.if-word-eq0.false (search rules)
