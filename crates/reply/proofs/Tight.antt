-- No second answer fits a contract of this crate, and no second table. Assumes nothing.
use Rattle.std.proofs.Common.{Option, Ok, Err}
use denote.Ref.{Bor}
use mathlib.Core.Bool.{cond}
use mathlib.Core.List.{List}
use mathlib.Core.Path.{◌≡◌, refl, sym, ◌∙◌, ap, ap₂}
use Prim.Native.Nat.{ℕ}
use lib.Dec.{eqb}
use lib.ListN.{get_or}
use Rattle.laws.proofs.Apart.{apart}
use Rattle.reply_line.specs.declared.Refusal.{Refusal}
use Rattle.reply_line.specs.Line.{number_of}
use Rattle.reply.specs.declared.LineReader.{LineReader}
use Rattle.reply.specs.declared.NextLine.{NextLine}
use Rattle.reply.specs.declared.Row.{Row}
use Rattle.reply.specs.declared.RowTable.{RowTable}
use Rattle.reply.specs.Lines.{Begins, Serves}
use Rattle.reply.specs.Numbers.{ReadNumbers, row_in}
use Rattle.reply.specs.Reply.{Answer, meaning, outcome_of, refused_at}
use Rattle.reply.specs.Rows.{script_row, ReadRows, Tabled, table_meaning, read_table}

-- the refusal that has a number
named : ℕ → Refusal
named n =
    cond (eqb n 40) Refusal.BadPart
    (cond (eqb n 41) Refusal.TooManyParts
    (cond (eqb n 50) Refusal.NoEnding
    (cond (eqb n 51) Refusal.UnknownLine
    (cond (eqb n 52) Refusal.OutOfPlace
    (cond (eqb n 53) Refusal.NinthOpen
    (cond (eqb n 54) Refusal.ShortTable Refusal.TooLong))))))

named_back : (w : Refusal) → named (number_of w) ≡ w
unfolding named number_of
named_back Refusal.BadPart = refl
named_back Refusal.TooManyParts = refl
named_back Refusal.NoEnding = refl
named_back Refusal.UnknownLine = refl
named_back Refusal.OutOfPlace = refl
named_back Refusal.NinthOpen = refl
named_back Refusal.ShortTable = refl
named_back Refusal.TooLong = refl

pub number_injective : (a b : Refusal) → number_of a ≡ number_of b → a ≡ b
number_injective a b e = sym (named_back a) ∙ ap named e ∙ named_back b

pub meaning_injective : (a b : Answer) → meaning a ≡ meaning b → a ≡ b
unfolding meaning
meaning_injective (Ok x) (Ok y) e =
    let p : x.code ≡ y.code = cc in
    let q : x.used ≡ y.used = cc in
    let r : x.rows ≡ y.rows = cc in
    λ i. Ok (record { code = p i; used = q i; rows = r i })
meaning_injective (Ok x) (Err (w, k)) e = absurd (apart cc)
meaning_injective (Err (w, k)) (Ok y) e = absurd (apart cc)
meaning_injective (Err (w, k)) (Err (w', k')) e =
    let p : number_of w ≡ number_of w' = cc in
    let q : k ≡ k' = cc in
    ap₂ refused_at (number_injective w w' p) q

pub only_judge_reply : (s : List ℕ) (n : ℕ) (a b : Answer) → meaning a ≡ outcome_of n s
    → meaning b ≡ outcome_of n s → a ≡ b
only_judge_reply s n a b p q = meaning_injective a b (p ∙ sym q)

pub only_read_reply : (s : List ℕ) (ys : List Row) (a b : Answer) (left right : List Row)
    → ReadRows s ys a left → ReadRows s ys b right → (a ≡ b) × (left ≡ right)
only_read_reply s ys a b left right p q = (meaning_injective a b (p.says ∙ sym q.says), p.rows ∙ sym q.rows)

pub only_read_table : (s : List ℕ) (a b : RowTable) → table_meaning a ≡ read_table s
    → table_meaning b ≡ read_table s → a ≡ b
unfolding table_meaning
only_read_table s a b p q =
    let e : table_meaning a ≡ table_meaning b = p ∙ sym q in
    let v : a.answer ≡ b.answer = meaning_injective a.answer b.answer (ap (λ (t : Tabled). t.outcome) e) in
    let r : a.rows ≡ b.rows = ap (λ (t : Tabled). t.rows) e in
    λ i. record { rows = r i; answer = v i }

pub only_row_of : (t : RowTable) (at : ℕ) (a b : Row) → a ≡ get_or t.rows at script_row
    → b ≡ get_or t.rows at script_row → a ≡ b
only_row_of t at a b p q = p ∙ sym q

-- the answer, and all the lent numbers
pub only_read_numbers : (s lent : List ℕ) (a b : Answer) (left right : List ℕ)
    → ReadNumbers s lent a left → ReadNumbers s lent b right → (a ≡ b) × (left ≡ right)
only_read_numbers s lent a b left right p q =
    (meaning_injective a b (p.says ∙ sym q.says), p.numbers ∙ sym q.numbers)

pub only_row_in : (lent : List ℕ) (at : ℕ) (a b : Row) → a ≡ row_in lent at → b ≡ row_in lent at → a ≡ b
only_row_in lent at a b p q = p ∙ sym q

-- a reader is its reply and its place
pub only_lines_of : (s : Bor (List ℕ)) (a b : LineReader) → Begins s a → Begins s b → a ≡ b
only_lines_of s a b p q =
    let r : a.reply ≡ b.reply = p.over ∙ sym q.over in
    let t : a.at ≡ b.at = p.place ∙ sym q.place in
    λ i. record { reply = r i; at = t i }

-- the answer, and the reader afterwards
pub only_line_reader_next : (h : LineReader) (l m : Option NextLine) (a b : LineReader)
    → Serves h l a → Serves h m b → (l ≡ m) × (a ≡ b)
only_line_reader_next h l m a b p q =
    let r : a.reply ≡ b.reply = p.over ∙ sym q.over in
    let t : a.at ≡ b.at = p.place ∙ sym q.place in
    (p.line ∙ sym q.line, λ i. record { reply = r i; at = t i })
