-- 01, Cases by letter: A to L as one table of questions and answers.
use Rattle.std.specs.Prelude.{None}
use Rattle.std.specs.Prelude.{false, cond, List, [], ◌∷◌, ℕ, pos, negsuc, Float, eqb, length}
use Prim.Native.String.{String}
use Rattle.std.specs.Float.{fin}
use Rattle.text.specs.Bytes.{ascii}
use Rattle.crc.specs.Crc.{crc}
use Rattle.value.specs.declared.Value.TheVariants as Value
use Rattle.value.specs.Literal.{Literal, reads, literal}
use Rattle.package.specs.declared.Amount.{Amount}
use Rattle.package.specs.Package.{Reading, parts, refused, package_of}
use Rattle.loader.specs.Load.{Outcome, refusal, accepted, empty_table, loaded}
use Rattle.rules.specs.Check as Rules
use Rattle.rules.specs.Check.{Verdict, verdict}

-- what is asked of the bytes
pub data Question : Type 0 where
  crc_of literal_of package_from script_from : List ℕ → Question

pub data Answer : Type 0 where
  sum : ℕ → Answer
  value : Literal → Answer
  reading : Reading → Answer
  script : Outcome → Verdict → Answer

-- the checker on what form gave of so many bytes: form's refusal, or else what the rules say of the table
abbrev pub checked_of : ℕ → Outcome → Verdict
checked_of size o = cond (eqb o.number 0) (verdict size o.table) (Rules.refused o.number o.line)

-- accepted is accepted by form and by the rules
unfoldable pub checked : List ℕ → Verdict
checked s = checked_of (length s) (loaded s)

-- what the definitions say
unfoldable pub answer : Question → Answer
answer (crc_of s) = sum (crc s)
answer (literal_of s) = value (literal s)
answer (package_from s) = reading (package_of s)
answer (script_from s) = script (loaded s) (checked s)

pub record Case : Type 0 where
  pub letter : String
  pub question : Question
  pub expected : Answer

abbrev pub asks : String → Question → Answer → Case
asks l q a = record { letter = l; question = q; expected = a }

-- a literal that is a float, read up to a place
abbrev pub float : Float → ℕ → Answer
float x stop = value (reads (Value.Real x) stop)

-- a package of one part without metadata
abbrev pub one_part : ℕ → Amount → Answer
one_part t a =
    reading (parts (record { letters = t; amount = a; status = None; range = None; noise = None } ∷ []))

unfoldable pub cases : List Case
cases =
    -- CRC of `05` is 7E6C
    asks "A" (crc_of (ascii "05")) (sum 0x7E6C) ∷
    -- of `52`, F17E
    asks "B" (crc_of (ascii "52")) (sum 0xF17E) ∷
    -- of `e03`, BFA2
    asks "C" (crc_of (ascii "e03")) (sum 0xBFA2) ∷
    -- `1500m` is 1.5
    asks "D" (literal_of (ascii "1500m")) (float (fin false 3 (negsuc 0)) 5) ∷
    -- `-0` is plus zero
    asks "E" (literal_of (ascii "-0")) (float (fin false 0 (pos 0)) 2) ∷
    -- `da7F0BDF9u` is -999943, exponent -6
    asks "F" (package_from (ascii "Pda7F0BDF9u")) (one_part 0x6461 (Amount.Number (negsuc 999942) (negsuc 5))) ∷
    -- value 0000000 is -134217728
    asks "G" (package_from (ascii "Pda0000000 ")) (one_part 0x6461 (Amount.Number (negsuc 134217727) (pos 0))) ∷
    -- FFFFFFF is 134217727
    asks "H" (package_from (ascii "PdaFFFFFFF ")) (one_part 0x6461 (Amount.Number (pos 134217727) (pos 0))) ∷
    -- `ja8000001i` is integer 1
    asks "I" (package_from (ascii "Pja8000001i")) (one_part 0x6A61 (Amount.Integer (pos 1))) ∷
    -- `P` alone is 40
    asks "J" (package_from (ascii "P")) (reading (refused 40 1)) ∷
    -- empty script, 11
    asks "K" (script_from []) (script (refusal 11 1) (Rules.refused 11 1)) ∷
    -- only the empty line, accepted
    asks "L" (script_from (ascii "\n")) (script (accepted empty_table 1) Rules.accepted) ∷ []
