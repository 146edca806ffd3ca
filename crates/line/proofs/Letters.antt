-- A command's word is found among those that begin with its letter. Assumes nothing.
use Rattle.std.proofs.Common.{Some, None}
use borrow.Author.Tests.{ne_eqb, eqb-true}
use lib.Dec.{leb, eqb}
use lib.ListN.{length, take, get_or, replicate}
use mathlib.Core.Bool.{Bool, true, false, ◌&&◌, ◌||◌, cond}
use mathlib.Core.List.{List, [], ◌∷◌, ◌++◌}
use mathlib.Core.Path.{◌≡◌, refl, sym, ◌∙◌}
use native.Mathlib.Omega.{arith}
use Prim.Native.Nat.{ℕ, ◌+◌, ◌-◌}
use Prim.Native.String.{String}
use Rattle.line.proofs.Rows.{Others, both}
use Rattle.line.specs.Code.{row_of}
use Rattle.line.specs.Command.{commands, tag_command, command_words}
use Rattle.text.specs.Bytes.{ascii}
use Rattle.word.specs.Word.{padded, same_bytes, place, seek}

-- ---- a letter with its words, and the rows at which they stand

-- a key that begins with c is found among them, or not at all
abbrev pub Letter : ℕ → List (List ℕ) → List ℕ → Type 0
Letter c words rows = (t : List ℕ) → row_of rows (place 0 words (c ∷ t)) ≡ place 0 command_words (c ∷ t)

-- the first of some tests that holds
first1 : (a : Bool) (p : ℕ) → row_of (p ∷ []) (cond a (Some 0) None) ≡ cond a (Some p) None
first1 true p = refl
first1 false p = refl

first2 : (a b : Bool) (p q : ℕ)
    → row_of (p ∷ q ∷ []) (cond a (Some 0) (cond b (Some 1) None)) ≡ cond a (Some p) (cond b (Some q) None)
first2 true b p q = refl
first2 false true p q = refl
first2 false false p q = refl

first3 : (a b c : Bool) (p q r : ℕ)
    → row_of (p ∷ q ∷ r ∷ []) (cond a (Some 0) (cond b (Some 1) (cond c (Some 2) None)))
    ≡ cond a (Some p) (cond b (Some q) (cond c (Some r) None))
first3 true b c p q r = refl
first3 false true c p q r = refl
first3 false false true p q r = refl
first3 false false false p q r = refl

first4 : (a b c d : Bool) (p q r s : ℕ)
    → row_of (p ∷ q ∷ r ∷ s ∷ []) (cond a (Some 0) (cond b (Some 1) (cond c (Some 2) (cond d (Some 3) None))))
    ≡ cond a (Some p) (cond b (Some q) (cond c (Some r) (cond d (Some s) None)))
first4 true b c d p q r s = refl
first4 false true c d p q r s = refl
first4 false false true d p q r s = refl
first4 false false false true p q r s = refl
first4 false false false false p q r s = refl

first5 : (a b c d e : Bool) (p q r s t : ℕ)
    → row_of (p ∷ q ∷ r ∷ s ∷ t ∷ [])
    (cond a (Some 0) (cond b (Some 1) (cond c (Some 2) (cond d (Some 3) (cond e (Some 4) None)))))
    ≡ cond a (Some p) (cond b (Some q) (cond c (Some r) (cond d (Some s) (cond e (Some t) None))))
first5 true b c d e p q r s t = refl
first5 false true c d e p q r s t = refl
first5 false false true d e p q r s t = refl
first5 false false false true e p q r s t = refl
first5 false false false false true p q r s t = refl
first5 false false false false false p q r s t = refl

-- whether a key is a word
abbrev is : String → List ℕ → Bool
is w key = same_bytes (padded (ascii w)) key

abbrev pub words_a : List (List ℕ)
words_a = padded (ascii "add_var") ∷ padded (ascii "abort") ∷ []

pub letter_a : Letter 97 words_a (3 ∷ 27 ∷ [])
unfolding command_words commands tag_command padded place same_bytes
letter_a t = first2 (is "add_var" (97 ∷ t)) (is "abort" (97 ∷ t)) 3 27

abbrev pub words_b : List (List ℕ)
words_b = padded (ascii "breakloop") ∷ []

pub letter_b : Letter 98 words_b (21 ∷ [])
unfolding command_words commands tag_command padded place same_bytes
letter_b t = first1 (is "breakloop" (98 ∷ t)) 21

abbrev pub words_c : List (List ℕ)
words_c = padded (ascii "copy_var") ∷ padded (ascii "cell_on") ∷ padded (ascii "cell_off") ∷ []

pub letter_c : Letter 99 words_c (2 ∷ 25 ∷ 26 ∷ [])
unfolding command_words commands tag_command padded place same_bytes
letter_c t = first3 (is "copy_var" (99 ∷ t)) (is "cell_on" (99 ∷ t)) (is "cell_off" (99 ∷ t)) 2 25 26

abbrev pub words_d : List (List ℕ)
words_d = padded (ascii "div_var") ∷ []

pub letter_d : Letter 100 words_d (6 ∷ [])
unfolding command_words commands tag_command padded place same_bytes
letter_d t = first1 (is "div_var" (100 ∷ t)) 6

abbrev pub words_e : List (List ℕ)
words_e =
    padded (ascii "elseif") ∷ padded (ascii "else") ∷ padded (ascii "endif")
    ∷ padded (ascii "endloop") ∷ []

pub letter_e : Letter 101 words_e (8 ∷ 18 ∷ 19 ∷ 20 ∷ [])
unfolding command_words commands tag_command padded place same_bytes
letter_e t =
    first4 (is "elseif" (101 ∷ t)) (is "else" (101 ∷ t)) (is "endif" (101 ∷ t))
    (is "endloop" (101 ∷ t)) 8 18 19 20

abbrev pub words_i : List (List ℕ)
words_i = padded (ascii "if") ∷ []

pub letter_i : Letter 105 words_i (7 ∷ [])
unfolding command_words commands tag_command padded place same_bytes
letter_i t = first1 (is "if" (105 ∷ t)) 7

abbrev pub words_l : List (List ℕ)
words_l = padded (ascii "loop") ∷ []

pub letter_l : Letter 108 words_l (9 ∷ [])
unfolding command_words commands tag_command padded place same_bytes
letter_l t = first1 (is "loop" (108 ∷ t)) 9

abbrev pub words_m : List (List ℕ)
words_m = padded (ascii "mul_var") ∷ padded (ascii "meas_loop_lsv") ∷ padded (ascii "meas") ∷ []

pub letter_m : Letter 109 words_m (5 ∷ 10 ∷ 11 ∷ [])
unfolding command_words commands tag_command padded place same_bytes
letter_m t = first3 (is "mul_var" (109 ∷ t)) (is "meas_loop_lsv" (109 ∷ t)) (is "meas" (109 ∷ t)) 5 10 11

abbrev pub words_o : List (List ℕ)
words_o = padded (ascii "on_finished:") ∷ []

pub letter_o : Letter 111 words_o (28 ∷ [])
unfolding command_words commands tag_command padded place same_bytes
letter_o t = first1 (is "on_finished:" (111 ∷ t)) 28

abbrev pub words_p : List (List ℕ)
words_p = padded (ascii "pck_add") ∷ padded (ascii "pck_start") ∷ padded (ascii "pck_end") ∷ []

pub letter_p : Letter 112 words_p (13 ∷ 23 ∷ 24 ∷ [])
unfolding command_words commands tag_command padded place same_bytes
letter_p t = first3 (is "pck_add" (112 ∷ t)) (is "pck_start" (112 ∷ t)) (is "pck_end" (112 ∷ t)) 13 23 24

abbrev pub words_s : List (List ℕ)
words_s =
    padded (ascii "store_var") ∷ padded (ascii "sub_var") ∷ padded (ascii "send_string")
    ∷ padded (ascii "set_e") ∷ padded (ascii "set_pgstat_mode") ∷ []

pub letter_s : Letter 115 words_s (1 ∷ 4 ∷ 14 ∷ 16 ∷ 17 ∷ [])
unfolding command_words commands tag_command padded place same_bytes
letter_s t =
    first5 (is "store_var" (115 ∷ t)) (is "sub_var" (115 ∷ t)) (is "send_string" (115 ∷ t))
    (is "set_e" (115 ∷ t)) (is "set_pgstat_mode" (115 ∷ t)) 1 4 14 16 17

abbrev pub words_t : List (List ℕ)
words_t = padded (ascii "timer_get") ∷ padded (ascii "timer_start") ∷ []

pub letter_t : Letter 116 words_t (12 ∷ 22 ∷ [])
unfolding command_words commands tag_command padded place same_bytes
letter_t t = first2 (is "timer_get" (116 ∷ t)) (is "timer_start" (116 ∷ t)) 12 22

abbrev pub words_v : List (List ℕ)
words_v = padded (ascii "var") ∷ []

pub letter_v : Letter 118 words_v (0 ∷ [])
unfolding command_words commands tag_command padded place same_bytes
letter_v t = first1 (is "var" (118 ∷ t)) 0

abbrev pub words_w : List (List ℕ)
words_w = padded (ascii "wait") ∷ []

pub letter_w : Letter 119 words_w (15 ∷ [])
unfolding command_words commands tag_command padded place same_bytes
letter_w t = first1 (is "wait" (119 ∷ t)) 15

-- ---- the whole word

pub by_letter : (w : List ℕ) (c : ℕ) (words : List (List ℕ)) (rows : List ℕ) → Letter c words rows
    → (length w ≡ 0 → ⊥) → get_or w 0 0 ≡ c → row_of rows (seek words w) ≡ seek command_words w
unfolding seek padded
by_letter [] c words rows l h e = absurd (h refl)
by_letter (x ∷ s) c words rows l h e = go (leb (length (x ∷ s)) 16)
  where
    tail : List ℕ
    tail = take 15 s ++ replicate (16 - length (x ∷ s)) 32

    same : row_of rows (place 0 words (x ∷ tail)) ≡ place 0 command_words (x ∷ tail)
    same = rw e (l tail)

    go : (b : Bool)
        → row_of rows (cond b (place 0 words (x ∷ tail)) None)
        ≡ cond b (place 0 command_words (x ∷ tail)) None
    go true = same
    go false = refl

-- the letters that begin a command, the last first
abbrev pub letters : List ℕ
letters = 119 ∷ 118 ∷ 116 ∷ 115 ∷ 112 ∷ 111 ∷ 109 ∷ 108 ∷ 105 ∷ 101 ∷ 100 ∷ 99 ∷ 98 ∷ 97 ∷ []

member : ℕ → List ℕ → Bool
member c [] = false
member c (k ∷ ks) = eqb c k || member c ks

-- every row begins with one of them
covered : List (List ℕ) → Bool
covered [] = true
covered ([] ∷ rows) = covered rows
covered ((c ∷ r) ∷ rows) = member c letters && covered rows

other : (c x : ℕ) (ks : List ℕ) → member c ks ≡ true → Others ks x → x ≡ c → ⊥
unfolding member
other c x [] m o e = let z : ◌≡◌ {A = ℕ} 0 1 = cc in omega arith
other c x (k ∷ ks) m o e = go (eqb c k) refl m (λ m'. other c x ks m' o.0 e)
  where
    go : (b : Bool) → eqb c k ≡ b → (b || member c ks) ≡ true → (member c ks ≡ true → ⊥) → ⊥
    go true q m' later = o.1 (e ∙ eqb-true c k q)
    go false q m' later = later m'

not_placed : (i x : ℕ) (t : List ℕ) (rows : List (List ℕ)) → covered rows ≡ true → Others letters x
    → place i rows (x ∷ t) ≡ None
unfolding place same_bytes covered
not_placed i x t [] h o = refl
not_placed i x t ([] ∷ rows) h o = not_placed (i + 1) x t rows h o
not_placed i x t ((c ∷ r) ∷ rows) h o =
    let is = both (member c letters) (covered rows) h in
    rw (ne_eqb c x (λ e. other c x letters is.0 o (sym e))) (not_placed (i + 1) x t rows is.1 o)

all_covered : covered command_words ≡ true
unfolding covered member command_words commands tag_command padded
all_covered = refl

pub no_letter : (w : List ℕ) → (length w ≡ 0 → ⊥) → Others letters (get_or w 0 0) → None ≡ seek command_words w
unfolding seek padded
no_letter [] h o = absurd (h refl)
no_letter (x ∷ s) h o = go (leb (length (x ∷ s)) 16)
  where
    tail : List ℕ
    tail = take 15 s ++ replicate (16 - length (x ∷ s)) 32

    go : (b : Bool) → None ≡ cond b (place 0 command_words (x ∷ tail)) None
    go true = sym (not_placed 0 x tail command_words all_covered o)
    go false = refl

pub no_bytes : (w : List ℕ) → length w ≡ 0 → None ≡ seek command_words w
unfolding seek command_words commands padded tag_command place same_bytes
no_bytes [] h = refl
no_bytes (x ∷ s) h = absurd (omega arith)
