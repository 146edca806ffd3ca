-- Where a line declares a name there is room for it. Assumes nothing.
use Rattle.std.proofs.Common.{Option, Some, None}
use mathlib.Core.Path.{◌≡◌, refl, sym, ◌∙◌, ap, ap₂}
use mathlib.Core.Bool.{Bool, true, false, cond}
use mathlib.Core.List.{List, map}
use Prim.Native.Nat.{ℕ, ◌+◌, ◌≤◌, ◌<◌}
use native.Mathlib.Omega.{arith}
use lib.Dec.{ltb}
use lib.ListN.{length, get_or, get_or-map}
use borrow.Author.Tests.{ltb-true}
use Rattle.table.specs.declared.Item.{Item}
use Rattle.table.specs.declared.Table.{Table}
use Rattle.word.specs.Word.{word_at, part, padded, skipped, name_form, seek}
use Rattle.argument.specs.declared.Refusal.TheVariants as R
use Rattle.argument.specs.declared.Argument.TheVariants as A
use Rattle.argument.specs.declared.Form.{Form}
use Rattle.argument.specs.declared.Form.TheVariants as F
use Rattle.argument.specs.Holds.{wrong_of}
use Rattle.argument.specs.Argument.{new_said, fresh, said, said_at}
use Rattle.line.specs.declared.Arguments.{Arguments}
use Rattle.line.specs.Command.{Command, commands, command_at, tag_command, command_words, item_of, form_of}
use Rattle.line.specs.Line.{Judgement, item, refused, arguments_at, lower, lowest, or_item, by_command, judged}
use Rattle.loader.specs.Load.{declares, counted, appended, nothing, given, taking, line_step}

unfoldable pub is_new : Form → Bool
is_new F.Nothing = false
is_new F.New = true
is_new F.Name = false
is_new F.Operand = false
is_new F.Literal = false
is_new F.Letters = false
is_new F.Number = false
is_new F.Comparison = false
is_new F.Text = false

-- what two columns of the table of commands have alike as wholes, they have alike in each row
pub in_row : {B : Type 0} (f g : Command → B) (k : ℕ) → map f commands ≡ map g commands → f tag_command ≡ g tag_command
    → f (command_at k) ≡ g (command_at k)
unfolding command_at
in_row {B} f g k e d =
    sym (get_or-map f commands k tag_command)
    ∙ ap₂ (λ (l : List B) (b : B). get_or l k b) e d
    ∙ get_or-map g commands k tag_command

-- an item declares a name exactly where its command asks for a new one
pub right : (k : ℕ) (x : Arguments)
    → declares (item_of (command_at k).make x) ≡ is_new (form_of (get_or (command_at k).shape 0 0))
unfolding commands tag_command is_new form_of padded
right k x =
    in_row (λ c. declares (item_of c.make x)) (λ c. is_new (form_of (get_or c.shape 0 0))) k refl refl

-- two constructors are never one
pub apart : {X : Type 0} → ◌≡◌ {A = ℕ} 0 1 → X
apart z = absurd (omega arith)

-- nothing is wrong, so no number is given
pub never : {X : Type 0} {n : ℕ} → ◌≡◌ {A = Option ℕ} (Some n) None → X
never e = apart cc

new_room : (names : List (List ℕ)) (w : List ℕ) → wrong_of (new_said names w) ≡ None → length names < 32
unfolding new_said
new_room names w h = go (name_form w) (seek names w) h
  where
    go : (b : Bool) (f : Option ℕ) → wrong_of (cond b (fresh (length names) f) (A.Wrong R.BadArguments)) ≡ None
        → length names < 32
    go false f h = never h
    go true (Some i) h = never h
    go true None h = full (ltb (length names) 32) refl h
      where
        full : (b : Bool) → ltb (length names) 32 ≡ b
            → wrong_of (cond b (A.Name (length names)) (A.Wrong R.TooManyNames)) ≡ None → length names < 32
        full true e h = ltb-true _ _ e
        full false e h = never h

pub lower_both : (a b : Option ℕ) → lower a b ≡ None → (a ≡ None) × (b ≡ None)
unfolding lower
lower_both None b h = (refl, h)
lower_both (Some m) None h = never h
lower_both (Some m) (Some n) h = never h

first_fine : (x : Arguments) → lowest x ≡ None → wrong_of x.a ≡ None
unfolding lowest
first_fine x h = (lower_both (wrong_of x.a) _ h).0

first_new : (names : List (List ℕ)) (line : List ℕ) (i : ℕ) (f : Form) → is_new f ≡ true
    → wrong_of (said_at names line f i).argument ≡ None → length names < 32
unfolding is_new said_at said
first_new names line i F.New e h = new_room names (part line (word_at line i)) h
first_new names line i F.Nothing e h = apart cc
first_new names line i F.Name e h = apart cc
first_new names line i F.Operand e h = apart cc
first_new names line i F.Literal e h = apart cc
first_new names line i F.Letters e h = apart cc
first_new names line i F.Number e h = apart cc
first_new names line i F.Comparison e h = apart cc
first_new names line i F.Text e h = apart cc

unfoldable pub item_of_lem : Judgement → Item → Item
item_of_lem (item it) d = it
item_of_lem (refused k) d = d

-- a line that declares a name does so where fewer than 32 are declared
pub room : (names : List (List ℕ)) (line : List ℕ) (i : ℕ) (it : Item)
    → judged names line i ≡ item it → declares it ≡ true → length names < 32
unfolding judged arguments_at item_of_lem
room names line i it e d = go (seek command_words (part line (word_at line i))) e
  where
    go : (f : Option ℕ) → by_command names line (word_at line i).end f ≡ item it → length names < 32
    go None e = apart cc
    go (Some k) e = by (lowest x) refl e
      where
        x : Arguments
        x = arguments_at names line (command_at k).shape (word_at line i).end

        by : (t : Option ℕ) → lowest x ≡ t → or_item t (item_of (command_at k).make x) ≡ item it
            → length names < 32
        by (Some n) q e = apart cc
        by None q e =
            let same : item_of (command_at k).make x ≡ it = ap (λ (j : Judgement). item_of_lem j it) e in
            let new : is_new (form_of (get_or (command_at k).shape 0 0)) ≡ true =
            sym (right k x) ∙ ap declares same ∙ d in
            first_new names line (word_at line i).end (form_of (get_or (command_at k).shape 0 0)) new (first_fine x q)

-- ---- so the names stay few

pub record Few (n m : ℕ) : Type 0 where
  pub most : m ≤ 32
  pub kept : n ≤ m
  pub next : m ≤ n + 1

pub count_few : (n : ℕ) (it : Item) → n ≤ 32 → (declares it ≡ true → n < 32) → Few n (counted n it)
unfolding counted
count_few n it h r = go (declares it) refl
  where
    go : (b : Bool) → declares it ≡ b → Few n (cond b (n + 1) n)
    go true e = let l : n < 32 = r e in record { most = omega arith; kept = omega arith; next = omega arith }
    go false e = record { most = h; kept = omega arith; next = omega arith }

pub few : (p : Table) (names : List (List ℕ)) (line upto : List ℕ) (i nr : ℕ)
    → p.names ≡ length names → length names ≤ 32
    → Few p.names (line_step p names line upto i nr).table.names
unfolding line_step appended
few p names line upto i nr e h = tests (ltb 127 (length line)) (skipped line) (ltb p.count 128)
  where
    same : Few p.names p.names
    same = record { most = omega arith; kept = omega arith; next = omega arith }

    by : (j : Judgement) → judged names upto i ≡ j → Few p.names (taking p nr (given j)).table.names
    by (refused k) q = same
    by (item it) q = count_few p.names it (omega arith) (λ d. omega (arith, room names upto i it q d))

    tests : (a b c : Bool)
        → Few p.names (taking p nr (cond a (given (refused 12))
        (cond b nothing (cond c (given (judged names upto i)) (given (refused 13)))))).table.names
    tests true b c = same
    tests false true c = same
    tests false false true = by (judged names upto i) refl
    tests false false false = same
