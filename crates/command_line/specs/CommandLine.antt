-- The words of the program and what they ask for. The first word is the command. A word behind it is plain, or the command's flag.
use Rattle.std.specs.Prelude.{ℕ, Bool, true, false, ◌==◌, ◌&&◌, if◌then◌else◌, nat_le, List, [], ◌∷◌, ◌++◌, length, map}
use Rattle.std.specs.Prelude.{codes, bytes_eq, Option, Some, None, option_map, option_and_then, is_some}
use Rattle.std.specs.List.{find}
use Rattle.std.specs.Str.{all_ascii_digits}
use Rattle.std.specs.Str.Parse.{digits_value}

-- what can be asked for
pub data Command : Type 0 where
  Play : (cart script : List ℕ) (traced : Bool) → Command
  Ref : (cart script : List ℕ) → Command
  Debug : (cart commands : List ℕ) → Command
  Audit : (cart script trace : List ℕ) → Command
  Check : (cart : List ℕ) (certified : Bool) → Command
  Prove : (cart : List ℕ) (listed : Bool) → Command
  Verify : (cart cert : List ℕ) → Command
  Confirm : (cart cases : List ℕ) → Command
  Migrate : (cart : List ℕ) → Command
  Asm : (file : List ℕ) → Command
  Link : (plan : List ℕ) → Command
  Dis : (file : List ℕ) → Command
  Gen : (seed : ℕ) → Command

-- what a word behind a command is
pub data Word : Type 0 where
  Flag : Word
  Plain : (text : List ℕ) → Word

-- two or more bytes, of which the first is `-` (45)
abbrev pub is_dashed : List ℕ → Bool
is_dashed [] = false
is_dashed (first ∷ []) = false
is_dashed (first ∷ (second ∷ rest)) = first == 45

-- the words behind a command with a flag, where none is refused: before the first `--` each dashed word but the flag is, and behind it all are
-- plain
abbrev pub words_of : List ℕ → List (List ℕ) → Option (List Word)
words_of flag [] = Some []
words_of flag (word ∷ rest) =
    if bytes_eq word (codes "--") then Some (map Plain rest)
    else (if bytes_eq word flag then option_map (λ words. Flag ∷ words) (words_of flag rest)
    else (if is_dashed word then None
    else option_map (λ words. Plain word ∷ words) (words_of flag rest)))

-- the flag of a name
abbrev pub dashed : List ℕ → List ℕ
dashed name = codes "--" ++ name

abbrev pub trace_flag : List ℕ
trace_flag = dashed (codes "trace")

abbrev pub cert_flag : List ℕ
cert_flag = dashed (codes "cert")

abbrev pub cases_flag : List ℕ
cases_flag = dashed (codes "cases")

-- one plain word and nothing else, no flag either
abbrev pub one_in : List Word → Option (List ℕ)
one_in (Plain text ∷ []) = Some text
one_in words = None

abbrev pub one_of : List (List ℕ) → Option (List ℕ)
one_of words = option_and_then one_in (words_of trace_flag words)

-- two plain words and nothing else, no flag either
abbrev pub two_in : List Word → Option (List ℕ × List ℕ)
two_in (Plain first ∷ (Plain second ∷ [])) = Some (first, second)
two_in words = None

abbrev pub two_of : List (List ℕ) → Option (List ℕ × List ℕ)
two_of words = option_and_then two_in (words_of trace_flag words)

-- three plain words and nothing else, no flag either
abbrev pub three_in : List Word → Option (List ℕ × List ℕ × List ℕ)
three_in (Plain first ∷ (Plain second ∷ (Plain third ∷ []))) = Some (first, second, third)
three_in words = None

abbrev pub three_of : List (List ℕ) → Option (List ℕ × List ℕ × List ℕ)
three_of words = option_and_then three_in (words_of trace_flag words)

-- two files, with whether the flag stands among them, once, at any place
pub record Run : Type 0 where
  pub cart : List ℕ
  pub script : List ℕ
  pub traced : Bool

abbrev pub run_in : List Word → Option Run
run_in (Plain cart ∷ (Plain script ∷ [])) = Some (record { cart = cart; script = script; traced = false })
run_in (Flag ∷ (Plain cart ∷ (Plain script ∷ []))) = Some (record { cart = cart; script = script; traced = true })
run_in (Plain cart ∷ (Flag ∷ (Plain script ∷ []))) = Some (record { cart = cart; script = script; traced = true })
run_in (Plain cart ∷ (Plain script ∷ (Flag ∷ []))) = Some (record { cart = cart; script = script; traced = true })
run_in words = None

abbrev pub run_of : List (List ℕ) → Option Run
run_of words = option_and_then run_in (words_of trace_flag words)

abbrev pub play_of : Run → Command
play_of run = Play run.cart run.script run.traced

-- one file, with whether the flag stands beside it, once, on either side
pub record Flagged : Type 0 where
  pub file : List ℕ
  pub flagged : Bool

abbrev pub flagged_in : List Word → Option Flagged
flagged_in (Plain file ∷ []) = Some (record { file = file; flagged = false })
flagged_in (Flag ∷ (Plain file ∷ [])) = Some (record { file = file; flagged = true })
flagged_in (Plain file ∷ (Flag ∷ [])) = Some (record { file = file; flagged = true })
flagged_in words = None

abbrev pub flagged_of : List ℕ → List (List ℕ) → Option Flagged
flagged_of flag words = option_and_then flagged_in (words_of flag words)

abbrev pub check_of : Flagged → Command
check_of asked = Check asked.file asked.flagged

abbrev pub prove_of : Flagged → Command
prove_of asked = Prove asked.file asked.flagged

-- one to ten decimal digits, with leading zeros or without, of a number below 2 ^ 32
abbrev pub is_seed : List ℕ → Bool
is_seed text =
    nat_le 1 (length text)
    && (nat_le (length text) 10 && (all_ascii_digits text && nat_le (digits_value 10 text) 4294967295))

-- the number that such digits write
abbrev pub seed_of : List ℕ → Option ℕ
seed_of text = if is_seed text then Some (digits_value 10 text) else None

-- the word of a command, and what it asks for with the words behind it
pub record CommandWord : Type 0 where
  pub name : List ℕ
  pub asks : List (List ℕ) → Option Command

abbrev pub command_words : List CommandWord
command_words =
    record { name = codes "play"; asks = λ words. option_map play_of (run_of words) }
    ∷ record { name = codes "ref"; asks = λ words. option_map (λ files. Ref files.0 files.1) (two_of words) }
    ∷ record { name = codes "debug"; asks = λ words. option_map (λ files. Debug files.0 files.1) (two_of words) }
    ∷ record { name = codes "audit"; asks = λ words. option_map (λ files. Audit files.0 files.1 files.2) (three_of words) }
    ∷ record { name = codes "check"; asks = λ words. option_map check_of (flagged_of cert_flag words) }
    ∷ record { name = codes "verify"; asks = λ words. option_map (λ files. Verify files.0 files.1) (two_of words) }
    ∷ record { name = codes "prove"; asks = λ words. option_map prove_of (flagged_of cases_flag words) }
    ∷ record { name = codes "confirm"; asks = λ words. option_map (λ files. Confirm files.0 files.1) (two_of words) }
    ∷ record { name = codes "migrate"; asks = λ words. option_map Migrate (one_of words) }
    ∷ record { name = codes "asm"; asks = λ words. option_map Asm (one_of words) }
    ∷ record { name = codes "link"; asks = λ words. option_map Link (one_of words) }
    ∷ record { name = codes "dis"; asks = λ words. option_map Dis (one_of words) }
    ∷ record { name = codes "gen"; asks = λ words. option_map Gen (option_and_then seed_of (one_of words)) }
    ∷ []

-- the entry of a word, if it is that of a command
abbrev pub command_word : List ℕ → Option CommandWord
command_word name = find (λ c. bytes_eq name c.name) command_words

-- the first word is that of a command
abbrev pub has_command : List (List ℕ) → Bool
has_command [] = false
has_command (name ∷ rest) = is_some (command_word name)

-- what the words ask for, and nothing where they are none of the program's
abbrev pub command_of : List (List ℕ) → Option Command
command_of [] = None
command_of (name ∷ rest) = option_and_then (λ c. c.asks rest) (command_word name)
