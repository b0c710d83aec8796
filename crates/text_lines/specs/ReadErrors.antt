-- What a reader answers, beside what is said of its text. That memory is missing says nothing of the text.
use Rattle.std.specs.Prelude.{◌≡◌, Result, Ok, Err}
use Rattle.text_lines.specs.declared.read_error.ReadError.{ReadError}
use Rattle.text_lines.specs.declared.read_error.ReadError.TheVariants.{Fault, Memory}

-- an answer, as it is seen, is what is said of the text
abbrev pub SaysSeen : {A B F : Type 0} → (A → B) → Result A (ReadError F) → Result B F → Type 0
SaysSeen seen (Ok x) said = said ≡ Ok (seen x)
SaysSeen seen (Err (Fault fault)) said = said ≡ Err fault
SaysSeen seen (Err Memory) said = Unit {0}

-- the same of an answer that is seen as it is
abbrev pub Says : {A F : Type 0} → Result A (ReadError F) → Result A F → Type 0
Says (Ok x) said = said ≡ Ok x
Says (Err (Fault fault)) said = said ≡ Err fault
Says (Err Memory) said = Unit {0}

-- a step leads to the state that is said
abbrev pub StepsTo : {S F : Type 0} → Result (Unit {0}) (ReadError F) → S → Result S F → Type 0
StepsTo (Ok u) new said = said ≡ Ok new
StepsTo (Err (Fault fault)) new said = said ≡ Err fault
StepsTo (Err Memory) new said = Unit {0}

-- what is said where memory is missing
abbrev pub OnMemory : {A F : Type 0} → Result A (ReadError F) → Type 0 → Type 0
OnMemory (Ok x) Said = Unit {0}
OnMemory (Err (Fault fault)) Said = Unit {0}
OnMemory (Err Memory) Said = Said
