-- What an answer says of a text.
use Rattle.std.specs.Prelude.{◌≡◌, ℕ, ⊤, List, Result, Ok, Err, Vec}
use Rattle.hex_file.specs.DigitText.{HexFault, Digits, Long}
use Rattle.hex_file.specs.declared.answer.HexAnswer.{HexAnswer}
use Rattle.hex_file.specs.declared.answer.HexAnswer.TheVariants as answer

-- the bytes are those of the text, or the fault is; want of memory says nothing of the text

abbrev pub SaysOfText : {Z : Type 0} → Result (Vec ℕ Z) HexAnswer → Result (List ℕ) HexFault → Type 0
SaysOfText (Ok bytes) told = told ≡ Ok bytes.items
SaysOfText (Err answer.Digits) told = told ≡ Err Digits
SaysOfText (Err answer.Long) told = told ≡ Err Long
SaysOfText (Err answer.Memory) told = ⊤
