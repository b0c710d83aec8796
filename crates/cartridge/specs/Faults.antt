-- Faults of a value, of a table and of a description.
use Rattle.std.specs.Prelude.{ℕ, Option, Result, Ok, Err}
use Rattle.cartridge.specs.declared.keys.Key.{Key}
use Rattle.cartridge.specs.declared.refusal.CartCause.{CartCause}
use Rattle.cartridge.specs.declared.refusal.CartCause.TheVariants.{Missing, Unknown, WrongType, Range, Boundary, TooMany, BadHex, Both}
use Rattle.cartridge.specs.declared.refusal.KeyFault.{KeyFault}
use Rattle.cartridge.specs.declared.refusal.CartFault.{CartFault}
use Rattle.text_lines.specs.declared.read_error.ReadError.{ReadError}
use Rattle.text_lines.specs.declared.read_error.ReadError.TheVariants as answer
pub use Rattle.text_lines.specs.Steps.{◌>>=◌}

abbrev pub cause_number : CartCause → ℕ
cause_number Missing = 1
cause_number Unknown = 2
cause_number WrongType = 3
cause_number Range = 4
cause_number Boundary = 5
cause_number TooMany = 6
cause_number BadHex = 7
cause_number Both = 8

-- a fault of the value at a key
abbrev pub at_key : {A : Type 0} → Key → Result A CartCause → Result A KeyFault
at_key key (Ok x) = Ok x
at_key key (Err cause) = Err (record { key = key; cause = cause })

-- a fault of a chip's table, or of the table at the top
abbrev pub of_chip : {A : Type 0} → Option ℕ → Result A KeyFault → Result A CartFault
of_chip chip (Ok x) = Ok x
of_chip chip (Err fault) = Err (record { chip = chip; key = fault.key; cause = fault.cause })

-- the fault of a chip's table, or of the table at the top, in a description; want of memory stays that
abbrev pub answer_at : Option ℕ → ReadError KeyFault → ReadError CartFault
answer_at chip (answer.Fault fault) = answer.Fault (record { chip = chip; key = fault.key; cause = fault.cause })
answer_at chip answer.Memory = answer.Memory
