-- What the values at the keys have to be. At one key the faults come in this order: the value is missing, of a wrong type, out of range,
-- off its boundary, and last a text of bad digits or one that another key excludes.
use Rattle.std.specs.Prelude.{ℕ, ℤ, pos, negsuc, ◌+◌, ◌-◌, ◌%◌, ◌==◌, ◌&&◌, nat_le, Bool, not, if◌then◌else◌}
use Rattle.std.specs.Prelude.{List, [], ◌∷◌, ◌++◌, length, replicate, codes, bytes_eq, Option, Some, None, option_map}
use Rattle.std.specs.Prelude.{option_and_then, Result, Ok, Err}
use Rattle.std.specs.List.{list_all}
use Rattle.std.specs.Result.{result_ok}
use Rattle.hex.specs.Hex.{decode_of}
use Rattle.hex.specs.declared.error.FromHexError.{FromHexError}
use Rattle.toml.specs.Data.{Data, Items, no_items, item, Members, as_integer, as_str, as_bool, as_array, as_table}
use Rattle.f8_spec.specs.declared.chips.ChipKind.{ChipKind}
use Rattle.f8_spec.specs.declared.chips.ChipKind.TheVariants.{Psu, Smi, Pio}
use Rattle.chip_face.specs.declared.sizes.TheConstants.{MOST_CHIPS}
use Rattle.text_lines.specs.Printable.{is_printable}
use Rattle.cart_data.specs.Splits.{are_different}
use Rattle.cartridge.specs.declared.keys.Key.{Key}
use Rattle.cartridge.specs.declared.refusal.CartCause.{CartCause}
use Rattle.cartridge.specs.declared.refusal.CartCause.TheVariants.{Missing, WrongType, Range, Boundary, TooMany, BadHex, Both}
use Rattle.cartridge.specs.declared.refusal.KeyFault.{KeyFault}
use Rattle.cartridge.specs.Faults.{◌>>=◌, at_key}
use Rattle.cartridge.specs.Keys.{value_at}

-- ---- a key that has to be there, and one that may be left out

abbrev pub required_value : {A : Type 0} → (Data → Result A CartCause) → Option Data → Result A CartCause
required_value judge None = Err Missing
required_value judge (Some d) = judge d

abbrev pub optional : {A : Type 0} → A → (Data → Result A CartCause) → Option Data → Result A CartCause
optional usual judge None = Ok usual
optional usual judge (Some d) = judge d

abbrev pub value_needed : {A : Type 0} → Key → (Data → Result A CartCause) → Members → Result A KeyFault
value_needed key judge table = at_key key (required_value judge (value_at key table))

abbrev pub usually : {A : Type 0} → Key → A → (Data → Result A CartCause) → Members → Result A KeyFault
usually key usual judge table = at_key key (optional usual judge (value_at key table))

-- ---- types

abbrev pub value_of_type : {A : Type 0} → Option A → Result A CartCause
value_of_type (Some x) = Ok x
value_of_type None = Err WrongType

abbrev pub text : Data → Result (List ℕ) CartCause
text d = value_of_type (as_str d)

abbrev pub truth : Data → Result Bool CartCause
truth d = value_of_type (as_bool d)

-- ---- numbers

-- a number from first to last
abbrev pub within : ℕ → ℕ → ℤ → Result ℕ CartCause
within first last (pos n) = if nat_le first n && nat_le n last then Ok n else Err Range
within first last (negsuc n) = Err Range

abbrev pub number_in : ℕ → ℕ → Data → Result ℕ CartCause
number_in first last d = value_of_type (as_integer d) >>= within first last

abbrev pub multiple_of : ℕ → ℕ → Result ℕ CartCause
multiple_of step n = if n % step == 0 then Ok n else Err Boundary

-- a multiple of step from first to last; out of range goes first
abbrev pub multiple_in : ℕ → ℕ → ℕ → Data → Result ℕ CartCause
multiple_in first last step d = number_in first last d >>= multiple_of step

-- a number from 0 to last at a key that may be left out
abbrev pub maybe_number : Key → ℕ → Members → Result (Option ℕ) KeyFault
maybe_number key last table = usually key None (λ d. number_in 0 last d >>= λ n. Ok (Some n)) table

-- ---- the kind of a chip

abbrev pub kind_named : List ℕ → Result ChipKind CartCause
kind_named name =
    if bytes_eq name (codes "3851") then Ok Psu else
    if bytes_eq name (codes "3853") then Ok Smi else
    if bytes_eq name (codes "3861") then Ok Pio else
    Err Range

abbrev pub kind_in : Data → Result ChipKind CartCause
kind_in d = text d >>= kind_named

-- ---- the bytes of a ROM, as digits or as the name of the file that they are assembled from

-- so many bytes, of which the first are given, and the rest are FF
abbrev pub filled : ℕ → List ℕ → List ℕ
filled room bytes = bytes ++ replicate (room - length bytes) 255

abbrev pub fitting : ℕ → Result (List ℕ) FromHexError → Result (List ℕ) CartCause
fitting room (Ok bytes) = if nat_le (length bytes) room then Ok (filled room bytes) else Err BadHex
fitting room (Err e) = Err BadHex

-- so many bytes, of which at most all are given by two hexadecimal digits of either case each
abbrev pub rom_in : ℕ → Data → Result (List ℕ) CartCause
rom_in room d = text d >>= λ digits. fitting room (decode_of digits)

abbrev pub is_file_name : List ℕ → Bool
is_file_name name = nat_le 1 (length name) && nat_le (length name) 64 && list_all is_printable name

-- the name of a file for so many bytes; a chip without ROM, or whose ROM pages have a gap, has no room for one, and a chip whose digits are
-- given needs none
abbrev pub source_named : ℕ → Bool → List ℕ → Result (List ℕ) CartCause
source_named room has_digits name =
    if not (is_file_name name && nat_le 1 room) then Err Range else
    if has_digits then Err Both else
    Ok name

abbrev pub source_in : ℕ → Bool → Data → Result (Option (List ℕ)) CartCause
source_in room has_digits d = text d >>= λ name. source_named room has_digits name >>= λ source. Ok (Some source)

-- ---- lists

abbrev pub count_of : Items → ℕ
count_of no_items = 0
count_of (item d ds) = count_of ds + 1

-- what each entry is, where every entry is one
abbrev pub each : {A : Type 0} → (Data → Option A) → Items → Option (List A)
each part no_items = Some []
each part (item d ds) = option_and_then (λ x. option_map (λ xs. x ∷ xs) (each part ds)) (part d)

-- registers of the scratchpad, no two of them equal; an entry of a wrong type is out of range, too
abbrev pub registers : Option (List ℕ) → Result (List ℕ) CartCause
registers (Some rs) = if are_different rs then Ok rs else Err Range
registers None = Err Range

abbrev pub register : Data → Option ℕ
register d = result_ok (number_in 0 63 d)

-- at most 8 registers; too many go before a bad one
abbrev pub split_of : Items → Result (List ℕ) CartCause
split_of ds = if nat_le (count_of ds) 8 then registers (each register ds) else Err TooMany

abbrev pub split_in : Data → Result (List ℕ) CartCause
split_in d = value_of_type (as_array d) >>= split_of

-- a list of at most `MOST_CHIPS` tables; an entry of a wrong type goes before too many
abbrev pub few_tables : List Members → Result (List Members) CartCause
few_tables tables = if nat_le (length tables) MOST_CHIPS then Ok tables else Err TooMany

abbrev pub tables_in : Data → Result (List Members) CartCause
tables_in d = value_of_type (as_array d) >>= λ ds. value_of_type (each as_table ds) >>= few_tables
