-- The `error` lines, as bytes. Every line ends with a line feed, and numbers are decimal.
use Rattle.std.specs.Prelude.{ℕ, List, [], ◌++◌, codes, decimal, Option, Some, None}
use Rattle.f8_spec.specs.declared.chips.ChipKind.{ChipKind}
use Rattle.f8_spec.specs.declared.chips.ChipKind.TheVariants.{Psu, Smi, Pio}
use Rattle.report.specs.declared.error_lines.Reader.{Reader}
use Rattle.report.specs.declared.error_lines.Reader.TheVariants.{Script, Cert, Debug, Plan}

-- ---- words, and files as a whole

unfoldable pub words_line : List ℕ
words_line = codes "error words\n"

unfoldable pub toml_line : List ℕ
toml_line = codes "error cart toml\n"

unfoldable pub hex_line : List ℕ
hex_line = codes "error hex\n"

-- a number behind a word, if there is one
abbrev pub number_text : Option ℕ → List ℕ
number_text None = []
number_text (Some number) = codes " " ++ decimal number

-- a file is too long
unfoldable pub long_line : List ℕ → Option ℕ → List ℕ
long_line what number = codes "error long " ++ what ++ number_text number ++ codes "\n"

-- a file was not got
unfoldable pub store_line : List ℕ → Option ℕ → List ℕ
store_line what number = codes "error store " ++ what ++ number_text number ++ codes "\n"

-- ---- places in files

-- a chip of a description, or none for what stands at its top
abbrev pub chip_text : Option ℕ → List ℕ
chip_text None = []
chip_text (Some chip) = codes " chip " ++ decimal chip

unfoldable pub cart_line : Option ℕ → List ℕ → ℕ → List ℕ
cart_line chip key cause = codes "error cart" ++ chip_text chip ++ codes " key " ++ key ++ codes " cause " ++ decimal cause ++ codes "\n"

-- a source of a cartridge by its number, or the one file that was given
abbrev pub source_text : Option ℕ → List ℕ
source_text None = codes " file"
source_text (Some source) = codes " source " ++ decimal source

unfoldable pub asm_line : Option ℕ → ℕ → ℕ → ℕ → List ℕ
asm_line source line column cause =
    codes "error asm" ++ source_text source ++ codes " line " ++ decimal line ++ codes " column " ++ decimal column
    ++ codes " cause " ++ decimal cause ++ codes "\n"

-- a module of a plan by its number
unfoldable pub module_line : ℕ → ℕ → ℕ → ℕ → List ℕ
module_line number line column cause =
    codes "error module " ++ decimal number ++ codes " line " ++ decimal line ++ codes " column " ++ decimal column
    ++ codes " cause " ++ decimal cause ++ codes "\n"

-- modules that don't go together
unfoldable pub link_line : ℕ → ℕ → List ℕ
link_line number cause = codes "error link module " ++ decimal number ++ codes " cause " ++ decimal cause ++ codes "\n"

abbrev pub reader_text : Reader → List ℕ
reader_text Script = codes "script"
reader_text Cert = codes "cert"
reader_text Debug = codes "debug"
reader_text Plan = codes "plan"

unfoldable pub reader_line : Reader → ℕ → ℕ → List ℕ
reader_line reader line cause = codes "error " ++ reader_text reader ++ codes " line " ++ decimal line ++ codes " cause " ++ decimal cause ++ codes "\n"

-- ---- racks

-- the rack has more chips than 16
unfoldable pub rack_line : ℕ → List ℕ
rack_line count = codes "error rack " ++ decimal count ++ codes "\n"

abbrev pub kind_text : ChipKind → List ℕ
kind_text Psu = codes "3851"
kind_text Smi = codes "3853"
kind_text Pio = codes "3861"

-- the rack has too few sockets of a kind: so many are needed, and it has so many
unfoldable pub sockets_line : ChipKind → ℕ → ℕ → List ℕ
sockets_line kind need have = codes "error sockets " ++ kind_text kind ++ codes " need " ++ decimal need ++ codes " have " ++ decimal have ++ codes "\n"
