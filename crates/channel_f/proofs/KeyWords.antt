-- The words of a description's keys are short, and print.
use Rattle.std.proofs.Common.{◌≤◌, length, arith, refl}
use Rattle.text_lines.specs.Printable.{is_printable}
use Rattle.std.specs.Prelude.{IsTrue}
use Rattle.std.specs.List.{list_all}
use Rattle.cartridge.specs.declared.keys.Key.{Key}
use Rattle.cartridge.specs.declared.keys.Key.TheVariants.{Format, Split, Chip, Kind, Base, Ports, Vector, RomPage}
use Rattle.cartridge.specs.declared.keys.Key.TheVariants.{RomPages, RamPage, RamPages, VoidPage, VoidPages, Pages}
use Rattle.cartridge.specs.declared.keys.Key.TheVariants.{Interrupt, Fill, Start, Rom, Source, Other}
use Rattle.cartridge.specs.Keys.{key_word}

pub word_short : (key : Key) → length (key_word key) ≤ 16
word_short Format = omega arith
word_short Split = omega arith
word_short Chip = omega arith
word_short Kind = omega arith
word_short Base = omega arith
word_short Ports = omega arith
word_short Vector = omega arith
word_short RomPage = omega arith
word_short RomPages = omega arith
word_short RamPage = omega arith
word_short RamPages = omega arith
word_short VoidPage = omega arith
word_short VoidPages = omega arith
word_short Pages = omega arith
word_short Interrupt = omega arith
word_short Fill = omega arith
word_short Start = omega arith
word_short Rom = omega arith
word_short Source = omega arith
word_short Other = omega arith

pub word_printable : (key : Key) → IsTrue (list_all is_printable (key_word key))
word_printable Format = refl
word_printable Split = refl
word_printable Chip = refl
word_printable Kind = refl
word_printable Base = refl
word_printable Ports = refl
word_printable Vector = refl
word_printable RomPage = refl
word_printable RomPages = refl
word_printable RamPage = refl
word_printable RamPages = refl
word_printable VoidPage = refl
word_printable VoidPages = refl
word_printable Pages = refl
word_printable Interrupt = refl
word_printable Fill = refl
word_printable Start = refl
word_printable Rom = refl
word_printable Source = refl
word_printable Other = refl
