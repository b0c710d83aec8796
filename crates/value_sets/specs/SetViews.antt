-- The sets of the program as sets of numbers.
use Rattle.std.specs.Prelude.{ℕ, List, Option, Some, None}
use Rattle.value_sets.specs.declared.bytes.ByteSet.{ByteSet}
use Rattle.value_sets.specs.declared.bytes.ByteSet.TheVariants.{Any as AnyByte, Among as AmongBytes}
use Rattle.value_sets.specs.declared.words.WordSet.{WordSet}
use Rattle.value_sets.specs.declared.words.WordSet.TheVariants.{Any as AnyWord, Among as AmongWords}

abbrev pub byte_values : ByteSet → Option (List ℕ)
byte_values AnyByte = None
byte_values (AmongBytes bytes) = Some bytes.items

abbrev pub word_values : WordSet → Option (List ℕ)
word_values AnyWord = None
word_values (AmongWords words) = Some words.items
