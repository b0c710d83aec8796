-- What the types of the parts tell: the value where it is known.
use Rattle.std.specs.Prelude.{ℕ, Bool, Option, Some, None}
use Rattle.abs_domain.specs.declared.values.Val.{Val}
use Rattle.abs_domain.specs.declared.values.Val.TheVariants.{Known as KnownByte, Any as AnyByte}
use Rattle.abs_domain.specs.declared.values.Digit.{Digit}
use Rattle.abs_domain.specs.declared.values.Digit.TheVariants.{Known as KnownDigit, Any as AnyDigit}
use Rattle.abs_domain.specs.declared.values.Bit.{Bit}
use Rattle.abs_domain.specs.declared.values.Bit.TheVariants.{Known as KnownBit, Any as AnyBit}
use Rattle.abs_domain.specs.declared.values.Word.{Word}
use Rattle.abs_domain.specs.declared.values.Word.TheVariants.{Known as KnownWord, Any as AnyWord}

abbrev pub known_byte : Val → Option ℕ
known_byte (KnownByte byte) = Some byte
known_byte AnyByte = None

abbrev pub known_digit : Digit → Option ℕ
known_digit (KnownDigit digit) = Some digit
known_digit AnyDigit = None

abbrev pub known_bit : Bit → Option Bool
known_bit (KnownBit bit) = Some bit
known_bit AnyBit = None

abbrev pub known_word : Word → Option ℕ
known_word (KnownWord word) = Some word
known_word AnyWord = None
