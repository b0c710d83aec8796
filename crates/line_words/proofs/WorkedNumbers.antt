-- Words and numbers worked out by hand, computed from the definitions.
use Rattle.std.proofs.Common.{◌≡◌, [], ◌∷◌, Some, None, refl}
use Rattle.std.specs.Prelude.{codes}
use Rattle.hex.specs.Hex.{decode_pairs}
use Rattle.line_words.specs.Numbers.{address_of, byte_of, decimal_on, number_of}
use Rattle.line_words.specs.Words.{words}

two_blanks : words (codes "a  b") ≡ codes "a" ∷ [] ∷ codes "b" ∷ []
two_blanks = refl

an_address : address_of (codes "28fF") ≡ Some 0x28FF
unfolding decode_pairs
an_address = refl

three_digits : address_of (codes "28f") ≡ None
unfolding decode_pairs
three_digits = refl

four_digits : byte_of (codes "28ff") ≡ None
unfolding decode_pairs
four_digits = refl

seven_digits : number_of (codes "0000600") ≡ Some 600
unfolding decimal_on
seven_digits = refl

eight_digits : number_of (codes "00000600") ≡ None
eight_digits = refl
