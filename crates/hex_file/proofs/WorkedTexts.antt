-- Texts of digits worked by hand, computed from the definitions.
use Rattle.std.proofs.Common.{◌≡◌, [], ◌∷◌, Ok, Err, refl}
use Rattle.std.specs.Prelude.{codes}
use Rattle.hex.specs.Hex.{decode_pairs}
use Rattle.hex_file.specs.DigitText.{bytes_of_text, Digits}

three_bytes : bytes_of_text (codes "712D20") ≡ Ok (0x71 ∷ 0x2D ∷ 0x20 ∷ [])
unfolding decode_pairs
three_bytes = refl

-- small letters and blanks
parted_by_blanks : bytes_of_text (codes "7 1\n2d 20\n") ≡ Ok (0x71 ∷ 0x2D ∷ 0x20 ∷ [])
unfolding decode_pairs
parted_by_blanks = refl

odd_number_of_digits : bytes_of_text (codes "712") ≡ Err Digits
unfolding decode_pairs
odd_number_of_digits = refl
