-- The first draws of the number 1, computed from the definitions.
use Rattle.std.proofs.Common.{◌≡◌, [], ◌∷◌, map, refl}
use Rattle.console_spec.specs.Generator.{next_draw, drawn_byte, opcodes_from}

three_draws : map drawn_byte (next_draw 1 ∷ next_draw (next_draw 1) ∷ next_draw (next_draw (next_draw 1)) ∷ []) ≡ 0x3C ∷ 0x5E ∷ 0x81 ∷ []
three_draws = refl

three_opcodes : opcodes_from 3 1 ≡ 0xE3 ∷ 0x33 ∷ 0x13 ∷ []
unfolding opcodes_from
three_opcodes = refl
