-- The lines of an image worked by hand, computed from the definitions.
use Rattle.std.proofs.Common.{◌≡◌, pos, [], ◌∷◌, refl}
use Rattle.std.specs.Prelude.{codes}
use Rattle.std.specs.Fmt.{digits}
use Rattle.asm_lines.specs.ImageLines.{byte_lines, symbol_line, image_lines}

-- three bytes and a label
loop_lines :
    image_lines (record { bytes = (0, 0x2B) ∷ (1, 0x90) ∷ (2, 0xFE) ∷ []; symbols = (codes "LOOP", pos 0) ∷ [] })
    ≡ codes "0000 2B90FE\n" ∷ codes "sym LOOP 0\n" ∷ []
unfolding image_lines byte_lines symbol_line digits
loop_lines = refl
