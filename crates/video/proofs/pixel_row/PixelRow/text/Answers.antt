-- Digit by digit, from the bytes of both planes.
use Rattle.std.proofs.Common.{◌+◌, ◌*◌, ◌<◌, ◌≤◌, ℕ, get_or, refl, ap, ◌∙◌, arith}
use Rattle.video.proofs.PlaneLaws.{digit_of_bytes}
use Rattle.video.proofs.RowTexts.{written-fewer, written-more, written-whole}
use Rattle.video.proofs.pixel_row.PixelRow.text.Goals as goal

pub loop-bit-preserved : goal.loop-bit-preserved
loop-bit-preserved c =
    let x : ℕ = 8 * c.loop-byte.byte + c.loop-bit.bit in
    let inside : x < 128 = omega arith in
    let byte_inside : c.loop-byte.byte < 16 = omega arith in
    let bit_inside : c.loop-bit.bit < 8 = omega arith in
    written-fewer _ _ (x + 1) _ (omega arith)
    (written-more c.args.self.now c.loop-bit.text x (x + 2) _ inside refl
    (digit_of_bytes c.to_le_bytes-lows.result c.to_le_bytes-highs.result c.self.inside.low c.self.inside.high c.loop-byte.byte c.loop-bit.bit
    c.to_le_bytes-lows.ensures c.to_le_bytes-highs.ensures byte_inside bit_inside
    ∙ ap (λ row. 48 + get_or row x 0) c.self.view_is)
    c.loop-bit.invariant)

pub returns : goal.returns
returns c =
    let whole : 128 ≤ 8 * c.loop-byte.byte = omega arith in
    written-whole c.args.self.now c.loop-byte.text (written-fewer c.args.self.now c.loop-byte.text (8 * c.loop-byte.byte) 128 whole c.loop-byte.invariant)
