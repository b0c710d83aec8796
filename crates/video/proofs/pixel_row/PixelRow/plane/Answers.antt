-- The colours give each plane back.
use Rattle.std.proofs.Common.{◌≡◌, ap, sym, ◌∙◌, arith}
use Rattle.std.specs.Prelude.{slice_index}
use Rattle.video.specs.Planes.{plane_of, low_back, high_back}
use Rattle.video.proofs.pixel_row.PixelRow.plane.Goals as goal

pub returns-then-bit-eq0 : goal.returns-then-bit-eq0
returns-then-bit-eq0 c =
    sym (low_back c.self.inside.low c.self.inside.high c.self.invariant.0)
    ∙ ap (λ row. plane_of (slice_index row) 0) c.self.view_is ∙ ap (plane_of (slice_index c.args.self.now)) (sym c.if-bit-eq0.true)

pub returns-else-bit-eq0 : goal.returns-else-bit-eq0
returns-else-bit-eq0 c =
    let one : 1 ≡ c.args.bit = omega arith in
    sym (high_back c.self.inside.low c.self.inside.high c.self.invariant.1)
    ∙ ap (λ row. plane_of (slice_index row) 1) c.self.view_is ∙ ap (plane_of (slice_index c.args.self.now)) one
