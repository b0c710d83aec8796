use Rattle.std.proofs.Common.{◌≡◌, ◌/◌, None, Some, ap, arith}
use Rattle.f8_spec.specs.ChipState.{place_of}
use Rattle.smi3853.specs.Spaces.{Contents}
use Rattle.smi3853.proofs.Placing.{place_of-within, place_read}
use Rattle.smi3853.proofs.space.Space.place.Goals as goal

pub returns-clause-within : goal.returns-clause-within
returns-clause-within c =
    let entry = place_read c.self.inside.pages.items c.self.inside.places (c.args.at / 256) None c.self.invariant.table (omega arith) in
    let pages = ap (λ (v : Contents). v.pages) c.self.view_is in
    let was = rw c.from.ensures at c.in_ok-place.was in
    let found : place_of c.args.self.now.pages (c.args.at / 256) ≡ Some c.from-2.result = cc in
    place_of-within c.args.self.now.pages (c.args.at / 256) c.from-2.result found
