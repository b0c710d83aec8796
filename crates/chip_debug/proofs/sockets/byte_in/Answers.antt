-- The question changes no chip.
use Rattle.std.proofs.Common.{◌∙◌, ap}
use Rattle.std.proofs.Math.Seq.{map-set_same}
use Rattle.chip_debug.proofs.sockets.byte_in.Goals as goal

pub returns-clause-stays : goal.returns-clause-stays
returns-clause-stays g c =
    map-set_same (λ b. (goal.Chip-dyn g (b.vtable, b.value)).state b.value) c.args.rack.now.items c.from.result
    c.byte_of.new.chip c.index_mut.result.now
    (c.byte_of.ensures.stays ∙ ap (λ b. (goal.Chip-dyn g (b.vtable, b.value)).state b.value) c.index_mut.ensures.value)
