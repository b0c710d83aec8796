-- A bit is set by its mask, and cleared by all the others.
use Rattle.std.specs.Int.{w128}
use Rattle.std.proofs.lemmas.Nat.Bits.{bit_at_set_same, bit_at_set_other, bit_at_clear_same, bit_at_clear_other}
use Rattle.video.proofs.pixel_row.with_bit.Goals as goal

pub returns-then-is_set-clause-here : goal.returns-then-is_set-clause-here
returns-then-is_set-clause-here c = rw c.if-is_set.true (bit_at_set_same w128 c.args.plane c.args.x c.requires)

pub returns-then-is_set-clause-elsewhere : goal.returns-then-is_set-clause-elsewhere
returns-then-is_set-clause-elsewhere c = λ k inside differs. bit_at_set_other w128 c.args.plane c.args.x c.requires k differs

pub returns-else-is_set-clause-here : goal.returns-else-is_set-clause-here
returns-else-is_set-clause-here c = rw c.if-is_set.false (bit_at_clear_same w128 c.args.plane c.args.x c.requires)

pub returns-else-is_set-clause-elsewhere : goal.returns-else-is_set-clause-elsewhere
returns-else-is_set-clause-elsewhere c = bit_at_clear_other w128 c.args.plane c.args.x c.requires
