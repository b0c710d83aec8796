-- A turn appends the chip of its number, and twelve are the chips of a description.
use Rattle.std.proofs.Common.{◌≡◌, refl, arith}
use Rattle.std.proofs.lemmas.List.FromFn.{map-range_with_len_more}
use Rattle.console_spec.specs.Generator.{generated}
use Rattle.generator.specs.GeneratedChips.{chip_at, chips_of_seed}
use Rattle.generator.proofs.ChipLaws.{chips-are_listed}
use Rattle.generator.proofs.DrawLaws.{length-generated}
use Rattle.generator.proofs.chips.chips_of_seed.Goals as goal

pub chip_at-requires-clause-bytes : goal.chip_at-requires-clause-bytes
chip_at-requires-clause-bytes c =
    let whole = length-generated c.args.seed in
    rw (c.deref.ensures.value, c.in_ok-bytes.ensures) (omega (arith, whole))

pub loop-number-preserved : goal.loop-number-preserved
loop-number-preserved c =
    let more = map-range_with_len_more (chip_at (generated c.args.seed)) 0 c.loop-number.number c.loop-number.number (omega arith) in
    rw (c.in_ok-push.ensures.items, c.in_ok-chip_at.ensures, c.deref.ensures.value, c.in_ok-bytes.ensures, c.loop-number.invariant, more) refl

pub from_vec-requires : goal.from_vec-requires
from_vec-requires c =
    let all : c.loop-number.number ≡ 12 = omega arith in
    rw (c.loop-number.invariant, all) (chips-are_listed (generated c.args.seed) (length-generated c.args.seed))

pub returns : goal.returns
unfolding chips_of_seed
returns c =
    let all : c.loop-number.number ≡ 12 = omega arith in
    rw (c.from_vec.ensures, c.loop-number.invariant, all) refl
