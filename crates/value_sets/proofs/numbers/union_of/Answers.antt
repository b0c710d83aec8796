-- The loop ends with the whole union, or where the list so far has no room.
use Rattle.std.proofs.Common.{◌≡◌, ◌<◌, ◌+◌, ℕ, false, nat_le, drop, sym, ◌∙◌, arith}
use Rattle.std.specs.Prelude.{slice_index}
use Rattle.value_sets.specs.ValueSets.{with_number}
use Rattle.value_sets.proofs.Unions.{few_enough, too_many, union_end, union_step}
use Rattle.value_sets.proofs.numbers.union_of.Goals as goal

over : (x y : ℕ) → nat_le x y ≡ false → y < x
over x y not = grind arith

pub returns-then-not-add_number : goal.returns-then-not-add_number
returns-then-not-add_number g c =
    let list = c.loop-number.numbers.items in
    let more = c.args.more.now in
    let place = c.loop-number.number-index in
    too_many g.row.N (with_number list (slice_index more place)) (drop (place + 1) more) c.args.numbers.items more
    (union_step list more c.args.numbers.items more place c.loop-number-test.true c.loop-number.invariant)
    (over _ g.row.N (sym c.add_number.ensures.room ∙ c.if-not-add_number.true))

pub returns : goal.returns
returns g c =
    let list = c.loop-number.numbers.items in
    let more = c.args.more.now in
    few_enough g.row.N list c.args.numbers.items more
    (union_end list more c.args.numbers.items more c.loop-number.number-index c.loop-number-test.false c.loop-number.invariant)
    (omega (arith, c.len.ensures.value, c.if-prove.false))
