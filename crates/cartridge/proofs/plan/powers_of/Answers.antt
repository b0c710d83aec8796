use Rattle.std.proofs.Common.{◌++◌, [], ◌∷◌, List, map, take, length, sym, ap, ◌∙◌, arith}
use Rattle.std.proofs.lemmas.List.{length-map, length-take-le, map_more, take_all}
use Rattle.f8_spec.specs.declared.chips.PowerOn.{PowerOn}
use Rattle.cartridge.specs.declared.chip_table.ChipPlan.{ChipPlan}
use Rattle.cartridge.specs.Filling.{power_of}
use Rattle.cartridge.specs.Plans.{seen_chip}
use Rattle.cartridge.proofs.plan.powers_of.Goals as goal

abbrev said : ChipPlan → PowerOn
said chip = power_of (seen_chip chip)

pub push-requires : goal.push-requires
push-requires c =
    let held = ap length c.loop-chip.invariant in
    let mapped = length-map (take c.loop-chip.chip-index c.args.chips.now) said in
    let taken = length-take-le c.loop-chip.chip-index c.args.chips.now (omega arith) in
    omega (arith, held, mapped, taken, c.requires)

pub loop-chip-preserved : goal.loop-chip-preserved
loop-chip-preserved c =
    c.push.ensures
    ∙ ap (λ (powers : List PowerOn). powers ++ c.chip-item.result.power ∷ []) c.loop-chip.invariant
    ∙ ap (λ (chip : ChipPlan). map said (take c.loop-chip.chip-index c.args.chips.now) ++ said chip ∷ []) c.chip-item.is
    ∙ sym (map_more said c.args.chips.now c.loop-chip.chip-index c.chip-item.result c.loop-chip-test.true)

pub returns : goal.returns
returns c =
    c.loop-chip.invariant ∙ ap (map said) (take_all c.loop-chip.chip-index c.args.chips.now (omega arith))
