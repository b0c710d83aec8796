use Rattle.std.proofs.Common.{◌≡◌, map, ap, ◌∙◌, arith}
use Rattle.std.proofs.lemmas.Iterator.Adapters.{YieldsList-from_vec}
use Rattle.std.proofs.lemmas.Iterator.Consumers.{YieldsList-end}
use Rattle.std.proofs.lemmas.List.{length-map}
use Rattle.cartridge.specs.Filling.{planned_chip, power_of, plan_without_images}
use Rattle.cartridge.specs.Plans.{seen_chip, seen_chips, seen_plan, seen_cart}
use Rattle.cartridge.proofs.PlannedChips.{plans_more, plans_all, all_powers}
use Rattle.cartridge.proofs.plan.plan_of.Goals as goal
use Rattle.cartridge.proofs.plan.plan_of.Goals.{In-None}

all_read : (c : In-None) → seen_chips c.loop-chip.specs.items c.loop-chip.sources.items ≡ map planned_chip (map seen_chip c.args.cart.chips.items)
all_read c =
    let gives = c.into_iter-chip-iterator.ensures.into_iter_gives in
    let read = YieldsList-end (YieldsList-from_vec
    {s = c.into_iter-chip-iterator.result} c.args.cart.chips.items gives.0 (gives.1 ∙ c.args.cart.chips.ok.0))
    c.loop-chip.yielded c.loop-chip.chip-iterator c.loop-chip.yielded_by
    c.next.result c.next.new.self c.in-None.is c.next.ensures.steps in
    plans_all c.args.cart.chips.items c.loop-chip.yielded c.loop-chip.specs.items c.loop-chip.sources.items read.0 c.loop-chip.invariant

all_said : (c : In-None) → c.powers_of-powers.result ≡ map power_of (map seen_chip c.args.cart.chips.items)
all_said c =
    rw c.as_slice.ensures.value at c.powers_of-powers.ensures ∙ all_powers c.args.cart.chips.items

-- the plan is that of the description
is_plan : (c : In-None) → seen_plan c.args.cart.split c.loop-chip.specs.items c.loop-chip.sources.items c.powers_of-powers.result
    ≡ plan_without_images (seen_cart c.args.cart)
is_plan c =
    ap (λ (chips : _). record { split = c.args.cart.split; chips = chips; powers = c.powers_of-powers.result }) (all_read c)
    ∙ ap (λ (powers : _). record { split = c.args.cart.split; chips = map planned_chip (map seen_chip c.args.cart.chips.items); powers = powers }) (all_said c)

pub powers_of-powers-requires : goal.powers_of-powers-requires
powers_of-powers-requires c =
    let few = c.requires.chips.few in
    let planned = length-map (map seen_chip c.args.cart.chips.items) planned_chip in
    let seen = length-map c.args.cart.chips.items seen_chip in
    rw c.as_slice.ensures.value (omega (arith, few, planned, seen))

pub loop-chip-preserved : goal.loop-chip-preserved
loop-chip-preserved c =
    rw (c.in_ok-push.ensures.items, c.in_ok-push-2.ensures.items)
    (plans_more c.loop-chip.yielded c.loop-chip.specs.items c.loop-chip.sources.items c.in-Some.chip c.in_ok-unfilled_rom.field-0 c.loop-chip.invariant
    c.in_ok-unfilled_rom.ensures)

pub invariant_of-result : goal.invariant_of-result
invariant_of-result c = (c.loop-chip.invariant.paired, rw (is_plan (goal.at.invariant_of-result c).In-None) c.requires)

pub returns : goal.returns
returns c = is_plan (goal.at.returns c).In-None
