use Rattle.std.proofs.Common.{◌≡◌, ◌<◌, Some, List, arith, get_or, length, sym, ap}
use Rattle.cartridge.specs.Filling.{PlannedChip}
use Rattle.cartridge.specs.Rooms.{LiesIn}
use Rattle.cartridge.proofs.PlannedChips.{has_source, source_has, no_source, rom_fits, seen-filled, still_whole}
use Rattle.cartridge.proofs.Filled.{plan_filled}
use Rattle.cartridge.proofs.plan.Plan.fill.Goals as goal
use Rattle.cartridge.proofs.plan.Plan.fill.Goals.{After-from, In-Some, in-Some, in_default}

within : (c : After-from) → c.args.chip < length c.self.inside.sources.items
within c =
    has_source c.self.inside.specs.items c.self.inside.sources.items c.args.chip
    (λ s. LiesIn s.room c.args.image.now.bytes) (rw (← c.self.view_is) at c.requires)

here : (c : In-Some) → get_or c.self.inside.sources.items c.args.chip (Some c.in-Some.rom) ≡ Some c.in-Some.rom
here c = sym (rw (c.in-Some.is, c.from.ensures) at c.index_mut.ensures.value)

pub index_mut-requires : goal.index_mut-requires
index_mut-requires c =
    let below = within (goal.at.index_mut-requires c).After-from in
    let size = c.self.inside.sources.ok.0 in
    omega (arith, below, size, c.from.ensures)

pub fill-requires-clause-inside : goal.fill-requires-clause-inside
fill-requires-clause-inside c =
    rw c.bytes.ensures
    (source_has c.self.inside.specs.items c.self.inside.sources.items c.args.chip c.in-Some.rom (λ s. LiesIn s.room c.args.image.now.bytes) c.self.invariant.0
    (within (goal.at.fill-requires-clause-inside c).After-from) (here (goal.at.fill-requires-clause-inside c).In-Some) (rw (← c.self.view_is) at c.requires))

pub fill-requires-clause-whole : goal.fill-requires-clause-whole
fill-requires-clause-whole c =
    rom_fits c.self.inside.specs.items c.self.inside.sources.items c.args.chip c.in-Some.rom c.self.invariant.1.chips.each c.self.invariant.0
    (within (goal.at.fill-requires-clause-whole c).After-from) (here (goal.at.fill-requires-clause-whole c).In-Some)

pub invariant_of-self : goal.invariant_of-self
invariant_of-self c =
    let below = within (goal.at.invariant_of-self c).After-from in
    elim c.match-index_mut.branch [
      | in-Some w ↦
          rw (w.self-inside-is, c.from.ensures)
          (still_whole c.self.inside.split c.self.inside.powers c.args.image.now.bytes c.self.inside.specs.items c.self.inside.sources.items c.args.chip
          w.in-Some.rom w.fill.new.self c.self.invariant.0 below (sym (rw (w.in-Some.is, c.from.ensures) at c.index_mut.ensures.value))
          (rw w.bytes.ensures at w.fill.ensures) c.self.invariant.1)
      | in_default w ↦
          absurd (no_source c.self.inside.specs.items c.self.inside.sources.items c.args.chip (λ s. LiesIn s.room c.args.image.now.bytes) c.self.invariant.0
          below (sym (rw (w.in_default.is, c.from.ensures) at c.index_mut.ensures.value)) (rw (← c.self.view_is) at c.requires))
    ]

pub returns-clause-plan : goal.returns-clause-plan
returns-clause-plan c =
    let below = within (goal.at.returns-clause-plan c).After-from in
    elim c.match-index_mut.branch [
      | in-Some w ↦
          rw (w.self-inside-is, c.from.ensures, ← c.self.view_is)
          (ap (λ (chips : List PlannedChip). record { split = c.self.inside.split; chips = chips; powers = c.self.inside.powers })
          (seen-filled c.args.image.now.bytes c.self.inside.specs.items c.self.inside.sources.items c.args.chip w.in-Some.rom w.fill.new.self c.self.invariant.0
          below (sym (rw (w.in-Some.is, c.from.ensures) at c.index_mut.ensures.value)) (rw w.bytes.ensures at w.fill.ensures)))
      | in_default w ↦
          absurd (no_source c.self.inside.specs.items c.self.inside.sources.items c.args.chip (λ s. LiesIn s.room c.args.image.now.bytes) c.self.invariant.0
          below (sym (rw (w.in_default.is, c.from.ensures) at c.index_mut.ensures.value)) (rw (← c.self.view_is) at c.requires))
    ]

pub returns-clause-image : goal.returns-clause-image
returns-clause-image c = rw (returns-clause-plan c) (plan_filled c.args.self.now c.args.chip c.args.image.now.bytes c.requires)
