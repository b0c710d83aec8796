use Rattle.std.proofs.Common.{◌≡◌, sym, ap, ◌∙◌}
use Rattle.std.specs.Prelude.{option_map}
use Rattle.cartridge.specs.declared.rom_source.SourceRom.{SourceRom}
use Rattle.cartridge.specs.Filling.{source_at}
use Rattle.cartridge.specs.Plans.{seen_source}
use Rattle.cartridge.proofs.PlannedChips.{source_seen, no_chip}
use Rattle.cartridge.proofs.plan.Plan.source_of.Goals as goal
use Rattle.cartridge.proofs.plan.Plan.source_of.Goals.{In_ok-get}

-- the source that stands beside the chip
seen_here : (c : In_ok-get) → option_map (λ (rom : SourceRom). seen_source rom.source) c.in_ok-get.field-0.now ≡ source_at c.args.self.now c.args.chip
seen_here c =
    let read = c.in_ok-get.ensures.lookup in
    rw (← c.self.view_is)
    (sym (source_seen c.self.inside.specs.items c.self.inside.sources.items c.args.chip c.in_ok-get.field-0.now c.self.invariant.0
    (rw (c.deref.ensures.value, c.from.ensures) at read.3.0) (sym (rw (c.deref.ensures.value, c.from.ensures) at read.1))))

pub returns-in_err-get : goal.returns-in_err-get
returns-in_err-get c =
    rw (c.from_residual.ensures, ← c.self.view_is)
    (sym (no_chip c.self.inside.specs.items c.self.inside.sources.items c.args.chip
    (rw (c.deref.ensures.value, c.from.ensures) at c.in_err-get.ensures.lookup.3)))

pub returns-in_err-rom : goal.returns-in_err-rom
returns-in_err-rom c =
    rw c.from_residual-in_err-rom.ensures
    (ap (option_map (λ (rom : SourceRom). seen_source rom.source)) c.in_err-rom.ensures.value ∙ seen_here (goal.at.returns-in_err-rom c).In_ok-get)

pub returns : goal.returns
returns c =
    ap (option_map (λ (rom : SourceRom). seen_source rom.source)) c.in_ok-rom.ensures.value ∙ seen_here (goal.at.returns c).In_ok-get
