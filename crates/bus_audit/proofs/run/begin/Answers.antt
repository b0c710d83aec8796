-- The chips have lived up to reset, and through it.
use Rattle.std.proofs.Common.{length, map, filter, refl, ap, sym, ◌∙◌, arith}
use Rattle.std.specs.Prelude.{sum_by}
use Rattle.std.proofs.lemmas.List.{length-map}
use Rattle.console_spec.specs.Scripts.{events_at}
use Rattle.rack_run.proofs.AskingLaws.{none_asked, power_asks}
use Rattle.bus_audit.specs.Answers.{steps_of}
use Rattle.bus_audit.specs.Audits.{beginning}
use Rattle.bus_audit.specs.FreeRuns.{is_own_key}
use Rattle.bus_audit.specs.ReadInputs.{read_key}
use Rattle.bus_audit.proofs.LivedLaws.{lives_begun, lives_reset}
use Rattle.bus_audit.proofs.TakenLaws.{outer_own, outer_key}
use Rattle.bus_audit.proofs.run.begin.Goals as goal

pub returns-clause-lived : goal.returns-clause-lived
returns-clause-lived g c =
    let olds = map (λ b. (goal.Chip-dyn g (b.vtable, b.value)).state b.value) c.args.rack.now.items in
    let powered = map (λ b. (goal.Chip-dyn g (b.vtable, b.value)).state b.value) c.power-machine.new.rack.items in
    let owns = map (λ b. (goal.Chip-dyn g (b.vtable, b.value)).state b.value) c.come_own.new.rack.items in
    let firsts = map (λ b. (goal.Chip-dyn g (b.vtable, b.value)).state b.value) c.come_first.new.rack.items in
    let news = map (λ b. (goal.Chip-dyn g (b.vtable, b.value)).state b.value) c.take_reset-turn.new.rack.items in
    let before = sum_by (λ b. (goal.Chip-dyn g (b.vtable, b.value)).queries b.value) c.args.rack.now.items in
    let asked = sum_by (λ b. (goal.Chip-dyn g (b.vtable, b.value)).queries b.value) c.come_first.new.rack.items in
    let later = sum_by (λ b. (goal.Chip-dyn g (b.vtable, b.value)).queries b.value) c.take_reset-turn.new.rack.items in
    let first = beginning c.args.script.now.power c.args.chain c.args.powers.now (steps_of c.args.told.now) olds before in
    let chips = length c.come_first.new.rack.items in
    let m0 = c.power-machine.result in
    let m2 = c.come_first.new.machine in
    let same = c.come_first.ensures.chips ∙ c.come_own.ensures.chips ∙ c.power-machine.ensures.chips in
    let none = none_asked (λ b. (goal.Chip-dyn g (b.vtable, b.value)).queries b.value) c.power-machine.new.rack.items c.come_first.new.rack.items
    (c.come_first.ensures.asked ∙ c.come_own.ensures.asked) in
    let most = power_asks (λ b. (goal.Chip-dyn g (b.vtable, b.value)).queries b.value) c.args.rack.now.items c.power-machine.new.rack.items
    c.power-machine.ensures.asked in
    let begun =
    lives_begun first powered owns firsts chips asked m0 c.come_own.new.machine m2 (filter is_own_key (events_at 0 c.as_slice.result.now))
    (read_key (steps_of c.behind_reset.result.now)) c.power-machine.ensures.powered
    (same ∙ sym (length-map c.args.rack.now.items (λ b. (goal.Chip-dyn g (b.vtable, b.value)).state b.value)))
    c.power-machine.ensures.marks c.power-machine.ensures.parted (ap (λ m. m.chain) c.power-machine.ensures.machine)
    (omega (arith, none, most, same)) c.come_own.ensures.comes c.come_first.ensures.comes (outer_own (events_at 0 c.as_slice.result.now))
    (outer_key (steps_of c.behind_reset.result.now)) (ap read_key c.behind_reset.ensures) in
    lives_reset first 0 chips m2.index firsts asked begun.0 begun.1 c.take_reset-turn.result (length c.take_reset-turn.new.rack.items) later
    c.take_reset-turn.new.machine.index news (steps_of c.args.told.now) refl c.take_reset-turn.ensures.chips c.take_reset-turn.ensures.hears
