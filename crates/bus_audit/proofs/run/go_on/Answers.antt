-- The instruction's steps are the trace's next, and the inputs come behind it.
use Rattle.std.proofs.Common.{length, map, refl, ◌∙◌}
use Rattle.std.specs.Prelude.{sum_by}
use Rattle.pad_script.specs.Reading.{seen}
use Rattle.rack_run.proofs.AskingLaws.{none_asked}
use Rattle.bus_audit.specs.Answers.{steps_of}
use Rattle.bus_audit.specs.FreeRuns.{own_fallen}
use Rattle.bus_audit.specs.Inputs.{frame_between}
use Rattle.bus_audit.proofs.AuditLaws.{rest_told, goes_reading}
use Rattle.bus_audit.proofs.LivedLaws.{lives_read, lives_over}
use Rattle.bus_audit.proofs.TakenLaws.{outer_fallen}
use Rattle.bus_audit.proofs.run.go_on.Goals as goal

pub returns-in-Onward-clause-turns : goal.returns-in-Onward-clause-turns
returns-in-Onward-clause-turns g c = λ x r.
    let mids = map (λ b. (goal.Chip-dyn g (b.vtable, b.value)).state b.value) c.take_turn-turn.new.rack.items in
    let owns = map (λ b. (goal.Chip-dyn g (b.vtable, b.value)).state b.value) c.come_behind.new.rack.items in
    let news = map (λ b. (goal.Chip-dyn g (b.vtable, b.value)).state b.value) c.come_read.new.rack.items in
    goes_reading (seen c.args.script.now) x (steps_of c.args.rest.now) c.in-Onward.told c.take_turn-turn.new.machine c.come_behind.new.machine
    c.come_read.new.machine mids owns news c.phi-before.result _
    (rest_told c.args.rest.now c.args.rest.now c.in-Onward.told refl) (c.phi-before.ensures ∙ r.stands.phi) (c.in-Onward.ensures.turns x r)
    c.come_behind.ensures.comes c.come_read.ensures.comes

pub returns-in-Onward-clause-lived : goal.returns-in-Onward-clause-lived
returns-in-Onward-clause-lived g c = λ first count chain same so_far.
    let olds = map (λ b. (goal.Chip-dyn g (b.vtable, b.value)).state b.value) c.args.rack.now.items in
    let mids = map (λ b. (goal.Chip-dyn g (b.vtable, b.value)).state b.value) c.take_turn-turn.new.rack.items in
    let owns = map (λ b. (goal.Chip-dyn g (b.vtable, b.value)).state b.value) c.come_behind.new.rack.items in
    let news = map (λ b. (goal.Chip-dyn g (b.vtable, b.value)).state b.value) c.come_read.new.rack.items in
    let now = sum_by (λ b. (goal.Chip-dyn g (b.vtable, b.value)).queries b.value) c.args.rack.now.items in
    let mid_now = sum_by (λ b. (goal.Chip-dyn g (b.vtable, b.value)).queries b.value) c.take_turn-turn.new.rack.items in
    let later = sum_by (λ b. (goal.Chip-dyn g (b.vtable, b.value)).queries b.value) c.come_read.new.rack.items in
    let m1 = c.take_turn-turn.new.machine in
    let m2 = c.come_behind.new.machine in
    lives_read first count (length c.args.rack.now.items) c.args.machine.now.index olds now so_far.0 so_far.1 c.in-Onward.told
    (length c.come_read.new.rack.items) mid_now later m1 m2 c.come_read.new.machine mids owns news
    (own_fallen (seen c.args.script.now) (frame_between c.phi-before.result m1.phi)) _ (steps_of c.args.rest.now) same
    (rest_told c.args.rest.now c.args.rest.now c.in-Onward.told refl)
    (c.come_read.ensures.chips ∙ c.come_behind.ensures.chips ∙ c.take_turn-turn.ensures.chips)
    (none_asked (λ b. (goal.Chip-dyn g (b.vtable, b.value)).queries b.value) c.take_turn-turn.new.rack.items c.come_read.new.rack.items
    (c.come_read.ensures.asked ∙ c.come_behind.ensures.asked))
    (c.take_turn-turn.ensures.chain ∙ chain) (outer_fallen (seen c.args.script.now) (frame_between c.phi-before.result m1.phi))
    c.in-Onward.ensures.hears c.come_behind.ensures.comes c.come_read.ensures.comes

pub returns-in_default-clause-lived : goal.returns-in_default-clause-lived
returns-in_default-clause-lived g c = λ first count chain same so_far.
    let olds = map (λ b. (goal.Chip-dyn g (b.vtable, b.value)).state b.value) c.args.rack.now.items in
    let news = map (λ b. (goal.Chip-dyn g (b.vtable, b.value)).state b.value) c.take_turn-turn.new.rack.items in
    let now = sum_by (λ b. (goal.Chip-dyn g (b.vtable, b.value)).queries b.value) c.args.rack.now.items in
    let later = sum_by (λ b. (goal.Chip-dyn g (b.vtable, b.value)).queries b.value) c.take_turn-turn.new.rack.items in
    lives_over first count (length c.args.rack.now.items) c.args.machine.now.index olds now so_far.0 c.take_turn-turn.result
    c.in_default.not-Onward (length c.take_turn-turn.new.rack.items) later c.take_turn-turn.new.machine.index news (steps_of c.args.rest.now) same
    c.take_turn-turn.ensures.hears
