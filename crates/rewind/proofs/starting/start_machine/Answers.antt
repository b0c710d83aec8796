-- Power-on, and then reset.
use Rattle.std.proofs.Common.{◌<◌, ◌∙◌, length, map, refl, rules}
use Rattle.std.proofs.lemmas.List.{length-map}
use Rattle.data_bus.specs.Racks.{views}
use Rattle.rack_run.proofs.AskingLaws.{power_asks}
use Rattle.rewind.specs.Reached.{powered_on}
use Rattle.rewind.specs.Standing.{IsReady}
use Rattle.rewind.proofs.PatchLaws.{powered_patches, ran_patches}
use Rattle.rewind.proofs.RackLaws.{racks_forget}
use Rattle.rewind.proofs.Starts.{powered_shows, reset_at, reset_outcome, start_asks}
use Rattle.rewind.proofs.starting.start_machine.Goals as goal

pub returns-clause-there : goal.returns-clause-there
returns-clause-there g c = λ whole ports.
    let olds = map (λ b. (goal.Chip-dyn g (b.vtable, b.value)).state b.value) c.args.rack.now.items in
    let begins = c.power-machine.ensures.pair whole ports in
    let ready : IsReady olds = record { whole = whole; free = ports } in
    let small : c.args.fill < 256 = search rules in
    let shows = powered_shows c.args.fill c.args.chain c.args.powers.now c.power-machine.result.index c.power-machine.result
    olds _ small c.powers_law.ensures c.power-machine.ensures.marks c.power-machine.ensures.machine c.power-machine.ensures.powered ready in
    reset_at (powered_on c.args.fill c.args.chain c.args.powers.now (views olds)) c.power-machine.result c.reset-outcome.new.self _ _
    shows refl begins c.reset-outcome.result c.reset-outcome.ensures.follows c.reset-outcome.ensures.bytes
    (c.reset-outcome.ensures.refines _ begins)

pub returns-clause-outcome : goal.returns-clause-outcome
returns-clause-outcome g c = λ whole ports.
    let olds = map (λ b. (goal.Chip-dyn g (b.vtable, b.value)).state b.value) c.args.rack.now.items in
    let begins = c.power-machine.ensures.pair whole ports in
    let ready : IsReady olds = record { whole = whole; free = ports } in
    let small : c.args.fill < 256 = search rules in
    let shows = powered_shows c.args.fill c.args.chain c.args.powers.now c.power-machine.result.index c.power-machine.result
    olds _ small c.powers_law.ensures c.power-machine.ensures.marks c.power-machine.ensures.machine c.power-machine.ensures.powered ready in
    reset_outcome (powered_on c.args.fill c.args.chain c.args.powers.now (views olds)) c.power-machine.result c.reset-outcome.new.self _ _
    shows refl begins c.reset-outcome.result (c.reset-outcome.ensures.refines _ begins) refl

pub returns-clause-alike : goal.returns-clause-alike
returns-clause-alike g c = λ first alike.
    racks_forget.steps _ _ _ first c.reset-outcome.ensures.follows.ran
    (racks_forget.power c.args.fill c.args.chain c.args.powers.now _ _ first c.power-machine.ensures.powered alike)

pub returns-clause-asked : goal.returns-clause-asked
returns-clause-asked g c = λ whole ports.
    let olds = map (λ b. (goal.Chip-dyn g (b.vtable, b.value)).state b.value) c.args.rack.now.items in
    let mids = c.power-machine.new.rack.items in
    let begins = c.power-machine.ensures.pair whole ports in
    let ready : IsReady olds = record { whole = whole; free = ports } in
    let small : c.args.fill < 256 = search rules in
    let shows = powered_shows c.args.fill c.args.chain c.args.powers.now c.power-machine.result.index c.power-machine.result
    olds _ small c.powers_law.ensures c.power-machine.ensures.marks c.power-machine.ensures.machine c.power-machine.ensures.powered ready in
    let refines = c.reset-outcome.ensures.refines _ begins in
    let on = powered_on c.args.fill c.args.chain c.args.powers.now (views olds) in
    let at = reset_at on c.power-machine.result c.reset-outcome.new.self _ _ shows refl begins c.reset-outcome.result
    c.reset-outcome.ensures.follows c.reset-outcome.ensures.bytes refines in
    let is = reset_outcome on c.power-machine.result c.reset-outcome.new.self _ _ shows refl begins c.reset-outcome.result refines refl in
    let power = power_asks (λ b. (goal.Chip-dyn g (b.vtable, b.value)).queries b.value) c.args.rack.now.items mids
    c.power-machine.ensures.asked in
    let rooms = rw (← c.power-machine.ensures.chips) at power in
    start_asks (length mids) c.args.fill c.args.chain c.args.powers.now c.reset-outcome.result c.power-machine.result
    c.reset-outcome.new.self olds _ _
    (length-map mids (λ b. (goal.Chip-dyn g (b.vtable, b.value)).state b.value))
    (length-map c.reset-outcome.new.rack.items (λ b. (goal.Chip-dyn g (b.vtable, b.value)).state b.value) ∙ c.reset-outcome.ensures.chips)
    shows c.reset-outcome.ensures.follows refines at is c.power-machine.ensures.fits c.reset-outcome.ensures.fits _ _ _ rooms
    c.reset-outcome.ensures.asked

pub returns-clause-patches : goal.returns-clause-patches
returns-clause-patches g c =
    ran_patches _ _ _ c.reset-outcome.ensures.follows.ran
    ∙ powered_patches c.args.fill c.args.chain c.args.powers.now _ _ c.power-machine.ensures.powered
