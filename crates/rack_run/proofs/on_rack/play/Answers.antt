-- Power-on, the events of frame 0 and reset, and what reset leads to.
use Rattle.std.proofs.Common.{◌∙◌, length, map, sym, ap, subst}
use Rattle.std.specs.Prelude.{sum_by}
use Rattle.std.proofs.lemmas.List.{length-map}
use Rattle.std.proofs.lemmas.Result.{err_from_is_err_and}
use Rattle.console_spec.specs.Telling.{begun, on_rack}
use Rattle.data_bus.specs.Racks.{views}
use Rattle.f8_machine.specs.Questions.{allowances}
use Rattle.pad_script.specs.Reading.{seen}
use Rattle.rack_run.specs.Asking.{AsksWithin, run_allowed, tried_codes}
use Rattle.rack_run.specs.Texts.{is_traced}
use Rattle.rack_run.specs.Turns.{rest_on}
use Rattle.rack_run.proofs.AskingLaws.{power_asks}
use Rattle.rack_run.proofs.MachineAsking.{reset_codes, reset_on, reset_within}
use Rattle.rack_run.proofs.Outcomes.{reset_is, reset_heard}
use Rattle.rack_run.proofs.PlayAsking.{asked_ok, play_first, play_then}
use Rattle.rack_run.proofs.PlayLaws.{plays_cut, plays_not, plays_ok, plays_err, keeps_new, after_writes, after_count}
use Rattle.rack_run.proofs.PlayLaws.{quiet_writes, quiet_count, powered_reads, going_codes, stopped_codes}
use Rattle.rack_run.proofs.MachineTurns.{reads_kept}
use Rattle.rack_run.proofs.on_rack.play.Goals as goal

pub reset-outcome-requires-clause-mode : goal.reset-outcome-requires-clause-mode
reset-outcome-requires-clause-mode g c =
    (c.happen_at.ensures.begins _ (c.power-machine.ensures.pair c.requires.whole c.requires.ports)).powered

pub returns-in_err-tell_outcome-clause-failed : goal.returns-in_err-tell_outcome-clause-failed
returns-in_err-tell_outcome-clause-failed g c =
    let p = err_from_is_err_and c.from_residual.result c.from_residual.ensures.1 in
    let powered = c.happen_at.ensures.begins _ (c.power-machine.ensures.pair c.requires.whole c.requires.ports) in
    let refines = c.reset-outcome.ensures.refines _ (rw c.as_slice.ensures.events at powered) in
    rw p.1
    (plays_cut c.args.detail (seen c.args.script.now) c.args.chain c.args.powers.now _ _ c.power-machine.ensures.powered _ _
    (rw c.as_slice.ensures.events
    at (c.happen_at.ensures.came_first _ (c.power-machine.ensures.pair c.requires.whole c.requires.ports))) _
    (reset_heard c.reset-outcome.result _ _ _ _ refines) c.reset-outcome.ensures.follows.ran _
    (reset_is c.args.detail c.reset-outcome.result _ _ _ _ refines) _ _ _
    (play_first _ (length c.args.rack.now.items) _ _ _ _ _ c.power-machine.result.index c.happen_at.new.player.index
    (sym (length-map c.args.rack.now.items (λ b. (goal.Chip-dyn g (b.vtable, b.value)).state b.value)))
    c.power-machine.ensures.chips c.happen_at.ensures.chips c.power-machine.ensures.marks c.power-machine.ensures.parted
    (power_asks (λ b. (goal.Chip-dyn g (b.vtable, b.value)).queries b.value) c.args.rack.now.items _ c.power-machine.ensures.asked)
    c.happen_at.ensures.asked _
    (reset_codes (begun (views (map (λ b. (goal.Chip-dyn g (b.vtable, b.value)).state b.value) c.args.rack.now.items)) c.args.chain c.args.powers.now
    (seen c.args.script.now)))
    (reset_within _ c.reset-outcome.result c.happen_at.new.player c.reset-outcome.new.self _ _ _ _ refines
    c.reset-outcome.ensures.asked))
    c.in_err-tell_outcome.ensures.some c.in_err-tell_outcome.ensures.err)

pub returns-in-Done-clause-plays : goal.returns-in-Done-clause-plays
returns-in-Done-clause-plays g c =
    let powered = c.happen_at.ensures.begins _ (c.power-machine.ensures.pair c.requires.whole c.requires.ports) in
    let refines = c.reset-outcome.ensures.refines _ (rw c.as_slice.ensures.events at powered) in
    let done = rw c.in-Done.is at refines in
    let script = seen c.args.script.now in
    let keeps =
    keeps_new c.phi.result done.after.flat.state
    (after_writes c.args.detail script c.args.chain c.args.powers.now _ _ c.power-machine.ensures.powered done.after done.turns)
    (after_count c.args.detail script c.args.chain c.args.powers.now _ _ c.power-machine.ensures.powered done.after done.turns)
    (c.phi.ensures ∙ done.represents.stands.phi) in
    plays_ok c.args.detail script c.args.chain c.args.powers.now _ _ c.power-machine.ensures.powered _ _
    (rw c.as_slice.ensures.events
    at (c.happen_at.ensures.came_first _ (c.power-machine.ensures.pair c.requires.whole c.requires.ports))) _
    (reset_heard c.reset-outcome.result _ _ _ _ refines) c.reset-outcome.ensures.follows.ran _
    (reset_is c.args.detail c.reset-outcome.result _ _ _ _ refines) _ _ c.in_ok-tell_outcome.ensures.ok
    done.after done.turns _ _ c.run.result
    (c.run.ensures.out done.after done.represents (rw c.new-progress.ensures keeps))

pub returns-in-Done-clause-failed : goal.returns-in-Done-clause-failed
returns-in-Done-clause-failed g c =
    let powered = c.happen_at.ensures.begins _ (c.power-machine.ensures.pair c.requires.whole c.requires.ports) in
    let refines = c.reset-outcome.ensures.refines _ (rw c.as_slice.ensures.events at powered) in
    let done = rw c.in-Done.is at refines in
    let script = seen c.args.script.now in
    let keeps =
    keeps_new c.phi.result done.after.flat.state
    (after_writes c.args.detail script c.args.chain c.args.powers.now _ _ c.power-machine.ensures.powered done.after done.turns)
    (after_count c.args.detail script c.args.chain c.args.powers.now _ _ c.power-machine.ensures.powered done.after done.turns)
    (c.phi.ensures ∙ done.represents.stands.phi) in
    plays_err c.args.detail script c.args.chain c.args.powers.now _ _ c.power-machine.ensures.powered _ _
    (rw c.as_slice.ensures.events
    at (c.happen_at.ensures.came_first _ (c.power-machine.ensures.pair c.requires.whole c.requires.ports))) _
    (reset_heard c.reset-outcome.result _ _ _ _ refines) c.reset-outcome.ensures.follows.ran _
    (reset_is c.args.detail c.reset-outcome.result _ _ _ _ refines) _ _ c.in_ok-tell_outcome.ensures.ok
    done.after done.turns _ _ _ _
    (λ codes within. play_then _ (length c.args.rack.now.items) _ _ _ _ _ c.power-machine.result.index c.happen_at.new.player.index
    (sym (length-map c.args.rack.now.items (λ b. (goal.Chip-dyn g (b.vtable, b.value)).state b.value)))
    c.power-machine.ensures.chips c.happen_at.ensures.chips c.power-machine.ensures.marks c.power-machine.ensures.parted
    (power_asks (λ b. (goal.Chip-dyn g (b.vtable, b.value)).queries b.value) c.args.rack.now.items _ c.power-machine.ensures.asked)
    c.happen_at.ensures.asked _ _ _ c.reset-outcome.new.self.index
    (reset_codes (begun (views (map (λ b. (goal.Chip-dyn g (b.vtable, b.value)).state b.value) c.args.rack.now.items)) c.args.chain c.args.powers.now
    (seen c.args.script.now))) codes c.reset-outcome.ensures.chips
    (reset_on _ c.reset-outcome.result c.happen_at.new.player c.reset-outcome.new.self _ _ _ _ refines
    c.reset-outcome.ensures.asked _ _ _ c.in-Done.is c.reset-outcome.ensures.follows) within)
    c.run.result
    (c.run.ensures.short done.after done.represents (rw c.new-progress.ensures keeps))

pub returns-in-Fault-clause-plays : goal.returns-in-Fault-clause-plays
returns-in-Fault-clause-plays g c =
    let powered =
    rw c.as_slice.ensures.events
    at (c.happen_at.ensures.begins _ (c.power-machine.ensures.pair c.requires.whole c.requires.ports)) in
    let refines = c.reset-outcome.ensures.refines _ powered in
    let faulted = rw c.in-Fault.is at refines in
    let script = seen c.args.script.now in
    let reads =
    reads_kept c.happen_at.new.player c.reset-outcome.new.self (ap (λ m. m.flow) faulted.kept)
    (ap (λ m. m.cpu) faulted.kept)
    (ap (λ m. m.phi) faulted.kept) ∙ powered_reads c.happen_at.new.player _ _ powered in
    let keeps =
    keeps_new c.phi.result _ (quiet_writes c.args.detail script c.args.chain c.args.powers.now _ _ c.power-machine.ensures.powered)
    (quiet_count c.args.detail script c.args.chain c.args.powers.now _ _ c.power-machine.ensures.powered)
    (c.phi.ensures ∙ ap (λ r. r.phi) reads) in
    plays_not c.args.detail script c.args.chain c.args.powers.now _ _ c.power-machine.ensures.powered _ _
    (rw c.as_slice.ensures.events
    at (c.happen_at.ensures.came_first _ (c.power-machine.ensures.pair c.requires.whole c.requires.ports))) _
    (reset_heard c.reset-outcome.result _ _ _ _ refines) c.reset-outcome.ensures.follows.ran _
    (reset_is c.args.detail c.reset-outcome.result _ _ _ _ refines) _ _
    c.ending.result _ faulted.turns (c.ending.ensures _ reads (rw c.new-progress.ensures keeps))
    c.in_ok-tell_outcome.ensures.ok

pub returns-in-Done-clause-asked : goal.returns-in-Done-clause-asked
returns-in-Done-clause-asked g c =
    let powered = c.happen_at.ensures.begins _ (c.power-machine.ensures.pair c.requires.whole c.requires.ports) in
    let refines = c.reset-outcome.ensures.refines _ (rw c.as_slice.ensures.events at powered) in
    let done = rw c.in-Done.is at refines in
    let script = seen c.args.script.now in
    let keeps =
    keeps_new c.phi.result done.after.flat.state
    (after_writes c.args.detail script c.args.chain c.args.powers.now _ _ c.power-machine.ensures.powered done.after done.turns)
    (after_count c.args.detail script c.args.chain c.args.powers.now _ _ c.power-machine.ensures.powered done.after done.turns)
    (c.phi.ensures ∙ done.represents.stands.phi) in
    asked_ok c.run.result (AsksWithin
    (run_allowed (map (λ b. (goal.Chip-dyn g (b.vtable, b.value)).state b.value) c.args.rack.now.items))
    (sum_by (λ b. (goal.Chip-dyn g (b.vtable, b.value)).queries b.value) c.args.rack.now.items)
    (sum_by (λ b. (goal.Chip-dyn g (b.vtable, b.value)).queries b.value) c.run.new.rack.items))
    (AsksWithin (λ l. allowances (length c.reset-outcome.new.rack.items) c.reset-outcome.new.self.index l)
    (sum_by (λ b. (goal.Chip-dyn g (b.vtable, b.value)).queries b.value) c.reset-outcome.new.rack.items)
    (sum_by (λ b. (goal.Chip-dyn g (b.vtable, b.value)).queries b.value) c.run.new.rack.items))
    (tried_codes (rest_on (on_rack (is_traced c.args.detail)) (seen c.args.script.now) done.after)) _
    (reset_codes (begun (views (map (λ b. (goal.Chip-dyn g (b.vtable, b.value)).state b.value) c.args.rack.now.items)) c.args.chain c.args.powers.now
    (seen c.args.script.now)))
    (going_codes c.args.detail script c.args.chain c.args.powers.now _ _ c.power-machine.ensures.powered done.after done.turns)
    (λ codes within. play_then _ (length c.args.rack.now.items) _ _ _ _ _ c.power-machine.result.index c.happen_at.new.player.index
    (sym (length-map c.args.rack.now.items (λ b. (goal.Chip-dyn g (b.vtable, b.value)).state b.value)))
    c.power-machine.ensures.chips c.happen_at.ensures.chips c.power-machine.ensures.marks c.power-machine.ensures.parted
    (power_asks (λ b. (goal.Chip-dyn g (b.vtable, b.value)).queries b.value) c.args.rack.now.items _ c.power-machine.ensures.asked)
    c.happen_at.ensures.asked _ _ _ c.reset-outcome.new.self.index
    (reset_codes (begun (views (map (λ b. (goal.Chip-dyn g (b.vtable, b.value)).state b.value) c.args.rack.now.items)) c.args.chain c.args.powers.now
    (seen c.args.script.now))) codes c.reset-outcome.ensures.chips
    (reset_on _ c.reset-outcome.result c.happen_at.new.player c.reset-outcome.new.self _ _ _ _ refines
    c.reset-outcome.ensures.asked _ _ _ c.in-Done.is c.reset-outcome.ensures.follows) within)
    (c.run.ensures.asked done.after done.represents (rw c.new-progress.ensures keeps))

pub returns-in-Fault-clause-asked : goal.returns-in-Fault-clause-asked
returns-in-Fault-clause-asked g c =
    let powered =
    rw c.as_slice.ensures.events
    at (c.happen_at.ensures.begins _ (c.power-machine.ensures.pair c.requires.whole c.requires.ports)) in
    let refines = c.reset-outcome.ensures.refines _ powered in
    let faulted = rw c.in-Fault.is at refines in
    subst (AsksWithin
    (run_allowed (map (λ b. (goal.Chip-dyn g (b.vtable, b.value)).state b.value) c.args.rack.now.items))
    (sum_by (λ b. (goal.Chip-dyn g (b.vtable, b.value)).queries b.value) c.args.rack.now.items)
    (sum_by (λ b. (goal.Chip-dyn g (b.vtable, b.value)).queries b.value) c.reset-outcome.new.rack.items))
    (stopped_codes c.args.detail (seen c.args.script.now) c.args.chain c.args.powers.now _ _ c.power-machine.ensures.powered _ faulted.turns)
    (play_first _ (length c.args.rack.now.items) _ _ _ _ _ c.power-machine.result.index c.happen_at.new.player.index
    (sym (length-map c.args.rack.now.items (λ b. (goal.Chip-dyn g (b.vtable, b.value)).state b.value)))
    c.power-machine.ensures.chips c.happen_at.ensures.chips c.power-machine.ensures.marks c.power-machine.ensures.parted
    (power_asks (λ b. (goal.Chip-dyn g (b.vtable, b.value)).queries b.value) c.args.rack.now.items _ c.power-machine.ensures.asked)
    c.happen_at.ensures.asked _
    (reset_codes (begun (views (map (λ b. (goal.Chip-dyn g (b.vtable, b.value)).state b.value) c.args.rack.now.items)) c.args.chain c.args.powers.now
    (seen c.args.script.now)))
    (reset_within _ c.reset-outcome.result c.happen_at.new.player c.reset-outcome.new.self _ _ _ _ refines
    c.reset-outcome.ensures.asked))

pub returns-in-Reserved-clause-asked : goal.returns-in-Reserved-clause-asked
returns-in-Reserved-clause-asked g c =
    let powered =
    rw c.as_slice.ensures.events
    at (c.happen_at.ensures.begins _ (c.power-machine.ensures.pair c.requires.whole c.requires.ports)) in
    absurd (rw c.in-Reserved.is at (c.reset-outcome.ensures.refines _ powered))

pub returns-in-Reserved-clause-plays : goal.returns-in-Reserved-clause-plays
returns-in-Reserved-clause-plays g c =
    let powered =
    rw c.as_slice.ensures.events
    at (c.happen_at.ensures.begins _ (c.power-machine.ensures.pair c.requires.whole c.requires.ports)) in
    absurd (rw c.in-Reserved.is at (c.reset-outcome.ensures.refines _ powered))
