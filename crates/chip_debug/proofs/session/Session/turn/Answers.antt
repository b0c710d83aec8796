-- An instruction leads to the next scene.
use Rattle.std.proofs.Common.{◌∙◌, ◌≡◌, ap, refl, sym, None}
use Rattle.std.specs.Prelude.{◌&&◌, Bool, Option, is_some}
use Rattle.rack_run.specs.declared.ending.Halt.{Halt}
use Rattle.chip_debug.specs.Scenes.{is_met}
use Rattle.chip_debug.specs.Standing.{SessionState, halt_in}
use Rattle.chip_debug.proofs.Turned.{behind_asks, came_is, count_most, kept_spare, met_is, none_behind, played_with, still_at}
use Rattle.chip_debug.proofs.Turned.{stops_is, then_behind, turn_asked, turned_to}
use Rattle.chip_debug.proofs.session.Session.turn.Goals as goal
use Rattle.chip_debug.proofs.session.Session.turn.Goals.{then-is_heeded, else-is_heeded}

pub invariant_of-self : goal.invariant_of-self
invariant_of-self g c =
    played_with c.instr-outcome.result c.self.inside.tape c.instr-outcome.new.self _ c.instr-outcome.ensures.tape c.self.invariant
    (ap (λ (s : SessionState). s.halt) c.self.view_is ∙ c.requires.running) _ (sym c.in-Some.is ∙ c.halt_of.ensures)

pub returns-in-Some-clause-turned : goal.returns-in-Some-clause-turned
returns-in-Some-clause-turned g c = λ scene stands.
    let there = rw (← c.self.view_is) at stands in
    let none = ap (λ (s : SessionState). s.halt) c.self.view_is ∙ c.requires.running in
    let runs = ap (λ (o : Option Halt). is_some o) none in
    let taped = c.instr-outcome.ensures.taped scene.first there.taped in
    let going = c.self.invariant.goes none in
    let halted = sym c.halt_of.ensures ∙ c.in-Some.is in
    record {
      at = rw halted at (turned_to _ c.instr-outcome.new.self _ _ scene there runs none taped c.instr-outcome.result
          c.instr-outcome.ensures.tape c.instr-outcome.ensures.machine c.instr-outcome.ensures.bytes);
      is = came_is c.args.heeds _ _ scene
          (stops_is _ c.instr-outcome.new.self _ _ scene there runs none taped c.instr-outcome.result
          c.instr-outcome.ensures.tape c.instr-outcome.ensures.machine c.instr-outcome.ensures.bytes
          ∙ ap (λ (o : Option Halt). is_some o) halted) refl;
      asked = none_behind _ _ _ _
          (turn_asked _ c.instr-outcome.new.self _ _ scene there runs none taped c.instr-outcome.result
          c.instr-outcome.ensures.tape c.instr-outcome.ensures.machine c.instr-outcome.ensures.bytes going _ _
          (c.instr-outcome.ensures.asked scene.first there.taped));
    }

pub returns-in-Some-clause-spare : goal.returns-in-Some-clause-spare
returns-in-Some-clause-spare g c =
    kept_spare c.instr-outcome.result c.self.inside.tape c.instr-outcome.new.self c.instr-outcome.ensures.tape
    ∙ ap (λ (s : SessionState). s.tape.log.spare) c.self.view_is

pub returns-in-Some-clause-count : goal.returns-in-Some-clause-count
returns-in-Some-clause-count g c = rw (← c.self.view_is)
    (count_most c.instr-outcome.result c.self.inside.tape c.instr-outcome.new.self c.instr-outcome.ensures.tape)

pub invariant_of-self-2 : goal.invariant_of-self-2
invariant_of-self-2 g c =
    let none = ap (λ (s : SessionState). s.halt) c.self.view_is ∙ c.requires.running in
    played_with c.instr-outcome.result c.self.inside.tape c.instr-outcome.new.self _ c.instr-outcome.ensures.tape c.self.invariant none _
    (none ∙ sym c.in_default.is ∙ c.halt_of.ensures)

pub returns-clause-turned : goal.returns-clause-turned
returns-clause-turned g c = λ scene stands.
    let there = rw (← c.self.view_is) at stands in
    let none = ap (λ (s : SessionState). s.halt) c.self.view_is ∙ c.requires.running in
    let runs = ap (λ (o : Option Halt). is_some o) none in
    let taped = c.instr-outcome.ensures.taped scene.first there.taped in
    let going = c.self.invariant.goes none in
    let goes : halt_in c.instr-outcome.result ≡ None = sym c.halt_of.ensures ∙ c.in_default.is in
    let done = rw goes at (turned_to _ c.instr-outcome.new.self _ _ scene there runs none taped c.instr-outcome.result
    c.instr-outcome.ensures.tape c.instr-outcome.ensures.machine c.instr-outcome.ensures.bytes) in
    let stops = stops_is _ c.instr-outcome.new.self _ _ scene there runs none taped c.instr-outcome.result
    c.instr-outcome.ensures.tape c.instr-outcome.ensures.machine c.instr-outcome.ensures.bytes
    ∙ ap (λ (o : Option Halt). is_some o) goes in
    let met = met_is _ c.instr-outcome.new.self _ _ scene there runs none taped c.instr-outcome.result
    c.instr-outcome.ensures.tape c.instr-outcome.ensures.machine c.instr-outcome.ensures.bytes c.self.inside.breaks there.breaks
    (ap (λ (o : Option Halt). is_some o) goes) in
    let heeded : c.is_heeded.result ≡ (c.args.heeds && is_met scene) =
    rw (c.machine-machine.ensures, c.steps.ensures.value) at c.is_heeded.ensures.met
    ∙ ap (λ (b : Bool). c.args.heeds && b) met in
    rw none
    (record {
      at = still_at _ _ _ _ c.is_heeded.ensures.stays done;
      is = elim c.if-is_heeded.branch [
        | then-is_heeded w ↦ w.result-is ∙ came_is c.args.heeds _ _ scene stops (sym heeded ∙ w.if-is_heeded.true)
        | else-is_heeded w ↦ w.result-is ∙ came_is c.args.heeds _ _ scene stops (sym heeded ∙ w.if-is_heeded.false)
      ];
      asked = then_behind _ _ _ _ _ _ _
          (turn_asked _ c.instr-outcome.new.self _ _ scene there runs none taped c.instr-outcome.result
          c.instr-outcome.ensures.tape c.instr-outcome.ensures.machine c.instr-outcome.ensures.bytes going _ _
          (c.instr-outcome.ensures.asked scene.first there.taped))
          (rw c.machine-machine.ensures at c.is_heeded.ensures.asked)
          (elim c.if-is_heeded.branch [
            | then-is_heeded w ↦ rw w.result-is (behind_asks c.args.heeds scene _ _ done)
            | else-is_heeded w ↦ rw w.result-is (behind_asks c.args.heeds scene _ _ done)
          ]);
    })

pub returns-clause-spare : goal.returns-clause-spare
returns-clause-spare g c =
    kept_spare c.instr-outcome.result c.self.inside.tape c.instr-outcome.new.self c.instr-outcome.ensures.tape
    ∙ ap (λ (s : SessionState). s.tape.log.spare) c.self.view_is

pub returns-clause-count : goal.returns-clause-count
returns-clause-count g c = rw (← c.self.view_is) (count_most c.instr-outcome.result c.self.inside.tape c.instr-outcome.new.self c.instr-outcome.ensures.tape)
