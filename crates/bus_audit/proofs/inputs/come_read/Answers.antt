-- The key byte comes, and then the pulse.
use Rattle.std.proofs.Common.{List, ◌++◌, map, ap, ◌∙◌, subst}
use Rattle.console_spec.specs.declared.Event.{Event}
use Rattle.bus_audit.specs.Answers.{steps_of}
use Rattle.bus_audit.specs.Inputs.{Comes, events_in}
use Rattle.bus_audit.specs.ReadInputs.{read_key, read_pulse}
use Rattle.bus_audit.proofs.ComingLaws.{comes_then}
use Rattle.bus_audit.proofs.inputs.come_read.Goals as goal

pub returns-clause-comes : goal.returns-clause-comes
returns-clause-comes g c =
    let olds = map (λ b. (goal.Chip-dyn g (b.vtable, b.value)).state b.value) c.args.rack.now.items in
    let mids = map (λ b. (goal.Chip-dyn g (b.vtable, b.value)).state b.value) c.come.new.rack.items in
    let news = map (λ b. (goal.Chip-dyn g (b.vtable, b.value)).state b.value) c.come-2.new.rack.items in
    let rest = steps_of c.args.rest.now in
    subst (λ (es : List Event). Comes c.args.machine.now c.come-2.new.machine olds news es)
    (ap (λ (es : List Event). es ++ events_in c.told_pulse-pulse.result) c.told_key.ensures
    ∙ ap (λ (es : List Event). read_key rest ++ es) c.told_pulse-pulse.ensures
    ∙ ap (λ (chain : List _). read_key rest ++ read_pulse chain rest) (c.chain.ensures ∙ c.come.ensures.comes.chain))
    (comes_then c.args.machine.now c.come.new.machine c.come-2.new.machine olds mids news _ _ c.come.ensures.comes c.come-2.ensures.comes)
