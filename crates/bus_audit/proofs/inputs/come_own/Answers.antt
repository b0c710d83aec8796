-- One more comes.
use Rattle.std.proofs.Common.{◌∙◌, List, map, sym, subst}
use Rattle.console_spec.specs.declared.Event.{Event}
use Rattle.bus_audit.specs.Inputs.{Comes}
use Rattle.bus_audit.proofs.ComingLaws.{comes_then, own_more}
use Rattle.bus_audit.proofs.inputs.come_own.Goals as goal

pub loop-at-preserved : goal.loop-at-preserved
loop-at-preserved g c =
    let olds = map (λ b. (goal.Chip-dyn g (b.vtable, b.value)).state b.value) c.args.rack.now.items in
    let mids = map (λ b. (goal.Chip-dyn g (b.vtable, b.value)).state b.value) c.loop-at.rack.items in
    let nows = map (λ b. (goal.Chip-dyn g (b.vtable, b.value)).state b.value) c.come.new.rack.items in
    record {
      comes =
          subst (λ (es : List Event). Comes c.args.machine.now c.come.new.machine olds nows es)
          (sym (own_more c.args.frame c.args.events.now c.loop-at.at-index _ c.loop-at-test.true))
          (comes_then c.args.machine.now c.loop-at.machine c.come.new.machine olds mids nows _ _ c.loop-at.invariant.comes
          (subst (λ (es : List Event). Comes c.loop-at.machine c.come.new.machine mids nows es) c.own_key.ensures c.come.ensures.comes));
      fits = c.come.ensures.fits;
      asked = c.come.ensures.asked ∙ c.loop-at.invariant.asked;
      chips = c.come.ensures.chips ∙ c.loop-at.invariant.chips;
    }
