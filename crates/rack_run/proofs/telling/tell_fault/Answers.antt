-- The line of the step that isn't served, where steps are told.
use Rattle.std.proofs.Common.{[], ◌∷◌, sym, ◌∙◌}
use Rattle.console_spec.specs.Telling.{TracedFault}
use Rattle.rack_run.proofs.PutLaws.{puts_same, puts_traced, puts_untraced, bus_fault_some}
use Rattle.rack_run.proofs.TellingTexts.{fault_text, puts_piece}
use Rattle.rack_run.proofs.telling.tell_fault.Goals as goal

pub returns-then-not-is_traced : goal.returns-then-not-is_traced
returns-then-not-is_traced g c =
    puts_untraced _ _ c.args.detail (TracedFault c.args.romc c.args.long ∷ [])
    (sym c.is_traced.ensures ∙ c.if-not-is_traced.true)

pub returns : goal.returns
returns g c =
    let puts =
    puts_piece _ _ _ _ _ (c.as_bytes.ensures.value ∙ c.bus_fault_line.ensures)
    (bus_fault_some _ _) c.put.ensures.ok c.put.ensures.err in
    puts_traced _ _ _ c.args.detail (TracedFault c.args.romc c.args.long ∷ [])
    (sym c.is_traced.ensures ∙ c.if-not-is_traced.false)
    (puts_same _ _ _ _ _ (sym (fault_text c.args.romc c.args.long)) puts)
