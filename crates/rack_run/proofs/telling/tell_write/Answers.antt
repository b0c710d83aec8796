-- The line of a write, where one was taken.
use Rattle.std.proofs.Common.{[], ◌∷◌, sym, ◌∙◌}
use Rattle.console_spec.specs.Telling.{Wrote}
use Rattle.rack_run.proofs.PutLaws.{puts_told, puts_nothing}
use Rattle.rack_run.proofs.telling.tell_write.Goals as goal

pub returns-in_default : goal.returns-in_default
returns-in_default g c = rw c.in_default.is (puts_nothing _ _ c.args.detail)

pub returns : goal.returns
returns g c =
    rw c.in-Some.is
    (puts_told _ _ _ c.args.detail (Wrote c.in-Some.write ∷ []) (sym c.is_told.ensures ∙ c.if-not-is_told.false)
    c.put_write.ensures)
