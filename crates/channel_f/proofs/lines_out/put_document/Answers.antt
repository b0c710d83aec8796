-- The document is one line.
use Rattle.channel_f.specs.declared.status.Status.TheVariants as status
use Rattle.channel_f.proofs.Games.{reports_text, reports_text_part}
use Rattle.channel_f.proofs.lines_out.put_document.Goals as goal

pub returns-in-Ok : goal.returns-in-Ok
returns-in-Ok g c = reports_text _ _ status.Done c.args.document.now (λ e. cc) (rw c.as_bytes.ensures.value at c.in-Ok.ensures.ok)

pub returns-in-Err : goal.returns-in-Err
returns-in-Err g c = reports_text_part _ _ status.Done c.args.document.now (rw c.as_bytes.ensures.value at c.in-Err.ensures.err)
