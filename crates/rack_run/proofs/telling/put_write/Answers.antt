-- The line of a write.
use Rattle.std.proofs.Common.{sym, ◌∙◌}
use Rattle.rack_run.proofs.PutLaws.{puts_same, out_some}
use Rattle.rack_run.proofs.TellingTexts.{write_text, puts_piece}
use Rattle.rack_run.proofs.telling.put_write.Goals as goal

pub returns : goal.returns
returns g c =
    let puts =
    puts_piece _ _ _ _ _ (c.as_bytes.ensures.value ∙ c.out_line.ensures)
    (out_some _) c.put.ensures.ok c.put.ensures.err in
    puts_same _ _ _ _ _ (sym (write_text c.args.write.now)) puts
