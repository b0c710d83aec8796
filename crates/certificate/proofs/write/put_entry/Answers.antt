-- The fields one after another are the text of the line.
use Rattle.std.proofs.lemmas.Result.{on_ok_weaker}
use Rattle.abs_domain.specs.StateView.{state_of}
use Rattle.certificate.proofs.EntryPut.{entry_put}
use Rattle.certificate.proofs.write.put_entry.Goals as goal

pub returns-clause-text : goal.returns-clause-text
returns-clause-text c =
    on_ok_weaker c.put_scratchpad.result
    (entry_put c.args.tracked c.args.point.now (state_of c.args.state.now) c.args.out.now.items c.put_point.new.out.items c.put_blank.new.out.items
    c.put_known_byte.new.out.items c.put_blank-2.new.out.items c.put_known_octal.new.out.items c.put_known_octal-2.new.out.items
    c.put_blank-3.new.out.items c.put_status.new.out.items c.put_blank-4.new.out.items c.put_counters.new.out.items
    c.put_blank-5.new.out.items c.put_scratchpad.new.out.items
    c.in_ok-put_point.ensures c.in_ok-put_blank.ensures (rw c.known.ensures at c.in_ok-put_known_byte.ensures) c.in_ok-put_blank-2.ensures
    (rw c.known-2.ensures at c.in_ok-put_known_octal.ensures) (rw c.known-3.ensures at c.in_ok-put_known_octal-2.ensures)
    c.in_ok-put_blank-3.ensures c.in_ok-put_status.ensures c.in_ok-put_blank-4.ensures c.in_ok-put_counters.ensures c.in_ok-put_blank-5.ensures)
    c.put_scratchpad.ensures
