-- The parts one after another are the text of the line.
use Rattle.std.proofs.lemmas.Result.{on_ok_weaker}
use Rattle.case_step.specs.EntryViews.{entry_view}
use Rattle.case_text.proofs.LinePut.{line_put}
use Rattle.case_text.proofs.written_entry.put_entry.Goals as goal

pub returns : goal.returns
returns c =
    on_ok_weaker c.put_scratchpad.result
    (line_put (entry_view c.args.entry.now) c.args.out.now.items c.put_word.new.out.items c.put_blank.new.out.items
    c.put_return.new.out.items c.put_blank-2.new.out.items c.put_byte_set.new.out.items c.put_blank-3.new.out.items
    c.put_numbers.new.out.items c.put_blank-4.new.out.items c.put_status.new.out.items c.put_blank-5.new.out.items
    c.put_word_set.new.out.items c.put_blank-6.new.out.items c.put_word_set-2.new.out.items c.put_blank-7.new.out.items
    c.put_word_set-3.new.out.items c.put_blank-8.new.out.items c.put_facts.new.out.items c.put_blank-9.new.out.items
    c.put_same.new.out.items c.put_scratchpad.new.out.items
    c.in_ok-put_word.ensures c.in_ok-put_blank.ensures c.in_ok-put_return.ensures c.in_ok-put_blank-2.ensures
    c.in_ok-put_byte_set.ensures c.in_ok-put_blank-3.ensures (rw c.as_slice.ensures.value at c.in_ok-put_numbers.ensures)
    c.in_ok-put_blank-4.ensures c.in_ok-put_status.ensures c.in_ok-put_blank-5.ensures c.in_ok-put_word_set.ensures
    c.in_ok-put_blank-6.ensures c.in_ok-put_word_set-2.ensures c.in_ok-put_blank-7.ensures c.in_ok-put_word_set-3.ensures
    c.in_ok-put_blank-8.ensures c.in_ok-put_facts.ensures c.in_ok-put_blank-9.ensures c.in_ok-put_same.ensures)
    c.put_scratchpad.ensures
