-- The words so far are told.
use Rattle.std.proofs.Common.{◌≡◌, ◌++◌, take, flat_map}
use Rattle.f8_spec.specs.Spelling.{hex4}
use Rattle.case_text.proofs.written_entry.put_words.Given as goal

abbrev pub invariant-loop-word : goal.invariant-loop-word
invariant-loop-word l = l.out.items ≡ l.initial.out.items ++ flat_map hex4 (take l.word-index l.words)
