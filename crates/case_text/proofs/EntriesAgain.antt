-- A line that is written of an entry is read as the entry.
use Rattle.std.proofs.Common.{◌≡◌, [], ◌∷◌, map, refl, ap, ◌∙◌}
use Rattle.std.specs.Prelude.{Some}
use Rattle.f8_spec.specs.Spelling.{hex4}
use Rattle.line_words.specs.Words.{words}
use Rattle.case_step.specs.Entries.{EntryView}
use Rattle.case_text.specs.EntryWords.{registers_of, entry_of}
use Rattle.case_text.specs.WrittenCases.{byte_set_text, entry_text, IsInForm}
use Rattle.case_text.proofs.NumbersAgain.{address_again}
use Rattle.case_text.proofs.PartsAgain.{return_again, byte_set_again, numbers_again, status_again, word_set_again}
use Rattle.case_text.proofs.PartsAgain.{facts_again, same_again, registers_again}
use Rattle.case_text.proofs.LineMarks.{others, entry_words}

words_again : (e : EntryView) → IsInForm e → entry_of (hex4 e.at ∷ others e) ≡ Some e
unfolding entry_of
words_again e form =
    let scratchpad : registers_of 64 (map byte_set_text e.scratchpad) ≡ Some (e.scratchpad, []) =
    rw form.size at (registers_again e.scratchpad form.scratchpad) in
    rw (
      address_again e.at form.at,
      return_again e.ret form.ret,
      byte_set_again e.accumulator form.accumulator,
      numbers_again e.isar form.isar,
      status_again e.status,
      word_set_again e.d0 form.d0,
      word_set_again e.d1 form.d1,
      word_set_again e.c form.c,
      facts_again e,
      same_again e.same form.same,
      scratchpad,
    ) refl

pub entry_again : (e : EntryView) → IsInForm e → entry_of (words (entry_text e)) ≡ Some e
entry_again e form = ap entry_of (entry_words e form) ∙ words_again e form
