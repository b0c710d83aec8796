-- The registers so far stand before those of the words that are left.
use Rattle.std.proofs.Common.{◌≡◌, length}
use Rattle.case_text.proofs.RegisterReads.{So_far}
use Rattle.case_text.proofs.words.LineWords.scratchpad.Given as goal

abbrev pub invariant-loop-register : goal.invariant-loop-register
invariant-loop-register l = So_far l.fn.self l.register-items l.register-index l.self × (length l.register-items ≡ 64)
