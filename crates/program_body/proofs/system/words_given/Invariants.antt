use Rattle.std.proofs.Common.{◌≡◌}
use Rattle.program_body.proofs.system.words_given.Given as goal

abbrev pub invariant-loop-word : goal.invariant-loop-word
invariant-loop-word g l = l.words.items ≡ l.yielded
