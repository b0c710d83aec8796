-- the values so far are told behind the first, each with a comma
use Rattle.std.proofs.Common.{◌≡◌, ◌++◌, take, codes}
use Rattle.certificate.specs.Parts.{bytes_text}
use Rattle.certificate.proofs.write.put_values.Given as goal

abbrev pub invariant-loop-value : goal.invariant-loop-value
invariant-loop-value l = l.out.items ≡ l.initial.out.items ++ bytes_text (codes ",") (take l.value-index l.others)
