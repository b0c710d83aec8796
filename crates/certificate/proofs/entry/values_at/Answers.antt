-- The first value stands before the others.
use Rattle.std.proofs.Common.{arith}
use Rattle.std.proofs.lemmas.Bool.Decides.{nat_tests}
use Rattle.certificate.proofs.ValuesRead.{told_values}
use Rattle.certificate.proofs.entry.values_at.Goals as goal

pub returns : goal.returns
returns c =
    told_values c.args.values.now c.bytes_at.new.bytes c.in_ok-first.first c.args.text.now c.in_ok-first.rest.now c.bytes_at.result
    (λ none. grind (arith, nat_tests)) c.in_ok-first.ensures c.bytes_at.ensures
