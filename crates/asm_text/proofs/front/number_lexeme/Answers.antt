use Rattle.std.specs.Char.{is_digit}
use Rattle.asm_text.proofs.Runs.{all_in_run}
use Rattle.asm_text.proofs.front.number_lexeme.Goals as goal

pub number-requires-clause-digits : goal.number-requires-clause-digits
number-requires-clause-digits c = rw c.digits_length-length.ensures (all_in_run (λ b. is_digit b c.args.base) c.args.bytes.now)
