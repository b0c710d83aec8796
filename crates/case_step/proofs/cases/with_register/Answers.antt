-- what is known of the registers where one is written
use Rattle.std.proofs.lemmas.List.{map-set}
use Rattle.abs_domain.specs.KnownParts.{known_byte}
use Rattle.case_step.proofs.cases.with_register.Goals as goal

pub returns : goal.returns
returns c = rw (c.from.ensures, map-set known_byte c.args.case.regs c.args.number _)
