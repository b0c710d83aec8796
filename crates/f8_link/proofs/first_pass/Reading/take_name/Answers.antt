use Rattle.f8_link.proofs.first_pass.Reading.take_name.Goals as goal

pub returns-in-Import-clause-steps : goal.returns-in-Import-clause-steps
returns-in-Import-clause-steps c = rw c.in-Import.is (c.take_import.ensures.steps c.args.number)
