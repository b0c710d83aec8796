use Rattle.cpu3850.proofs.PortLaws.{from_cpu-own_inputs, own_ports-with_key, own_ports-after_instruction}
use Rattle.cpu3850.proofs.laws.port_law.Goals as goal

pub returns-clause-keys : goal.returns-clause-keys
returns-clause-keys c = own_ports-with_key

pub returns-clause-inputs : goal.returns-clause-inputs
returns-clause-inputs c = from_cpu-own_inputs

pub returns-clause-written : goal.returns-clause-written
returns-clause-written c = own_ports-after_instruction
