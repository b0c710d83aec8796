-- A fault of the bus as the definitions of a run have it.
use Rattle.console_spec.specs.Services.{Fault, Conflict, Undriven, Astray}
use Rattle.data_bus.specs.declared.fault.BusFault.{BusFault}
use Rattle.data_bus.specs.declared.fault.BusFault.TheVariants.{Conflict as ConflictFault, Undriven as UndrivenFault}
use Rattle.data_bus.specs.declared.fault.BusFault.TheVariants.{Astray as AstrayFault}

abbrev pub fault_of : BusFault → Fault
fault_of (ConflictFault romc parties) = Conflict romc parties
fault_of (UndrivenFault romc at) = Undriven romc at
fault_of (AstrayFault romc socket at reference) = Astray romc socket at reference
