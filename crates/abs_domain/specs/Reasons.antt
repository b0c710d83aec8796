-- The reasons against a state at its point, by the numbers by which they are told.
use Rattle.std.specs.Prelude.{ℕ}
use Rattle.abs_domain.specs.declared.reason.Reason.{Reason}
use Rattle.abs_domain.specs.declared.reason.Reason.TheVariants.{CodeNotHeldOnce, CodeInRam, ReservedOpcode, UnknownJump, UnknownReturn}
use Rattle.abs_domain.specs.declared.reason.Reason.TheVariants.{UnsetReturn, DataCountersApart, ReturnNotHeldOnce, BadPort}
use Rattle.abs_domain.specs.declared.reason.Reason.TheVariants.{UnknownVector, SharedDataAddress, TrackedRegisterBlurred}

abbrev pub reason_number : Reason → ℕ
reason_number CodeNotHeldOnce = 1
reason_number CodeInRam = 2
reason_number ReservedOpcode = 3
reason_number UnknownJump = 4
reason_number UnknownReturn = 5
reason_number UnsetReturn = 6
reason_number DataCountersApart = 7
reason_number ReturnNotHeldOnce = 8
reason_number BadPort = 9
reason_number UnknownVector = 10
reason_number SharedDataAddress = 11
reason_number TrackedRegisterBlurred = 12
