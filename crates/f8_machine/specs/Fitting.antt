-- A machine and the rack that it works on.
use Rattle.std.specs.Prelude.{ℕ, List, [], ◌∷◌, ◌++◌}
use Rattle.f8_spec.specs.ChipState.{ChipState}
use Rattle.data_bus.specs.PageIndex.{StandsFor}
use Rattle.f8_machine.specs.MachineState.{MachineState}
use Rattle.f8_machine.specs.Questions.{code_of, codes_of}
use Rattle.f8_machine.specs.declared.outcome.Mode.{Mode}
use Rattle.f8_machine.specs.declared.outcome.Mode.TheVariants.{Powered, Running, Stopped}
use Rattle.f8_machine.specs.declared.outcome.Outcome.{Outcome}
use Rattle.f8_machine.specs.declared.outcome.Outcome.TheVariants.{Done, Fault, Reserved}

-- they fit each other: the machine's index stands for the rack and the probe
abbrev pub Fits : MachineState → List ChipState → Type 0
Fits m states = StandsFor m.index m.probe states

-- the codes of the steps that were tried for an outcome: those that were served, and the one that was not
abbrev pub tried_in : Outcome → List ℕ
tried_in (Done wrote steps) = codes_of steps
tried_in (Fault fault long steps) = codes_of steps ++ code_of fault ∷ []
tried_in (Reserved at code) = []

-- a machine that was stopped tries none
abbrev pub tried : Mode → Outcome → List ℕ
tried Powered outcome = tried_in outcome
tried Running outcome = tried_in outcome
tried (Stopped why) outcome = []
