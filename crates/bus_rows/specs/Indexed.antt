-- What holds of a rack whose bus steps go by an index.
use Rattle.std.specs.Prelude.{ℕ, Option, Some, None, List}
use Rattle.f8_spec.specs.ChipState.{ChipState}
use Rattle.probe.specs.ProbeState.{ProbeState}
use Rattle.data_bus.specs.KnownAgreement.{IsCounted}
use Rattle.data_bus.specs.PageIndex.{StandsFor}
use Rattle.data_bus.specs.declared.index.Index.{Index}

-- where there is an index, it stands for the rack and the probe
abbrev pub FitsIndexed : Option Index → ProbeState → List ChipState → Type 0
FitsIndexed None probe states = Unit {0}
FitsIndexed (Some index) probe states = StandsFor index probe states

-- a chip's counters are addresses from now on, and it holds no page where it has none
abbrev pub HasAddresses : ℕ → ChipState → ChipState → Type 0
HasAddresses socket old new = IsCounted new.view
