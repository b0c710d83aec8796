-- The steps of which an index alone tells that they are served, and by whom. That a bus goes by an index is this project's own.
use Rattle.std.specs.Prelude.{ℕ, Bool, true, false, ◌&&◌, List, [], ◌∷◌}
use Rattle.f8_spec.specs.BusCodes.{counter_of}
use Rattle.f8_spec.specs.BusArbitration.{rule_of}
use Rattle.f8_spec.specs.ChipState.{ChipState}
use Rattle.f8_spec.specs.declared.bus.BusRule.{BusRule}
use Rattle.f8_spec.specs.declared.bus.BusRule.TheVariants.{Read, Store, PortRead, PortWrite, Vector, NoChip}
use Rattle.probe.specs.ProbeState.{ProbeState}
use Rattle.data_bus.specs.KnownAgreement.{knows}
use Rattle.data_bus.specs.PageIndex.{holding, seats}
use Rattle.data_bus.specs.Steps.{probe_place}
use Rattle.data_bus.specs.declared.index.Index.{Index}

-- one of the chips in these sockets serves where it is alone; where there is none, a step that needs none is served
abbrev pub have_server : Bool → List ℕ → Bool
have_server needless [] = needless
have_server needless (socket ∷ []) = true
have_server needless (socket ∷ (other ∷ sockets)) = false

-- A step that no chip takes part in is served. So is one whose counter is known, by the only chip that holds its address, or has RAM there
-- in a store; and a store where none has. Of all others the index alone doesn't tell it.
abbrev pub is_told : BusRule → Bool → List ℕ → Bool
is_told Read known sockets = known && have_server false sockets
is_told Store known sockets = known && have_server true sockets
is_told PortRead known sockets = false
is_told PortWrite known sockets = false
is_told Vector known sockets = false
is_told NoChip known sockets = true

-- the step with a code, on a rack, a probe and an index that stands for them
abbrev pub tells_served : ℕ → Index → ProbeState → List ChipState → Bool
tells_served romc index probe states =
    is_told (rule_of romc) (knows (counter_of romc) index.marks) (holding (rule_of romc) (probe_place romc probe) 0 (seats states))
