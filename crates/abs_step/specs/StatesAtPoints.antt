-- States at points as the program holds them, read as a map of abstract states.
use Rattle.std.specs.Prelude.{List, map}
use Rattle.abs_domain.specs.AbstractState.{AbstractState}
use Rattle.abs_domain.specs.StateView.{state_of}
use Rattle.abs_domain.specs.declared.points.Point.{Point}
use Rattle.abs_domain.specs.declared.state.Abs.{Abs}

abbrev pub state_in : Point × Abs → Point × AbstractState
state_in e = (e.0, state_of e.1)

abbrev pub states_of : List (Point × Abs) → List (Point × AbstractState)
states_of notes = map state_in notes
