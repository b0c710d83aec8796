-- States as the program holds them have the same points, in the same order, and as many.
use Rattle.std.proofs.Common.{◌≡◌, List, length}
use Rattle.std.specs.Map.{keys_of}
use Rattle.std.proofs.lemmas.List.{length-map}
use Rattle.std.proofs.lemmas.Map.Made.{keys_of-map_values}
use Rattle.abs_domain.specs.StateView.{state_of}
use Rattle.abs_domain.specs.declared.points.Point.{Point}
use Rattle.abs_domain.specs.declared.state.Abs.{Abs}
use Rattle.abs_step.specs.StatesAtPoints.{state_in, states_of}

pub points_same : (notes : List (Point × Abs)) → keys_of (states_of notes) ≡ keys_of notes
points_same notes = keys_of-map_values state_of notes

pub count_same : (notes : List (Point × Abs)) → length (states_of notes) ≡ length notes
count_same notes = length-map notes state_in
