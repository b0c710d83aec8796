-- The ways on behind an instruction, as the program keeps them: each has its exit and what is known of the interrupt control bit there. All
-- else that is known is the same along each.
use Rattle.std.specs.Prelude.{ℕ, Bool, true, false, ◌&&◌, ◌==◌, if◌then◌else◌, List, [], ◌∷◌, flat_map, Option, Some}
use Rattle.std.specs.Option.{option_eq}
use Rattle.abs_domain.specs.AbstractState.{AbstractState}
use Rattle.abs_domain.specs.Lattice.{common, same_bool}
use Rattle.abs_step.specs.Successors.{Invariant}
use Rattle.abs_step.specs.Vectors.{vector_exit, with_icb}
use Rattle.abs_step.specs.declared.exits.Exit.{Exit}
use Rattle.abs_step.specs.declared.ways.Way.{Way}

-- what holds along a way, by what is known of the tracked registers and of all
abbrev pub at_way : List (Option ℕ) → AbstractState → Way → Invariant
at_way bytes s w = record {
  point = record { at = w.exit.at; ret = w.exit.ret; split = bytes };
  state = with_icb w.icb s;
}

abbrev pub same_exit : Exit → Exit → Bool
same_exit d e = (d.at == e.at) && option_eq (λ a b. a == b) d.ret e.ret

-- one more way; of an exit that is there already both bits are joined
abbrev pub with_way : Way → List Way → List Way
with_way w [] = w ∷ []
with_way w (v ∷ vs) =
    if same_exit w.exit v.exit then record v { icb = common same_bool v.icb w.icb } ∷ vs else v ∷ with_way w vs

abbrev pub with_ways : List Way → List Way → List Way
with_ways [] done = done
with_ways (w ∷ ws) done = with_ways ws (with_way w done)

-- an interrupt leads from an exit to a vector, where the bit is clear
abbrev pub vector_way : Bool → Exit → ℕ → Way
vector_way timer e vector = record { exit = vector_exit timer vector e; icb = Some false }

abbrev pub vector_ways : Exit → ℕ → List Way
vector_ways e vector = vector_way true e vector ∷ vector_way false e vector ∷ []

abbrev pub ways_along : List ℕ → Option Bool → Exit → List Way
ways_along vectors icb e = record { exit = e; icb = icb } ∷ flat_map (vector_ways e) vectors

abbrev pub ways_of : List ℕ → Option Bool → List Exit → List Way
ways_of vectors icb exits = with_ways (flat_map (ways_along vectors icb) exits) []
