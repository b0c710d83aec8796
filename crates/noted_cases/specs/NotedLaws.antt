-- What is shown of a cartridge by states at points is shown by entries too: those of the least map that is closed and safe are a list that
-- is closed and safe, in any order and each any number of times.
use Rattle.std.specs.Prelude.{ℕ, ◌↔◌, List, map}
use Rattle.std.specs.List.{Contains}
use Rattle.f8_spec.specs.BusArbitration.{Seat}
use Rattle.abs_domain.specs.AbstractState.{AbstractState}
use Rattle.abs_domain.specs.declared.points.Point.{Point}
use Rattle.abs_step.specs.MapView.{MapView, IsViewOf}
use Rattle.abs_step.specs.CartridgeAnalysis.{analysis, TellsBytes}
use Rattle.abs_step.specs.ReachedStates.{IsLeastMap, HoldsFaultFreeStates}
use Rattle.case_step.specs.Entries.{EntryView}
use Rattle.case_step.specs.CaseLists.{IsSafelyClosedList, HasFaultFreeCases}
use Rattle.noted_cases.specs.NotedEntries.{noted_entry}

-- two lists have the same entries
abbrev pub HaveSame : List EntryView → List EntryView → Type 0
HaveSame xs ys = (e : EntryView) → Contains xs e ↔ Contains ys e

-- the least map of an analysis over what is right of some chips, and its entries
pub record AreOfLeastMap (m : MapView) (tracked : List ℕ) (notes : List (Point × AbstractState)) (entries : List EntryView) : Type 0 where
  pub least : IsLeastMap (analysis m tracked) notes
  pub same : HaveSame entries (map noted_entry notes)

pub record NotedLaw : Type 0 where
  pub closed : (m : MapView) (seats : List Seat) (tracked : List ℕ) (notes : List (Point × AbstractState)) (entries : List EntryView) →
      IsViewOf m seats → TellsBytes m → AreOfLeastMap m tracked notes entries → IsSafelyClosedList m entries
  -- and where the states are free of faults its cases are
  pub fault_free : (m : MapView) (seats : List Seat) (tracked : List ℕ) (notes : List (Point × AbstractState)) (entries : List EntryView) →
      IsViewOf m seats → TellsBytes m → AreOfLeastMap m tracked notes entries → HoldsFaultFreeStates (analysis m tracked) notes →
      HasFaultFreeCases m entries
