-- What an entry stands for, some case of it does, whatever its instruction.
use Rattle.std.proofs.Common.{Bool, true, false, List, [], ◌∷◌, length, inl}
use Rattle.std.specs.Prelude.{Option, Some, None, if◌then◌else◌, nat_le, flat_map}
use Rattle.f8_spec.specs.declared.instructions.Op.{Op}
use Rattle.console_spec.specs.FreeRuns.{IsInRange}
use Rattle.console_spec.specs.Run.{Position}
use Rattle.abs_domain.specs.AbstractState.{AbstractState}
use Rattle.abs_step.proofs.Members.{SomeOf}
use Rattle.case_step.specs.Entries.{EntryView, Allows}
use Rattle.case_step.specs.Effects.{parts_read}
use Rattle.case_step.specs.Cases.{plain_case, part_cases, most_cases, spread_cases, or_cases, cases_of, cases_at}
use Rattle.case_step.specs.CaseLaws.{HasCase}
use Rattle.case_step.specs.declared.part.Part.{Part}
use Rattle.case_step.specs.declared.spread.Spread.{Spread}
use Rattle.case_step.specs.declared.spread.Spread.TheVariants.{EachByte, ListedBytes, NoByte}
use Rattle.case_step.proofs.SetLaws.{some_flat, some_found}
use Rattle.case_step.proofs.CaseParts.{Tells, plain_tells, part_found}

-- some case tells it, where there are cases
abbrev IsFound : (AbstractState → Type 0) → Option (List AbstractState) → Type 0
IsFound P None = Unit {0}
IsFound P (Some cases) = SomeOf P cases

found_or : (P : AbstractState → Type 0) (cases : Option (List AbstractState)) (later : List AbstractState) → IsFound P cases →
    SomeOf P later → SomeOf P (or_cases cases later)
found_or P None later found some = some
found_or P (Some cases) later found some = found

module _ (e : EntryView) (here : Position) (range : IsInRange here) (allows : Allows e here) where
  spread_found : (spread : Spread) (parts : List Part) (cases : List AbstractState) → SomeOf (Tells e here) cases →
      IsFound (Tells e here) (spread_cases spread e parts cases)
  unfolding spread_cases
  spread_found spread [] cases some = some
  spread_found spread (part ∷ parts) cases some =
      let more : List AbstractState = flat_map (part_cases spread e part) cases in
      by (nat_le (length more) most_cases) more
      (spread_found spread parts more
      (some_flat (Tells e here) (Tells e here) (part_cases spread e part) (part_found e here range allows spread part) cases some))
    where
      by : (b : Bool) (more : List AbstractState) → IsFound (Tells e here) (spread_cases spread e parts more) →
          IsFound (Tells e here) (if b then spread_cases spread e parts more else None)
      by true more found = found
      by false more found = tt

  cases_found : (op : Op) → SomeOf (Tells e here) (cases_of op e)
  unfolding cases_of
  cases_found op =
      let plain : SomeOf (Tells e here) (plain_case e ∷ []) = inl (plain_tells e here allows) in
      let from : (spread : Spread) → IsFound (Tells e here) (spread_cases spread e (parts_read op) (plain_case e ∷ [])) =
      λ spread. spread_found spread (parts_read op) (plain_case e ∷ []) plain in
      found_or (Tells e here) _ _ (from EachByte)
      (found_or (Tells e here) _ _ (from ListedBytes) (found_or (Tells e here) _ _ (from NoByte) plain))

  found_at : (op : Option Op) → SomeOf (Tells e here) (cases_at op e)
  found_at None = inl (plain_tells e here allows)
  found_at (Some op) = cases_found op

pub case_found : (op : Option Op) (e : EntryView) (here : Position) → IsInRange here → Allows e here → HasCase op e here
case_found op e here range allows =
    let found = some_found (Tells e here) (cases_at op e) (found_at e here range allows op) in
    record { state = found.0; is = found.1; stands = found.2 }
