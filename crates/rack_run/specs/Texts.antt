-- How much of a run is told on its way, as the bytes of its lines.
use Rattle.std.specs.Prelude.{◌≢◌, ℕ, ◌==◌, Bool, true, false, if◌then◌else◌, List, [], ◌∷◌, ◌++◌, map, flat_map}
use Rattle.std.specs.Prelude.{Option, Some, None, Result, OnOk, OnErr}
use Rattle.std.specs.List.{list_any, range_with_len}
use Rattle.console_spec.specs.declared.PortWrite.{PortWrite}
use Rattle.console_spec.specs.RunText.{lines_of, picture_row, text_of}
use Rattle.console_spec.specs.Telling.{Told, Traced, TracedFault, Wrote, Shown, code_of}
use Rattle.f8_machine.specs.Faults.{fault_of}
use Rattle.f8_machine.specs.HeardSteps.{step_of}
use Rattle.f8_machine.specs.declared.heard.Heard.{Heard}
use Rattle.f8_machine.specs.declared.outcome.Outcome.{Outcome}
use Rattle.f8_machine.specs.declared.outcome.Outcome.TheVariants.{Done, Fault, Reserved}
use Rattle.outside.specs.SinkRules.{Output, Adds, AddsPart}
use Rattle.rack_run.specs.declared.detail.Detail.{Detail}
use Rattle.rack_run.specs.declared.detail.Detail.TheVariants.{Nothing, Writes, Steps}

-- the bus steps are told
abbrev pub is_traced : Detail → Bool
is_traced Nothing = false
is_traced Writes = false
is_traced Steps = true

-- writes and frames are told
abbrev pub is_told : Detail → Bool
is_told Nothing = false
is_told Writes = true
is_told Steps = true

unfoldable pub text_told : List Told → List ℕ
text_told told = text_of (flat_map lines_of told)

abbrev pub text_in : Detail → List Told → List ℕ
text_in detail told = if is_told detail then text_told told else []

-- a call that puts a text: all of it, or a first part where the sink failed, which it doesn't where there is nothing to put
pub record Puts {T E : Type 0} (result : Result T E) (old new : Output) (text : List ℕ) : Type 0 where
  pub ok : OnOk result (Adds old new text)
  pub err : OnErr result (AddsPart old new text)
  pub some : OnErr result (text ≢ [])

-- the served steps of reset or an instruction, where they are told, and the step that is not served
abbrev pub served_told : Detail → List Heard → List Told
served_told detail steps = if is_traced detail then map (λ h. Traced (step_of h)) steps else []

abbrev pub unserved_told : Detail → ℕ → Bool → List Told
unserved_told detail romc long = if is_traced detail then TracedFault romc long ∷ [] else []

abbrev pub outcome_told : Detail → Outcome → List Told
outcome_told detail (Done wrote steps) = served_told detail steps
outcome_told detail (Fault fault long steps) =
    served_told detail steps ++ unserved_told detail (code_of (fault_of fault)) long
outcome_told detail (Reserved at code) = []

-- a write that was taken
abbrev pub write_told : Option PortWrite → List Told
write_told None = []
write_told (Some w) = Wrote w ∷ []

-- a frame that falls, where it is shown
abbrev pub frame_told : List ℕ → Option ℕ → ℕ → List PortWrite → List Told
frame_told shows None phi writes = []
frame_told shows (Some frame) phi writes = if list_any (λ f. f == frame) shows then Shown frame phi writes ∷ [] else []

-- the rows of a picture
abbrev pub rows_told : List PortWrite → List (List ℕ)
rows_told writes = map (λ y. picture_row y writes) (range_with_len 0 64)
