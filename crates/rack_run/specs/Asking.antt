-- How many questions a run may put to the chips of its rack, by the codes of the bus steps that were tried. It is this project's own.
use Rattle.std.specs.Prelude.{ℕ, ◌+◌, ◌*◌, ◌≤◌, List, [], ◌∷◌, ◌++◌, length, map, flat_map}
use Rattle.std.specs.List.{list_any}
use Rattle.f8_spec.specs.ChipState.{ChipState}
use Rattle.console_spec.specs.BusTrace.{TracedStep}
use Rattle.console_spec.specs.Run.{Position, Stop, Done, Unserved, Reserved, Turn, Goes, Stops}
use Rattle.console_spec.specs.Telling.{Moment, Telling, Way, code_of}
use Rattle.data_bus.specs.KnownAgreement.{no_marks, parts}
use Rattle.data_bus.specs.PageIndex.{seats}
use Rattle.f8_machine.specs.Questions.{allowed}

-- ---- the codes of steps that were tried

abbrev pub served_codes : List TracedStep → List ℕ
served_codes steps = map (λ step. step.romc) steps

-- that of the step by which a run stops, where it is one that isn't served
abbrev pub stop_codes : Stop → List ℕ
stop_codes Done = []
stop_codes (Unserved fault) = code_of fault ∷ []
stop_codes (Reserved at code) = []

abbrev pub unserved_codes : Turn → List ℕ
unserved_codes (Goes y) = []
unserved_codes (Stops stop) = stop_codes stop

-- those of an instruction
abbrev pub turn_codes : Way → Position → List ℕ
turn_codes way x = served_codes (way.course x).steps ++ unserved_codes (way.step x)

-- the served ones of some moments
abbrev pub heard_codes : List Moment → List ℕ
heard_codes moments = flat_map (λ m. served_codes m.heard) moments

-- those of a whole run
abbrev pub tried_codes : Telling → List ℕ
tried_codes run = heard_codes run.moments ++ stop_codes run.ending.stop

-- the step by which a run stops belongs to its last moment: where others come behind, it was not tried
abbrev pub last_codes : List Moment → Stop → List ℕ
last_codes [] stop = stop_codes stop
last_codes (m ∷ behind) stop = []

-- those of a run that stops so, up to one of its moments
abbrev pub codes_up_to : List Moment → Moment → List Moment → Stop → List ℕ
codes_up_to before at behind stop = heard_codes before ++ (served_codes at.heard ++ last_codes behind stop)

-- ---- what is asked

-- No more was asked than is allowed for steps with these codes.
abbrev pub AsksWithin : (List ℕ → ℕ) → (before after : ℕ) → List ℕ → Type 0
AsksWithin most before after codes = after ≤ before + most codes

-- Nor is it where others come behind, for which so much is left: these steps were all served.
pub record AsksOn (most left : List ℕ → ℕ) (before after : ℕ) (codes : List ℕ) : Type 0 where
  pub whatever : (later : List ℕ) → after + left later ≤ before + most (codes ++ later)

-- From power-on a run may put 512 questions to each chip of a fitted rack, by which its pages are found, and then the allowance of each step.
-- At first nothing is known of the chips' counters.
abbrev pub run_allowed : List ChipState → List ℕ → ℕ
run_allowed fitted codes =
    512 * length fitted + allowed (length fitted) (list_any parts (seats fitted)) no_marks codes
