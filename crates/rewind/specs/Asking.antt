-- How many questions may be put to the chips of a rack from power-on on, by the codes of the bus steps that were tried. It is this
-- project's own.
use Rattle.std.specs.Prelude.{ℕ, ◌+◌, ◌*◌, ◌≤◌, List, [], ◌++◌, length, map, Option, Some, None}
use Rattle.std.specs.List.{list_any}
use Rattle.f8_spec.specs.BusArbitration.{seat_of}
use Rattle.console_spec.specs.Run.{Stop}
use Rattle.data_bus.specs.KnownAgreement.{no_marks, parts}
use Rattle.f8_machine.specs.Questions.{allowed, codes_of}
use Rattle.rack_run.specs.Asking.{stop_codes}
use Rattle.rewind.specs.Reached.{Reached}

-- the code of the bus step that stopped a machine, where it was stopped by one that wasn't served
abbrev pub unserved_codes : Option Stop → List ℕ
unserved_codes None = []
unserved_codes (Some stop) = stop_codes stop

-- those of the steps that were tried since power-on
abbrev pub tried_codes : Reached → List ℕ
tried_codes r = codes_of r.heard ++ unserved_codes r.stop

-- Since power-on 512 questions may have been put to each chip, by which its pages are found, and then the allowance of each step. At first
-- nothing is known of the chips' counters.
abbrev pub allowed_since_power : Reached → ℕ
allowed_since_power r =
    512 * length r.chips
    + allowed (length r.chips) (list_any parts (map seat_of r.chips)) no_marks (tried_codes r)

-- from one place to a later one no more was asked than is allowed for the steps that lie between them
abbrev pub AsksBetween : Reached → Reached → (before after : ℕ) → Type 0
AsksBetween from to before after = after + allowed_since_power from ≤ before + allowed_since_power to
