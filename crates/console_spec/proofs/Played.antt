-- Runs by a number of instructions alone, without keys and shown frames.
use Rattle.std.proofs.Common.{ℕ, Bool, false, List, []}
use Rattle.std.specs.Prelude.{flat_map}
use Rattle.f8_spec.specs.ChipState.{ChipView}
use Rattle.console_spec.specs.BusTrace.{TracedStep}
use Rattle.console_spec.specs.Run.{Ending, chain_in_order}
use Rattle.console_spec.specs.Scripts.{Script}
use Rattle.console_spec.specs.Telling.{Telling, telling, played_by, referred_by}
use Rattle.console_spec.specs.declared.End.TheVariants.{Steps}
use Rattle.console_spec.specs.FlatMemory.{first_memory}
use Rattle.console_spec.specs.Processor.{own_inputs, effect}
use Rattle.console_spec.specs.FlatStep.{chosen_at}
use Rattle.f8_spec.specs.ShiftTimer.{steps_to_expiry}
use Rattle.console_spec.specs.RunText.{text_of, verdict_line, stop_line, fault_line, regs_line, scratch_line, total_line}
use Rattle.console_spec.specs.RunText.{out_line, bus_line}
use Rattle.f8_spec.specs.Instructions.{decoded}
use Rattle.std.specs.Fmt.{digits}

-- what a run computes with
unfoldable pub running : Unit {0}
unfolding played_by referred_by telling own_inputs chosen_at steps_to_expiry effect decoded first_memory
running = tt

-- what the lines of a run compute with
unfoldable pub printing : Unit {0}
unfolding text_of verdict_line stop_line fault_line regs_line scratch_line total_line out_line bus_line digits
printing = tt

abbrev pub steps_alone : ℕ → ℕ → Script
steps_alone fill n = record { power = fill; end = Steps n; events = []; shows = [] }

-- all chips are described, in the order of their sockets
abbrev pub played_in_order : List ChipView → Bool → Script → Telling
played_in_order vs traced script = played_by vs (chain_in_order vs) [] traced script

abbrev pub played_alone : List ChipView → ℕ → ℕ → Telling
played_alone vs fill n = played_in_order vs false (steps_alone fill n)

abbrev pub played : List ChipView → ℕ → ℕ → Ending
played vs fill n = (played_alone vs fill n).ending

abbrev pub referred : List ChipView → ℕ → ℕ → Ending
referred vs fill n = (referred_by vs [] (steps_alone fill n)).ending

abbrev pub played_record : List ChipView → ℕ → ℕ → List TracedStep
played_record vs fill n = flat_map (λ m. m.heard) (played_alone vs fill n).moments
