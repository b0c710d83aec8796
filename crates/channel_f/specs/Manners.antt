-- How a run on a rack is told: whole, as `play` does, with every bus step or without, or by a summary, as `gen` does.
use Rattle.std.specs.Prelude.{ℕ, true, false, sum, List, [], ◌∷◌, length}
use Rattle.f8_spec.specs.ChipState.{ChipView, ChipState}
use Rattle.f8_spec.specs.declared.chips.PowerOn.{PowerOn}
use Rattle.console_spec.specs.Processor.{told_regs}
use Rattle.console_spec.specs.Run.{Stop, Ending}
use Rattle.console_spec.specs.RunText.{verdict_line, stop_line, total_line, told_lines, ending_lines, telling_lines}
use Rattle.console_spec.specs.Scripts.{Script}
use Rattle.console_spec.specs.Telling.{Telling, played_by}
use Rattle.console_spec.specs.declared.Regs.{Regs}
use Rattle.console_spec.specs.declared.VerdictWord.{VerdictWord}
use Rattle.data_bus.specs.Racks.{views}
use Rattle.generator.specs.SummaryLines.{gen_line, writes_line, scratch_sum_line}
use Rattle.loader.specs.Games.{Game}
use Rattle.rack_run.specs.Endings.{bytes_written, stop_at}
use Rattle.rack_run.specs.Texts.{is_traced}
use Rattle.rack_run.specs.declared.detail.Detail.{Detail}
use Rattle.rack_run.specs.declared.detail.Detail.TheVariants.{Nothing, Writes, Steps}
use Rattle.rack_run.specs.declared.ending.Ending.{Ending as ToldEnding}
use Rattle.channel_f.specs.declared.manner.Manner.{Manner}
use Rattle.channel_f.specs.declared.manner.Manner.TheVariants.{Whole, Summary}

-- what is told of it on the way
abbrev pub detail_of : Manner → Detail
detail_of (Whole true) = Steps
detail_of (Whole false) = Writes
detail_of (Summary seed) = Nothing

-- a run of a script on chips that are fitted, with the chain of those described and what is said of the power-on of each
abbrev pub run_by : Manner → Script → List ℕ → List PowerOn → List ChipView → Telling
run_by manner script chain powers vs = played_by vs chain powers (is_traced (detail_of manner)) script

-- the same on the chips of a rack that is fitted
abbrev pub run_fitted : Manner → Game → List ℕ → List ChipState → Telling
run_fitted manner game chain fitted = run_by manner game.script chain game.cart.powers (views fitted)

-- before it begins
abbrev pub opening_lines : Manner → VerdictWord → List (List ℕ)
opening_lines (Whole traced) word = verdict_line word ∷ []
opening_lines (Summary seed) word = gen_line seed ∷ verdict_line word ∷ []

-- what stops it, the instructions and their clocks, the writes that ports took with the sum of their bytes, and the sum of the scratchpad
abbrev pub told_summary : Stop → Regs → (count phi writes bytes : ℕ) → List (List ℕ)
told_summary stop regs count phi writes bytes =
    stop_line stop ∷ total_line count phi ∷ writes_line writes bytes ∷ scratch_sum_line (sum regs.scratch) ∷ []

abbrev pub summary_lines : Ending → List (List ℕ)
summary_lines e =
    let state = e.position.flat.state in
    told_summary e.stop (told_regs state) state.count state.phi (length state.writes) (bytes_written state.writes)

-- behind it
abbrev pub closing_lines : Manner → Ending → List (List ℕ)
closing_lines (Whole traced) e = ending_lines e
closing_lines (Summary seed) e = summary_lines e

-- all its lines
abbrev pub lines_by : Manner → VerdictWord → Telling → List (List ℕ)
lines_by (Whole traced) word t = telling_lines word t
lines_by (Summary seed) word t = gen_line seed ∷ verdict_line word ∷ summary_lines t.ending

-- ---- the same from an ending as a run tells it

abbrev pub ending_told : ToldEnding → List (List ℕ)
ending_told told = told_lines (stop_at told.halt) told.regs told.count told.phi

abbrev pub summary_told : ToldEnding → List (List ℕ)
summary_told told = told_summary (stop_at told.halt) told.regs told.count told.phi told.writes told.bytes

abbrev pub closing_told : Manner → ToldEnding → List (List ℕ)
closing_told (Whole traced) told = ending_told told
closing_told (Summary seed) told = summary_told told
