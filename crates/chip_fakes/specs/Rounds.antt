-- A chip of one of the three kinds.
use Rattle.std.specs.Prelude.{ℕ}
use Rattle.f8_spec.specs.ChipState.{ChipState}
use Rattle.psu3851.specs.PsuState.{psu_state, psu_queries}
use Rattle.smi3853.specs.SmiState.{smi_state, smi_queries}
use Rattle.pio3861.specs.PioState.{pio_state, pio_queries}
use Rattle.chip_fakes.specs.declared.round.Round.{Round}
use Rattle.chip_fakes.specs.declared.round.Round.TheVariants.{OfPsu, OfSmi, OfPio}

abbrev pub round_state : Round → ChipState
round_state (OfPsu psu) = psu_state psu
round_state (OfSmi smi) = smi_state smi
round_state (OfPio pio) = pio_state pio

-- how many questions were put to it
abbrev pub round_queries : Round → ℕ
round_queries (OfPsu psu) = psu_queries psu
round_queries (OfSmi smi) = smi_queries smi
round_queries (OfPio pio) = pio_queries pio
