-- What contracts see of a chip with a patch.
use Rattle.std.specs.Prelude.{ℕ, Some, None}
use Rattle.f8_spec.specs.ChipState.{ChipState, blank_view}
use Rattle.f8_spec.specs.declared.chips.ChipKind.TheVariants.{Psu as PsuKind}
use Rattle.psu3851.specs.PsuState.{psu_state, psu_queries}
use Rattle.chip_fakes.specs.declared.patched.Patched.{Patched}

abbrev pub patched_state : Patched → ChipState
patched_state p = record { view = (psu_state p.psu).view; heard_steps = None; patch = Some (p.at, p.byte) }

-- a blank 3851 with a patch
abbrev pub blank_patched : ℕ → ℕ → ChipState
blank_patched at byte = record { view = blank_view PsuKind; heard_steps = None; patch = Some (at, byte) }

-- how many questions were put to it
abbrev pub patched_queries : Patched → ℕ
patched_queries p = psu_queries p.psu
