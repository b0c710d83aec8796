-- What a chip tells of a page.
use Rattle.std.specs.Prelude.{ℕ, Bool, not, ◌&&◌}
use Rattle.f8_spec.specs.ChipState.{has_second_counter}
use Rattle.f8_spec.specs.BusArbitration.{Seat, would_answer}
use Rattle.f8_spec.specs.declared.bus.BusRule.TheVariants.{Read, Store}
use Rattle.data_bus.specs.declared.page_survey.Seen.{Seen}

-- it holds an address, and has no second data counter
abbrev pub parts_at : ℕ → Seat → Bool
parts_at at s = would_answer Read s at && not (has_second_counter s.kind)

abbrev pub seen_at : ℕ → Seat → Seen
seen_at at s = record { holds = would_answer Read s at; takes = would_answer Store s at; parts = parts_at at s }
