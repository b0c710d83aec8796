-- The steps that a chip heard, as long as there is room for all of them.
use Rattle.std.specs.Prelude.{ℕ, nat_lt, if◌then◌else◌, List, [], ◌∷◌, ◌++◌, length, Option, Some, None, option_map, option_and_then}
use Rattle.f8_spec.specs.ChipState.{HeardStep}

pub record Recording : Type 0 where
  -- how many steps can be told
  pub room : ℕ
  pub steps : Option (List HeardStep)

abbrev pub with_step : ℕ → HeardStep → List HeardStep → Option (List HeardStep)
with_step room step before = if nat_lt (length before) room then Some (before ++ step ∷ []) else None

-- with one more step, where there is room for it, and else no longer told
abbrev pub recorded : HeardStep → Recording → Recording
recorded step r = record { room = r.room; steps = option_and_then (with_step r.room step) r.steps }

-- with no step
abbrev pub emptied : Recording → Recording
emptied r = record { room = r.room; steps = option_map (λ _. []) r.steps }
