-- What is recorded after a step was heard.
use Rattle.std.proofs.Common.{◌≡◌, ℕ, Bool, true, false, List, [], ◌∷◌, ◌++◌, length, Option, Some, None, refl}
use Rattle.std.specs.Prelude.{nat_lt, if◌then◌else◌, option_and_then}
use Rattle.f8_spec.specs.ChipState.{HeardStep, HearsStep}
use Rattle.chip_fakes.specs.Recording.{Recording, with_step, recorded}

-- where steps are told after one more, they were told before, and have gained it
hears : (room : ℕ) (step : HeardStep) (old : Option (List HeardStep)) → HearsStep old (option_and_then (with_step room step) old) step
hears room step None = record { told = λ now e. elim (told_never now e) [ ] }
  where
    told_never : (now : List HeardStep) → ◌≡◌ {A = Option (List HeardStep)} None (Some now) → ⊥
    told_never now e = cc
hears room step (Some before) = record { told = λ now e. (before, refl, gained (nat_lt (length before) room) now e) }
  where
    gained : (fits : Bool) (now : List HeardStep) → (if fits then Some (before ++ step ∷ []) else None) ≡ Some now → now ≡ before ++ step ∷ []
    gained true now e = cc
    gained false now e = cc

pub hears_recorded : (step : HeardStep) (r : Recording) → HearsStep r.steps (recorded step r).steps step
hears_recorded step r = hears r.room step r.steps
