-- The byte and the flags of a sum, where it is known, are those that the definitions have.
use Rattle.std.proofs.Common.{◌≡◌, ℕ, Bool, refl}
use Rattle.std.specs.Prelude.{Option, Some, None, option_map}
use Rattle.f8_spec.specs.Words.{sum_value}
use Rattle.f8_words.specs.Sums.{sum_of}
use Rattle.abs_domain.specs.AbstractState.{KnownStatus}
use Rattle.abs_step.specs.Known.{lift3}
use Rattle.abs_step.specs.KnownResults.{known_after_sum}
use Rattle.abs_step.specs.WorkView.{status_after}

pub sum_byte : (a b : Option ℕ) (carry : Option Bool) → option_map (λ s. s.value) (lift3 sum_of a b carry) ≡ lift3 sum_value a b carry
sum_byte None b carry = refl
sum_byte (Some a) None carry = refl
sum_byte (Some a) (Some b) None = refl
sum_byte (Some a) (Some b) (Some carry) = refl

pub sum_flags : (w : KnownStatus) (a b : Option ℕ) (carry : Option Bool) →
    status_after w (lift3 sum_of a b carry) ≡ known_after_sum w a b carry
sum_flags w None b carry = refl
sum_flags w (Some a) None carry = refl
sum_flags w (Some a) (Some b) None = refl
sum_flags w (Some a) (Some b) (Some carry) = refl

pub ruleset sum_laws = (sum_byte, sum_flags)
