-- What `check --cert` tells of a cartridge, and what `verify` says of that.
use Rattle.std.specs.Prelude.{◌≡◌, ◌≤◌, Ok, List, length}
use Rattle.abs_domain.specs.AbstractState.{AbstractState}
use Rattle.abs_domain.specs.declared.points.Point.{Point}
use Rattle.cart_data.specs.Splits.{IsSplit}
use Rattle.cart_data.specs.declared.cart.Cart.{Cart}
use Rattle.cart_checker.specs.Verdicts.{RightVerdict}
use Rattle.cart_checker.specs.declared.verdict.Verdict.{Verdict}
use Rattle.cart_checker.specs.declared.verdict.Verdict.TheVariants.{Whole, Agreed, Refused, TooMany}
use Rattle.certificate.specs.CertificateText.{certificate_of, certificate_text}
use Rattle.channel_f.specs.Answers.{check_answer, verify_answer}

-- The certificate of the map is no longer than a file may be that `verify` reads, it is read as the map, and what is found of it is told as
-- the verdict is.
pub record IsVerifiedAs (cart : Cart) (verdict : Verdict) (notes : List (Point × AbstractState)) : Type 0 where
  pub fits : length (certificate_text cart.split notes) ≤ 16777216
  pub read : certificate_of cart.split (certificate_text cart.split notes) ≡ Ok notes
  pub told : verify_answer (record { cart = cart; notes = notes }) ≡ check_answer cart.split verdict

-- so it is of each map that a verdict has
abbrev pub IsVerified : Cart → Verdict → Type 0
IsVerified cart (Whole notes) = IsVerifiedAs cart (Whole notes) notes
IsVerified cart (Agreed notes) = IsVerifiedAs cart (Agreed notes) notes
IsVerified cart (Refused point state reason) = Unit {0}
IsVerified cart TooMany = Unit {0}

pub record CheckedCertificateLaw : Type 0 where
  -- the right verdict, by which `check` answers, is that of `verify` on what `check --cert` tells
  pub verified : (cart : Cart) (right : RightVerdict cart) → IsSplit cart.split → IsVerified cart right.verdict
