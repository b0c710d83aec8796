-- A certificate that is told is read and verified.
use Rattle.std.proofs.Common.{ap, arith}
use Rattle.std.specs.Prelude.{length}
use Rattle.abs_step.specs.MapView.{chips_view}
use Rattle.cart_data.specs.Splits.{IsSplit}
use Rattle.cart_data.specs.declared.cart.Cart.{Cart}
use Rattle.cart_checker.specs.Verdicts.{IsVerdict, Carries}
use Rattle.cart_checker.specs.declared.verdict.Verdict.{Verdict}
use Rattle.cart_checker.specs.declared.verdict.Verdict.TheVariants.{Whole, Agreed, Refused, TooMany}
use Rattle.certificate.specs.ClosedMaps.{ClosedMapLaw}
use Rattle.certificate.specs.declared.examined.VerifyAnswer.{VerifyAnswer}
use Rattle.channel_f.specs.Answers.{found_answer}
use Rattle.channel_f.specs.CheckedCertificates.{IsVerified, CheckedCertificateLaw}

pub checked_certificates : ClosedMapLaw → CheckedCertificateLaw
checked_certificates law = record { verified = λ cart right tracked. by cart right.verdict tracked right.is right.carries }
  where
    by : (cart : Cart) (verdict : Verdict) → IsSplit cart.split → IsVerdict cart verdict → Carries cart verdict → IsVerified cart verdict
    by cart (Whole notes) tracked is carries =
        let closed = carries.0.least.closed in
        record {
          fits = omega (arith, law.size (chips_view cart.chips) cart.split notes tracked.few closed, closed.is_map.few);
          read = law.read (chips_view cart.chips) cart.split notes tracked.few closed;
          told = ap (λ (found : VerifyAnswer). found_answer cart.split (length notes) found)
              (law.whole (chips_view cart.chips) cart.split notes closed carries.1);
        }
    by cart (Agreed notes) tracked is carries =
        let closed = carries.least.closed in
        record {
          fits = omega (arith, law.size (chips_view cart.chips) cart.split notes tracked.few closed, closed.is_map.few);
          read = law.read (chips_view cart.chips) cart.split notes tracked.few closed;
          told = ap (λ (found : VerifyAnswer). found_answer cart.split (length notes) found)
              (law.agreed (chips_view cart.chips) cart.split notes closed (λ free. is.1 (notes, closed, free)));
        }
    by cart (Refused point state reason) tracked is carries = tt
    by cart TooMany tracked is carries = tt
