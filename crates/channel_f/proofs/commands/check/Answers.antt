-- The verdict that is told is right, and has what shows it; so has that of which the certificate is told.
use Rattle.std.proofs.Common.{◌⊎◌, inl, inr}
use Rattle.outside.specs.SinkRules.{Output}
use Rattle.cart_data.specs.declared.cart.Cart.{Cart}
use Rattle.cart_checker.specs.Verdicts.{RightVerdict}
use Rattle.channel_f.specs.Answers.{Judged, cert_answer}
use Rattle.channel_f.specs.Reports.{AnswersDue, Reports, Wants}
use Rattle.channel_f.specs.declared.status.Status.{Status}
use Rattle.channel_f.proofs.commands.check.Goals as goal

judged : (old new : Output) (said : Status) (cart : Cart) (right : RightVerdict cart) →
    Wants old new said
    ⊎ Reports old new said (cert_answer cart.split right.verdict).status (cert_answer cart.split right.verdict).lines →
    AnswersDue old new said (Judged cart (cert_answer cart.split))
judged old new said cart right (inl wants) = inl wants
judged old new said cart right (inr reports) = inr (record { right = right; reports = reports })

pub returns-then-certified : goal.returns-then-certified
returns-then-certified g c =
    rw c.if-certified.true
    (judged _ _ _ c.args.cart.now
    (record { verdict = c.in-Ok.verdict; is = c.in-Ok.ensures.verdict; carries = c.in-Ok.ensures.carries }) c.certify.ensures)

pub returns-in-Ok : goal.returns-in-Ok
returns-in-Ok g c =
    rw c.if-certified.false
    (inr (record {
      right = record { verdict = c.in-Ok.verdict; is = c.in-Ok.ensures.verdict; carries = c.in-Ok.ensures.carries };
      reports = c.put_verdict.ensures;
    }))
