-- One number more is read, and it is small.
use Rattle.std.proofs.Common.{◌<◌, arith}
use Rattle.std.proofs.lemmas.List.Elements.{All-push}
use Rattle.case_text.proofs.OctalSteps.{octals_more, on_ok}
use Rattle.case_text.proofs.numbers.octals_of.Goals as goal

pub loop-rest-preserved : goal.loop-rest-preserved
loop-rest-preserved c =
    let pushed = on_ok c.try_push.result c.in_ok-ok.ensures.variant c.try_push.ensures.ok in record {
      value = rw pushed
          (octals_more c.args.word.now c.loop-rest.rest.now c.loop-rest.numbers.items c.in_ok-octal_of.field-0 c.in_ok-octal_of-2.field-0
          (omega arith) c.in_ok-octal_of.ensures.value c.in_ok-octal_of-2.ensures.value c.loop-rest.invariant.value);
      small = rw pushed
          (All-push (λ number. number < 64) c.loop-rest.numbers.items _ c.loop-rest.invariant.small
          (omega (arith, c.in_ok-octal_of.ensures.small, c.in_ok-octal_of-2.ensures.small)));
    }
