use Rattle.std.proofs.Common.{◌≡◌, ◌∙◌, sym, arith, refl, []}
use Rattle.std.proofs.lemmas.Bool.Decides.{nat_tests}
use Rattle.std.proofs.lemmas.List.{nil_from_length}
use Rattle.std.proofs.lemmas.Result.{err_from_is_err_and}
use Rattle.text_lines.specs.Lines.{lines}
use Rattle.f8_asm.proofs.Steps.{steps_end, steps_more, steps_stop}
use Rattle.f8_link.specs.FirstPass.{no_reading, read_line}
use Rattle.f8_link.proofs.first_pass.read_lines.Goals as goal

no_lines : no_reading.count ≡ 0
unfolding no_reading
no_lines = refl

pub loop-rest-init : goal.loop-rest-init
loop-rest-init c = record {
  is = rw c.new-reading.ensures refl;
  room = rw c.new-reading.ensures (omega (arith, no_lines));
}

pub returns-in_err-read_line : goal.returns-in_err-read_line
returns-in_err-read_line c =
    let told = err_from_is_err_and c.from_residual.result c.from_residual.ensures.1 in
    rw (told.1, told.2) (steps_stop read_line c.loop-rest.reading c.read_line.new.self
    c.first_line.result.0.now (lines c.first_line.result.1.now) c.in_err-read_line.field-0.0 _
    (rw c.first_line.ensures.split at c.loop-rest.invariant.is) c.in_err-read_line.ensures.steps)

pub loop-rest-preserved : goal.loop-rest-preserved
loop-rest-preserved c = record {
  is = steps_more read_line c.loop-rest.reading c.read_line.new.self c.first_line.result.0.now
      (lines c.first_line.result.1.now) c.in_ok-read_line.ensures.steps
      ∙ rw c.first_line.ensures.split at c.loop-rest.invariant.is;
  room = omega (arith, c.first_line.ensures.rest, c.loop-rest.invariant.room, c.in_ok-read_line.ensures.count);
}

pub returns : goal.returns
returns c =
    let none : c.loop-rest.rest.now ≡ [] = nil_from_length c.loop-rest.rest.now (grind (arith, nat_tests)) in
    sym c.loop-rest.invariant.is ∙ rw none (steps_end read_line c.loop-rest.reading)
