use Rattle.std.proofs.Common.{◌≡◌, ◌∙◌, sym, arith, refl, []}
use Rattle.std.proofs.lemmas.Bool.Decides.{nat_tests}
use Rattle.std.proofs.lemmas.List.{nil_from_length}
use Rattle.std.proofs.lemmas.Result.{err_from_is_err_and}
use Rattle.text_lines.specs.Lines.{lines}
use Rattle.f8_asm.specs.ParsedLines.{parse_line}
use Rattle.f8_asm.proofs.ParsedOnce.{parse_line_adds, no_lines}
use Rattle.f8_asm.proofs.Steps.{steps_end, steps_more, steps_stop}
use Rattle.f8_asm.proofs.pass_one.parse_lines.Goals as goal

pub loop-rest-init : goal.loop-rest-init
loop-rest-init c = record {
  is = rw c.new-parsing.ensures refl;
  room = rw c.new-parsing.ensures (omega (arith, no_lines));
}

pub returns-in_err-read_line : goal.returns-in_err-read_line
returns-in_err-read_line c =
    let told = err_from_is_err_and c.from_residual.result c.from_residual.ensures.1 in
    rw (told.1, told.2) (steps_stop parse_line c.loop-rest.parsing c.read_line.new.self
    c.first_line.result.0.now (lines c.first_line.result.1.now) c.in_err-read_line.field-0.0 _
    (rw c.first_line.ensures.split at c.loop-rest.invariant.is) c.in_err-read_line.ensures)

pub loop-rest-preserved : goal.loop-rest-preserved
loop-rest-preserved c = record {
  is = steps_more parse_line c.loop-rest.parsing c.read_line.new.self c.first_line.result.0.now
      (lines c.first_line.result.1.now) c.in_ok-read_line.ensures
      ∙ rw c.first_line.ensures.split at c.loop-rest.invariant.is;
  room = omega (
    arith,
    c.first_line.ensures.rest,
    c.loop-rest.invariant.room,
    parse_line_adds c.loop-rest.parsing c.read_line.new.self c.first_line.result.0.now c.in_ok-read_line.ensures,
  );
}

pub returns : goal.returns
returns c =
    let none : c.loop-rest.rest.now ≡ [] = nil_from_length c.loop-rest.rest.now (grind (arith, nat_tests)) in
    sym c.loop-rest.invariant.is ∙ rw none (steps_end parse_line c.loop-rest.parsing)
