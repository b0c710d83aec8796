use Rattle.std.proofs.Common.{◌≡◌, ◌<◌, ◌∙◌, sym, arith, length, [], Ok}
use Rattle.std.proofs.lemmas.Bool.Decides.{nat_tests}
use Rattle.std.proofs.lemmas.List.{nil_from_length}
use Rattle.std.proofs.lemmas.Result.{err_from_is_err_and}
use Rattle.f8_link.specs.Directives.{name_at}
use Rattle.f8_link.specs.FirstPass.{name_taken}
use Rattle.f8_link.proofs.NamesTaken.{names_fail, names_last, names_no_comma, names_more, names_stop}
use Rattle.f8_link.proofs.first_pass.Reading.take_names.Goals as goal

pub returns-in_err-column-clause-steps : goal.returns-in_err-column-clause-steps
returns-in_err-column-clause-steps c =
    let told = err_from_is_err_and c.from_residual.result c.from_residual.ensures.1 in
    rw (told.1, told.2) (sym c.loop-column.invariant.is
    ∙ names_fail (name_taken c.args.directive c.args.number) c.loop-column.self c.loop-column.rest.now c.in_err-column.field-0.0
    (sym c.in_err-column.ensures.value))

pub returns-in_err-take_name-clause-steps : goal.returns-in_err-take_name-clause-steps
returns-in_err-take_name-clause-steps c =
    let told = err_from_is_err_and c.from_residual-in_err-take_name.result c.from_residual-in_err-take_name.ensures.1 in
    rw (told.1, told.2) (names_stop (name_taken c.args.directive c.args.number) c.loop-column.self c.take_name.new.self
    c.in_ok-column.column c.in_ok-column.name.now c.loop-column.rest.now c.in_ok-column.behind.now c.in_err-take_name.field-0.0 _
    c.loop-column.invariant.is (sym c.in_ok-column.ensures.value) c.in_err-take_name.ensures.steps)

pub returns-then-is_empty-clause-steps : goal.returns-then-is_empty-clause-steps
returns-then-is_empty-clause-steps c =
    let none : c.in_ok-column.behind.now ≡ [] = nil_from_length c.in_ok-column.behind.now (grind (arith, nat_tests)) in
    let read : name_at c.loop-column.rest.now ≡ Ok (c.in_ok-column.column, c.in_ok-column.name.now, c.in_ok-column.behind.now) =
    sym c.in_ok-column.ensures.value in
    sym c.loop-column.invariant.is
    ∙ names_last (name_taken c.args.directive c.args.number) c.loop-column.self c.in_ok-column.column c.in_ok-column.name.now c.loop-column.rest.now
    (rw none at read)
    ∙ c.in_ok-take_name.ensures.steps

pub returns-in_err-rest-clause-steps : goal.returns-in_err-rest-clause-steps
returns-in_err-rest-clause-steps c =
    let told = err_from_is_err_and c.from_residual-in_err-rest.result c.from_residual-in_err-rest.ensures.1 in
    let some : 0 < length c.in_ok-column.behind.now = grind (arith, nat_tests) in
    rw (told.1, told.2) (sym c.loop-column.invariant.is
    ∙ names_no_comma (name_taken c.args.directive c.args.number) c.loop-column.self c.in_ok-column.column c.in_ok-column.name.now c.take_name.new.self
    c.in_ok-take_name.ensures.steps c.loop-column.rest.now c.in_ok-column.behind.now c.in_err-rest.field-0.0 some
    (sym c.in_ok-column.ensures.value) (sym c.in_err-rest.ensures.value))

pub loop-column-preserved : goal.loop-column-preserved
loop-column-preserved c =
    let some : 0 < length c.in_ok-column.behind.now = grind (arith, nat_tests) in
    record {
      is = names_more (name_taken c.args.directive c.args.number) c.loop-column.self c.in_ok-column.column c.in_ok-column.name.now c.take_name.new.self
          c.in_ok-take_name.ensures.steps c.loop-column.rest.now c.in_ok-column.behind.now c.in_ok-rest.rest.now some
          (sym c.in_ok-column.ensures.value) (sym c.in_ok-rest.ensures.value)
          ∙ c.loop-column.invariant.is;
      count = c.in_ok-take_name.ensures.count ∙ c.loop-column.invariant.count;
    }
