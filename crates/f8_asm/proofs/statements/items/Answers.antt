use Rattle.std.proofs.Common.{◌≡◌, ◌<◌, arith, length, []}
use Rattle.std.proofs.lemmas.Bool.Decides.{nat_tests}
use Rattle.std.proofs.lemmas.List.{nil_from_length}
use Rattle.std.proofs.lemmas.Result.{err_from_is_err_and}
use Rattle.f8_asm.proofs.ItemList.{on_no_operand, on_end, on_no_comma, on_comma}
use Rattle.f8_asm.proofs.statements.items.Goals as goal

pub returns-in_err-operand : goal.returns-in_err-operand
returns-in_err-operand c =
    let told = err_from_is_err_and c.from_residual.result c.from_residual.ensures.1 in
    rw (told.1, told.2) (on_no_operand _ c.loop-found.invariant c.in_err-operand.field-0.0 c.in_err-operand.ensures.value)

pub returns-then-is_empty : goal.returns-then-is_empty
returns-then-is_empty c =
    let none : c.in_ok-operand.behind.now ≡ [] = nil_from_length c.in_ok-operand.behind.now (grind (arith, nat_tests)) in
    rw (c.from_vec.ensures, c.in_ok-push.ensures.items) (on_end _ c.loop-found.invariant c.in_ok-operand.operand (rw none at c.in_ok-operand.ensures.value))

pub returns-in_err-rest : goal.returns-in_err-rest
returns-in_err-rest c =
    let told = err_from_is_err_and c.from_residual-in_err-rest.result c.from_residual-in_err-rest.ensures.1 in
    let some : 0 < length c.in_ok-operand.behind.now = grind (arith, nat_tests) in
    rw (told.1, told.2) (on_no_comma _ c.loop-found.invariant c.in_ok-operand.behind.now c.in_ok-operand.operand
    c.in_err-rest.field-0.0 some c.in_ok-operand.ensures.value c.in_err-rest.ensures.value)

pub loop-found-preserved : goal.loop-found-preserved
loop-found-preserved c =
    let some : 0 < length c.in_ok-operand.behind.now = grind (arith, nat_tests) in
    rw c.in_ok-push.ensures.items (on_comma _ c.loop-found.invariant c.in_ok-operand.behind.now c.in_ok-rest.rest.now
    c.in_ok-operand.operand some c.in_ok-operand.ensures.value c.in_ok-rest.ensures.value
    (omega (arith, c.in_ok-rest.ensures.consumes, c.in_ok-operand.ensures.consumes)))
