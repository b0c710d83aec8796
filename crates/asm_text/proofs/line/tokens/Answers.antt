use Rattle.std.proofs.Common.{◌∙◌, sym, ap, arith, length, length-drop}
use Rattle.std.proofs.lemmas.List.{take_rest}
use Rattle.asm_text.proofs.Reading.{reads_line}
use Rattle.asm_text.proofs.Scan.{on_blank, on_end, on_bad, on_wide, on_token}
use Rattle.asm_text.proofs.line.tokens.Goals as goal

pub loop-rest-preserved-in-Blank : goal.loop-rest-preserved-in-Blank
loop-rest-preserved-in-Blank c =
    let front = sym c.in-Blank.is ∙ c.lexeme_at.ensures.value in
    let within = rw c.in-Blank.is at c.lexeme_at.ensures.within in
    record {
      read = rw take_rest (on_blank c.loop-rest.invariant.read front within);
      columns = omega (arith, ap length (take_rest c.loop-rest.rest.now 1), length-drop 1 c.loop-rest.rest.now);
    }

pub returns-in-End-clause-ok : goal.returns-in-End-clause-ok
returns-in-End-clause-ok c =
    let front = sym c.in-End.is ∙ c.lexeme_at.ensures.value in
    rw c.from_vec.ensures (on_end c.loop-rest.invariant.read front)

pub returns-in-Bad-clause-err : goal.returns-in-Bad-clause-err
returns-in-Bad-clause-err c =
    let front = sym c.in-Bad.is ∙ c.lexeme_at.ensures.value in
    on_bad c.loop-rest.invariant.read front

pub returns-in-Wide-clause-err : goal.returns-in-Wide-clause-err
returns-in-Wide-clause-err c =
    let front = sym c.in-Wide.is ∙ c.lexeme_at.ensures.value in
    on_wide c.loop-rest.invariant.read front

pub loop-rest-preserved : goal.loop-rest-preserved
loop-rest-preserved c =
    let front = sym c.in-Lexed.is ∙ c.lexeme_at.ensures.value in
    let within = rw c.in-Lexed.is at c.lexeme_at.ensures.within in
    record {
      read = rw (c.in_ok-push-in-Lexed.ensures.items, take_rest) (on_token c.loop-rest.invariant.read _ _ front within.0);
      columns = omega (arith, ap length (take_rest c.loop-rest.rest.now c.in-Lexed.length), length-drop c.in-Lexed.length c.loop-rest.rest.now, within.1);
    }

pub returns-in-End-clause-grammar : goal.returns-in-End-clause-grammar
returns-in-End-clause-grammar c = reads_line c.args.line.now

pub returns-in-Bad-clause-grammar : goal.returns-in-Bad-clause-grammar
returns-in-Bad-clause-grammar c = reads_line c.args.line.now

pub returns-in-Wide-clause-grammar : goal.returns-in-Wide-clause-grammar
returns-in-Wide-clause-grammar c = reads_line c.args.line.now

pub returns-in_err-push-in-Lexed-clause-grammar : goal.returns-in_err-push-in-Lexed-clause-grammar
returns-in_err-push-in-Lexed-clause-grammar c = reads_line c.args.line.now
