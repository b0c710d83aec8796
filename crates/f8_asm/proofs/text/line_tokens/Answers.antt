use Rattle.std.proofs.Common.{◌∙◌, sym, ap}
use Rattle.asm_text.specs.Tokens.{tokens_of}
use Rattle.f8_asm.specs.PassOne.{tokens_in}
use Rattle.f8_asm.proofs.LineTokens.{no_utf8, some_utf8}
use Rattle.f8_asm.proofs.text.line_tokens.Goals as goal

pub returns-in_default : goal.returns-in_default
returns-in_default c = rw c.fault.ensures (no_utf8 c.args.number c.args.bytes.now c.in_default.ensures.cases.0)

pub returns-in-Ok-tokens : goal.returns-in-Ok-tokens
returns-in-Ok-tokens c =
    let is = c.in-Ok.ensures.cases in
    some_utf8 c.args.number c.args.bytes.now is.1 ∙ ap (tokens_in c.args.number) (ap tokens_of (sym is.0) ∙ c.in-Ok-tokens.ensures.ok)

pub returns-in-Err-Bad : goal.returns-in-Err-Bad
returns-in-Err-Bad c =
    let is = c.in-Ok.ensures.cases in
    rw c.fault-in-Err-Bad.ensures (some_utf8 c.args.number c.args.bytes.now is.1
    ∙ ap (tokens_in c.args.number) (ap tokens_of (sym is.0)
    ∙ rw c.in-Err-Bad.field-0-is at c.in-Err-Bad.ensures.err))

pub returns-in-Err-Wide : goal.returns-in-Err-Wide
returns-in-Err-Wide c =
    let is = c.in-Ok.ensures.cases in
    rw c.fault-in-Err-Wide.ensures (some_utf8 c.args.number c.args.bytes.now is.1
    ∙ ap (tokens_in c.args.number) (ap tokens_of (sym is.0)
    ∙ rw c.in-Err-Wide.field-0-is at c.in-Err-Wide.ensures.err))
