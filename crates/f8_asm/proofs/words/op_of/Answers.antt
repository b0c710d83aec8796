use Rattle.std.proofs.Common.{sym, ◌∙◌, subst}
use Rattle.std.specs.Prelude.{IfSome}
use Rattle.f8_spec.specs.Instructions.{InRange}
use Rattle.f8_asm.specs.Words.{aliases}
use Rattle.f8_asm.proofs.WordTables.{own_instruction, alias_instruction, op_in_range}
use Rattle.f8_asm.proofs.words.op_of.Goals as goal

pub returns-in-Some-clause-value : goal.returns-in-Some-clause-value
returns-in-Some-clause-value c = own_instruction c.args.name.now c.in-Some.op (sym c.in-Some.ensures)

pub returns-in-Some-clause-in_range : goal.returns-in-Some-clause-in_range
returns-in-Some-clause-in_range c =
    subst (λ found. IfSome found InRange) (sym (own_instruction c.args.name.now c.in-Some.op (sym c.in-Some.ensures))) (op_in_range c.args.name.now)

pub returns-in-None-clause-value : goal.returns-in-None-clause-value
unfolding aliases
returns-in-None-clause-value c = c.at_word.ensures ∙ alias_instruction c.args.name.now (sym c.in-None.ensures)

pub returns-in-None-clause-in_range : goal.returns-in-None-clause-in_range
unfolding aliases
returns-in-None-clause-in_range c =
    subst (λ found. IfSome found InRange) (sym (c.at_word.ensures ∙ alias_instruction c.args.name.now (sym c.in-None.ensures))) (op_in_range c.args.name.now)
