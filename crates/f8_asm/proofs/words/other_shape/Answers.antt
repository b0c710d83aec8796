use Rattle.std.proofs.Common.{ap, sym, subst, ◌∙◌}
use Rattle.std.specs.Prelude.{IfSome}
use Rattle.std.specs.Option.{option_or}
use Rattle.f8_asm.specs.Registers.{at_word}
use Rattle.f8_asm.specs.Words.{directives, HasRoom}
use Rattle.f8_asm.proofs.WordTables.{others_have_room}
use Rattle.f8_asm.proofs.words.other_shape.Goals as goal

pub returns-in-Some-clause-value : goal.returns-in-Some-clause-value
returns-in-Some-clause-value c = ap (λ a. option_or a (at_word c.args.name.now directives)) c.in-Some.ensures

pub returns-in-Some-clause-room : goal.returns-in-Some-clause-room
returns-in-Some-clause-room c =
    let found = ap (λ a. option_or a (at_word c.args.name.now directives)) c.in-Some.ensures in
    subst (λ shape. IfSome shape HasRoom) (sym found) (others_have_room c.args.name.now)

pub returns-in-None-clause-value : goal.returns-in-None-clause-value
unfolding directives
returns-in-None-clause-value c = c.at_word.ensures ∙ ap (λ a. option_or a (at_word c.args.name.now directives)) c.in-None.ensures
