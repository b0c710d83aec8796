-- What the call says of the status that it ends with: by the files alone, and that it is memory's only behind the word of a command.
use Rattle.std.proofs.Common.{map, string_bytes, sym, ◌∙◌}
use Rattle.command_line.specs.CommandLine.{command_of}
use Rattle.channel_f.proofs.Completeness.{completed}
use Rattle.channel_f.proofs.StatusCodes.{same_status}
use Rattle.channel_f.proofs.top.console.Goals as goal

pub returns-clause-says : goal.returns-clause-says
returns-clause-says g c =
    record { status = c.answer_words.result; is = c.code.ensures; says = c.answer_words.ensures.says }

pub returns-clause-complete : goal.returns-clause-complete
returns-clause-complete g c = record {
  status = c.answer_words.result;
  is = c.code.ensures;
  says = completed _ _ _ (command_of (map string_bytes c.args.words.now)) c.answer_words.ensures.says;
}

pub returns-clause-memory : goal.returns-clause-memory
returns-clause-memory g c =
    λ by_code. c.answer_words.ensures.memory (same_status c.answer_words.result _ (sym c.code.ensures ∙ by_code))
