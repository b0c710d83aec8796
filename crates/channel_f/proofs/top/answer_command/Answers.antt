-- What the call says of a generated cartridge.
use Rattle.std.proofs.Common.{rules, ◌≡◌, refl, Some}
use Rattle.command_line.specs.CommandLine.{Gen}
use Rattle.command_line.specs.Seen.{seen_command}
use Rattle.channel_f.proofs.Outcomes.{says_gen}
use Rattle.channel_f.proofs.top.answer_command.Goals as goal

pub returns-in-Gen : goal.returns-in-Gen
returns-in-Gen g c =
    let asked : Some (Gen c.in-Gen.seed) ≡ Some (seen_command c.args.command) = search rules in
    record {
      says = says_gen _ _ _ c.in-Gen.seed (Some (seen_command c.args.command)) asked c.answer_gen.ensures.answers
          c.answer_gen.ensures.rack c.answer_gen.ensures.safe refl;
    }
