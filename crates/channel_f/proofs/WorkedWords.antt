-- Words that ask for nothing, worked out by hand and computed from the definitions.
use Rattle.std.proofs.Common.{◌≡◌, List, [], ◌∷◌, refl}
use Rattle.std.specs.Prelude.{codes}
use Rattle.f8_spec.specs.ChipState.{ChipState}
use Rattle.outside.specs.StoreRules.{NamedBytes}
use Rattle.report.specs.ErrorLines.{words_line}
use Rattle.command_line.specs.CommandLine.{command_of}
use Rattle.loader.specs.Work.{Gives}
use Rattle.channel_f.specs.Answers.{Plain, due_of}
use Rattle.channel_f.specs.declared.status.Status.TheVariants as status

-- one word too few, whatever the rack and the files
one_word : (rack : List ChipState) (files : List NamedBytes) →
    due_of rack (command_of (codes "play" ∷ codes "a" ∷ [])) files ≡ record {
      asks = [];
      end = Gives (Plain (record { status = status.Words; lines = codes "error words\n" ∷ [] }));
    }
unfolding words_line
one_word rack files = refl
