-- Scripts worked out by hand, computed from the definitions.
use Rattle.std.proofs.Common.{◌≡◌, [], ◌∷◌, Ok, Err, refl}
use Rattle.std.specs.Prelude.{codes}
use Rattle.hex.specs.Hex.{decode_pairs}
use Rattle.pad_script.specs.declared.answers.ScriptCause.TheVariants.{Number, NoEnd}
use Rattle.console_spec.specs.declared.Event.TheVariants.{Keys}
use Rattle.console_spec.specs.declared.End.TheVariants.{Frames}
use Rattle.line_words.specs.Numbers.{decimal_on}
use Rattle.line_words.specs.Drafts.{after_lines}
use Rattle.pad_script.specs.Reading.{no_draft, read_line, said_with, script_in, script_of}
use Rattle.pad_script.specs.Statements.{frames, line_of, power, show, steps}

power_of_one_digit : script_of (codes "power 0\n") ≡ Err (record { line = 1; cause = Number })
unfolding decode_pairs decimal_on after_lines no_draft read_line said_with script_in frames line_of power show
    steps
power_of_one_digit = refl

no_text : script_of [] ≡ Err (record { line = 1; cause = NoEnd })
unfolding after_lines no_draft script_in
no_text = refl

-- key bytes at two frames, and both of the frames behind them shown
two_keys : script_of (codes "power 00\nat 0 keys 04 05\nat 1 keys 04 06\nshow 1\nshow 2\nframes 2\n") ≡ Ok (record {
  power = 0;
  end = Frames 2;
  events = record { frame = 0; event = Keys 4 5 } ∷ record { frame = 1; event = Keys 4 6 } ∷ [];
  shows = 1 ∷ 2 ∷ [];
})
unfolding decode_pairs decimal_on after_lines no_draft read_line said_with script_in frames line_of power show
    steps
two_keys = refl
