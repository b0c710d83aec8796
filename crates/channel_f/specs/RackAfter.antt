-- What becomes of the rack in a call: fitting, and then power-on and the moments of the run, one after another, and nothing else. And how
-- many questions have been put to its chips, before the call and after it, which is this project's own.
use Rattle.std.specs.Prelude.{◌≡◌, ◌≢◌, ℕ, ◌⊎◌, List, ◌++◌, Option, Some, None, Result, Ok, Err}
use Rattle.f8_spec.specs.ChipState.{ChipState}
use Rattle.f8_spec.specs.declared.chips.PowerOn.{PowerOn}
use Rattle.console_spec.specs.RunText.{text_of}
use Rattle.console_spec.specs.Telling.{Telling, told_in}
use Rattle.console_spec.specs.declared.VerdictWord.{VerdictWord}
use Rattle.cart_checker.specs.Verdicts.{RightVerdict, verdict_word}
use Rattle.f8_machine.specs.Rounds.{RackPowers}
use Rattle.outside.specs.SinkRules.{Output, Adds, AddsPart}
use Rattle.rack_run.specs.Asking.{AsksWithin, codes_up_to, run_allowed, tried_codes}
use Rattle.rack_run.specs.Endings.{CutShort}
use Rattle.rack_run.specs.Lives.{Lives}
use Rattle.rack_run.specs.Seating.{seated, RackFits, RackFitsInPart}
use Rattle.rack_run.specs.Texts.{text_in}
use Rattle.loader.specs.declared.refusals.Stop.{Stop}
use Rattle.loader.specs.Games.{Game}
use Rattle.channel_f.specs.Answers.{refusal, game_chain, game_run}
use Rattle.channel_f.specs.Manners.{detail_of, opening_lines, closing_lines}
use Rattle.channel_f.specs.declared.manner.Manner.{Manner}
use Rattle.channel_f.specs.declared.status.Status.{Status}
use Rattle.channel_f.specs.declared.status.Status.TheVariants as status

-- ---- a run on chips that are fitted

-- Every chip is powered with this byte, and as is said of it where it is one of the chips described, which have these sockets. It lives
-- through the moments of the run on these chips, whose pulses go by the same sockets: so it stands where the bus steps, the keys and the
-- pulses lead, and a chip that tells what it heard heard these steps and nothing else. They were asked no more than 512 questions each, and
-- the allowances of the bus steps that were tried.
pub record RanOn (power : ℕ) (chain : List ℕ) (powers : List PowerOn) (run : Telling) (fitted news : List ChipState)
    (before after : ℕ) : Type 0 where
  pub powered : List ChipState
  pub power_on : RackPowers power chain powers fitted powered
  pub lived : Lives chain run.moments powered news
  pub asks : AsksWithin (run_allowed fitted) before after (tried_codes run)

-- the sink failed at a line before the run began
pub record FailedBefore (old new : Output) (manner : Manner) (word : VerdictWord) (fitted news : List ChipState)
    (before after : ℕ) : Type 0 where
  pub same : news ≡ fitted
  pub part : AddsPart old new (text_of (opening_lines manner word))
  pub unasked : after ≡ before

-- it failed at a line of the run, at whose instruction, or at whose reset, the chips stand, up to which steps were tried
pub record FailedDuring (old new : Output) (manner : Manner) (word : VerdictWord) (power : ℕ) (chain : List ℕ) (powers : List PowerOn)
    (run : Telling) (fitted news : List ChipState) (before after : ℕ) : Type 0 where
  pub powered : List ChipState
  pub power_on : RackPowers power chain powers fitted powered
  pub between : Output
  pub opening : Adds old between (text_of (opening_lines manner word))
  pub cut : CutShort (detail_of manner) chain run.moments powered news between new
  pub asks :
      AsksWithin (run_allowed fitted) before after (codes_up_to cut.before cut.at cut.behind run.ending.stop)

-- it failed at a line behind the run
pub record FailedAfter (old new : Output) (manner : Manner) (word : VerdictWord) (power : ℕ) (chain : List ℕ) (powers : List PowerOn)
    (run : Telling) (fitted news : List ChipState) (before after : ℕ) : Type 0 where
  pub ran : RanOn power chain powers run fitted news before after
  pub between : Output
  pub told : Adds old between (text_of (opening_lines manner word) ++ text_in (detail_of manner) (told_in run.moments))
  pub part : AddsPart between new (text_of (closing_lines manner run.ending))

-- What a run on chips that are fitted makes of them.
pub record OnFitted (old new : Output) (said : Status) (manner : Manner) (word : VerdictWord) (power : ℕ) (chain : List ℕ)
    (powers : List PowerOn) (run : Telling) (fitted news : List ChipState) (before after : ℕ) : Type 0 where
  pub ran : said ≢ status.Sink → RanOn power chain powers run fitted news before after
  pub failed : said ≡ status.Sink →
      FailedBefore old new manner word fitted news before after
      ⊎ FailedDuring old new manner word power chain powers run fitted news before after
      ⊎ FailedAfter old new manner word power chain powers run fitted news before after

-- ---- a game on a rack

-- the chips are fitted as the game has it, and then the run is theirs, behind a line of the right verdict
pub record PlayedOn (old new : Output) (said : Status) (manner : Manner) (game : Game)
    (rack news : List ChipState) (before after : ℕ) : Type 0 where
  pub fitted : List ChipState
  pub fits : RackFits (seated game.cart.chips rack) rack fitted
  pub right : RightVerdict game.cart
  pub on : OnFitted old new said manner (verdict_word right.verdict) game.script.power (game_chain game rack)
      game.cart.powers (game_run manner game rack) fitted news before after

-- What a call that plays a game says of the rack. Where memory was wanting, the first chips may have been fitted, or all of them, and
-- no more became of them.
pub record Plays (old new : Output) (said : Status) (manner : Manner) (game : Game)
    (rack news : List ChipState) (before after : ℕ) : Type 0 where
  pub wanting : said ≡ status.Memory →
      RackFitsInPart (seated game.cart.chips rack) rack news ⊎ RackFits (seated game.cart.chips rack) rack news
  pub unasked : said ≡ status.Memory → after ≡ before
  pub played : said ≢ status.Memory → PlayedOn old new said manner game rack news before after

-- the rack is left as it was
pub record Leaves (rack news : List ChipState) (before after : ℕ) : Type 0 where
  pub same : news ≡ rack
  pub unasked : after ≡ before

-- so it is where a game is refused
abbrev pub PlaysUnless : Option (List ℕ) → Output → Output → Status → Manner → Game → (rack news : List ChipState) →
    (before after : ℕ) → Type 0
PlaysUnless (Some line) old new said manner game rack news before after = Leaves rack news before after
PlaysUnless None old new said manner game rack news before after = Plays old new said manner game rack news before after

abbrev pub PlaysGame : Output → Output → Status → Manner → Game → (rack news : List ChipState) → (before after : ℕ) → Type 0
PlaysGame old new said manner game rack news before after =
    PlaysUnless (refusal game.cart.chips rack) old new said manner game rack news before after

-- and where the files gave no game
abbrev pub RackAfter : Output → Output → Status → Manner → Result Game Stop → (rack news : List ChipState) →
    (before after : ℕ) → Type 0
RackAfter old new said manner (Ok game) rack news before after = PlaysGame old new said manner game rack news before after
RackAfter old new said manner (Err stop) rack news before after = Leaves rack news before after
