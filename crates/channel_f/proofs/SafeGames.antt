-- What a verdict promises of a game on a rack that has a place for it.
use Rattle.std.proofs.Common.{◌≡◌, ℕ, Bool, true, false, ◌⊎◌, inl, inr, List, length, refl, ap, ◌∙◌}
use Rattle.std.specs.Prelude.{nat_lt, if◌then◌else◌, Option, Some, None, option_map}
use Rattle.f8_spec.specs.ChipState.{ChipState}
use Rattle.f8_spec.specs.Powers.{ArePowers}
use Rattle.console_spec.specs.Run.{Done}
use Rattle.chip_face.specs.declared.sizes.TheConstants.{MOST_CHIPS}
use Rattle.abs_step.specs.CartridgeAnalysis.{TellsBytes}
use Rattle.abs_step.specs.MapView.{chips_view}
use Rattle.cart_checker.specs.Verdicts.{IsFaultFreeCart}
use Rattle.loader.specs.Games.{Game}
use Rattle.rack_run.specs.Seating.{kinds_of}
use Rattle.rack_run.specs.Sockets.{shortage_of}
use Rattle.rack_run.specs.Texts.{is_traced}
use Rattle.rack_run.specs.declared.sockets.Shortage.{Shortage}
use Rattle.report.specs.ErrorLines.{rack_line}
use Rattle.channel_f.specs.Answers.{refusal, shortage_line, status_of, game_chain, game_run}
use Rattle.channel_f.specs.Manners.{detail_of}
use Rattle.channel_f.specs.SafeGames.{KeepsVerdict}
use Rattle.channel_f.specs.SafeRuns.{HasNoPatches, HasScriptBytes, IsAsDescribed, SafeRunLaw}
use Rattle.channel_f.specs.declared.manner.Manner.{Manner}
use Rattle.channel_f.specs.declared.status.Status.{Status}
use Rattle.channel_f.specs.declared.status.Status.TheVariants as status

-- a rack that is not refused has sockets enough
no_line : (found : Option Shortage) → option_map shortage_line found ≡ None → found ≡ None
no_line None e = refl
no_line (Some shortage) e = absurd (cc e)

no_shortage : (many : Bool) (line : List ℕ) (found : Option Shortage) →
    (if many then Some line else option_map shortage_line found) ≡ None → found ≡ None
no_shortage true line found e = absurd (cc e)
no_shortage false line found e = no_line found e

has_sockets : (game : Game) (rack : List ChipState) → refusal game.cart.chips rack ≡ None → shortage_of game.cart.chips (kinds_of rack) ≡ None
unfolding refusal
has_sockets game rack e = no_shortage (nat_lt MOST_CHIPS (length rack)) (rack_line (length rack)) (shortage_of game.cart.chips (kinds_of rack)) e

module _ (law : SafeRunLaw) (said : Status) (manner : Manner) (game : Game) (rack : List ChipState) (script : HasScriptBytes game.script)
    (are : ArePowers game.cart.powers) (bytes : TellsBytes (chips_view game.cart.chips)) where
  as_described : refusal game.cart.chips rack ≡ None → HasNoPatches game.cart.chips rack → IsAsDescribed game.cart.chips rack game.script
  as_described fits patches = record {
    bytes = bytes;
    enough = has_sockets game rack fits;
    patches = patches;
    script_bytes = script;
  }

  is_done : IsAsDescribed game.cart.chips rack game.script → IsFaultFreeCart game.cart → (game_run manner game rack).ending.stop ≡ Done
  is_done described whole =
      law.done game.cart.chips game.cart.split rack (game_chain game rack) game.cart.powers (is_traced (detail_of manner)) game.script described
      are whole

  status_by : (game_run manner game rack).ending.stop ≡ Done →
      (said ≡ status_of (game_run manner game rack).ending.stop) ⊎ (said ≡ status.Sink) → (said ≡ status.Done) ⊎ (said ≡ status.Sink)
  status_by done (inl is) = inl (is ∙ ap status_of done)
  status_by done (inr by_sink) = inr by_sink

  pub keeps_verdict : (said ≡ status_of (game_run manner game rack).ending.stop) ⊎ (said ≡ status.Sink) → KeepsVerdict said manner game rack
  keeps_verdict which = λ fits patches by_memory.
      let described = as_described fits patches in
      record {
        done = is_done described;
        status = λ whole. status_by (is_done described whole) which;
        agreed = λ safe.
            law.undriven game.cart.chips game.cart.split rack (game_chain game rack) game.cart.powers (is_traced (detail_of manner)) game.script
            described are safe;
      }
