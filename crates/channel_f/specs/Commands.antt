-- What a call of the program's top function says, a case for each command and one for words that ask for nothing.
use Rattle.std.specs.Prelude.{◌≡◌, ℕ, Bool, List, Option, Some, None, Result, Ok, Err}
use Rattle.f8_spec.specs.ChipState.{ChipState}
use Rattle.outside.specs.SinkRules.{Output}
use Rattle.outside.specs.StoreRules.{Input}
use Rattle.command_line.specs.CommandLine.{Command, Play, Check, Verify, Prove, Confirm, Migrate, Ref, Debug, Audit, Asm, Link, Dis, Gen}
use Rattle.loader.specs.declared.refusals.Stop.{Stop}
use Rattle.loader.specs.declared.games.Debugging.{Debugging}
use Rattle.loader.specs.Games.{Auditing, Game, game_of, cart_of, table_by, claim_of, debugging_of, auditing_of, image_by, linked_by}
use Rattle.loader.specs.Games.{bytes_by, confirming_of}
use Rattle.loader.specs.Work.{Work}
use Rattle.loader.specs.Works.{Works, outcome_as}
use Rattle.channel_f.specs.Answers.{Due, Plain, generated_game, gen_due, play_due, check_due, ref_answer, asm_answer, dis_answer}
use Rattle.channel_f.specs.Answers.{audit_due, confirm_answer, debug_due, migrate_due, prove_due, verify_answer, words_answer}
use Rattle.channel_f.specs.ExactAudits.{IsExactAudit}
use Rattle.channel_f.specs.RackAfter.{PlaysGame, RackAfter}
use Rattle.channel_f.specs.RackAudited.{RackAudited}
use Rattle.channel_f.specs.RackDebugged.{RackDebugged}
use Rattle.channel_f.specs.Reports.{Answers, AnswersDue, Stops}
use Rattle.channel_f.specs.SafeGames.{KeepsVerdict, IsSafeRun}
use Rattle.channel_f.specs.declared.manner.Manner.TheVariants.{Whole, Summary}
use Rattle.channel_f.specs.declared.status.Status.{Status}

-- what stands around the program, as contracts see it: the sink, the store, the rack, and how many questions have been put to its chips
pub record Around : Type 0 where
  pub output : Output
  pub input : Input
  pub rack : List ChipState
  pub asked : ℕ

abbrev pub around : Output → Input → List ChipState → ℕ → Around
around output input rack asked = record { output = output; input = input; rack = rack; asked = asked }

-- What was written, and the status: those that are due, or those of the file that stopped it.
abbrev pub Ends : Output → Output → Status → Result Due Stop → Type 0
Ends old new said (Ok due) = AnswersDue old new said due
Ends old new said (Err stop) = Stops old new said stop

-- The files gave what the answer is made of, or stopped the call, and it ended so.
pub record Told {A : Type 0} (old new : Output) (before after : Input) (said : Status) (work : Work A) (due : A → Due) : Type 0 where
  pub outcome : Result A Stop
  pub works : Works before after work outcome
  pub ends : Ends old new said (outcome_as due outcome)

-- a command that leaves the rack as it was, and asks its chips nothing
pub record Tells {A : Type 0} (old new : Around) (said : Status) (work : Work A) (due : A → Due) : Type 0 where
  pub told : Told old.output new.output old.input new.input said work due
  pub same : new.rack ≡ old.rack
  pub unasked : new.asked ≡ old.asked

-- a command that plays the game that the files gave on the rack
pub record TellsGame (old new : Around) (said : Status) (traced : Bool) (work : Work Game) : Type 0 where
  pub outcome : Result Game Stop
  pub works : Works old.input new.input work outcome
  pub ends : Ends old.output new.output said (outcome_as (play_due traced old.rack) outcome)
  pub chips : RackAfter old.output new.output said (Whole traced) outcome old.rack new.rack old.asked new.asked
  pub safe : IsSafeRun said (Whole traced) outcome old.rack

-- a command that carries the commands that the files gave out on the rack
pub record TellsDebugging (old new : Around) (said : Status) (work : Work Debugging) : Type 0 where
  pub outcome : Result Debugging Stop
  pub works : Works old.input new.input work outcome
  pub ends : Ends old.output new.output said (outcome_as (debug_due old.rack) outcome)
  pub chips : RackDebugged old.output new.output said outcome old.rack new.rack old.asked new.asked

-- a command that audits the trace that the files gave on the rack
pub record TellsAudit (old new : Around) (said : Status) (work : Work Auditing) : Type 0 where
  pub outcome : Result Auditing Stop
  pub works : Works old.input new.input work outcome
  pub ends : Ends old.output new.output said (outcome_as (audit_due old.rack) outcome)
  pub chips : RackAudited said outcome old.rack new.rack old.asked new.asked
  pub exact : IsExactAudit said outcome old.rack

-- a command that plays the generated game on the rack, and asks for no file
pub record TellsGenerated (old new : Around) (said : Status) (seed : ℕ) : Type 0 where
  pub answers : AnswersDue old.output new.output said (gen_due old.rack seed)
  pub chips :
      PlaysGame old.output new.output said (Summary seed) (generated_game seed) old.rack new.rack old.asked new.asked
  pub safe : KeepsVerdict said (Summary seed) (generated_game seed) old.rack
  pub asks : new.input ≡ old.input

-- words that ask for nothing
pub record TellsWords (old new : Around) (said : Status) : Type 0 where
  pub answers : Answers old.output new.output said words_answer
  pub asks : new.input ≡ old.input
  pub same : new.rack ≡ old.rack
  pub unasked : new.asked ≡ old.asked

abbrev pub Says : Around → Around → Status → Option Command → Type 0
Says old new said (Some (Play cart script traced)) = TellsGame old new said traced (game_of cart script)
Says old new said (Some (Check cart certified)) = Tells old new said (cart_of cart) (check_due certified)
Says old new said (Some (Verify cart cert)) = Tells old new said (claim_of cart cert) (λ claim. Plain (verify_answer claim))
Says old new said (Some (Prove cart listed)) = Tells old new said (cart_of cart) (prove_due listed)
Says old new said (Some (Confirm cart cases)) = Tells old new said (confirming_of cart cases) (λ asked. Plain (confirm_answer asked))
Says old new said (Some (Migrate cart)) = Tells old new said (table_by cart) migrate_due
Says old new said (Some (Ref cart script)) = Tells old new said (game_of cart script) (λ game. Plain (ref_answer game))
Says old new said (Some (Debug cart commands)) = TellsDebugging old new said (debugging_of cart commands)
Says old new said (Some (Audit cart script trace)) = TellsAudit old new said (auditing_of cart script trace)
Says old new said (Some (Asm file)) = Tells old new said (image_by file) (λ picture. Plain (asm_answer picture))
Says old new said (Some (Link plan)) = Tells old new said (linked_by plan) (λ picture. Plain (asm_answer picture))
Says old new said (Some (Dis file)) = Tells old new said (bytes_by file) (λ bytes. Plain (dis_answer bytes))
Says old new said (Some (Gen seed)) = TellsGenerated old new said seed
Says old new said None = TellsWords old new said
