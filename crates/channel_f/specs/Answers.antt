-- What the program answers: its lines and its status, for some commands by the verdict on a cartridge.
use Rattle.std.specs.Prelude.{ℕ, Bool, true, false, nat_lt, if◌then◌else◌, List, [], ◌∷◌, length, replicate, Option, Some, None, option_map}
use Rattle.toml.specs.Data.{Members}
use Rattle.chip_face.specs.declared.sizes.TheConstants.{MOST_CHIPS}
use Rattle.f8_spec.specs.ChipState.{ChipState, ChipView}
use Rattle.f8_spec.specs.Powers.{usual_power}
use Rattle.console_spec.specs.Run.{Stop, Done, Unserved, Reserved}
use Rattle.console_spec.specs.RunText.{flat_telling_lines}
use Rattle.console_spec.specs.Telling.{Telling, referred_by}
use Rattle.console_spec.specs.declared.End.TheVariants.{Frames}
use Rattle.console_spec.specs.declared.VerdictWord.{VerdictWord}
use Rattle.generator.specs.GeneratedChips.{chips_of_seed}
use Rattle.memory_map.specs.MapOf.{views_of}
use Rattle.abs_step.specs.MapView.{chips_view}
use Rattle.case_step.specs.CaseLists.{judged}
use Rattle.case_step.specs.declared.answer.CasesAnswer.{CasesAnswer}
use Rattle.case_step.specs.declared.answer.CasesAnswer.TheVariants as confirmed
use Rattle.case_search.specs.declared.proving.ProveAnswer.{ProveAnswer}
use Rattle.case_search.specs.declared.proving.ProveAnswer.TheVariants as proved
use Rattle.rack_run.specs.Seating.{kinds_of, fitted_views}
use Rattle.rack_run.specs.Sockets.{chain_of, shortage_of}
use Rattle.rack_run.specs.declared.sockets.Shortage.{Shortage}
use Rattle.report.specs.CheckLines.{whole_line, agreed_line, refused_line, toomany_line, notclosed_line, unsafe_line}
use Rattle.report.specs.ErrorLines.{words_line, rack_line, sockets_line}
use Rattle.cartridge.specs.Migrated.{migrated_table}
use Rattle.cart_data.specs.declared.cart.Cart.{Cart}
use Rattle.cart_checker.specs.Verdicts.{verdict_word, analysis_of}
use Rattle.cart_checker.specs.declared.verdict.Verdict.{Verdict}
use Rattle.cart_checker.specs.declared.verdict.Verdict.TheVariants.{Whole as FaultFree, Agreed, Refused, TooMany}
use Rattle.certificate.specs.CertificateText.{certificate_text}
use Rattle.certificate.specs.Examination.{examined}
use Rattle.certificate.specs.declared.examined.VerifyAnswer.{VerifyAnswer}
use Rattle.certificate.specs.declared.examined.VerifyAnswer.TheVariants as found
use Rattle.f8_asm.specs.Image.{Picture}
use Rattle.f8_asm.specs.Listing.{listing}
use Rattle.asm_lines.specs.ImageLines.{image_lines}
use Rattle.bus_audit.specs.Answers.{answer_in, setup_of, steps_of}
use Rattle.bus_audit.specs.DictatedRuns.{dictated}
use Rattle.bus_audit.specs.FreeRuns.{Setup}
use Rattle.bus_audit.specs.declared.answers.AuditAnswer.{AuditAnswer}
use Rattle.bus_audit.specs.declared.answers.AuditAnswer.TheVariants.{Accept, Reject}
use Rattle.chip_face.specs.declared.specification.ChipSpec.{ChipSpec}
use Rattle.chip_debug.specs.Carried.{first_scene, told_by}
use Rattle.chip_debug.specs.Scenes.{Scene}
use Rattle.command_line.specs.CommandLine.{Command, Play, Check, Verify, Prove, Confirm, Migrate, Ref, Debug, Audit, Asm, Link, Dis, Gen}
use Rattle.loader.specs.declared.purposes.Purpose.{Purpose}
use Rattle.loader.specs.declared.refusals.Refusal.{Refusal}
use Rattle.loader.specs.declared.games.Debugging.{Debugging}
use Rattle.loader.specs.Games.{Game, Claim, Auditing, game_of, cart_of, table_by, claim_of, debugging_of, auditing_of, image_by, linked_by}
use Rattle.loader.specs.Games.{Confirming, bytes_by, confirming_of}
use Rattle.loader.specs.Work.{Work, gives, ◌>>=◌}
use Rattle.channel_f.specs.AuditLines.{accept_line, reject_line}
use Rattle.channel_f.specs.CaseLines.{list_notclosed_line, list_unsafe_line, unproved_line}
use Rattle.channel_f.specs.Manners.{run_by, lines_by}
use Rattle.channel_f.specs.ErrorLines.{refusal_line, missing_line}
use Rattle.channel_f.specs.declared.manner.Manner.{Manner}
use Rattle.channel_f.specs.declared.manner.Manner.TheVariants.{Whole, Summary}
use Rattle.channel_f.specs.declared.status.Status.{Status}
use Rattle.channel_f.specs.declared.status.Status.TheVariants as status

-- the lines that are due, and the status
pub record Answer : Type 0 where
  pub status : Status
  pub lines : List (List ℕ)

-- What is due: an answer; or for each verdict on a cartridge one, of which that of a right verdict is due; or for each answer of a search one,
-- of which that of an answer is due which shows what it says; or any document that reads as a table.
pub data Due : Type 0 where
  Plain : (answer : Answer) → Due
  Judged : (cart : Cart) (by : Verdict → Answer) → Due
  Proved : (cart : Cart) (by : ProveAnswer → Answer) → Due
  Reading : (table : Members) → Due

-- ---- racks

-- the line of a kind that lacks sockets
abbrev pub shortage_line : Shortage → List ℕ
shortage_line s = sockets_line s.kind s.need s.have

-- the line of why the chips of a description are not seated on a rack, if they are not
unfoldable pub refusal : List ChipSpec → List ChipState → Option (List ℕ)
refusal chips rack =
    if nat_lt MOST_CHIPS (length rack) then Some (rack_line (length rack))
    else option_map shortage_line (shortage_of chips (kinds_of rack))

-- ---- runs

-- the status of what stops a run
abbrev pub status_of : Stop → Status
status_of Done = status.Done
status_of (Unserved fault) = status.Fault
status_of (Reserved at code) = status.Reserved

-- the sockets of the chips of a game, in the order of its description
abbrev pub game_chain : Game → List ChipState → List ℕ
game_chain game rack = chain_of game.cart.chips (kinds_of rack)

-- the run of a game on the chips of a rack, fitted for it, each with its own patch in its bytes
abbrev pub game_run : Manner → Game → List ChipState → Telling
game_run manner game rack =
    run_by manner game.script (game_chain game rack) game.cart.powers (fitted_views game.cart.chips rack)

abbrev pub run_answer : Manner → VerdictWord → Telling → Answer
run_answer manner word run = record { status = status_of run.ending.stop; lines = lines_by manner word run }

-- ---- what is due

abbrev pub unless_refused : Option (List ℕ) → Due → Due
unless_refused (Some line) due = Plain (record { status = status.Input; lines = line ∷ [] })
unless_refused None due = due

-- the run of a game is told behind the verdict on its cartridge
abbrev pub judged_run : Manner → Game → Telling → Due
judged_run manner game run = Judged game.cart (λ verdict. run_answer manner (verdict_word verdict) run)

-- a game that the rack has no place for is refused
abbrev pub game_due : Manner → List ChipState → Game → Due
game_due manner rack game = unless_refused (refusal game.cart.chips rack) (judged_run manner game (game_run manner game rack))

abbrev pub play_due : Bool → List ChipState → Game → Due
play_due traced rack game = game_due (Whole traced) rack game

-- the scene at which a session of the debugger begins, on the chips of a rack that are fitted for the cartridge
abbrev pub debug_scene : Cart → List ChipState → Scene
debug_scene cart rack = first_scene cart.chips cart.powers (fitted_views cart.chips rack)

-- all is done once all commands are done, whatever stopped the session
abbrev pub debug_answer : Debugging → List ChipState → Answer
debug_answer asked rack = record { status = status.Done; lines = told_by asked.commands (debug_scene asked.cart rack) }

abbrev pub debug_due : List ChipState → Debugging → Due
debug_due rack asked = unless_refused (refusal asked.cart.chips rack) (Plain (debug_answer asked rack))

-- what the runs of an audit are given: chips that are fitted, with the chain of those described, and the script
abbrev pub audit_setup : Auditing → List ℕ → List ChipView → Setup
audit_setup asked chain vs = setup_of vs chain asked.game.cart.powers asked.game.script

-- what is found of a trace on such chips
unfoldable pub audit_by : Auditing → List ℕ → List ChipView → AuditAnswer
audit_by asked chain vs = answer_in asked.trace (dictated (audit_setup asked chain vs) (steps_of asked.trace.told))

-- done where the trace is accepted, and else no verdict
abbrev pub audited_answer : AuditAnswer → Answer
audited_answer (Accept instructions) = record { status = status.Done; lines = accept_line instructions ∷ [] }
audited_answer (Reject line) = record { status = status.NoVerdict; lines = reject_line line ∷ [] }

-- what is found of it on the chips of a rack, fitted for the cartridge, each with its own patch in its bytes
abbrev pub audit_answer : Auditing → List ChipState → Answer
audit_answer asked rack =
    audited_answer (audit_by asked (game_chain asked.game rack) (fitted_views asked.game.cart.chips rack))

abbrev pub audit_due : List ChipState → Auditing → Due
audit_due rack asked = unless_refused (refusal asked.game.cart.chips rack) (Plain (audit_answer asked rack))

-- The generated cartridge has no register that is tracked, nothing is said of the power-on of its chips, and it runs for 60 frames, without
-- keys and shown frames.
abbrev pub generated_game : ℕ → Game
generated_game seed = record {
  cart = record { split = []; chips = chips_of_seed seed; powers = replicate (length (chips_of_seed seed)) usual_power };
  script = record { power = 0; end = Frames 60; events = []; shows = [] };
}

abbrev pub gen_due : List ChipState → ℕ → Due
gen_due rack seed = game_due (Summary seed) rack (generated_game seed)

-- done where some map is closed and safe, with how many points the least one has, and else no verdict
abbrev pub check_answer : List ℕ → Verdict → Answer
check_answer tracked (FaultFree notes) = record { status = status.Done; lines = whole_line (length notes) ∷ [] }
check_answer tracked (Agreed notes) = record { status = status.Done; lines = agreed_line (length notes) ∷ [] }
check_answer tracked (Refused point state reason) = record { status = status.NoVerdict; lines = refused_line tracked point reason ∷ [] }
check_answer tracked TooMany = record { status = status.NoVerdict; lines = toomany_line ∷ [] }

-- a text, whose lines are told in one
abbrev pub text_answer : List ℕ → Answer
text_answer text = record { status = status.Done; lines = text ∷ [] }

-- where some map is closed and safe, the certificate of the least one, in place of its line
abbrev pub cert_answer : List ℕ → Verdict → Answer
cert_answer tracked (FaultFree notes) = text_answer (certificate_text tracked notes)
cert_answer tracked (Agreed notes) = text_answer (certificate_text tracked notes)
cert_answer tracked (Refused point state reason) = check_answer tracked (Refused point state reason)
cert_answer tracked TooMany = check_answer tracked TooMany

abbrev pub check_due : Bool → Cart → Due
check_due true cart = Judged cart (cert_answer cart.split)
check_due false cart = Judged cart (check_answer cart.split)

-- done where a map of so many points is closed and safe, and else no verdict
abbrev pub found_answer : List ℕ → ℕ → VerifyAnswer → Answer
found_answer tracked points found.Whole = record { status = status.Done; lines = whole_line points ∷ [] }
found_answer tracked points found.Agreed = record { status = status.Done; lines = agreed_line points ∷ [] }
found_answer tracked points (found.NotClosed from to) = record { status = status.NoVerdict; lines = notclosed_line tracked from to ∷ [] }
found_answer tracked points (found.Unsafe point reason) = record { status = status.NoVerdict; lines = unsafe_line tracked point reason ∷ [] }

-- what is found of the map that a certificate claims of a cartridge
abbrev pub verify_answer : Claim → Answer
verify_answer claim = found_answer claim.cart.split (length claim.notes) (examined (analysis_of claim.cart) claim.notes)

-- done where a list of so many entries is closed and safe, and else no verdict
abbrev pub confirmed_answer : ℕ → CasesAnswer → Answer
confirmed_answer entries confirmed.Whole = record { status = status.Done; lines = whole_line entries ∷ [] }
confirmed_answer entries confirmed.Agreed = record { status = status.Done; lines = agreed_line entries ∷ [] }
confirmed_answer entries (confirmed.NotClosed from to) = record { status = status.NoVerdict; lines = list_notclosed_line from to ∷ [] }
confirmed_answer entries (confirmed.Unsafe place reason) = record { status = status.NoVerdict; lines = list_unsafe_line place reason ∷ [] }

-- what is found of a list of entries of a cartridge
abbrev pub confirm_answer : Confirming → Answer
confirm_answer asked = confirmed_answer (length asked.list) (judged (chips_view asked.cart.chips) asked.list)

-- done where a list is found, with how many entries it has, and else no verdict
abbrev pub prove_answer : ProveAnswer → Answer
prove_answer (proved.Whole shown) = record { status = status.Done; lines = whole_line shown.entries ∷ [] }
prove_answer (proved.Agreed shown) = record { status = status.Done; lines = agreed_line shown.entries ∷ [] }
prove_answer (proved.Unproved point reason) = record { status = status.NoVerdict; lines = unproved_line point reason ∷ [] }

-- where a list is found, its text in place of its line
abbrev pub listed_answer : ProveAnswer → Answer
listed_answer (proved.Whole shown) = text_answer shown.text.items
listed_answer (proved.Agreed shown) = text_answer shown.text.items
listed_answer (proved.Unproved point reason) = prove_answer (proved.Unproved point reason)

abbrev pub prove_due : Bool → Cart → Due
prove_due true cart = Proved cart listed_answer
prove_due false cart = Proved cart prove_answer

-- the same description in the newest format
abbrev pub migrate_due : Members → Due
migrate_due table = Reading (migrated_table table)

-- the same chips on the flat instruction set alone
abbrev pub ref_run : Game → Telling
ref_run game = referred_by (views_of game.cart.chips) game.cart.powers game.script

abbrev pub ref_answer : Game → Answer
ref_answer game = record { status = status_of (ref_run game).ending.stop; lines = flat_telling_lines (ref_run game) }

abbrev pub asm_answer : Picture → Answer
asm_answer picture = record { status = status.Done; lines = image_lines picture }

-- the text of some bytes
abbrev pub dis_answer : List ℕ → Answer
dis_answer bytes = text_answer (listing bytes)

-- words that ask for nothing
abbrev pub words_answer : Answer
words_answer = record { status = status.Words; lines = words_line ∷ [] }

-- What is due, as a work over the files: each file is read before the next one is asked for, and the rack is looked at after all of them.
abbrev pub due_of : List ChipState → Option Command → Work Due
due_of rack None = gives (Plain words_answer)
due_of rack (Some (Play cart script traced)) =
    game_of cart script >>= λ game. gives (play_due traced rack game)
due_of rack (Some (Check cart certified)) = cart_of cart >>= λ cartridge. gives (check_due certified cartridge)
due_of rack (Some (Verify cart cert)) = claim_of cart cert >>= λ claim. gives (Plain (verify_answer claim))
due_of rack (Some (Prove cart listed)) = cart_of cart >>= λ cartridge. gives (prove_due listed cartridge)
due_of rack (Some (Confirm cart cases)) = confirming_of cart cases >>= λ asked. gives (Plain (confirm_answer asked))
due_of rack (Some (Migrate cart)) = table_by cart >>= λ table. gives (migrate_due table)
due_of rack (Some (Ref cart script)) = game_of cart script >>= λ game. gives (Plain (ref_answer game))
due_of rack (Some (Debug cart commands)) = debugging_of cart commands >>= λ asked. gives (debug_due rack asked)
due_of rack (Some (Audit cart script trace)) = auditing_of cart script trace >>= λ asked. gives (audit_due rack asked)
due_of rack (Some (Asm file)) = image_by file >>= λ picture. gives (Plain (asm_answer picture))
due_of rack (Some (Link plan)) = linked_by plan >>= λ picture. gives (Plain (asm_answer picture))
due_of rack (Some (Dis file)) = bytes_by file >>= λ bytes. gives (Plain (dis_answer bytes))
due_of rack (Some (Gen seed)) = gives (gen_due rack seed)

-- a file that is refused, and one that the store did not give
abbrev pub refusal_answer : Refusal → Answer
refusal_answer r = record { status = status.Input; lines = refusal_line r ∷ [] }

abbrev pub missing_answer : Purpose → Answer
missing_answer purpose = record { status = status.Store; lines = missing_line purpose ∷ [] }
