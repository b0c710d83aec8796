-- What a command answers, from what its files came to.
use Rattle.std.proofs.Common.{◌≡◌, ℕ, Bool, ◌⊎◌, inl, inr, List, [], ◌∷◌, Option, Some, None, Ok, Err}
use Rattle.std.proofs.Common.{refl}
use Rattle.std.specs.Prelude.{IsTrue, is_some, option_and_then}
use Rattle.outside.specs.SinkRules.{Output}
use Rattle.outside.specs.StoreRules.{Input}
use Rattle.outside.proofs.SinkLaws.{adds_none}
use Rattle.command_line.specs.CommandLine.{Command, Play, Check, Verify, Prove, Confirm, Migrate, Ref, Debug, Audit, Asm, Link, Dis, Gen}
use Rattle.command_line.specs.CommandLine.{CommandWord, command_of, command_word, has_command}
use Rattle.loader.specs.declared.refusals.Stop.{Stop}
use Rattle.loader.specs.declared.refusals.Stop.TheVariants.{Memory}
use Rattle.loader.specs.declared.games.Debugging.{Debugging}
use Rattle.loader.specs.Games.{Auditing, Game, game_of, cart_of, table_by, claim_of, debugging_of, auditing_of, image_by, linked_by}
use Rattle.loader.specs.Games.{bytes_by, confirming_of}
use Rattle.loader.specs.Work.{Work}
use Rattle.loader.specs.Works.{Works}
use Rattle.loader.proofs.WorkLaws.{works_memory}
use Rattle.channel_f.specs.Answers.{Due, Plain, generated_game, gen_due, play_due, check_due, ref_answer, asm_answer, dis_answer}
use Rattle.channel_f.specs.Answers.{audit_due, confirm_answer, debug_due, migrate_due, prove_due, verify_answer, words_answer}
use Rattle.channel_f.specs.Commands.{Around, Told, Tells, TellsAudit, TellsDebugging, TellsGame, Says}
use Rattle.channel_f.specs.RackAfter.{PlaysGame, RackAfter}
use Rattle.channel_f.specs.ExactAudits.{AnswersExactly}
use Rattle.channel_f.specs.RackAudited.{RackAudited}
use Rattle.channel_f.specs.RackDebugged.{RackDebugged}
use Rattle.channel_f.specs.Reports.{Answers, AnswersDue, Reports, Stops}
use Rattle.channel_f.specs.SafeGames.{KeepsVerdict}
use Rattle.channel_f.specs.declared.manner.Manner.TheVariants.{Whole, Summary}
use Rattle.channel_f.specs.declared.status.Status.{Status}
use Rattle.channel_f.specs.declared.status.Status.TheVariants as status
use Rattle.channel_f.proofs.Games.{answers_wanting, due_wanting, game_wanting}

-- a command that doesn't look at the rack
module _ {A : Type 0} (old new : Output) (before after : Input) (said : Status) (work : Work A) (due : A → Due) where
  pub told_ok : (x : A) → Works before after work (Ok x) → AnswersDue old new said (due x) →
      Told old new before after said work due
  told_ok x works answers = record { outcome = Ok x; works = works; ends = answers }

  pub told_stop : (stop : Stop) → Works before after work (Err stop) → Stops old new said stop →
      Told old new before after said work due
  told_stop stop works stops = record { outcome = Err stop; works = works; ends = stops }

module _ (old new : Around) (said : Status) where
  pub tells_game : (traced : Bool) (work : Work Game) (game : Game) → Works old.input new.input work (Ok game) →
      AnswersDue old.output new.output said (play_due traced old.rack game) →
      RackAfter old.output new.output said (Whole traced) (Ok game) old.rack new.rack old.asked new.asked →
      KeepsVerdict said (Whole traced) game old.rack → TellsGame old new said traced work
  tells_game traced work game works answers chips safe =
      record { outcome = Ok game; works = works; ends = answers; chips = chips; safe = safe }

  pub tells_no_game : (traced : Bool) (work : Work Game) (stop : Stop) → Works old.input new.input work (Err stop) →
      Stops old.output new.output said stop → new.rack ≡ old.rack → new.asked ≡ old.asked →
      TellsGame old new said traced work
  tells_no_game traced work stop works stops same none = record {
    outcome = Err stop;
    works = works;
    ends = stops;
    chips = record { same = same; unasked = none };
    safe = tt;
  }

  pub tells_debugging : (work : Work Debugging) (asked : Debugging) → Works old.input new.input work (Ok asked) →
      AnswersDue old.output new.output said (debug_due old.rack asked) →
      RackDebugged old.output new.output said (Ok asked) old.rack new.rack old.asked new.asked →
      TellsDebugging old new said work
  tells_debugging work asked works answers chips =
      record { outcome = Ok asked; works = works; ends = answers; chips = chips }

  pub tells_no_debugging : (work : Work Debugging) (stop : Stop) → Works old.input new.input work (Err stop) →
      Stops old.output new.output said stop → new.rack ≡ old.rack → new.asked ≡ old.asked →
      TellsDebugging old new said work
  tells_no_debugging work stop works stops same none =
      record { outcome = Err stop; works = works; ends = stops; chips = record { same = same; unasked = none } }

  pub tells_audit : (work : Work Auditing) (asked : Auditing) → Works old.input new.input work (Ok asked) →
      AnswersDue old.output new.output said (audit_due old.rack asked) →
      RackAudited said (Ok asked) old.rack new.rack old.asked new.asked → AnswersExactly said asked old.rack →
      TellsAudit old new said work
  tells_audit work asked works answers chips exact =
      record { outcome = Ok asked; works = works; ends = answers; chips = chips; exact = exact }

  pub tells_no_audit : (work : Work Auditing) (stop : Stop) → Works old.input new.input work (Err stop) →
      Stops old.output new.output said stop → new.rack ≡ old.rack → new.asked ≡ old.asked → TellsAudit old new said work
  tells_no_audit work stop works stops same none = record {
    outcome = Err stop;
    works = works;
    ends = stops;
    chips = record { same = same; unasked = none };
    exact = tt;
  }

  -- ---- all commands

  pub says_play : (traced : Bool) (cart script : List ℕ) (command : Option Command) →
      Some (Play cart script traced) ≡ command → TellsGame old new said traced (game_of cart script) →
      Says old new said command
  says_play traced cart script command is tells = rw (← is) tells

  pub says_check : (cart : List ℕ) (certified : Bool) (command : Option Command) → Some (Check cart certified) ≡ command →
      Told old.output new.output old.input new.input said (cart_of cart) (check_due certified) → new.rack ≡ old.rack →
      new.asked ≡ old.asked → Says old new said command
  says_check cart certified command is told same none = rw (← is) (record { told = told; same = same; unasked = none })

  pub says_verify : (cart cert : List ℕ) (command : Option Command) → Some (Verify cart cert) ≡ command →
      Told old.output new.output old.input new.input said (claim_of cart cert) (λ claim. Plain (verify_answer claim)) →
      new.rack ≡ old.rack → new.asked ≡ old.asked → Says old new said command
  says_verify cart cert command is told same none = rw (← is) (record { told = told; same = same; unasked = none })

  pub says_prove : (cart : List ℕ) (listed : Bool) (command : Option Command) → Some (Prove cart listed) ≡ command →
      Told old.output new.output old.input new.input said (cart_of cart) (prove_due listed) → new.rack ≡ old.rack →
      new.asked ≡ old.asked → Says old new said command
  says_prove cart listed command is told same none = rw (← is) (record { told = told; same = same; unasked = none })

  pub says_confirm : (cart cases : List ℕ) (command : Option Command) → Some (Confirm cart cases) ≡ command →
      Told old.output new.output old.input new.input said (confirming_of cart cases) (λ asked. Plain (confirm_answer asked)) →
      new.rack ≡ old.rack → new.asked ≡ old.asked → Says old new said command
  says_confirm cart cases command is told same none = rw (← is) (record { told = told; same = same; unasked = none })

  pub says_migrate : (cart : List ℕ) (command : Option Command) → Some (Migrate cart) ≡ command →
      Told old.output new.output old.input new.input said (table_by cart) migrate_due → new.rack ≡ old.rack →
      new.asked ≡ old.asked → Says old new said command
  says_migrate cart command is told same none = rw (← is) (record { told = told; same = same; unasked = none })

  pub says_ref : (cart script : List ℕ) (command : Option Command) → Some (Ref cart script) ≡ command →
      Told old.output new.output old.input new.input said (game_of cart script) (λ game. Plain (ref_answer game)) →
      new.rack ≡ old.rack → new.asked ≡ old.asked → Says old new said command
  says_ref cart script command is told same none = rw (← is) (record { told = told; same = same; unasked = none })

  pub says_debug : (cart commands : List ℕ) (command : Option Command) → Some (Debug cart commands) ≡ command →
      TellsDebugging old new said (debugging_of cart commands) → Says old new said command
  says_debug cart commands command is tells = rw (← is) tells

  pub says_audit : (cart script trace : List ℕ) (command : Option Command) → Some (Audit cart script trace) ≡ command →
      TellsAudit old new said (auditing_of cart script trace) → Says old new said command
  says_audit cart script trace command is tells = rw (← is) tells

  pub says_asm : (file : List ℕ) (command : Option Command) → Some (Asm file) ≡ command →
      Told old.output new.output old.input new.input said (image_by file) (λ picture. Plain (asm_answer picture)) →
      new.rack ≡ old.rack → new.asked ≡ old.asked → Says old new said command
  says_asm file command is told same none = rw (← is) (record { told = told; same = same; unasked = none })

  pub says_link : (plan : List ℕ) (command : Option Command) → Some (Link plan) ≡ command →
      Told old.output new.output old.input new.input said (linked_by plan) (λ picture. Plain (asm_answer picture)) →
      new.rack ≡ old.rack → new.asked ≡ old.asked → Says old new said command
  says_link plan command is told same none = rw (← is) (record { told = told; same = same; unasked = none })

  pub says_dis : (file : List ℕ) (command : Option Command) → Some (Dis file) ≡ command →
      Told old.output new.output old.input new.input said (bytes_by file) (λ bytes. Plain (dis_answer bytes)) →
      new.rack ≡ old.rack → new.asked ≡ old.asked → Says old new said command
  says_dis file command is told same none = rw (← is) (record { told = told; same = same; unasked = none })

  -- the generated cartridge
  pub says_gen : (seed : ℕ) (command : Option Command) → Some (Gen seed) ≡ command →
      AnswersDue old.output new.output said (gen_due old.rack seed) →
      PlaysGame old.output new.output said (Summary seed) (generated_game seed) old.rack new.rack old.asked new.asked →
      KeepsVerdict said (Summary seed) (generated_game seed) old.rack → new.input ≡ old.input → Says old new said command
  says_gen seed command is answers chips safe asks =
      rw (← is) (record { answers = answers; chips = chips; safe = safe; asks = asks })

  -- words that ask for nothing
  pub says_words : (command : Option Command) → None ≡ command → Answers old.output new.output said words_answer →
      new.input ≡ old.input → new.rack ≡ old.rack → new.asked ≡ old.asked → Says old new said command
  says_words command is answers asks same none =
      rw (← is) (record { answers = answers; asks = asks; same = same; unasked = none })

-- memory was wanting before a file was asked for
module _ (now : Around) where
  wanting : Stops now.output now.output status.Memory Memory
  wanting = record { status = refl; nothing = adds_none now.output }

  tells_wanting : {A : Type 0} (work : Work A) (due : A → Due) → Tells now now status.Memory work due
  tells_wanting work due = record {
    told =
        told_stop now.output now.output now.input now.input status.Memory work due Memory (works_memory now.input work) wanting;
    same = refl;
    unasked = refl;
  }

  pub says_wanting : (command : Option Command) → Says now now status.Memory command
  says_wanting (Some (Play cart script traced)) =
      tells_no_game now now status.Memory traced (game_of cart script) Memory (works_memory now.input (game_of cart script))
      wanting refl refl
  says_wanting (Some (Check cart certified)) = tells_wanting (cart_of cart) (check_due certified)
  says_wanting (Some (Verify cart cert)) = tells_wanting (claim_of cart cert) (λ claim. Plain (verify_answer claim))
  says_wanting (Some (Prove cart listed)) = tells_wanting (cart_of cart) (prove_due listed)
  says_wanting (Some (Confirm cart cases)) = tells_wanting (confirming_of cart cases) (λ asked. Plain (confirm_answer asked))
  says_wanting (Some (Migrate cart)) = tells_wanting (table_by cart) migrate_due
  says_wanting (Some (Ref cart script)) = tells_wanting (game_of cart script) (λ game. Plain (ref_answer game))
  says_wanting (Some (Debug cart commands)) =
      tells_no_debugging now now status.Memory (debugging_of cart commands) Memory
      (works_memory now.input (debugging_of cart commands)) wanting refl refl
  says_wanting (Some (Audit cart script trace)) =
      tells_no_audit now now status.Memory (auditing_of cart script trace) Memory
      (works_memory now.input (auditing_of cart script trace)) wanting refl refl
  says_wanting (Some (Asm file)) = tells_wanting (image_by file) (λ picture. Plain (asm_answer picture))
  says_wanting (Some (Link plan)) = tells_wanting (linked_by plan) (λ picture. Plain (asm_answer picture))
  says_wanting (Some (Dis file)) = tells_wanting (bytes_by file) (λ bytes. Plain (dis_answer bytes))
  says_wanting (Some (Gen seed)) = record {
    answers = due_wanting now.output (gen_due now.rack seed);
    chips = game_wanting now.output (Summary seed) (generated_game seed) now.rack now.asked;
    safe = λ fits described by_memory. absurd (by_memory refl);
    asks = refl;
  }
  says_wanting None =
      record { answers = answers_wanting now.output words_answer; asks = refl; same = refl; unasked = refl }

-- ---- words without a command

-- what asks for something begins with the word of a command
by_word : (word : Option CommandWord) (rest : List (List ℕ)) (command : Command) →
    Some command ≡ option_and_then (λ c. c.asks rest) word → IsTrue (is_some word)
by_word (Some c) rest command is = refl
by_word None rest command is = cc is

pub command_named : (words : List (List ℕ)) (command : Command) → Some command ≡ command_of words →
    IsTrue (has_command words)
command_named [] command is = cc is
command_named (name ∷ rest) command is = by_word (command_word name) rest command is

-- other words are refused, and take no memory
pub words_not_memory : {P : Type 0} (a b : Output) (said : Status) (lines : List (List ℕ)) → Reports a b said status.Words lines →
    said ≡ status.Memory → P
words_not_memory {P = P} a b said lines reports by_memory = by_status reports.which
  where
    by_status : (said ≡ status.Words) ⊎ (said ≡ status.Sink) → P
    by_status (inl by_words) = cc
    by_status (inr by_sink) = cc
