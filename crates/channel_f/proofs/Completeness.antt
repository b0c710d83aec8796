-- What a call says, by the files that the store tells.
use Rattle.std.proofs.Common.{◌≡◌, ◌≢◌, ℕ, ◌<◌, Bool, true, false, ◌⊎◌, inl, inr, List, [], ◌∷◌, ◌++◌, Option, Some, None, Result}
use Rattle.std.proofs.Common.{Ok, Err}
use Rattle.std.proofs.Common.{refl, sym, ◌∙◌, subst, arith}
use Rattle.std.proofs.lemmas.List.{append_assoc, append-nil}
use Rattle.f8_spec.specs.ChipState.{ChipState}
use Rattle.console_spec.specs.Run.{Stop as RunStop, Done, Unserved, Reserved}
use Rattle.console_spec.specs.RunText.{text_of}
use Rattle.outside.specs.Counts.{Rose}
use Rattle.outside.specs.SinkRules.{Adds}
use Rattle.outside.specs.StoreRules.{NamedBytes, Input}
use Rattle.command_line.specs.CommandLine.{Command, Play, Check, Verify, Prove, Confirm, Migrate, Ref, Debug, Audit, Asm, Link, Dis, Gen}
use Rattle.console_spec.specs.Telling.{Telling}
use Rattle.console_spec.specs.declared.VerdictWord.{VerdictWord}
use Rattle.cart_checker.specs.Verdicts.{verdict_word}
use Rattle.cart_checker.specs.declared.verdict.Verdict.{Verdict}
use Rattle.cart_checker.specs.declared.verdict.Verdict.TheVariants.{Whole as FaultFree, Agreed, Refused as RefusedCart, TooMany}
use Rattle.cart_data.specs.declared.cart.Cart.{Cart}
use Rattle.bus_audit.specs.declared.answers.AuditAnswer.{AuditAnswer}
use Rattle.bus_audit.specs.declared.answers.AuditAnswer.TheVariants.{Accept, Reject}
use Rattle.case_step.specs.declared.answer.CasesAnswer.{CasesAnswer}
use Rattle.case_step.specs.declared.answer.CasesAnswer.TheVariants as confirmed
use Rattle.case_search.specs.declared.proving.ProveAnswer.{ProveAnswer}
use Rattle.case_search.specs.declared.proving.ProveAnswer.TheVariants as proved
use Rattle.certificate.specs.declared.examined.VerifyAnswer.{VerifyAnswer}
use Rattle.certificate.specs.declared.examined.VerifyAnswer.TheVariants as found
use Rattle.loader.specs.declared.refusals.Refusal.{Refusal}
use Rattle.loader.specs.declared.refusals.Stop.{Stop}
use Rattle.loader.specs.declared.refusals.Stop.TheVariants.{Refused, Store, Memory}
use Rattle.chip_face.specs.declared.specification.ChipSpec.{ChipSpec}
use Rattle.loader.specs.declared.games.Debugging.{Debugging}
use Rattle.loader.specs.Games.{Auditing, Game, game_of, cart_of, table_by, claim_of, debugging_of, auditing_of, image_by, linked_by}
use Rattle.loader.specs.Games.{bytes_by, confirming_of}
use Rattle.loader.specs.Work.{End, Gives, Refuses, Lacks, Work, gives, ◌>>=◌}
use Rattle.loader.specs.Works.{HasFiles, Misses, order_of, file_of, Works, outcome_as}
use Rattle.loader.proofs.WorkLaws.{works_gives, works_done, works_stop}
use Rattle.channel_f.specs.Answers.{Answer, Due, Plain, Judged, Proved, Reading, refusal, status_of, run_answer, judged_run, game_run}
use Rattle.channel_f.specs.Answers.{unless_refused, game_due, generated_game, gen_due, play_due, check_answer, check_due}
use Rattle.channel_f.specs.Answers.{audit_answer, audit_due, audited_answer, confirm_answer, confirmed_answer}
use Rattle.channel_f.specs.Answers.{debug_answer, debug_due, migrate_due, text_answer, cert_answer, found_answer, verify_answer}
use Rattle.channel_f.specs.Answers.{listed_answer, prove_answer, prove_due}
use Rattle.channel_f.specs.Answers.{ref_answer, ref_run, asm_answer, dis_answer, words_answer, due_of, refusal_answer}
use Rattle.channel_f.specs.Commands.{Around, Ends, Says}
use Rattle.channel_f.specs.Completeness.{due_at, Answered, AnsweredDue, RefusesBehind, RefusesRack, IsComplete}
use Rattle.channel_f.specs.Reports.{Answers, AnswersDue, Wants, Stops}
use Rattle.channel_f.specs.declared.manner.Manner.{Manner}
use Rattle.channel_f.specs.declared.manner.Manner.TheVariants.{Whole, Summary}
use Rattle.channel_f.specs.declared.status.Status.{Status}
use Rattle.channel_f.specs.declared.status.Status.TheVariants as status
use Rattle.channel_f.proofs.Games.{answers_of}

-- a status that the store, the sink and memory don't have
record IsPlain (due : Status) : Type 0 where
  store : due ≢ status.Store
  sink : due ≢ status.Sink
  memory : due ≢ status.Memory

-- ---- what is due

due_has : (end : End Due) (due : Due) → due_at end ≡ Some due → HasFiles end
due_has (Gives d) due e = tt
due_has (Refuses r) due e = tt
due_has Lacks due e = cc e

due_given : (end : End Due) (d due : Due) → end ≡ Gives d → due_at end ≡ Some due → d ≡ due
due_given end d due is e = let here : due_at (Gives d) ≡ Some due = rw is at e in some_same here
  where
    some_same : Some d ≡ Some due → d ≡ due
    some_same e = cc e

due_refused : (end : End Due) (r : Refusal) (due : Due) → end ≡ Refuses r → due_at end ≡ Some due →
    Plain (refusal_answer r) ≡ due
due_refused end r due is e = let here : due_at (Refuses r) ≡ Some due = rw is at e in some_same here
  where
    some_same : Some (Plain (refusal_answer r)) ≡ Some due → Plain (refusal_answer r) ≡ due
    some_same e = cc e

given_due : (end : End Due) (d : Due) → end ≡ Gives d → due_at end ≡ None → ⊥
given_due end d is e = let here : due_at (Gives d) ≡ None = rw is at e in never here
  where
    never : Some d ≡ None → ⊥
    never e = cc e

refused_due : (end : End Due) (r : Refusal) → end ≡ Refuses r → due_at end ≡ None → ⊥
refused_due end r is e = let here : due_at (Refuses r) ≡ None = rw is at e in never here
  where
    never : Some (Plain (refusal_answer r)) ≡ None → ⊥
    never e = cc e

-- the store tells its files after the call
still_told : (old new : Around) (work : Work Due) (outcome : Result Due Stop) →
    Works old.input new.input work outcome →
    (files : List NamedBytes) → old.input.files ≡ Some files →
    HasFiles (work files).end ⊎ (new.input.files ≡ Some files) →
    new.input.files ≡ Some files
still_told old new work outcome works files e (inl has) = works.telling files e has
still_told old new work outcome works files e (inr told) = told

no_rise : (before now : ℕ) → now ≡ before → before < now → ⊥
no_rise before now e less = omega (arith, e, less)

input_not_memory : (said : Status) → said ≡ status.Input → said ≡ status.Memory → ⊥
input_not_memory said by_input by_memory = cc

store_not_memory : (said : Status) → said ≡ status.Store → said ≡ status.Memory → ⊥
store_not_memory said by_store by_memory = cc

sink_not_memory : (said : Status) → said ≡ status.Sink → said ≡ status.Memory → ⊥
sink_not_memory said by_sink by_memory = cc

-- what is due as refused input is the refusal of a rack
record RackRefuses (rack : List ChipState) (due : Answer) : Type 0 where
  chips : List ChipSpec
  line : List ℕ
  is : refusal chips rack ≡ Some line
  lines : due.lines ≡ line ∷ []

-- What is due came to an answer, whose status is none of those.
record Answering (old new : Around) (said : Status) (due : Due) : Type 0 where
  answer : Answer
  plain : IsPlain answer.status
  of_rack : answer.status ≡ status.Input → RackRefuses old.rack answer
  ends : Answers old.output new.output said answer
  is_due : Answered old new said answer → AnsweredDue old new said due

-- ---- an answer

module _ (old new : Around) (said : Status) (work : Work Due) where
  complete_ok : (due : Due) → Answering old new said due → Works old.input new.input work (Ok due) → IsComplete old new said work
  complete_ok due here works = record {
    answers = λ files other e is_due no_store no_sink.
        let told = works.telling files e (due_has (work files).end other is_due) in
        let same = due_given (work files).end due other (works.follows files told).0 is_due in
        subst (λ (d : Due). AnsweredDue old new said d ⊎ (said ≡ status.Memory)) same (answered_due (answered no_sink ends.which));
    lacks = λ files told none. absurd (given_due (work files).end due (works.follows files told).0 none);
    refused = λ files e none by_input. inr (rack_refused by_input ends.which);
    bound = λ files e either.
        let follows = works.follows files (still_told old new work (Ok due) works files e either) in
        record {
          first = (work files).asks;
          rest = [];
          are = sym (append-nil (work files).asks);
          fetches = follows.1;
        };
    store = λ by_store. absurd (not_store by_store ends.which);
    store_told = λ less. absurd (no_rise old.input.faults new.input.faults works.fails less);
    sink = λ by_sink. (ends.part by_sink).rose;
    sink_told = λ less. is_sink less ends.which;
  }
    where
      a : Answer
      a = here.answer

      plain : IsPlain a.status
      plain = here.plain

      ends : Answers old.output new.output said a
      ends = here.ends

      answered_due : Answered old new said a ⊎ (said ≡ status.Memory) → AnsweredDue old new said due ⊎ (said ≡ status.Memory)
      answered_due (inl answered) = inl (here.is_due answered)
      answered_due (inr by_memory) = inr by_memory

      answered : (Rose old.output.faults new.output.faults → ⊥) → (said ≡ a.status) ⊎ (said ≡ status.Sink) ⊎ (said ≡ status.Memory) →
          Answered old new said a ⊎ (said ≡ status.Memory)
      answered no_sink (inl is) = inl (record {
        status = is;
        lines = ends.whole (λ by_sink. no_sink (ends.part by_sink).rose) (λ by_memory. plain.memory (sym is ∙ by_memory));
      })
      answered no_sink (inr (inl by_sink)) = absurd (no_sink (ends.part by_sink).rose)
      answered no_sink (inr (inr by_memory)) = inr by_memory

      rack_refused : said ≡ status.Input → (said ≡ a.status) ⊎ (said ≡ status.Sink) ⊎ (said ≡ status.Memory) → RefusesRack old new
      rack_refused by_input (inl is) =
          let refuses = here.of_rack (sym is ∙ by_input) in
          let whole = ends.whole (λ by_sink. plain.sink (sym is ∙ by_sink)) (λ by_memory. plain.memory (sym is ∙ by_memory)) in
          record {
            chips = refuses.chips;
            line = refuses.line;
            due = refuses.is;
            lines = subst (λ (ls : List (List ℕ)). Adds old.output new.output (text_of ls)) refuses.lines whole;
          }
      rack_refused by_input (inr (inl by_sink)) = cc
      rack_refused by_input (inr (inr by_memory)) = cc

      not_store : said ≡ status.Store → (said ≡ a.status) ⊎ (said ≡ status.Sink) ⊎ (said ≡ status.Memory) → ⊥
      not_store by_store (inl is) = plain.store (sym is ∙ by_store)
      not_store by_store (inr (inl by_sink)) = cc
      not_store by_store (inr (inr by_memory)) = cc

      stays : said ≢ status.Sink → said ≢ status.Memory → old.output.faults < new.output.faults → ⊥
      stays by_sink by_memory less = no_rise old.output.faults new.output.faults (ends.whole by_sink by_memory).count less

      is_sink : old.output.faults < new.output.faults → (said ≡ a.status) ⊎ (said ≡ status.Sink) ⊎ (said ≡ status.Memory) → said ≡ status.Sink
      is_sink less (inl is) =
          absurd (stays (λ by_sink. plain.sink (sym is ∙ by_sink)) (λ by_memory. plain.memory (sym is ∙ by_memory)) less)
      is_sink less (inr (inl by_sink)) = by_sink
      is_sink less (inr (inr by_memory)) =
          absurd (no_rise old.output.faults new.output.faults (ends.nothing by_memory).count less)

  -- memory was wanting behind the files
  complete_wanting : (due : Due) → Wants old.output new.output said → Works old.input new.input work (Ok due) →
      IsComplete old new said work
  complete_wanting due wants works = record {
    answers = λ files other e is_due no_store no_sink. inr wants.status;
    lacks = λ files told none. absurd (given_due (work files).end due (works.follows files told).0 none);
    refused = λ files e none by_input. absurd (input_not_memory said by_input wants.status);
    bound = λ files e either.
        let follows = works.follows files (still_told old new work (Ok due) works files e either) in
        record {
          first = (work files).asks;
          rest = [];
          are = sym (append-nil (work files).asks);
          fetches = follows.1;
        };
    store = λ by_store. absurd (store_not_memory said by_store wants.status);
    store_told = λ less. absurd (no_rise old.input.faults new.input.faults works.fails less);
    sink = λ by_sink. absurd (sink_not_memory said by_sink wants.status);
    sink_told = λ less. absurd (no_rise old.output.faults new.output.faults wants.nothing.count less);
  }

  -- ---- a file that stops it

  complete_stop : (stop : Stop) → Works old.input new.input work (Err stop) → Stops old.output new.output said stop →
      IsComplete old new said work
  complete_stop (Refused r) works ends = record {
    answers = λ files due e is_due no_store no_sink.
        let told = works.telling files e (due_has (work files).end due is_due) in
        let same = due_refused (work files).end r due (works.follows files told).0 is_due in
        subst (λ (d : Due). AnsweredDue old new said d ⊎ (said ≡ status.Memory)) same (inl (answered no_sink ends.which));
    lacks = λ files told none. absurd (refused_due (work files).end r (works.follows files told).0 none);
    refused = λ files e none by_input. inl (behind files none by_input (works.refused files e));
    bound = λ files e either.
        let follows = works.follows files (still_told old new work (Err (Refused r)) works files e either) in
        record {
          first = (work files).asks;
          rest = [];
          are = sym (append-nil (work files).asks);
          fetches = follows.1;
        };
    store = λ by_store. absurd (not_store by_store ends.which);
    store_told = λ less. absurd (no_rise old.input.faults new.input.faults works.fails less);
    sink = λ by_sink. (ends.part by_sink).rose;
    sink_told = λ less. is_sink less ends.which;
  }
    where
      answered : (Rose old.output.faults new.output.faults → ⊥) → (said ≡ status.Input) ⊎ (said ≡ status.Sink) →
          Answered old new said (refusal_answer r)
      answered no_sink (inl is) =
          record { status = is; lines = ends.whole (λ by_sink. no_sink (ends.part by_sink).rose) }
      answered no_sink (inr by_sink) = absurd (no_sink (ends.part by_sink).rose)

      not_sink : said ≡ status.Input → said ≡ status.Sink → ⊥
      not_sink by_input by_sink = cc

      behind : (files : List NamedBytes) → due_at (work files).end ≡ None → said ≡ status.Input →
          ((work files).end ≡ Refuses r) ⊎ Misses files (work files).asks (order_of (file_of r)) →
          RefusesBehind old new files (work files).asks
      behind files none by_input (inl is) = absurd (refused_due (work files).end r is none)
      behind files none by_input (inr misses) =
          record { refusal = r; lines = ends.whole (not_sink by_input); misses = misses }

      not_store : said ≡ status.Store → (said ≡ status.Input) ⊎ (said ≡ status.Sink) → ⊥
      not_store by_store (inl is) = cc
      not_store by_store (inr by_sink) = cc

      is_sink : old.output.faults < new.output.faults → (said ≡ status.Input) ⊎ (said ≡ status.Sink) → said ≡ status.Sink
      is_sink less (inl is) =
          absurd (no_rise old.output.faults new.output.faults (ends.whole (not_sink is)).count less)
      is_sink less (inr by_sink) = by_sink
  complete_stop (Store p) works ends = record {
    answers = λ files answer e is_due no_store no_sink. absurd (no_store works.fails);
    lacks = λ files told none. one_of ends.which;
    refused = λ files e none by_input. absurd (not_input by_input ends.which);
    bound = λ files e either.
        let follows = works.follows files (still_told old new work (Err (Store p)) works files e either) in
        record {
          first = follows.before ++ follows.ask ∷ [];
          rest = follows.rest;
          are = follows.are ∙ sym (append_assoc follows.before (follows.ask ∷ []) follows.rest);
          fetches = follows.fetches;
        };
    store = λ by_store. works.fails;
    store_told = λ less. ends.which;
    sink = λ by_sink. (ends.part by_sink).rose;
    sink_told = λ less. is_sink less ends.which;
  }
    where
      one_of : (said ≡ status.Store) ⊎ (said ≡ status.Sink) → (said ≡ status.Store) ⊎ (said ≡ status.Sink) ⊎ (said ≡ status.Memory)
      one_of (inl by_store) = inl by_store
      one_of (inr by_sink) = inr (inl by_sink)

      not_input : said ≡ status.Input → (said ≡ status.Store) ⊎ (said ≡ status.Sink) → ⊥
      not_input by_input (inl by_store) = cc
      not_input by_input (inr by_sink) = cc

      not_sink : said ≡ status.Store → said ≡ status.Sink → ⊥
      not_sink by_store by_sink = cc

      is_sink : old.output.faults < new.output.faults → (said ≡ status.Store) ⊎ (said ≡ status.Sink) → said ≡ status.Sink
      is_sink less (inl is) =
          absurd (no_rise old.output.faults new.output.faults (ends.whole (not_sink is)).count less)
      is_sink less (inr by_sink) = by_sink
  complete_stop Memory works ends = record {
    answers = λ files answer e is_due no_store no_sink. inr ends.status;
    lacks = λ files told none. inr (inr ends.status);
    refused = λ files e none by_input. absurd (input_not_memory said by_input ends.status);
    bound = λ files e either. works.follows files (still_told old new work (Err Memory) works files e either);
    store = λ by_store. absurd (store_not_memory said by_store ends.status);
    store_told = λ less. absurd (no_rise old.input.faults new.input.faults works.fails less);
    sink = λ by_sink. absurd (sink_not_memory said by_sink ends.status);
    sink_told = λ less. absurd (no_rise old.output.faults new.output.faults ends.nothing.count less);
  }

-- ---- what came of what is due

-- each answer that may be due has a status of its own, and refused input is the refusal of a rack
record IsOrdinary (rack : List ChipState) (answer : Answer) : Type 0 where
  plain : IsPlain answer.status
  of_rack : answer.status ≡ status.Input → RackRefuses rack answer

abbrev AreOrdinary : List ChipState → Due → Type 0
AreOrdinary rack (Plain answer) = IsOrdinary rack answer
AreOrdinary rack (Judged cart by) = (verdict : Verdict) → IsOrdinary rack (by verdict)
AreOrdinary rack (Proved cart by) = (answer : ProveAnswer) → IsOrdinary rack (by answer)
AreOrdinary rack (Reading table) = (text : List ℕ) → IsOrdinary rack (text_answer text)

complete_given : (old new : Around) (said : Status) (work : Work Due) (due : Due) → AreOrdinary old.rack due →
    Works old.input new.input work (Ok due) → AnswersDue old.output new.output said due → IsComplete old new said work
complete_given old new said work (Plain answer) ordinary works ends =
    complete_ok old new said work (Plain answer)
    (record { answer = answer; plain = ordinary.plain; of_rack = ordinary.of_rack; ends = ends; is_due = λ answered. answered })
    works
complete_given old new said work (Judged cart by) ordinary works (inl wants) =
    complete_wanting old new said work (Judged cart by) wants works
complete_given old new said work (Judged cart by) ordinary works (inr judges) =
    let mine = ordinary judges.right.verdict in
    complete_ok old new said work (Judged cart by)
    (record {
      answer = by judges.right.verdict;
      plain = mine.plain;
      of_rack = mine.of_rack;
      ends =
          answers_of old.output new.output said (by judges.right.verdict).status (by judges.right.verdict).lines mine.plain.memory
          judges.reports;
      is_due = λ answered. record { right = judges.right; answered = answered };
    })
    works
complete_given old new said work (Proved cart by) ordinary works (inl wants) =
    complete_wanting old new said work (Proved cart by) wants works
complete_given old new said work (Proved cart by) ordinary works (inr proves) =
    let mine = ordinary proves.answer in
    complete_ok old new said work (Proved cart by)
    (record {
      answer = by proves.answer;
      plain = mine.plain;
      of_rack = mine.of_rack;
      ends =
          answers_of old.output new.output said (by proves.answer).status (by proves.answer).lines mine.plain.memory
          proves.reports;
      is_due = λ answered. record { answer = proves.answer; shows = proves.shows; no_less = proves.no_less; answered = answered };
    })
    works
complete_given old new said work (Reading table) ordinary works (inl wants) =
    complete_wanting old new said work (Reading table) wants works
complete_given old new said work (Reading table) ordinary works (inr documents) =
    let mine = ordinary documents.text in
    complete_ok old new said work (Reading table)
    (record {
      answer = text_answer documents.text;
      plain = mine.plain;
      of_rack = mine.of_rack;
      ends =
          answers_of old.output new.output said (text_answer documents.text).status (text_answer documents.text).lines mine.plain.memory
          documents.reports;
      is_due = λ answered. record { text = documents.text; reads = documents.reads; answered = answered };
    })
    works

complete_of : {A : Type 0} (old new : Around) (said : Status) (work : Work A) (due : A → Due) (outcome : Result A Stop) →
    ((x : A) → AreOrdinary old.rack (due x)) → Works old.input new.input work outcome →
    Ends old.output new.output said (outcome_as due outcome) → IsComplete old new said (work >>= λ x. gives (due x))
complete_of old new said work due (Ok x) ordinary works ends =
    complete_given old new said (work >>= λ y. gives (due y)) (due x) (ordinary x)
    (works_done old.input new.input work x due works) ends
complete_of old new said work due (Err stop) ordinary works ends =
    complete_stop old new said (work >>= λ y. gives (due y)) stop
    (works_stop old.input new.input work (λ y. gives (due y)) stop works) ends

-- no file is asked for
complete_asked : (old new : Around) (said : Status) (due : Due) → AreOrdinary old.rack due → new.input ≡ old.input →
    AnswersDue old.output new.output said due → IsComplete old new said (gives due)
complete_asked old new said due ordinary asks answers =
    complete_given old new said (gives due) due ordinary
    (subst (λ (input : Input). Works old.input input (gives due) (Ok due)) (sym asks) (works_gives old.input due))
    answers

-- ---- the statuses of answers

done_ordinary : (rack : List ChipState) (lines : List (List ℕ)) → IsOrdinary rack (record { status = status.Done; lines = lines })
done_ordinary rack lines = record {
  plain = record { store = λ e. cc; sink = λ e. cc; memory = λ e. cc };
  of_rack = λ e. cc;
}

words_ordinary : (rack : List ChipState) → IsOrdinary rack words_answer
words_ordinary rack = record {
  plain = record { store = λ e. cc; sink = λ e. cc; memory = λ e. cc };
  of_rack = λ e. cc;
}

no_verdict_ordinary : (rack : List ChipState) (lines : List (List ℕ)) → IsOrdinary rack (record { status = status.NoVerdict; lines = lines })
no_verdict_ordinary rack lines = record {
  plain = record { store = λ e. cc; sink = λ e. cc; memory = λ e. cc };
  of_rack = λ e. cc;
}

-- of the input only a rack is refused
stop_ordinary : (rack : List ChipState) (stop : RunStop) (lines : List (List ℕ)) →
    IsOrdinary rack (record { status = status_of stop; lines = lines })
stop_ordinary rack Done lines = done_ordinary rack lines
stop_ordinary rack (Unserved fault) lines = record {
  plain = record { store = λ e. cc; sink = λ e. cc; memory = λ e. cc };
  of_rack = λ e. cc;
}
stop_ordinary rack (Reserved at code) lines = record {
  plain = record { store = λ e. cc; sink = λ e. cc; memory = λ e. cc };
  of_rack = λ e. cc;
}

run_ordinary : (rack : List ChipState) (manner : Manner) (word : VerdictWord) (run : Telling) →
    IsOrdinary rack (run_answer manner word run)
run_ordinary rack manner word run = stop_ordinary rack run.ending.stop _

-- chips are refused, or what is due of them is told
unless_ordinary : (rack : List ChipState) (chips : List ChipSpec) (line : Option (List ℕ)) (due : Due) →
    refusal chips rack ≡ line → AreOrdinary rack due → AreOrdinary rack (unless_refused line due)
unless_ordinary rack chips None due is ordinary = ordinary
unless_ordinary rack chips (Some line) due is ordinary = record {
  plain = record { store = λ e. cc; sink = λ e. cc; memory = λ e. cc };
  of_rack = λ by_input. record { chips = chips; line = line; is = is; lines = refl };
}

game_ordinary : (manner : Manner) (rack : List ChipState) (game : Game) → AreOrdinary rack (game_due manner rack game)
game_ordinary manner rack game =
    unless_ordinary rack game.cart.chips (refusal game.cart.chips rack) (judged_run manner game (game_run manner game rack)) refl
    (λ verdict. run_ordinary rack manner (verdict_word verdict) (game_run manner game rack))

debug_ordinary : (rack : List ChipState) (asked : Debugging) → AreOrdinary rack (debug_due rack asked)
debug_ordinary rack asked =
    unless_ordinary rack asked.cart.chips (refusal asked.cart.chips rack) (Plain (debug_answer asked rack)) refl
    (done_ordinary rack _)

audited_ordinary : (rack : List ChipState) (found : AuditAnswer) → IsOrdinary rack (audited_answer found)
audited_ordinary rack (Accept instructions) = done_ordinary rack _
audited_ordinary rack (Reject line) = no_verdict_ordinary rack _

audit_ordinary : (rack : List ChipState) (asked : Auditing) → AreOrdinary rack (audit_due rack asked)
audit_ordinary rack asked =
    unless_ordinary rack asked.game.cart.chips (refusal asked.game.cart.chips rack) (Plain (audit_answer asked rack)) refl
    (audited_ordinary rack _)

check_ordinary : (rack : List ChipState) (tracked : List ℕ) (verdict : Verdict) → IsOrdinary rack (check_answer tracked verdict)
check_ordinary rack tracked (FaultFree notes) = done_ordinary rack _
check_ordinary rack tracked (Agreed notes) = done_ordinary rack _
check_ordinary rack tracked (RefusedCart point state reason) = no_verdict_ordinary rack _
check_ordinary rack tracked TooMany = no_verdict_ordinary rack _

cert_ordinary : (rack : List ChipState) (tracked : List ℕ) (verdict : Verdict) → IsOrdinary rack (cert_answer tracked verdict)
cert_ordinary rack tracked (FaultFree notes) = done_ordinary rack _
cert_ordinary rack tracked (Agreed notes) = done_ordinary rack _
cert_ordinary rack tracked (RefusedCart point state reason) = no_verdict_ordinary rack _
cert_ordinary rack tracked TooMany = no_verdict_ordinary rack _

judged_ordinary : (rack : List ChipState) (certified : Bool) (cart : Cart) → AreOrdinary rack (check_due certified cart)
judged_ordinary rack true cart = λ verdict. cert_ordinary rack cart.split verdict
judged_ordinary rack false cart = λ verdict. check_ordinary rack cart.split verdict

found_ordinary : (rack : List ChipState) (tracked : List ℕ) (points : ℕ) (answer : VerifyAnswer) →
    IsOrdinary rack (found_answer tracked points answer)
found_ordinary rack tracked points found.Whole = done_ordinary rack _
found_ordinary rack tracked points found.Agreed = done_ordinary rack _
found_ordinary rack tracked points (found.NotClosed from to) = no_verdict_ordinary rack _
found_ordinary rack tracked points (found.Unsafe point reason) = no_verdict_ordinary rack _

confirmed_ordinary : (rack : List ChipState) (entries : ℕ) (answer : CasesAnswer) → IsOrdinary rack (confirmed_answer entries answer)
confirmed_ordinary rack entries confirmed.Whole = done_ordinary rack _
confirmed_ordinary rack entries confirmed.Agreed = done_ordinary rack _
confirmed_ordinary rack entries (confirmed.NotClosed from to) = no_verdict_ordinary rack _
confirmed_ordinary rack entries (confirmed.Unsafe place reason) = no_verdict_ordinary rack _

prove_ordinary : (rack : List ChipState) (answer : ProveAnswer) → IsOrdinary rack (prove_answer answer)
prove_ordinary rack (proved.Whole shown) = done_ordinary rack _
prove_ordinary rack (proved.Agreed shown) = done_ordinary rack _
prove_ordinary rack (proved.Unproved point reason) = no_verdict_ordinary rack _

listed_ordinary : (rack : List ChipState) (answer : ProveAnswer) → IsOrdinary rack (listed_answer answer)
listed_ordinary rack (proved.Whole shown) = done_ordinary rack _
listed_ordinary rack (proved.Agreed shown) = done_ordinary rack _
listed_ordinary rack (proved.Unproved point reason) = no_verdict_ordinary rack _

proved_ordinary : (rack : List ChipState) (listed : Bool) (cart : Cart) → AreOrdinary rack (prove_due listed cart)
proved_ordinary rack true cart = listed_ordinary rack
proved_ordinary rack false cart = prove_ordinary rack

-- ---- all commands

pub completed : (old new : Around) (said : Status) (command : Option Command) → Says old new said command →
    IsComplete old new said (due_of old.rack command)
completed old new said (Some (Play cart script traced)) says =
    complete_of old new said (game_of cart script) (play_due traced old.rack) says.outcome
    (game_ordinary (Whole traced) old.rack) says.works says.ends
completed old new said (Some (Check cart certified)) says =
    complete_of old new said (cart_of cart) (check_due certified) says.told.outcome
    (λ cartridge. judged_ordinary old.rack certified cartridge) says.told.works says.told.ends
completed old new said (Some (Verify cart cert)) says =
    complete_of old new said (claim_of cart cert) (λ claim. Plain (verify_answer claim)) says.told.outcome
    (λ claim. found_ordinary old.rack claim.cart.split _ _) says.told.works says.told.ends
completed old new said (Some (Prove cart listed)) says =
    complete_of old new said (cart_of cart) (prove_due listed) says.told.outcome
    (λ cartridge. proved_ordinary old.rack listed cartridge) says.told.works says.told.ends
completed old new said (Some (Confirm cart cases)) says =
    complete_of old new said (confirming_of cart cases) (λ asked. Plain (confirm_answer asked)) says.told.outcome
    (λ asked. confirmed_ordinary old.rack _ _) says.told.works says.told.ends
completed old new said (Some (Migrate cart)) says =
    complete_of old new said (table_by cart) migrate_due says.told.outcome
    (λ table. λ text. done_ordinary old.rack _) says.told.works says.told.ends
completed old new said (Some (Ref cart script)) says =
    complete_of old new said (game_of cart script) (λ game. Plain (ref_answer game)) says.told.outcome
    (λ game. stop_ordinary old.rack (ref_run game).ending.stop _) says.told.works says.told.ends
completed old new said (Some (Debug cart commands)) says =
    complete_of old new said (debugging_of cart commands) (debug_due old.rack) says.outcome (debug_ordinary old.rack)
    says.works says.ends
completed old new said (Some (Audit cart script trace)) says =
    complete_of old new said (auditing_of cart script trace) (audit_due old.rack) says.outcome (audit_ordinary old.rack)
    says.works says.ends
completed old new said (Some (Asm file)) says =
    complete_of old new said (image_by file) (λ picture. Plain (asm_answer picture)) says.told.outcome
    (λ picture. done_ordinary old.rack _) says.told.works says.told.ends
completed old new said (Some (Link plan)) says =
    complete_of old new said (linked_by plan) (λ picture. Plain (asm_answer picture)) says.told.outcome
    (λ picture. done_ordinary old.rack _) says.told.works says.told.ends
completed old new said (Some (Dis file)) says =
    complete_of old new said (bytes_by file) (λ bytes. Plain (dis_answer bytes)) says.told.outcome
    (λ bytes. done_ordinary old.rack _) says.told.works says.told.ends
completed old new said (Some (Gen seed)) says =
    complete_asked old new said (gen_due old.rack seed) (game_ordinary (Summary seed) old.rack (generated_game seed))
    says.asks says.answers
completed old new said None says =
    complete_asked old new said (Plain words_answer) (words_ordinary old.rack) says.asks says.answers
