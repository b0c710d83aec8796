-- A game on a rack: its lines after one another, and what its run makes of the chips.
use Rattle.std.proofs.Common.{◌≡◌, ◌≢◌, ℕ, true, false, inl, inr, ◌∷◌, ◌++◌, [], List, length, refl, sym, ap, ◌∙◌}
use Rattle.std.proofs.Common.{subst}
use Rattle.std.specs.Prelude.{◌⊎◌, Option, Some, None, flat_map}
use Rattle.std.proofs.lemmas.List.{append_assoc, append-nil}
use Rattle.f8_spec.specs.ChipState.{ChipView, ChipState}
use Rattle.f8_spec.specs.Powers.{ArePowers}
use Rattle.console_spec.specs.Processor.{told_regs}
use Rattle.console_spec.specs.Run.{Stop, Done, Unserved, Reserved, Ending as FlatEnding}
use Rattle.console_spec.specs.RunText.{verdict_line, told_lines, ending_lines, flat_telling_lines, lines_of, text_of}
use Rattle.console_spec.specs.Telling.{Telling, told_in}
use Rattle.console_spec.specs.declared.Regs.{Regs}
use Rattle.console_spec.specs.declared.VerdictWord.{VerdictWord}
use Rattle.generator.specs.SummaryLines.{gen_line}
use Rattle.outside.specs.SinkRules.{Output, Adds, AddsPart}
use Rattle.outside.proofs.SinkLaws.{adds_none, adds_then, adds_part_behind, adds_part_first}
use Rattle.rack_run.specs.Asking.{AsksWithin, run_allowed, tried_codes}
use Rattle.rack_run.specs.Endings.{Tells, Plays as RackPlays, PlaysPart, Refers, stop_at}
use Rattle.rack_run.specs.Seating.{seated, fitted_views, RackFits, RackFitsInPart}
use Rattle.rack_run.specs.Texts.{text_in, text_told}
use Rattle.rack_run.specs.declared.detail.Detail.TheVariants.{Writes}
use Rattle.rack_run.specs.declared.ending.Ending.{Ending}
use Rattle.rack_run.proofs.Seats.{stays_in_part}
use Rattle.report.proofs.TextLaws.{text_of-nil, text_of-cons, text_of-append}
use Rattle.data_bus.specs.Racks.{views}
use Rattle.loader.specs.Games.{Game}
use Rattle.cart_checker.specs.Verdicts.{verdict_word}
use Rattle.channel_f.specs.Answers.{Answer, Due, Plain, Judged, Proved, Reading, status_of, refusal, ref_run, game_run, game_chain}
use Rattle.channel_f.specs.Answers.{run_answer}
use Rattle.channel_f.specs.Answers.{judged_run}
use Rattle.channel_f.specs.Manners.{detail_of, run_by, run_fitted, opening_lines, closing_lines, lines_by, told_summary}
use Rattle.channel_f.specs.Manners.{summary_lines}
use Rattle.channel_f.specs.Manners.{ending_told, summary_told, closing_told}
use Rattle.channel_f.specs.JudgedRuns.{RunsJudged, PlaysJudged}
use Rattle.channel_f.specs.RackAfter.{RanOn, OnFitted, PlayedOn, Plays, PlaysUnless}
use Rattle.channel_f.specs.RackAfter.{PlaysGame}
use Rattle.channel_f.specs.Reports.{Answers, AnswersDue, Judges, Reports}
use Rattle.channel_f.specs.SafeGames.{KeepsVerdict}
use Rattle.channel_f.specs.SafeRuns.{HasScriptBytes, SafeRunLaw}
use Rattle.channel_f.specs.declared.manner.Manner.{Manner}
use Rattle.channel_f.specs.declared.manner.Manner.TheVariants.{Whole, Summary}
use Rattle.channel_f.specs.declared.status.Status.{Status}
use Rattle.channel_f.specs.declared.status.Status.TheVariants as status
use Rattle.channel_f.proofs.SafeGames.{keeps_verdict}

-- ---- lines and statuses

-- what is told of an ending is its lines
told_ending : (told : Ending) (e : FlatEnding) → Tells told e.position.flat.state e.stop →
    ending_told told ≡ ending_lines e
told_ending told e tells =
    let state = e.position.flat.state in
    ap (λ (stop : Stop). told_lines stop told.regs told.count told.phi) tells.halt
    ∙ ap (λ (regs : Regs). told_lines e.stop regs told.count told.phi) tells.regs
    ∙ ap (λ (n : ℕ). told_lines e.stop (told_regs state) n told.phi) tells.count
    ∙ ap (λ (n : ℕ). told_lines e.stop (told_regs state) state.count n) tells.phi

told_sums : (told : Ending) (e : FlatEnding) → Tells told e.position.flat.state e.stop →
    summary_told told ≡ summary_lines e
told_sums told e tells =
    let state = e.position.flat.state in
    ap (λ (stop : Stop). told_summary stop told.regs told.count told.phi told.writes told.bytes) tells.halt
    ∙ ap (λ (regs : Regs). told_summary e.stop regs told.count told.phi told.writes told.bytes) tells.regs
    ∙ ap (λ (n : ℕ). told_summary e.stop (told_regs state) n told.phi told.writes told.bytes) tells.count
    ∙ ap (λ (n : ℕ). told_summary e.stop (told_regs state) state.count n told.writes told.bytes) tells.phi
    ∙ ap (λ (n : ℕ). told_summary e.stop (told_regs state) state.count state.phi n told.bytes) tells.writes
    ∙ ap (λ (n : ℕ). told_summary e.stop (told_regs state) state.count state.phi (length state.writes) n) tells.bytes

closing_is : (manner : Manner) (told : Ending) (e : FlatEnding) → Tells told e.position.flat.state e.stop →
    closing_told manner told ≡ closing_lines manner e
closing_is (Whole traced) told e tells = told_ending told e tells
closing_is (Summary seed) told e tells = told_sums told e tells

-- the lines of a run are those before it, those on its way, and those behind it
abbrev told_text : Manner → Telling → List ℕ
told_text manner t = text_in (detail_of manner) (told_in t.moments)

text_by : (manner : Manner) (word : VerdictWord) (t : Telling) →
    text_of (lines_by manner word t)
    ≡ text_of (opening_lines manner word) ++ (told_text manner t ++ text_of (closing_lines manner t.ending))
unfolding text_told
text_by (Whole true) word t =
    text_of-append (verdict_line word ∷ []) (flat_telling_lines t)
    ∙ ap (λ (text : List ℕ). text_of (verdict_line word ∷ []) ++ text)
    (text_of-append (flat_map lines_of (told_in t.moments)) (ending_lines t.ending))
text_by (Whole false) word t =
    text_of-append (verdict_line word ∷ []) (flat_telling_lines t)
    ∙ ap (λ (text : List ℕ). text_of (verdict_line word ∷ []) ++ text)
    (text_of-append (flat_map lines_of (told_in t.moments)) (ending_lines t.ending))
text_by (Summary seed) word t = text_of-append (gen_line seed ∷ verdict_line word ∷ []) (summary_lines t.ending)

flat_text : (t : Telling) →
    text_of (flat_telling_lines t) ≡ text_in Writes (told_in t.moments) ++ text_of (ending_lines t.ending)
unfolding text_told
flat_text t = text_of-append (flat_map lines_of (told_in t.moments)) (ending_lines t.ending)

-- lines behind a text that was put
reports_behind : (a b c : Output) (said due : Status) (text : List ℕ) (lines all : List (List ℕ)) → Adds a b text →
    Reports b c said due lines → text_of all ≡ text ++ text_of lines → Reports a c said due all
reports_behind a b c said due text lines all first r whole = record {
  which = r.which;
  whole = λ by_sink. rw whole (adds_then a b c text (text_of lines) first (r.whole by_sink));
  part = λ by_sink. rw whole (adds_part_behind a b c text (text_of lines) first (r.part by_sink));
}

-- the sink failed at a first part of the lines
reports_part : (a b : Output) (due : Status) (text rest : List ℕ) (all : List (List ℕ)) → AddsPart a b text →
    text_of all ≡ text ++ rest → Reports a b status.Sink due all
reports_part a b due text rest all part whole = record {
  which = inr refl;
  whole = λ by_sink. absurd (by_sink refl);
  part = λ by_sink. rw whole (adds_part_first a b text rest part);
}

same_lines : (a b : Output) (said due is : Status) (lines all : List (List ℕ)) → due ≡ is → lines ≡ all →
    Reports a b said due lines → Reports a b said is all
same_lines a b said due is lines all are same r =
    subst (λ (l : List (List ℕ)). Reports a b said is l) same (subst (λ (n : Status). Reports a b said n lines) are r)

-- no run ends with the status of want of memory
pub status_not_memory : (stop : Stop) → status_of stop ≢ status.Memory
status_not_memory Done e = cc
status_not_memory (Unserved fault) e = cc
status_not_memory (Reserved at code) e = cc

pub no_memory_from : (said due : Status) → due ≢ status.Memory → (said ≡ due) ⊎ (said ≡ status.Sink) → said ≢ status.Memory
no_memory_from said due other (inl is) by_memory = other (sym is ∙ by_memory)
no_memory_from said due other (inr is) by_memory = cc

-- a report that can be written with ample memory is an answer
pub answers_of : (a b : Output) (said due : Status) (lines : List (List ℕ)) → due ≢ status.Memory → Reports a b said due lines →
    Answers a b said (record { status = due; lines = lines })
answers_of a b said due lines other r = record {
  which = widened r.which;
  whole = λ by_sink by_memory. r.whole by_sink;
  part = r.part;
  nothing = λ by_memory. absurd (no_memory_from said due other r.which by_memory);
}
  where
    widened : (said ≡ due) ⊎ (said ≡ status.Sink) → (said ≡ due) ⊎ (said ≡ status.Sink) ⊎ (said ≡ status.Memory)
    widened (inl is) = inl is
    widened (inr is) = inr (inl is)

-- where memory was wanting, nothing was written
pub answers_wanting : (now : Output) (due : Answer) → Answers now now status.Memory due
answers_wanting now due = record {
  which = inr (inr refl);
  whole = λ by_sink by_memory. absurd (by_memory refl);
  part = λ e. cc;
  nothing = λ by_memory. adds_none now;
}

pub due_wanting : (now : Output) (due : Due) → AnswersDue now now status.Memory due
due_wanting now (Plain answer) = answers_wanting now answer
due_wanting now (Judged cart by) = inl (record { status = refl; nothing = adds_none now })
due_wanting now (Proved cart by) = inl (record { status = refl; nothing = adds_none now })
due_wanting now (Reading table) = inl (record { status = refl; nothing = adds_none now })

pub answers_stayed : (old new : Output) (due : Answer) → new ≡ old → Answers old new status.Memory due
answers_stayed old new due same = subst (λ (now : Output). Answers old now status.Memory due) (sym same) (answers_wanting old due)

-- ---- a run on chips that are fitted

module _ (manner : Manner) (word : VerdictWord) (game : Game) (chain : List ℕ) (fitted : List ChipState) where
  abbrev run : Telling
  run = run_fitted manner game chain fitted

  abbrev opening : List ℕ
  opening = text_of (opening_lines manner word)

  abbrev told : List ℕ
  told = told_text manner run

  abbrev closing : List ℕ
  closing = text_of (closing_lines manner run.ending)

  opened : text_of (lines_by manner word run) ≡ (opening ++ told) ++ closing
  opened = text_by manner word run ∙ sym (append_assoc opening told closing)

  -- the sink failed before it
  pub reports_not_begun : (a b : Output) (due : Status) → AddsPart a b opening → Reports a b status.Sink due (lines_by manner word run)
  reports_not_begun a b due part =
      reports_part a b due opening (told ++ closing) (lines_by manner word run) part (text_by manner word run)

  pub on_not_begun : (a b : Output) (asked : ℕ) → AddsPart a b opening →
      OnFitted a b status.Sink manner word game.script.power chain game.cart.powers run fitted fitted asked asked
  on_not_begun a b asked part = record {
    ran = λ by_sink. absurd (by_sink refl);
    failed = λ by_sink. inl (record { same = refl; part = part; unasked = refl });
  }

  -- it failed at one of its lines
  pub reports_cut : (Asks : List ℕ → Type 0) (news : List ChipState) (a b c : Output) (due : Status) → Adds a b opening →
      PlaysPart Asks (detail_of manner) game.script chain game.cart.powers fitted news b c → Reports a c status.Sink due (lines_by manner word run)
  reports_cut Asks news a b c due first plays =
      reports_part a c due (opening ++ told) closing (lines_by manner word run)
      (adds_part_behind a b c opening told first plays.part) opened

  pub on_cut : (news : List ChipState) (a b c : Output) (before after : ℕ) → Adds a b opening →
      PlaysPart (AsksWithin (run_allowed fitted) before after) (detail_of manner) game.script chain game.cart.powers fitted news b c →
      OnFitted a c status.Sink manner word game.script.power chain game.cart.powers run fitted news before after
  on_cut news a b c before after first plays = record {
    ran = λ by_sink. absurd (by_sink refl);
    failed = λ by_sink. inr (inl (record {
      powered = plays.powered;
      power_on = plays.power_on;
      between = b;
      opening = first;
      cut = plays.cut;
      asks = plays.asks;
    }));
  }

  -- it came to its end
  module _ (ending : Ending) (news : List ChipState) (a b c d : Output) (said : Status) (first : Adds a b opening)
      (plays : RackPlays (detail_of manner) game.script chain game.cart.powers ending fitted news b c)
      (r : Reports c d said (status_of (stop_at ending.halt)) (closing_told manner ending)) where
    ran_on : (before after : ℕ) → AsksWithin (run_allowed fitted) before after (tried_codes run) →
        RanOn game.script.power chain game.cart.powers run fitted news before after
    ran_on before after asks =
        record { powered = plays.powered; power_on = plays.power_on; lived = plays.lived; asks = asks }

    told_all : Adds a c (opening ++ told)
    told_all = adds_then a b c opening told first plays.lines

    closing_reports : Reports c d said (status_of run.ending.stop) (closing_lines manner run.ending)
    closing_reports =
        same_lines c d said (status_of (stop_at ending.halt)) (status_of run.ending.stop) (closing_told manner ending)
        (closing_lines manner run.ending) (ap status_of plays.tells.halt)
        (closing_is manner ending run.ending plays.tells) r

    pub reports_run : Reports a d said (status_of run.ending.stop) (lines_by manner word run)
    reports_run =
        reports_behind a c d said (status_of run.ending.stop) (opening ++ told) (closing_lines manner run.ending)
        (lines_by manner word run) told_all closing_reports opened

    pub on_run : (before after : ℕ) → AsksWithin (run_allowed fitted) before after (tried_codes run) →
        OnFitted a d said manner word game.script.power chain game.cart.powers run fitted news before after
    on_run before after asks = record {
      ran = λ by_sink. ran_on before after asks;
      failed = λ by_sink. inr (inr (record {
        ran = ran_on before after asks;
        between = c;
        told = told_all;
        part = closing_reports.part by_sink;
      }));
    }

-- ---- a game on a rack before it is fitted

module _ (a b : Output) (said : Status) (manner : Manner) (game : Game) (rack fitted news : List ChipState) (before after : ℕ)
    (chain : List ℕ) (same : views fitted ≡ fitted_views game.cart.chips rack) (linked : chain ≡ game_chain game rack) where
  run_same : run_fitted manner game chain fitted ≡ game_run manner game rack
  run_same =
      ap (λ (sockets : List ℕ). run_by manner game.script sockets game.cart.powers (views fitted)) linked
      ∙ ap (λ (vs : List ChipView). run_by manner game.script (game_chain game rack) game.cart.powers vs) same

  -- the run on the chips described, behind the right verdict
  answers_judged : RunsJudged a b said manner game chain fitted news before after →
      Judges a b said game.cart (λ verdict. run_answer manner (verdict_word verdict) (game_run manner game rack))
  answers_judged runs = record {
    right = runs.right;
    reports =
        subst (λ (t : Telling). Reports a b said (status_of t.ending.stop) (lines_by manner (verdict_word runs.right.verdict) t))
        run_same runs.reports;
  }

  played_judged : RackFits (seated game.cart.chips rack) rack fitted →
      RunsJudged a b said manner game chain fitted news before after →
      PlayedOn a b said manner game rack news before after
  played_judged fits runs = record {
    fitted = fitted;
    fits = fits;
    right = runs.right;
    on =
        subst (λ (sockets : List ℕ).
        OnFitted a b said manner (verdict_word runs.right.verdict) game.script.power sockets game.cart.powers (game_run manner game rack) fitted news
        before after)
        linked
        (subst (λ (t : Telling).
        OnFitted a b said manner (verdict_word runs.right.verdict) game.script.power chain game.cart.powers t fitted news before after) run_same
        runs.on);
  }

  pub plays_judged : RackFits (seated game.cart.chips rack) rack fitted →
      PlaysJudged a b said manner game chain fitted news before after →
      Plays a b said manner game rack news before after
  plays_judged fits (inl wants) = record {
    wanting = λ by_memory. inr (subst (λ (chips : List ChipState). RackFits (seated game.cart.chips rack) rack chips)
        (sym wants.same) fits);
    unasked = λ by_memory. wants.unasked;
    played = λ by_memory. absurd (by_memory wants.status);
  }
  plays_judged fits (inr runs) = record {
    wanting = λ by_memory. absurd (no_memory_from said _ (status_not_memory _) runs.reports.which by_memory);
    unasked = λ by_memory. absurd (no_memory_from said _ (status_not_memory _) runs.reports.which by_memory);
    played = λ by_memory. played_judged fits runs;
  }

  pub due_judged : PlaysJudged a b said manner game chain fitted news before after →
      AnswersDue a b said (judged_run manner game (game_run manner game rack))
  due_judged (inl wants) = inl (record { status = wants.status; nothing = wants.nothing })
  due_judged (inr runs) = inr (answers_judged runs)

  -- what the verdict promises of it
  pub keeps_judged : SafeRunLaw → HasScriptBytes game.script → ArePowers game.cart.powers →
      PlaysJudged a b said manner game chain fitted news before after →
      KeepsVerdict said manner game rack
  keeps_judged law script are (inl wants) = λ fits patches by_memory. absurd (by_memory wants.status)
  keeps_judged law script are (inr runs) =
      keeps_verdict law said manner game rack script are runs.bytes
      (subst (λ (t : Telling). (said ≡ status_of t.ending.stop) ⊎ (said ≡ status.Sink)) run_same runs.reports.which)

-- the check and the run on chips that are fitted
pub judged_wanting : (now : Output) (manner : Manner) (game : Game) (chain : List ℕ) (fitted : List ChipState) (asked : ℕ) →
    PlaysJudged now now status.Memory manner game chain fitted fitted asked asked
judged_wanting now manner game chain fitted asked =
    inl (record { status = refl; nothing = adds_none now; same = refl; unasked = refl })

pub plays_wanting : (a b : Output) (manner : Manner) (game : Game) (rack news : List ChipState) (before after : ℕ) →
    after ≡ before → RackFitsInPart (seated game.cart.chips rack) rack news →
    Plays a b status.Memory manner game rack news before after
plays_wanting a b manner game rack news before after none partly = record {
  wanting = λ e. inl partly;
  unasked = λ e. none;
  played = λ by_memory. absurd (by_memory refl);
}

-- fitting asks nothing
pub asked_before : (a b : Output) (said : Status) (game : Game) (manner : Manner) (rack news : List ChipState) (before mid after : ℕ) →
    mid ≡ before → Plays a b said manner game rack news mid after → Plays a b said manner game rack news before after
asked_before a b said game manner rack news before mid after none plays =
    subst (λ (n : ℕ). Plays a b said manner game rack news n after) none plays

-- memory was wanting before the rack was looked at
unless_wanting : (line : Option (List ℕ)) (now : Output) (manner : Manner) (game : Game) (rack : List ChipState) (asked : ℕ) →
    PlaysUnless line now now status.Memory manner game rack rack asked asked
unless_wanting (Some line) now manner game rack asked = record { same = refl; unasked = refl }
unless_wanting None now manner game rack asked =
    plays_wanting now now manner game rack rack asked asked refl (stays_in_part (seated game.cart.chips rack) rack)

pub game_wanting : (now : Output) (manner : Manner) (game : Game) (rack : List ChipState) (asked : ℕ) →
    PlaysGame now now status.Memory manner game rack rack asked asked
game_wanting now manner game rack asked = unless_wanting (refusal game.cart.chips rack) now manner game rack asked

-- ---- a run on the flat instruction set alone

pub reports_flat : (game : Game) (ending : Ending) (a b c : Output) (said : Status) →
    Refers game.script ending game.cart.chips game.cart.powers a b →
    Reports b c said (status_of (stop_at ending.halt)) (ending_told ending) →
    Reports a c said (status_of (ref_run game).ending.stop) (flat_telling_lines (ref_run game))
reports_flat game ending a b c said refers r =
    let run = ref_run game in
    reports_behind a b c said (status_of run.ending.stop) (text_in Writes (told_in run.moments))
    (ending_lines run.ending)
    (flat_telling_lines run) refers.lines
    (same_lines b c said (status_of (stop_at ending.halt)) (status_of run.ending.stop) (ending_told ending)
    (ending_lines run.ending) (ap status_of refers.tells.halt) (told_ending ending run.ending refers.tells) r)
    (flat_text run)

pub reports_flat_part : (game : Game) (a b : Output) (due : Status) →
    AddsPart a b (text_in Writes (told_in (ref_run game).moments)) →
    Reports a b status.Sink due (flat_telling_lines (ref_run game))
reports_flat_part game a b due part =
    let run = ref_run game in
    reports_part a b due (text_in Writes (told_in run.moments)) (text_of (ending_lines run.ending))
    (flat_telling_lines run)
    part (flat_text run)

-- ---- a text as one line

text_of-one : (text : List ℕ) → text_of (text ∷ []) ≡ text
text_of-one text =
    text_of-cons text [] ∙ ap (λ (rest : List ℕ). text ++ rest) text_of-nil ∙ append-nil text

pub reports_text : (a b : Output) (due : Status) (text : List ℕ) → due ≢ status.Sink → Adds a b text → Reports a b due due (text ∷ [])
reports_text a b due text other adds = record {
  which = inl refl;
  whole = λ by_sink. rw (text_of-one text) adds;
  part = λ by_sink. absurd (other by_sink);
}

pub reports_text_part : (a b : Output) (due : Status) (text : List ℕ) → AddsPart a b text → Reports a b status.Sink due (text ∷ [])
reports_text_part a b due text part = record {
  which = inr refl;
  whole = λ by_sink. absurd (by_sink refl);
  part = λ by_sink. rw (text_of-one text) part;
}
