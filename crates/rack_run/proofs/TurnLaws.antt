-- One instruction of a run, from what its parts say.
use Rattle.std.proofs.Common.{◌≡◌, ◌≢◌, ℕ, ◌+◌, List, [], ◌∷◌, ◌++◌, length, map, Option, Some, None, refl, sym, ap, ◌∙◌, subst}
use Rattle.std.specs.Prelude.{slice_get}
use Rattle.std.proofs.lemmas.List.{append-nil}
use Rattle.f8_spec.specs.ChipState.{ChipState}
use Rattle.console_spec.specs.Processor.{with_write}
use Rattle.console_spec.specs.Run.{Position, Turn, Goes, Stops, pulse_in}
use Rattle.console_spec.specs.Scripts.{Script}
use Rattle.console_spec.specs.Telling.{Way, Told, with_event, with_events, events_behind, told_turn, told_steps}
use Rattle.console_spec.specs.Telling.{moment_of}
use Rattle.console_spec.specs.declared.Event.{Event}
use Rattle.console_spec.specs.declared.Event.TheVariants.{Keys, Pulse}
use Rattle.console_spec.specs.declared.PortWrite.{PortWrite}
use Rattle.video.specs.ScreenState.{screen_after}
use Rattle.f8_machine.specs.Rounds.{RackRuns, heard_of}
use Rattle.outside.specs.SinkRules.{Output, Adds, AddsPart}
use Rattle.outside.proofs.SinkLaws.{adds_then, adds_part_behind, adds_part_first}
use Rattle.rack_run.specs.Endings.{stop_of, bytes_written}
use Rattle.rack_run.specs.Lives.{LivesMoment, Come}
use Rattle.rack_run.specs.Progressing.{ProgressState, Keeps, progress_with}
use Rattle.rack_run.specs.Texts.{text_in}
use Rattle.rack_run.specs.Turns.{Readout, StepsDone, StepsHalt, StepsFail, StepsCut, steps_text, HappenBehind}
use Rattle.rack_run.specs.Turns.{moment_text, GoesOn, StopsAt, FailsAt, CutsAt}
use Rattle.rack_run.specs.declared.detail.Detail.{Detail}
use Rattle.rack_run.specs.declared.ending.Cut.{Cut}
use Rattle.rack_run.specs.declared.ending.Cut.TheVariants.{Halt as Halts, Sink}
use Rattle.rack_run.specs.declared.ending.Halt.{Halt}
use Rattle.rack_run.proofs.Progressed.{keeps_more}
use Rattle.rack_run.proofs.ToldTexts.{text_in-append, some_first, some_behind}

-- events leave what is counted
pulse_quiet : (socket : Option ℕ) (x : Position) →
    ((pulse_in socket x).flat.state.writes ≡ x.flat.state.writes)
    × ((pulse_in socket x).flat.state.count ≡ x.flat.state.count)
    × ((pulse_in socket x).flat.state.phi ≡ x.flat.state.phi)
pulse_quiet None x = (refl, refl, refl)
pulse_quiet (Some socket) x = (refl, refl, refl)

event_quiet : (e : Event) (x : Position) →
    ((with_event e x).flat.state.writes ≡ x.flat.state.writes)
    × ((with_event e x).flat.state.count ≡ x.flat.state.count)
    × ((with_event e x).flat.state.phi ≡ x.flat.state.phi)
event_quiet (Keys port byte) x = (refl, refl, refl)
event_quiet (Pulse chip) x = pulse_quiet (slice_get x.chain chip) x

pub events_quiet : (es : List Event) (x : Position) →
    ((with_events es x).flat.state.writes ≡ x.flat.state.writes)
    × ((with_events es x).flat.state.count ≡ x.flat.state.count)
    × ((with_events es x).flat.state.phi ≡ x.flat.state.phi)
events_quiet [] x = (refl, refl, refl)
events_quiet (e ∷ es) x =
    let first = event_quiet e x in
    let later = events_quiet es (with_event e x) in
    (later.0 ∙ first.0, later.1 ∙ first.1, later.2 ∙ first.2)

pub keeps_events : (p : ProgressState) (es : List Event) (x : Position) → Keeps p x.flat.state →
    Keeps p (with_events es x).flat.state
keeps_events p es x keeps =
    let quiet = events_quiet es x in
    record {
      screen = keeps.screen ∙ sym (ap screen_after quiet.0);
      phi = keeps.phi ∙ sym quiet.2;
      count = keeps.count ∙ sym quiet.1;
      writes = keeps.writes ∙ sym (ap length quiet.0);
      bytes = keeps.bytes ∙ sym (ap bytes_written quiet.0);
    }

-- what is kept of the progress behind an instruction that is done
pub keeps_turn : (wrote : Option PortWrite) (p q : ProgressState) (x y : Position) (phi : ℕ) → Keeps p x.flat.state →
    y.flat.state.count ≡ x.flat.state.count + 1 → y.flat.state.writes ≡ with_write wrote x.flat.state.writes →
    phi ≡ y.flat.state.phi → q ≡ progress_with wrote phi p → Keeps q y.flat.state
keeps_turn wrote p q x y phi keeps counts writes same is =
    rw (is, same) (keeps_more wrote p x.flat.state y.flat.state keeps writes counts)

module _ (detail : Detail) (way : Way) (script : Script) (x : Position) where
  abbrev steps : List Told
  steps = told_steps way.traced (way.course x)

  abbrev behind : Turn → List Told
  behind turn = told_turn script x turn

  -- all that is told of an instruction is its steps, and then what is told of its end
  all_text : (turn : Turn) → way.step x ≡ turn →
      moment_text detail way script x ≡ steps_text detail way x ++ text_in detail (behind turn)
  all_text turn turns =
      text_in-append detail steps (behind (way.step x))
      ∙ ap (λ (t : Turn). text_in detail steps ++ text_in detail (behind t)) turns

  lives : (turn : Turn) (olds mids news : List ChipState) → way.step x ≡ turn →
      RackRuns (map heard_of (way.course x).steps) olds mids →
      Come x.chain (events_behind script x turn) mids news →
      LivesMoment x.chain (moment_of way script x (way.step x)) olds news
  lives turn olds mids news turns heard came = record {
    between = mids;
    heard = heard;
    came = subst (λ (t : Turn). Come x.chain (events_behind script x t) mids news) (sym turns) came;
  }

  module _ (At : Position → Type 0) (wrote : Option PortWrite) (olds mids : List ChipState) (a b : Output)
      (done : StepsDone detail way At wrote olds mids a b x) where
    abbrev end_text : List ℕ
    end_text = text_in detail (told_turn script x (Goes done.there))

    -- it is done, and told
    pub goes_on : (Behind : Position → Type 0) (p : ProgressState) (news : List ChipState) (c : Output) →
        Adds b c end_text → Keeps p done.there.flat.state → HappenBehind script Behind mids news x done.there →
        GoesOn detail way script Behind p olds news a c x
    goes_on Behind p news c ends keeps happens = record {
      there = done.there;
      turns = done.turns;
      at = happens.at;
      same_chain = done.same_chain;
      keeps = keeps_events p (events_behind script x (Goes done.there)) done.there keeps;
      lived = lives (Goes done.there) olds mids news done.turns done.heard
          (subst (λ (chain : List ℕ). Come chain (events_behind script x (Goes done.there)) mids news) done.same_chain
          happens.came);
      lines =
          rw (all_text (Goes done.there) done.turns)
          (adds_then a b c (steps_text detail way x) end_text done.lines ends);
    }

    -- the sink fails at a line of its end
    pub fails_behind : (c : Output) → end_text ≢ [] → AddsPart b c end_text → FailsAt detail way script olds mids a c x
    fails_behind c some part = record {
      heard = done.heard;
      some = rw (all_text (Goes done.there) done.turns) (some_behind (steps_text detail way x) end_text some);
      part =
          rw (all_text (Goes done.there) done.turns)
          (adds_part_behind a b c (steps_text detail way x) end_text done.lines part);
    }

  -- it fails at a line of its steps
  pub fails_first : (olds news : List ChipState) (a b : Output) → StepsFail detail way olds news a b x →
      FailsAt detail way script olds news a b x
  fails_first olds news a b fails = record {
    heard = fails.heard;
    some =
        rw (all_text (way.step x) refl)
        (some_first (steps_text detail way x) (text_in detail (behind (way.step x))) fails.some);
    part =
        rw (all_text (way.step x) refl)
        (adds_part_first a b (steps_text detail way x) (text_in detail (behind (way.step x))) fails.part);
  }

  -- it stops the run
  pub stops_at : (halt : Halt) (r : Readout) (p : ProgressState) (olds news : List ChipState) (a b : Output) →
      Keeps p x.flat.state →
      StepsHalt detail way r olds news a b x halt → StopsAt detail way script r p olds news a b x halt
  stops_at halt r p olds news a b keeps stops = record {
    turns = stops.turns;
    state = stops.state;
    keeps = keeps;
    lived = lives (Stops (stop_of halt)) olds news news stops.turns stops.heard refl;
    lines =
        subst (λ (text : List ℕ). Adds a b text)
        (ap (text_in detail) (sym (append-nil steps) ∙ ap (λ (t : Turn). steps ++ behind t) (sym stops.turns)))
        stops.lines;
  }

  -- it is cut short before its end
  pub cuts_first : (r : Readout) (p : ProgressState) (olds news : List ChipState) (a b : Output) →
      Keeps p x.flat.state → (cut : Cut) →
      StepsCut detail way r olds news a b x cut → CutsAt detail way script r p olds news a b x cut
  cuts_first r p olds news a b keeps (Halts halt) stops = stops_at halt r p olds news a b keeps stops
  cuts_first r p olds news a b keeps Sink fails = fails_first olds news a b fails
