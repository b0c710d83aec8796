-- A run, instruction by instruction.
use Rattle.std.proofs.Common.{◌≡◌, ℕ, ◌+◌, ◌-◌, ◌<◌, ◌≤◌, true, false, List, [], ◌∷◌, ◌++◌, refl, sym, ap, ◌∙◌, subst}
use Rattle.std.proofs.Math.Nat.{sub-zero}
use Rattle.std.proofs.lemmas.List.{append_assoc, append-nil}
use Rattle.f8_spec.specs.ChipState.{ChipState}
use Rattle.console_spec.specs.Processor.{State}
use Rattle.console_spec.specs.Run.{Position, Turn, Stop, Goes, Stops, Done, Ending as FlatEnding}
use Rattle.console_spec.specs.Scripts.{Script, most_instructions}
use Rattle.console_spec.specs.Telling.{Moment, Telling, Way, events_behind, is_over, moment_of, telling, told_in}
use Rattle.outside.specs.SinkRules.{Output, Adds}
use Rattle.outside.proofs.SinkLaws.{adds_none, adds_then}
use Rattle.rack_run.specs.Asking.{heard_codes, last_codes, served_codes, stop_codes, tried_codes, turn_codes}
use Rattle.rack_run.specs.Asking.{unserved_codes}
use Rattle.rack_run.specs.Endings.{Tells, TellsEnd, stop_of}
use Rattle.rack_run.specs.Lives.{Lives, LivesMoment}
use Rattle.rack_run.specs.Progressing.{ProgressState, Keeps}
use Rattle.rack_run.specs.Texts.{text_in}
use Rattle.rack_run.specs.Turns.{position_behind, Readout, readout_of, GoesOn, StopsAt, FailsAt, RunsOut, RunsShort}
use Rattle.rack_run.specs.Turns.{rest_on}
use Rattle.rack_run.specs.declared.detail.Detail.{Detail}
use Rattle.rack_run.specs.declared.ending.Ending.{Ending}
use Rattle.rack_run.specs.declared.ending.Halt.{Halt}
use Rattle.rack_run.proofs.AskingLaws.{heard_codes-more}
use Rattle.rack_run.proofs.EventLaws.{events_chain}
use Rattle.rack_run.proofs.LifeLaws.{lives_then}
use Rattle.rack_run.proofs.TellingLaws.{over_at, telling-over, telling-none, telling-goes, telling-stops, telling-last}
use Rattle.rack_run.proofs.ToldTexts.{text_in-nil, text_in-append, told_in-append, told_in-one}

module _ (detail : Detail) (way : Way) (script : Script) (start : Position) where
  abbrev most : ℕ
  most = most_instructions script.end

  abbrev rest : ℕ → Position → Telling
  rest i x = telling way script (most - i) x

  -- after so many instructions: a position from which the rest of them leads to the run's end, and the moments before it, which were
  -- lived through and told, with what was asked
  pub record Reached (Asks : List ℕ → Type 0) (At : Position → Type 0) (i : ℕ) (p : ProgressState) (olds nows : List ChipState)
      (old now : Output) : Type 0 where
    pub here : Position
    pub at : At here
    pub keeps : Keeps p here.flat.state
    pub before : List Moment
    pub are : (rest_on way script start).moments ≡ before ++ (rest i here).moments
    pub ending : (rest_on way script start).ending ≡ (rest i here).ending
    pub same_chain : here.chain ≡ start.chain
    pub lived : Lives start.chain before olds nows
    pub lines : Adds old now (text_in detail (told_in before))
    pub asks : Asks (heard_codes before)

  pub reached_first : (Asks : List ℕ → Type 0) (At : Position → Type 0) (p : ProgressState) (states : List ChipState) (a : Output) →
      Asks [] → At start → Keeps p start.flat.state → Reached Asks At 0 p states states a a
  reached_first Asks At p states a asks at keeps = record {
    here = start;
    at = at;
    keeps = keeps;
    before = [];
    are = ap (λ (k : ℕ). (telling way script k start).moments) (sym (sub-zero most));
    ending = ap (λ (k : ℕ). (telling way script k start).ending) (sym (sub-zero most));
    same_chain = refl;
    lived = refl;
    lines = rw (text_in-nil detail) (adds_none a);
    asks = asks;
  }

  -- one moment more is lived through and told
  told_more : (before : List Moment) (m : Moment) →
      text_in detail (told_in (before ++ m ∷ [])) ≡ text_in detail (told_in before) ++ text_in detail m.told
  told_more before m =
      ap (text_in detail) (told_in-append before (m ∷ []) ∙ ap (λ told. told_in before ++ told) (told_in-one m))
      ∙ text_in-append detail (told_in before) m.told

  moments_more : (before : List Moment) (m : Moment) (later : List Moment) →
      before ++ m ∷ later ≡ (before ++ m ∷ []) ++ later
  moments_more before m later = sym (append_assoc before (m ∷ []) later)

  -- the codes of an instruction behind those of the moments before it
  codes_going : (before : List Moment) (x y : Position) → way.step x ≡ Goes y →
      heard_codes before ++ turn_codes way x ≡ heard_codes (before ++ moment_of way script x (way.step x) ∷ [])
  codes_going before x y turns =
      ap (λ (t : Turn). heard_codes before ++ (served_codes (way.course x).steps ++ unserved_codes t)) turns
      ∙ ap (λ (codes : List ℕ). heard_codes before ++ codes) (append-nil (served_codes (way.course x).steps))
      ∙ sym (heard_codes-more before (moment_of way script x (way.step x)))

  codes_stopped : (before : List Moment) (x : Position) (stop : Stop) → way.step x ≡ Stops stop →
      heard_codes before ++ turn_codes way x
      ≡ heard_codes (before ++ moment_of way script x (way.step x) ∷ []) ++ stop_codes stop
  codes_stopped before x stop turns =
      ap (λ (t : Turn). heard_codes before ++ (served_codes (way.course x).steps ++ unserved_codes t)) turns
      ∙ sym (append_assoc (heard_codes before) (served_codes (way.course x).steps) (stop_codes stop))
      ∙ ap (λ (codes : List ℕ). codes ++ stop_codes stop)
      (sym (heard_codes-more before (moment_of way script x (way.step x))))

  pub reached_more : (Asks AsksMore : List ℕ → Type 0) (At Now : Position → Type 0) (i : ℕ) (p q : ProgressState)
      (olds mids news : List ChipState) (a b c : Output) →
      i < most → (r : Reached Asks At i p olds mids a b) → is_over script r.here ≡ false →
      GoesOn detail way script Now q mids news b c r.here →
      ((codes : List ℕ) → Asks codes → AsksMore (codes ++ turn_codes way r.here)) →
      Reached AsksMore Now (i + 1) q olds news a c
  reached_more Asks AsksMore At Now i p q olds mids news a b c more r on goes asks =
      let moment = moment_of way script r.here (way.step r.here) in
      let next = telling-goes way script most i r.here goes.there more on goes.turns in
      record {
        here = position_behind script r.here goes.there;
        at = goes.at;
        same_chain = events_chain (events_behind script r.here (Goes goes.there)) goes.there ∙ goes.same_chain
            ∙ r.same_chain;
        keeps = goes.keeps;
        before = r.before ++ moment ∷ [];
        are =
            r.are ∙ ap (λ (t : Telling). r.before ++ t.moments) next
            ∙ moments_more r.before moment (rest (i + 1) (position_behind script r.here goes.there)).moments;
        ending = r.ending ∙ ap (λ (t : Telling). t.ending) next;
        lived = lives_then start.chain r.before moment olds mids news r.lived
            (subst (λ (chain : List ℕ). LivesMoment chain moment mids news) r.same_chain goes.lived);
        lines =
            rw (told_more r.before moment)
            (adds_then a b c (text_in detail (told_in r.before)) (text_in detail moment.told) r.lines goes.lines);
        asks = subst AsksMore (codes_going r.before r.here goes.there goes.turns) (asks (heard_codes r.before) r.asks);
      }

  module _ (Asks : List ℕ → Type 0) (At : Position → Type 0) (i : ℕ) (p : ProgressState) (olds mids : List ChipState) (a b : Output)
      (r : Reached Asks At i p olds mids a b) where
    -- nothing is left
    ends_here : (told : Ending) → rest i r.here ≡ over_at r.here → Tells told r.here.flat.state Done →
        RunsOut detail way script told olds mids a b start
    ends_here told over tells =
        let moments : (rest_on way script start).moments ≡ r.before =
        r.are ∙ ap (λ (t : Telling). r.before ++ t.moments) over ∙ append-nil r.before in
        record {
          tells =
              subst (λ (e : FlatEnding). TellsEnd told e) (sym (r.ending ∙ ap (λ (t : Telling). t.ending) over)) tells;
          lived = subst (λ (ms : List Moment). Lives start.chain ms olds mids) (sym moments) r.lived;
          lines = subst (λ (ms : List Moment). Adds a b (text_in detail (told_in ms))) (sym moments) r.lines;
        }

    module _ (readout : Readout) (reads : readout ≡ readout_of r.here.flat.state) (told : Ending)
        (tells : (s : State) → readout ≡ readout_of s → Keeps p s → Tells told s Done) where
      pub ends_over : is_over script r.here ≡ true → RunsOut detail way script told olds mids a b start
      ends_over over =
          ends_here told (telling-over way script (most - i) r.here over) (tells r.here.flat.state reads r.keeps)

      pub ends_done : most ≤ i → RunsOut detail way script told olds mids a b start
      ends_done past =
          ends_here told (telling-none way script most i r.here past) (tells r.here.flat.state reads r.keeps)

    -- what was asked by then
    codes_here : rest i r.here ≡ over_at r.here → heard_codes r.before ≡ tried_codes (rest_on way script start)
    codes_here over =
        let moments : (rest_on way script start).moments ≡ r.before =
        r.are ∙ ap (λ (t : Telling). r.before ++ t.moments) over ∙ append-nil r.before in
        let stop : (rest_on way script start).ending.stop ≡ Done =
        ap (λ (e : FlatEnding). e.stop) (r.ending ∙ ap (λ (t : Telling). t.ending) over) in
        sym (append-nil (heard_codes r.before))
        ∙ ap (λ (ms : List Moment). heard_codes ms ++ []) (sym moments)
        ∙ ap (λ (s : Stop). heard_codes (rest_on way script start).moments ++ stop_codes s) (sym stop)

    module _ (Within : List ℕ → Type 0) (ends : (codes : List ℕ) → Asks codes → Within codes) where
      pub over_asks : is_over script r.here ≡ true → Within (tried_codes (rest_on way script start))
      over_asks over =
          subst Within (codes_here (telling-over way script (most - i) r.here over)) (ends (heard_codes r.before) r.asks)

      pub done_asks : most ≤ i → Within (tried_codes (rest_on way script start))
      done_asks past =
          subst Within (codes_here (telling-none way script most i r.here past)) (ends (heard_codes r.before) r.asks)

    pub stopped_asks : (Within : List ℕ → Type 0) → ((codes : List ℕ) → Asks codes → Within (codes ++ turn_codes way r.here)) →
        (stop : Stop) → i < most → is_over script r.here ≡ false → way.step r.here ≡ Stops stop →
        Within (tried_codes (rest_on way script start))
    stopped_asks Within asks stop more on turns =
        let moment = moment_of way script r.here (way.step r.here) in
        let last = telling-stops way script most i r.here stop more on turns in
        let moments : (rest_on way script start).moments ≡ r.before ++ moment ∷ [] =
        r.are ∙ ap (λ (t : Telling). r.before ++ t.moments) last in
        let stops : (rest_on way script start).ending.stop ≡ stop =
        ap (λ (e : FlatEnding). e.stop) (r.ending ∙ ap (λ (t : Telling). t.ending) last) in
        subst Within
        (codes_stopped r.before r.here stop turns
        ∙ ap (λ (ms : List Moment). heard_codes ms ++ stop_codes stop) (sym moments)
        ∙ ap (λ (s : Stop). heard_codes (rest_on way script start).moments ++ stop_codes s) (sym stops))
        (asks (heard_codes r.before) r.asks)

    -- an instruction stops the run
    pub ends_stopped : (readout : Readout) (q : ProgressState) (news : List ChipState) (c : Output) (told : Ending)
        (halt : Halt) →
        i < most → is_over script r.here ≡ false → StopsAt detail way script readout q mids news b c r.here halt →
        ((s : State) → readout ≡ readout_of s → Keeps q s → Tells told s (stop_of halt)) →
        RunsOut detail way script told olds news a c start
    ends_stopped readout q news c told halt more on stops tells =
        let moment = moment_of way script r.here (way.step r.here) in
        let last = telling-stops way script most i r.here (stop_of halt) more on stops.turns in
        let moments : (rest_on way script start).moments ≡ r.before ++ moment ∷ [] =
        r.are ∙ ap (λ (t : Telling). r.before ++ t.moments) last in
        record {
          tells =
              subst (λ (e : FlatEnding). TellsEnd told e) (sym (r.ending ∙ ap (λ (t : Telling). t.ending) last))
              (tells r.here.flat.state stops.state stops.keeps);
          lived =
              subst (λ (ms : List Moment). Lives start.chain ms olds news) (sym moments)
              (lives_then start.chain r.before moment olds mids news r.lived
              (subst (λ (chain : List ℕ). LivesMoment chain moment mids news) r.same_chain stops.lived));
          lines = subst (λ (ms : List Moment). Adds a c (text_in detail (told_in ms))) (sym moments)
              (rw (told_more r.before moment)
              (adds_then a b c (text_in detail (told_in r.before)) (text_in detail moment.told) r.lines stops.lines));
        }

  -- The sink fails at a line of an instruction. Where no moment is behind it, the run stops by it.
  some_moments : (i : ℕ) (x : Position) → i < most → is_over script x ≡ false →
      (later : List Moment) × ((rest i x).moments ≡ moment_of way script x (way.step x) ∷ later)
      × (last_codes later (rest i x).ending.stop ≡ unserved_codes (way.step x))
  some_moments i x more on = by_turn (way.step x) refl
    where
      by_turn : (turn : Turn) → way.step x ≡ turn →
          (later : List Moment) × ((rest i x).moments ≡ moment_of way script x (way.step x) ∷ later)
          × (last_codes later (rest i x).ending.stop ≡ unserved_codes (way.step x))
      by_turn (Goes y) turns =
          let behind = rest (i + 1) (position_behind script x y) in
          let goes = telling-goes way script most i x y more on turns in (
            behind.moments,
            ap (λ (t : Telling). t.moments) goes,
            ap (λ (t : Telling). last_codes behind.moments t.ending.stop) goes
                ∙ telling-last way script (most - (i + 1)) (position_behind script x y)
                ∙ ap unserved_codes (sym turns),
          )
      by_turn (Stops stop) turns =
          let stops = telling-stops way script most i x stop more on turns in (
            [],
            ap (λ (t : Telling). t.moments) stops,
            ap (λ (t : Telling). stop_codes t.ending.stop) stops ∙ ap unserved_codes (sym turns),
          )

  pub ends_cut : (Asks Within : List ℕ → Type 0) (At : Position → Type 0) (i : ℕ) (p : ProgressState)
      (olds mids news : List ChipState) (a b c : Output) →
      i < most →
      (r : Reached Asks At i p olds mids a b) → is_over script r.here ≡ false →
      FailsAt detail way script mids news b c r.here →
      ((codes : List ℕ) → Asks codes → Within (codes ++ turn_codes way r.here)) →
      RunsShort Within detail way script olds news a c start
  ends_cut Asks Within At i p olds mids news a b c more r on fails asks =
      let left = some_moments i r.here more on in
      let served = served_codes (way.course r.here).steps in
      let last : unserved_codes (way.step r.here) ≡ last_codes left.0 (rest_on way script start).ending.stop =
      sym (ap (λ (e : FlatEnding). last_codes left.0 e.stop) r.ending ∙ left.2) in
      record {
        cut = record {
          before = r.before;
          at = moment_of way script r.here (way.step r.here);
          behind = left.0;
          are = r.are ∙ ap (λ (ms : List Moment). r.before ++ ms) left.1;
          some = fails.some;
          mids = mids;
          lived = r.lived;
          heard = fails.heard;
          between = b;
          lines = r.lines;
          part = fails.part;
        };
        asks = subst Within (ap (λ (codes : List ℕ). heard_codes r.before ++ (served ++ codes)) last)
            (asks (heard_codes r.before) r.asks);
      }
