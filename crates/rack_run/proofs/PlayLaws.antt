-- A whole run on a rack: power-on, the events of frame 0, reset, and what reset leads to.
use Rattle.std.proofs.Common.{◌≡◌, ◌≢◌, ℕ, List, [], ◌∷◌, ◌++◌, length, map, Option, Some, None, refl, sym, ap, ◌∙◌}
use Rattle.std.proofs.Common.{subst}
use Rattle.std.specs.Prelude.{Result, Ok, Err, IfOk, OnErr}
use Rattle.std.proofs.lemmas.List.{append_assoc, append-nil}
use Rattle.f8_spec.specs.ChipState.{ChipState}
use Rattle.f8_spec.specs.declared.chips.PowerOn.{PowerOn}
use Rattle.console_spec.specs.Processor.{State}
use Rattle.console_spec.specs.Run.{Position, Turn, Stop, Goes, Stops, goes_unless, reset_fault, reset_course}
use Rattle.console_spec.specs.Run.{position_after_reset, power_position}
use Rattle.console_spec.specs.Scripts.{Script, events_at, most_instructions}
use Rattle.console_spec.specs.Services.{Fault}
use Rattle.console_spec.specs.Telling.{Told, Moment, Telling, begun, told_in, told_steps, power_moment, reset_moment}
use Rattle.console_spec.specs.Telling.{telling, telling_behind, played_by, on_rack}
use Rattle.data_bus.specs.Racks.{views}
use Rattle.f8_machine.specs.MachineState.{MachineState}
use Rattle.f8_machine.specs.Refinement.{IsPowered}
use Rattle.f8_machine.specs.Rounds.{RackPowers, RackRuns, heard_of}
use Rattle.f8_machine.specs.declared.heard.Heard.{Heard}
use Rattle.f8_machine.proofs.RackLaws.{rack_runs_none}
use Rattle.outside.specs.SinkRules.{Output, Adds, AddsPart}
use Rattle.outside.proofs.SinkLaws.{adds_none, adds_then, adds_part_behind, adds_part_first}
use Rattle.rack_run.specs.Asking.{codes_up_to, heard_codes, last_codes, served_codes, stop_codes, tried_codes, unserved_codes}
use Rattle.rack_run.specs.Endings.{bytes_written, Tells, TellsEnd, Plays, PlaysPart, CutShort, run_on}
use Rattle.rack_run.specs.Lives.{LivesMoment, Lives, Come}
use Rattle.rack_run.specs.Progressing.{ProgressState, Keeps}
use Rattle.rack_run.specs.Texts.{is_traced, text_in}
use Rattle.rack_run.specs.Machines.{machine_readout}
use Rattle.rack_run.specs.Turns.{readout_of, RunsOut, RunsShort, rest_on}
use Rattle.rack_run.specs.declared.detail.Detail.{Detail}
use Rattle.rack_run.specs.declared.ending.Ending.{Ending}
use Rattle.rack_run.proofs.EventLaws.{events_chain}
use Rattle.rack_run.proofs.TellingLaws.{last_of, telling-last}
use Rattle.rack_run.proofs.TurnLaws.{events_quiet}
use Rattle.rack_run.proofs.ToldTexts.{text_in-nil, text_in-append, told_in-append}
use Rattle.video.specs.ScreenState.{screen_after}

-- ---- nothing is counted before the first instruction

abbrev pub new_progress : ℕ → ProgressState
new_progress phi = record { screen = screen_after []; phi = phi; count = 0; writes = 0; bytes = 0 }

pub keeps_new : (phi : ℕ) (s : State) → s.writes ≡ [] → s.count ≡ 0 → phi ≡ s.phi → Keeps (new_progress phi) s
keeps_new phi s writes count same = record {
  screen = ap screen_after (sym writes);
  phi = same;
  count = sym count;
  writes = ap length (sym writes);
  bytes = ap bytes_written (sym writes);
}

-- reset leads to the position after it, or nowhere
reset_leads : (fault : Option Fault) (x y : Position) → goes_unless fault (position_after_reset x) ≡ Goes y →
    position_after_reset x ≡ y
reset_leads None x y e = cc
reset_leads (Some fault) x y e = cc

-- ---- a run that is cut short put a first part of its lines

pub cut_part : (detail : Detail) (chain : List ℕ) (ms : List Moment) (olds news : List ChipState) (a b : Output) →
    CutShort detail chain ms olds news a b →
    AddsPart a b (text_in detail (told_in ms))
cut_part detail chain ms olds news a b cut =
    let whole : text_in detail (told_in ms)
    ≡ text_in detail (told_in cut.before) ++ (text_in detail cut.at.told ++ text_in detail (told_in cut.behind)) =
    ap (λ (l : List Moment). text_in detail (told_in l)) cut.are
    ∙ ap (text_in detail) (told_in-append cut.before (cut.at ∷ cut.behind))
    ∙ text_in-append detail (told_in cut.before) (cut.at.told ++ told_in cut.behind)
    ∙ ap (λ (text : List ℕ). text_in detail (told_in cut.before) ++ text)
    (text_in-append detail cut.at.told (told_in cut.behind)) in
    rw whole
    (adds_part_behind a cut.between b (text_in detail (told_in cut.before))
    (text_in detail cut.at.told ++ text_in detail (told_in cut.behind)) cut.lines
    (adds_part_first cut.between b (text_in detail cut.at.told) (text_in detail (told_in cut.behind)) cut.part))

module _ (detail : Detail) (script : Script) (chain : List ℕ) (powers : List PowerOn) (olds powered : List ChipState)
    (power_on : RackPowers script.power chain powers olds powered) where
  abbrev x : Position
  x = begun (views olds) chain powers script

  abbrev turn : Turn
  turn = goes_unless (reset_fault x) (position_after_reset x)

  abbrev later : Turn → Telling
  later t = telling_behind x (telling (on_rack (is_traced detail)) script (most_instructions script.end)) t

  abbrev reset : Moment
  reset = reset_moment (is_traced detail) x

  whole : (t : Turn) → turn ≡ t →
      run_on detail script chain powers olds ≡ record {
        moments = power_moment script ∷ reset ∷ (later t).moments;
        ending = (later t).ending;
      }
  unfolding played_by
  whole t turns =
      ap
      (λ (u : Turn). record { moments = power_moment script ∷ reset ∷ (later u).moments; ending = (later u).ending })
      turns

  -- ---- the codes of the steps that are tried

  abbrev served : List ℕ
  served = served_codes (reset_course x).steps

  abbrev rest_run : Position → Telling
  rest_run y = rest_on (on_rack (is_traced detail)) script y

  -- those of reset
  abbrev pub first_codes : List ℕ
  first_codes = served ++ unserved_codes turn

  pub stopped_codes : (stop : Stop) → turn ≡ Stops stop → first_codes ≡ tried_codes (run_on detail script chain powers olds)
  stopped_codes stop turns =
      ap (λ (t : Turn). served ++ unserved_codes t) turns
      ∙ ap (λ (codes : List ℕ). codes ++ stop_codes stop) (sym (append-nil served))
      ∙ ap tried_codes (sym (whole (Stops stop) turns))

  going_first : (y : Position) → turn ≡ Goes y → first_codes ≡ served
  going_first y turns = ap (λ (t : Turn). served ++ unserved_codes t) turns ∙ append-nil served

  pub going_codes : (y : Position) → turn ≡ Goes y →
      first_codes ++ tried_codes (rest_run y) ≡ tried_codes (run_on detail script chain powers olds)
  going_codes y turns =
      ap (λ (codes : List ℕ). codes ++ tried_codes (rest_run y)) (going_first y turns)
      ∙ sym (append_assoc served (heard_codes (rest_run y).moments) (stop_codes (rest_run y).ending.stop))
      ∙ ap tried_codes (sym (whole (Goes y) turns))

  -- where the run is cut short at reset, or behind it
  reset_last : (t : Turn) → last_of (later t) ≡ unserved_codes t
  reset_last (Stops stop) = refl
  reset_last (Goes y) = telling-last (on_rack (is_traced detail)) script (most_instructions script.end) y

  cut_first : first_codes
      ≡ codes_up_to (power_moment script ∷ []) reset (later turn).moments (run_on detail script chain powers olds).ending.stop
  cut_first =
      ap (λ (codes : List ℕ). served ++ codes)
      (sym (ap (λ (t : Telling). last_codes (later turn).moments t.ending.stop) (whole turn refl) ∙ reset_last turn))

  cut_behind : (y : Position) → turn ≡ Goes y → (before : List Moment) (at : Moment) (behind : List Moment) →
      first_codes ++ codes_up_to before at behind (rest_run y).ending.stop
      ≡ codes_up_to (power_moment script ∷ reset ∷ before) at behind (run_on detail script chain powers olds).ending.stop
  cut_behind y turns before at behind =
      let last : Stop → List ℕ = λ stop. served_codes at.heard ++ last_codes behind stop in
      ap (λ (codes : List ℕ). codes ++ codes_up_to before at behind (rest_run y).ending.stop) (going_first y turns)
      ∙ sym (append_assoc served (heard_codes before) (last (rest_run y).ending.stop))
      ∙ ap (λ (t : Telling). (served ++ heard_codes before) ++ last t.ending.stop) (sym (whole (Goes y) turns))

  -- the run stays on its chain
  chain_is : x.chain ≡ chain
  chain_is = events_chain (events_at 0 script.events) (power_position (views olds) chain powers script.power)

  chain_after : (y : Position) → turn ≡ Goes y → y.chain ≡ chain
  chain_after y turns = sym (ap (λ (z : Position). z.chain) (reset_leads (reset_fault x) x y turns)) ∙ chain_is

  -- the position that the events of frame 0 leave
  pub quiet_writes : x.flat.state.writes ≡ []
  quiet_writes = (events_quiet (events_at 0 script.events) (power_position (views olds) chain powers script.power)).0

  pub quiet_count : x.flat.state.count ≡ 0
  quiet_count = (events_quiet (events_at 0 script.events) (power_position (views olds) chain powers script.power)).1

  pub after_writes : (y : Position) → turn ≡ Goes y → y.flat.state.writes ≡ []
  after_writes y turns =
      sym (ap (λ (z : Position). z.flat.state.writes) (reset_leads (reset_fault x) x y turns)) ∙ quiet_writes

  pub after_count : (y : Position) → turn ≡ Goes y → y.flat.state.count ≡ 0
  after_count y turns =
      sym (ap (λ (z : Position). z.flat.state.count) (reset_leads (reset_fault x) x y turns)) ∙ quiet_count

  module _ (mids reset_states : List ChipState) (came : Come chain (events_at 0 script.events) powered mids)
      (hs : List Heard)
      (heard : hs ≡ map heard_of (reset_course x).steps)
      (ran : RackRuns hs mids reset_states) (told : List Told)
      (is : told ≡ told_steps (is_traced detail) (reset_course x))
      (a b : Output) where
    first_lived : LivesMoment chain (power_moment script) powered mids
    first_lived = record { between = powered; heard = rack_runs_none 0 powered; came = came }

    ran_reset : RackRuns (map heard_of (reset_course x).steps) mids reset_states
    ran_reset = subst (λ (l : List Heard). RackRuns l mids reset_states) heard ran

    reset_lived : LivesMoment chain reset mids reset_states
    reset_lived = record { between = reset_states; heard = ran_reset; came = refl }

    -- what is told before the first instruction
    told_first : (ms : List Moment) →
        text_in detail (told_in (power_moment script ∷ reset ∷ ms)) ≡ text_in detail told ++ text_in detail (told_in ms)
    told_first ms =
        text_in-append detail reset.told (told_in ms)
        ∙ ap (λ (l : List Told). text_in detail l ++ text_in detail (told_in ms)) (sym is)

    -- the sink fails at a line of reset
    pub plays_cut : (Asks : List ℕ → Type 0) → Asks first_codes → text_in detail told ≢ [] → AddsPart a b (text_in detail told) →
        PlaysPart Asks detail script chain powers olds reset_states a b
    plays_cut Asks asks some part =
        let cut : CutShort detail chain (run_on detail script chain powers olds).moments powered reset_states a b = record {
          before = power_moment script ∷ [];
          at = reset;
          behind = (later turn).moments;
          are = ap (λ (t : Telling). t.moments) (whole turn refl);
          some = subst (λ (l : List Told). text_in detail l ≢ []) is some;
          mids = mids;
          lived = (mids, first_lived, refl);
          heard = ran_reset;
          between = a;
          lines = rw (text_in-nil detail) (adds_none a);
          part = subst (λ (l : List Told). AddsPart a b (text_in detail l)) is part;
        } in
        record {
          powered = powered;
          power_on = power_on;
          cut = cut;
          part = cut_part detail chain (run_on detail script chain powers olds).moments powered reset_states a b cut;
          asks = subst Asks cut_first asks;
        }

    -- reset isn't served
    pub plays_not : (ending : Ending) (stop : Stop) → turn ≡ Stops stop → Tells ending x.flat.state stop →
        Adds a b (text_in detail told) →
        Plays detail script chain powers ending olds reset_states a b
    plays_not ending stop turns tells adds =
        let is_whole = whole (Stops stop) turns in
        record {
          powered = powered;
          power_on = power_on;
          lived =
              subst (λ (t : Telling). Lives chain t.moments powered reset_states) (sym is_whole)
              (mids, first_lived, (reset_states, reset_lived, refl));
          tells = subst (λ (t : Telling). TellsEnd ending t.ending) (sym is_whole) tells;
          lines = subst (λ (t : Telling). Adds a b (text_in detail (told_in t.moments))) (sym is_whole)
              (rw (told_first [], text_in-nil detail, append-nil (text_in detail told)) adds);
        }

    module _ (y : Position) (turns : turn ≡ Goes y) (adds : Adds a b (text_in detail told)) (news : List ChipState)
        (c : Output) where
      -- the run comes to its end
      pub plays_on : (ending : Ending) →
          RunsOut detail (on_rack (is_traced detail)) script ending reset_states news b c y →
          Plays detail script chain powers ending olds news a c
      plays_on ending out =
          let is_whole = whole (Goes y) turns in
          let rest_lived = subst (λ (l : List ℕ). Lives l (rest_on (on_rack (is_traced detail)) script y).moments reset_states news)
          (chain_after y turns) out.lived in
          record {
            powered = powered;
            power_on = power_on;
            lived =
                subst (λ (t : Telling). Lives chain t.moments powered news) (sym is_whole)
                (mids, first_lived, (reset_states, reset_lived, rest_lived));
            tells = subst (λ (t : Telling). TellsEnd ending t.ending) (sym is_whole) out.tells;
            lines = subst (λ (t : Telling). Adds a c (text_in detail (told_in t.moments))) (sym is_whole)
                (rw (told_first (rest_on (on_rack (is_traced detail)) script y).moments)
                (adds_then a b c (text_in detail told) (text_in detail (told_in (rest_on (on_rack (is_traced detail)) script y).moments)) adds out.lines));
          }

      -- the sink fails at a line of an instruction
      pub plays_short : (Asks Within : List ℕ → Type 0) → ((codes : List ℕ) → Within codes → Asks (first_codes ++ codes)) →
          RunsShort Within detail (on_rack (is_traced detail)) script reset_states news b c y →
          PlaysPart Asks detail script chain powers olds news a c
      plays_short Asks Within asks so_short =
          let short = so_short.cut in
          let cut : CutShort detail chain (run_on detail script chain powers olds).moments powered news a c = record {
            before = power_moment script ∷ reset ∷ short.before;
            at = short.at;
            behind = short.behind;
            are =
                ap (λ (t : Telling). t.moments) (whole (Goes y) turns)
                ∙ ap (λ (ms : List Moment). power_moment script ∷ reset ∷ ms) short.are;
            some = short.some;
            mids = short.mids;
            lived = (
              mids,
              first_lived,
              (
                reset_states,
                reset_lived,
                subst (λ (l : List ℕ). Lives l short.before reset_states short.mids) (chain_after y turns) short.lived,
              ),
            );
            heard = short.heard;
            between = short.between;
            lines =
                rw (told_first short.before)
                (adds_then a b short.between (text_in detail told) (text_in detail (told_in short.before)) adds short.lines);
            part = short.part;
          } in
          record {
            powered = powered;
            power_on = power_on;
            cut = cut;
            part = cut_part detail chain (run_on detail script chain powers olds).moments powered news a c cut;
            asks =
                subst Asks (cut_behind y turns short.before short.at short.behind)
                (asks (codes_up_to short.before short.at short.behind (rest_run y).ending.stop) so_short.asks);
          }

-- ---- what the calls answer

pub powered_reads : (m : MachineState) (states : List ChipState) (x : Position) → IsPowered m states x →
    machine_readout m ≡ readout_of x.flat.state
powered_reads m states x p = rw (p.stands.flow, p.stands.holds.registers, p.stands.phi) refl

module _ {E : Type 0} (detail : Detail) (script : Script) (chain : List ℕ) (powers : List PowerOn)
    (olds powered : List ChipState) (power_on : RackPowers script.power chain powers olds powered)
    (mids reset_states : List ChipState)
    (came : Come chain (events_at 0 script.events) powered mids) (hs : List Heard)
    (heard : hs ≡ map heard_of (reset_course (x detail script chain powers olds powered power_on)).steps)
    (ran : RackRuns hs mids reset_states)
    (told : List Told)
    (is : told ≡ told_steps (is_traced detail) (reset_course (x detail script chain powers olds powered power_on)))
    (a b : Output) (adds : Adds a b (text_in detail told))
    (y : Position) (turns : turn detail script chain powers olds powered power_on ≡ Goes y) (news : List ChipState)
    (c : Output) where
  pub plays_ok : (r : Result Ending E) →
      IfOk r (λ ending. RunsOut detail (on_rack (is_traced detail)) script ending reset_states news b c y) →
      IfOk r (λ ending. Plays detail script chain powers ending olds news a c)
  plays_ok (Ok ending) out =
      plays_on detail script chain powers olds powered power_on mids reset_states came hs heard ran told is a b y turns adds
      news c ending out
  plays_ok (Err e) out = tt

  pub plays_err : (Asks Within : List ℕ → Type 0) →
      ((codes : List ℕ) → Within codes → Asks (first_codes detail script chain powers olds powered power_on ++ codes)) →
      (r : Result Ending E) →
      OnErr r (RunsShort Within detail (on_rack (is_traced detail)) script reset_states news b c y) →
      OnErr r (PlaysPart Asks detail script chain powers olds news a c)
  plays_err Asks Within asks (Ok ending) short = tt
  plays_err Asks Within asks (Err e) short =
      plays_short detail script chain powers olds powered power_on mids reset_states came hs heard ran told is a b y turns adds
      news c Asks Within asks short
