-- What an instruction and an event make of where a tape stands.
use Rattle.std.proofs.Common.{◌≡◌, ℕ, ◌+◌, ◌≤◌, true, List, [], ◌∷◌, ◌++◌, length, refl, sym, ap, subst, ◌∙◌, arith}
use Rattle.std.specs.Prelude.{Option, Some, None, is_some}
use Rattle.std.proofs.lemmas.List.{append-nil}
use Rattle.f8_spec.specs.ChipState.{ChipView, ChipState}
use Rattle.f8_ops.specs.declared.table.TheConstants.{MOST_INTERRUPTED_PHI}
use Rattle.console_spec.specs.Run.{Stop}
use Rattle.console_spec.specs.declared.Event.{Event}
use Rattle.data_bus.specs.Racks.{views}
use Rattle.data_bus.specs.declared.index.Index.{Index}
use Rattle.f8_machine.specs.Advancing.{Follows}
use Rattle.f8_machine.specs.Fitting.{Fits, tried, tried_in}
use Rattle.f8_machine.specs.HeardSteps.{HaveBytes}
use Rattle.f8_machine.specs.MachineState.{MachineState, IsReset, outcome_again, steps_in}
use Rattle.f8_machine.specs.Questions.{allowances}
use Rattle.f8_machine.specs.Refinement.{Refines}
use Rattle.f8_machine.specs.declared.outcome.Mode.{Mode}
use Rattle.f8_machine.specs.declared.outcome.Mode.TheVariants.{Powered, Running, Stopped}
use Rattle.f8_machine.specs.declared.outcome.Outcome.{Outcome}
use Rattle.f8_machine.specs.declared.outcome.Outcome.TheVariants.{Done, Fault as FaultOutcome, Reserved}
use Rattle.f8_machine.specs.declared.outcome.StoppedBy.{StoppedBy}
use Rattle.f8_machine.specs.declared.outcome.StoppedBy.TheVariants.{Fault as ByFault, Reserved as ByOpcode}
use Rattle.rack_run.proofs.MachineAsking.{tried_most}
use Rattle.rewind.specs.Asking.{AsksBetween, allowed_since_power}
use Rattle.rewind.specs.LogEntries.{LogState, instructions_in}
use Rattle.rewind.specs.PowerAlike.{PowerAlike}
use Rattle.rewind.specs.Reached.{Reached, happened, happening, reached_by, turned}
use Rattle.rewind.specs.Standing.{HasReached, IsStoppedBy, MachineAt}
use Rattle.rewind.specs.Tape.{TapeState, AreDone, Instructs, IsInTime, IsOutcomeOf, IsTaped, begin, come, come_by, entries_of}
use Rattle.rewind.specs.Tape.{log_with, log_with_event, mode_faulted, mode_with, played_from, stop_in, tape_after}
use Rattle.rewind.specs.declared.entry.Entry.{Entry}
use Rattle.rewind.specs.declared.entry.Entry.TheVariants.{Happens, Instruction}
use Rattle.rewind.specs.declared.tape_mode.TapeMode.{TapeMode}
use Rattle.rewind.specs.declared.tape_mode.TapeMode.TheVariants.{Going, Unbegun, Faulted}
use Rattle.rewind.proofs.Entries.{instructions-append}
use Rattle.rewind.proofs.EntriesReached.{on_the_way, reached_both, stays_stopped}
use Rattle.rewind.proofs.RackLaws.{racks_forget}
use Rattle.rewind.proofs.ReachedLaws.{represents_at}
use Rattle.rewind.proofs.TapeStarts.{begins_same}
use Rattle.rewind.proofs.Turned.{outcome_is, stays_at, turn_asks, turned_at}

-- ---- where a tape stands

-- a machine with its rack is where the entries played of a log lead from some beginning, and all of them are done
pub record Stands (mode : TapeMode) (log : LogState) (begun : Reached) (m : MachineState) (states : List ChipState) : Type 0 where
  pub at : HasReached m states (come_by mode (reached_by log.played begun))
  pub entries : AreDone mode log begun

pub stands_of : (t : TapeState) (states : List ChipState) (first : List ChipView) → IsTaped t states first →
    Stands t.mode t.log (begin t first) t.machine states
stands_of t states first taped = record { at = taped.at; entries = taped.entries }

pub taped_by : (t : TapeState) (states : List ChipState) (first : List ChipView) (begun : Reached) → begin t first ≡ begun →
    Stands t.mode t.log begun t.machine states → PowerAlike (views states) first → IsTaped t states first
taped_by t states first begun same stands alike =
    let there : Stands t.mode t.log (begin t first) t.machine states =
    subst (λ (r : Reached). Stands t.mode t.log r t.machine states) (sym same) stands in
    record { at = there.at; entries = there.entries; alike = alike }

-- a place that goes on has led on from the entries that were played
pub goes_on : (log : LogState) (begun : Reached) → AreDone Going log begun → (reached_by log.played begun).stop ≡ None
goes_on log begun done = on_the_way log.played log.left begun done

-- where all are played
all_played : (log : LogState) → log.left ≡ [] → entries_of log ≡ log.played
all_played log ended = ap (λ (left : List Entry). log.played ++ left) ended ∙ append-nil log.played

done_by : (log : LogState) (begun : Reached) → log.left ≡ [] → (reached_by log.played begun).stop ≡ None → AreDone Going log begun
done_by log begun ended goes = ap (λ (es : List Entry). (reached_by es begun).stop) (all_played log ended) ∙ goes

-- ---- a machine that is stopped

pub record Halted (mode : Mode) : Type 0 where
  pub why : StoppedBy
  pub is : mode ≡ Stopped why

halted_by : (stop : Stop) (mode : Mode) → IsStoppedBy stop mode → Halted mode
halted_by stop Powered stopped = absurd stopped
halted_by stop Running stopped = absurd stopped
halted_by stop (Stopped why) stopped = record { why = why; is = refl }

halted_at : (m : MachineState) (states : List ChipState) (r : Reached) → HasReached m states r → is_some r.stop ≡ true → Halted m.mode
halted_at m states r at stops = by r.stop at.machine stops
  where
    by : (stop : Option Stop) → MachineAt stop m states r.position → is_some stop ≡ true → Halted m.mode
    by None represents stopped = cc
    by (Some stop) told stopped = halted_by stop m.mode told.stopped

-- the outcome of a machine that was stopped adds nothing to a log, and leaves a mode in which a fault changes nothing
pub record Rests (outcome : Outcome) (mode : TapeMode) (log : LogState) : Type 0 where
  pub mode_stays : mode_with outcome mode ≡ mode
  pub log_stays : log_with outcome log ≡ log

rests_again : (why : StoppedBy) (mode : TapeMode) (log : LogState) → mode_faulted mode ≡ mode → Rests (outcome_again why) mode log
rests_again (ByFault fault long) mode log same = record { mode_stays = same; log_stays = refl }
rests_again (ByOpcode at code) mode log same = record { mode_stays = refl; log_stays = refl }

-- ---- an instruction

module _ (log : LogState) (begun : Reached) (m after : MachineState) (olds news : List ChipState) (outcome : Outcome)
    (instructs : Instructs outcome m after olds news) (bytes : HaveBytes (steps_in outcome)) where
  abbrev here : Reached
  here = reached_by log.played begun

  module _ (mode : TapeMode) (same : mode_faulted mode ≡ mode) (at : HasReached m olds (come_by mode here))
      (stops : is_some (come_by mode here).stop ≡ true) where
    rests : Rests outcome mode log
    rests =
        let halted : Halted m.mode = halted_at m olds (come_by mode here) at stops in
        subst (λ (o : Outcome). Rests o mode log) (sym (instructs.stopped halted.why halted.is).again)
        (rests_again halted.why mode log same)

    -- nothing changes
    stopped_stands : AreDone mode log begun → Stands (mode_with outcome mode) (log_with outcome log) begun after news
    stopped_stands done =
        let halted : Halted m.mode = halted_at m olds (come_by mode here) at stops in
        let stays = instructs.stopped halted.why halted.is in
        rw (rests.mode_stays, rests.log_stays, stays.machine, stays.rack) (record { at = at; entries = done })

    stopped_asks : (n p q : ℕ) → q ≤ p + allowances n m.index (tried m.mode outcome) →
        q + allowed_since_power (come_by mode here)
        ≤ p + allowed_since_power (come_by (mode_with outcome mode) (reached_by (log_with outcome log).played begun))
    stopped_asks n p q few =
        let halted : Halted m.mode = halted_at m olds (come_by mode here) at stops in
        let none : q ≤ p + 0 = rw halted.is at few in
        rw (rests.mode_stays, rests.log_stays) (omega (arith, none))

  module _ (running : here.stop ≡ None) (at : HasReached m olds here) where
    pub refines_here : Refines outcome m after news here.position
    refines_here = instructs.advances.refines here.position (represents_at m olds here at running)

    pub going_outcome : IsOutcomeOf outcome here
    going_outcome = outcome_is m after olds news here at running outcome refines_here

    pub turned_here : HasReached after news (turned here)
    turned_here = turned_at m after olds news here at running outcome refines_here instructs.follows bytes

-- ---- an instruction that goes on

-- an instruction behind all entries
pub added : (log : LogState) (begun : Reached) →
    reached_by (log.played ++ Instruction ∷ []) begun ≡ turned (reached_by log.played begun)
added log begun = reached_both log.played (Instruction ∷ []) begun

going_by : (log : LogState) (begun : Reached) (m after : MachineState) (olds news : List ChipState) (outcome : Outcome) →
    log.left ≡ [] → (reached_by log.played begun).stop ≡ None → HasReached m olds (reached_by log.played begun) →
    Refines outcome m after news (reached_by log.played begun).position → Follows outcome m after olds news →
    HaveBytes (steps_in outcome) → HasReached after news (turned (reached_by log.played begun)) →
    stop_in outcome ≡ (turned (reached_by log.played begun)).stop →
    Stands (mode_with outcome Going) (log_with outcome log) begun after news
going_by log begun m after olds news (Done wrote steps) ended running at refines follows bytes there stop = record {
  at = subst (λ (r : Reached). HasReached after news r) (sym (added log begun)) there;
  entries = done_by (log_with (Done wrote steps) log) begun ended (ap (λ (r : Reached). r.stop) (added log begun) ∙ sym stop);
}
going_by log begun m after olds news (FaultOutcome fault long steps) ended running at refines follows bytes there stop =
    record { at = there; entries = record { goes = running; stops = ap is_some (sym stop); ended = ended } }
going_by log begun m after olds news (Reserved address code) ended running at refines follows bytes there stop = record {
  at = stays_at m after olds news (reached_by log.played begun) at running address code refines follows bytes;
  entries = done_by log begun ended running;
}

going_asks : (n p q : ℕ) (index : Index) (log : LogState) (begun : Reached) (outcome : Outcome) →
    q ≤ p + allowances n index (tried_in outcome) →
    q + allowed_since_power (reached_by log.played begun) ≤ p + allowed_since_power (turned (reached_by log.played begun)) →
    q + allowed_since_power (reached_by log.played begun)
    ≤ p + allowed_since_power (come_by (mode_with outcome Going) (reached_by (log_with outcome log).played begun))
going_asks n p q index log begun (Done wrote steps) few more =
    subst (λ (r : Reached). q + allowed_since_power (reached_by log.played begun) ≤ p + allowed_since_power r) (sym (added log begun)) more
going_asks n p q index log begun (FaultOutcome fault long steps) few more = more
going_asks n p q index log begun (Reserved address code) few more = omega (arith, few)

-- ---- an instruction on a tape

module _ (log : LogState) (begun : Reached) (m after : MachineState) (olds news : List ChipState) (outcome : Outcome)
    (instructs : Instructs outcome m after olds news) (bytes : HaveBytes (steps_in outcome)) where
  turn_stands : (mode : TapeMode) → log.left ≡ [] → Stands mode log begun m olds →
      Stands (mode_with outcome mode) (log_with outcome log) begun after news
  turn_stands Going ended stands =
      let running = goes_on log begun stands.entries in
      going_by log begun m after olds news outcome ended running stands.at
      (refines_here log begun m after olds news outcome instructs bytes running stands.at) instructs.follows bytes
      (turned_here log begun m after olds news outcome instructs bytes running stands.at)
      (going_outcome log begun m after olds news outcome instructs bytes running stands.at).stop
  turn_stands Unbegun ended stands =
      stopped_stands log begun m after olds news outcome instructs bytes Unbegun refl stands.at
      (stays_stopped log.played begun stands.entries.stops) stands.entries
  turn_stands Faulted ended stands =
      stopped_stands log begun m after olds news outcome instructs bytes Faulted refl stands.at stands.entries.stops
      stands.entries

  turn_asked : (mode : TapeMode) (n p q : ℕ) → Stands mode log begun m olds → length olds ≡ n → length news ≡ n →
      Fits m olds → Fits after news → q ≤ p + allowances n m.index (tried m.mode outcome) →
      q + allowed_since_power (come_by mode (reached_by log.played begun))
      ≤ p + allowed_since_power (come_by (mode_with outcome mode) (reached_by (log_with outcome log).played begun))
  turn_asked Going n p q stands long kept fits fit few =
      let running = goes_on log begun stands.entries in
      going_asks n p q m.index log begun outcome (tried_most n p q m.index outcome m.mode few)
      (turn_asks m after olds news (reached_by log.played begun) stands.at running n outcome
      (refines_here log begun m after olds news outcome instructs bytes running stands.at) instructs.follows bytes
      long kept fits fit p q few)
  turn_asked Unbegun n p q stands long kept fits fit few =
      stopped_asks log begun m after olds news outcome instructs bytes Unbegun refl stands.at
      (stays_stopped log.played begun stands.entries.stops) n p q few
  turn_asked Faulted n p q stands long kept fits fit few =
      stopped_asks log begun m after olds news outcome instructs bytes Faulted refl stands.at stands.entries.stops n p q few

module _ (t new : TapeState) (olds news : List ChipState) (first : List ChipView) (outcome : Outcome)
    (is : new ≡ tape_after outcome new.machine t) (instructs : Instructs outcome t.machine new.machine olds news)
    (bytes : HaveBytes (steps_in outcome)) (taped : IsTaped t olds first) where
  begins : begin (tape_after outcome new.machine t) first ≡ begin t first
  begins = begins_same t (tape_after outcome new.machine t) first refl instructs.follows.chain refl

  pub turn_taped : t.log.left ≡ [] → IsTaped new news first
  turn_taped ended =
      subst (λ (tape : TapeState). IsTaped tape news first) (sym is)
      (taped_by (tape_after outcome new.machine t) news first (begin t first) begins
      (turn_stands t.log (begin t first) t.machine new.machine olds news outcome instructs bytes t.mode ended
      (stands_of t olds first taped))
      (racks_forget.steps (steps_in outcome) olds news first instructs.follows.ran taped.alike))

  pub turn_outcome : t.mode ≡ Going → IsOutcomeOf outcome (played_from t first)
  turn_outcome goes =
      let stands : Stands Going t.log (begin t first) t.machine olds = rw goes at (stands_of t olds first taped) in
      going_outcome t.log (begin t first) t.machine new.machine olds news outcome instructs bytes
      (goes_on t.log (begin t first) stands.entries) stands.at

  pub taped_asks : (n p q : ℕ) → length olds ≡ n → length news ≡ n → Fits t.machine olds → Fits new.machine news →
      q ≤ p + allowances n t.machine.index (tried t.machine.mode outcome) → AsksBetween (come t first) (come new first) p q
  taped_asks n p q long kept fits fit few =
      subst (λ (tape : TapeState). AsksBetween (come t first) (come tape first) p q) (sym is)
      (subst (λ (begun : Reached). AsksBetween (come t first)
      (come_by (mode_with outcome t.mode) (reached_by (log_with outcome t.log).played begun)) p q) (sym begins)
      (turn_asked t.log (begin t first) t.machine new.machine olds news outcome instructs bytes t.mode n p q
      (stands_of t olds first taped) long kept fits fit few))

-- it takes no more than its clocks
pub in_time_on : (m after : MachineState) (log now : LogState) → IsInTime m log → IsReset after.mode →
    after.phi ≤ m.phi + MOST_INTERRUPTED_PHI → now.played ≡ log.played ++ Instruction ∷ [] → IsInTime after now
in_time_on m after log now time reset on played = record {
  reset = reset;
  clocks = let same : instructions_in now.played ≡ instructions_in (log.played ++ Instruction ∷ []) = ap instructions_in played in
      omega (arith, instructions-append log.played (Instruction ∷ []), time.clocks);
}

-- ---- an event on a tape

happening_stop : (stop : Option Stop) (event : Event) (r : Reached) → (happening stop event r).stop ≡ r.stop
happening_stop None event r = refl
happening_stop (Some stop) event r = refl

-- an event behind all entries
pub added_event : (event : Event) (es : List Entry) (begun : Reached) →
    reached_by (es ++ Happens event ∷ []) begun ≡ happened event (reached_by es begun)
added_event event es begun = reached_both es (Happens event ∷ []) begun

event_stands : (event : Event) (log : LogState) (begun : Reached) (m after : MachineState) (olds news : List ChipState) →
    ((r : Reached) → HasReached m olds r → r.stop ≡ None → HasReached after news (happened event r)) →
    Stands Going log begun m olds → Stands Going (log_with_event event log) begun after news
event_stands event log begun m after olds news leads stands =
    let here : Reached = reached_by log.played begun in
    let running : here.stop ≡ None = goes_on log begun stands.entries in
    record {
      at = subst (λ (r : Reached). HasReached after news r) (sym (added_event event log.played begun)) (leads here stands.at running);
      entries = done_by (log_with_event event log) begun refl
          (ap (λ (r : Reached). r.stop) (added_event event log.played begun) ∙ happening_stop here.stop event here ∙ running);
    }

pub event_taped : (event : Event) (t new : TapeState) (olds news : List ChipState) (first : List ChipView) →
    new ≡ record t { machine = new.machine; log = log_with_event event t.log } → t.mode ≡ Going →
    new.machine.chain ≡ t.machine.chain →
    ((r : Reached) → HasReached t.machine olds r → r.stop ≡ None → HasReached new.machine news (happened event r)) →
    PowerAlike (views news) first → IsTaped t olds first → IsTaped new news first
event_taped event t new olds news first is goes chain leads alike taped =
    let after : TapeState = record t { machine = new.machine; log = log_with_event event t.log } in
    let stands : Stands Going t.log (begin t first) t.machine olds = rw goes at (stands_of t olds first taped) in
    let came : Stands t.mode (log_with_event event t.log) (begin t first) new.machine news =
    rw goes (event_stands event t.log (begin t first) t.machine new.machine olds news leads stands) in
    subst (λ (tape : TapeState). IsTaped tape news first) (sym is)
    (taped_by after news first (begin t first) (begins_same t after first refl chain refl) came alike)

-- events take no time
pub in_time_events : (es : List Entry) (m after : MachineState) (log now : LogState) → instructions_in es ≡ 0 → IsInTime m log →
    after.mode ≡ m.mode → after.phi ≡ m.phi → now.played ≡ log.played ++ es → IsInTime after now
in_time_events es m after log now none time mode phi played = record {
  reset = subst (λ (there : Mode). IsReset there) (sym mode) time.reset;
  clocks = let same : instructions_in now.played ≡ instructions_in (log.played ++ es) = ap instructions_in played in
      omega (arith, instructions-append log.played es, time.clocks);
}
