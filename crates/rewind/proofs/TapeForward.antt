-- Entries of a tape that are done again lead on: events up to the next instruction or the end, and that instruction.
use Rattle.std.proofs.Common.{◌≡◌, ℕ, ◌+◌, ◌≤◌, true, List, [], ◌∷◌, ◌++◌, length, map, refl, sym, ap, ap₂, subst, ◌∙◌, arith}
use Rattle.std.specs.Prelude.{None, sum, sum_by}
use Rattle.std.proofs.lemmas.List.{append_assoc, append-nil, length-map}
use Rattle.std.proofs.lemmas.List.Sums.{sum-map}
use Rattle.f8_spec.specs.ChipState.{ChipView, ChipState}
use Rattle.console_spec.specs.declared.Event.{Event}
use Rattle.data_bus.specs.Racks.{views}
use Rattle.f8_machine.specs.Fitting.{Fits, tried}
use Rattle.f8_machine.specs.HeardSteps.{HaveBytes}
use Rattle.f8_machine.specs.MachineState.{MachineState, steps_in}
use Rattle.f8_machine.specs.Questions.{allowances}
use Rattle.f8_machine.specs.declared.outcome.Outcome.{Outcome}
use Rattle.f8_machine.specs.declared.outcome.Outcome.TheVariants.{Done, Fault as FaultOutcome, Reserved}
use Rattle.rewind.specs.Asking.{AsksBetween, allowed_since_power}
use Rattle.rewind.specs.LogEntries.{LogState, Plays, instructions_in}
use Rattle.rewind.specs.PowerAlike.{PowerAlike}
use Rattle.rewind.specs.Reached.{Reached, happened, reached_by, turned}
use Rattle.rewind.specs.Standing.{HasReached, patches}
use Rattle.rewind.specs.Tape.{TapeState, AreDone, Forwards, Instructs, IsForward, IsInTime, IsOutcomeOf, IsTaped, begin, come}
use Rattle.rewind.specs.Tape.{come_by, entries_of, is_done, played_from, stop_in}
use Rattle.rewind.specs.declared.entry.Entry.{Entry}
use Rattle.rewind.specs.declared.entry.Entry.TheVariants.{Happens, Instruction}
use Rattle.rewind.specs.declared.tape_mode.TapeMode.{TapeMode}
use Rattle.rewind.specs.declared.tape_mode.TapeMode.TheVariants.{Going, Unbegun, Faulted}
use Rattle.rewind.proofs.Entries.{instructions-append}
use Rattle.rewind.proofs.EntriesReached.{on_the_way, reached_both}
use Rattle.rewind.proofs.RackLaws.{racks_forget}
use Rattle.rewind.proofs.TapeStarts.{begins_same}
use Rattle.rewind.proofs.TapeSteps.{Stands, added, added_event, going_outcome, goes_on, refines_here, stands_of}
use Rattle.rewind.proofs.TapeSteps.{taped_by, turned_here}
use Rattle.rewind.proofs.Turned.{turn_asks}

-- ---- events that are played

-- a machine with its rack is led to another place, for which no more is allowed
pub record LeadsTo (m : MachineState) (states : List ChipState) (from to : Reached) : Type 0 where
  pub at : HasReached m states to
  pub allowed : allowed_since_power to ≡ allowed_since_power from

-- an event leads a machine and its rack on
pub record LeadsOn (event : Event) (m after : MachineState) (olds news : List ChipState) : Type 0 where
  pub there : (r : Reached) → HasReached m olds r → r.stop ≡ None → HasReached after news (happened event r)
  pub allowed : (r : Reached) → HasReached m olds r → r.stop ≡ None → allowed_since_power (happened event r) ≡ allowed_since_power r
  pub alike : (first : List ChipView) → PowerAlike (views olds) first → PowerAlike (views news) first
  pub chain : after.chain ≡ m.chain
  pub patches_stay : patches news ≡ patches olds

-- a machine and its rack, which stay where no events are played
pub record Stays (m after : MachineState) (olds news : List ChipState) : Type 0 where
  pub machine : after ≡ m
  pub rack : news ≡ olds

-- some events that were left on a tape were played
pub record HavePassed (old new : TapeState) (olds news : List ChipState) : Type 0 where
  pub events : List Entry
  pub none : instructions_in events ≡ 0
  pub left : old.log.left ≡ events ++ new.log.left
  pub played : new.log.played ≡ old.log.played ++ events
  pub spare : new.log.spare ≡ old.log.spare
  pub rest : new ≡ record old { machine = new.machine; log = new.log }
  pub leads : (r : Reached) → HasReached old.machine olds r → (reached_by events r).stop ≡ None →
      LeadsTo new.machine news r (reached_by events r)
  pub alike : (first : List ChipView) → PowerAlike (views olds) first → PowerAlike (views news) first
  pub chain : new.machine.chain ≡ old.machine.chain
  pub patches_stay : patches news ≡ patches olds
  pub stays : events ≡ [] → Stays old.machine new.machine olds news

-- and the rack fits still, its chips were put no question, and no time has passed
pub record ArePassing (old new : TapeState) (olds news : List ChipState) (before after : List ℕ) : Type 0 where
  pub passed : HavePassed old new olds news
  pub fits : Fits new.machine news
  pub asked : after ≡ before
  pub time : IsInTime new.machine new.log

-- at first none
pub passed_none : (t : TapeState) (states : List ChipState) → HavePassed t t states states
passed_none t states = record {
  events = [];
  none = refl;
  left = refl;
  played = sym (append-nil t.log.played);
  spare = refl;
  rest = refl;
  leads = λ r at goes. record { at = at; allowed = refl };
  alike = λ first alike. alike;
  chain = refl;
  patches_stay = refl;
  stays = λ none. record { machine = refl; rack = refl };
}

not_empty : (es : List Entry) (entry : Entry) → es ++ entry ∷ [] ≡ [] → ⊥
not_empty [] entry same = cc
not_empty (e ∷ es) entry same = cc

-- and then one more
pub passed_more : (event : Event) (old mid new : TapeState) (olds mids news : List ChipState) → HavePassed old mid olds mids →
    Plays (Happens event) mid.log new.log → new ≡ record mid { machine = new.machine; log = new.log } →
    LeadsOn event mid.machine new.machine mids news → HavePassed old new olds news
passed_more event old mid new olds mids news passed plays rest on = record {
  events = passed.events ++ Happens event ∷ [];
  none = instructions-append passed.events (Happens event ∷ []) ∙ ap (λ (n : ℕ). n + 0) passed.none;
  left = passed.left ∙ ap (λ (es : List Entry). passed.events ++ es) plays.left
      ∙ sym (append_assoc passed.events (Happens event ∷ []) new.log.left);
  played = plays.played ∙ ap (λ (es : List Entry). es ++ Happens event ∷ []) passed.played
      ∙ append_assoc old.log.played passed.events (Happens event ∷ []);
  spare = plays.spare ∙ passed.spare;
  rest = rest ∙ ap (λ (t : TapeState). record t { machine = new.machine; log = new.log }) passed.rest;
  leads = λ r at goes.
      let here : Reached = reached_by passed.events r in
      let running : here.stop ≡ None = on_the_way passed.events (Happens event ∷ []) r goes in
      let mids_at : LeadsTo mid.machine mids r here = passed.leads r at running in
      let last : reached_by (passed.events ++ Happens event ∷ []) r ≡ happened event here = added_event event passed.events r in
      record {
        at = subst (λ (to : Reached). HasReached new.machine news to) (sym last) (on.there here mids_at.at running);
        allowed = ap (λ (to : Reached). allowed_since_power to) last ∙ on.allowed here mids_at.at running ∙ mids_at.allowed;
      };
  alike = λ first alike. on.alike first (passed.alike first alike);
  chain = on.chain ∙ passed.chain;
  patches_stay = on.patches_stay ∙ passed.patches_stay;
  stays = λ none. absurd (not_empty passed.events (Happens event) none);
}

-- where nothing is left behind them no instruction was left
pub passed_all : (old new : TapeState) (olds news : List ChipState) → HavePassed old new olds news → new.log.left ≡ [] →
    instructions_in old.log.left ≡ 0
passed_all old new olds news passed ended =
    ap (λ (es : List Entry). instructions_in es)
    (passed.left ∙ ap (λ (es : List Entry). passed.events ++ es) ended ∙ append-nil passed.events) ∙ passed.none

-- they are no instructions
pub passed_few : (old new : TapeState) (olds news : List ChipState) → HavePassed old new olds news →
    instructions_in new.log.played ≡ instructions_in old.log.played
passed_few old new olds news passed =
    let all = instructions-append old.log.played passed.events in
    let same : instructions_in new.log.played ≡ instructions_in (old.log.played ++ passed.events) = ap instructions_in passed.played in
    omega (arith, passed.none)

-- ---- where they lead

module _ (old new : TapeState) (olds news : List ChipState) (begun : Reached) (passed : HavePassed old new olds news)
    (stands : Stands Going old.log begun old.machine olds) where
  passed_entries : entries_of new.log ≡ entries_of old.log
  passed_entries =
      ap (λ (es : List Entry). es ++ new.log.left) passed.played ∙ append_assoc old.log.played passed.events new.log.left
      ∙ ap (λ (es : List Entry). old.log.played ++ es) (sym passed.left)

  passed_there : reached_by new.log.played begun ≡ reached_by passed.events (reached_by old.log.played begun)
  passed_there =
      ap (λ (es : List Entry). reached_by es begun) passed.played ∙ reached_both old.log.played passed.events begun

  passed_done : AreDone Going new.log begun
  passed_done = ap (λ (es : List Entry). (reached_by es begun).stop) passed_entries ∙ stands.entries

  passed_leads : LeadsTo new.machine news (reached_by old.log.played begun) (reached_by new.log.played begun)
  passed_leads =
      subst (λ (to : Reached). LeadsTo new.machine news (reached_by old.log.played begun) to) (sym passed_there)
      (passed.leads (reached_by old.log.played begun) stands.at
      (ap (λ (r : Reached). r.stop) (sym passed_there) ∙ goes_on new.log begun passed_done))

  pub passed_stands : Stands Going new.log begun new.machine news
  passed_stands = record { at = passed_leads.at; entries = passed_done }

  pub passed_allowed : allowed_since_power (reached_by new.log.played begun) ≡ allowed_since_power (reached_by old.log.played begun)
  passed_allowed = passed_leads.allowed

-- ---- the instruction behind them

done_goes : (outcome : Outcome) → stop_in outcome ≡ None → is_done outcome ≡ true
done_goes (Done wrote steps) goes = refl
done_goes (FaultOutcome fault long steps) goes = cc
done_goes (Reserved address code) goes = cc

module _ (mid new : TapeState) (mids news : List ChipState) (begun : Reached) (outcome : Outcome)
    (plays : Plays Instruction mid.log new.log) (stands : Stands Going mid.log begun mid.machine mids)
    (instructs : Instructs outcome mid.machine new.machine mids news) (bytes : HaveBytes (steps_in outcome)) where
  abbrev here : Reached
  here = reached_by mid.log.played begun

  again_there : reached_by new.log.played begun ≡ turned here
  again_there = ap (λ (es : List Entry). reached_by es begun) plays.played ∙ added mid.log begun

  again_done : AreDone Going new.log begun
  again_done =
      ap (λ (es : List Entry). (reached_by es begun).stop)
      (ap (λ (es : List Entry). es ++ new.log.left) plays.played ∙ append_assoc mid.log.played (Instruction ∷ []) new.log.left
      ∙ ap (λ (es : List Entry). mid.log.played ++ es) (sym plays.left)) ∙ stands.entries

  running : here.stop ≡ None
  running = goes_on mid.log begun stands.entries

  again_stands : Stands Going new.log begun new.machine news
  again_stands = record {
    at = subst (λ (r : Reached). HasReached new.machine news r) (sym again_there)
        (turned_here mid.log begun mid.machine new.machine mids news outcome instructs bytes running stands.at);
    entries = again_done;
  }

  again_outcome : IsOutcomeOf outcome here
  again_outcome = going_outcome mid.log begun mid.machine new.machine mids news outcome instructs bytes running stands.at

  again_is_done : is_done outcome ≡ true
  again_is_done =
      done_goes outcome
      (again_outcome.stop ∙ ap (λ (r : Reached). r.stop) (sym again_there) ∙ goes_on new.log begun again_done)

  again_asks : (n p q : ℕ) → length mids ≡ n → length news ≡ n → Fits mid.machine mids → Fits new.machine news →
      q ≤ p + allowances n mid.machine.index (tried mid.machine.mode outcome) →
      q + allowed_since_power here ≤ p + allowed_since_power (reached_by new.log.played begun)
  again_asks n p q long kept fits fit few =
      subst (λ (r : Reached). q + allowed_since_power here ≤ p + allowed_since_power r) (sym again_there)
      (turn_asks mid.machine new.machine mids news here stands.at running n outcome
      (refines_here mid.log begun mid.machine new.machine mids news outcome instructs bytes running stands.at) instructs.follows bytes
      long kept fits fit p q few)

-- ---- in which modes entries are left

nothing_left : (played left : List Entry) → played ++ left ≡ [] → left ≡ []
nothing_left [] left none = none
nothing_left (entry ∷ played) left none = cc

-- only a machine that goes on has entries left
pub going_or_ended : (mode : TapeMode) (log : LogState) (begun : Reached) → AreDone mode log begun →
    (X : Type 0) → (mode ≡ Going → X) → (log.left ≡ [] → X) → X
going_or_ended Going log begun done X goes ended = goes refl
going_or_ended Unbegun log begun done X goes ended = ended (nothing_left log.played log.left done.none)
going_or_ended Faulted log begun done X goes ended = ended done.ended

one_left : (left events later : List Entry) → left ≡ events ++ Instruction ∷ later → left ≡ [] → ⊥
one_left left [] later same none = cc
one_left left (entry ∷ events) later same none = cc

-- ---- a tape

come_going : (t : TapeState) (first : List ChipView) → t.mode ≡ Going → come t first ≡ played_from t first
come_going t first goes = ap (λ (mode : TapeMode). come_by mode (played_from t first)) goes

-- a tape of which some fields are those of another, and its mode
record KeepsRest (old new : TapeState) : Type 0 where
  pub fill : new.fill ≡ old.fill
  pub powers : new.powers ≡ old.powers
  pub mode : new.mode ≡ old.mode

keeps_rest : (old new : TapeState) → new ≡ record old { machine = new.machine; log = new.log } → KeepsRest old new
keeps_rest old new rest = record {
  fill = ap (λ (t : TapeState). t.fill) rest;
  powers = ap (λ (t : TapeState). t.powers) rest;
  mode = ap (λ (t : TapeState). t.mode) rest;
}

-- the entries up to the instruction, and it, were played
abbrev pub forwards : (old mid : TapeState) (olds mids : List ChipState) (log : LogState) → HavePassed old mid olds mids →
    Plays Instruction mid.log log → Forwards old.log log
forwards old mid olds mids log passed plays = record {
  events = passed.events;
  none = passed.none;
  left = passed.left ∙ ap (λ (es : List Entry). passed.events ++ es) plays.left;
  played = plays.played ∙ ap (λ (es : List Entry). es ++ Instruction ∷ []) passed.played;
  spare = plays.spare ∙ passed.spare;
}

-- where no instruction was left none is met
pub none_met : (old mid : TapeState) (olds mids : List ChipState) (log : LogState) → HavePassed old mid olds mids →
    Plays Instruction mid.log log → instructions_in old.log.left ≡ 0 → ⊥
none_met old mid olds mids log passed plays none =
    let left = (forwards old mid olds mids log passed plays).left in
    let same : instructions_in old.log.left ≡ instructions_in (passed.events ++ Instruction ∷ log.left) = ap instructions_in left in
    omega (arith, instructions-append passed.events (Instruction ∷ log.left))

module _ (old mid new : TapeState) (olds mids news : List ChipState) (outcome : Outcome) (passed : HavePassed old mid olds mids)
    (plays : Plays Instruction mid.log new.log) (rest : new ≡ record mid { machine = new.machine; log = new.log })
    (instructs : Instructs outcome mid.machine new.machine mids news) (bytes : HaveBytes (steps_in outcome))
    (first : List ChipView) (taped : IsTaped old olds first) where
  all_rest : KeepsRest old new
  all_rest =
      keeps_rest old new (rest ∙ ap (λ (t : TapeState). record t { machine = new.machine; log = new.log }) passed.rest)

  begins_there : begin new first ≡ begin old first
  begins_there = begins_same old new first all_rest.fill (instructs.follows.chain ∙ passed.chain) all_rest.powers

  old_going : old.mode ≡ Going
  old_going =
      going_or_ended old.mode old.log (begin old first) taped.entries (old.mode ≡ Going) (λ goes. goes)
      (λ ended. absurd (one_left old.log.left passed.events new.log.left (forwards old mid olds mids new.log passed plays).left ended))

  old_stands : Stands Going old.log (begin old first) old.machine olds
  old_stands = rw old_going at (stands_of old olds first taped)

  mid_stands : Stands Going mid.log (begin old first) mid.machine mids
  mid_stands = passed_stands old mid olds mids (begin old first) passed old_stands

  new_stands : Stands new.mode new.log (begin old first) new.machine news
  new_stands =
      subst (λ (mode : TapeMode). Stands mode new.log (begin old first) new.machine news) (sym (all_rest.mode ∙ old_going))
      (again_stands mid new mids news (begin old first) outcome plays mid_stands instructs bytes)

  forward_asks : (n p q : ℕ) → length mids ≡ n → length news ≡ n → Fits mid.machine mids → Fits new.machine news →
      q ≤ p + allowances n mid.machine.index (tried mid.machine.mode outcome) → AsksBetween (come old first) (come new first) p q
  forward_asks n p q long kept fits fit few =
      let asks = again_asks mid new mids news (begin old first) outcome plays mid_stands instructs bytes n p q long kept fits fit few in
      let more = passed_allowed old mid olds mids (begin old first) passed old_stands in
      let from : allowed_since_power (come old first) ≡ allowed_since_power (played_from old first) =
      ap (λ (r : Reached). allowed_since_power r) (come_going old first old_going) in
      let to : allowed_since_power (come new first) ≡ allowed_since_power (reached_by new.log.played (begin old first)) =
      ap (λ (r : Reached). allowed_since_power r)
      (come_going new first (all_rest.mode ∙ old_going) ∙ ap (λ (r : Reached). reached_by new.log.played r) begins_there) in
      omega (arith, asks, more, from, to)

  pub is_forward : (n p q : ℕ) → length mids ≡ n → length news ≡ n → Fits mid.machine mids → Fits new.machine news →
      q ≤ p + allowances n mid.machine.index (tried mid.machine.mode outcome) → IsForward outcome old new news first p q
  is_forward n p q long kept fits fit few = record {
    moves = forwards old mid olds mids new.log passed plays;
    done = again_is_done mid new mids news (begin old first) outcome plays mid_stands instructs bytes;
    answers = subst (λ (es : List Entry). IsOutcomeOf outcome (reached_by es (begin old first))) passed.played
        (again_outcome mid new mids news (begin old first) outcome plays mid_stands instructs bytes);
    taped = taped_by new news first (begin old first) begins_there new_stands
        (racks_forget.steps (steps_in outcome) mids news first instructs.follows.ran (passed.alike first taped.alike));
    asked = forward_asks n p q long kept fits fit few;
  }

-- ---- a tape that is played to its end

module _ (old new : TapeState) (olds news : List ChipState) (passed : HavePassed old new olds news) (ended : new.log.left ≡ []) where
  -- then the events are all that was left
  events_are : passed.events ≡ old.log.left
  events_are =
      sym (append-nil passed.events) ∙ ap (λ (es : List Entry). passed.events ++ es) (sym ended) ∙ sym passed.left

  finished_log : new.log ≡ record old.log { played = old.log.played ++ old.log.left; left = [] }
  finished_log =
      let played : new.log.played ≡ old.log.played ++ old.log.left =
      passed.played ∙ ap (λ (es : List Entry). old.log.played ++ es) events_are in
      rw (← played, ← passed.spare, ← ended) refl

  pub finished_tape : new ≡ record old {
    machine = new.machine;
    log = record old.log { played = old.log.played ++ old.log.left; left = [] };
  }
  finished_tape = passed.rest ∙ ap (λ (log : LogState). record old { machine = new.machine; log = log }) finished_log

  -- where none was left nothing changes
  stays_whole : old.log.left ≡ [] → (new ≡ old) × (news ≡ olds)
  stays_whole none =
      let stays = passed.stays (events_are ∙ none) in
      let same : new.log ≡ old.log =
      finished_log ∙ ap₂ (λ (played left : List Entry). record old.log { played = played; left = left })
      (ap (λ (es : List Entry). old.log.played ++ es) none ∙ append-nil old.log.played) (sym none) in
      (passed.rest ∙ ap₂ (λ (m : MachineState) (log : LogState). record old { machine = m; log = log }) stays.machine same, stays.rack)

  module _ (first : List ChipView) (taped : IsTaped old olds first) where
    finish_begins : begin new first ≡ begin old first
    finish_begins =
        let rest = keeps_rest old new passed.rest in begins_same old new first rest.fill passed.chain rest.powers

    finish_stands : old.mode ≡ Going → Stands Going old.log (begin old first) old.machine olds
    finish_stands goes = rw goes at (stands_of old olds first taped)

    pub finish_taped : IsTaped new news first
    finish_taped =
        going_or_ended old.mode old.log (begin old first) taped.entries (IsTaped new news first)
        (λ goes. taped_by new news first (begin old first) finish_begins
        (subst (λ (mode : TapeMode). Stands mode new.log (begin old first) new.machine news)
        (sym ((keeps_rest old new passed.rest).mode ∙ goes))
        (passed_stands old new olds news (begin old first) passed (finish_stands goes))) (passed.alike first taped.alike))
        (λ none. let stays = stays_whole none in rw (stays.0, stays.1) taped)

    pub finish_allowed : allowed_since_power (come new first) ≡ allowed_since_power (come old first)
    finish_allowed =
        going_or_ended old.mode old.log (begin old first) taped.entries
        (allowed_since_power (come new first) ≡ allowed_since_power (come old first))
        (λ goes. ap (λ (r : Reached). allowed_since_power r)
        (come_going new first ((keeps_rest old new passed.rest).mode ∙ goes)
        ∙ ap (λ (r : Reached). reached_by new.log.played r) finish_begins)
        ∙ passed_allowed old new olds news (begin old first) passed (finish_stands goes)
        ∙ ap (λ (r : Reached). allowed_since_power r) (sym (come_going old first goes)))
        (λ none. ap (λ (t : TapeState). allowed_since_power (come t first)) (stays_whole none).0)

-- ---- chips that are put no question

pub as_long : {X : Type 0} (f : X → ℕ) (xs ys : List X) → map f ys ≡ map f xs → length ys ≡ length xs
as_long f xs ys same = sym (length-map ys f) ∙ ap (λ (ns : List ℕ). length ns) same ∙ length-map xs f

pub as_many : {X : Type 0} (f : X → ℕ) (xs ys : List X) → map f ys ≡ map f xs → sum_by f ys ≡ sum_by f xs
as_many f xs ys same = sym (sum-map f ys) ∙ ap (λ (ns : List ℕ). sum ns) same ∙ sum-map f xs
