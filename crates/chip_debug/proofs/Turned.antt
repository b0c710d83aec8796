-- An instruction leads a session to the next scene.
use Rattle.std.proofs.Common.{◌≡◌, ℕ, ◌+◌, ◌≤◌, ◌++◌, Bool, true, false, List, [], ◌∷◌, refl, sym, ap, ap₂, subst, ◌∙◌, arith}
use Rattle.std.specs.Prelude.{◌&&◌, if◌then◌else◌, Option, Some, None, is_some}
use Rattle.f8_spec.specs.ChipState.{ChipState}
use Rattle.console_spec.specs.BusTrace.{Course}
use Rattle.console_spec.specs.Run.{Stop, Stops, Turn, Reserved as ReservedStop, next}
use Rattle.data_bus.specs.Racks.{views}
use Rattle.f8_machine.specs.HeardSteps.{HaveBytes}
use Rattle.f8_machine.specs.MachineState.{steps_in}
use Rattle.f8_machine.specs.Refinement.{Refines}
use Rattle.f8_machine.specs.declared.heard.Heard.{Heard}
use Rattle.f8_machine.specs.declared.outcome.Outcome.{Outcome}
use Rattle.f8_machine.specs.declared.outcome.Outcome.TheVariants.{Done, Fault, Reserved}
use Rattle.probe.specs.ProbeState.{probe_counters}
use Rattle.rack_run.proofs.Outcomes.{reserved_course}
use Rattle.rack_run.specs.Endings.{stop_of}
use Rattle.rack_run.specs.declared.ending.Halt.{Halt}
use Rattle.rewind.specs.Asking.{AsksBetween, allowed_since_power, unserved_codes}
use Rattle.rewind.specs.LogEntries.{instructions_in}
use Rattle.rewind.specs.Reached.{Reached, hearing, led_by, next_steps, served_steps, turned}
use Rattle.rewind.specs.Standing.{HasReached}
use Rattle.rewind.specs.Tape.{TapeState, Instructs, IsTaped, come, come_by, mode_faulted, played_from, stop_in, tape_after}
use Rattle.rewind.specs.declared.entry.Entry.{Entry}
use Rattle.rewind.specs.declared.entry.Entry.TheVariants.{Instruction}
use Rattle.rewind.specs.declared.tape_mode.TapeMode.{TapeMode}
use Rattle.rewind.specs.declared.tape_mode.TapeMode.TheVariants.{Faulted, Going}
use Rattle.rewind.proofs.Entries.{instructions-append}
use Rattle.rewind.proofs.ReachedLaws.{hearing_none, represents_at}
use Rattle.rewind.proofs.Turned.{outcome_is, turned_at}
use Rattle.chip_debug.specs.Asking.{behind_allowed}
use Rattle.chip_debug.specs.Breaks.{are_met}
use Rattle.chip_debug.specs.Scenes.{Scene, is_met, meets_break, reached, stepped, stops}
use Rattle.chip_debug.specs.Standing.{SessionState, IsAt, IsPlayed, came_of, halt_in}
use Rattle.chip_debug.specs.declared.breaks.Breaks.{Breaks}
use Rattle.chip_debug.specs.declared.session.Came.{Came}
use Rattle.chip_debug.specs.declared.session.Came.TheVariants.{Done as DoneCame, Met, Stopped}
use Rattle.chip_debug.proofs.Halts.{not_stopped, runs_at}
use Rattle.chip_debug.proofs.MeetLaws.{meets_is}
use Rattle.chip_debug.proofs.SceneLaws.{entered_is, reached_off, reached_on, reached_running, reached_stepped, stepped_breaks}
use Rattle.chip_debug.proofs.SceneLaws.{stepped_chain, stepped_off, stepped_on, with_instruction, with_stop}

-- ---- a reserved opcode

-- it has no bus steps
turned_reserved : (r : Reached) (address code : ℕ) → next r.position ≡ Stops (ReservedStop address code) →
    turned r ≡ record r { stop = Some (ReservedStop address code) }
turned_reserved r address code turns =
    let steps : next_steps r ≡ [] =
    ap (λ (course : Course). served_steps course) (reserved_course r.position address code turns) in
    ap₂ led_by turns (ap (λ (hs : List Heard). hearing hs r) steps ∙ hearing_none r)

-- and asks nothing
reserved_allowed : (r : Reached) (address code : ℕ) → r.stop ≡ None → next r.position ≡ Stops (ReservedStop address code) →
    allowed_since_power (turned r) ≡ allowed_since_power r
reserved_allowed r address code running turns =
    ap allowed_since_power (turned_reserved r address code turns)
    ∙ ap (λ (stop : Option Stop). allowed_since_power (record r { stop = stop })) (sym running)

-- ---- where it leads

-- a session as an outcome leaves it
abbrev pub session_with : TapeState → Option Halt → SessionState → SessionState
session_with tape halt s = record { tape = tape; halt = halt; breaks = s.breaks }

module _ (s : SessionState) (tape : TapeState) (olds news : List ChipState) (scene : Scene) (at : IsAt s olds scene)
    (halt : is_some s.halt ≡ false) (none : s.halt ≡ None) (taped : IsTaped tape news scene.first) where
  running : (reached scene).stop ≡ None
  running = runs_at s olds scene at none

  unstopped : scene.stopped ≡ false
  unstopped = not_stopped s olds scene at halt

  leads : (outcome : Outcome) → tape ≡ tape_after outcome tape.machine s.tape → tape.machine.chain ≡ s.tape.machine.chain →
      HasReached tape.machine news (turned (reached scene)) → stop_in outcome ≡ (turned (reached scene)).stop →
      IsAt (session_with tape (halt_in outcome) s) news (stepped scene)
  leads (Done wrote steps) is chain there stop =
      let on : IsAt (session_with tape None s) news (with_instruction scene) = record {
        there = subst (λ (r : Reached). HasReached tape.machine news r) (sym (reached_on scene unstopped)) there;
        taped = taped;
        chain = chain ∙ at.chain;
        fill = ap (λ (t : TapeState). t.fill) is ∙ at.fill;
        powers = ap (λ (t : TapeState). t.powers) is ∙ at.powers;
        entries = ap (λ (t : TapeState). t.log.played) is ∙ ap (λ (es : List Entry). es ++ Instruction ∷ []) at.entries;
        stop = stop ∙ sym (ap (λ (r : Reached). r.stop) (reached_on scene unstopped));
        stopped = λ stopped. absurd (let same = sym stopped ∙ unstopped in cc);
        went = λ stopped. absurd (let same = sym stopped ∙ unstopped in cc);
        breaks = at.breaks;
      } in
      subst (λ (there : Scene). IsAt (session_with tape None s) news there)
      (sym (stepped_on scene (sym (ap (λ (o : Option Stop). is_some o) stop)))) on
  leads (Fault fault long steps) is chain there stop =
      let off : IsAt (session_with tape (halt_in (Fault fault long steps)) s) news (with_stop scene) = record {
        there = subst (λ (r : Reached). HasReached tape.machine news r) (sym (reached_off scene unstopped)) there;
        taped = taped;
        chain = chain ∙ at.chain;
        fill = ap (λ (t : TapeState). t.fill) is ∙ at.fill;
        powers = ap (λ (t : TapeState). t.powers) is ∙ at.powers;
        entries = ap (λ (t : TapeState). t.log.played) is ∙ at.entries;
        stop = stop ∙ sym (ap (λ (r : Reached). r.stop) (reached_off scene unstopped));
        stopped = λ stopped. ap (λ (r : Reached). is_some r.stop) (reached_off scene unstopped)
            ∙ sym (ap (λ (o : Option Stop). is_some o) stop);
        went = λ stopped. sym (ap (λ (r : Reached). r.stop) (reached_running scene unstopped)) ∙ running;
        breaks = at.breaks;
      } in
      subst (λ (there : Scene). IsAt (session_with tape (halt_in (Fault fault long steps)) s) news there)
      (sym (stepped_off scene (sym (ap (λ (o : Option Stop). is_some o) stop)))) off
  leads (Reserved address code) is chain there stop =
      let off : IsAt (session_with tape (halt_in (Reserved address code)) s) news (with_stop scene) = record {
        there = subst (λ (r : Reached). HasReached tape.machine news r) (sym (reached_off scene unstopped)) there;
        taped = taped;
        chain = chain ∙ at.chain;
        fill = ap (λ (t : TapeState). t.fill) is ∙ at.fill;
        powers = ap (λ (t : TapeState). t.powers) is ∙ at.powers;
        entries = ap (λ (t : TapeState). t.log.played) is ∙ at.entries;
        stop = stop ∙ sym (ap (λ (r : Reached). r.stop) (reached_off scene unstopped));
        stopped = λ stopped. ap (λ (r : Reached). is_some r.stop) (reached_off scene unstopped)
            ∙ sym (ap (λ (o : Option Stop). is_some o) stop);
        went = λ stopped. sym (ap (λ (r : Reached). r.stop) (reached_running scene unstopped)) ∙ running;
        breaks = at.breaks;
      } in
      subst (λ (there : Scene). IsAt (session_with tape (halt_in (Reserved address code)) s) news there)
      (sym (stepped_off scene (sym (ap (λ (o : Option Stop). is_some o) stop)))) off

  -- ---- what it asks

  -- a tape that goes on has come to where its entries lead
  come_going : (t : TapeState) (mode : TapeMode) → t.mode ≡ mode → come t scene.first ≡ come_by mode (played_from t scene.first)
  come_going t mode same = ap (λ (m : TapeMode). come_by m (played_from t scene.first)) same

  come_first : s.tape.mode ≡ Going → come s.tape scene.first ≡ reached scene
  come_first going = come_going s.tape Going going ∙ entered_is s olds scene at ∙ sym (reached_running scene unstopped)

  -- the place to which a done instruction, or one that met a fault, brings the tape
  come_next : (outcome : Outcome) → s.tape.mode ≡ Going → tape ≡ tape_after outcome tape.machine s.tape →
      IsAt (session_with tape (halt_in outcome) s) news (stepped scene) → stop_in outcome ≡ (turned (reached scene)).stop →
      Refines outcome s.tape.machine tape.machine news (reached scene).position →
      allowed_since_power (come tape scene.first) ≡ allowed_since_power (turned (reached scene))
  come_next (Done wrote steps) going is there stop refines =
      let same : stepped scene ≡ with_instruction scene =
      stepped_on scene (sym (ap (λ (o : Option Stop). is_some o) stop)) in
      let now : IsAt (session_with tape None s) news (with_instruction scene) =
      subst (λ (x : Scene). IsAt (session_with tape None s) news x) same there in
      ap allowed_since_power
      (come_going tape Going (ap (λ (t : TapeState). t.mode) is ∙ going)
      ∙ entered_is (session_with tape None s) news (with_instruction scene) now
      ∙ sym (reached_running (with_instruction scene) unstopped) ∙ reached_on scene unstopped)
  come_next (Fault fault long steps) going is there stop refines =
      let same : stepped scene ≡ with_stop scene =
      stepped_off scene (sym (ap (λ (o : Option Stop). is_some o) stop)) in
      let session = session_with tape (halt_in (Fault fault long steps)) s in
      let now : IsAt session news (with_stop scene) = subst (λ (x : Scene). IsAt session news x) same there in
      ap allowed_since_power
      (come_going tape Faulted (ap (λ (t : TapeState). t.mode) is ∙ ap mode_faulted going)
      ∙ ap turned (entered_is session news (with_stop scene) now) ∙ reached_off scene unstopped)
  come_next (Reserved address code) going is there stop refines =
      let same : stepped scene ≡ with_stop scene =
      stepped_off scene (sym (ap (λ (o : Option Stop). is_some o) stop)) in
      let session = session_with tape (halt_in (Reserved address code)) s in
      let now : IsAt session news (with_stop scene) = subst (λ (x : Scene). IsAt session news x) same there in
      ap allowed_since_power
      (come_going tape Going (ap (λ (t : TapeState). t.mode) is ∙ going)
      ∙ entered_is session news (with_stop scene) now ∙ sym (reached_running scene unstopped))
      ∙ sym (reserved_allowed (reached scene) address code running refines.turns)

  -- ---- an instruction of the tape

  module _ (outcome : Outcome) (is : tape ≡ tape_after outcome tape.machine s.tape)
      (instructs : Instructs outcome s.tape.machine tape.machine olds news) (bytes : HaveBytes (steps_in outcome)) where
    refines : Refines outcome s.tape.machine tape.machine news (reached scene).position
    refines =
        instructs.advances.refines (reached scene).position
        (represents_at s.tape.machine olds (reached scene) at.there running)

    there_at : HasReached tape.machine news (turned (reached scene))
    there_at =
        turned_at s.tape.machine tape.machine olds news (reached scene) at.there running outcome refines instructs.follows bytes

    stop_at : stop_in outcome ≡ (turned (reached scene)).stop
    stop_at = (outcome_is s.tape.machine tape.machine olds news (reached scene) at.there running outcome refines).stop

    pub steps_are : steps_in outcome ≡ next_steps (reached scene)
    steps_are = (outcome_is s.tape.machine tape.machine olds news (reached scene) at.there running outcome refines).steps

    pub turned_to : IsAt (session_with tape (halt_in outcome) s) news (stepped scene)
    turned_to = leads outcome is instructs.follows.chain there_at stop_at

    -- where it stops the session
    pub stops_is : stops scene ≡ is_some (halt_in outcome)
    stops_is = ap (λ (o : Option Stop). is_some o) (sym stop_at) ∙ by outcome
      where
        by : (o : Outcome) → is_some (stop_in o) ≡ is_some (halt_in o)
        by (Done wrote steps) = refl
        by (Fault fault long steps) = refl
        by (Reserved address code) = refl

    pub turn_asked : s.tape.mode ≡ Going → (p q : ℕ) → AsksBetween (come s.tape scene.first) (come tape scene.first) p q →
        q + allowed_since_power (reached scene) ≤ p + allowed_since_power (reached (stepped scene))
    turn_asked going p q asks =
        let first : allowed_since_power (come s.tape scene.first) ≡ allowed_since_power (reached scene) =
        ap allowed_since_power (come_first going) in
        let last : allowed_since_power (come tape scene.first) ≡ allowed_since_power (reached (stepped scene)) =
        come_next outcome going is turned_to stop_at refines
        ∙ sym (ap allowed_since_power (reached_stepped scene unstopped)) in
        subst (λ (b : ℕ). q + allowed_since_power (reached scene) ≤ p + b) last
        (subst (λ (a : ℕ). q + a ≤ p + allowed_since_power (come tape scene.first)) first asks)

    -- whether it met a break, where it is done
    pub met_is : (breaks : Breaks) → breaks ≡ scene.breaks → is_some (halt_in outcome) ≡ false →
        are_met breaks (steps_in outcome) tape.machine.flow.p (probe_counters tape.machine.probe) tape.machine.chain (views news)
        ≡ is_met scene
    met_is breaks same goes =
        meets_is breaks scene.chain (reached scene) (steps_in outcome) tape.machine news there_at runs
        (instructs.follows.chain ∙ at.chain) steps_are
        ∙ ap (λ (b : Breaks). meets_break b scene.chain (reached scene)) same
      where
        none_by : (o : Option Stop) → is_some o ≡ false → o ≡ None
        none_by None e = refl
        none_by (Some stop) e = cc

        runs : (turned (reached scene)).stop ≡ None
        runs = none_by (turned (reached scene)).stop (stops_is ∙ goes)

-- ---- what becomes of the tape

pub kept_spare : (outcome : Outcome) (t tape : TapeState) → tape ≡ tape_after outcome tape.machine t →
    tape.log.spare ≡ t.log.spare
kept_spare (Done wrote steps) t tape is = ap (λ (x : TapeState). x.log.spare) is
kept_spare (Fault fault long steps) t tape is = ap (λ (x : TapeState). x.log.spare) is
kept_spare (Reserved address code) t tape is = ap (λ (x : TapeState). x.log.spare) is

pub kept_left : (outcome : Outcome) (t tape : TapeState) → tape ≡ tape_after outcome tape.machine t → tape.log.left ≡ t.log.left
kept_left (Done wrote steps) t tape is = ap (λ (x : TapeState). x.log.left) is
kept_left (Fault fault long steps) t tape is = ap (λ (x : TapeState). x.log.left) is
kept_left (Reserved address code) t tape is = ap (λ (x : TapeState). x.log.left) is

pub count_most : (outcome : Outcome) (t tape : TapeState) → tape ≡ tape_after outcome tape.machine t →
    instructions_in tape.log.played ≤ instructions_in t.log.played + 1
count_most (Done wrote steps) t tape is =
    let played = ap (λ (x : TapeState). instructions_in x.log.played) is in
    omega (arith, played, instructions-append t.log.played (Instruction ∷ []))
count_most (Fault fault long steps) t tape is =
    let played = ap (λ (x : TapeState). instructions_in x.log.played) is in
    omega (arith, played)
count_most (Reserved address code) t tape is =
    let played = ap (λ (x : TapeState). instructions_in x.log.played) is in
    omega (arith, played)

goes_with : (outcome : Outcome) (t tape : TapeState) → tape ≡ tape_after outcome tape.machine t →
    halt_in outcome ≡ None → tape.mode ≡ t.mode
goes_with (Done wrote steps) t tape is none = ap (λ (x : TapeState). x.mode) is
goes_with (Fault fault long steps) t tape is none = cc
goes_with (Reserved address code) t tape is none = cc

-- all of its entries are played still, and it goes on where nothing stops the session
pub played_with : (outcome : Outcome) (t tape : TapeState) (halt : Option Halt) → tape ≡ tape_after outcome tape.machine t →
    IsPlayed t halt → halt ≡ None → (now : Option Halt) → now ≡ halt_in outcome → IsPlayed tape now
played_with outcome t tape halt is played none now same = record {
  left = kept_left outcome t tape is ∙ played.left;
  goes = λ goes. goes_with outcome t tape is (sym same ∙ goes) ∙ played.goes none;
}

-- ---- what comes of it

abbrev pub came_by : Bool → Bool → Came
came_by halts met = if halts then Stopped else if met then Met else DoneCame

pub came_is : (heeds halts met : Bool) (scene : Scene) → stops scene ≡ halts → (heeds && is_met scene) ≡ met →
    came_by halts met ≡ came_of heeds scene
came_is heeds halts met scene stop meets = sym (ap₂ (λ (h : Bool) (m : Bool). came_by h m) stop meets)

pub none_behind : (p q a b : ℕ) → q + a ≤ p + b → q + a ≤ p + b + 0
none_behind p q a b few = omega arith

pub then_behind : (p q r a b each all : ℕ) → q + a ≤ p + b → r ≤ q + each → each ≡ all → r + a ≤ p + b + all
then_behind p q r a b each all steps few same = omega arith

-- what is asked behind it, by a session there
pub behind_asks : (heeds : Bool) (scene : Scene) (s : SessionState) (states : List ChipState) → IsAt s states (stepped scene) →
    behind_allowed heeds s.breaks s.tape.machine.chain ≡ behind_allowed heeds scene.breaks scene.chain
behind_asks heeds scene s states at =
    ap₂ (λ (breaks : Breaks) (chain : List ℕ). behind_allowed heeds breaks chain) (at.breaks ∙ stepped_breaks scene)
    (at.chain ∙ stepped_chain scene)

-- on a rack that stays
pub still_at : (s : SessionState) (states nows : List ChipState) (scene : Scene) → nows ≡ states → IsAt s states scene →
    IsAt s nows scene
still_at s states nows scene same at = subst (λ (l : List ChipState). IsAt s l scene) (sym same) at
