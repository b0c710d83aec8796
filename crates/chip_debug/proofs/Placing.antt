-- A session is at a scene where its tape has come to where the scene's entries lead.
use Rattle.std.proofs.Common.{◌≡◌, ℕ, ◌+◌, ◌≤◌, Bool, true, false, List, [], ◌∷◌, ◌++◌, refl, sym, ap, ap₂, subst, ◌∙◌, arith}
use Rattle.std.proofs.lemmas.List.{append-nil}
use Rattle.std.specs.Prelude.{if◌then◌else◌, Option, Some, None, is_some, option_map}
use Rattle.f8_spec.specs.ChipState.{ChipView, ChipState}
use Rattle.console_spec.specs.Processor.{State}
use Rattle.console_spec.specs.Run.{Stop}
use Rattle.console_spec.specs.declared.Regs.{Regs}
use Rattle.console_spec.specs.declared.Event.{Event}
use Rattle.f8_machine.specs.declared.outcome.Outcome.{Outcome}
use Rattle.f8_machine.specs.declared.outcome.Outcome.TheVariants.{Done, Fault, Reserved}
use Rattle.f8_machine.specs.MachineState.{MachineState}
use Rattle.rack_run.specs.Endings.{stop_of}
use Rattle.rack_run.specs.Machines.{machine_readout, machine_reads}
use Rattle.rack_run.specs.Turns.{Readout, readout_of, regs_of}
use Rattle.rack_run.specs.declared.ending.Halt.{Halt}
use Rattle.rewind.specs.Asking.{allowed_since_power}
use Rattle.rewind.specs.LogEntries.{instructions_in}
use Rattle.rewind.specs.Reached.{Reached, reached_by, turned}
use Rattle.rewind.specs.Standing.{HasReached, MachineAt}
use Rattle.rewind.specs.Tape.{TapeState, AreDone, IsStartOf, IsTaped, begin, come, come_by, entries_of, is_begun, mode_begun}
use Rattle.rewind.specs.Tape.{mode_rewound, played_from, stop_in}
use Rattle.rewind.specs.declared.entry.Entry.{Entry}
use Rattle.rewind.specs.declared.entry.Entry.TheVariants.{Happens}
use Rattle.rewind.specs.declared.tape_mode.TapeMode.{TapeMode}
use Rattle.rewind.specs.declared.tape_mode.TapeMode.TheVariants.{Faulted, Going, Unbegun}
use Rattle.rewind.proofs.Counting.{begun_count, counted, stopped_count}
use Rattle.rewind.proofs.Entries.{instructions-append}
use Rattle.rewind.proofs.EntriesReached.{on_the_way}
use Rattle.rewind.proofs.ReachedLaws.{represents_at}
use Rattle.chip_debug.specs.Carried.{registers_lines, state_lines, with_breaks}
use Rattle.chip_debug.specs.Scenes.{Scene, begun, entered, happened, has_stopped, reached}
use Rattle.chip_debug.specs.Standing.{SessionState, IsAt, IsPlayed, halt_in}
use Rattle.chip_debug.specs.declared.breaks.Breaks.{Breaks}
use Rattle.chip_debug.proofs.Halts.{halt_told, not_stopped, stops_as}
use Rattle.chip_debug.proofs.SceneLaws.{begin_is, entered_is, reached_running, reached_stopped}

-- ---- a tape that no fault has stopped

-- it has come to where its entries lead
abbrev pub IsUnfaulted : TapeMode → Type 0
IsUnfaulted mode = (r : Reached) → come_by mode r ≡ r

pub going_unfaulted : (mode : TapeMode) → mode ≡ Going → IsUnfaulted mode
going_unfaulted mode going r = ap (λ (m : TapeMode). come_by m r) going

begun_unfaulted : (outcome : Outcome) → IsUnfaulted (mode_begun outcome)
begun_unfaulted (Done wrote steps) r = refl
begun_unfaulted (Fault fault long steps) r = refl
begun_unfaulted (Reserved at code) r = refl

pub rewound_unfaulted : (mode : TapeMode) → IsUnfaulted (mode_rewound mode)
rewound_unfaulted Going r = refl
rewound_unfaulted Unbegun r = refl
rewound_unfaulted Faulted r = refl

-- what was played goes on, where all entries do
pub played_goes : (t : TapeState) (states : List ChipState) (first : List ChipView) → IsTaped t states first → t.mode ≡ Going →
    (played_from t first).stop ≡ None
played_goes t states first taped going =
    let done : AreDone Going t.log (begin t first) =
    subst (λ (m : TapeMode). AreDone m t.log (begin t first)) going taped.entries in
    on_the_way t.log.played t.log.left (begin t first) done

-- ---- the session of such a tape

module _ (s : SessionState) (states : List ChipState) (scene : Scene) (unfaulted : IsUnfaulted s.tape.mode)
    (taped : IsTaped s.tape states scene.first) (chain : s.tape.machine.chain ≡ scene.chain) (fill : s.tape.fill ≡ scene.fill)
    (powers : s.tape.powers ≡ scene.powers) (entries : s.tape.log.played ≡ scene.entries) (running : scene.stopped ≡ false) where
  played_is : played_from s.tape scene.first ≡ entered scene
  played_is = ap₂ (λ (es : List Entry) (r : Reached). reached_by es r) entries (begin_is s.tape scene chain fill powers)

  pub come_is : come s.tape scene.first ≡ reached scene
  come_is = unfaulted (played_from s.tape scene.first) ∙ played_is ∙ sym (reached_running scene running)

  pub placed : option_map stop_of s.halt ≡ (played_from s.tape scene.first).stop → s.breaks ≡ scene.breaks → IsAt s states scene
  placed stop breaks = record {
    there = subst (λ (r : Reached). HasReached s.tape.machine states r) come_is taped.at;
    taped = taped;
    chain = chain;
    fill = fill;
    powers = powers;
    entries = entries;
    stop = stop ∙ ap (λ (r : Reached). r.stop) (played_is ∙ sym (reached_running scene running));
    stopped = λ stopped. absurd (let same = sym stopped ∙ running in cc);
    went = λ stopped. absurd (let same = sym stopped ∙ running in cc);
    breaks = breaks;
  }

-- ---- power-on and reset

goes_on : (outcome : Outcome) → halt_in outcome ≡ None → mode_begun outcome ≡ Going
goes_on (Done wrote steps) none = refl
goes_on (Fault fault long steps) none = cc
goes_on (Reserved at code) none = cc

module _ (s : SessionState) (outcome : Outcome) (mode : s.tape.mode ≡ mode_begun outcome) (halt : s.halt ≡ halt_in outcome)
    (played : s.tape.log.played ≡ []) (left : s.tape.log.left ≡ []) where
  pub begun_played : IsPlayed s.tape s.halt
  begun_played = record { left = left; goes = λ none. mode ∙ goes_on outcome (sym halt ∙ none) }

  -- it is at a scene without entries
  pub begun_at : (states : List ChipState) (scene : Scene) → IsTaped s.tape states scene.first →
      IsStartOf outcome (begin s.tape scene.first) → s.tape.machine.chain ≡ scene.chain → s.tape.fill ≡ scene.fill →
      s.tape.powers ≡ scene.powers → scene.entries ≡ [] → scene.stopped ≡ false → s.breaks ≡ scene.breaks → IsAt s states scene
  begun_at states scene taped is chain fill powers none running breaks =
      placed s states scene (subst (λ (m : TapeMode). IsUnfaulted m) (sym mode) (begun_unfaulted outcome)) taped chain fill powers
      (played ∙ sym none) running
      (ap (option_map stop_of) halt ∙ halt_told outcome ∙ is.stop
      ∙ sym (ap (λ (es : List Entry). (reached_by es (begin s.tape scene.first)).stop) played))
      breaks

-- so many questions were put until then
pub begun_asks : (p q : ℕ) (t : TapeState) (scene : Scene) → t.machine.chain ≡ scene.chain → t.fill ≡ scene.fill →
    t.powers ≡ scene.powers → scene.entries ≡ [] → scene.stopped ≡ false → q ≤ p + allowed_since_power (begin t scene.first) →
    q ≤ p + allowed_since_power (reached scene)
begun_asks p q t scene chain fill powers none running few =
    let same : begin t scene.first ≡ reached scene =
    begin_is t scene chain fill powers
    ∙ sym (ap (λ (es : List Entry). reached_by es (begun scene)) none) ∙ sym (reached_running scene running) in
    subst (λ (r : Reached). q ≤ p + allowed_since_power r) same few

-- ---- an event

-- a scene that goes on with an event more
abbrev pub with_event : Event → Scene → Scene
with_event event scene = record scene { entries = scene.entries ++ Happens event ∷ [] }

-- a session that has stopped takes none
pub happened_not : (s : SessionState) (states : List ChipState) (event : Event) (scene : Scene) → IsAt s states scene →
    is_some s.halt ≡ true → happened event scene ≡ scene
happened_not s states event scene at halted = rw (stops_as s states scene at ∙ halted) refl

-- and one that goes on keeps it with the entries
module _ (s after : SessionState) (olds news : List ChipState) (event : Event) (scene : Scene) (at : IsAt s olds scene)
    (none : s.halt ≡ None) (runs : is_some s.halt ≡ false) (going : s.tape.mode ≡ Going)
    (taped : IsTaped after.tape news scene.first) (chain : after.tape.machine.chain ≡ s.tape.machine.chain)
    (fill : after.tape.fill ≡ s.tape.fill) (powers : after.tape.powers ≡ s.tape.powers) (mode : after.tape.mode ≡ s.tape.mode)
    (played : after.tape.log.played ≡ s.tape.log.played ++ Happens event ∷ []) (halt : after.halt ≡ s.halt)
    (breaks : after.breaks ≡ s.breaks) where
  pub happened_at : IsAt after news (happened event scene)
  happened_at =
      let goes : has_stopped scene ≡ false = stops_as s olds scene at ∙ runs in
      let is : happened event scene ≡ with_event event scene = rw goes refl in
      subst (λ (x : Scene). IsAt after news x) (sym is)
      (placed after news (with_event event scene) (going_unfaulted after.tape.mode (mode ∙ going)) taped (chain ∙ at.chain)
      (fill ∙ at.fill) (powers ∙ at.powers) (played ∙ ap (λ (es : List Entry). es ++ Happens event ∷ []) at.entries)
      (not_stopped s olds scene at runs)
      (ap (option_map stop_of) (halt ∙ none) ∙ sym (played_goes after.tape news scene.first taped (mode ∙ going)))
      (breaks ∙ at.breaks))

-- and no instruction is added
pub event_uncounted : (before after : List Entry) (event : Event) → after ≡ before ++ Happens event ∷ [] →
    instructions_in after ≡ instructions_in before
event_uncounted before after event is = let more = ap instructions_in is in omega (arith, more, instructions-append before (Happens event ∷ []))

-- ---- breaks

-- breaks change nothing else
pub breaks_set : (s : SessionState) (states : List ChipState) (scene : Scene) → IsAt s states scene → (now set : Breaks) → now ≡ set →
    IsAt (record s { breaks = now }) states (with_breaks set scene)
breaks_set s states scene at now set same = record {
  there = at.there;
  taped = at.taped;
  chain = at.chain;
  fill = at.fill;
  powers = at.powers;
  entries = at.entries;
  stop = at.stop;
  stopped = at.stopped;
  went = at.went;
  breaks = same;
}

-- ---- what it tells

pub both_none : {A : Type 0} (a b : List A) → a ++ b ≡ [] → a ≡ []
both_none [] b none = refl
both_none (x ∷ a) b none = cc

-- the instructions that were done are those that the flat machine has counted
module _ (s : SessionState) (states : List ChipState) (scene : Scene) (at : IsAt s states scene) where
  begun_none : (begin s.tape scene.first).position.flat.state.count ≡ 0
  begun_none = begun_count s.tape.fill s.tape.machine.chain s.tape.powers scene.first

  played_count : (t : TapeState) → t ≡ s.tape → (played_from t scene.first).stop ≡ None →
      (played_from s.tape scene.first).position.flat.state.count ≡ instructions_in s.tape.log.played
  played_count t same goes =
      let runs : (played_from s.tape scene.first).stop ≡ None = ap (λ (x : TapeState). (played_from x scene.first).stop) (sym same) ∙ goes in
      let all = counted s.tape.log.played (begin s.tape scene.first) runs in
      let none = begun_none in
      omega (arith, all, none)

  by_mode : (mode : TapeMode) → AreDone mode s.tape.log (begin s.tape scene.first) →
      (played_from s.tape scene.first).position.flat.state.count ≡ instructions_in s.tape.log.played
  by_mode Going done =
      played_count s.tape refl (on_the_way s.tape.log.played s.tape.log.left (begin s.tape scene.first) done)
  by_mode Unbegun done =
      let none : s.tape.log.played ≡ [] = both_none s.tape.log.played s.tape.log.left done.none in
      ap (λ (es : List Entry). (reached_by es (begin s.tape scene.first)).position.flat.state.count) none
      ∙ begun_none ∙ sym (ap instructions_in none)
  by_mode Faulted done = played_count s.tape refl done.goes

  pub count_is : (reached scene).position.flat.state.count ≡ instructions_in s.tape.log.played
  count_is = by scene.stopped refl
    where
      by : (b : Bool) → scene.stopped ≡ b → (reached scene).position.flat.state.count ≡ instructions_in s.tape.log.played
      by true stopped =
          let there : reached scene ≡ turned (entered scene) = reached_stopped scene stopped in
          ap (λ (r : Reached). r.position.flat.state.count) there
          ∙ stopped_count (entered scene) (at.went stopped)
          (sym (ap (λ (r : Reached). is_some r.stop) there) ∙ at.stopped stopped)
          ∙ sym (ap (λ (r : Reached). r.position.flat.state.count) (entered_is s states scene at))
          ∙ by_mode s.tape.mode at.taped.entries
      by false running =
          ap (λ (r : Reached). r.position.flat.state.count) (reached_running scene running ∙ sym (entered_is s states scene at))
          ∙ by_mode s.tape.mode at.taped.entries

-- and its registers are the flat machine's
pub reads_at : (m : MachineState) (states : List ChipState) (r : Reached) → HasReached m states r →
    machine_readout m ≡ readout_of r.position.flat.state
reads_at m states r at = by r.stop refl
  where
    by : (stop : Option Stop) → r.stop ≡ stop → machine_readout m ≡ readout_of r.position.flat.state
    by None running = machine_reads m states r.position (represents_at m states r at running)
    by (Some stop) stops =
        let stopped : MachineAt (Some stop) m states r.position =
        subst (λ (o : Option Stop). MachineAt o m states r.position) stops at.machine in
        stopped.reads

-- so they are told
pub regs_told : (state : State) (m : MachineState) (regs : Regs) (count phi : ℕ) → regs ≡ regs_of (machine_readout m) →
    machine_readout m ≡ readout_of state → count ≡ state.count → phi ≡ m.phi → registers_lines regs count phi ≡ state_lines state
regs_told state m regs count phi told reads counts clocks =
    ap₂ (λ (r : Regs) (n : ℕ). registers_lines r n phi) told counts
    ∙ ap (λ (n : ℕ). registers_lines (regs_of (machine_readout m)) state.count n) clocks
    ∙ ap (λ (r : Readout). registers_lines (regs_of r) state.count r.phi) reads
