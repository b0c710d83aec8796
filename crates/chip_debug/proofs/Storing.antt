-- A session that looked back stands where it stood: all entries were done again, and the instruction that stopped it.
use Rattle.std.proofs.Common.{◌≡◌, ℕ, ◌+◌, ◌*◌, ◌≤◌, Bool, true, false, List, [], ◌++◌, refl, sym, ap, subst, ◌∙◌, arith}
use Rattle.std.proofs.lemmas.List.{append-nil}
use Rattle.std.specs.Prelude.{Option, Some, None, is_some, option_map}
use Rattle.f8_spec.specs.ChipState.{ChipState}
use Rattle.console_spec.specs.Run.{Stop}
use Rattle.f8_machine.specs.HeardSteps.{HaveBytes}
use Rattle.f8_machine.specs.MachineState.{steps_in}
use Rattle.f8_machine.specs.declared.outcome.Outcome.{Outcome}
use Rattle.rack_run.specs.Endings.{stop_of}
use Rattle.rack_run.specs.declared.ending.Halt.{Halt}
use Rattle.rewind.specs.Asking.{AsksBetween, allowed_since_power}
use Rattle.rewind.specs.LogEntries.{LogState, instructions_in}
use Rattle.rewind.specs.Reached.{Reached, turned}
use Rattle.rewind.specs.Tape.{TapeState, AreDone, Instructs, IsTaped, IsUnbegun, begin, come, come_by, entries_of, mode_rewound}
use Rattle.rewind.specs.Tape.{tape_after}
use Rattle.rewind.specs.declared.entry.Entry.{Entry}
use Rattle.rewind.specs.declared.tape_mode.TapeMode.{TapeMode}
use Rattle.rewind.specs.declared.tape_mode.TapeMode.TheVariants.{Faulted, Going, Unbegun}
use Rattle.rewind.proofs.Entries.{instructions-append}
use Rattle.chip_debug.specs.Scenes.{Scene, entered, reached, stepped, stops}
use Rattle.chip_debug.specs.Standing.{SessionState, IsAt, IsPlayed, count_in, halt_in}
use Rattle.chip_debug.specs.Stepping.{upto}
use Rattle.chip_debug.proofs.Halts.{not_stopped, stops_as}
use Rattle.chip_debug.proofs.Placing.{both_none, come_is, placed, played_goes, rewound_unfaulted}
use Rattle.chip_debug.proofs.Returning.{entries_are, tape_again, upto_count}
use Rattle.chip_debug.proofs.SceneLaws.{reached_running, reached_stopped, stepped_off, with_stop}
use Rattle.chip_debug.proofs.Turned.{session_with, turn_asked, turned_to}

-- where as many instructions were played as there are, none is left
pub none_left : (count : ℕ) (old mid : LogState) → count ≡ instructions_in old.played → old.left ≡ [] →
    mid.played ≡ upto count (entries_of old) → mid.played ++ mid.left ≡ entries_of old → instructions_in mid.left ≡ 0
none_left count old mid counts none played all =
    let whole : entries_of old ≡ old.played =
    ap (λ (es : List Entry). old.played ++ es) none ∙ append-nil old.played in
    let many : instructions_in (entries_of old) ≡ count = ap instructions_in whole ∙ sym counts in
    let done : instructions_in mid.played ≡ count =
    ap instructions_in played ∙ upto_count count (entries_of old) (omega (arith, many)) in
    let both : instructions_in (mid.played ++ mid.left) ≡ count = ap instructions_in all ∙ many in
    omega (arith, done, both, instructions-append mid.played mid.left)

-- the events behind the last instruction were played too
abbrev pub tape_finished : TapeState → TapeState → TapeState
tape_finished fin mid = record mid {
  machine = fin.machine;
  log = record mid.log { played = mid.log.played ++ mid.log.left; left = [] };
}

module _ (s : SessionState) (mid fin : TapeState) (again : mid ≡ tape_again mid s.tape)
    (all : mid.log.played ++ mid.log.left ≡ entries_of s.tape.log) (kept : mid.log.spare ≡ s.tape.log.spare)
    (finished : fin ≡ tape_finished fin mid) (was : IsPlayed s.tape s.halt) where
  mode_is : fin.mode ≡ mode_rewound s.tape.mode
  mode_is = ap (λ (t : TapeState). t.mode) finished ∙ ap (λ (t : TapeState). t.mode) again

  pub finished_left : fin.log.left ≡ []
  finished_left = ap (λ (t : TapeState). t.log.left) finished

  pub finished_spare : fin.log.spare ≡ s.tape.log.spare
  finished_spare = ap (λ (t : TapeState). t.log.spare) finished ∙ kept

  pub finished_entries : fin.log.played ≡ s.tape.log.played
  finished_entries =
      ap (λ (t : TapeState). t.log.played) finished ∙ all
      ∙ ap (λ (es : List Entry). s.tape.log.played ++ es) was.left ∙ append-nil s.tape.log.played

  -- a session that nothing stopped goes on
  pub finished_played : IsPlayed fin s.halt
  finished_played = record {
    left = finished_left;
    goes = λ none. mode_is ∙ ap mode_rewound (was.goes none);
  }

  module _ (olds mids : List ChipState) (scene : Scene) (at : IsAt s olds scene) (taped : IsTaped fin mids scene.first)
      (chain : fin.machine.chain ≡ s.tape.machine.chain) where
    -- the scene without its stop
    abbrev before : Scene
    before = record scene { stopped = false }

    unfaulted : (r : Reached) → come_by fin.mode r ≡ r
    unfaulted = subst (λ (m : TapeMode). (r : Reached) → come_by m r ≡ r) (sym mode_is) (rewound_unfaulted s.tape.mode)

    chain_is : fin.machine.chain ≡ scene.chain
    chain_is = chain ∙ at.chain

    fill_is : fin.fill ≡ scene.fill
    fill_is = ap (λ (t : TapeState). t.fill) finished ∙ ap (λ (t : TapeState). t.fill) again ∙ at.fill

    powers_is : fin.powers ≡ scene.powers
    powers_is = ap (λ (t : TapeState). t.powers) finished ∙ ap (λ (t : TapeState). t.powers) again ∙ at.powers

    entries_is : fin.log.played ≡ scene.entries
    entries_is = finished_entries ∙ at.entries

    finished_come : come fin scene.first ≡ reached before
    finished_come =
        come_is (record { tape = fin; halt = None; breaks = s.breaks }) mids before unfaulted taped chain_is fill_is powers_is entries_is refl

    -- where nothing stopped the session it stands there
    pub still_there : s.halt ≡ None → is_some s.halt ≡ false → IsAt (record { tape = fin; halt = s.halt; breaks = s.breaks }) mids scene
    still_there none runs =
        placed (record { tape = fin; halt = s.halt; breaks = s.breaks }) mids scene unfaulted taped chain_is fill_is powers_is entries_is
        (not_stopped s olds scene at runs)
        (ap (option_map stop_of) none
        ∙ sym (played_goes fin mids scene.first taped (mode_is ∙ ap mode_rewound (was.goes none))))
        at.breaks

    -- and so much was asked
    pub still_asks : (p q : ℕ) → is_some s.halt ≡ false → q ≤ p + allowed_since_power (come fin scene.first) →
        q ≤ p + allowed_since_power (reached scene)
    still_asks p q runs few =
        subst (λ (r : Reached). q ≤ p + allowed_since_power r)
        (finished_come ∙ sym (reached_running scene (not_stopped s olds scene at runs))) few

    -- ---- a session that has stopped behind an instruction

    module _ (some : instructions_in s.tape.log.played ≡ 0 → ⊥) (halted : is_some s.halt ≡ true) where
      goes : fin.mode ≡ Going
      goes = mode_is ∙ by s.tape.mode at.taped.entries
        where
          by : (mode : TapeMode) → AreDone mode s.tape.log (begin s.tape scene.first) → mode_rewound mode ≡ Going
          by Going done = refl
          by Faulted done = refl
          by Unbegun done =
              absurd (some (ap instructions_in (both_none s.tape.log.played s.tape.log.left done.none)))

      before_at : IsAt (record { tape = fin; halt = None; breaks = s.breaks }) mids before
      before_at =
          placed (record { tape = fin; halt = None; breaks = s.breaks }) mids before unfaulted taped chain_is fill_is powers_is entries_is
          refl (sym (played_goes fin mids scene.first taped goes)) at.breaks

      stopped : scene.stopped ≡ true
      stopped = by scene.stopped refl
        where
          by : (b : Bool) → scene.stopped ≡ b → scene.stopped ≡ true
          by true is = is
          by false running =
              let same : reached before ≡ reached scene = sym (reached_running scene running) in
              let runs : (reached before).stop ≡ None = sym before_at.stop in
              let none : is_some (reached scene).stop ≡ false =
              ap (λ (r : Reached). is_some r.stop) (sym same) ∙ ap (λ (o : Option Stop). is_some o) runs in
              absurd (let halts = stops_as s olds scene at ∙ halted in cc)

      stops_it : stops before ≡ true
      stops_it =
          ap (λ (r : Reached). is_some r.stop) (sym (reached_stopped scene stopped)) ∙ at.stopped stopped

      stepped_is : stepped before ≡ scene
      stepped_is = stepped_off before stops_it ∙ ap (λ (b : Bool). record scene { stopped = b }) (sym stopped)

      module _ (opt : TapeState) (news : List ChipState) (outcome : Outcome) (is : opt ≡ tape_after outcome opt.machine fin)
          (instructs : Instructs outcome fin.machine opt.machine mids news) (bytes : HaveBytes (steps_in outcome))
          (once_more : IsTaped opt news scene.first) where
        there_again : IsAt (session_with opt (halt_in outcome) (record { tape = fin; halt = None; breaks = s.breaks })) news scene
        there_again =
            subst (λ (x : Scene). IsAt (session_with opt (halt_in outcome) (record { tape = fin; halt = None; breaks = s.breaks })) news x)
            stepped_is
            (turned_to (record { tape = fin; halt = None; breaks = s.breaks }) opt mids news before before_at refl refl once_more outcome is
            instructs bytes)

        pub stopped_there : IsAt (record { tape = opt; halt = s.halt; breaks = s.breaks }) news scene
        stopped_there = record {
          there = there_again.there;
          taped = there_again.taped;
          chain = there_again.chain;
          fill = there_again.fill;
          powers = there_again.powers;
          entries = there_again.entries;
          stop = at.stop;
          stopped = at.stopped;
          went = at.went;
          breaks = at.breaks;
        }

        pub stopped_asks : (p q r : ℕ) → q ≤ p + allowed_since_power (come fin scene.first) →
            AsksBetween (come fin scene.first) (come opt scene.first) q r → r ≤ p + allowed_since_power (reached scene)
        stopped_asks p q r few asks =
            let first : q ≤ p + allowed_since_power (reached before) =
            subst (λ (x : Reached). q ≤ p + allowed_since_power x) finished_come few in
            let more : r + allowed_since_power (reached before) ≤ q + allowed_since_power (reached (stepped before)) =
            turn_asked (record { tape = fin; halt = None; breaks = s.breaks }) opt mids news before before_at refl refl once_more outcome
            is instructs bytes goes q r asks in
            within p q r (allowed_since_power (reached before)) (allowed_since_power (reached scene)) first
            (subst (λ (x : Scene). r + allowed_since_power (reached before) ≤ q + allowed_since_power (reached x)) stepped_is more)
          where
            within : (a b c x y : ℕ) → b ≤ a + x → c + x ≤ b + y → c ≤ a + y
            within a b c x y first more = omega (arith, first, more)

-- where two sessions are at a scene, as many instructions were done in both
pub as_many : (s t : SessionState) (olds news : List ChipState) (scene : Scene) → IsAt s olds scene → IsAt t news scene →
    count_in t ≤ count_in s
as_many s t olds news scene first second =
    let same : count_in t ≡ count_in s = ap instructions_in second.entries ∙ sym (ap instructions_in first.entries) in
    omega (arith, same)

-- so many questions were put until all entries were done again
pub replayed_asks : (p q r a b done : ℕ) → q ≤ p + a + done * 0 → r ≡ q → b ≡ a → r ≤ p + b
replayed_asks p q r a b done few none same = omega (arith, few, none, same)

-- a session that has stopped keeps its stop
pub halted_played : (tape : TapeState) (halt : Option Halt) → tape.log.left ≡ [] → is_some halt ≡ true → IsPlayed tape halt
halted_played tape halt left halted = record {
  left = left;
  goes = λ none. absurd (let runs = ap (λ (o : Option Halt). is_some o) none in cc);
}
