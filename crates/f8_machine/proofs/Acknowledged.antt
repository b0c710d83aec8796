-- Along the steps by which an interrupt is acknowledged the machine goes as the flat machine with its history does.
use Rattle.std.proofs.Common.{◌≡◌, ℕ, ◌+◌, ◌-◌, ◌/◌, ◌%◌, ◌<◌, true, false, List, [], ◌∷◌, map, refl, sym, ap, ◌∙◌}
use Rattle.std.proofs.Common.{subst, arith}
use Rattle.std.specs.Prelude.{Option, Some, None, option_map, slice_get}
use Rattle.std.specs.List.{list_all}
use Rattle.std.proofs.lemmas.Option.{slice_get-map}
use Rattle.f8_spec.specs.BusArbitration.{Seat, seat_of}
use Rattle.f8_spec.specs.ChipState.{ChipView, ChipState, given_vector}
use Rattle.f8_spec.specs.MicroSteps.{Step, Opcode, NoByte, VectorHigh, VectorLow, short_step, long_step, clocks_along}
use Rattle.f8_spec.specs.MicroSteps.{interrupt_steps}
use Rattle.console_spec.specs.BusTrace.{TracedStep}
use Rattle.console_spec.specs.InterruptChoice.{vector_in, vector_of}
use Rattle.console_spec.specs.InterruptRequests.{Mark, History, with_mark}
use Rattle.console_spec.specs.FlatStep.{with_acknowledged}
use Rattle.console_spec.specs.Processor.{Inputs}
use Rattle.console_spec.specs.Run.{Position, seats_of}
use Rattle.cpu3850.specs.CpuSteps.{bus_step}
use Rattle.probe.specs.ProbeState.{ProbeState}
use Rattle.data_bus.specs.Racks.{NamesAsking, views}
use Rattle.f8_machine.specs.BusSteps.{IsServedBy}
use Rattle.f8_machine.specs.RequestsHeld.{HasRequests, IsInTime}
use Rattle.f8_machine.specs.Vectoring.{IsAcknowledged}
use Rattle.f8_machine.specs.declared.heard.Heard.{Heard}
use Rattle.f8_machine.proofs.Acknowledging.{unasked, copies_unasked, flat_unasked, in_time_acknowledged, ports_unasked}
use Rattle.f8_machine.proofs.Acknowledging.{views_acknowledged, views_unmarked}
use Rattle.f8_machine.proofs.Along.{Aim, Along, history_with}
use Rattle.f8_machine.proofs.Copies.{seats_same}
use Rattle.f8_machine.proofs.Remains.{OnBus, on_bus_by, on_bus_more}
use Rattle.f8_machine.proofs.RequestAnswers.{asking_stays, given_seated}
use Rattle.f8_machine.proofs.PortValues.{writes_stay}
use Rattle.f8_machine.proofs.StepTests.{both_true, is_portless, put_clocks}
use Rattle.f8_machine.proofs.Turns.{ChipsAfter, along_by, behind_by, chips_after_step, idle_ruling, plain_chips, plain_held}
use Rattle.f8_machine.proofs.Turns.{step_small}
use Rattle.f8_machine.proofs.Turns.{spent_later}
use Rattle.f8_machine.proofs.VectorSteps.{IsAskingView, asking_view, high_byte, low_byte}

-- ---- the vector of a chip that asks

-- a chip that asks has ports
ports_of : (ports : Option ℕ) (socket time : ℕ) (h : History) (v : ChipView) → HasRequests ports socket h time v →
    v.request ≡ true → (first : ℕ) × (ports ≡ Some first)
ports_of None socket time h v is asks = let none = is.silent in cc
ports_of (Some first) socket time h v is asks = (first, refl)

module _ (i : Inputs) (x : Position) (aim : Aim) (socket : ℕ) where
  -- its vector is that of the history
  vector_given : {rest : List Step} {probe : ProbeState} {vs : List ChipView} {so_far : List TracedStep}
      (left : Along i x aim rest probe vs so_far) (at : IsAskingView socket vs) →
      given_vector at.chip ≡ vector_of (Some socket) (seats_of x.copies) left.writes
  vector_given left at =
      let asks = both_true at.chip.wired at.chip.request at.asks in
      let first = ports_of at.chip.ports socket left.time _ at.chip
      (left.in_time.requests socket at.chip at.lies) asks.1 in
      let seated : slice_get (seats_of x.copies) socket ≡ Some (seat_of at.chip) =
      ap (λ (l : List Seat). slice_get l socket) (sym (seats_same left.now _ x.copies _ left.copies))
      ∙ slice_get-map seat_of _ socket ∙ ap (option_map seat_of) at.lies in
      given_seated left.time _ _ socket first.0 at.chip left.in_time at.lies first.1
      ∙ ap (λ (o : Option Seat). vector_in o left.writes) (sym seated)

-- where no port is written any more the writes are those at the end
pub writes_are : (i : Inputs) (x : Position) (aim : Aim) (rest : List Step) (probe : ProbeState) (vs : List ChipView)
    (so_far : List TracedStep) (left : Along i x aim rest probe vs so_far) → list_all is_portless rest ≡ true →
    left.writes ≡ aim.writes
writes_are i x aim rest probe vs so_far left portless =
    sym (writes_stay (seats_of x.copies) aim.phi i rest probe.last left.writes portless) ∙ left.writes_later

-- ---- the two steps in which it is given

below : (byte : ℕ) → byte < 256 → byte % 256 ≡ byte
below byte small = omega arith

-- the acknowledgement stands at the end of the second step
acknowledged_now : (i : Inputs) (x : Position) (aim : Aim) (socket : ℕ) → i.chosen ≡ Some socket → (rest : List Step)
    (probe : ProbeState) (vs : List ChipView) (so_far : List TracedStep)
    (left : Along i x aim (long_step 0x13 VectorHigh ∷ rest) probe vs so_far) →
    with_mark socket (left.time + 6) left.acknowledged ≡ with_acknowledged i.chosen aim.phi left.acknowledged
acknowledged_now i x aim socket chosen rest probe vs so_far left =
    let clocks : clocks_along rest ≡ 4 = put_clocks (long_step 0x13 VectorHigh) rest left.late refl in
    let all = spent_later i x aim (long_step 0x13 VectorHigh) rest probe vs so_far left in
    let same : left.time + 6 ≡ aim.phi - 4 = omega (arith, clocks, all) in
    ap (λ (n : ℕ). with_mark socket n left.acknowledged) same
    ∙ ap (λ (o : Option ℕ). with_acknowledged o aim.phi left.acknowledged) (sym chosen)

module _ (i : Inputs) (x : Position) (aim : Aim) (socket : ℕ) (chosen : i.chosen ≡ Some socket) (rest : List Step)
    (probe : ProbeState) (states : List ChipState) (steps : List Heard) where
  -- the low byte
  pub low_given : (left : OnBus i x aim (long_step 0x0F VectorLow ∷ rest) probe states steps) →
      list_all is_portless rest ≡ true → i.vector_low ≡ vector_of (Some socket) (seats_of x.copies) aim.writes % 256 →
      NamesAsking (Some socket) states →
      (probe_now : ProbeState) (states_now : List ChipState) (steps_now : List Heard) (byte : ℕ) →
      IsServedBy (Some socket) (bus_step (long_step 0x0F VectorLow)) 0 probe probe_now states states_now steps steps_now
      byte → OnBus i x aim rest probe_now states_now steps_now
  low_given left portless low names probe_now states_now steps_now byte served =
      let s : Step = long_step 0x0F VectorLow in
      let vs : List ChipView = views states in
      let at : IsAskingView socket vs = asking_view socket states names in
      let same : byte ≡ i.vector_low =
      served.driven ∙ low_byte socket vs at.chip at.lies 0
      ∙ ap (λ (n : ℕ). n % 256) (vector_given i x aim socket left.along at
      ∙ ap (vector_of (Some socket) (seats_of x.copies)) (writes_are i x aim (s ∷ rest) probe vs left.so_far left.along portless)) ∙ sym low in
      let named : Some socket ≡ served.socket = (let is = served.ruling in cc) in
      let now_views : views states_now ≡ chips_after_step s i.vector_low 6 vs =
      views_unmarked 0x0F true (Some socket) byte states states_now refl served.settled
      ∙ ap (λ (b : ℕ). chips_after_step s b 6 vs) same in
      on_bus_by i x aim s rest probe states steps left (Some socket) 0 byte probe_now states_now steps_now same served
      (along_by i x aim s rest probe vs left.so_far left.along served.socket
      (behind_by i x aim s rest probe vs left.so_far false refl left.along served.socket (chosen ∙ named))
      (views states_now)
      (subst (λ (ws : List ChipView). ChipsAfter i x aim s rest probe vs left.so_far left.along ws) (sym now_views)
      (plain_chips i x aim s rest probe vs left.so_far left.along refl None
      (idle_ruling i x aim s rest probe vs left.so_far refl))))

  -- the high byte, with which the request ends
  pub high_given : (left : OnBus i x aim (long_step 0x13 VectorHigh ∷ rest) probe states steps) →
      list_all is_portless rest ≡ true →
      i.vector_high ≡ vector_of (Some socket) (seats_of x.copies) aim.writes / 256 % 256 →
      NamesAsking (Some socket) states →
      (probe_now : ProbeState) (states_now : List ChipState) (steps_now : List Heard) (byte : ℕ) → byte < 256 →
      IsServedBy (Some socket) (bus_step (long_step 0x13 VectorHigh)) 0 probe probe_now states states_now steps
      steps_now byte → OnBus i x aim rest probe_now states_now steps_now
  high_given left portless high names probe_now states_now steps_now byte small served =
      let s : Step = long_step 0x13 VectorHigh in
      let vs : List ChipView = views states in
      let at : IsAskingView socket vs = asking_view socket states names in
      let given : byte ≡ vector_of (Some socket) (seats_of x.copies) aim.writes / 256 =
      served.driven ∙ high_byte socket vs at.chip at.lies 0
      ∙ ap (λ (n : ℕ). n / 256) (vector_given i x aim socket left.along at
      ∙ ap (vector_of (Some socket) (seats_of x.copies)) (writes_are i x aim (s ∷ rest) probe vs left.so_far left.along portless)) in
      let same : byte ≡ i.vector_high = sym (high ∙ ap (λ (n : ℕ). n % 256) (sym given) ∙ below byte small) in
      let named : Some socket ≡ served.socket = (let is = served.ruling in cc) in
      let alike : map unasked (views states_now) ≡ map unasked (chips_after_step s i.vector_high 6 vs) =
      views_acknowledged true (Some socket) byte states states_now served.settled
      ∙ ap (λ (b : ℕ). map unasked (chips_after_step s b 6 vs)) same in
      let idle = idle_ruling i x aim s rest probe vs left.so_far refl in
      let plain = plain_held i x aim s rest probe vs left.so_far left.along None idle in
      on_bus_by i x aim s rest probe states steps left (Some socket) 0 byte probe_now states_now steps_now same served
      (along_by i x aim s rest probe vs left.so_far left.along served.socket
      (behind_by i x aim s rest probe vs left.so_far false refl left.along served.socket (chosen ∙ named))
      (views states_now) (record {
        held = record {
          copies = copies_unasked _ _ x.copies _ _ alike plain.copies;
          flat = flat_unasked _ _ _ alike plain.flat;
          ports = ports_unasked _ _ _ _ alike plain.ports;
        };
        in_time = subst (λ (ms : List Mark). IsInTime (left.along.time + 6)
            (history_with x left.along.writes ms) (views states_now))
            (acknowledged_now i x aim socket chosen rest probe vs left.so_far left.along)
            (in_time_acknowledged true socket byte left.along.time _ states states_now (step_small true)
            served.settled left.along.in_time);
      }))

-- ---- all of them

-- Nothing but the fetch at the vector is left.
module _ (i : Inputs) (x : Position) (aim : Aim) (socket : ℕ) (chosen : i.chosen ≡ Some socket)
    (before after : ProbeState) (olds news : List ChipState) (earlier now : List Heard)
    (is : IsAcknowledged socket before after olds news earlier now) where
  pub acknowledged_on_bus : OnBus i x aim interrupt_steps before olds earlier →
      i.vector_low ≡ vector_of (Some socket) (seats_of x.copies) aim.writes % 256 →
      i.vector_high ≡ vector_of (Some socket) (seats_of x.copies) aim.writes / 256 % 256 →
      NamesAsking (Some socket) olds →
      OnBus i x aim (short_step 0x00 Opcode ∷ []) after news now
  acknowledged_on_bus left low high names =
      let freed = on_bus_more i x aim (long_step 0x10 NoByte) _ before olds earlier left refl 0 is.freed_byte
      is.freed.probe is.freed.states is.freed.steps refl is.first in
      let freed_names = asking_stays (Some socket) 0x10 true None is.freed_byte olds is.freed.states refl refl
      is.first.settled names in
      let idled = on_bus_more i x aim (short_step 0x1C NoByte) _ is.freed.probe is.freed.states is.freed.steps freed refl
      0 is.idled_byte is.idled.probe is.idled.states is.idled.steps refl is.second in
      let idled_names = asking_stays (Some socket) 0x1C false None is.idled_byte is.freed.states is.idled.states refl
      refl is.second.settled freed_names in
      let lowered = low_given i x aim socket chosen _ is.idled.probe is.idled.states is.idled.steps idled refl low
      idled_names is.lowered.probe is.lowered.states is.lowered.steps is.low is.third in
      let lowered_names = asking_stays (Some socket) 0x0F true (Some socket) is.low is.idled.states is.lowered.states
      refl refl is.third.settled idled_names in
      high_given i x aim socket chosen (short_step 0x00 Opcode ∷ []) is.lowered.probe is.lowered.states is.lowered.steps
      lowered refl high lowered_names after news now is.high is.is_byte is.fourth
