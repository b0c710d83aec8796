-- Instructions of a tape that are done again: where each leads, whether it is looked for, and what is asked.
use Rattle.std.proofs.Common.{◌≡◌, ℕ, zero-add, ◌+◌, ◌*◌, ◌<◌, ◌≤◌, Bool, true, false, IfSome, List}
use Rattle.std.proofs.Common.{[], ◌∷◌, ◌++◌, append_assoc, refl, sym, ap, ap₂, subst, ◌∙◌, arith}
use Rattle.std.specs.Prelude.{◌==◌, ◌&&◌, nat_le, if◌then◌else◌, Option, Some, None}
use Rattle.std.specs.Option.{unwrap_or}
use Rattle.std.specs.List.{list_any}
use Rattle.f8_spec.specs.BusCodes.{Count}
use Rattle.f8_spec.specs.ChipState.{ChipView, ChipState}
use Rattle.console_spec.specs.Processor.{Flow}
use Rattle.data_bus.specs.Racks.{views}
use Rattle.probe.specs.ProbeState.{probe_counters}
use Rattle.f8_machine.specs.MachineState.{steps_in}
use Rattle.f8_machine.specs.Refinement.{Represents}
use Rattle.f8_machine.specs.declared.heard.Heard.{Heard}
use Rattle.f8_machine.specs.declared.outcome.Outcome.{Outcome}
use Rattle.rewind.specs.Asking.{allowed_since_power}
use Rattle.rewind.specs.LogEntries.{LogState, instructions_in}
use Rattle.rewind.specs.Reached.{Reached, next_steps, reached_by, started, turned}
use Rattle.rewind.specs.Standing.{HasReached}
use Rattle.rewind.specs.Tape.{AreDone, Forwards, IsForward, IsTaped, TapeState, begin}
use Rattle.rewind.specs.Tape.{come, come_by, entries_of, is_begun, mode_rewound, played_from}
use Rattle.rewind.specs.declared.entry.Entry.{Entry}
use Rattle.rewind.specs.declared.entry.Entry.TheVariants.{Instruction}
use Rattle.rewind.specs.declared.tape_mode.TapeMode.{TapeMode}
use Rattle.rewind.specs.declared.tape_mode.TapeMode.TheVariants.{Going, Unbegun, Faulted}
use Rattle.rewind.proofs.Entries.{instructions-append}
use Rattle.rewind.proofs.EntriesReached.{on_the_way, reached_both}
use Rattle.chip_debug.specs.declared.breaks.Breaks.{Breaks}
use Rattle.chip_debug.specs.Breaks.{are_met}
use Rattle.chip_debug.specs.Scenes.{meets_break}
use Rattle.chip_debug.specs.Searching.{IsReplayed, is_sought, is_this, last_sought, log_replayed, sought_allowed}
use Rattle.chip_debug.specs.Stepping.{is_store, upto}
use Rattle.chip_debug.specs.declared.replaying.Sought.{Sought}
use Rattle.chip_debug.specs.declared.replaying.Sought.TheVariants.{Nothing, Break, Store}
use Rattle.chip_debug.proofs.MeetLaws.{meets_is}
use Rattle.chip_debug.proofs.Searches.{events_flow, sought_more, upto_of}

-- ---- the tape

-- what a tape has become, of which so many instructions were done again
pub record IsAgain (done : ℕ) (old now : TapeState) : Type 0 where
  pub tape : now ≡ record old { machine = now.machine; log = now.log; mode = mode_rewound old.mode }
  pub log : log_replayed done old.log now.log
  pub counted : instructions_in now.log.played ≡ done
  pub chain : now.machine.chain ≡ old.machine.chain

-- power-on leads to the same place
begun_as : (old now : TapeState) (mode : TapeMode) (first : List ChipView) →
    now ≡ record old { machine = now.machine; log = now.log; mode = mode } → now.machine.chain ≡ old.machine.chain →
    begin now first ≡ begin old first
begun_as old now mode first same chain =
    ap (λ (t : TapeState). started t.fill t.machine.chain t.powers first) same
    ∙ ap (λ (l : List ℕ). started old.fill l old.powers first) chain

-- before all entries no fault has stopped it
come_rewound : (mode : TapeMode) (r : Reached) → come_by (mode_rewound mode) r ≡ r
come_rewound Going r = refl
come_rewound Unbegun r = refl
come_rewound Faulted r = refl

-- ---- rewinding

pub again_first : (old now : TapeState) →
    now ≡ record old {
      machine = now.machine;
      log = record old.log { played = []; left = old.log.played ++ old.log.left };
      mode = mode_rewound old.mode;
    } → now.machine.chain ≡ old.machine.chain → IsAgain 0 old now
again_first old now same chain =
    let log : now.log ≡ record old.log { played = []; left = old.log.played ++ old.log.left } = ap (λ (t : TapeState). t.log) same in
    record {
      tape = same ∙ ap (λ (l : LogState). record old { machine = now.machine; log = l; mode = mode_rewound old.mode }) (sym log);
      log = (
        ap (λ (l : LogState). l.played) log,
        ap (λ (l : LogState). l.played ++ l.left) log,
        ap (λ (l : LogState). l.spare) log,
      );
      counted = ap (λ (l : LogState). instructions_in l.played) log;
      chain = chain;
    }

none_asked : (before after start here each : ℕ) → after ≤ before + start → here ≡ start → after ≤ before + here + 0 * each
none_asked before after start here each few same = omega arith

pub replayed_first : (sought : Sought) (old now : TapeState) (nows : List ChipState) (first : List ChipView) (before after : ℕ) →
    IsAgain 0 old now → IsTaped now nows first → after ≤ before + allowed_since_power (begin old first) →
    IsReplayed sought 0 None old now nows first before after
replayed_first sought old now nows first before after again taped few =
    let here : come now first ≡ begin old first =
    ap (λ (m : TapeMode). come_by m (played_from now first)) (ap (λ (t : TapeState). t.mode) again.tape)
    ∙ come_rewound old.mode (played_from now first)
    ∙ ap (λ (es : List Entry). reached_by es (begin now first)) again.log.0
    ∙ begun_as old now (mode_rewound old.mode) first again.tape again.chain in
    record {
      taped = taped;
      found = refl;
      asked = none_asked before after (allowed_since_power (begin old first)) (allowed_since_power (come now first))
          (sought_allowed sought old.machine.chain) few (ap (λ (r : Reached). allowed_since_power r) here);
    }

-- ---- one instruction more

-- the entries up to it, and behind it
parted : (a left events later : List Entry) → left ≡ events ++ Instruction ∷ later → a ++ left ≡ (a ++ events) ++ Instruction ∷ later
parted a left events later same =
    ap (λ (es : List Entry). a ++ es) same ∙ sym (append_assoc a events (Instruction ∷ later))

counted_up : (a events : List Entry) (done : ℕ) → instructions_in a ≡ done → instructions_in events ≡ 0 →
    done ≡ instructions_in (a ++ events)
counted_up a events done counted none = let both = instructions-append a events in omega arith

one_in : (n done : ℕ) → done ≡ n → n + (0 + 1) ≡ done + 1
one_in n done e = omega arith

pub again_more : (done : ℕ) (old now next : TapeState) → IsAgain done old now → Forwards now.log next.log →
    next ≡ record now { machine = next.machine; log = next.log } → next.machine.chain ≡ now.machine.chain →
    IsAgain (done + 1) old next
again_more done old now next again moves tape chain =
    let up : List Entry = now.log.played ++ moves.events in
    let counted : done ≡ instructions_in up = counted_up now.log.played moves.events done again.counted moves.none in
    let all : entries_of old.log ≡ up ++ Instruction ∷ next.log.left =
    sym again.log.1 ∙ parted now.log.played now.log.left moves.events next.log.left moves.left in
    record {
      tape = tape ∙ ap (λ (t : TapeState). record t { machine = next.machine; log = next.log }) again.tape;
      log = (
        moves.played ∙ sym (upto_of done up next.log.left counted) ∙ ap (λ (es : List Entry). upto (done + 1) es) (sym all),
        ap (λ (es : List Entry). es ++ next.log.left) moves.played ∙ append_assoc up (Instruction ∷ []) next.log.left ∙ sym all,
        moves.spare ∙ again.log.2,
      );
      counted = ap (λ (es : List Entry). instructions_in es) moves.played ∙ instructions-append up (Instruction ∷ [])
          ∙ one_in (instructions_in up) done counted;
      chain = chain ∙ again.chain;
    }

some_left : (played left events later : ℕ) → played + left ≡ 0 → left ≡ events + (later + 1) → ⊥
some_left played left events later none some = omega arith

-- a tape with an instruction left goes on
goes_by : (mode : TapeMode) (log : LogState) (begun : Reached) (events later : List Entry) → AreDone mode log begun →
    log.left ≡ events ++ Instruction ∷ later → mode ≡ Going
goes_by Going log begun events later done left = refl
goes_by Unbegun log begun events later done left =
    absurd (some_left (instructions_in log.played) (instructions_in log.left) (instructions_in events) (instructions_in later)
    (sym (instructions-append log.played log.left) ∙ ap (λ (es : List Entry). instructions_in es) done.none)
    (ap (λ (es : List Entry). instructions_in es) left ∙ instructions-append events (Instruction ∷ later)))
goes_by Faulted log begun events later done left =
    absurd (some_left 0 (instructions_in log.left) (instructions_in events) (instructions_in later)
    (zero-add (instructions_in log.left) ∙ ap (λ (es : List Entry). instructions_in es) done.ended)
    (ap (λ (es : List Entry). instructions_in es) left ∙ instructions-append events (Instruction ∷ later)))

asked_more : (before p q r here there done each own : ℕ) → p ≤ before + here + done * each → q + here ≤ p + there → r ≤ q + own →
    own ≡ each → r ≤ before + there + (done + 1) * each
asked_more before p q r here there done each own so_far steps behind same =
    let more : (done + 1) * each ≡ done * each + each = omega arith in
    omega arith

module _ (done : ℕ) (old now next : TapeState) (again : IsAgain done old now) (outcome : Outcome) (nows nexts : List ChipState)
    (first : List ChipView) (p q : ℕ) (taped : IsTaped now nows first) (forward : IsForward outcome now next nexts first p q)
    (tape : next ≡ record now { machine = next.machine; log = next.log }) (chain : next.machine.chain ≡ now.machine.chain) where
  abbrev up : List Entry
  up = now.log.played ++ forward.moves.events

  -- where the instruction began
  abbrev there : Reached
  there = reached_by up (begin now first)

  begins : begin now first ≡ begin old first
  begins = begun_as old now (mode_rewound old.mode) first again.tape again.chain

  begins_next : begin next first ≡ begin now first
  begins_next = begun_as now next now.mode first tape chain

  going : now.mode ≡ Going
  going = goes_by now.mode now.log (begin now first) forward.moves.events next.log.left taped.entries forward.moves.left

  going_next : next.mode ≡ Going
  going_next = ap (λ (t : TapeState). t.mode) tape ∙ going

  -- ---- before it

  runs_before : (played_from now first).stop ≡ None
  runs_before = on_the_way now.log.played now.log.left (begin now first)
      (subst (λ (m : TapeMode). AreDone m now.log (begin now first)) going taped.entries)

  at_before : HasReached now.machine nows (played_from now first)
  at_before = subst (λ (m : TapeMode). HasReached now.machine nows (come_by m (played_from now first))) going taped.at

  stands_before : Represents now.machine nows (played_from now first).position
  stands_before = rw runs_before at at_before.machine

  -- the data counter with which it begins, since events leave it
  data_before : (probe_counters now.machine.probe).dc0 ≡ there.position.flat.state.flow.d0
  data_before =
      ap (λ (c : Count). c.dc0) stands_before.stands.holds.rack.reference
      ∙ sym (ap (λ (c : Flow). c.d0) (events_flow forward.moves.events (played_from now first) forward.moves.none))
      ∙ sym (ap (λ (r : Reached). r.position.flat.state.flow.d0) (reached_both now.log.played forward.moves.events (begin now first)))

  -- ---- behind it

  led : played_from next first ≡ turned there
  led = ap₂ (λ (es : List Entry) (r : Reached). reached_by es r) forward.moves.played begins_next
      ∙ reached_both up (Instruction ∷ []) (begin now first)

  runs_behind : (turned there).stop ≡ None
  runs_behind = sym (ap (λ (r : Reached). r.stop) led)
      ∙ on_the_way next.log.played next.log.left (begin next first)
      (subst (λ (m : TapeMode). AreDone m next.log (begin next first)) going_next forward.taped.entries)

  at_behind : HasReached next.machine nexts (turned there)
  at_behind = subst (λ (r : Reached). HasReached next.machine nexts r)
      (ap (λ (m : TapeMode). come_by m (played_from next first)) going_next ∙ led) forward.taped.at

  -- ---- what is looked for

  module _ (steps : List Heard) (told : steps ≡ steps_in outcome) where
    steps_are : steps ≡ next_steps there
    steps_are = told ∙ forward.answers.steps

    met_is : (breaks : Breaks) →
        are_met breaks steps next.machine.flow.p (probe_counters next.machine.probe) next.machine.chain (views nexts)
        ≡ meets_break breaks old.machine.chain there
    met_is breaks = meets_is breaks old.machine.chain there steps next.machine nexts at_behind runs_behind (chain ∙ again.chain) steps_are

    -- what was seen of it tells whether it is looked for
    this_is : (sought : Sought) (n at : ℕ) → at ≡ (probe_counters now.machine.probe).dc0 →
        is_this sought n at steps next.machine.flow.p (probe_counters next.machine.probe) next.machine.chain (views nexts)
        ≡ is_sought sought old.machine.chain n there
    this_is Nothing n at begun = refl
    this_is (Break from breaks) n at begun = ap (λ (met : Bool). nat_le from n && met) (met_is breaks)
    this_is (Store wanted) n at begun =
        ap₂ (λ (d0 : ℕ) (hs : List Heard). (d0 == wanted) && list_any is_store hs) (begun ∙ data_before) steps_are

    module _ (sought : Sought) (prior : Option ℕ) (before : ℕ) (replayed : IsReplayed sought done prior old now nows first before p) where
      found_more : last_sought sought old.machine.chain (done + 1) (entries_of old.log) (begin old first)
          ≡ (if is_sought sought old.machine.chain (done + 1) there then Some (done + 1) else prior)
      found_more =
          sought_more sought old.machine.chain up next.log.left (entries_of old.log) (begin old first) done
          (sym again.log.1 ∙ parted now.log.played now.log.left forward.moves.events next.log.left forward.moves.left)
          (counted_up now.log.played forward.moves.events done again.counted forward.moves.none)
          ∙ ap₂ (λ (r : Reached) (o : Option ℕ). if is_sought sought old.machine.chain (done + 1) r then Some (done + 1) else o)
          (ap (λ (r : Reached). reached_by up r) (sym begins)) (sym replayed.found)

      -- it is done again, whether it is looked for or not
      pub replayed_more : (at : ℕ) → at ≡ (probe_counters now.machine.probe).dc0 → (met : Bool) →
          met ≡ is_this sought (done + 1) at steps next.machine.flow.p (probe_counters next.machine.probe) next.machine.chain (views nexts) →
          (answer : Option ℕ) → answer ≡ (if met then Some (done + 1) else prior) → (news : List ChipState) → news ≡ nexts →
          (after : ℕ) → after ≤ q + sought_allowed sought next.machine.chain →
          IsReplayed sought (done + 1) answer old next news first before after
      replayed_more at begun met is answer given news same after few = record {
        taped = subst (λ (states : List ChipState). IsTaped next states first) (sym same) forward.taped;
        found = given ∙ ap (λ (m : Bool). if m then Some (done + 1) else prior) (is ∙ this_is sought (done + 1) at begun) ∙ sym found_more;
        asked = asked_more before p q after (allowed_since_power (come now first)) (allowed_since_power (come next first)) done
            (sought_allowed sought old.machine.chain) (sought_allowed sought next.machine.chain) replayed.asked forward.asked few
            (ap (λ (l : List ℕ). sought_allowed sought l) (chain ∙ again.chain));
      }

-- ---- which it is

-- one that is found is not past a number that is no lower
pub most_by : (found : Option ℕ) (low high : ℕ) → low ≤ high → IfSome found (λ n. n ≤ low) → IfSome found (λ n. n ≤ high)
most_by None low high up within = tt
most_by (Some n) low high up within = omega arith

pub most_more : (met : Bool) (prior answer : Option ℕ) (done : ℕ) → answer ≡ (if met then Some (done + 1) else prior) →
    IfSome prior (λ n. n ≤ done) → IfSome answer (λ n. n ≤ done + 1)
most_more true prior answer done is within = rw is (omega arith)
most_more false prior answer done is within = rw is (most_by prior done (done + 1) (omega arith) within)

-- ---- the end

-- an instruction is left as long as fewer were done again than there are
pub left_more : (done count : ℕ) (old now : TapeState) → IsAgain done old now → done < count →
    count ≤ instructions_in (entries_of old.log) → instructions_in now.log.left ≡ 0 → ⊥
left_more done count old now again more within none =
    all_done done count (instructions_in now.log.played) (instructions_in now.log.left) (instructions_in (entries_of old.log))
    again.counted (sym (instructions-append now.log.played now.log.left) ∙ ap (λ (es : List Entry). instructions_in es) again.log.1)
    more within none
  where
    all_done : (done count played left all : ℕ) → played ≡ done → played + left ≡ all → done < count → count ≤ all → left ≡ 0 → ⊥
    all_done done count played left all counted whole more within none = omega arith

-- ---- going back

begun_rewound : (mode : TapeMode) → is_begun (mode_rewound mode) ≡ is_begun mode
begun_rewound Going = refl
begun_rewound Unbegun = refl
begun_rewound Faulted = refl

-- whether reset was done stays
pub begun_kept : (old now cut : TapeState) (log : LogState) →
    now ≡ record old { machine = now.machine; log = now.log; mode = mode_rewound old.mode } → cut ≡ record now { log = log } →
    is_begun cut.mode ≡ is_begun old.mode
begun_kept old now cut log again is =
    ap (λ (t : TapeState). is_begun t.mode) is ∙ ap (λ (t : TapeState). is_begun t.mode) again ∙ begun_rewound old.mode

none_sought : (before after here there count : ℕ) → after ≤ before + here + count * 0 → there ≡ here → after ≤ before + there
none_sought before after here there count few same = omega arith

-- a tape that is cut is where it was, and nothing was looked for on the way
pub gone_asks : (count : ℕ) (answer : Option ℕ) (old now cut : TapeState) (nows : List ChipState) (first : List ChipView)
    (before after spare : ℕ) → IsReplayed Nothing count answer old now nows first before after →
    cut ≡ record now { log = record { played = now.log.played; left = []; spare = spare } } →
    after ≤ before + allowed_since_power (come cut first)
gone_asks count answer old now cut nows first before after spare replayed is =
    none_sought before after (allowed_since_power (come now first)) (allowed_since_power (come cut first)) count replayed.asked
    (ap (λ (t : TapeState). allowed_since_power (come t first)) is)

-- and so does the instruction that it goes back to
pub place_most : (found : Option ℕ) (most from done : ℕ) → IfSome found (λ n. n ≤ most) → most ≤ done → from ≤ done →
    unwrap_or found from ≤ done
place_most None most from done within less few = few
place_most (Some n) most from done within less few = omega (arith, within, less)
