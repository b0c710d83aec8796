-- What becomes of the chips of a rack up to a place in the trace, and what they have been asked.
use Rattle.std.proofs.Common.{◌≡◌, ℕ, ◌+◌, ◌*◌, ◌≤◌, Bool, List, [], ◌∷◌, ◌++◌, length, map, drop, refl, ◌∙◌, ap, sym, subst, arith}
use Rattle.std.proofs.Common.{append_assoc, append-nil, filter, length-append, ◌<◌, Some, inl, inr}
use Rattle.std.proofs.lemmas.List.{map-append}
use Rattle.std.proofs.lemmas.Grind.{flat_map-append}
use Rattle.std.specs.List.{list_any}
use Rattle.f8_spec.specs.ChipState.{ChipState}
use Rattle.f8_spec.specs.MicroSteps.{reset_steps}
use Rattle.console_spec.specs.BusTrace.{TracedStep}
use Rattle.console_spec.specs.Telling.{Moment}
use Rattle.console_spec.specs.declared.Event.{Event}
use Rattle.data_bus.specs.KnownAgreement.{no_marks, parts}
use Rattle.data_bus.specs.PageIndex.{seats}
use Rattle.data_bus.specs.declared.index.Index.{Index}
use Rattle.data_bus.specs.declared.marks.Marks.{Marks}
use Rattle.f8_machine.specs.MachineState.{MachineState}
use Rattle.f8_machine.specs.Questions.{allowances, allowed}
use Rattle.f8_machine.specs.Rounds.{RackPowers}
use Rattle.f8_machine.specs.declared.record.TheConstants.{MOST_HEARD}
use Rattle.f8_machine.proofs.RackLaws.{rack_runs_none}
use Rattle.rack_run.specs.Asking.{AsksOn, AsksWithin, heard_codes, run_allowed, served_codes}
use Rattle.rack_run.specs.Lives.{Come, Lives}
use Rattle.rack_run.proofs.AskingLaws.{heard_codes-more}
use Rattle.rack_run.proofs.LifeLaws.{lives_then}
use Rattle.bus_audit.specs.Audits.{Hears, BeginsBy, EndsBy, Beginning, Audits, LeavesNone, LivesUpTo, LivesSoFar, LivesBy, TakeFromPower}
use Rattle.bus_audit.specs.Audits.{heard_steps, is_outer}
use Rattle.bus_audit.specs.Inputs.{Comes}
use Rattle.bus_audit.specs.PlainSteps.{plain, plain_fault}
use Rattle.bus_audit.specs.ReadInputs.{read_key, read_inputs}
use Rattle.bus_audit.specs.declared.answers.AuditAnswer.{AuditAnswer}
use Rattle.bus_audit.specs.declared.answers.AuditAnswer.TheVariants.{Accept, Reject}
use Rattle.bus_audit.specs.declared.matching.Turn.{Turn}
use Rattle.bus_audit.specs.declared.matching.Turn.TheVariants.{Onward, Over}
use Rattle.bus_audit.specs.declared.step.TraceStep.{TraceStep}
use Rattle.bus_audit.proofs.AuditLaws.{drop_more}
use Rattle.bus_audit.proofs.ComingLaws.{comes_then}
use Rattle.bus_audit.proofs.TakenLaws.{outer_behind, outer_read, rest_behind, taken_more, taken_reset}

abbrev moment_with : List TracedStep → List Event → Moment
moment_with steps events = record { heard = steps; told = []; events = events }

-- ---- asked one after another

asks_more : (most mid left : List ℕ → ℕ) (p q r : ℕ) (codes more : List ℕ) → AsksOn most mid p q codes → AsksOn mid left q r more →
    AsksOn most left p r (codes ++ more)
asks_more most mid left p q r codes more first next = record {
  whatever = λ later.
      let one = first.whatever (more ++ later) in
      let two = next.whatever later in
      let both : most ((codes ++ more) ++ later) ≡ most (codes ++ (more ++ later)) = ap most (append_assoc codes more later) in
      omega (arith, one, two, both);
}

asks_to_end : (most mid : List ℕ → ℕ) (p q r : ℕ) (codes more : List ℕ) → AsksOn most mid p q codes → AsksWithin mid q r more →
    AsksWithin most p r (codes ++ more)
asks_to_end most mid p q r codes more first last = let one = first.whatever more in omega (arith, one, last)

heard_more : (ms : List Moment) (m : Moment) → heard_steps (ms ++ m ∷ []) ≡ heard_steps ms ++ m.heard
heard_more ms m =
    flat_map-append (λ (k : Moment). k.heard) ms (m ∷ [])
    ∙ ap (λ (steps : List TracedStep). heard_steps ms ++ steps) (append-nil m.heard)

at_least_two : (n k : ℕ) → n ≡ k + 1 → 1 ≤ k → 2 ≤ n
at_least_two n k is some = omega (arith, is, some)

-- ---- what an answer leaves

ends_all : (answer : AuditAnswer) (rest : List TraceStep) → rest ≡ [] → EndsBy answer [] rest
ends_all (Accept count) rest none = none
ends_all (Reject line) rest none = tt

ends_tried : (answer : AuditAnswer) (told : ℕ) (m : Moment) (rest : List TraceStep) → BeginsBy (Over told) (map plain m.heard) rest →
    LeavesNone answer rest told → EndsBy answer (m ∷ []) rest
ends_tried (Reject line) told m rest begins leaves = tt
ends_tried (Accept count) told m rest (inl none) leaves =
    let nothing : rest ≡ [] = subst (λ (n : ℕ). drop n rest ≡ []) none leaves.1 in
    let size : length rest ≡ 0 = ap (λ (l : List TraceStep). length l) nothing in
    absurd (omega (arith, size, leaves.0))
ends_tried (Accept count) told m rest (inr cut) leaves = (
  cut.0,
  sym cut.1 ∙ ap (λ (l : List TraceStep). map plain m.heard ++ (plain_fault (Some cut.0) ++ l)) leaves.1,
)

-- ---- power-on, and what comes before reset

unknown : (chips : ℕ) (states : List ChipState) (index : Index) (codes : List ℕ) → chips ≡ length states → index.marks ≡ no_marks →
    index.is_parted ≡ list_any parts (seats states) →
    allowances chips index codes ≡ allowed (length states) (list_any parts (seats states)) no_marks codes
unknown chips states index codes size marks parted =
    ap (λ (n : ℕ). allowed n index.is_parted index.marks codes) size
    ∙ ap (λ (b : Bool). allowed (length states) b index.marks codes) parted
    ∙ ap (λ (m : Marks). allowed (length states) (list_any parts (seats states)) m codes) marks

-- the chips of a rack that was powered, with the inputs before reset
module _ (first : Beginning) (powered owns nows : List ChipState) (chips now : ℕ) (m0 m1 m2 : MachineState) (own key : List Event) where
  pub lives_begun : RackPowers first.power first.chain first.powers first.fitted powered → chips ≡ length first.fitted →
      m0.index.marks ≡ no_marks → m0.index.is_parted ≡ list_any parts (seats first.fitted) → m0.chain ≡ first.chain →
      now ≤ first.asked + 512 * chips → Comes m0 m1 powered owns own → Comes m1 m2 owns nows key →
      filter is_outer own ≡ [] → filter is_outer key ≡ key → key ≡ read_key (drop (length reset_steps) first.trace) →
      (lives : LivesUpTo first 0 chips m2.index nows now) × (length lives.moments ≡ 1)
  lives_begun power_on size marks parted chain few one two none all read =
      let both : Comes m0 m2 powered nows (own ++ key) = comes_then m0 m1 m2 powered owns nows own key one two in (
        record {
          powered = powered;
          power_on = power_on;
          moments = moment_with [] (own ++ key) ∷ [];
          lived = (
            nows,
            record {
              between = powered;
              heard = rack_runs_none 0 powered;
              came = subst (λ (sockets : List ℕ). Come sockets (own ++ key) powered nows) chain both.came;
            },
            refl,
          );
          told = refl;
          taken = (refl, outer_behind own key none all ∙ read, tt);
          asks = record {
            whatever = λ later.
                let alike =
                unknown chips first.fitted m2.index later size (ap (λ (i : Index). i.marks) both.index ∙ marks)
                (ap (λ (i : Index). i.is_parted) both.index ∙ parted) in
                let rooms : 512 * chips ≡ 512 * length first.fitted = ap (λ (n : ℕ). 512 * n) size in
                omega (arith, few, alike, rooms);
          };
        },
        refl,
      )

module _ (first : Beginning) (count chips : ℕ) (index : Index) (states : List ChipState) (now : ℕ)
    (so_far : LivesUpTo first count chips index states now) where
  -- reset or an instruction whose steps are the next of the trace, and what comes behind it
  onward : (told later_now : ℕ) (later : Index) (mids news : List ChipState) (events : List Event) →
      (hears : Hears (Onward told) chips index later states mids now later_now (drop count first.trace)) → Come first.chain events mids news →
      TakeFromPower first.chain (so_far.moments ++ moment_with hears.steps events ∷ []) first.trace →
      (lives : LivesUpTo first (count + told) chips later news later_now) × (length lives.moments ≡ length so_far.moments + 1)
  onward told later_now later mids news events hears came taken =
      let trace = first.trace in
      let moment = moment_with hears.steps events in
      let all : map plain (heard_steps (so_far.moments ++ moment ∷ [])) ++ drop (count + told) trace ≡ trace =
      ap (λ (steps : List TracedStep). map plain steps ++ drop (count + told) trace) (heard_more so_far.moments moment)
      ∙ ap (λ (l : List TraceStep). l ++ drop (count + told) trace) (map-append plain (heard_steps so_far.moments) hears.steps)
      ∙ append_assoc (map plain (heard_steps so_far.moments)) (map plain hears.steps) (drop (count + told) trace)
      ∙ ap (λ (l : List TraceStep). map plain (heard_steps so_far.moments) ++ (map plain hears.steps ++ l)) (sym (drop_more count told trace))
      ∙ ap (λ (l : List TraceStep). map plain (heard_steps so_far.moments) ++ l) hears.begins
      ∙ so_far.told in
      let more : length (so_far.moments ++ moment ∷ []) ≡ length so_far.moments + 1 = length-append so_far.moments (moment ∷ []) in (
        record {
          powered = so_far.powered;
          power_on = so_far.power_on;
          moments = so_far.moments ++ moment ∷ [];
          lived =
              lives_then first.chain so_far.moments moment so_far.powered states news so_far.lived
              (record { between = mids; heard = hears.ran; came = came });
          told = all;
          taken = taken;
          asks =
              subst (AsksOn (run_allowed first.fitted) (λ codes. allowances chips later codes) first.asked later_now)
              (sym (heard_codes-more so_far.moments moment))
              (asks_more (run_allowed first.fitted) (λ codes. allowances chips index codes) (λ codes. allowances chips later codes) first.asked now
              later_now (heard_codes so_far.moments) (served_codes hears.steps) so_far.asks hears.asks);
        },
        more,
      )

  -- the audit ends behind it
  pub audits_all : (answer : AuditAnswer) → drop count first.trace ≡ [] → Audits first answer states now
  audits_all answer none = record {
    powered = so_far.powered;
    power_on = so_far.power_on;
    moments = so_far.moments;
    rest = drop count first.trace;
    told = so_far.told;
    taken = so_far.taken;
    tried = [];
    one = omega arith;
    short = omega arith;
    still = refl;
    ends = ends_all answer (drop count first.trace) none;
    lived = subst (λ (ms : List Moment). Lives first.chain ms so_far.powered states) (sym (append-nil so_far.moments)) so_far.lived;
    unserved = [];
    most = omega arith;
    asks =
        subst (λ (ms : List Moment). AsksWithin (run_allowed first.fitted) first.asked now (heard_codes ms ++ [])) (sym (append-nil so_far.moments))
        (let end = so_far.asks.whatever [] in omega (arith, end));
  }

  -- or where the run is over in it
  over : (told later_now : ℕ) (later : Index) (news : List ChipState) →
      Hears (Over told) chips index later states news now later_now (drop count first.trace) →
      (answer : AuditAnswer) → LeavesNone answer (drop count first.trace) told → Audits first answer news later_now
  over told later_now later news hears answer leaves =
      let moment = moment_with hears.steps [] in
      record {
        powered = so_far.powered;
        power_on = so_far.power_on;
        moments = so_far.moments;
        rest = drop count first.trace;
        told = so_far.told;
        taken = so_far.taken;
        tried = moment ∷ [];
        one = omega arith;
        short = subst (λ (steps : List TracedStep). length steps ≤ MOST_HEARD) (sym (append-nil hears.steps)) hears.short;
        still = refl;
        ends = ends_tried answer told moment (drop count first.trace) hears.begins leaves;
        lived =
            lives_then first.chain so_far.moments moment so_far.powered states news so_far.lived
            (record { between = news; heard = hears.ran; came = refl });
        unserved = hears.asks.0;
        most = hears.asks.1;
        asks =
            subst (λ (codes : List ℕ). AsksWithin (run_allowed first.fitted) first.asked later_now codes)
            (sym (append_assoc (heard_codes so_far.moments) (served_codes hears.steps) hears.asks.0)
            ∙ ap (λ (codes : List ℕ). codes ++ hears.asks.0) (sym (heard_codes-more so_far.moments moment)))
            (asks_to_end (run_allowed first.fitted) (λ codes. allowances chips index codes) first.asked now later_now (heard_codes so_far.moments)
            (served_codes hears.steps ++ hears.asks.0) so_far.asks hears.asks.2);
      }

  -- ---- as the machine's calls say it

  -- reset, behind power-on
  pub lives_reset : length so_far.moments ≡ 1 → (turn : Turn) (later_chips later_now : ℕ) (later : Index) (news : List ChipState)
      (rest : List TraceStep) → rest ≡ drop count first.trace → later_chips ≡ chips →
      Hears turn chips index later states news now later_now rest → LivesBy turn first count later_chips later news later_now
  lives_reset single (Onward told) later_chips later_now later news rest same size hears =
      let heard : Hears (Onward told) chips index later states news now later_now (drop count first.trace) =
      subst (λ (l : List TraceStep). Hears (Onward told) chips index later states news now later_now l) same hears in
      let moment = moment_with heard.steps [] in
      let next = onward told later_now later news news [] heard refl
      (taken_reset first.chain moment so_far.moments first.trace single so_far.taken refl) in
      subst (λ (n : ℕ). LivesSoFar first (count + told) n later news later_now) (sym size)
      (next.0, at_least_two (length next.0.moments) (length so_far.moments) next.1 (omega (arith, single)))
  lives_reset single (Over told) later_chips later_now later news rest same size hears =
      over told later_now later news (subst (λ (l : List TraceStep). Hears (Over told) chips index later states news now later_now l) same hears)

  -- a turn that does not go on
  pub lives_over : (turn : Turn) → ((told : ℕ) → turn ≡ Onward told → ⊥) → (later_chips later_now : ℕ) (later : Index) (news : List ChipState)
      (rest : List TraceStep) → rest ≡ drop count first.trace → Hears turn chips index later states news now later_now rest →
      LivesBy turn first count later_chips later news later_now
  lives_over (Onward told) never later_chips later_now later news rest same hears = absurd (never told refl)
  lives_over (Over told) never later_chips later_now later news rest same hears =
      over told later_now later news (subst (λ (l : List TraceStep). Hears (Over told) chips index later states news now later_now l) same hears)

  -- one that goes on, with inputs behind it
  pub lives_read : 2 ≤ length so_far.moments → (told later_chips mid_now later_now : ℕ) (m1 m2 m3 : MachineState) (mids owns news : List ChipState)
      (own : List Event) (part rest : List TraceStep) → rest ≡ drop count first.trace → part ≡ drop told rest → later_chips ≡ chips →
      later_now ≡ mid_now → m1.chain ≡ first.chain → filter is_outer own ≡ [] → Hears (Onward told) chips index m1.index states mids now mid_now rest →
      Comes m1 m2 mids owns own → Comes m2 m3 owns news (read_inputs m2.chain part) →
      LivesSoFar first (count + told) later_chips m3.index news later_now
  lives_read two told later_chips mid_now later_now m1 m2 m3 mids owns news own part rest same part_is size questions chain none hears one next =
      let read = read_inputs m2.chain part in
      let both : Comes m1 m3 mids news (own ++ read) = comes_then m1 m2 m3 mids owns news own read one next in
      let here = drop count first.trace in
      let heard : Hears (Onward told) chips index m1.index states mids now mid_now here =
      subst (λ (l : List TraceStep). Hears (Onward told) chips index m1.index states mids now mid_now l) same hears in
      let moment = moment_with heard.steps (own ++ read) in
      let at : drop (length (heard_steps so_far.moments)) first.trace ≡ here =
      rest_behind (heard_steps so_far.moments) here first.trace so_far.told in
      let left : drop (length heard.steps) here ≡ drop told here = rest_behind heard.steps (drop told here) here heard.begins in
      let reads : filter is_outer (own ++ read) ≡ read_inputs first.chain (drop (length heard.steps) here) =
      outer_behind own read none (outer_read m2.chain part)
      ∙ ap (λ (sockets : List ℕ). read_inputs sockets part) (one.chain ∙ chain)
      ∙ ap (λ (l : List TraceStep). read_inputs first.chain l) (part_is ∙ ap (λ (l : List TraceStep). drop told l) same ∙ sym left) in
      let behind = onward told mid_now m1.index mids news (own ++ read) heard
      (subst (λ (sockets : List ℕ). Come sockets (own ++ read) mids news) chain both.came)
      (taken_more first.chain moment here so_far.moments first.trace two at so_far.taken reads) in
      subst (λ (n : ℕ). LivesSoFar first (count + told) n m3.index news later_now) (sym size)
      (subst (λ (n : ℕ). LivesSoFar first (count + told) chips m3.index news n) (sym questions)
      (subst (λ (i : Index). LivesSoFar first (count + told) chips i news mid_now) (sym both.index)
      (behind.0, at_least_two (length behind.0.moments) (length so_far.moments) behind.1 (omega (arith, two)))))
