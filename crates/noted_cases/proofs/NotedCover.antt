-- What a case of a noted state leads to is covered by the entry of the state that covers what the noted state leads to.
use Rattle.std.proofs.Common.{◌≡◌, ℕ, suc, ◌+◌, ◌*◌, ◌/◌, ◌%◌, Bool, true, false, List, [], ◌∷◌, length, refl, ap, sym, ◌∙◌}
use Rattle.std.proofs.Common.{subst, ◌⊎◌, inl, inr, arith}
use Rattle.std.specs.Prelude.{Option, Some, None, is_some}
use Rattle.std.specs.List.{AllZip, range_with_len}
use Rattle.f8_spec.specs.Instructions.{row_of}
use Rattle.f8_spec.specs.declared.instructions.Op.{Op}
use Rattle.f8_spec.specs.declared.instructions.Row.{Row}
use Rattle.f8_spec.specs.declared.instructions.Row.TheVariants.{Exchange}
use Rattle.abs_domain.specs.Lattice.{Below}
use Rattle.abs_domain.specs.AbstractState.{AbstractState, KnownStatus, HasScratchpad, StateBelow, StatusBelow}
use Rattle.abs_domain.specs.Joins.{is_status_below}
use Rattle.abs_domain.specs.declared.points.Point.{Point}
use Rattle.abs_domain.proofs.Orders.{below_trans, fact_decided, order_laws, status_decided}
use Rattle.abs_step.specs.CartridgeAnalysis.{FitsPoint, TellsBytes}
use Rattle.abs_step.specs.Known.{lift2}
use Rattle.abs_step.specs.KnownFlow.{known_used_byte}
use Rattle.abs_step.specs.MapView.{MapView}
use Rattle.abs_step.specs.RegisterWrites.{Target, known_register}
use Rattle.abs_step.specs.Safety.{op_at}
use Rattle.abs_step.specs.Successors.{Invariant, inputs_at, state_after, start_point, start_state}
use Rattle.abs_step.specs.Vectors.{with_icb}
use Rattle.abs_step.proofs.Knowing.{both_of}
use Rattle.abs_step.proofs.KnownNumbers.{IsBelow}
use Rattle.abs_step.proofs.KnownRanges.{after_in_range}
use Rattle.abs_step.proofs.SafeBelow.{at_point}
use Rattle.abs_step.proofs.Scratchpads.{TargetBelow, allows_below, register_below}
use Rattle.value_sets.specs.ValueSets.{is_among, are_among, is_within, set_of}
use Rattle.case_step.specs.Entries.{EntryView, start_entry}
use Rattle.case_step.specs.Cases.{pointed_register}
use Rattle.case_step.specs.Effects.{writes_accumulator, writes_flags, writes_isar, writes_data}
use Rattle.case_step.specs.Results.{numbers_or, isar_after, status_after, is_register_written, register_after, d0_after, d1_after}
use Rattle.case_step.specs.Results.{result, is_covered_by}
use Rattle.noted_cases.specs.NotedEntries.{noted_entry, numbers_by}
use Rattle.noted_cases.proofs.CasesBelow.{IsCaseUnder, IsNumbered, MayBeNumbered, digits_of}
use Rattle.noted_cases.proofs.CoverParts.{covered_in_parts}
use Rattle.noted_cases.proofs.IsarApart.{reads_isar, without_isar, both_or_none}
use Rattle.noted_cases.proofs.IsarReads.{high_known, low_known}
use Rattle.noted_cases.proofs.KnownSets.{set_within, kept_within, values_within, register_set, each_set_within, each_within}
use Rattle.noted_cases.proofs.NotedSteps.{untracked, after_upper, after, afters_alike, IsLed}
use Rattle.noted_cases.proofs.NumberSets.{among_in, all_among, in_range, allowed_number, told_digit, number_small, number_allowed}
use Rattle.noted_cases.proofs.NumberSets.{numbers_within, digits_number}
use Rattle.noted_cases.proofs.PartsKept.{KeepsParts}

-- ---- ISAR where it is written: both digits are known behind it, or none is

abbrev AreTogether : Option ℕ → Option ℕ → Type 0
AreTogether high low = ((is_some high ≡ true) × (is_some low ≡ true)) ⊎ ((high ≡ None) × (low ≡ None))

none_above : (o : Option ℕ) (x : ℕ) → Below None o → Below (Some x) o
none_above None x below = tt
none_above (Some y) x below = absurd (cc)

digits_within : (isar : Target) (high low : Option ℕ) → Below high isar.high → Below low isar.low → IsBelow 8 high → IsBelow 8 low →
    AreTogether high low →
    are_among (numbers_by isar) (numbers_or (range_with_len 0 64) (lift2 (λ high low. high * 8 + low) high low)) ≡ true
digits_within isar None low first second small less (inl known) = absurd (cc known.0)
digits_within isar (Some high) None first second small less (inl known) = absurd (cc known.1)
digits_within isar (Some high) (Some low) first second small less (inl known) =
    all_among (numbers_by isar) ((high * 8 + low) ∷ []) (λ x is. by x is)
  where
    by : (x : ℕ) → (high * 8 + low ≡ x) ⊎ ⊥ → is_among (numbers_by isar) x ≡ true
    by x (inl here) = subst (λ (y : ℕ). is_among (numbers_by isar) y ≡ true) here
        (among_in (numbers_by isar) (high * 8 + low) (digits_number isar high low (small high refl) (less low refl) first second))
    by x (inr none) = absurd none
digits_within isar (Some high) low first second small less (inr none) = absurd (cc none.0)
digits_within isar None (Some low) first second small less (inr none) = absurd (cc none.1)
digits_within isar None None first second small less (inr none) =
    all_among (numbers_by isar) (range_with_len 0 64) (λ x is.
    among_in (numbers_by isar) x (allowed_number isar x (in_range 0 64 x is) (both_of _ _
    (told_digit isar.high (x / 8) (none_above isar.high (x / 8) first))
    (told_digit isar.low (x % 8) (none_above isar.low (x % 8) second)))))

same_long : (xs ys : List (Option ℕ)) → AllZip Below xs ys → length xs ≡ length ys
same_long [] [] below = refl
same_long [] (y ∷ ys) below = absurd below
same_long (x ∷ xs) [] below = absurd below
same_long (x ∷ xs) (y ∷ ys) below = ap suc (same_long xs ys below.1)

some_numbered : (numbers : List ℕ) (high low : Option ℕ) → IsNumbered numbers high low → (is_some high ≡ true) × (is_some low ≡ true)
some_numbered numbers high low (number, is, first, second) = (rw first refl, rw second refl)

together_by : (high low : Option ℕ) → (high ≡ None → low ≡ None) × (low ≡ None → high ≡ None) → AreTogether high low
together_by None low both = inr (refl, both.0 refl)
together_by (Some high) None both = let none = both.1 refl in absurd (cc)
together_by (Some high) (Some low) both = inl (refl, refl)

module _ (m : MapView) (p : Point) (s : AbstractState) (op : Op) (c : AbstractState) (case : IsCaseUnder op s c) where
  abbrev behind : AbstractState
  behind = state_after op m (at_point (untracked p) c)

  digits_together : writes_isar op ≡ true → AreTogether behind.registers.high behind.registers.low
  digits_together wrote = by (reads_isar op) refl
    where
      by : (b : Bool) → reads_isar op ≡ b → AreTogether behind.registers.high behind.registers.low
      by true reads =
          let known = some_numbered _ c.registers.high c.registers.low (case.numbered reads) in
          let byte : Option ℕ = known_used_byte (row_of op) (inputs_at op m (at_point (untracked p) c)) in
          inl (high_known op byte c.registers reads known.0, low_known op byte c.registers reads known.1)
      by false apart = together_by _ _ (both_or_none op m (at_point (untracked p) c) apart wrote)

  case_fits : {tracked : List ℕ} → FitsPoint tracked p s → FitsPoint [] (untracked p) c
  case_fits fits = record {
    split = refl;
    scratchpad = same_long c.registers.scratchpad s.registers.scratchpad case.own.below.registers.scratchpad ∙ fits.scratchpad;
    range = case.own.range;
    at = fits.at;
    ret = fits.ret;
  }

-- ---- what holds behind the case, against a state that says no more than the one behind the noted state

without_below : (s t : AbstractState) → StateBelow s t → StateBelow (without_isar s) (without_isar t)
without_below s t below = record {
  registers = record {
    accumulator = below.registers.accumulator;
    high = tt;
    low = tt;
    status = below.registers.status;
    scratchpad = below.registers.scratchpad;
  };
  counters = below.counters;
}

above_itself : (s t : AbstractState) → StateBelow s t → StateBelow s (without_isar t)
above_itself s t below = record {
  registers = record {
    accumulator = below.registers.accumulator;
    high = tt;
    low = tt;
    status = below.registers.status;
    scratchpad = below.registers.scratchpad;
  };
  counters = below.counters;
}

-- it says no less, but for ISAR; and where ISAR is written, of that too
pub record SaysNoLess (op : Op) (to : Invariant) (t : AbstractState) : Type 0 where
  pub below : StateBelow to.state (without_isar t)
  pub isar : writes_isar op ≡ true →
      are_among (numbers_by (digits_of t)) (numbers_or (range_with_len 0 64) (pointed_register to.state)) ≡ true

module _ (m : MapView) (tells : TellsBytes m) (tracked : List ℕ) (p : Point) (s : AbstractState) (fits : FitsPoint tracked p s) (op : Op)
    (is : op_at m (at_point p s) ≡ Some op) (c : AbstractState) (case : IsCaseUnder op s c) (to : Invariant)
    (led : IsLed m p s op c to) (t : AbstractState) (below : StateBelow (with_icb led.way.icb (after m p s op)) t) where
  all_below : StateBelow to.state (without_isar t)
  all_below = by (afters_alike m p s op)
    where
      by : (after_upper m p s op ≡ after m p s op) ⊎ ((writes_isar op ≡ false) × (after_upper m p s op ≡ without_isar (after m p s op))) →
          StateBelow to.state (without_isar t)
      by (inl same) =
          let first : StateBelow to.state (with_icb led.way.icb (after m p s op)) =
          subst (λ (u : AbstractState). StateBelow to.state (with_icb led.way.icb u)) same led.below in
          above_itself to.state t (order_laws.transitive to.state _ t first below)
      by (inr same) =
          let first : StateBelow to.state (without_isar (with_icb led.way.icb (after m p s op))) =
          subst (λ (u : AbstractState). StateBelow to.state (with_icb led.way.icb u)) same.1 led.below in
          order_laws.transitive to.state _ (without_isar t) first (without_below _ t below)

  written_below : writes_isar op ≡ true → Below to.state.registers.high t.registers.high × Below to.state.registers.low t.registers.low
  written_below wrote = by (afters_alike m p s op)
    where
      by : (after_upper m p s op ≡ after m p s op) ⊎ ((writes_isar op ≡ false) × (after_upper m p s op ≡ without_isar (after m p s op))) →
          Below to.state.registers.high t.registers.high × Below to.state.registers.low t.registers.low
      by (inl same) =
          let first : StateBelow to.state (with_icb led.way.icb (after m p s op)) =
          subst (λ (u : AbstractState). StateBelow to.state (with_icb led.way.icb u)) same led.below in
          let all = order_laws.transitive to.state _ t first below in
          (all.registers.high, all.registers.low)
      by (inr same) = let kept = same.0 in absurd (cc)

  pub says_no_less : SaysNoLess op to t
  says_no_less = record {
    below = all_below;
    isar = λ wrote.
        let digits = written_below wrote in
        let range = after_in_range m tells [] (untracked p) c (case_fits m p s op c case fits) op is in
        digits_within (digits_of t) to.state.registers.high to.state.registers.low digits.0 digits.1
        (subst (IsBelow 8) (sym led.high) range.high) (subst (IsBelow 8) (sym led.low) range.low)
        (rw (led.high, led.low) (digits_together m p s op c case wrote));
  }

-- ---- parts

isar_within : (written : Bool) (lower upper : Target) (after high low : Option ℕ) → MayBeNumbered (numbers_by lower) high low →
    (written ≡ true → are_among (numbers_by upper) (numbers_or (range_with_len 0 64) after) ≡ true) →
    (written ≡ false → TargetBelow lower upper) →
    are_among (numbers_by upper) (isar_after written after (lift2 (λ high low. high * 8 + low) high low) (numbers_by lower)) ≡ true
isar_within true lower upper after high low own written kept = written refl
isar_within false lower upper after high low (inl none) written kept = rw (none.0) (numbers_within lower upper (kept refl))
isar_within false lower upper after high low (inr (number, is, first, second)) written kept =
    let whole : number / 8 * 8 + number % 8 ≡ number = omega arith in
    rw (first, second, whole) (all_among (numbers_by upper) (number ∷ []) by)
  where
    by : (x : ℕ) → (number ≡ x) ⊎ ⊥ → is_among (numbers_by upper) x ≡ true
    by x (inl here) = subst (λ (y : ℕ). is_among (numbers_by upper) y ≡ true) here
        (among_in (numbers_by upper) number (allowed_number upper number (number_small lower number is)
        (allows_below lower upper number (kept refl) (number_allowed lower number is))))
    by x (inr none) = absurd none

status_within : (written : Bool) (after own known upper : KnownStatus) → StatusBelow own known → StatusBelow after upper →
    (written ≡ false → Below known.sign upper.sign) → (written ≡ false → Below known.carry upper.carry) →
    (written ≡ false → Below known.zero upper.zero) → (written ≡ false → Below known.overflow upper.overflow) →
    is_status_below (status_after written after own) upper ≡ true
status_within true after own known upper below told sign carry none overflow = (status_decided after upper).1 told
status_within false after own known upper below told sign carry none overflow =
    (status_decided (record own { icb = after.icb }) upper).1 (record {
      sign = below_trans own.sign known.sign upper.sign below.sign (sign refl);
      carry = below_trans own.carry known.carry upper.carry below.carry (carry refl);
      zero = below_trans own.zero known.zero upper.zero below.zero (none refl);
      overflow = below_trans own.overflow known.overflow upper.overflow below.overflow (overflow refl);
      icb = told.icb;
    })

same_place : (number place : ℕ) → number ≡ 0 + place → place ≡ number
same_place number place is = omega arith

-- ---- the result of a case

module _ (p : Point) (s : AbstractState) (op : Op) (c : AbstractState) (case : IsCaseUnder op s c) (to : Invariant) (t : AbstractState)
    (no_less : SaysNoLess op to t) (keeps : KeepsParts op c s t) where
  abbrev e : EntryView
  e = noted_entry (p, s)

  d0_within : (row : Row) → row_of op ≡ row → is_within (d0_after row e c to.state) (set_of t.counters.d0) ≡ true
  unfolding noted_entry
  d0_within Exchange is =
      kept_within c.counters.d1 s.counters.d1 t.counters.d0 case.own.below.counters.d1 (keeps.exchanged is).0
  d0_within row is =
      values_within (writes_data row) to.state.counters.d0 c.counters.d0 s.counters.d0 t.counters.d0 case.own.below.counters.d0
      no_less.below.counters.d0 (λ kept. keeps.d0 (rw is kept) (λ other. absurd (cc)))

  d1_within : (row : Row) → row_of op ≡ row → is_within (d1_after row e c) (set_of t.counters.d1) ≡ true
  unfolding noted_entry
  d1_within Exchange is =
      kept_within c.counters.d0 s.counters.d0 t.counters.d1 case.own.below.counters.d0 (keeps.exchanged is).1
  d1_within row is =
      kept_within c.counters.d1 s.counters.d1 t.counters.d1 case.own.below.counters.d1 (keeps.d1 (λ other. absurd (cc)))

  register_within : (number : ℕ) →
      is_within (register_after op e c to.state number) (set_of (known_register number t.registers)) ≡ true
  unfolding noted_entry
  register_within number = rw (register_set number s.registers.scratchpad)
      (values_within (is_register_written op c number) (known_register number to.state.registers) (known_register number c.registers)
      (known_register number s.registers) (known_register number t.registers)
      (register_below number c.registers (without_isar s).registers case.own.below.registers)
      (register_below number to.state.registers (without_isar t).registers no_less.below.registers)
      (keeps.register number))

  pub result_covered : (q : Point) → to.point.at ≡ q.at → to.point.ret ≡ q.ret → HasScratchpad t →
      is_covered_by (result op e c to) (noted_entry (q, t)) ≡ true
  unfolding result noted_entry
  result_covered q at ret pad =
      let below = no_less.below in
      let own = case.own.below in
      covered_in_parts (result op e c to) (noted_entry (q, t)) (record {
        at = at;
        ret = ret;
        accumulator = values_within (writes_accumulator op) to.state.registers.accumulator c.registers.accumulator
            s.registers.accumulator t.registers.accumulator own.registers.accumulator below.registers.accumulator keeps.accumulator;
        isar = isar_within (writes_isar op) (digits_of s) (digits_of t) (pointed_register to.state) c.registers.high c.registers.low
            case.own.digits no_less.isar keeps.isar;
        status = status_within (writes_flags op) to.state.registers.status c.registers.status s.registers.status t.registers.status
            own.registers.status below.registers.status keeps.sign keeps.carry keeps.zero keeps.overflow;
        d0 = d0_within (row_of op) refl;
        d1 = d1_within (row_of op) refl;
        c = values_within (writes_data (row_of op)) to.state.counters.c c.counters.c s.counters.c t.counters.c own.counters.c
            below.counters.c keeps.copies;
        s0 = (fact_decided to.state.counters.s0 t.counters.s0).1 below.counters.s0;
        s1 = (fact_decided to.state.counters.s1 t.counters.s1).1 below.counters.s1;
        p0 = (fact_decided to.state.counters.p0 t.counters.p0).1 below.counters.p0;
        p1 = (fact_decided to.state.counters.p1 t.counters.p1).1 below.counters.p1;
        same = refl;
        scratchpad = each_within (register_after op e c to.state) 0 64 t.registers.scratchpad pad
            (λ number place is. rw (same_place number place is) (register_within number));
      })

-- ---- the start

pub start_covered : (t : AbstractState) → StateBelow start_state t → is_covered_by start_entry (noted_entry (start_point, t)) ≡ true
unfolding noted_entry
start_covered t below =
    let r = below.registers in
    let k = below.counters in
    covered_in_parts start_entry (noted_entry (start_point, t)) (record {
      at = refl;
      ret = refl;
      accumulator = set_within None t.registers.accumulator r.accumulator;
      isar = numbers_within (digits_of start_state) (digits_of t) (record { high = r.high; low = r.low });
      status = (status_decided start_state.registers.status t.registers.status).1 r.status;
      d0 = set_within (Some 0) t.counters.d0 k.d0;
      d1 = set_within (Some 0) t.counters.d1 k.d1;
      c = set_within None t.counters.c k.c;
      s0 = (fact_decided false t.counters.s0).1 k.s0;
      s1 = (fact_decided false t.counters.s1).1 k.s1;
      p0 = (fact_decided false t.counters.p0).1 k.p0;
      p1 = (fact_decided false t.counters.p1).1 k.p1;
      same = refl;
      scratchpad = each_set_within start_state.registers.scratchpad t.registers.scratchpad r.scratchpad;
    })
