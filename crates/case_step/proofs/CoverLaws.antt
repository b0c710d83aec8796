-- Entries at the start of a run, and entries that cover others.
use Rattle.std.proofs.Common.{◌≡◌, ℕ, zero, suc, ◌+◌, ◌<◌, ◌≤◌, Bool, true, false, ◌&&◌, ◌||◌, List, [], ◌∷◌, length, replicate}
use Rattle.std.proofs.Common.{refl, ap, sym, ◌∙◌, subst, eqb-true, arith}
use Rattle.std.specs.Prelude.{Option, Some, None, is_some, ◌==◌, if◌then◌else◌, slice_index, slice_index_or}
use Rattle.std.specs.List.{AllZip, range_with_len}
use Rattle.std.specs.Option.{ForSome, option_eq}
use Rattle.std.proofs.lemmas.Bool.{and_parts, eqb-false}
use Rattle.f8_spec.specs.Flags.{clear_status}
use Rattle.f8_spec.specs.BusArbitration.{Seat}
use Rattle.f8_spec.specs.declared.chips.ChipKind.{ChipKind}
use Rattle.f8_spec.specs.declared.chips.ChipKind.TheVariants.{Psu, Smi, Pio}
use Rattle.console_spec.specs.Processor.{Flow, Registers}
use Rattle.console_spec.specs.CounterCopies.{Copy}
use Rattle.console_spec.specs.FreeRuns.{IsFreeStart}
use Rattle.console_spec.specs.Run.{Position}
use Rattle.abs_domain.specs.Lattice.{Below, is_fact_below}
use Rattle.abs_domain.specs.Joins.{is_status_below}
use Rattle.abs_domain.proofs.Orders.{status_decided, status_refl, status_trans}
use Rattle.abs_step.specs.Concretization.{ChipTells, Holds, whole_status}
use Rattle.abs_step.specs.Known.{agree}
use Rattle.abs_step.proofs.Knowing.{left_of, right_of}
use Rattle.abs_step.proofs.Members.{all_map}
use Rattle.value_sets.specs.ValueSets.{has, is_among, are_among, is_within, is_each_within, single}
use Rattle.case_step.specs.Entries.{EntryView, Allows, CopyAllowed, HasValue, facts_of, register_values, start_entry}
use Rattle.case_step.specs.Results.{is_same_below, is_covered_by}

-- ---- the start

among_range : (from n x : ℕ) → from ≤ x → x < from + n → is_among (range_with_len from n) x ≡ true
among_range from zero x low high = absurd (omega arith)
among_range from (suc n) x low high = by (from == x) refl (λ above. among_range (from + 1) n x above (omega arith))
  where
    by : (b : Bool) → (from == x) ≡ b → (from + 1 ≤ x → is_among (range_with_len (from + 1) n) x ≡ true) →
        (b || is_among (range_with_len (from + 1) n) x) ≡ true
    by true e later = refl
    by false e later =
        let apart : from ≡ x → ⊥ = eqb-false from x e in
        later (omega arith)

-- any bytes are allowed where no values are listed
abbrev HasBytes : List (Option (List ℕ)) → List ℕ → Type 0
HasBytes values bytes = AllZip (λ vs byte. has vs byte ≡ true) values bytes

any_bytes : (bytes : List ℕ) → HasBytes (replicate (length bytes) None) bytes
any_bytes [] = tt
any_bytes (byte ∷ bytes) = (refl, any_bytes bytes)

zero_alone : (x : ℕ) → x ≡ 0 → has (Some (0 ∷ [])) x ≡ true
zero_alone x is = rw is refl

start_chip : (kind : ChipKind) (r c : Flow) → ChipTells kind (facts_of start_entry) r c
start_chip Psu r c = record { value = tt; first = tt; second = tt }
start_chip Smi r c = record { first = tt; second = tt }
start_chip Pio r c = tt

start_value : (kind : ChipKind) (c : Flow) → HasValue kind start_entry c
start_value Psu c = refl
start_value Smi c = tt
start_value Pio c = tt

pub start_allowed : (bytes : ℕ → Option ℕ) (seats : List Seat) (here : Position) → IsFreeStart bytes seats here → Allows start_entry here
start_allowed bytes seats here h =
    let registers = here.flat.state.registers in
    let flow = here.flat.state.flow in
    record {
      at = ap (λ (f : Flow). f.p) h.counters;
      ret = tt;
      accumulator = refl;
      isar = among_range 0 64 registers.isar (omega arith) h.range.registers.isar;
      status = rw (h.status) (status_refl (whole_status clear_status));
      d0 = zero_alone flow.d0 (ap (λ (f : Flow). f.d0) h.counters);
      d1 = zero_alone flow.d1 (ap (λ (f : Flow). f.d1) h.counters);
      copies = all_map (λ (c : Copy). c.flow.p ≡ 0) (CopyAllowed start_entry flow) here.copies (λ (c : Copy) at. record {
        tells = record {
          at = at ∙ sym (ap (λ (f : Flow). f.p) h.counters);
          back = tt;
          chip = start_chip c.seat.kind flow c.flow;
        };
        value = start_value c.seat.kind c.flow;
      }) h.copies;
      same = λ number is. absurd (cc);
      scratchpad = subst (λ (n : ℕ). HasBytes (replicate n None) registers.scratchpad) h.range.registers.size
          (any_bytes registers.scratchpad);
    }

-- ---- sets within others

among_upper : (upper lower : List ℕ) (x : ℕ) → are_among upper lower ≡ true → is_among lower x ≡ true → is_among upper x ≡ true
among_upper upper [] x all among = absurd (cc)
among_upper upper (y ∷ ys) x all among =
    by (y == x) refl among (among_upper upper ys x (right_of (is_among upper y) (are_among upper ys) all))
  where
    by : (b : Bool) → (y == x) ≡ b → (b || is_among ys x) ≡ true → (is_among ys x ≡ true → is_among upper x ≡ true) →
        is_among upper x ≡ true
    by true e one later =
        subst (λ (z : ℕ). is_among upper z ≡ true) (eqb-true y x e) (left_of (is_among upper y) (are_among upper ys) all)
    by false e one later = later one

has_upper : (lower upper : Option (List ℕ)) (x : ℕ) → is_within lower upper ≡ true → has lower x ≡ true → has upper x ≡ true
has_upper lower None x within holds = refl
has_upper None (Some upper) x within holds = absurd (cc)
has_upper (Some lower) (Some upper) x within holds = among_upper upper lower x within holds

bytes_upper : (lower upper : List (Option (List ℕ))) (bytes : List ℕ) → is_each_within lower upper ≡ true → HasBytes lower bytes →
    HasBytes upper bytes
bytes_upper [] [] bytes within holds = holds
bytes_upper [] (y ∷ ys) bytes within holds = absurd (cc)
bytes_upper (x ∷ xs) [] bytes within holds = absurd (cc)
bytes_upper (x ∷ xs) (y ∷ ys) [] within holds = absurd holds
bytes_upper (x ∷ xs) (y ∷ ys) (byte ∷ bytes) within holds =
    let both = parts (is_within x y) within in
    (has_upper x y byte both.0 holds.0, bytes_upper xs ys bytes both.1 holds.1)
  where
    parts : (b : Bool) → (if b then is_each_within xs ys else false) ≡ true → (b ≡ true) × (is_each_within xs ys ≡ true)
    parts true e = (refl, e)
    parts false e = absurd (cc)

-- ---- the register that holds the accumulator's byte

same_option : (a b : Option ℕ) → option_eq (λ x y. x == y) a b ≡ true → a ≡ b
same_option None None e = refl
same_option None (Some y) e = absurd (cc)
same_option (Some x) None e = absurd (cc)
same_option (Some x) (Some y) e = ap Some (eqb-true x y e)

-- the one value of a set
single_value : (values : Option (List ℕ)) (v x : ℕ) → single values ≡ Some v → has values x ≡ true → x ≡ v
single_value None v x one holds = absurd (cc)
single_value (Some []) v x one holds = absurd (cc)
single_value (Some (y ∷ [])) v x one holds = by (y == x) refl holds
  where
    by : (b : Bool) → (y == x) ≡ b → (b || false) ≡ true → x ≡ v
    by true e among = let same : y ≡ x = eqb-true y x e in cc
    by false e among = absurd (cc)
single_value (Some (y ∷ z ∷ zs)) v x one holds = absurd (cc)

register_value : (number : ℕ) (values : List (Option (List ℕ))) (bytes : List ℕ) (v : ℕ) → HasBytes values bytes →
    single (slice_index_or values number None) ≡ Some v → slice_index bytes number ≡ v
register_value number [] bytes v holds one = absurd (cc)
register_value number (vs ∷ values) [] v holds one = absurd holds
register_value zero (vs ∷ values) (byte ∷ bytes) v holds one = single_value vs v byte one holds.0
register_value (suc number) (vs ∷ values) (byte ∷ bytes) v holds one = register_value number values bytes v holds.1 one

-- two parts have one value
agreed : (a b : Option ℕ) → agree a b ≡ true → (v : ℕ) × (a ≡ Some v) × (b ≡ Some v)
agreed None b e = absurd (cc)
agreed (Some x) None e = absurd (cc)
agreed (Some x) (Some y) e = let same : x ≡ y = eqb-true x y e in (y, ap Some same, refl)

-- a register that the lower entry names, or one of which it gives the accumulator's one value
same_upper : (lower : EntryView) (here : Position) (o : Option ℕ) → Allows lower here → is_same_below lower o ≡ true →
    ForSome o (λ number. slice_index here.flat.state.registers.scratchpad number ≡ here.flat.state.registers.accumulator)
same_upper lower here None h below = λ number is. absurd (cc)
same_upper lower here (Some number) h below = λ n is.
    subst (λ (k : ℕ). slice_index registers.scratchpad k ≡ registers.accumulator) (one_number is)
    (by (option_eq (λ x y. x == y) lower.same (Some number)) refl below)
  where
    registers : Registers
    registers = here.flat.state.registers

    one_number : {n : ℕ} → Some number ≡ Some n → number ≡ n
    one_number is = cc

    by : (b : Bool) → option_eq (λ x y. x == y) lower.same (Some number) ≡ b →
        (b || agree (single lower.accumulator) (single (register_values number lower))) ≡ true →
        slice_index registers.scratchpad number ≡ registers.accumulator
    by true e either = h.same number (same_option lower.same (Some number) e)
    by false e either =
        let one = agreed (single lower.accumulator) (single (register_values number lower)) either in
        register_value number lower.scratchpad registers.scratchpad one.0 h.scratchpad one.2
        ∙ sym (single_value lower.accumulator one.0 registers.accumulator one.1 h.accumulator)

-- ---- the copies of the chips

fact_upper : (P : Type 0) (lower upper : Bool) → is_fact_below lower upper ≡ true → Holds lower P → Holds upper P
fact_upper P lower false below h = tt
fact_upper P true true below h = h
fact_upper P false true below h = absurd (cc)

-- what the tests of a cover say
record IsCover (lower upper : EntryView) : Type 0 where
  at : lower.at ≡ upper.at
  ret : lower.ret ≡ upper.ret
  accumulator : is_within lower.accumulator upper.accumulator ≡ true
  isar : are_among upper.isar lower.isar ≡ true
  status : is_status_below lower.status upper.status ≡ true
  d0 : is_within lower.d0 upper.d0 ≡ true
  d1 : is_within lower.d1 upper.d1 ≡ true
  c : is_within lower.c upper.c ≡ true
  s0 : is_fact_below lower.s0 upper.s0 ≡ true
  s1 : is_fact_below lower.s1 upper.s1 ≡ true
  p0 : is_fact_below lower.p0 upper.p0 ≡ true
  p1 : is_fact_below lower.p1 upper.p1 ≡ true
  same : is_same_below lower upper.same ≡ true
  scratchpad : is_each_within lower.scratchpad upper.scratchpad ≡ true

-- one test more, behind those of which it is known what they say
and_then : {P : Type 0} {a : Bool} → (a ≡ true → P) → (b : Bool) → (a && b) ≡ true → P × (b ≡ true)
and_then {a = a} says b both = let parts = and_parts a b both in (says parts.0, parts.1)

cover_of : (lower upper : EntryView) → is_covered_by lower upper ≡ true → IsCover lower upper
unfolding is_covered_by
cover_of lower upper e =
    let place = and_then (eqb-true lower.at upper.at) (option_eq (λ x y. x == y) lower.ret upper.ret) in
    let registers = and_then (and_then (and_then place (is_within lower.accumulator upper.accumulator))
    (are_among upper.isar lower.isar)) (is_status_below lower.status upper.status) in
    let counters = and_then (and_then (and_then registers (is_within lower.d0 upper.d0)) (is_within lower.d1 upper.d1))
    (is_within lower.c upper.c) in
    let facts = and_then (and_then (and_then (and_then counters (is_fact_below lower.s0 upper.s0)) (is_fact_below lower.s1 upper.s1))
    (is_fact_below lower.p0 upper.p0)) (is_fact_below lower.p1 upper.p1) in
    let all = and_then (and_then facts (is_same_below lower upper.same)) (is_each_within lower.scratchpad upper.scratchpad) e in
    let q = all.0.0 in
    let counted = q.0.0.0.0 in
    let told = counted.0.0.0 in
    record {
      at = told.0.0.0.0;
      ret = same_option lower.ret upper.ret told.0.0.0.1;
      accumulator = told.0.0.1;
      isar = told.0.1;
      status = told.1;
      d0 = counted.0.0.1;
      d1 = counted.0.1;
      c = counted.1;
      s0 = q.0.0.0.1;
      s1 = q.0.0.1;
      p0 = q.0.1;
      p1 = q.1;
      same = all.0.1;
      scratchpad = all.1;
    }

chip_upper : (lower upper : EntryView) (kind : ChipKind) (r c : Flow) → IsCover lower upper → ChipTells kind (facts_of lower) r c →
    ChipTells kind (facts_of upper) r c
chip_upper lower upper Psu r c cover h = record {
  value = tt;
  first = fact_upper (c.d0 ≡ r.d0) lower.p0 upper.p0 cover.p0 h.first;
  second = fact_upper (c.d0 ≡ r.d1) lower.p1 upper.p1 cover.p1 h.second;
}
chip_upper lower upper Smi r c cover h = record {
  first = fact_upper (c.d0 ≡ r.d0) lower.s0 upper.s0 cover.s0 h.first;
  second = fact_upper (c.d1 ≡ r.d1) lower.s1 upper.s1 cover.s1 h.second;
}
chip_upper lower upper Pio r c cover h = tt

value_upper : (lower upper : EntryView) (kind : ChipKind) (c : Flow) → IsCover lower upper → HasValue kind lower c → HasValue kind upper c
value_upper lower upper Psu c cover h = has_upper lower.c upper.c c.d0 cover.c h
value_upper lower upper Smi c cover h = tt
value_upper lower upper Pio c cover h = tt

copy_upper : (lower upper : EntryView) (r : Flow) (copy : Copy) → IsCover lower upper → CopyAllowed lower r copy → CopyAllowed upper r copy
copy_upper lower upper r copy cover h = record {
  tells = record {
    at = h.tells.at;
    back = subst (λ (o : Option ℕ). Holds (is_some o) (copy.flow.p1 ≡ r.p1)) cover.ret h.tells.back;
    chip = chip_upper lower upper copy.seat.kind r copy.flow cover h.tells.chip;
  };
  value = value_upper lower upper copy.seat.kind copy.flow cover h.value;
}

-- ---- positions

covered_by : (lower upper : EntryView) (here : Position) → IsCover lower upper → Allows lower here → Allows upper here
covered_by lower upper here cover h =
    let registers = here.flat.state.registers in
    let flow = here.flat.state.flow in
    record {
      at = h.at ∙ cover.at;
      ret = subst (λ (o : Option ℕ). Below (Some flow.p1) o) cover.ret h.ret;
      accumulator = has_upper lower.accumulator upper.accumulator registers.accumulator cover.accumulator h.accumulator;
      isar = among_upper upper.isar lower.isar registers.isar cover.isar h.isar;
      status = status_trans _ lower.status upper.status h.status ((status_decided lower.status upper.status).0 cover.status);
      d0 = has_upper lower.d0 upper.d0 flow.d0 cover.d0 h.d0;
      d1 = has_upper lower.d1 upper.d1 flow.d1 cover.d1 h.d1;
      copies = all_map (CopyAllowed lower flow) (CopyAllowed upper flow) here.copies
          (λ copy allowed. copy_upper lower upper flow copy cover allowed) h.copies;
      same = same_upper lower here upper.same h cover.same;
      scratchpad = bytes_upper lower.scratchpad upper.scratchpad registers.scratchpad cover.scratchpad h.scratchpad;
    }

pub covered_allowed : (lower upper : EntryView) (here : Position) → is_covered_by lower upper ≡ true → Allows lower here → Allows upper here
covered_allowed lower upper here covers h = covered_by lower upper here (cover_of lower upper covers) h
