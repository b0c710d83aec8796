-- The data counters with their facts: the order is kept, and what is told of the flat machine and of each chip's copy stays true.
use Rattle.std.proofs.Common.{◌≡◌, ℕ, Bool, true, false, refl, ap, sym, ◌∙◌, arith}
use Rattle.std.specs.Prelude.{Option, Some, None, option_and_then, ◌==◌}
use Rattle.std.proofs.lemmas.Bool.Decides.{nat_tests}
use Rattle.f8_spec.specs.Words.{places_on, displaced}
use Rattle.f8_spec.specs.ChipState.{has_second_counter}
use Rattle.f8_spec.specs.declared.chips.ChipKind.{ChipKind}
use Rattle.f8_spec.specs.declared.chips.ChipKind.TheVariants.{Psu, Smi, Pio}
use Rattle.f8_spec.specs.declared.instructions.Row.{Row}
use Rattle.f8_spec.specs.declared.instructions.Row.TheVariants.{DataFromQ, DataFromH, ReadData, StoreData, LoadData, Exchange, AddData}
use Rattle.console_spec.specs.Processor.{Flow, Inputs, flow_after}
use Rattle.abs_domain.specs.Lattice.{Below}
use Rattle.abs_domain.specs.AbstractState.{KnownCounters, CountersBelow}
use Rattle.abs_step.specs.Known.{agree}
use Rattle.abs_step.specs.KnownFlow.{KnownInputs, with_loaded, with_moved, known_counters}
use Rattle.abs_step.specs.Concretization.{Holds, DataTells, PsuTells, SmiTells, ChipTells}
use Rattle.abs_step.proofs.Knowing.{below_map, below_and_then, below_word, agree_below}
use Rattle.abs_step.proofs.InputLaws.{whole_inputs, InputsBelow}

-- ---- facts

-- two that are known to agree are the same
agree_holds : (x y : Option ℕ) (a b : ℕ) → Below (Some a) x → Below (Some b) y → Holds (agree x y) (a ≡ b)
agree_holds None y a b p q = tt
agree_holds (Some x) None a b p q = tt
agree_holds (Some x) (Some y) a b p q = by (x == y) refl
  where
    by : (same : Bool) → (x == y) ≡ same → Holds same (a ≡ b)
    by true e = let alike : x ≡ y = grind (arith, nat_tests) in cc
    by false e = tt

pub holds_map : {P Q : Type 0} (b : Bool) → (P → Q) → Holds b P → Holds b Q
holds_map true f h = f h
holds_map false f h = tt

-- ---- the order

loaded_below : (x y : Option ℕ) (k l : KnownCounters) → Below x y → CountersBelow k l → CountersBelow (with_loaded x k) (with_loaded y l)
loaded_below x y k l p h = record {
  d0 = p;
  d1 = h.d1;
  c = p;
  s0 = refl;
  s1 = h.s1;
  p0 = refl;
  p1 = agree_below x y k.d1 l.d1 p h.d1;
}

moved_below : (f g : ℕ → Option ℕ) (k l : KnownCounters) → ((a : ℕ) → Below (f a) (g a)) → CountersBelow k l →
    CountersBelow (with_moved f k) (with_moved g l)
moved_below f g k l each h = record {
  d0 = below_and_then f g k.d0 l.d0 each h.d0;
  d1 = h.d1;
  c = below_and_then f g k.c l.c each h.c;
  s0 = h.s0;
  s1 = h.s1;
  p0 = h.p0;
  p1 = agree_below _ _ k.d1 l.d1 (below_and_then f g k.c l.c each h.c) h.d1;
}

pub counters_below : (row : Row) (i j : KnownInputs) (k l : KnownCounters) → InputsBelow i j → CountersBelow k l →
    CountersBelow (known_counters row i k) (known_counters row j l)
counters_below DataFromQ i j k l p h = loaded_below _ _ k l (below_word i.q_high j.q_high i.q_low j.q_low p.q_high p.q_low) h
counters_below DataFromH i j k l p h = loaded_below _ _ k l (below_word i.h_high j.h_high i.h_low j.h_low p.h_high p.h_low) h
counters_below LoadData i j k l p h = loaded_below _ _ k l (below_word i.operand j.operand i.second j.second p.operand p.second) h
counters_below ReadData i j k l p h = moved_below _ _ k l (λ a. refl) h
counters_below StoreData i j k l p h = moved_below _ _ k l (λ a. refl) h
counters_below AddData i j k l p h = moved_below _ _ k l (λ a. below_map (displaced a) i.accumulator j.accumulator p.accumulator) h
counters_below Exchange i j k l p h =
    record { d0 = h.d1; d1 = h.d0; c = h.c; s0 = h.s1; s1 = h.s0; p0 = h.p1; p1 = h.p0 }
counters_below row i j k l p h = h

-- ---- the flat machine's counters

pub data_tells : (row : Row) (i : Inputs) (j : KnownInputs) (k : KnownCounters) (r : Flow) → InputsBelow (whole_inputs i) j →
    DataTells k r →
    DataTells (known_counters row j k) (flow_after row i true r)
data_tells DataFromQ i j k r p h = record { d0 = below_word (Some i.q_high) j.q_high (Some i.q_low) j.q_low p.q_high p.q_low; d1 = h.d1 }
data_tells DataFromH i j k r p h = record { d0 = below_word (Some i.h_high) j.h_high (Some i.h_low) j.h_low p.h_high p.h_low; d1 = h.d1 }
data_tells LoadData i j k r p h =
    record { d0 = below_word (Some i.operand) j.operand (Some i.second) j.second p.operand p.second; d1 = h.d1 }
data_tells ReadData i j k r p h = record { d0 = below_and_then (λ a. Some (places_on a 1)) _ (Some r.d0) k.d0 (λ a. refl) h.d0; d1 = h.d1 }
data_tells StoreData i j k r p h = record { d0 = below_and_then (λ a. Some (places_on a 1)) _ (Some r.d0) k.d0 (λ a. refl) h.d0; d1 = h.d1 }
data_tells AddData i j k r p h = record {
  d0 = below_and_then (λ a. Some (displaced a i.accumulator)) _ (Some r.d0) k.d0
      (λ a. below_map (displaced a) (Some i.accumulator) j.accumulator p.accumulator) h.d0;
  d1 = h.d1;
}
data_tells Exchange i j k r p h = record { d0 = h.d1; d1 = h.d0 }
data_tells row i j k r p h = record { d0 = h.d0; d1 = h.d1 }

-- ---- a 3851's copy

psu_loaded : (x : Option ℕ) (a : ℕ) (k : KnownCounters) (r c s : Flow) → Below (Some a) x → r.d0 ≡ a → c.d0 ≡ a → r.d1 ≡ s.d1 →
    DataTells k s →
    PsuTells (with_loaded x k) r c
psu_loaded x a k r c s p here there second h = record {
  value = rw there p;
  first = there ∙ sym here;
  second = rw (there, second) (agree_holds x k.d1 a s.d1 p h.d1);
}

psu_moved : (f : ℕ → ℕ) (g : ℕ → Option ℕ) (k : KnownCounters) (r c s d : Flow) → ((a : ℕ) → Below (Some (f a)) (g a)) →
    r.d0 ≡ f s.d0 → r.d1 ≡ s.d1 → c.d0 ≡ f d.d0 → DataTells k s → PsuTells k s d → PsuTells (with_moved g k) r c
psu_moved f g k r c s d each here second there h t =
    let value : Below (Some (f d.d0)) (option_and_then g k.c) = below_and_then (λ a. Some (f a)) g (Some d.d0) k.c each t.value in
    record {
      value = rw there value;
      first = rw (here, there) (holds_map k.p0 (ap f) t.first);
      second = rw (there, second) (agree_holds _ k.d1 (f d.d0) s.d1 value h.d1);
    }

pub psu_tells : (row : Row) (i : Inputs) (j : KnownInputs) (k : KnownCounters) (r c : Flow) → InputsBelow (whole_inputs i) j →
    DataTells k r → PsuTells k r c → PsuTells (known_counters row j k) (flow_after row i true r) (flow_after row i false c)
psu_tells DataFromQ i j k r c p h t =
    psu_loaded _ _ k _ _ r (below_word (Some i.q_high) j.q_high (Some i.q_low) j.q_low p.q_high p.q_low) refl refl refl h
psu_tells DataFromH i j k r c p h t =
    psu_loaded _ _ k _ _ r (below_word (Some i.h_high) j.h_high (Some i.h_low) j.h_low p.h_high p.h_low) refl refl refl h
psu_tells LoadData i j k r c p h t =
    psu_loaded _ _ k _ _ r (below_word (Some i.operand) j.operand (Some i.second) j.second p.operand p.second) refl refl refl h
psu_tells ReadData i j k r c p h t = psu_moved (λ a. places_on a 1) _ k _ _ r c (λ a. refl) refl refl refl h t
psu_tells StoreData i j k r c p h t = psu_moved (λ a. places_on a 1) _ k _ _ r c (λ a. refl) refl refl refl h t
psu_tells AddData i j k r c p h t =
    psu_moved (λ a. displaced a i.accumulator) _ k _ _ r c
    (λ a. below_map (displaced a) (Some i.accumulator) j.accumulator p.accumulator) refl refl refl h t
psu_tells Exchange i j k r c p h t = record { value = t.value; first = t.second; second = t.first }
psu_tells row i j k r c p h t = record { value = t.value; first = t.first; second = t.second }

-- ---- a 3853's copy

smi_moved : (f : ℕ → ℕ) (g : ℕ → Option ℕ) (k : KnownCounters) (r c s d : Flow) → r.d0 ≡ f s.d0 → r.d1 ≡ s.d1 → c.d0 ≡ f d.d0 →
    c.d1 ≡ d.d1 →
    SmiTells k s d → SmiTells (with_moved g k) r c
smi_moved f g k r c s d here second there other t = record {
  first = rw (here, there) (holds_map k.s0 (ap f) t.first);
  second = rw (second, other) t.second;
}

pub smi_tells : (row : Row) (i : Inputs) (j : KnownInputs) (k : KnownCounters) (r c : Flow) → SmiTells k r c →
    SmiTells (known_counters row j k) (flow_after row i true r) (flow_after row i true c)
smi_tells DataFromQ i j k r c t = record { first = refl; second = t.second }
smi_tells DataFromH i j k r c t = record { first = refl; second = t.second }
smi_tells LoadData i j k r c t = record { first = refl; second = t.second }
smi_tells ReadData i j k r c t = smi_moved (λ a. places_on a 1) _ k _ _ r c refl refl refl refl t
smi_tells StoreData i j k r c t = smi_moved (λ a. places_on a 1) _ k _ _ r c refl refl refl refl t
smi_tells AddData i j k r c t = smi_moved (λ a. displaced a i.accumulator) _ k _ _ r c refl refl refl refl t
smi_tells Exchange i j k r c t = record { first = t.second; second = t.first }
smi_tells row i j k r c t = record { first = t.first; second = t.second }

-- ---- a chip's copy

pub chip_tells : (kind : ChipKind) (row : Row) (i : Inputs) (j : KnownInputs) (k : KnownCounters) (r c : Flow) →
    InputsBelow (whole_inputs i) j →
    DataTells k r → ChipTells kind k r c →
    ChipTells kind (known_counters row j k) (flow_after row i true r) (flow_after row i (has_second_counter kind) c)
chip_tells Psu row i j k r c p h t = psu_tells row i j k r c p h t
chip_tells Smi row i j k r c p h t = smi_tells row i j k r c t
chip_tells Pio row i j k r c p h t = tt
