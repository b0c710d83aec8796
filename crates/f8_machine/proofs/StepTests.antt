-- What is asked of each bus step of an instruction, as tests that compute: no step acknowledges an interrupt.
use Rattle.std.proofs.Common.{◌≡◌, ℕ, Bool, true, false, List, [], ◌∷◌, ◌++◌, Option, None, Some, map, refl, ◌∙◌, eqb-true}
use Rattle.std.specs.Prelude.{◌==◌, ◌&&◌, ◌||◌, not, if◌then◌else◌}
use Rattle.std.specs.List.{list_all}
use Rattle.f8_spec.specs.BusCodes.{driver_of}
use Rattle.f8_spec.specs.BusArbitration.{rule_by, rule_of}
use Rattle.f8_spec.specs.MicroSteps.{Step as MicroStep, Source, Accumulator, clocks_along}
use Rattle.console_spec.specs.Processor.{Inputs, byte_of}
use Rattle.f8_spec.specs.declared.bus.BusRule.TheVariants.{Store, PortWrite as WriteRule, Vector as VectorRule}
use Rattle.f8_spec.specs.declared.bus.Driver.{Driver}
use Rattle.f8_spec.specs.declared.bus.Driver.TheVariants.{Memory, CounterByte, Vector, Port, Cpu, Nobody}
use Rattle.cpu3850.specs.declared.steps.Step.{Step}
use Rattle.cpu3850.specs.CpuSteps.{bus_step}
use Rattle.f8_machine.specs.BusSteps.{IsPlain}

-- a fact for a branch that is taken and one that is not
pub by_taken : (P : Bool → Type 0) → P true → P false → (taken : Bool) → P taken
by_taken P there here true = there
by_taken P there here false = here

pub both_true : (a b : Bool) → (a && b) ≡ true → (a ≡ true) × (b ≡ true)
both_true true b both = (refl, both)
both_true false b both = cc

pub not_true : (b : Bool) → not b ≡ true → b ≡ false
not_true true is = cc
not_true false is = refl

-- a fact for an instruction at whose end no interrupt is taken, and for one at whose end one is
pub by_chosen : (P : Option ℕ → Type 0) → P None → ((socket : ℕ) → P (Some socket)) → (chosen : Option ℕ) → P chosen
by_chosen P none some None = none
by_chosen P none some (Some socket) = some socket

-- what holds of each of some steps and of each of others
pub all-append : (test : MicroStep → Bool) (first later : List MicroStep) →
    list_all test first ≡ true → list_all test later ≡ true → list_all test (first ++ later) ≡ true
all-append test [] later front back = back
all-append test (s ∷ first) later front back =
    let both = both_true (test s) (list_all test first) front in
    rw (both.0) (all-append test first later both.1 back)

-- ---- acknowledgements

-- a code of no acknowledgement
abbrev pub is_plain : MicroStep → Bool
is_plain s = not (s.romc == 0x0F || s.romc == 0x13)

abbrev pub ArePlain : List Step → Type 0
ArePlain [] = Unit {0}
ArePlain (s ∷ later) = IsPlain s.romc × ArePlain later

pub plain_by : (steps : List MicroStep) → list_all is_plain steps ≡ true → ArePlain (map bus_step steps)
plain_by [] all = tt
plain_by (s ∷ later) all =
    let both = both_true (is_plain s) (list_all is_plain later) all in
    (not_true (s.romc == 0x0F || s.romc == 0x13) both.0, plain_by later both.1)

-- the table's driver of a plain code is no vector
plain_driver : (romc : ℕ) → IsPlain romc → driver_of romc ≡ Vector → ⊥
plain_driver romc plain e = drives _ _ _ _ (rw plain at e)
  where
    drives : (memory counter port nobody : Bool) → (if memory then Memory else if counter then CounterByte else
        if false then Vector else if port then Port else if nobody then Nobody else Cpu) ≡ Vector → ⊥
    drives true counter port nobody e = cc
    drives false true port nobody e = cc
    drives false false true nobody e = cc
    drives false false false true e = cc
    drives false false false false e = cc

pub no_vector : (romc : ℕ) (d : Driver) → driver_of romc ≡ d → IsPlain romc → d ≡ Vector → ⊥
no_vector romc d is plain e = plain_driver romc plain (is ∙ e)

-- a plain code ends no request
pub no_end : (romc : ℕ) → IsPlain romc → (romc == 0x13) ≡ false
no_end romc plain = by (romc == 0x0F) (romc == 0x13) plain
  where
    by : (low high : Bool) → (low || high) ≡ false → high ≡ false
    by true high e = cc
    by false high e = e

-- and so is its rule
pub no_vector_rule : (romc : ℕ) → IsPlain romc → rule_of romc ≡ VectorRule → ⊥
no_vector_rule romc plain e = by (romc == 0x05) (romc == 0x1A) (driver_of romc) refl e
  where
    by_driver : (d : Driver) → driver_of romc ≡ d → rule_by d ≡ VectorRule → ⊥
    by_driver Memory is e = cc
    by_driver CounterByte is e = cc
    by_driver Vector is e = plain_driver romc plain is
    by_driver Port is e = cc
    by_driver Cpu is e = cc
    by_driver Nobody is e = cc

    by : (store put : Bool) (d : Driver) → driver_of romc ≡ d →
        (if store then Store else if put then WriteRule else rule_by d) ≡ VectorRule → ⊥
    by true put d is e = cc
    by false true d is e = cc
    by false false d is e = by_driver d is e

-- ---- steps that change the history: a port write, which sends the accumulator, and an acknowledgement. Each has a short step behind it.

abbrev pub is_accumulator : Source → Bool
is_accumulator Accumulator = true
is_accumulator source = false

abbrev pub is_put_last : MicroStep → List MicroStep → Bool
is_put_last s later =
    (if s.romc == 0x1A then is_accumulator s.source else true)
    && (if s.romc == 0x1A || s.romc == 0x13 then clocks_along later == 4 else true)

abbrev pub puts_last : List MicroStep → Bool
puts_last [] = true
puts_last (s ∷ later) = is_put_last s later && puts_last later

pub puts_later : (s : MicroStep) (later : List MicroStep) → puts_last (s ∷ later) ≡ true → puts_last later ≡ true
puts_later s later all = (both_true (is_put_last s later) (puts_last later) all).1

pub put_accumulator : (s : MicroStep) (later : List MicroStep) → puts_last (s ∷ later) ≡ true →
    (s.romc == 0x1A) ≡ true → is_accumulator s.source ≡ true
put_accumulator s later all put =
    rw put at (both_true (if s.romc == 0x1A then is_accumulator s.source else true)
    (if s.romc == 0x1A || s.romc == 0x13 then clocks_along later == 4 else true)
    (both_true (is_put_last s later) (puts_last later) all).0).0

pub put_clocks : (s : MicroStep) (later : List MicroStep) → puts_last (s ∷ later) ≡ true →
    (s.romc == 0x1A || s.romc == 0x13) ≡ true → clocks_along later ≡ 4
put_clocks s later all put =
    eqb-true (clocks_along later) 4 (rw put at (both_true (if s.romc == 0x1A then is_accumulator s.source else true)
    (if s.romc == 0x1A || s.romc == 0x13 then clocks_along later == 4 else true)
    (both_true (is_put_last s later) (puts_last later) all).0).1)

pub accumulator_byte : (source : Source) (i : Inputs) → is_accumulator source ≡ true →
    byte_of i source ≡ i.accumulator
accumulator_byte Accumulator i is = refl
accumulator_byte source i is = cc

-- ---- the ports

abbrev pub is_port : Driver → Bool
is_port Port = true
is_port driver = false

-- a step that neither reads a chip's port nor writes one
abbrev pub is_portless : MicroStep → Bool
is_portless s = not (s.romc == 0x1A) && not (is_port (driver_of s.romc))

pub writes_no_port : (s : MicroStep) → is_portless s ≡ true → (s.romc == 0x1A) ≡ false
writes_no_port s is = not_true (s.romc == 0x1A)
    (both_true (not (s.romc == 0x1A)) (not (is_port (driver_of s.romc))) is).0

pub reads_no_port : (s : MicroStep) → is_portless s ≡ true → is_port (driver_of s.romc) ≡ false
reads_no_port s is =
    not_true (is_port (driver_of s.romc)) (both_true (not (s.romc == 0x1A)) (not (is_port (driver_of s.romc))) is).1
