-- The cases of an entry of what is known say no less than what is known: all of them but for ISAR, and where it is read of ISAR too.
use Rattle.std.proofs.Common.{◌≡◌, ℕ, ◌<◌, ◌/◌, ◌%◌, Bool, true, false, List, [], ◌∷◌, length, map, refl, sym, ◌∙◌, ◌⊎◌, inl, inr, arith}
use Rattle.std.specs.Prelude.{Option, Some, None, if◌then◌else◌, nat_le, flat_map, option_map, is_some}
use Rattle.std.specs.List.{AllByRecursion, list_any, range_with_len}
use Rattle.f8_spec.specs.declared.instructions.Op.{Op}
use Rattle.abs_domain.specs.Lattice.{Below}
use Rattle.abs_domain.specs.AbstractState.{AbstractState, KnownStatus, StateBelow, StatusBelow}
use Rattle.abs_domain.specs.declared.points.Point.{Point}
use Rattle.abs_domain.proofs.Orders.{below_refl, below_trans, fact_refl, status_refl, all_below_refl}
use Rattle.abs_step.specs.CartridgeAnalysis.{IsWithinRange}
use Rattle.abs_step.specs.RegisterWrites.{Target, known_register}
use Rattle.abs_step.proofs.Covering.{all_flat}
use Rattle.abs_step.proofs.KnownNumbers.{IsBelow, none_below, some_below}
use Rattle.abs_step.proofs.Members.{IsIn, all_of, all_map, all_mapped, from_all}
use Rattle.value_sets.specs.ValueSets.{only, set_of, single}
use Rattle.case_step.specs.Entries.{EntryView}
use Rattle.case_step.specs.Effects.{parts_read}
use Rattle.case_step.specs.Cases.{plain_case, with_accumulator, with_isar, with_status, with_register, with_data_counter, pointed_register}
use Rattle.case_step.specs.Cases.{flag_spread, each_case, byte_cases, register_cases, part_cases, most_cases, spread_cases, or_cases}
use Rattle.case_step.specs.Cases.{cases_of}
use Rattle.case_step.specs.declared.part.Part.{Part}
use Rattle.case_step.specs.declared.part.Part.TheVariants.{Accumulator, Isar, Sign, Carry, Zero, Overflow, Icb}
use Rattle.case_step.specs.declared.part.Part.TheVariants.{Register, Pointed, DataCounter}
use Rattle.case_step.specs.declared.spread.Spread.{Spread}
use Rattle.case_step.specs.declared.spread.Spread.TheVariants.{EachByte, ListedBytes, NoByte}
use Rattle.noted_cases.specs.NotedEntries.{noted_entry, numbers_by}
use Rattle.noted_cases.proofs.IsarApart.{is_isar, reads_isar, without_isar}
use Rattle.noted_cases.proofs.LeastCounters.{TiesCounters}
use Rattle.noted_cases.proofs.NumberSets.{in_range, in_only, number_small}
use Rattle.noted_cases.proofs.KnownSets.{single_set, singles_same, register_set, below_set, small_set}
use Rattle.noted_cases.proofs.IsarReads.{enough_cases}

-- ---- what is known of ISAR in a case: one of the entry's numbers, or, where it isn't read, nothing

abbrev pub IsNumbered : List ℕ → Option ℕ → Option ℕ → Type 0
IsNumbered numbers high low = (number : ℕ) × IsIn number numbers × (high ≡ Some (number / 8)) × (low ≡ Some (number % 8))

abbrev pub MayBeNumbered : List ℕ → Option ℕ → Option ℕ → Type 0
MayBeNumbered numbers high low = ((high ≡ None) × (low ≡ None)) ⊎ IsNumbered numbers high low

-- A case says no less than the state, but for ISAR; what it knows is within its range, and of the digits of ISAR this holds.
pub record IsCaseOf (Digits : Option ℕ → Option ℕ → Type 0) (s c : AbstractState) : Type 0 where
  pub below : StateBelow c (without_isar s)
  pub goes_with : c.counters.p0 ≡ s.counters.p0
  pub range : IsWithinRange c
  pub digits : Digits c.registers.high c.registers.low

-- the digits of ISAR that a state knows
abbrev pub digits_of : AbstractState → Target
digits_of s = record { high = s.registers.high; low = s.registers.low }

-- a case under an instruction: one of ISAR's numbers is known where that is read, and else one or none
pub record IsCaseUnder (op : Op) (s c : AbstractState) : Type 0 where
  pub own : IsCaseOf (MayBeNumbered (numbers_by (digits_of s))) s c
  pub numbered : reads_isar op ≡ true → IsNumbered (numbers_by (digits_of s)) c.registers.high c.registers.low

only_numbered : (numbers : List ℕ) (o : Option ℕ) → only numbers ≡ o →
    MayBeNumbered numbers (option_map (λ number. number / 8) o) (option_map (λ number. number % 8) o)
only_numbered numbers None is = inl (refl, refl)
only_numbered numbers (Some number) is = inr (number, in_only numbers number is, refl, refl)

numbered_small : (numbers : List ℕ) (high low : Option ℕ) → ((x : ℕ) → IsIn x numbers → x < 64) → MayBeNumbered numbers high low →
    IsBelow 8 high × IsBelow 8 low
numbered_small numbers high low small (inl none) = (rw (none.0) (none_below 8), rw (none.1) (none_below 8))
numbered_small numbers high low small (inr (number, is, first, second)) =
    let within : number < 64 = small number is in
    (rw first (some_below 8 (number / 8) (omega arith)), rw second (some_below 8 (number % 8) (omega arith)))

-- c is D0's value where it goes with it
c_below : (goes_with : Bool) (d0 c : Option ℕ) → (goes_with ≡ true → Below d0 c) →
    Below (if goes_with then single (set_of d0) else single (set_of c)) c
c_below true d0 c ties = rw (single_set d0) (ties refl)
c_below false d0 c ties = rw (single_set c) (below_refl c)

c_small : (goes_with : Bool) (d0 c : Option ℕ) → IsBelow 65536 d0 → IsBelow 65536 c →
    IsBelow 65536 (if goes_with then single (set_of d0) else single (set_of c))
c_small true d0 c first second = rw (single_set d0) first
c_small false d0 c first second = rw (single_set c) second

c_told : (goes_with : Bool) (at : ℕ) (own c : Option ℕ) → (goes_with ≡ true → Below (Some at) c) → Below own c →
    Below (if goes_with then Some at else own) c
c_told true at own c ties told = ties refl
c_told false at own c ties told = told

c_told_small : (goes_with : Bool) (at : ℕ) (own : Option ℕ) → at < 65536 → IsBelow 65536 own →
    IsBelow 65536 (if goes_with then Some at else own)
c_told_small true at own small rest = some_below 65536 at small
c_told_small false at own small rest = rest

-- ---- the values of a part

module _ (P : AbstractState → Type 0) where
  all_range : (f : ℕ → AbstractState) (n : ℕ) → ((x : ℕ) → x < n → P (f x)) → AllByRecursion P (map f (range_with_len 0 n))
  all_range f n each = all_mapped f P (range_with_len 0 n) (all_of _ (range_with_len 0 n)
      (λ x is. let within = in_range 0 n x is in each x (omega arith)))

  all_numbers : (f : ℕ → AbstractState) (numbers : List ℕ) → ((x : ℕ) → IsIn x numbers → P (f x)) → AllByRecursion P (map f numbers)
  all_numbers f numbers each = all_mapped f P numbers (all_of _ numbers each)

  all_bytes : (spread : Spread) (known : Option ℕ) (with_byte : ℕ → AbstractState) (c : AbstractState) → IsBelow 256 known → P c →
      ((byte : ℕ) → byte < 256 → Below (Some byte) known → P (with_byte byte)) →
      AllByRecursion P (byte_cases None spread (set_of known) with_byte c)
  all_bytes EachByte None with_byte c small own each = all_range with_byte 256 (λ byte within. each byte within tt)
  all_bytes EachByte (Some byte) with_byte c small own each = (each byte (small byte refl) refl, tt)
  all_bytes ListedBytes None with_byte c small own each = (own, tt)
  all_bytes ListedBytes (Some byte) with_byte c small own each = (each byte (small byte refl) refl, tt)
  all_bytes NoByte known with_byte c small own each = (own, tt)

  all_words : (known : Option ℕ) (with_word : ℕ → AbstractState) (c : AbstractState) → IsBelow 65536 known → P c →
      ((at : ℕ) → at < 65536 → Below (Some at) known → P (with_word at)) → AllByRecursion P (each_case with_word c (set_of known))
  all_words None with_word c small own each = (own, tt)
  all_words (Some at) with_word c small own each = (each at (small at refl) refl, tt)

  all_flags : (known : Option Bool) (with_flag : Bool → AbstractState) (c : AbstractState) → P c →
      ((flag : Bool) → Below (Some flag) known → P (with_flag flag)) → AllByRecursion P (each_case with_flag c (flag_spread known))
  all_flags None with_flag c own each = (each false tt, (each true tt, tt))
  all_flags (Some flag) with_flag c own each = (own, tt)

-- ---- the cases of a state at a point

module _ (p : Point) (s : AbstractState) (range : IsWithinRange s) (ties : TiesCounters s) where
  abbrev e : EntryView
  e = noted_entry (p, s)

  abbrev MayTell : Option ℕ → Option ℕ → Type 0
  MayTell = MayBeNumbered e.isar

  abbrev Tells : Option ℕ → Option ℕ → Type 0
  Tells = IsNumbered e.isar

  numbers_small : (x : ℕ) → IsIn x e.isar → x < 64
  unfolding noted_entry
  numbers_small x is = number_small (digits_of s) x is

  plain_is : IsCaseOf MayTell s (plain_case e)
  unfolding noted_entry
  plain_is =
      let digits = only_numbered e.isar (only e.isar) refl in
      let small = numbered_small e.isar _ _ numbers_small digits in
      record {
        below = record {
          registers = record {
            accumulator = rw (single_set s.registers.accumulator) (below_refl s.registers.accumulator);
            high = tt;
            low = tt;
            status = status_refl s.registers.status;
            scratchpad = rw (singles_same s.registers.scratchpad) (all_below_refl s.registers.scratchpad);
          };
          counters = record {
            d0 = rw (single_set s.counters.d0) (below_refl s.counters.d0);
            d1 = rw (single_set s.counters.d1) (below_refl s.counters.d1);
            c = c_below s.counters.p0 s.counters.d0 s.counters.c ties;
            s0 = fact_refl s.counters.s0;
            s1 = fact_refl s.counters.s1;
            p0 = fact_refl s.counters.p0;
            p1 = fact_refl s.counters.p1;
          };
        };
        goes_with = refl;
        range = record {
          accumulator = rw (single_set s.registers.accumulator) range.accumulator;
          high = small.0;
          low = small.1;
          scratchpad = rw (singles_same s.registers.scratchpad) range.scratchpad;
          d0 = rw (single_set s.counters.d0) range.d0;
          d1 = rw (single_set s.counters.d1) range.d1;
          c = c_small s.counters.p0 s.counters.d0 s.counters.c range.d0 range.c;
        };
        digits = digits;
      }

  -- ---- one part more

  module _ (Digits : Option ℕ → Option ℕ → Type 0) (c : AbstractState) (own : IsCaseOf Digits s c) where
    accumulator_is : (byte : ℕ) → byte < 256 → Below (Some byte) s.registers.accumulator → IsCaseOf Digits s (with_accumulator byte c)
    accumulator_is byte small told = record {
      below = record {
        registers = record {
          accumulator = told;
          high = tt;
          low = tt;
          status = own.below.registers.status;
          scratchpad = own.below.registers.scratchpad;
        };
        counters = own.below.counters;
      };
      goes_with = own.goes_with;
      range = record {
        accumulator = some_below 256 byte small;
        high = own.range.high;
        low = own.range.low;
        scratchpad = own.range.scratchpad;
        d0 = own.range.d0;
        d1 = own.range.d1;
        c = own.range.c;
      };
      digits = own.digits;
    }

    register_is : (number byte : ℕ) → byte < 256 → Below (Some byte) (known_register number s.registers) →
        IsCaseOf Digits s (with_register number byte c)
    register_is number byte small told = record {
      below = record {
        registers = record {
          accumulator = own.below.registers.accumulator;
          high = tt;
          low = tt;
          status = own.below.registers.status;
          scratchpad = below_set number byte c.registers.scratchpad s.registers.scratchpad own.below.registers.scratchpad told;
        };
        counters = own.below.counters;
      };
      goes_with = own.goes_with;
      range = record {
        accumulator = own.range.accumulator;
        high = own.range.high;
        low = own.range.low;
        scratchpad = λ k. small_set number byte 256 k c.registers.scratchpad (own.range.scratchpad k) small;
        d0 = own.range.d0;
        d1 = own.range.d1;
        c = own.range.c;
      };
      digits = own.digits;
    }

    status_is : (status : KnownStatus) → StatusBelow status s.registers.status → IsCaseOf Digits s (with_status status c)
    status_is status below = record {
      below = record {
        registers = record {
          accumulator = own.below.registers.accumulator;
          high = tt;
          low = tt;
          status = below;
          scratchpad = own.below.registers.scratchpad;
        };
        counters = own.below.counters;
      };
      goes_with = own.goes_with;
      range = record {
        accumulator = own.range.accumulator;
        high = own.range.high;
        low = own.range.low;
        scratchpad = own.range.scratchpad;
        d0 = own.range.d0;
        d1 = own.range.d1;
        c = own.range.c;
      };
      digits = own.digits;
    }

    counter_is : (at : ℕ) → at < 65536 → Below (Some at) s.counters.d0 → IsCaseOf Digits s (with_data_counter at c)
    counter_is at small told =
        let below = own.below.counters in
        record {
          below = record {
            registers = own.below.registers;
            counters = record {
              d0 = told;
              d1 = below.d1;
              c = c_told c.counters.p0 at c.counters.c s.counters.c
                  (λ goes. below_trans (Some at) s.counters.d0 s.counters.c told (ties (sym own.goes_with ∙ goes))) below.c;
              s0 = below.s0;
              s1 = below.s1;
              p0 = below.p0;
              p1 = below.p1;
            };
          };
          goes_with = own.goes_with;
          range = record {
            accumulator = own.range.accumulator;
            high = own.range.high;
            low = own.range.low;
            scratchpad = own.range.scratchpad;
            d0 = some_below 65536 at small;
            d1 = own.range.d1;
            c = c_told_small c.counters.p0 at c.counters.c small own.range.c;
          };
          digits = own.digits;
        }

    isar_is : (More : Option ℕ → Option ℕ → Type 0) (number : ℕ) → number < 64 → More (Some (number / 8)) (Some (number % 8)) →
        IsCaseOf More s (with_isar number c)
    isar_is More number small digits = record {
      below = record {
        registers = record {
          accumulator = own.below.registers.accumulator;
          high = tt;
          low = tt;
          status = own.below.registers.status;
          scratchpad = own.below.registers.scratchpad;
        };
        counters = own.below.counters;
      };
      goes_with = own.goes_with;
      range = record {
        accumulator = own.range.accumulator;
        high = some_below 8 (number / 8) (omega arith);
        low = some_below 8 (number % 8) (omega arith);
        scratchpad = own.range.scratchpad;
        d0 = own.range.d0;
        d1 = own.range.d1;
        c = own.range.c;
      };
      digits = digits;
    }

    register_all : (spread : Spread) (register : Option ℕ) → AllByRecursion (IsCaseOf Digits s) (register_cases spread e register c)
    unfolding noted_entry
    register_all spread None = (own, tt)
    register_all spread (Some number) = rw (register_set number s.registers.scratchpad)
        (all_bytes (IsCaseOf Digits s) spread (known_register number s.registers) (λ byte. with_register number byte c) c
        (range.scratchpad number) own (register_is number))

    -- every case with the part more
    part_all : (numbered : (number : ℕ) → IsIn number e.isar → Digits (Some (number / 8)) (Some (number % 8))) (spread : Spread)
        (part : Part) → AllByRecursion (IsCaseOf Digits s) (part_cases spread e part c)
    unfolding noted_entry
    part_all numbered spread Accumulator = all_bytes (IsCaseOf Digits s) spread s.registers.accumulator (λ byte. with_accumulator byte c) c
        range.accumulator own accumulator_is
    part_all numbered spread Isar = all_numbers (IsCaseOf Digits s) (λ number. with_isar number c) e.isar
        (λ number is. isar_is Digits number (numbers_small number is) (numbered number is))
    part_all numbered spread Sign =
        let b = own.below.registers.status in
        all_flags (IsCaseOf Digits s) s.registers.status.sign _ c own
        (λ flag told. status_is _ (record { sign = told; carry = b.carry; zero = b.zero; overflow = b.overflow; icb = b.icb }))
    part_all numbered spread Carry =
        let b = own.below.registers.status in
        all_flags (IsCaseOf Digits s) s.registers.status.carry _ c own
        (λ flag told. status_is _ (record { sign = b.sign; carry = told; zero = b.zero; overflow = b.overflow; icb = b.icb }))
    part_all numbered spread Zero =
        let b = own.below.registers.status in
        all_flags (IsCaseOf Digits s) s.registers.status.zero _ c own
        (λ flag told. status_is _ (record { sign = b.sign; carry = b.carry; zero = told; overflow = b.overflow; icb = b.icb }))
    part_all numbered spread Overflow =
        let b = own.below.registers.status in
        all_flags (IsCaseOf Digits s) s.registers.status.overflow _ c own
        (λ flag told. status_is _ (record { sign = b.sign; carry = b.carry; zero = b.zero; overflow = told; icb = b.icb }))
    part_all numbered spread Icb =
        let b = own.below.registers.status in
        all_flags (IsCaseOf Digits s) s.registers.status.icb _ c own
        (λ flag told. status_is _ (record { sign = b.sign; carry = b.carry; zero = b.zero; overflow = b.overflow; icb = told }))
    part_all numbered spread (Register number) = register_all spread (Some number)
    part_all numbered spread Pointed = register_all spread (pointed_register c)
    part_all numbered spread DataCounter =
        all_words (IsCaseOf Digits s) s.counters.d0 (λ at. with_data_counter at c) c range.d0 own counter_is

  -- ---- all parts

  -- of each case, where there are cases
  abbrev AllIn : (AbstractState → Type 0) → Option (List AbstractState) → Type 0
  AllIn P None = Unit {0}
  AllIn P (Some cases) = AllByRecursion P cases

  if_few : (P : AbstractState → Type 0) (few : Bool) (found : Option (List AbstractState)) → AllIn P found →
      AllIn P (if few then found else None)
  if_few P true found all = all
  if_few P false found all = tt

  module _ (Digits : Option ℕ → Option ℕ → Type 0)
      (numbered : (number : ℕ) → IsIn number e.isar → Digits (Some (number / 8)) (Some (number % 8))) (spread : Spread) where
    spread_all : (parts : List Part) (cases : List AbstractState) → AllByRecursion (IsCaseOf Digits s) cases →
        AllIn (IsCaseOf Digits s) (spread_cases spread e parts cases)
    unfolding spread_cases
    spread_all [] cases all = all
    spread_all (part ∷ parts) cases all =
        let more : List AbstractState = flat_map (part_cases spread e part) cases in
        if_few (IsCaseOf Digits s) (nat_le (length more) most_cases) (spread_cases spread e parts more) (spread_all parts more
        (all_flat (IsCaseOf Digits s) (part_cases spread e part) cases
        (all_map (IsCaseOf Digits s) _ cases (λ c own. part_all Digits c own numbered spread part) all)))

  itself : (number : ℕ) → IsIn number e.isar → Tells (Some (number / 8)) (Some (number % 8))
  itself number is = (number, is, refl, refl)

  may_be : (number : ℕ) → IsIn number e.isar → MayTell (Some (number / 8)) (Some (number % 8))
  may_be number is = inr (itself number is)

  -- behind ISAR each case has a number
  isar_all : (spread : Spread) (cases : List AbstractState) → AllByRecursion (IsCaseOf MayTell s) cases →
      AllByRecursion (IsCaseOf Tells s) (flat_map (part_cases spread e Isar) cases)
  isar_all spread cases all = all_flat (IsCaseOf Tells s) (part_cases spread e Isar) cases
      (all_map (IsCaseOf MayTell s) _ cases (λ c own.
      all_numbers (IsCaseOf Tells s) (λ number. with_isar number c) e.isar
      (λ number is. isar_is MayTell c own Tells number (numbers_small number is) (itself number is))) all)

  numbered_all : (spread : Spread) (parts : List Part) (cases : List AbstractState) → list_any is_isar parts ≡ true →
      AllByRecursion (IsCaseOf MayTell s) cases → AllIn (IsCaseOf Tells s) (spread_cases spread e parts cases)
  unfolding spread_cases
  numbered_all spread [] cases reads all = absurd (cc)
  numbered_all spread (Isar ∷ parts) cases reads all =
      let more : List AbstractState = flat_map (part_cases spread e Isar) cases in
      if_few (IsCaseOf Tells s) (nat_le (length more) most_cases) (spread_cases spread e parts more)
      (spread_all Tells itself spread parts more (isar_all spread cases all))
  numbered_all spread (part ∷ parts) cases reads all =
      let more : List AbstractState = flat_map (part_cases spread e part) cases in
      if_few (IsCaseOf Tells s) (nat_le (length more) most_cases) (spread_cases spread e parts more) (numbered_all spread parts more reads
      (all_flat (IsCaseOf MayTell s) (part_cases spread e part) cases
      (all_map (IsCaseOf MayTell s) _ cases (λ c own. part_all MayTell c own may_be spread part) all)))

  or_all : (P : AbstractState → Type 0) (found : Option (List AbstractState)) (later : List AbstractState) → AllIn P found →
      AllByRecursion P later → AllByRecursion P (or_cases found later)
  or_all P None later first second = second
  or_all P (Some cases) later first second = first

  found_all : (P : AbstractState → Type 0) (found : Option (List AbstractState)) (later : List AbstractState) → AllIn P found →
      is_some found ≡ true → AllByRecursion P (or_cases found later)
  found_all P None later first is = absurd (cc)
  found_all P (Some cases) later first is = first

  -- each says no less but for ISAR, of which it knows one of the entry's numbers or nothing
  each_case_is : (op : Op) → AllByRecursion (IsCaseOf MayTell s) (cases_of op e)
  unfolding cases_of
  each_case_is op =
      let plain : AllByRecursion (IsCaseOf MayTell s) (plain_case e ∷ []) = (plain_is, tt) in
      let from : (spread : Spread) → AllIn (IsCaseOf MayTell s) (spread_cases spread e (parts_read op) (plain_case e ∷ [])) =
      λ spread. spread_all MayTell may_be spread (parts_read op) (plain_case e ∷ []) plain in
      or_all (IsCaseOf MayTell s) _ _ (from EachByte)
      (or_all (IsCaseOf MayTell s) _ _ (from ListedBytes) (or_all (IsCaseOf MayTell s) _ _ (from NoByte) plain))

  -- where ISAR is read each has one of its numbers
  each_numbered_case : (op : Op) → reads_isar op ≡ true → AllByRecursion (IsCaseOf Tells s) (cases_of op e)
  unfolding cases_of
  each_numbered_case op reads =
      let plain : AllByRecursion (IsCaseOf MayTell s) (plain_case e ∷ []) = (plain_is, tt) in
      let from : (spread : Spread) → AllIn (IsCaseOf Tells s) (spread_cases spread e (parts_read op) (plain_case e ∷ [])) =
      λ spread. numbered_all spread (parts_read op) (plain_case e ∷ []) reads plain in
      or_all (IsCaseOf Tells s) _ _ (from EachByte)
      (or_all (IsCaseOf Tells s) _ _ (from ListedBytes) (found_all (IsCaseOf Tells s) _ _ (from NoByte) (enough_cases p s op reads)))

  pub case_under : (op : Op) (c : AbstractState) → IsIn c (cases_of op e) → IsCaseUnder op s c
  unfolding noted_entry
  case_under op c is = record {
    own = from_all (IsCaseOf MayTell s) (cases_of op e) c (each_case_is op) is;
    numbered = λ reads.
        let one = from_all (IsCaseOf Tells s) (cases_of op e) c (each_numbered_case op reads) is in
        one.digits;
  }
