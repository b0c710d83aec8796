-- An instruction that reads ISAR reads it first, and few parts besides: so the cases of its entry are few enough, and behind it both digits
-- are known.
use Rattle.std.proofs.Common.{◌≡◌, ℕ, ◌≤◌, ◌+◌, ◌%◌, Bool, true, false, List, [], ◌∷◌, ◌++◌, length, map, refl, arith}
use Rattle.std.specs.Prelude.{Option, Some, None, if◌then◌else◌, nat_lt, ◌==◌, flat_map, option_map, is_some}
use Rattle.std.specs.List.{list_all, list_any}
use Rattle.std.proofs.lemmas.Bool.{and_parts, both_ways, le-leb}
use Rattle.std.proofs.lemmas.List.{length-append, length-map}
use Rattle.f8_spec.specs.declared.instructions.Op.{Op}
use Rattle.f8_spec.specs.declared.instructions.Op.TheVariants.{LrAIs, LrIsA, Ds, LrAR, LrRA, Lisu, Lisl, Bt, Bf, Br7, As, Asd, Xs, Ns}
use Rattle.abs_domain.specs.AbstractState.{AbstractState, KnownRegisters}
use Rattle.abs_domain.specs.declared.points.Point.{Point}
use Rattle.abs_step.specs.KnownResults.{stepped_digit, known_effect}
use Rattle.case_step.specs.Entries.{EntryView}
use Rattle.case_step.specs.Effects.{chosen, pointer, field_reads, parts_read}
use Rattle.case_step.specs.Cases.{plain_case, with_isar, register_cases, part_cases, spread_cases, pointed_register}
use Rattle.case_step.specs.declared.part.Part.{Part}
use Rattle.case_step.specs.declared.part.Part.TheVariants.{Accumulator, Isar, Sign, Carry, Zero, Overflow}
use Rattle.case_step.specs.declared.part.Part.TheVariants.{Register, Pointed}
use Rattle.case_step.specs.declared.spread.Spread.TheVariants.{NoByte}
use Rattle.noted_cases.specs.NotedEntries.{noted_entry}
use Rattle.noted_cases.proofs.IsarApart.{is_isar, reads_isar}
use Rattle.noted_cases.proofs.NumberSets.{few_numbers}

-- ---- what is read beside ISAR: bytes, which aren't spread where cases are to be few

is_byte : Part → Bool
is_byte Accumulator = true
is_byte (Register number) = true
is_byte Pointed = true
is_byte part = false

-- ISAR is first, and all others are bytes
begins_with_isar : List Part → Bool
unfolding is_byte
begins_with_isar (Isar ∷ parts) = list_all is_byte parts
begins_with_isar parts = false

-- no flag that is chosen is ISAR
none_chosen : (a b c d : Bool) →
    list_any is_isar (chosen a Sign ++ (chosen b Carry ++ (chosen c Zero ++ chosen d Overflow))) ≡ false
none_chosen true true true true = refl
none_chosen true true true false = refl
none_chosen true true false true = refl
none_chosen true true false false = refl
none_chosen true false true true = refl
none_chosen true false true false = refl
none_chosen true false false true = refl
none_chosen true false false false = refl
none_chosen false true true true = refl
none_chosen false true true false = refl
none_chosen false true false true = refl
none_chosen false true false false = refl
none_chosen false false true true = refl
none_chosen false false true false = refl
none_chosen false false false true = refl
none_chosen false false false false = refl

-- a register by its field, and perhaps the accumulator
field_first : (field : ℕ) (rest : List Part) → list_any is_isar rest ≡ false → list_all is_byte rest ≡ true →
    list_any is_isar (field_reads field ++ rest) ≡ true → begins_with_isar (field_reads field ++ rest) ≡ true
unfolding begins_with_isar is_byte
field_first field rest none bytes reads = by (nat_lt field 12) reads
  where
    by : (b : Bool) → list_any is_isar (((if b then [] else Isar ∷ []) ++ (if b then Register field else Pointed) ∷ []) ++ rest) ≡ true →
        begins_with_isar (((if b then [] else Isar ∷ []) ++ (if b then Register field else Pointed) ∷ []) ++ rest) ≡ true
    by true reads = absurd (cc)
    by false reads = bytes

own_first : (field : ℕ) → list_any is_isar (field_reads field) ≡ true → begins_with_isar (field_reads field) ≡ true
unfolding begins_with_isar is_byte
own_first field reads = by (nat_lt field 12) reads
  where
    by : (b : Bool) → list_any is_isar ((if b then [] else Isar ∷ []) ++ (if b then Register field else Pointed) ∷ []) ≡ true →
        begins_with_isar ((if b then [] else Isar ∷ []) ++ (if b then Register field else Pointed) ∷ []) ≡ true
    by true reads = absurd (cc)
    by false reads = refl

pointer_first : (field : ℕ) → list_any is_isar (pointer field ++ Accumulator ∷ []) ≡ true →
    begins_with_isar (pointer field ++ Accumulator ∷ []) ≡ true
unfolding begins_with_isar is_byte
pointer_first field reads = by (nat_lt field 12) reads
  where
    by : (b : Bool) → list_any is_isar ((if b then [] else Isar ∷ []) ++ Accumulator ∷ []) ≡ true →
        begins_with_isar ((if b then [] else Isar ∷ []) ++ Accumulator ∷ []) ≡ true
    by true reads = absurd (cc)
    by false reads = refl

isar_first : (op : Op) → reads_isar op ≡ true → begins_with_isar (parts_read op) ≡ true
unfolding parts_read begins_with_isar is_byte
isar_first LrAIs reads = refl
isar_first (Ds r) reads = own_first r reads
isar_first (LrAR r) reads = own_first r reads
isar_first (LrRA r) reads = pointer_first r reads
isar_first (Lisu n) reads = refl
isar_first (Lisl n) reads = refl
isar_first (Bt t) reads = absurd (both_ways _ (none_chosen _ _ _ _) reads)
isar_first (Bf t) reads = absurd (both_ways _ (none_chosen _ _ _ _) reads)
isar_first Br7 reads = refl
isar_first (As r) reads = field_first r (Accumulator ∷ []) refl refl reads
isar_first (Asd r) reads = field_first r (Accumulator ∷ []) refl refl reads
isar_first (Xs r) reads = field_first r (Accumulator ∷ []) refl refl reads
isar_first (Ns r) reads = field_first r (Accumulator ∷ []) refl refl reads
isar_first op reads = absurd (cc)

-- ---- how many cases there are

module _ (p : Point) (s : AbstractState) where
  abbrev e : EntryView
  e = noted_entry (p, s)

  one_register : (register : Option ℕ) (c : AbstractState) → length (register_cases NoByte e register c) ≡ 1
  unfolding noted_entry
  one_register None c = refl
  one_register (Some number) c = refl

  one_byte : (part : Part) (c : AbstractState) → is_byte part ≡ true → length (part_cases NoByte e part c) ≡ 1
  unfolding is_byte noted_entry
  one_byte Accumulator c byte = refl
  one_byte (Register number) c byte = one_register (Some number) c
  one_byte Pointed c byte = one_register (pointed_register c) c
  one_byte part c byte = absurd (cc)

  as_many : (part : Part) (cases : List AbstractState) → is_byte part ≡ true →
      length (flat_map (part_cases NoByte e part) cases) ≡ length cases
  as_many part [] byte = refl
  as_many part (c ∷ cases) byte =
      let one = one_byte part c byte in
      let rest = as_many part cases byte in
      let long = length-append (part_cases NoByte e part c) (flat_map (part_cases NoByte e part) cases) in
      omega arith

  bytes_enough : (parts : List Part) (cases : List AbstractState) → list_all is_byte parts ≡ true → length cases ≤ 4096 →
      is_some (spread_cases NoByte e parts cases) ≡ true
  unfolding spread_cases
  bytes_enough [] cases bytes few = refl
  bytes_enough (part ∷ parts) cases bytes few =
      let both = and_parts (is_byte part) (list_all is_byte parts) bytes in
      let more : List AbstractState = flat_map (part_cases NoByte e part) cases in
      let long : length more ≡ length cases = as_many part cases both.0 in
      rw (le-leb (length more) 4096 (omega arith)) (bytes_enough parts more both.1 (omega arith))

  first_enough : (parts : List Part) → begins_with_isar parts ≡ true → is_some (spread_cases NoByte e parts (plain_case e ∷ [])) ≡ true
  unfolding begins_with_isar spread_cases noted_entry
  first_enough [] first = absurd (cc)
  first_enough (Isar ∷ parts) first =
      let more : List AbstractState = flat_map (part_cases NoByte e Isar) (plain_case e ∷ []) in
      let long = length-append (map (λ number. with_isar number (plain_case e)) e.isar) [] in
      let mapped = length-map e.isar (λ number. with_isar number (plain_case e)) in
      let few = few_numbers (record { high = s.registers.high; low = s.registers.low }) in
      rw (le-leb (length more) 4096 (omega arith)) (bytes_enough parts more first (omega arith))
  first_enough (part ∷ parts) first = absurd (cc)

  -- where ISAR is read there aren't too many cases
  pub enough_cases : (op : Op) → reads_isar op ≡ true → is_some (spread_cases NoByte e (parts_read op) (plain_case e ∷ [])) ≡ true
  enough_cases op reads = first_enough (parts_read op) (isar_first op reads)

-- ---- both digits stay known

step_known : (field : ℕ) (low : Option ℕ) → is_some low ≡ true → is_some (stepped_digit field low) ≡ true
step_known field None known = absurd (cc)
step_known field (Some low) known = by (field == 13) (field == 14)
  where
    by : (up down : Bool) →
        is_some (if up then option_map (λ digit. (digit + 1) % 8) (Some low)
        else if down then option_map (λ digit. (digit + 7) % 8) (Some low) else Some low) ≡ true
    by true down = refl
    by false true = refl
    by false false = refl

pub high_known : (op : Op) (byte : Option ℕ) (k : KnownRegisters) → reads_isar op ≡ true → is_some k.high ≡ true →
    is_some (known_effect op byte k).high ≡ true
unfolding known_effect parts_read
high_known LrIsA byte k reads known = absurd (cc)
high_known (Lisu n) byte k reads known = refl
high_known op byte k reads known = known

pub low_known : (op : Op) (byte : Option ℕ) (k : KnownRegisters) → reads_isar op ≡ true → is_some k.low ≡ true →
    is_some (known_effect op byte k).low ≡ true
unfolding known_effect parts_read
low_known LrIsA byte k reads known = absurd (cc)
low_known (Lisl n) byte k reads known = refl
low_known (Ds r) byte k reads known = step_known r k.low known
low_known (LrAR r) byte k reads known = step_known r k.low known
low_known (LrRA r) byte k reads known = step_known r k.low known
low_known (As r) byte k reads known = step_known r k.low known
low_known (Asd r) byte k reads known = step_known r k.low known
low_known (Xs r) byte k reads known = step_known r k.low known
low_known (Ns r) byte k reads known = step_known r k.low known
low_known op byte k reads known = known
