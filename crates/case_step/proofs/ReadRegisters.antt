-- The registers that an instruction reads by a number are those of the scratchpad.
use Rattle.std.proofs.Common.{◌≡◌, ◌<◌, ℕ, zero, suc, Bool, true, false, List, [], ◌∷◌, ◌++◌, length, get_or, refl, ap, ◌∙◌, arith}
use Rattle.std.specs.Prelude.{if◌then◌else◌, nat_lt}
use Rattle.std.specs.List.{list_all}
use Rattle.std.proofs.lemmas.Bool.{and_parts, ltb-true, lt-ltb}
use Rattle.std.proofs.lemmas.List.Folds.{list_all-append}
use Rattle.f8_spec.specs.declared.instructions.Op.{Op}
use Rattle.f8_spec.specs.declared.instructions.Op.TheVariants.{Ds, LrAR, LrRA, Bt, Bf, As, Asd, Xs, Ns}
use Rattle.case_step.specs.Effects.{chosen, pointer, field_reads, parts_read}
use Rattle.case_step.specs.declared.part.Part.{Part}
use Rattle.case_step.specs.declared.part.Part.TheVariants.{Accumulator, Isar, Sign, Carry, Zero, Overflow, Register, Pointed}

-- a register is one of the scratchpad
has_place : Part → Bool
has_place (Register number) = nat_lt number 64
has_place part = true

flag_chosen : (b : Bool) (flag : Part) (rest : List Part) → has_place flag ≡ true → list_all has_place rest ≡ true →
    list_all has_place (chosen b flag ++ rest) ≡ true
flag_chosen true flag rest here later = rw (here, later) refl
flag_chosen false flag rest here later = later

flags_chosen : (a b c d : Bool) →
    list_all has_place (chosen a Sign ++ (chosen b Carry ++ (chosen c Zero ++ chosen d Overflow))) ≡ true
unfolding has_place
flags_chosen a b c true = flag_chosen a Sign _ refl (flag_chosen b Carry _ refl (flag_chosen c Zero _ refl refl))
flags_chosen a b c false = flag_chosen a Sign _ refl (flag_chosen b Carry _ refl (flag_chosen c Zero _ refl refl))

field_has_place : (field : ℕ) → list_all has_place (field_reads field) ≡ true
unfolding has_place
field_has_place field = by (nat_lt field 12) refl
  where
    by : (b : Bool) → nat_lt field 12 ≡ b →
        list_all has_place ((if b then [] else Isar ∷ []) ++ (if b then Register field else Pointed) ∷ []) ≡ true
    by true small = let low : field < 12 = ltb-true field 12 small in rw (lt-ltb field 64 (omega arith)) refl
    by false large = refl

pointer_has_place : (field : ℕ) → list_all has_place (pointer field) ≡ true
unfolding has_place
pointer_has_place field = by (nat_lt field 12)
  where
    by : (b : Bool) → list_all has_place (if b then [] else Isar ∷ []) ≡ true
    by true = refl
    by false = refl

-- the accumulator after some parts
then_accumulator : (parts : List Part) → list_all has_place parts ≡ true → list_all has_place (parts ++ Accumulator ∷ []) ≡ true
unfolding has_place
then_accumulator parts all = list_all-append has_place parts (Accumulator ∷ []) ∙ rw all refl

reads_have_places : (op : Op) → list_all has_place (parts_read op) ≡ true
unfolding parts_read has_place
reads_have_places (Ds r) = field_has_place r
reads_have_places (LrAR r) = field_has_place r
reads_have_places (LrRA r) = then_accumulator (pointer r) (pointer_has_place r)
reads_have_places (Bt t) = flags_chosen _ _ _ _
reads_have_places (Bf t) = flags_chosen _ _ _ _
reads_have_places (As r) = then_accumulator (field_reads r) (field_has_place r)
reads_have_places (Asd r) = then_accumulator (field_reads r) (field_has_place r)
reads_have_places (Xs r) = then_accumulator (field_reads r) (field_has_place r)
reads_have_places (Ns r) = then_accumulator (field_reads r) (field_has_place r)
reads_have_places op = refl

small_at : (parts : List Part) (k : ℕ) (d : Part) → list_all has_place parts ≡ true → k < length parts → (number : ℕ) →
    get_or parts k d ≡ Register number → number < 64
unfolding has_place
small_at [] k d all within number is = absurd (omega arith)
small_at (part ∷ parts) zero d all within number is =
    let here : has_place part ≡ true = (and_parts (has_place part) (list_all has_place parts) all).0 in
    ltb-true number 64 (rw is at here)
small_at (part ∷ parts) (suc k) d all within number is =
    small_at parts k d (and_parts (has_place part) (list_all has_place parts) all).1 (omega arith) number is

pub small_registers : (op : Op) (parts : List Part) → parts ≡ parts_read op → (k : ℕ) (d : Part) → k < length parts → (number : ℕ) →
    get_or parts k d ≡ Register number → number < 64
small_registers op parts read k d = small_at parts k d (ap (list_all has_place) read ∙ reads_have_places op)
