-- What an instruction reads and what it writes, part by part (Fairchild F8 User's Guide). The program counters, which each instruction
-- writes, and the interrupt control bit, of which each step tells, aren't named; nor is what an instruction reads that makes no difference
-- to any part.
use Rattle.std.specs.Prelude.{ℕ, ◌/◌, ◌%◌, ◌==◌, ◌||◌, nat_lt, Bool, true, false, if◌then◌else◌, List, [], ◌∷◌, ◌++◌, Option, Some, None}
use Rattle.f8_spec.specs.RegisterNumbers.{register_j, register_hu, register_hl, register_ku, register_kl, register_qu, register_ql}
use Rattle.f8_spec.specs.RegisterNumbers.{pointed_field, up_field, down_field}
use Rattle.f8_spec.specs.declared.instructions.Op.{Op}
use Rattle.f8_spec.specs.declared.instructions.Op.TheVariants.{LrAKu, LrAKl, LrAQu, LrAQl, LrKuA, LrKlA, LrQuA, LrQlA, LrKP}
use Rattle.f8_spec.specs.declared.instructions.Op.TheVariants.{LrPK, LrAIs, LrIsA, Pk, LrP0Q, LrQDc, LrDcQ, LrDcH, LrHDc, Sr1}
use Rattle.f8_spec.specs.declared.instructions.Op.TheVariants.{Sl1, Sr4, Sl4, Lm, St, Com, Lnk, LrWJ, LrJW, Inc, Li, Ni, Oi}
use Rattle.f8_spec.specs.declared.instructions.Op.TheVariants.{Xi, Ai, Ci, In, Pi, Jmp, Ds, LrAR, LrRA, Lisu, Lisl, Lis, Bt}
use Rattle.f8_spec.specs.declared.instructions.Op.TheVariants.{Am, Amd, Nm, Om, Xm, Cm, Adc, Br7, Bf, Ins, As, Asd, Xs, Ns}
use Rattle.f8_spec.specs.declared.instructions.Row.{Row}
use Rattle.f8_spec.specs.declared.instructions.Row.TheVariants.{DataFromQ, DataFromH, ReadData, StoreData, LoadData, AddData}
use Rattle.case_step.specs.declared.part.Part.{Part}
use Rattle.case_step.specs.declared.part.Part.TheVariants.{Accumulator, Isar, Sign, Carry, Zero, Overflow, Icb}
use Rattle.case_step.specs.declared.part.Part.TheVariants.{Register, Pointed, DataCounter}

-- ---- registers by their fields: from 12 on a field names the register that ISAR points to, and 13 and 14 step ISAR besides

abbrev pub named : ℕ → Part
named field = if nat_lt field pointed_field then Register field else Pointed

-- what is read to know which register it is
abbrev pub pointer : ℕ → List Part
pointer field = if nat_lt field pointed_field then [] else Isar ∷ []

abbrev pub steps_isar : ℕ → Bool
steps_isar field = (field == up_field) || (field == down_field)

abbrev pub pair : ℕ → ℕ → List Part
pair high low = Register high ∷ Register low ∷ []

-- ---- reads

-- the flags that the bits of a branch choose
abbrev pub chosen : Bool → Part → List Part
chosen bit flag = if bit then flag ∷ [] else []

abbrev pub chosen_flags : ℕ → List Part
chosen_flags t =
    chosen (t % 2 == 1) Sign ++ (chosen (t / 2 % 2 == 1) Carry ++ (chosen (t / 4 % 2 == 1) Zero ++ chosen (t / 8 % 2 == 1) Overflow))

-- ISAR, where the register is named by it, and the register
abbrev pub field_reads : ℕ → List Part
field_reads field = pointer field ++ named field ∷ []

unfoldable pub parts_read : Op → List Part
parts_read LrAKu = Register register_ku ∷ []
parts_read LrAKl = Register register_kl ∷ []
parts_read LrAQu = Register register_qu ∷ []
parts_read LrAQl = Register register_ql ∷ []
parts_read LrKuA = Accumulator ∷ []
parts_read LrKlA = Accumulator ∷ []
parts_read LrQuA = Accumulator ∷ []
parts_read LrQlA = Accumulator ∷ []
parts_read LrPK = pair register_ku register_kl
parts_read LrAIs = Isar ∷ []
parts_read LrIsA = Accumulator ∷ []
parts_read Pk = pair register_ku register_kl
parts_read LrP0Q = pair register_qu register_ql
parts_read LrQDc = DataCounter ∷ []
parts_read LrDcQ = pair register_qu register_ql
parts_read LrDcH = pair register_hu register_hl
parts_read LrHDc = DataCounter ∷ []
parts_read Sr1 = Accumulator ∷ []
parts_read Sl1 = Accumulator ∷ []
parts_read Sr4 = Accumulator ∷ []
parts_read Sl4 = Accumulator ∷ []
parts_read Lm = DataCounter ∷ []
parts_read St = DataCounter ∷ []
parts_read Com = Accumulator ∷ []
parts_read Lnk = Accumulator ∷ Carry ∷ []
parts_read LrWJ = Register register_j ∷ []
parts_read LrJW = Sign ∷ Carry ∷ Zero ∷ Overflow ∷ Icb ∷ []
parts_read Inc = Accumulator ∷ []
parts_read Ni = Accumulator ∷ []
parts_read Oi = Accumulator ∷ []
parts_read Xi = Accumulator ∷ []
parts_read Ai = Accumulator ∷ []
parts_read Ci = Accumulator ∷ []
parts_read (Ds r) = field_reads r
parts_read (LrAR r) = field_reads r
parts_read (LrRA r) = pointer r ++ Accumulator ∷ []
parts_read (Lisu n) = Isar ∷ []
parts_read (Lisl n) = Isar ∷ []
parts_read (Bt t) = chosen_flags t
parts_read Am = DataCounter ∷ Accumulator ∷ []
parts_read Amd = DataCounter ∷ Accumulator ∷ []
parts_read Nm = DataCounter ∷ Accumulator ∷ []
parts_read Om = DataCounter ∷ Accumulator ∷ []
parts_read Xm = DataCounter ∷ Accumulator ∷ []
parts_read Cm = DataCounter ∷ Accumulator ∷ []
parts_read Adc = DataCounter ∷ Accumulator ∷ []
parts_read Br7 = Isar ∷ []
parts_read (Bf t) = chosen_flags t
parts_read (As r) = field_reads r ++ Accumulator ∷ []
parts_read (Asd r) = field_reads r ++ Accumulator ∷ []
parts_read (Xs r) = field_reads r ++ Accumulator ∷ []
parts_read (Ns r) = field_reads r ++ Accumulator ∷ []
parts_read op = []

-- ---- writes

unfoldable pub writes_accumulator : Op → Bool
writes_accumulator LrAKu = true
writes_accumulator LrAKl = true
writes_accumulator LrAQu = true
writes_accumulator LrAQl = true
writes_accumulator LrAIs = true
writes_accumulator Sr1 = true
writes_accumulator Sl1 = true
writes_accumulator Sr4 = true
writes_accumulator Sl4 = true
writes_accumulator Lm = true
writes_accumulator Com = true
writes_accumulator Lnk = true
writes_accumulator Inc = true
writes_accumulator Li = true
writes_accumulator Ni = true
writes_accumulator Oi = true
writes_accumulator Xi = true
writes_accumulator Ai = true
writes_accumulator In = true
writes_accumulator Pi = true
writes_accumulator Jmp = true
writes_accumulator (LrAR r) = true
writes_accumulator (Lis n) = true
writes_accumulator Am = true
writes_accumulator Amd = true
writes_accumulator Nm = true
writes_accumulator Om = true
writes_accumulator Xm = true
writes_accumulator (Ins n) = true
writes_accumulator (As r) = true
writes_accumulator (Asd r) = true
writes_accumulator (Xs r) = true
writes_accumulator (Ns r) = true
writes_accumulator op = false

-- sign, carry, zero and overflow, all four
unfoldable pub writes_flags : Op → Bool
writes_flags Sr1 = true
writes_flags Sl1 = true
writes_flags Sr4 = true
writes_flags Sl4 = true
writes_flags Com = true
writes_flags Lnk = true
writes_flags LrWJ = true
writes_flags Inc = true
writes_flags Ni = true
writes_flags Oi = true
writes_flags Xi = true
writes_flags Ai = true
writes_flags Ci = true
writes_flags In = true
writes_flags (Ds r) = true
writes_flags Am = true
writes_flags Amd = true
writes_flags Nm = true
writes_flags Om = true
writes_flags Xm = true
writes_flags Cm = true
writes_flags (Ins n) = true
writes_flags (As r) = true
writes_flags (Asd r) = true
writes_flags (Xs r) = true
writes_flags (Ns r) = true
writes_flags op = false

unfoldable pub writes_isar : Op → Bool
writes_isar LrIsA = true
writes_isar (Ds r) = steps_isar r
writes_isar (LrAR r) = steps_isar r
writes_isar (LrRA r) = steps_isar r
writes_isar (Lisu n) = true
writes_isar (Lisl n) = true
writes_isar (As r) = steps_isar r
writes_isar (Asd r) = steps_isar r
writes_isar (Xs r) = steps_isar r
writes_isar (Ns r) = steps_isar r
writes_isar op = false

-- registers of the scratchpad
unfoldable pub registers_written : Op → List Part
registers_written LrKuA = Register register_ku ∷ []
registers_written LrKlA = Register register_kl ∷ []
registers_written LrQuA = Register register_qu ∷ []
registers_written LrQlA = Register register_ql ∷ []
registers_written LrKP = pair register_ku register_kl
registers_written LrQDc = pair register_qu register_ql
registers_written LrHDc = pair register_hu register_hl
registers_written LrJW = Register register_j ∷ []
registers_written (Ds r) = named r ∷ []
registers_written (LrRA r) = named r ∷ []
registers_written op = []

-- D0, and the DC0 of every 3851 with it
abbrev pub writes_data : Row → Bool
writes_data DataFromQ = true
writes_data DataFromH = true
writes_data ReadData = true
writes_data StoreData = true
writes_data LoadData = true
writes_data AddData = true
writes_data row = false

-- ---- copies

-- the register that holds the accumulator's byte after a copy from one to the other
unfoldable pub copied : Op → Option Part
copied LrAKu = Some (Register register_ku)
copied LrAKl = Some (Register register_kl)
copied LrAQu = Some (Register register_qu)
copied LrAQl = Some (Register register_ql)
copied LrKuA = Some (Register register_ku)
copied LrKlA = Some (Register register_kl)
copied LrQuA = Some (Register register_qu)
copied LrQlA = Some (Register register_ql)
copied (LrAR r) = Some (named r)
copied (LrRA r) = Some (named r)
copied op = None
