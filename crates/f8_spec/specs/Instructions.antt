-- The instruction table (Fairchild F8 User's Guide): opcodes, lengths, clocks and names. The clocks follow from the lists of bus
-- steps, which are this project's own choice after the manual, and so do the shielding instructions and the reserved opcodes.
use Rattle.std.specs.Prelude.{◌≡◌, ℕ, ◌+◌, ◌-◌, ◌<◌, ◌≤◌, ◌⊎◌, Bool, true, false, ◌&&◌, nat_lt, nat_le, ◌==◌, if◌then◌else◌, List, codes}
use Rattle.std.specs.Prelude.{Option, Some, None}
use Rattle.f8_spec.specs.declared.instructions.Op.{Op}
use Rattle.f8_spec.specs.declared.instructions.Op.TheVariants.{LrAKu, LrAKl, LrAQu, LrAQl, LrKuA, LrKlA, LrQuA, LrQlA}
use Rattle.f8_spec.specs.declared.instructions.Op.TheVariants.{LrKP, LrPK, LrAIs, LrIsA, Pk, LrP0Q, LrQDc, LrDcQ, LrDcH}
use Rattle.f8_spec.specs.declared.instructions.Op.TheVariants.{LrHDc, Sr1, Sl1, Sr4, Sl4, Lm, St, Com, Lnk, Di, Ei, Pop}
use Rattle.f8_spec.specs.declared.instructions.Op.TheVariants.{LrWJ, LrJW, Inc, Li, Ni, Oi, Xi, Ai, Ci, In, Out, Pi}
use Rattle.f8_spec.specs.declared.instructions.Op.TheVariants.{Jmp, Dci, Nop, Xdc, Ds, LrAR, LrRA, Lisu, Lisl, Lis, Bt}
use Rattle.f8_spec.specs.declared.instructions.Op.TheVariants.{Am, Amd, Nm, Om, Xm, Cm, Adc, Br7, Bf, Ins, Outs, As}
use Rattle.f8_spec.specs.declared.instructions.Op.TheVariants.{Asd, Xs, Ns}
use Rattle.f8_spec.specs.declared.instructions.Row.{Row}
use Rattle.f8_spec.specs.declared.instructions.Row.TheVariants.{Plain, PlainLong, Idle, StackToK, StackFromK, CallK}
use Rattle.f8_spec.specs.declared.instructions.Row.TheVariants.{JumpQ, DataToPair, DataFromQ, DataFromH, ReadData}
use Rattle.f8_spec.specs.declared.instructions.Row.TheVariants.{StoreData, Return, Immediate, PortIn, PortOut, Call}
use Rattle.f8_spec.specs.declared.instructions.Row.TheVariants.{Jump, LoadData, Exchange, AddData, Branch, BranchIsar}
use Rattle.f8_spec.specs.declared.instructions.Row.TheVariants.{ShortIn, ShortOut}

-- ---- opcodes

-- the fields of an instruction lie in their ranges
abbrev pub InRange : Op → Type 0
InRange (Ds r) = r < 15
InRange (LrAR r) = r < 15
InRange (LrRA r) = r < 15
InRange (Lisu n) = n < 8
InRange (Lisl n) = n < 8
InRange (Lis n) = n < 16
InRange (Bt t) = t < 8
InRange (Bf t) = t < 16
InRange (As r) = r < 15
InRange (Asd r) = r < 15
InRange (Xs r) = r < 15
InRange (Ns r) = r < 15
InRange (Ins n) = (n < 2) ⊎ ((4 ≤ n) × (n < 16))
InRange (Outs n) = (n < 2) ⊎ ((4 ≤ n) × (n < 16))
InRange op = Unit {0}

-- the opcode of an instruction
abbrev pub encoded : Op → ℕ
encoded LrAKu = 0x00
encoded LrAKl = 0x01
encoded LrAQu = 0x02
encoded LrAQl = 0x03
encoded LrKuA = 0x04
encoded LrKlA = 0x05
encoded LrQuA = 0x06
encoded LrQlA = 0x07
encoded LrKP = 0x08
encoded LrPK = 0x09
encoded LrAIs = 0x0A
encoded LrIsA = 0x0B
encoded Pk = 0x0C
encoded LrP0Q = 0x0D
encoded LrQDc = 0x0E
encoded LrDcQ = 0x0F
encoded LrDcH = 0x10
encoded LrHDc = 0x11
encoded Sr1 = 0x12
encoded Sl1 = 0x13
encoded Sr4 = 0x14
encoded Sl4 = 0x15
encoded Lm = 0x16
encoded St = 0x17
encoded Com = 0x18
encoded Lnk = 0x19
encoded Di = 0x1A
encoded Ei = 0x1B
encoded Pop = 0x1C
encoded LrWJ = 0x1D
encoded LrJW = 0x1E
encoded Inc = 0x1F
encoded Li = 0x20
encoded Ni = 0x21
encoded Oi = 0x22
encoded Xi = 0x23
encoded Ai = 0x24
encoded Ci = 0x25
encoded In = 0x26
encoded Out = 0x27
encoded Pi = 0x28
encoded Jmp = 0x29
encoded Dci = 0x2A
encoded Nop = 0x2B
encoded Xdc = 0x2C
encoded (Ds r) = 0x30 + r
encoded (LrAR r) = 0x40 + r
encoded (LrRA r) = 0x50 + r
encoded (Lisu n) = 0x60 + n
encoded (Lisl n) = 0x68 + n
encoded (Lis n) = 0x70 + n
encoded (Bt t) = 0x80 + t
encoded Am = 0x88
encoded Amd = 0x89
encoded Nm = 0x8A
encoded Om = 0x8B
encoded Xm = 0x8C
encoded Cm = 0x8D
encoded Adc = 0x8E
encoded Br7 = 0x8F
encoded (Bf t) = 0x90 + t
encoded (Ins n) = 0xA0 + n
encoded (Outs n) = 0xB0 + n
encoded (As r) = 0xC0 + r
encoded (Asd r) = 0xD0 + r
encoded (Xs r) = 0xE0 + r
encoded (Ns r) = 0xF0 + r

-- The opcodes that no instruction has. That they stop a run is this project's own.
abbrev pub IsReserved : ℕ → Type 0
IsReserved code =
    (code ≡ 0x2D) ⊎ (code ≡ 0x2E) ⊎ (code ≡ 0x2F) ⊎ (code ≡ 0x3F) ⊎ (code ≡ 0x4F) ⊎ (code ≡ 0x5F) ⊎ (code ≡ 0xA2)
    ⊎ (code ≡ 0xA3) ⊎ (code ≡ 0xB2) ⊎ (code ≡ 0xB3) ⊎ (code ≡ 0xCF) ⊎ (code ≡ 0xDF) ⊎ (code ≡ 0xEF) ⊎ (code ≡ 0xFF)

-- the instruction with an opcode, and none for a reserved one and past a byte
unfoldable pub decoded : ℕ → Option Op
decoded code =
    if code == 0x00 then Some LrAKu else
    if code == 0x01 then Some LrAKl else
    if code == 0x02 then Some LrAQu else
    if code == 0x03 then Some LrAQl else
    if code == 0x04 then Some LrKuA else
    if code == 0x05 then Some LrKlA else
    if code == 0x06 then Some LrQuA else
    if code == 0x07 then Some LrQlA else
    if code == 0x08 then Some LrKP else
    if code == 0x09 then Some LrPK else
    if code == 0x0A then Some LrAIs else
    if code == 0x0B then Some LrIsA else
    if code == 0x0C then Some Pk else
    if code == 0x0D then Some LrP0Q else
    if code == 0x0E then Some LrQDc else
    if code == 0x0F then Some LrDcQ else
    if code == 0x10 then Some LrDcH else
    if code == 0x11 then Some LrHDc else
    if code == 0x12 then Some Sr1 else
    if code == 0x13 then Some Sl1 else
    if code == 0x14 then Some Sr4 else
    if code == 0x15 then Some Sl4 else
    if code == 0x16 then Some Lm else
    if code == 0x17 then Some St else
    if code == 0x18 then Some Com else
    if code == 0x19 then Some Lnk else
    if code == 0x1A then Some Di else
    if code == 0x1B then Some Ei else
    if code == 0x1C then Some Pop else
    if code == 0x1D then Some LrWJ else
    if code == 0x1E then Some LrJW else
    if code == 0x1F then Some Inc else
    if code == 0x20 then Some Li else
    if code == 0x21 then Some Ni else
    if code == 0x22 then Some Oi else
    if code == 0x23 then Some Xi else
    if code == 0x24 then Some Ai else
    if code == 0x25 then Some Ci else
    if code == 0x26 then Some In else
    if code == 0x27 then Some Out else
    if code == 0x28 then Some Pi else
    if code == 0x29 then Some Jmp else
    if code == 0x2A then Some Dci else
    if code == 0x2B then Some Nop else
    if code == 0x2C then Some Xdc else
    if nat_le 0x30 code && nat_lt code 0x3F then Some (Ds (code - 0x30)) else
    if nat_le 0x40 code && nat_lt code 0x4F then Some (LrAR (code - 0x40)) else
    if nat_le 0x50 code && nat_lt code 0x5F then Some (LrRA (code - 0x50)) else
    if nat_le 0x60 code && nat_lt code 0x68 then Some (Lisu (code - 0x60)) else
    if nat_le 0x68 code && nat_lt code 0x70 then Some (Lisl (code - 0x68)) else
    if nat_le 0x70 code && nat_lt code 0x80 then Some (Lis (code - 0x70)) else
    if nat_le 0x80 code && nat_lt code 0x88 then Some (Bt (code - 0x80)) else
    if code == 0x88 then Some Am else
    if code == 0x89 then Some Amd else
    if code == 0x8A then Some Nm else
    if code == 0x8B then Some Om else
    if code == 0x8C then Some Xm else
    if code == 0x8D then Some Cm else
    if code == 0x8E then Some Adc else
    if code == 0x8F then Some Br7 else
    if nat_le 0x90 code && nat_lt code 0xA0 then Some (Bf (code - 0x90)) else
    if nat_le 0xA0 code && nat_lt code 0xA2 then Some (Ins (code - 0xA0)) else
    if nat_le 0xA4 code && nat_lt code 0xB0 then Some (Ins (code - 0xA0)) else
    if nat_le 0xB0 code && nat_lt code 0xB2 then Some (Outs (code - 0xB0)) else
    if nat_le 0xB4 code && nat_lt code 0xC0 then Some (Outs (code - 0xB0)) else
    if nat_le 0xC0 code && nat_lt code 0xCF then Some (As (code - 0xC0)) else
    if nat_le 0xD0 code && nat_lt code 0xDF then Some (Asd (code - 0xD0)) else
    if nat_le 0xE0 code && nat_lt code 0xEF then Some (Xs (code - 0xE0)) else
    if nat_le 0xF0 code && nat_lt code 0xFF then Some (Ns (code - 0xF0)) else
    None

-- ---- rows of the table

abbrev pub row_of : Op → Row
row_of LrKP = StackToK
row_of LrPK = StackFromK
row_of Pk = CallK
row_of LrP0Q = JumpQ
row_of LrQDc = DataToPair
row_of LrDcQ = DataFromQ
row_of LrDcH = DataFromH
row_of LrHDc = DataToPair
row_of Lm = ReadData
row_of St = StoreData
row_of Di = Idle
row_of Ei = Idle
row_of Pop = Return
row_of LrWJ = Idle
row_of Li = Immediate
row_of Ni = Immediate
row_of Oi = Immediate
row_of Xi = Immediate
row_of Ai = Immediate
row_of Ci = Immediate
row_of In = PortIn
row_of Out = PortOut
row_of Pi = Call
row_of Jmp = Jump
row_of Dci = LoadData
row_of Xdc = Exchange
row_of (Ds r) = PlainLong
row_of (Bt t) = Branch
row_of Am = ReadData
row_of Amd = ReadData
row_of Nm = ReadData
row_of Om = ReadData
row_of Xm = ReadData
row_of Cm = ReadData
row_of Adc = AddData
row_of Br7 = BranchIsar
row_of (Bf t) = Branch
row_of (Ins n) = if nat_lt n 2 then Idle else ShortIn
row_of (Outs n) = if nat_lt n 2 then Idle else ShortOut
row_of (Asd r) = Idle
row_of op = Plain

-- the bytes that an instruction takes, its opcode counted
abbrev pub row_length : Row → ℕ
row_length Immediate = 2
row_length PortIn = 2
row_length PortOut = 2
row_length Branch = 2
row_length BranchIsar = 2
row_length Call = 3
row_length Jump = 3
row_length LoadData = 3
row_length row = 1

-- the last fetch, of the next opcode, is a long step
abbrev pub has_long_fetch : Row → Bool
has_long_fetch PlainLong = true
has_long_fetch row = false

-- the clocks of an instruction, in Φ; the flag says that a branch is taken
abbrev pub row_clocks : Row → Bool → ℕ
row_clocks Plain taken = 4
row_clocks PlainLong taken = 6
row_clocks Idle taken = 8
row_clocks StackToK taken = 16
row_clocks StackFromK taken = 16
row_clocks CallK taken = 16
row_clocks JumpQ taken = 16
row_clocks DataToPair taken = 16
row_clocks DataFromQ taken = 16
row_clocks DataFromH taken = 16
row_clocks ReadData taken = 10
row_clocks StoreData taken = 10
row_clocks Return taken = 8
row_clocks Immediate taken = 10
row_clocks PortIn taken = 16
row_clocks PortOut taken = 16
row_clocks Call taken = 26
row_clocks Jump taken = 22
row_clocks LoadData taken = 24
row_clocks Exchange taken = 8
row_clocks AddData taken = 10
row_clocks Branch taken = if taken then 14 else 12
row_clocks BranchIsar taken = if taken then 10 else 8
row_clocks ShortIn taken = 16
row_clocks ShortOut taken = 16

-- ---- by instruction

abbrev pub length_of : Op → ℕ
length_of op = row_length (row_of op)

abbrev pub clocks_of : Op → Bool → ℕ
clocks_of op taken = row_clocks (row_of op) taken

-- a short bus step takes 4 Φ, and a long one 6
abbrev pub step_clocks : Bool → ℕ
step_clocks long = if long then 6 else 4

-- the clocks of the last fetch, and of the bus steps before it
abbrev pub fetch_clocks : Row → ℕ
fetch_clocks row = step_clocks (has_long_fetch row)

abbrev pub clocks_before_fetch : Op → Bool → ℕ
clocks_before_fetch op taken = clocks_of op taken - fetch_clocks (row_of op)

-- the clocks of an interrupt, which takes the place of the last fetch
abbrev pub interrupt_clocks : ℕ
interrupt_clocks = 26

-- no interrupt is taken at the end of the instruction
abbrev pub is_shielding : Op → Bool
is_shielding Pk = true
is_shielding Pi = true
is_shielding Pop = true
is_shielding Jmp = true
is_shielding Ei = true
is_shielding LrWJ = true
is_shielding Out = true
is_shielding (Outs n) = nat_le 4 n
is_shielding op = false

-- the first word of the instruction, in capitals
unfoldable pub mnemonic_of : Op → List ℕ
mnemonic_of LrAKu = codes "LR"
mnemonic_of LrAKl = codes "LR"
mnemonic_of LrAQu = codes "LR"
mnemonic_of LrAQl = codes "LR"
mnemonic_of LrKuA = codes "LR"
mnemonic_of LrKlA = codes "LR"
mnemonic_of LrQuA = codes "LR"
mnemonic_of LrQlA = codes "LR"
mnemonic_of LrKP = codes "LR"
mnemonic_of LrPK = codes "LR"
mnemonic_of LrAIs = codes "LR"
mnemonic_of LrIsA = codes "LR"
mnemonic_of Pk = codes "PK"
mnemonic_of LrP0Q = codes "LR"
mnemonic_of LrQDc = codes "LR"
mnemonic_of LrDcQ = codes "LR"
mnemonic_of LrDcH = codes "LR"
mnemonic_of LrHDc = codes "LR"
mnemonic_of Sr1 = codes "SR"
mnemonic_of Sl1 = codes "SL"
mnemonic_of Sr4 = codes "SR"
mnemonic_of Sl4 = codes "SL"
mnemonic_of Lm = codes "LM"
mnemonic_of St = codes "ST"
mnemonic_of Com = codes "COM"
mnemonic_of Lnk = codes "LNK"
mnemonic_of Di = codes "DI"
mnemonic_of Ei = codes "EI"
mnemonic_of Pop = codes "POP"
mnemonic_of LrWJ = codes "LR"
mnemonic_of LrJW = codes "LR"
mnemonic_of Inc = codes "INC"
mnemonic_of Li = codes "LI"
mnemonic_of Ni = codes "NI"
mnemonic_of Oi = codes "OI"
mnemonic_of Xi = codes "XI"
mnemonic_of Ai = codes "AI"
mnemonic_of Ci = codes "CI"
mnemonic_of In = codes "IN"
mnemonic_of Out = codes "OUT"
mnemonic_of Pi = codes "PI"
mnemonic_of Jmp = codes "JMP"
mnemonic_of Dci = codes "DCI"
mnemonic_of Nop = codes "NOP"
mnemonic_of Xdc = codes "XDC"
mnemonic_of (Ds r) = codes "DS"
mnemonic_of (LrAR r) = codes "LR"
mnemonic_of (LrRA r) = codes "LR"
mnemonic_of (Lisu n) = codes "LISU"
mnemonic_of (Lisl n) = codes "LISL"
mnemonic_of (Lis n) = codes "LIS"
mnemonic_of (Bt t) = codes "BT"
mnemonic_of Am = codes "AM"
mnemonic_of Amd = codes "AMD"
mnemonic_of Nm = codes "NM"
mnemonic_of Om = codes "OM"
mnemonic_of Xm = codes "XM"
mnemonic_of Cm = codes "CM"
mnemonic_of Adc = codes "ADC"
mnemonic_of Br7 = codes "BR7"
mnemonic_of (Bf t) = codes "BF"
mnemonic_of (Ins n) = codes "INS"
mnemonic_of (Outs n) = codes "OUTS"
mnemonic_of (As r) = codes "AS"
mnemonic_of (Asd r) = codes "ASD"
mnemonic_of (Xs r) = codes "XS"
mnemonic_of (Ns r) = codes "NS"
