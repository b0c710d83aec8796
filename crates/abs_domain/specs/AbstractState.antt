-- An abstract state: what is known of the registers, of the data counters and of the chips' copies of them; and which of two says less.
use Rattle.std.specs.Prelude.{ℕ, ◌≡◌, Bool, Option, List, length}
use Rattle.std.specs.List.{AllZip}
use Rattle.abs_domain.specs.Lattice.{Below, FactBelow}

-- ---- the state

-- the flags of the status word, and its interrupt control bit
pub record KnownStatus : Type 0 where
  pub sign : Option Bool
  pub carry : Option Bool
  pub zero : Option Bool
  pub overflow : Option Bool
  pub icb : Option Bool

-- what the processor itself keeps; ISAR is two octal digits
pub record KnownRegisters : Type 0 where
  pub accumulator : Option ℕ
  pub high : Option ℕ
  pub low : Option ℕ
  pub status : KnownStatus
  pub scratchpad : List (Option ℕ)

-- The data counters, and what holds of the chips' copies of them: c is the DC0 of every 3851; s0 and s1 say that the DC0 and the DC1 of
-- every 3853 are D0 and D1; p0 and p1 that the DC0 of every 3851 is D0, and that it is D1.
pub record KnownCounters : Type 0 where
  pub d0 : Option ℕ
  pub d1 : Option ℕ
  pub c : Option ℕ
  pub s0 : Bool
  pub s1 : Bool
  pub p0 : Bool
  pub p1 : Bool

pub record AbstractState : Type 0 where
  pub registers : KnownRegisters
  pub counters : KnownCounters

-- the scratchpad has all its 64 registers
abbrev pub HasScratchpad : AbstractState → Type 0
HasScratchpad s = length s.registers.scratchpad ≡ 64

-- ---- the order: the upper state says less

pub record StatusBelow (lower upper : KnownStatus) : Type 0 where
  pub sign : Below lower.sign upper.sign
  pub carry : Below lower.carry upper.carry
  pub zero : Below lower.zero upper.zero
  pub overflow : Below lower.overflow upper.overflow
  pub icb : Below lower.icb upper.icb

pub record RegistersBelow (lower upper : KnownRegisters) : Type 0 where
  pub accumulator : Below lower.accumulator upper.accumulator
  pub high : Below lower.high upper.high
  pub low : Below lower.low upper.low
  pub status : StatusBelow lower.status upper.status
  pub scratchpad : AllZip Below lower.scratchpad upper.scratchpad

pub record CountersBelow (lower upper : KnownCounters) : Type 0 where
  pub d0 : Below lower.d0 upper.d0
  pub d1 : Below lower.d1 upper.d1
  pub c : Below lower.c upper.c
  pub s0 : FactBelow lower.s0 upper.s0
  pub s1 : FactBelow lower.s1 upper.s1
  pub p0 : FactBelow lower.p0 upper.p0
  pub p1 : FactBelow lower.p1 upper.p1

pub record StateBelow (lower upper : AbstractState) : Type 0 where
  pub registers : RegistersBelow lower.registers upper.registers
  pub counters : CountersBelow lower.counters upper.counters
