-- The accesses of an instruction to the bus, in order: what a chip has to answer.
use Rattle.std.specs.Prelude.{ℕ, Bool, if◌then◌else◌, List, [], ◌∷◌, ◌++◌}
use Rattle.f8_spec.specs.Words.{places_on}
use Rattle.f8_spec.specs.Instructions.{row_of}
use Rattle.f8_spec.specs.declared.instructions.Op.{Op}
use Rattle.f8_spec.specs.declared.instructions.Row.{Row}
use Rattle.f8_spec.specs.declared.instructions.Row.TheVariants.{StackToK, DataToPair, ReadData, StoreData, Immediate}
use Rattle.f8_spec.specs.declared.instructions.Row.TheVariants.{PortIn, PortOut, Call, Jump, LoadData, Branch}
use Rattle.f8_spec.specs.declared.instructions.Row.TheVariants.{BranchIsar, ShortIn, ShortOut}
use Rattle.console_spec.specs.Processor.{Flow, Inputs, counters_after}

-- An access: the code of its step, and its place, which is read on a set of counters. The flag says that the set has a second data
-- counter. A port's place is its number.
pub record Access : Type 0 where
  pub romc : ℕ
  pub place : Bool → Flow → ℕ

-- at the address n places after the instruction's own
abbrev pub ahead : ℕ → ℕ → Access
ahead romc n = record { romc = romc; place = λ second c. places_on c.p n }

abbrev pub at_data : ℕ → Access
at_data romc = record { romc = romc; place = λ second c. c.d0 }

abbrev pub at_stack : ℕ → Access
at_stack romc = record { romc = romc; place = λ second c. c.p1 }

abbrev pub at_port : ℕ → ℕ → Access
at_port romc port = record { romc = romc; place = λ second c. port }

-- the accesses before the last fetch
abbrev pub accesses_before_fetch : Row → Inputs → List Access
accesses_before_fetch StackToK i = at_stack 0x07 ∷ at_stack 0x0B ∷ []
accesses_before_fetch DataToPair i = at_data 0x06 ∷ at_data 0x09 ∷ []
accesses_before_fetch ReadData i = at_data 0x02 ∷ []
accesses_before_fetch StoreData i = at_data 0x05 ∷ []
accesses_before_fetch Immediate i = ahead 0x03 1 ∷ []
accesses_before_fetch PortIn i = ahead 0x03 1 ∷ at_port 0x1B i.operand ∷ []
accesses_before_fetch PortOut i = ahead 0x03 1 ∷ at_port 0x1A i.operand ∷ []
accesses_before_fetch Call i = ahead 0x03 1 ∷ ahead 0x0C 2 ∷ []
accesses_before_fetch Jump i = ahead 0x03 1 ∷ ahead 0x0C 2 ∷ []
accesses_before_fetch LoadData i = ahead 0x11 1 ∷ ahead 0x03 1 ∷ ahead 0x0E 2 ∷ ahead 0x03 2 ∷ []
accesses_before_fetch Branch i = ahead (if i.taken then 0x01 else 0x03) 1 ∷ []
accesses_before_fetch BranchIsar i = ahead (if i.taken then 0x01 else 0x03) 1 ∷ []
accesses_before_fetch ShortIn i = at_port 0x1B i.port ∷ []
accesses_before_fetch ShortOut i = at_port 0x1A i.port ∷ []
accesses_before_fetch row i = []

-- The fetch of the next opcode, at each set's own next address; where an interrupt is taken that is the vector. The steps before it that
-- acknowledge the interrupt need no other chip.
abbrev pub last_access : Row → Inputs → Access
last_access row i = record { romc = 0x00; place = λ second c. (counters_after row i second c).p }

abbrev pub accesses_of : Op → Inputs → List Access
accesses_of op i = accesses_before_fetch (row_of op) i ++ last_access (row_of op) i ∷ []
