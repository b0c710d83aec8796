-- The CPU's own ports go with the ports 0 and 1 of the flat machine.
use Rattle.std.proofs.Common.{◌≡◌, ◌==◌, ℕ, zero, suc, ◌≤◌, Bool, true, false, List, [], ◌∷◌, length, refl, ap, arith}
use Rattle.std.specs.Prelude.{Some, None, nat_lt, if◌then◌else◌, slice_index, slice_set}
use Rattle.std.proofs.lemmas.Bool.{le-ltb, ne_eqb}
use Rattle.f8_spec.specs.BusArbitration.{Seat}
use Rattle.f8_spec.specs.Words.{places_on}
use Rattle.f8_spec.specs.declared.instructions.Op.{Op}
use Rattle.f8_spec.specs.declared.instructions.Op.TheVariants.{Out, Ins, Outs}
use Rattle.console_spec.specs.AddressSpace.{byte_at}
use Rattle.console_spec.specs.Writes.{latch_of, takers}
use Rattle.console_spec.specs.declared.PortWrite.{PortWrite}
use Rattle.console_spec.specs.Processor.{State, own_inputs, read_port, if_taken, written_port, write_at, with_write, with_key}
use Rattle.console_spec.specs.FlatStep.{after_instruction}
use Rattle.cpu3850.specs.CpuPorts.{with_own_key, read_by, put_by}
use Rattle.cpu3850.specs.Reaching.{from_cpu}
use Rattle.cpu3850.specs.OwnWrites.{own_ports, LeaveOwnPorts}

-- what `INS` reads of a port of the CPU's own is what the flat machine reads there
read_by-ins : (n operand : ℕ) (seats : List Seat) (s : State) →
    read_by (Ins n) (read_port (Ins n) operand seats s) (own_ports s) ≡ read_port (Ins n) operand seats s
read_by-ins zero operand seats s = refl
read_by-ins (suc zero) operand seats s = refl
read_by-ins (suc (suc n)) operand seats s =
    let others : nat_lt (suc (suc n)) 2 ≡ false = le-ltb (suc (suc n)) 2 (omega arith) in
    rw others refl

-- the same of every instruction
pub read_by-own_ports : (op : Op) (operand : ℕ) (seats : List Seat) (s : State) →
    read_by op (read_port op operand seats s) (own_ports s) ≡ read_port op operand seats s
read_by-own_ports (Ins n) operand seats s = read_by-ins n operand seats s
read_by-own_ports op operand seats s = refl

-- so what the flat machine gives an instruction is what the instruction gets from the CPU
pub from_cpu-own_inputs : (op : Op) (rom : List ℕ) (seats : List Seat) (s : State) (opcode : ℕ) →
    from_cpu op (record { registers = s.registers; ports = own_ports s; opcode = opcode }) (own_inputs op rom seats s) ≡ own_inputs op rom seats s
unfolding own_inputs
from_cpu-own_inputs op rom seats s opcode =
    ap (λ (byte : ℕ). record (own_inputs op rom seats s) { port_byte = byte }) (read_by-own_ports op (byte_at rom (places_on s.flow.p 1)) seats s)

-- ---- key bytes

-- the first two key bytes, with one of all set, where there are two
own_keys-set : (keys : List ℕ) (port byte : ℕ) → 2 ≤ length keys →
    slice_index (slice_set keys port byte) 0 ∷ slice_index (slice_set keys port byte) 1 ∷ []
    ≡ slice_set (slice_index keys 0 ∷ slice_index keys 1 ∷ []) port byte
own_keys-set [] port byte two = absurd (omega arith)
own_keys-set (a ∷ []) port byte two = absurd (omega arith)
own_keys-set (a ∷ b ∷ rest) zero byte two = refl
own_keys-set (a ∷ b ∷ rest) (suc zero) byte two = refl
own_keys-set (a ∷ b ∷ rest) (suc (suc n)) byte two = refl

-- a key byte comes to both alike
pub own_ports-with_key : (port byte : ℕ) (s : State) → 2 ≤ length s.keys → own_ports (with_key port byte s) ≡ with_own_key port byte (own_ports s)
own_ports-with_key port byte s two = ap (λ keys. record (own_ports s) { keys = keys }) (own_keys-set s.keys port byte two)

-- ---- writes

-- the latches of the ports 0 and 1, after these writes
abbrev latches_of : List PortWrite → List ℕ
latches_of ws = latch_of 0 ws ∷ latch_of 1 ws ∷ []

-- a write of another port leaves both
latches-other : (port phi byte : ℕ) (ws : List PortWrite) → 2 ≤ port → latches_of (with_write (write_at phi byte (Some port)) ws) ≡ latches_of ws
latches-other port phi byte ws other =
    let no_zero : (port == 0) ≡ false = ne_eqb port 0 (λ same. omega arith) in
    let no_one : (port == 1) ≡ false = ne_eqb port 1 (λ same. omega arith) in
    rw (no_zero, no_one) refl

-- the same where there may be no write at all
latches-maybe : (b : Bool) (port phi byte : ℕ) (ws : List PortWrite) → 2 ≤ port →
    latches_of (with_write (write_at phi byte (if b then Some port else None)) ws) ≡ latches_of ws
latches-maybe true port phi byte ws other = latches-other port phi byte ws other
latches-maybe false port phi byte ws other = refl

-- a write that goes to chips leaves both, where no chip has them
latches-taken : (port phi byte : ℕ) (seats : List Seat) (ws : List PortWrite) → LeaveOwnPorts seats →
    latches_of (with_write (write_at phi byte (if_taken port seats)) ws) ≡ latches_of ws
latches-taken zero phi byte seats ws leave = rw (leave.port_0) refl
latches-taken (suc zero) phi byte seats ws leave = rw (leave.port_1) refl
latches-taken (suc (suc n)) phi byte seats ws leave = latches-maybe (takers (suc (suc n)) seats == 1) (suc (suc n)) phi byte ws (omega arith)

-- a write of `OUTS` is one of the CPU's own ports, or one that goes to chips
latches-outs : (n phi byte : ℕ) (seats : List Seat) (ws : List PortWrite) (keys : List ℕ) → LeaveOwnPorts seats →
    record {
      latches = latches_of (with_write (write_at phi byte (if nat_lt n 2 then Some n else if_taken n seats)) ws);
      keys = keys;
    } ≡ put_by (Outs n) byte (record { latches = latches_of ws; keys = keys })
latches-outs zero phi byte seats ws keys leave = refl
latches-outs (suc zero) phi byte seats ws keys leave = refl
latches-outs (suc (suc n)) phi byte seats ws keys leave =
    let others : nat_lt (suc (suc n)) 2 ≡ false = le-ltb (suc (suc n)) 2 (omega arith) in
    rw others (ap (λ latches. record { latches = latches; keys = keys }) (latches-taken (suc (suc n)) phi byte seats ws leave))

-- the write of any instruction
written : (op : Op) (operand phi byte : ℕ) (seats : List Seat) (ws : List PortWrite) (keys : List ℕ) → LeaveOwnPorts seats →
    record { latches = latches_of (with_write (write_at phi byte (written_port op operand seats)) ws); keys = keys }
    ≡ put_by op byte (record { latches = latches_of ws; keys = keys })
written Out operand phi byte seats ws keys leave = ap (λ latches. record { latches = latches; keys = keys }) (latches-taken operand phi byte seats ws leave)
written (Outs n) operand phi byte seats ws keys leave = latches-outs n phi byte seats ws keys leave
written op operand phi byte seats ws keys leave = refl

-- an instruction leaves both alike
pub own_ports-after_instruction : (op : Op) (rom : List ℕ) (seats : List Seat) (chain : List ℕ) (s : State) → LeaveOwnPorts seats →
    own_ports (after_instruction op rom seats chain s) ≡ put_by op s.registers.accumulator (own_ports s)
unfolding own_inputs
own_ports-after_instruction op rom seats chain s leave =
    written op (byte_at rom (places_on s.flow.p 1)) _ s.registers.accumulator seats s.writes _ leave
