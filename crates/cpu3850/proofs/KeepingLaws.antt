-- What an instruction changes before its last step is put back by what was kept as it began.
use Rattle.std.proofs.Common.{◌≡◌, ◌==◌, ℕ, zero, suc, ◌+◌, ◌<◌, Bool, true, false, List, [], ◌∷◌, length, set, add-zero, refl, ap, ◌∙◌}
use Rattle.std.proofs.Common.{sym, arith}
use Rattle.std.specs.Prelude.{Option, Some, None, nat_lt, if◌then◌else◌}
use Rattle.std.proofs.lemmas.Bool.{le-ltb}
use Rattle.std.proofs.lemmas.List.{set-set, set-get_or}
use Rattle.f8_spec.specs.Instructions.{decoded, row_of}
use Rattle.f8_spec.specs.declared.instructions.Op.{Op}
use Rattle.f8_spec.specs.declared.instructions.Op.TheVariants.{LrKP, LrQDc, LrHDc, Di, Ei, LrWJ, Lm, Am, Amd, Nm, Om}
use Rattle.f8_spec.specs.declared.instructions.Op.TheVariants.{Xm, Cm, Li, Ni, Oi, Xi, Ai, Ci, In, Pi, Jmp, Ins, Outs}
use Rattle.f8_spec.specs.declared.instructions.Op.TheVariants.{Asd}
use Rattle.f8_spec.specs.declared.instructions.Row.TheVariants.{Idle, ShortIn, ShortOut}
use Rattle.console_spec.specs.Processor.{Registers, effect, with_scratch, is_taken}
use Rattle.cpu3850.specs.CpuPorts.{PortBytes, with_latch, read_by, put_by}
use Rattle.cpu3850.specs.CpuSteps.{CpuState, planned_as, planned, last_step, effect_at, pair_of, worked, taken_as, taken}
use Rattle.cpu3850.specs.Keeping.{KeptRegisters, pair_as, kept_with, kept_of, restored_registers, IsRestorable}
use Rattle.cpu3850.proofs.PlanLaws.{is_no_last}

-- a byte that is put back twice, with another one between
set-set_between : (bytes : List ℕ) (i j a b c : ℕ) → set (set (set bytes j a) i b) j c ≡ set (set bytes i b) j c
set-set_between [] i j a b c = refl
set-set_between (x ∷ rest) zero zero a b c = refl
set-set_between (x ∷ rest) zero (suc j) a b c = ap (λ tail. b ∷ tail) (set-set rest j a c)
set-set_between (x ∷ rest) (suc i) zero a b c = refl
set-set_between (x ∷ rest) (suc i) (suc j) a b c = ap (λ tail. x ∷ tail) (set-set_between rest i j a b c)

-- putting back is blind to all but the scratchpad
restored_registers-same : (kept : KeptRegisters) (m n : Registers) → m.scratchpad ≡ n.scratchpad → restored_registers kept m ≡ restored_registers kept n
restored_registers-same kept m n same = ap (λ scratchpad. restored_registers kept (record m { scratchpad = scratchpad })) same

-- putting back is blind to a byte of the pair
restored-first : (kept : KeptRegisters) (byte : ℕ) (m : Registers) → restored_registers kept (with_scratch (kept.pair + 0) byte m) ≡ restored_registers kept m
restored-first kept byte m = rw (add-zero, set-set) refl

restored-second : (kept : KeptRegisters) (byte : ℕ) (m : Registers) → restored_registers kept (with_scratch (kept.pair + 1) byte m) ≡ restored_registers kept m
restored-second kept byte m = ap (λ scratchpad. record m {
  accumulator = kept.accumulator;
  isar = kept.isar;
  status = kept.status;
  scratchpad = scratchpad;
})
    (set-set_between m.scratchpad kept.pair (kept.pair + 1) byte kept.high kept.low)

-- putting back is blind to the first two steps of an instruction that loads the pair
restored-pair : (kept : KeptRegisters) (index byte : ℕ) (m : Registers) →
    restored_registers kept (if nat_lt index 2 then with_scratch (kept.pair + index) byte m else m)
    ≡ restored_registers kept m
restored-pair kept zero byte m = restored-first kept byte m
restored-pair kept (suc zero) byte m = restored-second kept byte m
restored-pair kept (suc (suc n)) byte m =
    let later : nat_lt (suc (suc n)) 2 ≡ false = le-ltb (suc (suc n)) 2 (omega arith) in
    rw later refl

-- what was kept of the registers is there
restored-kept_with : (pair : ℕ) (latches : List ℕ) (m : Registers) → restored_registers (kept_with pair latches m) m ≡ m
restored-kept_with pair latches m =
    rw (set-get_or, set-get_or) refl

-- the same of an instruction whose results come before its last step, and change no byte of the scratchpad
restored-either : (kept : KeptRegisters) (b : Bool) (m n : Registers) → m.scratchpad ≡ n.scratchpad →
    restored_registers kept (if b then m else n) ≡ restored_registers kept n
restored-either kept true m n same = restored_registers-same kept m n same
restored-either kept false m n same = refl

-- the key bytes of either of two, where they are the same
keys-either : (b : Bool) (p q : PortBytes) → p.keys ≡ q.keys → (if b then p else q).keys ≡ q.keys
keys-either true p q same = same
keys-either false p q same = refl

-- the same of `INS`, whichever port it reads
restored-in : (kept : KeptRegisters) (n index byte : ℕ) (m : Registers) (own : Bool) →
    restored_registers kept (worked (if own then Idle else ShortIn) (Ins n) index byte m) ≡ restored_registers kept m
unfolding effect
restored-in kept n index byte m true = restored-either kept (index == 0) _ m refl
restored-in kept n index byte m false = restored-either kept (index == 1) _ m refl

-- the same of `OUTS`
restored-out : (kept : KeptRegisters) (n index byte : ℕ) (m : Registers) (own : Bool) →
    restored_registers kept (worked (if own then Idle else ShortOut) (Outs n) index byte m) ≡ restored_registers kept m
unfolding effect
restored-out kept n index byte m true = restored-either kept (index == 0) _ m refl
restored-out kept n index byte m false = restored-either kept (index == 2) _ m refl

-- before its last step an instruction writes no byte of the scratchpad but of the pair that it loads
restored-worked : (kept : KeptRegisters) (op : Op) (index byte : ℕ) (m : Registers) → kept.pair ≡ pair_of op →
    (index == last_step (row_of op)) ≡ false →
    restored_registers kept (worked (row_of op) op index byte m) ≡ restored_registers kept m
unfolding effect
restored-worked kept LrKP index byte m pair earlier = rw (← pair) (restored-pair kept index byte m)
restored-worked kept LrQDc index byte m pair earlier = rw (← pair) (restored-pair kept index byte m)
restored-worked kept LrHDc index byte m pair earlier = rw (← pair) (restored-pair kept index byte m)
restored-worked kept Di index byte m pair earlier = restored-either kept (index == 0) _ m refl
restored-worked kept Ei index byte m pair earlier = restored-either kept (index == 0) _ m refl
restored-worked kept LrWJ index byte m pair earlier = restored-either kept (index == 0) _ m refl
restored-worked kept (Asd r) index byte m pair earlier = restored-either kept (index == 0) _ m refl
restored-worked kept Lm index byte m pair earlier = restored-either kept (index == 0) _ m refl
restored-worked kept Am index byte m pair earlier = restored-either kept (index == 0) _ m refl
restored-worked kept Amd index byte m pair earlier = restored-either kept (index == 0) _ m refl
restored-worked kept Nm index byte m pair earlier = restored-either kept (index == 0) _ m refl
restored-worked kept Om index byte m pair earlier = restored-either kept (index == 0) _ m refl
restored-worked kept Xm index byte m pair earlier = restored-either kept (index == 0) _ m refl
restored-worked kept Cm index byte m pair earlier = restored-either kept (index == 0) _ m refl
restored-worked kept Li index byte m pair earlier = restored-either kept (index == 0) _ m refl
restored-worked kept Ni index byte m pair earlier = restored-either kept (index == 0) _ m refl
restored-worked kept Oi index byte m pair earlier = restored-either kept (index == 0) _ m refl
restored-worked kept Xi index byte m pair earlier = restored-either kept (index == 0) _ m refl
restored-worked kept Ai index byte m pair earlier = restored-either kept (index == 0) _ m refl
restored-worked kept Ci index byte m pair earlier = restored-either kept (index == 0) _ m refl
restored-worked kept In index byte m pair earlier = restored-either kept (index == 1) _ m refl
restored-worked kept Pi index byte m pair earlier = restored-either kept (index == 0) _ m refl
restored-worked kept Jmp index byte m pair earlier = restored-either kept (index == 0) _ m refl
restored-worked kept (Ins n) index byte m pair earlier = restored-in kept n index byte m (nat_lt n 2)
restored-worked kept (Outs n) index byte m pair earlier = restored-out kept n index byte m (nat_lt n 2)
restored-worked kept op index byte m pair earlier = rw earlier refl

-- a step changes no key byte
keys-put_by : (op : Op) (accumulator : ℕ) (p : PortBytes) → (put_by op accumulator p).keys ≡ p.keys
keys-put_by (Outs n) accumulator p = keys-either (nat_lt n 2) (with_latch n accumulator p) p refl
keys-put_by op accumulator p = refl

-- the opcode held stays, and so does what is put back
restored-taken_as : (start c : CpuState) (found : Option Op) (index byte : ℕ) → decoded c.opcode ≡ found →
    index + 1 < length (planned_as found c.registers) → IsRestorable start c →
    IsRestorable start (taken_as found index byte c)
restored-taken_as start c None index byte held later restorable = restorable
restored-taken_as start c (Some op) index byte held later restorable =
    let earlier = is_no_last index op (is_taken op c.registers) later in
    let same_opcode : c.opcode ≡ start.opcode = ap (λ s. s.opcode) restorable in
    let same_pair : (kept_of start).pair ≡ pair_of op = ap (λ code. pair_as (decoded code)) (sym same_opcode) ∙ ap pair_as held in
    let same_registers = restored-worked (kept_of start) op index (read_by op byte c.ports) c.registers same_pair earlier in
    let ports : PortBytes = if index == effect_at (row_of op) then put_by op c.registers.accumulator c.ports else c.ports in
    let same_keys : ports.keys ≡ c.ports.keys =
    keys-either (index == effect_at (row_of op)) (put_by op c.registers.accumulator c.ports) c.ports (keys-put_by op c.registers.accumulator c.ports)
    in
    rw earlier
    (ap (λ registers. record c { registers = registers; ports = record ports { latches = start.ports.latches } }) same_registers
    ∙ ap (λ keys. record c {
      registers = restored_registers (kept_of start) c.registers;
      ports = record { latches = start.ports.latches; keys = keys };
    }) same_keys
    ∙ restorable)

-- a CPU is what is put back of it at once
pub IsRestorable-start : (c : CpuState) → IsRestorable c c
IsRestorable-start c = ap (λ registers. record c { registers = registers }) (restored-kept_with (pair_as (decoded c.opcode)) c.ports.latches c.registers)

-- a step that isn't the last changes nothing that isn't put back
pub IsRestorable-taken : (start c : CpuState) (index byte : ℕ) → index + 1 < length (planned c) → IsRestorable start c → IsRestorable start (taken index byte c)
IsRestorable-taken start c index byte later restorable = restored-taken_as start c (decoded c.opcode) index byte refl later restorable
