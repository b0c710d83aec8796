-- What an instruction does to the registers.
use Rattle.std.proofs.Common.{◌≡◌, ◌≢◌, ℕ, ◌+◌, Bool, true, false, refl}
use Rattle.std.specs.Prelude.{nat_lt, if◌then◌else◌, None}
use Rattle.f8_spec.specs.Instructions.{row_of}
use Rattle.f8_spec.specs.declared.instructions.Op.{Op}
use Rattle.f8_spec.specs.declared.instructions.Op.TheVariants.{LrKP, LrPK, Pk, LrP0Q, LrQDc, LrDcQ, LrDcH, LrHDc, Lm}
use Rattle.f8_spec.specs.declared.instructions.Op.TheVariants.{St, Di, Ei, Pop, LrWJ, Li, Ni, Oi, Xi, Ai, Ci, In, Out}
use Rattle.f8_spec.specs.declared.instructions.Op.TheVariants.{Pi, Jmp, Dci, Xdc, Ds, Bt, Am, Amd, Nm, Om, Xm, Cm, Adc}
use Rattle.f8_spec.specs.declared.instructions.Op.TheVariants.{Br7, Bf, Asd, Ins, Outs}
use Rattle.f8_spec.specs.declared.instructions.Row.{Row}
use Rattle.f8_spec.specs.declared.instructions.Row.TheVariants.{Plain, Idle, ShortIn, ShortOut}
use Rattle.f8_spec.specs.Words.{places_on}
use Rattle.console_spec.specs.AddressSpace.{byte_at}
use Rattle.console_spec.specs.Processor.{Registers, Inputs, used_byte, effect, result_of}
use Rattle.f8_isa.specs.Ports.{PortState, port_taking}
use Rattle.f8_isa.specs.IsaState.{IsaState, kept_inputs, kept_write, isa_after}

-- but for the three that copy a counter to a pair, an instruction works with the one byte that it uses
pub result_of_effect : (op : Op) (i : Inputs) (m : Registers) → op ≢ LrKP → op ≢ LrQDc → op ≢ LrHDc →
    result_of op i m ≡ effect op (used_byte (row_of op) i) m
result_of_effect LrKP i m not_k not_q not_h = absurd (not_k refl)
result_of_effect LrQDc i m not_k not_q not_h = absurd (not_q refl)
result_of_effect LrHDc i m not_k not_q not_h = absurd (not_h refl)
result_of_effect op i m not_k not_q not_h = refl

-- ---- the instructions of the plainest row

not_plain : (test : Bool) (r s : Row) → r ≢ Plain → s ≢ Plain → (if test then r else s) ≢ Plain
not_plain true r s not_r not_s = not_r
not_plain false r s not_r not_s = not_s

ins_not_plain : (n : ℕ) → row_of (Ins n) ≢ Plain
ins_not_plain n = not_plain (nat_lt n 2) Idle ShortIn (λ e. cc) (λ e. cc)

outs_not_plain : (n : ℕ) → row_of (Outs n) ≢ Plain
outs_not_plain n = not_plain (nat_lt n 2) Idle ShortOut (λ e. cc) (λ e. cc)

-- they use no byte
plain_result : (op : Op) (i : Inputs) (m : Registers) → row_of op ≡ Plain → result_of op i m ≡ effect op 0 m
plain_result LrKP i m plain = cc
plain_result LrPK i m plain = cc
plain_result Pk i m plain = cc
plain_result LrP0Q i m plain = cc
plain_result LrQDc i m plain = cc
plain_result LrDcQ i m plain = cc
plain_result LrDcH i m plain = cc
plain_result LrHDc i m plain = cc
plain_result Lm i m plain = cc
plain_result St i m plain = cc
plain_result Di i m plain = cc
plain_result Ei i m plain = cc
plain_result Pop i m plain = cc
plain_result LrWJ i m plain = cc
plain_result Li i m plain = cc
plain_result Ni i m plain = cc
plain_result Oi i m plain = cc
plain_result Xi i m plain = cc
plain_result Ai i m plain = cc
plain_result Ci i m plain = cc
plain_result In i m plain = cc
plain_result Out i m plain = cc
plain_result Pi i m plain = cc
plain_result Jmp i m plain = cc
plain_result Dci i m plain = cc
plain_result Xdc i m plain = cc
plain_result (Ds r) i m plain = cc
plain_result (Bt t) i m plain = cc
plain_result Am i m plain = cc
plain_result Amd i m plain = cc
plain_result Nm i m plain = cc
plain_result Om i m plain = cc
plain_result Xm i m plain = cc
plain_result Cm i m plain = cc
plain_result Adc i m plain = cc
plain_result Br7 i m plain = cc
plain_result (Bf t) i m plain = cc
plain_result (Asd r) i m plain = cc
plain_result (Ins n) i m plain = absurd (ins_not_plain n plain)
plain_result (Outs n) i m plain = absurd (outs_not_plain n plain)
plain_result op i m plain = refl

-- they write no port
plain_unwritten : (op : Op) (operand : ℕ) (p : PortState) → row_of op ≡ Plain → port_taking op operand p ≡ None
plain_unwritten Out operand p plain = cc
plain_unwritten (Outs n) operand p plain = absurd (outs_not_plain n plain)
plain_unwritten op operand p plain = refl

pub plain_write : (op : Op) (isa : IsaState) (phi : ℕ) → row_of op ≡ Plain → kept_write op isa phi ≡ None
plain_write op isa phi plain = rw (plain_unwritten op (byte_at isa.memory (places_on isa.flow.p 1)) isa.ports plain) refl

pub after_plain : (op : Op) (isa : IsaState) → row_of op ≡ Plain →
    isa_after op isa ≡ record {
      flow = record isa.flow { p = places_on isa.flow.p 1 };
      registers = effect op 0 isa.registers;
      phi = isa.phi + 4;
      memory = isa.memory;
      ram_pages = isa.ram_pages;
      ports = isa.ports;
      requests = isa.requests;
    }
after_plain op isa plain =
    rw (
      plain,
      plain_result op (kept_inputs op isa) isa.registers plain,
      plain_unwritten op (byte_at isa.memory (places_on isa.flow.p 1)) isa.ports plain,
    )
    refl

pub ruleset plain_laws = (after_plain, plain_write)
