-- Where an interrupt at the end of an instruction may lead: to the vector of each chip that can interrupt and whose vector no port writes.
use Rattle.std.specs.Prelude.{ℕ, ◌%◌, Bool, false, ◌||◌, if◌then◌else◌, List, [], Option, Some}
use Rattle.f8_spec.specs.ChipState.{vector_for}
use Rattle.f8_spec.specs.Instructions.{is_shielding}
use Rattle.f8_spec.specs.declared.instructions.Op.{Op}
use Rattle.abs_domain.specs.AbstractState.{AbstractState}
use Rattle.abs_step.specs.Known.{is_known_false}
use Rattle.abs_step.specs.MapView.{MapView}
use Rattle.abs_step.specs.declared.exits.Exit.{Exit}

-- No interrupt is taken at the end of an instruction: it shields its end, or the interrupt control bit is known to be clear after it.
abbrev pub keeps_interrupts_out : Op → Option Bool → Bool
keeps_interrupts_out op icb = is_shielding op || is_known_false icb

-- the vectors to which one may lead there, by the interrupt control bit
abbrev pub vectors_let_in : Op → MapView → Option Bool → List ℕ
vectors_let_in op m icb = if keeps_interrupts_out op icb then [] else m.vectors

-- the address that a chip gives for its timer, or for a pulse; as on the bus it is taken modulo 65,536
abbrev pub vector_address : Bool → ℕ → ℕ
vector_address timer vector = vector_for timer vector % 65536

-- It takes the place of the fetch at the next address, which becomes the return.
abbrev pub vector_exit : Bool → ℕ → Exit → Exit
vector_exit timer vector e = record { at = vector_address timer vector; ret = Some e.at }

-- a state of which this is known of the interrupt control bit
abbrev pub with_icb : Option Bool → AbstractState → AbstractState
with_icb icb s = record s { registers = record s.registers { status = record s.registers.status { icb = icb } } }

-- as an interrupt is taken the bit is cleared
abbrev pub with_interrupts_off : AbstractState → AbstractState
with_interrupts_off s = with_icb (Some false) s
