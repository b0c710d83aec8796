-- The port write of an instruction that is done, as the machine finds it: in the record of its bus steps where a chip took the byte, and in
-- the processor's own latch where the port is its own.
use Rattle.std.specs.Prelude.{ℕ, ◌==◌, nat_lt, if◌then◌else◌, List, [], ◌∷◌, slice_index, Option, Some, None}
use Rattle.std.specs.Prelude.{option_map}
use Rattle.f8_spec.specs.declared.instructions.Op.{Op}
use Rattle.f8_spec.specs.declared.instructions.Op.TheVariants.{Outs}
use Rattle.console_spec.specs.declared.PortWrite.{PortWrite}
use Rattle.f8_machine.specs.declared.heard.Heard.{Heard}

-- the step before a port write has named the port
abbrev pub chip_write : ℕ → List Heard → Option PortWrite
chip_write phi [] = None
chip_write phi (named ∷ []) = None
chip_write phi (named ∷ (put ∷ later)) =
    if put.romc == 0x1A then option_map (λ socket. record { phi = phi; port = named.byte; byte = put.byte })
    put.taker else None

-- by the instruction, the clocks at its end, the processor's latches then, and the steps
abbrev pub done_write : Option Op → ℕ → List ℕ → List Heard → Option PortWrite
done_write (Some (Outs n)) phi latches steps =
    if nat_lt n 2 then Some (record { phi = phi; port = n; byte = slice_index latches n }) else chip_write phi steps
done_write found phi latches steps = chip_write phi steps
