-- What the steps at an instruction's end do, the last fetch or those of an interrupt: they leave the memory and the ports, and lead to
-- the next opcode.
use Rattle.std.proofs.Common.{◌≡◌, ℕ, Bool, true, List, [], ◌∷◌, Option, None, Some, refl}
use Rattle.std.specs.List.{list_all}
use Rattle.f8_spec.specs.BusArbitration.{Seat}
use Rattle.f8_spec.specs.BusCodes.{Count}
use Rattle.f8_spec.specs.Words.{word}
use Rattle.f8_spec.specs.declared.instructions.Row.{Row}
use Rattle.console_spec.specs.AddressSpace.{byte_at}
use Rattle.console_spec.specs.BusTrace.{ending_steps}
use Rattle.console_spec.specs.CounterCopies.{resting}
use Rattle.console_spec.specs.Processor.{Flow, Inputs, interrupted, interrupted_by}
use Rattle.console_spec.proofs.Walks.{HasBytes, with_high-with_low}
use Rattle.f8_machine.proofs.Places.{places_along}
use Rattle.f8_machine.proofs.StepTests.{is_portless}
use Rattle.f8_machine.proofs.Values.{Values, memory_along}

-- none of them reads or writes a port
pub ending_portless : (row : Row) (chosen : Option ℕ) → list_all is_portless (ending_steps row chosen) ≡ true
ending_portless row None = refl
ending_portless row (Some socket) = refl

-- none of them stores
pub ending_memory : (seats : List Seat) (i : Inputs) (row : Row) (chosen : Option ℕ) (c : Count) (last : ℕ)
    (memory : List ℕ) → memory_along seats i (ending_steps row chosen) c last memory ≡ memory
ending_memory seats i row None c last memory = refl
ending_memory seats i row (Some socket) c last memory = refl

-- the one access is the fetch of the next opcode
pub ending_places : (row : Row) (i : Inputs) → HasBytes i → (second : Bool) (c : Flow) (last : ℕ) →
    places_along second i (ending_steps row i.chosen) (resting c) last ≡ (0x00, (interrupted i c).p) ∷ []
ending_places row i b second c last = by i.chosen
  where
    by : (chosen : Option ℕ) → places_along second i (ending_steps row chosen) (resting c) last
        ≡ (0x00, (interrupted_by chosen (word i.vector_high i.vector_low) c).p) ∷ []
    by None = refl
    by (Some socket) = rw (with_high-with_low _ _ _ b.vector_low) refl

-- and its byte is that opcode
pub ending_values : (seats : List Seat) (row : Row) (i : Inputs) → HasBytes i → (c : Flow) (last : ℕ)
    (memory : List ℕ) → i.opcode ≡ byte_at memory (interrupted i c).p →
    Values seats i (ending_steps row i.chosen) (resting c) last memory
ending_values seats row i b c last memory e = by i.chosen e
  where
    by : (chosen : Option ℕ) → i.opcode ≡ byte_at memory (interrupted_by chosen (word i.vector_high i.vector_low) c).p →
        Values seats i (ending_steps row chosen) (resting c) last memory
    by None is = (is, tt)
    by (Some socket) is = (refl, (tt, (tt, (tt, (rw (with_high-with_low _ _ _ b.vector_low) is, tt)))))
