-- At the end of an instruction the requests of a rack stand beside the flat machine's writes: those of the steps, and that to a port of the
-- processor's own, which no chip has.
use Rattle.std.proofs.Common.{◌≡◌, ℕ, ◌≤◌, Bool, true, false, List, map, refl, subst, arith}
use Rattle.std.specs.Prelude.{nat_lt, if◌then◌else◌, Some}
use Rattle.f8_spec.specs.BusArbitration.{Seat, seat_of}
use Rattle.f8_spec.specs.ChipState.{ChipView}
use Rattle.f8_spec.specs.Instructions.{row_of}
use Rattle.f8_spec.specs.declared.instructions.Op.{Op}
use Rattle.f8_spec.specs.declared.instructions.Op.TheVariants.{Ins, Outs}
use Rattle.f8_spec.specs.declared.instructions.Row.TheVariants.{Idle, ShortIn, ShortOut}
use Rattle.console_spec.specs.Processor.{Inputs, if_taken, write_at, write_of, with_write, port_field}
use Rattle.console_spec.specs.InterruptRequests.{History}
use Rattle.cpu3850.specs.OwnWrites.{LeaveOwnPorts}
use Rattle.f8_machine.specs.RequestsHeld.{IsInTime}
use Rattle.f8_machine.proofs.PortEnds.{free_of}
use Rattle.f8_machine.proofs.PortValues.{bus_port}
use Rattle.f8_machine.proofs.RequestEvents.{in_time_elsewhere}

ins_none : (own : Bool) (i : Inputs) (seats : List Seat) (phi time : ℕ) (h : History) (vs : List ChipView) →
    IsInTime time (record h { writes = with_write (write_at phi i.accumulator (bus_port (if own then Idle else ShortIn) i seats)) h.writes }) vs →
    IsInTime time h vs
ins_none true i seats phi time h vs is = is
ins_none false i seats phi time h vs is = is

outs_write : (own : Bool) (n : ℕ) (i : Inputs) (seats : List Seat) (phi time : ℕ) (h : History) (vs : List ChipView) → nat_lt n 2 ≡ own →
    i.port ≡ n → LeaveOwnPorts (map seat_of vs) → phi ≤ time →
    IsInTime time (record h { writes = with_write (write_at phi i.accumulator (bus_port (if own then Idle else ShortOut) i seats)) h.writes }) vs →
    IsInTime time (record h { writes = with_write (write_at phi i.accumulator (if own then Some n else if_taken n seats)) h.writes }) vs
outs_write true n i seats phi time h vs own port free order is =
    in_time_elsewhere (record { phi = phi; port = n; byte = i.accumulator }) time h vs (free_of n (map seat_of vs) free own) (omega arith) is
outs_write false n i seats phi time h vs own port free order is =
    subst (λ (p : ℕ). IsInTime time (record h { writes = with_write (write_at phi i.accumulator (if_taken p seats)) h.writes }) vs) port is

pub in_time_written : (op : Op) (i : Inputs) (seats : List Seat) (phi time : ℕ) (h : History) (vs : List ChipView) → i.port ≡ port_field op →
    LeaveOwnPorts (map seat_of vs) → phi ≤ time →
    IsInTime time (record h { writes = with_write (write_at phi i.accumulator (bus_port (row_of op) i seats)) h.writes }) vs →
    IsInTime time (record h { writes = with_write (write_of op i seats phi) h.writes }) vs
in_time_written (Ins n) i seats phi time h vs port free order is = ins_none (nat_lt n 2) i seats phi time h vs is
in_time_written (Outs n) i seats phi time h vs port free order is = outs_write (nat_lt n 2) n i seats phi time h vs refl port free order is
in_time_written op i seats phi time h vs port free order is = is
