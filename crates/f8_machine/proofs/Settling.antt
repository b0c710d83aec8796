-- Where no write and no acknowledgement of a history lies after a time, a later pulse comes after both.
use Rattle.std.proofs.Common.{ℕ, ◌<◌, ◌≤◌, arith}
use Rattle.console_spec.specs.InterruptRequests.{History, time_of, since_of, control_port, no_history}
use Rattle.console_spec.specs.declared.PortWrite.{PortWrite}
use Rattle.console_spec.proofs.RequestLaws.{last_write-past, last_mark-past, writes_later, marks_later}
use Rattle.console_spec.proofs.RequestLaws.{after_write, after_acknowledgement, after_pulse}
use Rattle.f8_machine.specs.RequestsHeld.{IsSettledBy}

pub settled_none : (time : ℕ) → IsSettledBy time no_history
settled_none time = record { writes = tt; acknowledged = tt }

pub settled_later : (time later : ℕ) (h : History) → time ≤ later → IsSettledBy time h → IsSettledBy later h
settled_later time later h order by = record {
  writes = writes_later time later h.writes order by.writes;
  acknowledged = marks_later time later h.acknowledged order by.acknowledged;
}

pub settled_written : (w : PortWrite) (time : ℕ) (h : History) → time_of w ≤ time → IsSettledBy time h → IsSettledBy time (after_write w h)
settled_written w time h order by = record { writes = (order, by.writes); acknowledged = by.acknowledged }

pub settled_acknowledged : (chip phi time : ℕ) (h : History) → phi ≤ time → IsSettledBy time h →
    IsSettledBy time (after_acknowledgement chip phi h)
settled_acknowledged chip phi time h order by = record { writes = by.writes; acknowledged = (order, by.acknowledged) }

pub settled_pulsed : (chip phi time : ℕ) (h : History) → IsSettledBy time h → IsSettledBy time (after_pulse chip phi h)
settled_pulsed chip phi time h by = record { writes = by.writes; acknowledged = by.acknowledged }

pub since_before : (first chip time later : ℕ) (h : History) → IsSettledBy time h → time < later → since_of first chip h < later
since_before first chip time later h by order =
    let written = last_write-past (control_port first) time h.writes by.writes in
    let marked = last_mark-past chip time h.acknowledged by.acknowledged in
    omega (arith, written, marked)
