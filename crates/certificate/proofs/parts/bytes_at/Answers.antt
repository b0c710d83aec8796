-- A byte more is read, or none where the reading of all of them fails.
use Rattle.std.proofs.Common.{◌<◌, ◌-◌, ◌+◌, length, arith}
use Rattle.certificate.proofs.BytesRead.{no_mark, no_byte, one_byte, fails, goes_on, all_read, gives_none}
use Rattle.certificate.proofs.parts.bytes_at.Goals as goal

pub returns-in_err-behind : goal.returns-in_err-behind
returns-in_err-behind c =
    let i = c.loop-byte.byte-index in
    let bytes = c.loop-byte.bytes in
    let left = length bytes - (i + 1) in
    let within : i < length bytes = omega arith in
    let none = fails c.args.mark.now c.args.text.now bytes i c.loop-byte.rest.now within c.loop-byte.invariant
    (no_mark c.args.mark.now c.loop-byte.rest.now left c.in_err-behind.ensures) in
    gives_none _ _ _ c.from_residual.ensures (rw c.loop-byte.auto.bytes at none)

pub returns-in_err-value : goal.returns-in_err-value
returns-in_err-value c =
    let i = c.loop-byte.byte-index in
    let bytes = c.loop-byte.bytes in
    let left = length bytes - (i + 1) in
    let within : i < length bytes = omega arith in
    let none = fails c.args.mark.now c.args.text.now bytes i c.loop-byte.rest.now within c.loop-byte.invariant
    (no_byte c.args.mark.now c.loop-byte.rest.now left c.in_ok-behind.field-0.now c.in_ok-behind.ensures c.in_err-value.ensures) in
    gives_none _ _ _ c.from_residual-in_err-value.ensures (rw c.loop-byte.auto.bytes at none)

pub loop-byte-preserved : goal.loop-byte-preserved
loop-byte-preserved c =
    let i = c.loop-byte.byte-index in
    let bytes = c.loop-byte.bytes in
    let left = length bytes - (i + 1) in
    let within : i < length bytes = omega arith in
    goes_on c.args.mark.now c.args.text.now bytes i c.loop-byte.rest.now within c.loop-byte.invariant
    c.in_ok-value.value c.in_ok-value.after.now
    (one_byte c.args.mark.now c.loop-byte.rest.now left c.in_ok-behind.field-0.now c.in_ok-value.after.now c.in_ok-value.value
    c.in_ok-behind.ensures c.in_ok-value.ensures)

pub returns : goal.returns
returns c =
    rw (← c.loop-byte.auto.bytes)
    (all_read c.args.mark.now c.args.text.now c.loop-byte.bytes c.loop-byte.byte-index c.loop-byte.rest.now (omega arith) c.loop-byte.invariant)
