-- A turn puts the line of a chip that is described.
use Rattle.std.proofs.Common.{◌≡◌, ◌∙◌, ◌<◌, ◌≤◌, ap, sym, length, map, arith}
use Rattle.std.specs.Prelude.{sum_by}
use Rattle.std.proofs.lemmas.List.{length-map}
use Rattle.std.proofs.lemmas.Result.{err_from_is_err_and}
use Rattle.rack_run.proofs.PutLaws.{so_far_more, so_far_all, so_far_cut}
use Rattle.chip_debug.specs.Breaks.{own_counters}
use Rattle.chip_debug.specs.DebugText.{chip_line}
use Rattle.chip_debug.proofs.PutLines.{chip_some}
use Rattle.chip_debug.proofs.SocketLaws.{asked_not, asked_once, seated, still_seated, lines_here, lines_not, lines_none}
use Rattle.chip_debug.proofs.telling.put_fitted.Goals as goal
use Rattle.chip_debug.proofs.telling.put_fitted.Goals.{then-contains+in_ok-put, else-contains}

pub returns-in_err-put-clause-puts : goal.returns-in_err-put-clause-puts
returns-in_err-put-clause-puts g c =
    let p = err_from_is_err_and c.from_residual.result c.from_residual.ensures.1 in
    let states = map (λ b. (goal.Chip-dyn g (b.vtable, b.value)).state b.value) c.args.rack.now.items in
    let within : c.loop-socket.socket < length states =
    omega (arith, length-map c.args.rack.now.items (λ b. (goal.Chip-dyn g (b.vtable, b.value)).state b.value)) in
    let s = seated states c.loop-socket.socket within in
    let line : c.as_bytes.result.now ≡ chip_line c.loop-socket.socket s.0.view.kind (own_counters s.0.view) =
    c.as_bytes.ensures.value
    ∙ c.line_of_chip.ensures.line s.0 (still_seated states _ c.loop-socket.socket s.0 c.loop-socket.invariant.stays s.1) in
    rw p.1
    (so_far_cut _ _ _ _ _ _ _ _ c.loop-socket.invariant.so_far
    (lines_here c.args.chain.now c.loop-socket.socket states s.0 s.1 (sym c.contains.ensures ∙ c.if-contains.true))
    (chip_some _ _ _) (rw line at c.in_err-put.ensures.err))

pub loop-socket-preserved : goal.loop-socket-preserved
loop-socket-preserved g c =
    let states = map (λ b. (goal.Chip-dyn g (b.vtable, b.value)).state b.value) c.args.rack.now.items in
    let within : c.loop-socket.socket < length states =
    omega (arith, length-map c.args.rack.now.items (λ b. (goal.Chip-dyn g (b.vtable, b.value)).state b.value)) in
    let s = seated states c.loop-socket.socket within in
    elim c.if-contains.branch [
      | then-contains+in_ok-put w ↦
          let line : w.as_bytes.result.now ≡ chip_line c.loop-socket.socket s.0.view.kind (own_counters s.0.view) =
          w.as_bytes.ensures.value
          ∙ w.line_of_chip.ensures.line s.0 (still_seated states _ c.loop-socket.socket s.0 c.loop-socket.invariant.stays s.1) in
          let lines = rw line at w.in_ok-put.ensures.ok in
          record {
            so_far = rw w.sink-is
                (so_far_more _ _ _ _ _ _ _ c.loop-socket.invariant.so_far
                (lines_here c.args.chain.now c.loop-socket.socket states s.0 s.1 (sym c.contains.ensures ∙ w.if-contains.true))
                lines);
            stays = ap (λ r. map (λ b. (goal.Chip-dyn g (b.vtable, b.value)).state b.value) r.items) w.rack-is
                ∙ w.line_of_chip.ensures.stays ∙ c.loop-socket.invariant.stays;
            asked = asked_once _ _ _ _ c.loop-socket.socket c.loop-socket.invariant.asked w.line_of_chip.ensures.asked
                (ap (λ r. sum_by (λ b. (goal.Chip-dyn g (b.vtable, b.value)).queries b.value) r.items) w.rack-is);
            chips = ap (λ r. length r.items) w.rack-is ∙ w.line_of_chip.ensures.chips ∙ c.loop-socket.invariant.chips;
          }
      | else-contains w ↦ record {
        so_far = rw w.sink-is
            (rw (lines_not c.args.chain.now c.loop-socket.socket states within
            (sym c.contains.ensures ∙ w.if-contains.false)) at c.loop-socket.invariant.so_far);
        stays = ap (λ r. map (λ b. (goal.Chip-dyn g (b.vtable, b.value)).state b.value) r.items) w.rack-is
            ∙ c.loop-socket.invariant.stays;
        asked = asked_not _ _ _ c.loop-socket.socket c.loop-socket.invariant.asked
            (ap (λ r. sum_by (λ b. (goal.Chip-dyn g (b.vtable, b.value)).queries b.value) r.items) w.rack-is);
        chips = ap (λ r. length r.items) w.rack-is ∙ c.loop-socket.invariant.chips;
      }
    ]

pub returns-clause-puts : goal.returns-clause-puts
returns-clause-puts g c =
    let states = map (λ b. (goal.Chip-dyn g (b.vtable, b.value)).state b.value) c.args.rack.now.items in
    let past : length states ≤ c.loop-socket.socket =
    omega (arith, length-map c.args.rack.now.items (λ b. (goal.Chip-dyn g (b.vtable, b.value)).state b.value)) in
    so_far_all _ _ _ _ _ c.loop-socket.invariant.so_far (lines_none c.args.chain.now c.loop-socket.socket states past)
