-- A chip of the chain whose counters part decides; any other is passed, and so is a socket without a chip.
use Rattle.std.proofs.Common.{◌∙◌, ◌<◌, ◌≤◌, Bool, ap, ap₂, sym, length, map, get_or, false, true, arith}
use Rattle.std.specs.Prelude.{◌||◌, sum_by}
use Rattle.std.specs.List.{list_any}
use Rattle.std.proofs.lemmas.List.{length-map}
use Rattle.std.proofs.lemmas.List.Folds.{list_any_at, list_any_more}
use Rattle.chip_debug.specs.Breaks.{is_parted}
use Rattle.chip_debug.proofs.ChainLaws.{any_of_all}
use Rattle.chip_debug.proofs.SocketLaws.{asked_not, asked_once, seated, still_seated, apart_by_chain, parts_in, parts_seated, parts_past}
use Rattle.chip_debug.proofs.sockets.are_apart.Goals as goal
use Rattle.chip_debug.proofs.sockets.are_apart.Goals.{else-sits-via-then-sits+else-is_parted, else-sits-via-else-sits}

pub returns-then-is_parted-clause-apart : goal.returns-then-is_parted-clause-apart
returns-then-is_parted-clause-apart g c =
    let states = map (λ b. (goal.Chip-dyn g (b.vtable, b.value)).state b.value) c.args.rack.now.items in
    let items = c.as_slice-socket-items.result.now in
    let at = c.loop-socket.socket-index in
    let socket = get_or items at 0 in
    let size = length-map c.args.rack.now.items (λ b. (goal.Chip-dyn g (b.vtable, b.value)).state b.value) in
    let within : socket < length states = omega (arith, size) in
    let s = seated states socket within in
    let told = c.counters_in.ensures.answer s.0 (still_seated states _ socket s.0 c.loop-socket.invariant.stays s.1) in
    let parts = parts_seated true c.args.reference.now states socket s.0 s.1
    (ap (is_parted c.args.reference.now) (sym told) ∙ sym c.is_parted.ensures ∙ c.if-is_parted.true) in
    sym
    (apart_by_chain c.args.reference.now c.args.chain.now states
    ∙ ap (list_any (parts_in c.args.reference.now states)) (sym c.as_slice-socket-items.ensures.value)
    ∙ list_any_at (parts_in c.args.reference.now states) items at 0 c.loop-socket-test.true parts)

pub loop-socket-preserved : goal.loop-socket-preserved
loop-socket-preserved g c =
    let states = map (λ b. (goal.Chip-dyn g (b.vtable, b.value)).state b.value) c.args.rack.now.items in
    let items = c.as_slice-socket-items.result.now in
    let at = c.loop-socket.socket-index in
    let socket = get_or items at 0 in
    let size = length-map c.args.rack.now.items (λ b. (goal.Chip-dyn g (b.vtable, b.value)).state b.value) in
    let more = list_any_more (parts_in c.args.reference.now states) items at 0 c.loop-socket-test.true in
    elim c.else-sits.branch [
      | else-sits-via-then-sits+else-is_parted w ↦
          let within : socket < length states = omega (arith, size) in
          let s = seated states socket within in
          let told = w.counters_in.ensures.answer s.0
          (still_seated states _ socket s.0 c.loop-socket.invariant.stays s.1) in
          let passed = parts_seated false c.args.reference.now states socket s.0 s.1
          (ap (is_parted c.args.reference.now) (sym told) ∙ sym w.is_parted.ensures ∙ w.if-is_parted.false) in
          record {
            none = more ∙ ap₂ (λ (a : Bool) (b : Bool). a || b) c.loop-socket.invariant.none passed;
            stays = ap (λ r. map (λ b. (goal.Chip-dyn g (b.vtable, b.value)).state b.value) r.items) w.rack-is
                ∙ w.counters_in.ensures.stays ∙ c.loop-socket.invariant.stays;
            asked = asked_once _ _ _ _ at c.loop-socket.invariant.asked w.counters_in.ensures.asked
                (ap (λ r. sum_by (λ b. (goal.Chip-dyn g (b.vtable, b.value)).queries b.value) r.items) w.rack-is);
            chips = ap (λ r. length r.items) w.rack-is ∙ w.counters_in.ensures.chips ∙ c.loop-socket.invariant.chips;
          }
      | else-sits-via-else-sits w ↦
          let past : length states ≤ socket = omega (arith, size) in
          record {
            none = more
                ∙ ap₂ (λ (a : Bool) (b : Bool). a || b) c.loop-socket.invariant.none
                (parts_past c.args.reference.now states socket past);
            stays = ap (λ r. map (λ b. (goal.Chip-dyn g (b.vtable, b.value)).state b.value) r.items) w.rack-is
                ∙ c.loop-socket.invariant.stays;
            asked = asked_not _ _ _ at c.loop-socket.invariant.asked
                (ap (λ r. sum_by (λ b. (goal.Chip-dyn g (b.vtable, b.value)).queries b.value) r.items) w.rack-is);
            chips = ap (λ r. length r.items) w.rack-is ∙ c.loop-socket.invariant.chips;
          }
    ]

pub returns-clause-apart : goal.returns-clause-apart
returns-clause-apart g c =
    let states = map (λ b. (goal.Chip-dyn g (b.vtable, b.value)).state b.value) c.args.rack.now.items in
    let items = c.as_slice-socket-items.result.now in
    let at = c.loop-socket.socket-index in
    let past : length items ≤ at = omega arith in
    sym
    (apart_by_chain c.args.reference.now c.args.chain.now states
    ∙ ap (list_any (parts_in c.args.reference.now states)) (sym c.as_slice-socket-items.ensures.value)
    ∙ sym (any_of_all (parts_in c.args.reference.now states) at items past)
    ∙ c.loop-socket.invariant.none)
