-- A second byte ends the search.
use Rattle.std.proofs.Common.{◌∙◌, ◌+◌, ◌<◌, ◌≤◌, ◌++◌, ℕ, List, ap, sym, length, map, refl, arith}
use Rattle.std.specs.Prelude.{Option}
use Rattle.std.proofs.lemmas.List.{length-map}
use Rattle.chip_debug.specs.Carried.{sole}
use Rattle.chip_debug.proofs.SocketLaws.{asked_once, seated, still_seated, held_from, held_more, held_none, listed, sole_of, sole_second}
use Rattle.chip_debug.proofs.SocketLaws.{held_first_byte}
use Rattle.chip_debug.proofs.sockets.byte_held.Goals as goal
use Rattle.chip_debug.proofs.sockets.byte_held.Goals.{in-Some+else-is_some, in_default}

pub returns-then-is_some-clause-byte : goal.returns-then-is_some-clause-byte
returns-then-is_some-clause-byte g c =
    let states = map (λ b. (goal.Chip-dyn g (b.vtable, b.value)).state b.value) c.args.rack.now.items in
    let within : c.loop-socket.socket < length states =
    omega (arith, length-map c.args.rack.now.items (λ b. (goal.Chip-dyn g (b.vtable, b.value)).state b.value)) in
    let s = seated states c.loop-socket.socket within in
    let told = c.byte_in.ensures.answer s.0
    (still_seated states _ c.loop-socket.socket s.0 c.loop-socket.invariant.stays s.1) in
    let more = held_more c.args.at c.loop-socket.socket states s.0 c.byte_in.result s.1 (sym told) in
    sym
    (sole_second c.loop-socket.held c.in-Some.byte (held_from c.args.at 0 states)
    (held_from c.args.at (c.loop-socket.socket + 1) states) (sym c.is_some.ensures ∙ c.if-is_some.true)
    (c.loop-socket.invariant.rest ∙ ap (λ (rest : List ℕ). listed c.loop-socket.held ++ rest) (more
    ∙ ap (λ (byte : Option ℕ). listed byte ++ held_from c.args.at (c.loop-socket.socket + 1) states) c.in-Some.is)))

pub loop-socket-preserved : goal.loop-socket-preserved
loop-socket-preserved g c =
    let states = map (λ b. (goal.Chip-dyn g (b.vtable, b.value)).state b.value) c.args.rack.now.items in
    let within : c.loop-socket.socket < length states =
    omega (arith, length-map c.args.rack.now.items (λ b. (goal.Chip-dyn g (b.vtable, b.value)).state b.value)) in
    let s = seated states c.loop-socket.socket within in
    let told = c.byte_in.ensures.answer s.0
    (still_seated states _ c.loop-socket.socket s.0 c.loop-socket.invariant.stays s.1) in
    let more = held_more c.args.at c.loop-socket.socket states s.0 c.byte_in.result s.1 (sym told) in
    let rest = c.loop-socket.invariant.rest ∙ ap (λ (l : List ℕ). listed c.loop-socket.held ++ l) more in
    record {
      rest = elim c.match-byte_in.branch [
        | in-Some+else-is_some w ↦
            held_first_byte c.loop-socket.held (held_from c.args.at 0 states) (listed c.byte_in.result)
            (held_from c.args.at (c.loop-socket.socket + 1) states) (sym w.is_some.ensures ∙ w.if-is_some.false) rest
            ∙ ap (λ (byte : Option ℕ). listed byte ++ held_from c.args.at (c.loop-socket.socket + 1) states) (w.in-Some.is ∙ sym w.held-is)
        | in_default w ↦ rest
            ∙ ap (λ (l : List ℕ). listed c.loop-socket.held ++ l)
            (ap (λ (byte : Option ℕ). listed byte ++ held_from c.args.at (c.loop-socket.socket + 1) states) w.in_default.is)
            ∙ ap (λ (held : Option ℕ). listed held ++ held_from c.args.at (c.loop-socket.socket + 1) states) (sym w.held-is)
      ];
      stays = c.byte_in.ensures.stays ∙ c.loop-socket.invariant.stays;
      asked = asked_once _ _ _ _ c.loop-socket.socket c.loop-socket.invariant.asked c.byte_in.ensures.asked refl;
      chips = c.byte_in.ensures.chips ∙ c.loop-socket.invariant.chips;
    }

pub returns-clause-byte : goal.returns-clause-byte
returns-clause-byte g c =
    let states = map (λ b. (goal.Chip-dyn g (b.vtable, b.value)).state b.value) c.args.rack.now.items in
    let past : length states ≤ c.loop-socket.socket =
    omega (arith, length-map c.args.rack.now.items (λ b. (goal.Chip-dyn g (b.vtable, b.value)).state b.value)) in
    sym
    (ap sole c.loop-socket.invariant.rest
    ∙ sole_of c.loop-socket.held _ (held_none c.args.at c.loop-socket.socket states past))
