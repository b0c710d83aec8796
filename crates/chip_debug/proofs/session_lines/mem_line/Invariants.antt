-- The bytes so far are written, and the rack stays.
use Rattle.std.proofs.Common.{◌≡◌, ◌≤◌, ◌++◌, ◌+◌, ◌*◌, codes, length, map}
use Rattle.std.specs.Prelude.{flat_map, sum_by}
use Rattle.data_bus.specs.Racks.{views}
use Rattle.f8_spec.specs.Spelling.{hex4}
use Rattle.chip_debug.specs.Carried.{bytes_held}
use Rattle.chip_debug.specs.DebugText.{byte_text}
use Rattle.chip_debug.proofs.session_lines.mem_line.Given as goal

abbrev pub invariant-loop-place : goal.invariant-loop-place
invariant-loop-place g l =
    let states = map (λ b. (goal.Chip-dyn g (b.vtable, b.value)).state b.value) l.fn.rack.items in
    record {
      text : l.line ≡ codes "mem " ++ hex4 l.fn.at ++ flat_map byte_text (bytes_held (views states) l.fn.at l.place);
      len : length l.line ≤ 8 + 3 * l.place;
      stays : map (λ b. (goal.Chip-dyn g (b.vtable, b.value)).state b.value) l.rack.items ≡ states;
      asked : sum_by (λ b. (goal.Chip-dyn g (b.vtable, b.value)).queries b.value) l.rack.items
          ≤ sum_by (λ b. (goal.Chip-dyn g (b.vtable, b.value)).queries b.value) l.fn.rack.items + l.place * length l.fn.rack.items;
      chips : length l.rack.items ≡ length l.fn.rack.items;
    }
