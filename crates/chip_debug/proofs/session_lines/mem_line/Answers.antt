-- A turn writes the next byte.
use Rattle.std.proofs.Common.{◌≡◌, ◌∙◌, ◌+◌, ◌%◌, ◌++◌, ◌∷◌, [], ℕ, List, ap, sym, codes, map, arith}
use Rattle.std.specs.Prelude.{Option, flat_map}
use Rattle.std.proofs.lemmas.List.{flat_map_more}
use Rattle.std.proofs.lemmas.List.FromFn.{map-range_with_len_more}
use Rattle.data_bus.specs.Racks.{views}
use Rattle.f8_spec.specs.Spelling.{hex4}
use Rattle.chip_debug.specs.Carried.{byte_held, bytes_held}
use Rattle.chip_debug.specs.DebugText.{byte_text}
use Rattle.chip_debug.proofs.SocketLaws.{asked_each}
use Rattle.chip_debug.proofs.session_lines.mem_line.Goals as goal

pub loop-place-preserved : goal.loop-place-preserved
loop-place-preserved g c =
    let states = map (λ b. (goal.Chip-dyn g (b.vtable, b.value)).state b.value) c.args.rack.now.items in
    let byte : c.byte_held.result ≡ byte_held (views states) ((c.args.at + c.loop-place.place) % 65536) =
    rw (c.loop-place.invariant.stays, c.from.ensures) at c.byte_held.ensures.byte in
    let from_none : 0 + c.loop-place.place ≡ c.loop-place.place = omega arith in
    let more = map-range_with_len_more (λ (k : ℕ). byte_held (views states) ((c.args.at + k) % 65536)) 0 c.loop-place.place
    c.loop-place.place from_none in
    let told = codes "mem " ++ hex4 c.args.at in
    record {
      text = c.write_byte.ensures.text
          ∙ ap (λ (l : List ℕ). l ++ byte_text c.byte_held.result) c.loop-place.invariant.text
          ∙ flat_map_more byte_text told (bytes_held (views states) c.args.at c.loop-place.place) c.byte_held.result
          ∙ ap (λ (b : Option ℕ). told ++ flat_map byte_text (bytes_held (views states) c.args.at c.loop-place.place ++ b ∷ [])) byte
          ∙ ap (λ (l : List (Option ℕ)). told ++ flat_map byte_text l) (sym more);
      len = omega (arith, c.write_byte.ensures.len, c.loop-place.invariant.len);
      stays = c.byte_held.ensures.stays ∙ c.loop-place.invariant.stays;
      asked = asked_each _ _ _ c.loop-place.place _ _ c.loop-place.invariant.asked c.byte_held.ensures.asked c.loop-place.invariant.chips;
      chips = c.byte_held.ensures.chips ∙ c.loop-place.invariant.chips;
    }
