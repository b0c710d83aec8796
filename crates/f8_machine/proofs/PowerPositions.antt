-- Power-on of a machine on a rack of chips that are fitted makes the position of power-on.
use Rattle.std.proofs.Common.{◌≡◌, ℕ, zero, suc, ◌+◌, ◌<◌, List, [], ◌∷◌, map, length, refl, sym, ap, ◌∙◌, subst, arith}
use Rattle.std.specs.Prelude.{Some, slice_get, replicate, slice_index}
use Rattle.std.specs.List.{enumerate_from}
use Rattle.std.proofs.lemmas.Option.{slice_get-map}
use Rattle.f8_spec.specs.BusArbitration.{Seat, seat_of}
use Rattle.f8_spec.specs.ChipState.{ChipView, ChipState, IsFilled, IsWhole, clear_data_ports, powered}
use Rattle.f8_spec.specs.Powers.{ArePowers}
use Rattle.f8_spec.specs.declared.chips.ChipKind.{ChipKind}
use Rattle.f8_spec.specs.declared.chips.ChipKind.TheVariants.{Psu, Smi, Pio}
use Rattle.f8_spec.specs.declared.chips.PowerOn.{PowerOn}
use Rattle.console_spec.specs.CounterCopies.{reset_copy, unreset}
use Rattle.console_spec.specs.Powering.{fill_in, start_in}
use Rattle.console_spec.specs.InterruptRequests.{no_history}
use Rattle.console_spec.specs.Run.{power_position, seats_of}
use Rattle.data_bus.specs.Racks.{views}
use Rattle.f8_machine.specs.RackViews.{AreCopies, HoldsFlat, HoldsPorts}
use Rattle.cpu3850.specs.OwnWrites.{LeaveOwnPorts}
use Rattle.data_bus.specs.declared.index.Index.{Index}
use Rattle.f8_machine.specs.MachineState.{powered_machine}
use Rattle.f8_machine.specs.RequestsHeld.{IsInTime}
use Rattle.f8_machine.specs.Refinement.{AreWhole, AreAtZero, IsPowered}
use Rattle.f8_machine.specs.Rounds.{RackPowers}
use Rattle.f8_machine.proofs.FirstViews.{powered_views, powered_comes, views_powered, first_flat, first_bytes}
use Rattle.f8_machine.proofs.FirstViews.{length-first_memory, length-filled_bytes, seat_of-powered}
use Rattle.f8_machine.proofs.Kept.{Comes, comes}
use Rattle.f8_machine.proofs.PortSteps.{latch_small}
use Rattle.console_spec.proofs.PowerLaws.{fill_small}
use Rattle.f8_machine.proofs.RequestEvents.{in_time_powered}

-- each chip stands where its copy will be reset from
copies_powered : (fill start : ℕ → ℕ) (n : ℕ) (vs : List ChipView) → ((k : ℕ) (v : ChipView) → slice_get vs k ≡ Some v → IsFilled v) →
    AreCopies (λ second c. unreset c) 0 (map (reset_copy start) (enumerate_from n (map seat_of vs)))
    (map (λ x. powered (fill x.0) (start x.0) x.1) (enumerate_from n vs))
copies_powered fill start n [] filled = tt
copies_powered fill start n (v ∷ vs) filled = (
  record {
    seat = seat_of-powered (fill n) (start n) v;
    counters = refl;
    heard = refl;
    filled = length-filled_bytes (fill n) v.pages v.bytes (filled 0 v refl);
  },
  copies_powered fill start (n + 1) vs (λ k w lies. filled (suc k) w lies),
)

resets_to_zero : (start : ℕ → ℕ) (n : ℕ) (seats : List Seat) → AreAtZero (map (reset_copy start) (enumerate_from n seats))
resets_to_zero start n [] = tt
resets_to_zero start n (s ∷ seats) = (refl, resets_to_zero start (n + 1) seats)

-- the views of whole chips
view_whole : (states : List ChipState) → AreWhole states → (k : ℕ) (v : ChipView) →
    slice_get (views states) k ≡ Some v → IsWhole v
view_whole states whole k v lies =
    let found = comes (λ (s : ChipState). s.view) (slice_get states k) v
    (sym (slice_get-map (λ (s : ChipState). s.view) states k) ∙ lies) in
    subst IsWhole (sym found.gives) (whole k found.from found.is)

seats_reset : (start : ℕ → ℕ) (n : ℕ) (seats : List Seat) → seats_of (map (reset_copy start) (enumerate_from n seats)) ≡ seats
seats_reset start n [] = refl
seats_reset start n (s ∷ seats) = ap (λ (ss : List Seat). s ∷ ss) (seats_reset start (n + 1) seats)

zeros : (n k : ℕ) → slice_index (replicate n 0) k ≡ 0
zeros zero k = refl
zeros (suc n) zero = refl
zeros (suc n) (suc k) = zeros n k

two_zeros : (latch : ℕ) → slice_index (0 ∷ 0 ∷ []) latch ≡ 0
two_zeros zero = refl
two_zeros (suc zero) = refl
two_zeros (suc (suc n)) = refl

clear_byte : (kind : ChipKind) (latch : ℕ) → slice_index (clear_data_ports kind) latch ≡ 0
clear_byte Psu latch = two_zeros latch
clear_byte Smi latch = refl
clear_byte Pio latch = two_zeros latch

-- every latch and every key byte is 0
powered_ports : (fill start : ℕ → ℕ) (vs : List ChipView) → HoldsPorts (replicate 256 0) [] (powered_views fill start vs)
powered_ports fill start vs place w port latch lies found once =
    let chip : Comes (powered (fill place) (start place)) (slice_get vs place) w = powered_comes fill start vs place w lies in
    let kind : w.kind ≡ chip.from.kind = ap (λ (v : ChipView). v.kind) chip.gives in
    let few : latch < length (clear_data_ports w.kind) = latch_small w port latch found in
    let latches : w.latches ≡ clear_data_ports w.kind =
    ap (λ (v : ChipView). v.latches) chip.gives ∙ ap clear_data_ports (sym kind) in
    let key_bytes : w.key_bytes ≡ clear_data_ports w.kind =
    ap (λ (v : ChipView). v.key_bytes) chip.gives ∙ ap clear_data_ports (sym kind) in
    record {
      latches = subst (λ (l : List ℕ). latch < length l) (sym latches) few;
      key_bytes = subst (λ (l : List ℕ). latch < length l) (sym key_bytes) few;
      written = ap (λ (l : List ℕ). slice_index l latch) latches ∙ clear_byte w.kind latch;
      key = ap (λ (l : List ℕ). slice_index l latch) key_bytes ∙ clear_byte w.kind latch ∙ sym (zeros 256 port);
    }

pub powers_pair : (fill : ℕ) (chain : List ℕ) (powers : List PowerOn) (index : Index) (olds news : List ChipState) → fill < 256 →
    ArePowers powers → AreWhole olds → LeaveOwnPorts (map seat_of (views olds)) → RackPowers fill chain powers olds news →
    IsPowered (powered_machine fill chain index) news (power_position (views olds) chain powers fill)
powers_pair fill chain powers index olds news small are whole free on =
    let vs = views olds in
    let fills : ℕ → ℕ = fill_in fill chain powers in
    let starts : ℕ → ℕ = start_in fill chain powers in
    let filled : (k : ℕ) (v : ChipView) → slice_get vs k ≡ Some v → IsFilled v =
    λ k v lies. (view_whole olds whole k v lies).filled in
    let same : views news ≡ powered_views fills starts vs = views_powered fills starts olds news on in
    record {
      stands = record {
        holds = record {
          registers = refl;
          own = refl;
          rack = record {
            reference = refl;
            copies = subst (λ ws. AreCopies (λ second c. unreset c) 0
                (map (reset_copy starts) (enumerate_from 0 (map seat_of vs))) ws)
                (sym same) (copies_powered fills starts 0 vs filled);
            flat = subst (λ ws. HoldsFlat (power_position vs chain powers fill).flat.memory ws) (sym same)
                (first_flat fills starts vs filled);
            ports = subst (λ (ws : List ChipView). HoldsPorts (replicate 256 0) [] ws) (sym same)
                (powered_ports fills starts vs);
            in_time = subst (λ (ws : List ChipView). IsInTime 0 no_history ws) (sym same) (in_time_powered fills starts vs);
          };
          free = subst LeaveOwnPorts (sym (seats_reset starts 0 (map seat_of vs))) free;
          memory = record {
            whole = length-first_memory vs fills;
            bytes = first_bytes vs fills (fill_small fill chain powers small are)
                (λ k v lies i. (view_whole olds whole k v lies).bytes i);
          };
          addresses = record { p = omega arith; p1 = omega arith; d0 = omega arith; d1 = omega arith };
        };
        flow = refl;
        phi = refl;
        chain = refl;
        keys = refl;
      };
      unwritten = refl;
      unacknowledged = refl;
      at_zero = refl;
      copies_at_zero = resets_to_zero starts 0 (map seat_of vs);
      powered = refl;
    }
