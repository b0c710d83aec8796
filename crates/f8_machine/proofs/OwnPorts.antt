-- Chips whose ports begin above the processor's own leave it those.
use Rattle.std.proofs.Common.{◌≡◌, ℕ, suc, ◌<◌, ◌≤◌, Bool, false, List, [], ◌∷◌, map, filter, length, Option, Some}
use Rattle.std.proofs.Common.{None, refl, sym, ap, ◌∙◌, arith}
use Rattle.std.specs.Prelude.{nat_le, slice_get, is_some, option_map, option_and_then}
use Rattle.std.proofs.lemmas.Bool.{lt-leb}
use Rattle.std.proofs.lemmas.Option.{slice_get-map}
use Rattle.f8_spec.specs.BusArbitration.{Seat, seat_of, seat_has_port}
use Rattle.f8_spec.specs.ChipState.{ChipView, ChipState, role_at, offset_from}
use Rattle.f8_spec.specs.declared.chips.ChipKind.{ChipKind}
use Rattle.cpu3850.specs.OwnWrites.{LeaveOwnPorts}
use Rattle.data_bus.specs.Racks.{views}
use Rattle.f8_machine.proofs.Kept.{Comes, comes}

none_counted : (has : Seat → Bool) (vs : List ChipView) →
    ((k : ℕ) (v : ChipView) → slice_get vs k ≡ Some v → has (seat_of v) ≡ false) →
    length (filter has (map seat_of vs)) ≡ 0
none_counted has [] none = refl
none_counted has (v ∷ vs) none = rw (none 0 v refl) (none_counted has vs (λ k w lies. none (suc k) w lies))

-- a chip has no port below its first
no_port : (kind : ChipKind) (ports : Option ℕ) (port : ℕ) → ((first : ℕ) → ports ≡ Some first → port < first) →
    is_some (option_map (role_at kind) (option_and_then (offset_from port) ports)) ≡ false
no_port kind None port above = refl
no_port kind (Some first) port above = let none : nat_le first port ≡ false = lt-leb first port (above first refl) in
    rw none refl

pub leave_own_ports : (states : List ChipState) →
    ((place : ℕ) (s : ChipState) → slice_get states place ≡ Some s → (first : ℕ) → s.view.ports ≡ Some first →
    2 ≤ first) →
    LeaveOwnPorts (map seat_of (views states))
leave_own_ports states above = record {
  port_0 = none_counted (λ s. seat_has_port s 0) (views states)
      (λ k v lies. no_port v.kind v.ports 0 (λ first is. omega (arith, at k v lies first is)));
  port_1 = none_counted (λ s. seat_has_port s 1) (views states)
      (λ k v lies. no_port v.kind v.ports 1 (λ first is. omega (arith, at k v lies first is)));
}
  where
    at : (k : ℕ) (v : ChipView) → slice_get (views states) k ≡ Some v → (first : ℕ) → v.ports ≡ Some first → 2 ≤ first
    at k v lies first is =
        let chip : Comes (λ (s : ChipState). s.view) (slice_get states k) v =
        comes (λ s. s.view) (slice_get states k) v
        (sym (slice_get-map (λ (s : ChipState). s.view) states k) ∙ lies) in
        above k chip.from chip.is first (ap (λ (w : ChipView). w.ports) (sym chip.gives) ∙ is)
