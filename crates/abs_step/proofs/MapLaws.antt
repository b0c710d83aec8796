-- What the checker's map says of the chips of a rack and their copies: who may answer at an address, and at a port.
use Rattle.std.proofs.Common.{◌≡◌, ℕ, suc, ◌+◌, ◌/◌, ◌<◌, Bool, true, false, List, [], ◌∷◌, length, map, refl, ap, ◌∙◌, arith}
use Rattle.std.specs.Prelude.{Option, Some, None, ◌==◌, nat_le, if◌then◌else◌}
use Rattle.std.specs.List.{AllByRecursion, enumerate_from}
use Rattle.std.proofs.lemmas.Bool.Decides.{nat_tests}
use Rattle.f8_spec.specs.BusCodes.{count_at, counter_of}
use Rattle.f8_spec.specs.ChipState.{has_counters}
use Rattle.f8_spec.specs.BusArbitration.{Seat, seat_holds, seat_has_ram, seat_has_data_port, seat_has_port, parties}
use Rattle.f8_spec.specs.BusArbitration.{Served, place_in, port_read_ruling, port_write_ruling}
use Rattle.f8_spec.specs.declared.bus.Counter.TheVariants.{NoCounter}
use Rattle.f8_spec.specs.declared.bus.BusRule.TheVariants.{Read, Store, PortRead, PortWrite}
use Rattle.f8_spec.specs.declared.bus.Party.{Party}
use Rattle.f8_spec.specs.declared.chips.ChipKind.{ChipKind}
use Rattle.f8_spec.proofs.SameKind.{itself, is_same}
use Rattle.console_spec.specs.Writes.{readers, takers}
use Rattle.console_spec.specs.CounterCopies.{Copy}
use Rattle.console_spec.specs.BusAccesses.{Access, at_port}
use Rattle.console_spec.specs.Processor.{Flow}
use Rattle.console_spec.specs.Services.{own_place, placed_copy}
use Rattle.console_spec.specs.Run.{seats_of}
use Rattle.memory_map.specs.MapKinds.{has_kind_and_page, kind_holds, has_kind_and_pages}
use Rattle.abs_step.specs.MapView.{MapView, IsViewOf, HasOwnRam, HoldsByCounters}
use Rattle.abs_step.proofs.Knowing.{left_of, right_of, both_of}
use Rattle.abs_step.proofs.Members.{SomeOf, some_of_any, some_map, all_of, any_in, from_all}
use Rattle.abs_step.proofs.Accesses.{AtMostOne, WouldNot}
use Rattle.abs_step.proofs.Holders.{HeldByOne, NotHeld, ram_is_held, holder_has_pages}

-- what the map says of one chip
pub record IsMapped (m : MapView) (s : Seat) : Type 0 where
  pub held : (at : ℕ) → at < 65536 → seat_holds s at ≡ true → m.held at s.kind ≡ true
  pub any : (at : ℕ) → seat_holds s at ≡ true → m.any s.kind ≡ true
  pub ram : HasOwnRam s
  pub counted : HoldsByCounters s

pub all_mapped_seats : (m : MapView) (seats : List Seat) → IsViewOf m seats → AllByRecursion (IsMapped m) seats
all_mapped_seats m seats view = all_of (IsMapped m) seats (λ s is. record {
  held = λ at small holds. view.held at small s.kind
      ∙ any_in (has_kind_and_page s.kind (at / 256)) seats s is (both_of _ _ (itself s.kind) holds);
  any = λ at holds. view.any s.kind
      ∙ any_in (has_kind_and_pages s.kind) seats s is (both_of _ _ (itself s.kind) (holder_has_pages s at holds));
  ram = from_all HasOwnRam seats s view.ram is;
  counted = from_all HoldsByCounters seats s view.counted is;
})

-- a chip of a kind that holds an address
abbrev pub HoldsAs : ChipKind → ℕ → Seat → Type 0
HoldsAs kind at s = (s.kind ≡ kind) × (seat_holds s at ≡ true)

pub some_of_kind : (kind : ChipKind) (ss : List Seat) (at : ℕ) → kind_holds kind ss at ≡ true → SomeOf (HoldsAs kind at) ss
some_of_kind kind ss at held = some_map _ (HoldsAs kind at) ss
    (all_of _ ss (λ s is h. (is_same kind s.kind (left_of _ _ h), right_of _ _ h)))
    (some_of_any (has_kind_and_page kind (at / 256)) ss held)

-- ---- at most one chip would answer

unheld_ram : (s : Seat) (at : ℕ) → seat_holds s at ≡ false → seat_has_ram s at ≡ false
unheld_ram s at unheld = by (seat_has_ram s at) refl
  where
    by : (b : Bool) → seat_has_ram s at ≡ b → b ≡ false
    by true e = absurd (cc (ram_is_held s at e))
    by false e = refl

none_would_read : (a : Access) (at : ℕ) (cs : List Copy) → AllByRecursion (NotHeld at) (seats_of cs) →
    AllByRecursion (WouldNot Read at) (map (placed_copy a) cs)
none_would_read a at [] none = tt
none_would_read a at (c ∷ cs) none = (none.0, none_would_read a at cs none.1)

pub one_would_read : (a : Access) (at : ℕ) (cs : List Copy) → HeldByOne at (seats_of cs) → AtMostOne Read at (map (placed_copy a) cs)
one_would_read a at [] one = tt
one_would_read a at (c ∷ cs) one = (λ would. none_would_read a at cs (one.0 would), one_would_read a at cs one.1)

none_would_store : (a : Access) (at : ℕ) (cs : List Copy) → AllByRecursion (NotHeld at) (seats_of cs) →
    AllByRecursion (WouldNot Store at) (map (placed_copy a) cs)
none_would_store a at [] none = tt
none_would_store a at (c ∷ cs) none = (unheld_ram c.seat at none.0, none_would_store a at cs none.1)

pub one_would_store : (a : Access) (at : ℕ) (cs : List Copy) → HeldByOne at (seats_of cs) → AtMostOne Store at (map (placed_copy a) cs)
one_would_store a at [] one = tt
one_would_store a at (c ∷ cs) one =
    (λ would. none_would_store a at cs (one.0 (ram_is_held c.seat at would)), one_would_store a at cs one.1)

-- ---- ports: as many chips take part as have the port

-- each chip is at the port, one without counters too
port_place : (romc port : ℕ) (kind : ChipKind) (c : Flow) → counter_of romc ≡ NoCounter → own_place (at_port romc port) kind c ≡ port
port_place romc port kind c none = by (has_counters kind)
  where
    by : (b : Bool) → (if b then port else place_in romc (count_at 0) port) ≡ port
    by true = refl
    by false = rw none refl

readers_counted : (romc port n : ℕ) (cs : List Copy) → counter_of romc ≡ NoCounter →
    length (parties PortRead (enumerate_from n (map (placed_copy (at_port romc port)) cs))) ≡ readers port (seats_of cs)
readers_counted romc port n [] none = refl
readers_counted romc port n (c ∷ cs) none = by (seat_has_data_port c.seat port) refl (readers_counted romc port (n + 1) cs none)
  where
    by : (b : Bool) → seat_has_data_port c.seat port ≡ b →
        length (parties PortRead (enumerate_from (n + 1) (map (placed_copy (at_port romc port)) cs))) ≡ readers port (seats_of cs) →
        length (parties PortRead (enumerate_from n (map (placed_copy (at_port romc port)) (c ∷ cs)))) ≡ readers port (seats_of (c ∷ cs))
    by true e later = rw (port_place romc port c.seat.kind c.flow none, e) (ap suc later)
    by false e later = rw (port_place romc port c.seat.kind c.flow none, e) later

takers_counted : (romc port n : ℕ) (cs : List Copy) → counter_of romc ≡ NoCounter →
    length (parties PortWrite (enumerate_from n (map (placed_copy (at_port romc port)) cs))) ≡ takers port (seats_of cs)
takers_counted romc port n [] none = refl
takers_counted romc port n (c ∷ cs) none = by (seat_has_port c.seat port) refl (takers_counted romc port (n + 1) cs none)
  where
    by : (b : Bool) → seat_has_port c.seat port ≡ b →
        length (parties PortWrite (enumerate_from (n + 1) (map (placed_copy (at_port romc port)) cs))) ≡ takers port (seats_of cs) →
        length (parties PortWrite (enumerate_from n (map (placed_copy (at_port romc port)) (c ∷ cs)))) ≡ takers port (seats_of (c ∷ cs))
    by true e later = rw (port_place romc port c.seat.kind c.flow none, e) (ap suc later)
    by false e later = rw (port_place romc port c.seat.kind c.flow none, e) later

one_reader : (port : ℕ) (ps : List Party) → length ps ≡ 1 → (socket : Option ℕ) × (port_read_ruling port ps ≡ Served socket)
one_reader port [] one = absurd (omega arith)
one_reader port (p ∷ []) one = (Some p.socket, refl)
one_reader port (p ∷ (q ∷ ps)) one = absurd (omega arith)

pub port_read_served : (romc port n : ℕ) (cs : List Copy) → counter_of romc ≡ NoCounter → (readers port (seats_of cs) == 1) ≡ true →
    (socket : Option ℕ)
    × (port_read_ruling port (parties PortRead (enumerate_from n (map (placed_copy (at_port romc port)) cs))) ≡ Served socket)
port_read_served romc port n cs none one =
    let exact : readers port (seats_of cs) ≡ 1 = grind (arith, nat_tests) in
    one_reader port _ (readers_counted romc port n cs none ∙ exact)

few_takers : (ps : List Party) → length ps < 2 → (socket : Option ℕ) × (port_write_ruling ps ≡ Served socket)
few_takers [] few = (None, refl)
few_takers (p ∷ []) few = (Some p.socket, refl)
few_takers (p ∷ (q ∷ ps)) few = absurd (omega arith)

pub port_write_served : (romc port n : ℕ) (cs : List Copy) → counter_of romc ≡ NoCounter → nat_le 2 (takers port (seats_of cs)) ≡ false →
    (socket : Option ℕ)
    × (port_write_ruling (parties PortWrite (enumerate_from n (map (placed_copy (at_port romc port)) cs))) ≡ Served socket)
port_write_served romc port n cs none few =
    let small : takers port (seats_of cs) < 2 = grind (arith, nat_tests) in
    few_takers _ (rw (takers_counted romc port n cs none) small)
