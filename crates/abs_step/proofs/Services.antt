-- Which accesses are served at a safe point: those at a place where all chips are, stores, and reads at D0 where some chip answers.
use Rattle.std.proofs.Common.{◌≡◌, ℕ, ◌<◌, Bool, true, false, List, map, refl, sym, ◌∙◌}
use Rattle.std.specs.Prelude.{Option, Some, None}
use Rattle.std.specs.List.{AllByRecursion, enumerate_from}
use Rattle.f8_spec.specs.ChipState.{has_counters, has_second_counter}
use Rattle.f8_spec.specs.BusArbitration.{Seat, seat_holds, seat_has_ram, rule_of, Served}
use Rattle.f8_spec.specs.BusArbitration.{parties, bystanders, lowest, read_ruling}
use Rattle.f8_spec.specs.declared.bus.BusRule.TheVariants.{Read}
use Rattle.f8_spec.specs.declared.chips.ChipKind.{ChipKind}
use Rattle.f8_spec.specs.declared.chips.ChipKind.TheVariants.{Psu, Smi, Pio}
use Rattle.console_spec.specs.Processor.{Flow}
use Rattle.console_spec.specs.CounterCopies.{Copy}
use Rattle.console_spec.specs.FlatMemory.{sort_of}
use Rattle.console_spec.specs.BusAccesses.{Access, at_data}
use Rattle.console_spec.specs.Services.{Fault, Undriven, own_place, placed_copy, access_fault}
use Rattle.console_spec.specs.Run.{seats_of}
use Rattle.console_spec.specs.declared.Sort.{Sort}
use Rattle.console_spec.specs.declared.Sort.TheVariants.{Rom, Ram, Void, Nothing, Shared}
use Rattle.memory_map.specs.MapKinds.{is_held, is_held_once}
use Rattle.abs_domain.specs.Lattice.{Below}
use Rattle.abs_domain.specs.AbstractState.{KnownCounters}
use Rattle.abs_step.specs.MapView.{MapView, HoldsByCounters}
use Rattle.abs_step.specs.Safety.{may_be_held_by_psu}
use Rattle.abs_step.specs.Concretization.{Holds, ChipTells, CopyTells}
use Rattle.console_spec.specs.FreeRuns.{AreAddresses}
use Rattle.abs_step.proofs.Members.{SomeOf, all_map, all_mapped, some_map, some_mapped, some_unmapped}
use Rattle.abs_step.proofs.Accesses.{IsThere, ReadOutcome, IsServed, IsUndriven, read_outcome, read_served, store_served}
use Rattle.abs_step.proofs.Holders.{held_by_one, some_hold, ram_is_held}
use Rattle.abs_step.proofs.MapLaws.{IsMapped, one_would_read, one_would_store}

-- ---- sorts

pub once_unshared : (sort : Sort) → is_held_once sort ≡ true → sort ≡ Shared → ⊥
once_unshared sort once shared = absurd (cc (rw shared at once))

pub once_held : (sort : Sort) → is_held_once sort ≡ true → is_held sort ≡ true
once_held Rom once = refl
once_held Ram once = refl
once_held Void once = refl
once_held Nothing once = absurd (cc)
once_held Shared once = refl

-- ---- reads at a place where all chips are

-- by the set of counters that its copy keeps a chip is where the flat machine is, and it has counters where it holds an address
pub record IsAt (a : Access) (r : Flow) (c : Copy) : Type 0 where
  pub same : a.place (has_second_counter c.seat.kind) c.flow ≡ a.place true r
  pub counted : HoldsByCounters c.seat

-- the place of a chip that has counters goes by them
own_at : (a : Access) (c : Copy) → has_counters c.seat.kind ≡ true →
    own_place a c.seat.kind c.flow ≡ a.place (has_second_counter c.seat.kind) c.flow
own_at a c has = rw has refl

served : (r : Flow) (cs : List Copy) (a : Access) → rule_of a.romc ≡ Read →
    (socket : Option ℕ) × (read_ruling (a.place true r) (parties Read (enumerate_from 0 (map (placed_copy a) cs)))
    (lowest (bystanders Read (a.place true r) (enumerate_from 0 (map (placed_copy a) cs)))) ≡ Served socket) →
    access_fault r cs a ≡ None
served r cs a rule v = rw (rule, v.1) refl

pub all_at_served : (r : Flow) (cs : List Copy) (a : Access) → rule_of a.romc ≡ Read → AllByRecursion (IsAt a r) cs →
    is_held_once (sort_of (seats_of cs) (a.place true r)) ≡ true → access_fault r cs a ≡ None
all_at_served r cs a rule all once = served r cs a rule
    (read_served (a.place true r) 0 (map (placed_copy a) cs)
    (all_mapped (placed_copy a) _ cs (all_map (IsAt a r) _ cs (λ c at takes. own_at a c (at.counted _ takes) ∙ at.same) all))
    (one_would_read a _ cs (held_by_one _ (seats_of cs) (once_unshared _ once)))
    (some_mapped (placed_copy a) _ cs (some_map (λ (c : Copy). seat_holds c.seat (a.place true r) ≡ true) _ cs
    (all_map (IsAt a r) _ cs (λ c at holds. rw (own_at a c (at.counted _ holds), at.same) holds) all)
    (some_unmapped (λ (c : Copy). c.seat) _ cs (some_hold _ (seats_of cs) (once_held _ once))))))

-- ---- the data counter

-- the facts that a step by D0 needs hold: that of the 3853s, and that of the 3851s where one may answer
pub record StoresAlike (m : MapView) (k : KnownCounters) : Type 0 where
  pub smi : m.any Smi ≡ true → k.s0 ≡ true

pub record ReadsAlike (m : MapView) (k : KnownCounters) : Type 0 where
  pub smi : m.any Smi ≡ true → k.s0 ≡ true
  pub psu : m.any Psu ≡ true → may_be_held_by_psu m k.c ≡ true → k.p0 ≡ true

-- a chip of a rack with its copy: the map knows it, its counters are addresses, and what is told of them is so
pub record IsTold (m : MapView) (ret : Option ℕ) (k : KnownCounters) (r : Flow) (c : Copy) : Type 0 where
  pub mapped : IsMapped m c.seat
  pub addresses : AreAddresses c.flow
  pub tells : CopyTells ret k r c

pub holds_if : {P : Type 0} (b : Bool) → b ≡ true → Holds b P → P
holds_if true e h = h
holds_if false e h = absurd (cc)

may_hold : (m : MapView) (at : ℕ) (c : Option ℕ) → Below (Some at) c → m.held at Psu ≡ true → may_be_held_by_psu m c ≡ true
may_hold m at None p held = refl
may_hold m at (Some v) p held = let same : at ≡ v = cc in rw (sym same) held

-- a chip that holds its own DC0, by its kind
there_by : (kind : ChipKind) (m : MapView) (k : KnownCounters) (r c : Flow) (s : Seat) → s.kind ≡ kind → IsMapped m s → ReadsAlike m k →
    c.d0 < 65536 → ChipTells kind k r c → seat_holds s c.d0 ≡ true → c.d0 ≡ r.d0
there_by Psu m k r c s is mapped alike small t holds =
    let held : m.held c.d0 s.kind ≡ true = mapped.held c.d0 small holds in
    let any : m.any s.kind ≡ true = mapped.any c.d0 holds in
    holds_if k.p0 (alike.psu (rw is at any) (may_hold m c.d0 k.c t.value (rw is at held))) t.first
there_by Smi m k r c s is mapped alike small t holds =
    let any : m.any s.kind ≡ true = mapped.any c.d0 holds in
    holds_if k.s0 (alike.smi (rw is at any)) t.first
there_by Pio m k r c s is mapped alike small t holds =
    let has : has_counters s.kind ≡ true = mapped.counted c.d0 holds in absurd (cc (rw is at has))

-- a chip that has RAM somewhere
ram_by : (kind : ChipKind) (m : MapView) (k : KnownCounters) (r c : Flow) (s : Seat) (at : ℕ) → s.kind ≡ kind → IsMapped m s →
    StoresAlike m k →
    ChipTells kind k r c → seat_has_ram s at ≡ true → c.d0 ≡ r.d0
ram_by Psu m k r c s at is mapped alike t ram = let smi : s.kind ≡ Smi = mapped.ram at ram in absurd (cc)
ram_by Smi m k r c s at is mapped alike t ram =
    let any : m.any s.kind ≡ true = mapped.any at (ram_is_held s at ram) in
    holds_if k.s0 (alike.smi (rw is at any)) t.first
ram_by Pio m k r c s at is mapped alike t ram = let smi : s.kind ≡ Smi = mapped.ram at ram in absurd (cc)

read_there : (m : MapView) (ret : Option ℕ) (k : KnownCounters) (r : Flow) (romc : ℕ) (cs : List Copy) → ReadsAlike m k →
    AllByRecursion (IsTold m ret k r) cs → AllByRecursion (IsThere Read r.d0) (map (placed_copy (at_data romc)) cs)
read_there m ret k r romc cs alike told = all_mapped _ _ cs (all_map _ _ cs
    (λ c h holds.
    let own = own_at (at_data romc) c (h.mapped.counted _ holds) in
    own ∙ there_by c.seat.kind m k r c.flow c.seat refl h.mapped alike h.addresses.d0 h.tells.chip (rw own at holds)) told)

-- a read at D0 is served, or no chip answers there
pub data DataOutcome (romc at : ℕ) (f : Option Fault) : Type 0 where
  NoFault : f ≡ None → DataOutcome romc at f
  NoAnswer : f ≡ Some (Undriven romc at) → DataOutcome romc at f

outcome_of : (r : Flow) (cs : List Copy) (romc : ℕ) → rule_of romc ≡ Read →
    ReadOutcome r.d0 (read_ruling r.d0 (parties Read (enumerate_from 0 (map (placed_copy (at_data romc)) cs)))
    (lowest (bystanders Read r.d0 (enumerate_from 0 (map (placed_copy (at_data romc)) cs))))) →
    DataOutcome romc r.d0 (access_fault r cs (at_data romc))
outcome_of r cs romc rule (IsServed socket v) = NoFault (rw (rule, v) refl)
outcome_of r cs romc rule (IsUndriven v) = NoAnswer (rw (rule, v) refl)

pub data_read : (m : MapView) (ret : Option ℕ) (k : KnownCounters) (r : Flow) (romc : ℕ) (cs : List Copy) → rule_of romc ≡ Read →
    ReadsAlike m k → AllByRecursion (IsTold m ret k r) cs → (sort_of (seats_of cs) r.d0 ≡ Shared → ⊥) →
    DataOutcome romc r.d0 (access_fault r cs (at_data romc))
data_read m ret k r romc cs rule alike told unshared = outcome_of r cs romc rule
    (read_outcome r.d0 0 _ (read_there m ret k r romc cs alike told)
    (one_would_read (at_data romc) r.d0 cs (held_by_one r.d0 (seats_of cs) unshared)))

-- a copy that is at D0, where its chip holds it
abbrev pub Answers : Flow → Copy → Type 0
Answers r c = (seat_holds c.seat r.d0 ≡ true) × (c.flow.d0 ≡ r.d0)

pub data_read_served : (m : MapView) (ret : Option ℕ) (k : KnownCounters) (r : Flow) (romc : ℕ) (cs : List Copy) → rule_of romc ≡ Read →
    ReadsAlike m k → AllByRecursion (IsTold m ret k r) cs → (sort_of (seats_of cs) r.d0 ≡ Shared → ⊥) → SomeOf (Answers r) cs →
    access_fault r cs (at_data romc) ≡ None
data_read_served m ret k r romc cs rule alike told unshared some = served r cs (at_data romc) rule
    (read_served r.d0 0 _ (read_there m ret k r romc cs alike told)
    (one_would_read (at_data romc) r.d0 cs (held_by_one r.d0 (seats_of cs) unshared))
    (some_mapped (placed_copy (at_data romc)) _ cs (some_map (Answers r) _ cs
    (all_map _ _ cs (λ c h answer. rw (own_at (at_data romc) c (h.mapped.counted r.d0 answer.0), answer.1) answer.0) told) some)))

pub data_store_served : (m : MapView) (ret : Option ℕ) (k : KnownCounters) (r : Flow) (cs : List Copy) →
    StoresAlike m k → AllByRecursion (IsTold m ret k r) cs → (sort_of (seats_of cs) r.d0 ≡ Shared → ⊥) →
    access_fault r cs (at_data 0x05) ≡ None
data_store_served m ret k r cs alike told unshared =
    let v = store_served r.d0 0 (map (placed_copy (at_data 0x05)) cs)
    (all_mapped _ _ cs (all_map _ _ cs
    (λ c h ram. at_ram c (own_place (at_data 0x05) c.seat.kind c.flow) h ram) told))
    (all_mapped _ _ cs (all_map _ _ cs (λ c h ram. at_ram c r.d0 h ram) told))
    (one_would_store (at_data 0x05) r.d0 cs (held_by_one r.d0 (seats_of cs) unshared)) in
    rw v.1 refl
  where
    -- a chip that has RAM somewhere is at D0
    at_ram : (c : Copy) (at : ℕ) → IsTold m ret k r c → seat_has_ram c.seat at ≡ true → own_place (at_data 0x05) c.seat.kind c.flow ≡ r.d0
    at_ram c at h ram =
        own_at (at_data 0x05) c (h.mapped.counted at (ram_is_held c.seat at ram))
        ∙ ram_by c.seat.kind m k r c.flow c.seat at refl h.mapped alike h.tells.chip ram
