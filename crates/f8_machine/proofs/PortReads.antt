-- A step of a port: as many chips take part as have the port, and a served read gives what stands in the port of the one chip.
use Rattle.std.proofs.Common.{◌≡◌, ℕ, suc, ◌+◌, Bool, true, false, ⊎_elim, cond, List, [], ◌∷◌, map, filter, length}
use Rattle.std.proofs.Common.{refl, sym, ap, ap₂, ◌∙◌, subst, eqb-true}
use Rattle.std.specs.Prelude.{◌==◌, if◌then◌else◌, bit_or, Option, Some, None, option_map, is_some, slice_get}
use Rattle.std.specs.List.{enumerate_from, cons_option}
use Rattle.std.proofs.lemmas.Bool.{cases_eq}
use Rattle.f8_spec.specs.BusCodes.{driver_of}
use Rattle.f8_spec.specs.ChipState.{ChipView, byte_offer, data_port, read_port}
use Rattle.f8_spec.specs.BusArbitration.{Seat, Served, seat_of, seat_has_data_port, placed, answers, party_if, parties}
use Rattle.f8_spec.specs.BusArbitration.{port_read_ruling, named_placed, offer_of, offers, bus_byte, only_byte}
use Rattle.f8_spec.specs.BusArbitration.{view_ruling}
use Rattle.f8_spec.specs.declared.bus.BusRule.{BusRule}
use Rattle.f8_spec.specs.declared.bus.BusRule.TheVariants.{PortRead}
use Rattle.f8_spec.specs.declared.bus.Driver.TheVariants.{Memory, CounterByte, Vector, Port, Cpu, Nobody}
use Rattle.f8_spec.specs.declared.bus.Party.{Party}
use Rattle.console_spec.specs.Writes.{port_value, readers, chip_port_byte}
use Rattle.console_spec.specs.declared.PortWrite.{PortWrite}
use Rattle.f8_machine.specs.RackViews.{ReadOnce, IsPort, HoldsPorts}
use Rattle.f8_machine.proofs.Kept.{keeps_one, slice_get-enumerate_from, Comes, comes}
use Rattle.f8_machine.proofs.ServedSteps.{OneAnswers, named_seats, one_answers}

-- ---- how many take part

pub count_more : (takes has : Bool) → takes ≡ has → (n at : ℕ) (ps : List Party) (s : Seat) (ss : List Seat) →
    length ps ≡ length ss →
    length (cons_option (party_if takes n at) ps) ≡ length (cond has (s ∷ ss) ss)
count_more true true same n at ps s ss rest = ap suc rest
count_more true false same n at ps s ss rest = cc
count_more false true same n at ps s ss rest = cc
count_more false false same n at ps s ss rest = rest

pub parties_count : (rule : BusRule) (romc : ℕ) (has : Seat → Bool) (n : ℕ) (vs : List ChipView) →
    ((k : ℕ) (v : ChipView) → slice_get vs k ≡ Some v → answers rule (placed romc v) ≡ has (seat_of v)) →
    length (parties rule (map (named_placed romc) (enumerate_from n vs))) ≡ length (filter has (map seat_of vs))
parties_count rule romc has n [] same = refl
parties_count rule romc has n (v ∷ vs) same =
    count_more (answers rule (placed romc v)) (has (seat_of v)) (same 0 v refl) n (placed romc v).at _ (seat_of v) _
    (parties_count rule romc has (n + 1) vs (λ k w lies. same (suc k) w lies))

-- ---- a read

-- the one code whose byte a port drives
other_driver : (memory counter vector port nobody : Bool) →
    (if memory then Memory else if counter then CounterByte else if vector then Vector else if port then Port
    else if nobody then Nobody else Cpu) ≡ Port → port ≡ true
other_driver true counter vector port nobody e = cc
other_driver false true vector port nobody e = cc
other_driver false false true port nobody e = cc
other_driver false false false true nobody e = refl
other_driver false false false false true e = cc
other_driver false false false false false e = cc

port_code : (romc : ℕ) → driver_of romc ≡ Port → romc ≡ 0x1B
port_code romc e = eqb-true romc 0x1B (other_driver _ _ _ (romc == 0x1B) _ e)

-- a served read has one party
one_reader : (port : ℕ) (ps : List Party) (socket : Option ℕ) → port_read_ruling port ps ≡ Served socket →
    (p : Party) × (ps ≡ p ∷ [])
one_reader port [] socket e = cc
one_reader port (p ∷ []) socket e = (p, refl)
one_reader port (p ∷ (q ∷ ps)) socket e = cc

-- the place of a latch that is there
some_latch : (o : Option ℕ) → is_some o ≡ true → (latch : ℕ) × (o ≡ Some latch)
some_latch None is = cc
some_latch (Some latch) is = (latch, refl)

no_latch : (o : Option ℕ) → is_some o ≡ false → o ≡ None
no_latch None is = refl
no_latch (Some latch) is = cc

module _ (last : ℕ) (vs : List ChipView) (heard : (k : ℕ) (v : ChipView) → slice_get vs k ≡ Some v →
    v.last ≡ last) where
  reads_it : (k : ℕ) (v : ChipView) → slice_get vs k ≡ Some v →
      answers PortRead (placed 0x1B v) ≡ seat_has_data_port (seat_of v) last
  reads_it k v lies = ap (seat_has_data_port (seat_of v)) (heard k v lies)

  -- the one chip has the port alone
  read_once : (one : OneAnswers PortRead 0x1B vs) → ReadOnce vs last one.place
  read_once one j w lies has = ⊎_elim (λ same. same) (λ other. absurd (no other)) (cases_eq j one.place)
    where
      no : (j ≡ one.place → ⊥) → ⊥
      no other =
          let silent = one.others j w lies other in
          let speaks : answers PortRead (placed 0x1B w) ≡ true = reads_it j w lies ∙ has in
          cc

  -- its offer is the only one
  only_port : (one : OneAnswers PortRead 0x1B vs) (latch : ℕ) → data_port one.chip one.chip.last ≡ Some latch →
      offers 0x1B None (enumerate_from 0 vs) ≡ byte_offer one.chip.last (read_port one.chip latch) ∷ []
  only_port one latch kept = keeps_one (offer_of 0x1B None) (enumerate_from 0 vs) one.place (one.place, one.chip)
      (byte_offer one.chip.last (read_port one.chip latch))
      (slice_get-enumerate_from vs one.place ∙ ap (option_map (λ v. (one.place, v))) one.lies)
      (ap (option_map (λ place. byte_offer one.chip.last (read_port one.chip place))) kept) others
    where
      others : (j : ℕ) (x : ℕ × ChipView) → slice_get (enumerate_from 0 vs) j ≡ Some x → (j ≡ one.place → ⊥) →
          offer_of 0x1B None x ≡ None
      others j x lies other =
          let chip : Comes (λ (w : ChipView). (j, w)) (slice_get vs j) x =
          comes (λ w. (j, w)) (slice_get vs j) x (sym (slice_get-enumerate_from vs j) ∙ lies) in
          let silent = one.others j chip.from chip.is other in
          ap (offer_of 0x1B None) chip.gives
          ∙ ap (option_map (λ place. byte_offer chip.from.last (read_port chip.from place)))
          (no_latch (data_port chip.from chip.from.last) silent)

  read_by_one : (placed_byte : ℕ) (keys : List ℕ) (writes : List PortWrite) (socket : Option ℕ) (p : Party) →
      parties PortRead (named_seats 0x1B vs) ≡ p ∷ [] → HoldsPorts keys writes vs →
      bus_byte 0x1B None placed_byte (enumerate_from 0 vs) ≡ chip_port_byte last (map seat_of vs) keys writes
  read_by_one placed_byte keys writes socket p only holds =
      let one = one_answers PortRead 0x1B 0 vs p only in
      let here = some_latch (data_port one.chip one.chip.last) one.answers_it in
      let at_last : data_port one.chip last ≡ Some here.0 =
      ap (data_port one.chip) (sym (heard one.place one.chip one.lies)) ∙ here.1 in
      let is : IsPort keys writes last here.0 one.chip =
      holds one.place one.chip last here.0 one.lies at_last (read_once one) in
      let count : readers last (map seat_of vs) ≡ 1 =
      sym (parties_count PortRead 0x1B (λ s. seat_has_data_port s last) 0 vs reads_it) ∙ ap length only in
      let alone : (readers last (map seat_of vs) == 1) ≡ true = ap (λ (n : ℕ). n == 1) count in
      ap only_byte (only_port one here.0 here.1) ∙ ap₂ bit_or is.written is.key
      ∙ sym (ap (λ b. if b then port_value last keys writes else 255) alone)

  pub served_port : (romc placed_byte reference : ℕ) (socket : Option ℕ) (keys : List ℕ) (writes : List PortWrite) →
      driver_of romc ≡ Port → HoldsPorts keys writes vs →
      view_ruling romc None reference (enumerate_from 0 vs) ≡ Served socket →
      bus_byte romc None placed_byte (enumerate_from 0 vs) ≡ chip_port_byte last (map seat_of vs) keys writes
  served_port romc placed_byte reference socket keys writes driver holds served =
      let code : romc ≡ 0x1B = port_code romc driver in
      let there : view_ruling 0x1B None reference (enumerate_from 0 vs) ≡ Served socket =
      subst (λ (k : ℕ). view_ruling k None reference (enumerate_from 0 vs) ≡ Served socket) code served in
      let one = one_reader reference (parties PortRead (named_seats 0x1B vs)) socket there in
      ap (λ (k : ℕ). bus_byte k None placed_byte (enumerate_from 0 vs)) code
      ∙ read_by_one placed_byte keys writes socket one.0 one.1 holds
