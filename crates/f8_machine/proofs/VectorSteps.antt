-- The bus steps that no chip has to serve, and those in which a chip gives its vector: they are always served.
use Rattle.std.proofs.Common.{◌≡◌, ℕ, ◌/◌, ◌%◌, Bool, true, false, List, refl, sym, ap, ◌∙◌}
use Rattle.std.proofs.Common.{subst, eq-eqb, eqb-true}
use Rattle.std.specs.Prelude.{◌==◌, Option, Some, None, option_map, slice_get}
use Rattle.std.specs.List.{enumerate_from}
use Rattle.std.proofs.lemmas.Option.{slice_get-map}
use Rattle.f8_spec.specs.ChipState.{ChipView, ChipState, given_vector, is_asking}
use Rattle.f8_spec.specs.ChipState.{byte_offer}
use Rattle.f8_spec.specs.BusArbitration.{Served, judged, is_first, offer_of, view_ruling, bus_byte, rule_of}
use Rattle.f8_spec.specs.declared.bus.BusRule.{BusRule}
use Rattle.f8_spec.specs.declared.bus.BusRule.TheVariants.{Read, Store, PortRead, PortWrite as WriteRule, Vector}
use Rattle.f8_spec.specs.declared.bus.BusRule.TheVariants.{NoChip}
use Rattle.f8_spec.specs.declared.bus.Party.{Party}
use Rattle.console_spec.specs.BusTrace.{is_access}
use Rattle.console_spec.specs.Services.{fault_by}
use Rattle.probe.specs.ProbeState.{ProbeState}
use Rattle.cpu3850.specs.declared.steps.Step.{Step}
use Rattle.data_bus.specs.Racks.{NamesAsking, named_views, views}
use Rattle.data_bus.specs.Steps.{probe_place}
use Rattle.data_bus.specs.declared.fault.BusFault.{BusFault}
use Rattle.f8_machine.specs.BusSteps.{IsRefusedBy}
use Rattle.f8_machine.specs.declared.heard.Heard.{Heard}
use Rattle.f8_machine.proofs.Kept.{keeps_one, slice_get-enumerate_from}

-- ---- a step that is served whatever the chips are

pub sure_ruling : (rule : BusRule) (first : Option ℕ) (reference : ℕ) (ps : List Party) (bystander : Option Party) →
    is_access rule ≡ false → (socket : Option ℕ) × (judged rule first reference ps bystander ≡ Served socket)
sure_ruling Read first reference ps bystander idle = cc
sure_ruling Store first reference ps bystander idle = cc
sure_ruling PortRead first reference ps bystander idle = cc
sure_ruling WriteRule first reference ps bystander idle = cc
sure_ruling Vector first reference ps bystander idle = (first, refl)
sure_ruling NoChip first reference ps bystander idle = (None, refl)

pub sure_served : (first : Option ℕ) (step : Step) (fault : BusFault) (before after : ProbeState)
    (olds news : List ChipState) (earlier now : List Heard) → is_access (rule_of step.romc) ≡ false →
    IsRefusedBy first step fault before after olds news earlier now → ⊥
sure_served first step fault before after olds news earlier now idle refused =
    let sure = sure_ruling (rule_of step.romc) first (probe_place step.romc before) _ _ idle in
    let none : fault_by step.romc (view_ruling step.romc first (probe_place step.romc before) (named_views olds))
    ≡ None = ap (fault_by step.romc) sure.1 in
    let some = refused.ruling in
    cc

-- ---- the bytes of the vector

-- the chip that is named, by its view
pub record IsAskingView (socket : ℕ) (vs : List ChipView) : Type 0 where
  pub chip : ChipView
  pub lies : slice_get vs socket ≡ Some chip
  pub asks : is_asking chip ≡ true

pub asking_view : (socket : ℕ) (states : List ChipState) → NamesAsking (Some socket) states →
    IsAskingView socket (views states)
asking_view socket states names =
    let same : names.socket ≡ socket = (let both = names.is in cc) in
    record {
      chip = names.chip.view;
      lies = slice_get-map (λ (s : ChipState). s.view) states socket
          ∙ ap (option_map (λ (s : ChipState). s.view))
          (subst (λ (k : ℕ). slice_get states k ≡ Some names.chip) same names.seated);
      asks = names.asks;
    }

module _ (socket : ℕ) (vs : List ChipView) (v : ChipView) (lies : slice_get vs socket ≡ Some v) where
  numbered : (j : ℕ) (x : ℕ × ChipView) → slice_get (enumerate_from 0 vs) j ≡ Some x → x.0 ≡ j
  numbered j x at = by (slice_get vs j) (sym (slice_get-enumerate_from vs j) ∙ at)
    where
      by : (o : Option ChipView) → option_map (λ w. (j, w)) o ≡ Some x → x.0 ≡ j
      by None e = cc
      by (Some w) e = let same : (j, w) ≡ x = cc in ap (λ (y : ℕ × ChipView). y.0) (sym same)

  apart : (j : ℕ) → (j ≡ socket → ⊥) → (socket == j) ≡ false
  apart j other = by (socket == j) refl
    where
      by : (b : Bool) → (socket == j) ≡ b → b ≡ false
      by true e = absurd (other (sym (eqb-true socket j e)))
      by false e = refl

  there : slice_get (enumerate_from 0 vs) socket ≡ Some (socket, v)
  there = slice_get-enumerate_from vs socket ∙ ap (option_map (λ w. (socket, w))) lies

  marked_is : is_first (Some socket) socket ≡ true
  marked_is = eq-eqb socket socket refl

  unmarked_is : (j : ℕ) (x : ℕ × ChipView) → slice_get (enumerate_from 0 vs) j ≡ Some x → (j ≡ socket → ⊥) →
      is_first (Some socket) x.0 ≡ false
  unmarked_is j x at other = ap (λ (k : ℕ). socket == k) (numbered j x at) ∙ apart j other

  pub low_byte : (placed : ℕ) →
      bus_byte 0x0F (Some socket) placed (enumerate_from 0 vs) ≡ given_vector v % 256
  low_byte placed =
      rw (keeps_one (offer_of 0x0F (Some socket)) (enumerate_from 0 vs) socket (socket, v)
      (byte_offer (given_vector v) (given_vector v % 256)) there (rw marked_is refl)
      (λ j x at other. rw (unmarked_is j x at other) refl)) refl

  pub high_byte : (placed : ℕ) →
      bus_byte 0x13 (Some socket) placed (enumerate_from 0 vs) ≡ given_vector v / 256
  high_byte placed =
      rw (keeps_one (offer_of 0x13 (Some socket)) (enumerate_from 0 vs) socket (socket, v)
      (byte_offer (given_vector v) (given_vector v / 256)) there (rw marked_is refl)
      (λ j x at other. rw (unmarked_is j x at other) refl)) refl
