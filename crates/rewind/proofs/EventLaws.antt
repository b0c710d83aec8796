-- Where a key byte or a pulse leads.
use Rattle.std.proofs.Common.{◌≡◌, ℕ, ◌+◌, ◌*◌, Bool, true, false, List, [], ◌∷◌, length, map, refl, sym, ap, ap₂, subst, ◌∙◌}
use Rattle.std.specs.Prelude.{◌==◌, if◌then◌else◌, Option, Some, None, slice_get}
use Rattle.f8_spec.specs.ChipState.{ChipView, ChipState, keyed, pulsed}
use Rattle.console_spec.specs.Run.{Stop}
use Rattle.console_spec.specs.Telling.{with_event}
use Rattle.console_spec.specs.declared.Event.{Event}
use Rattle.console_spec.specs.declared.Event.TheVariants.{Keys, Pulse}
use Rattle.data_bus.specs.Racks.{NumberedZip, views}
use Rattle.data_bus.specs.declared.index.Index.{Index}
use Rattle.f8_machine.specs.Fitting.{Fits}
use Rattle.f8_machine.specs.Keying.{KeysInSocket, RackKeyed, RackKeyedBy, is_own, keyed_machine}
use Rattle.f8_machine.specs.MachineState.{MachineState}
use Rattle.f8_machine.specs.Questions.{allowances, codes_of}
use Rattle.f8_machine.specs.Refinement.{Represents}
use Rattle.f8_machine.specs.RequestsHeld.{PulsesIf, PulsesInSocket, RackPulsed}
use Rattle.f8_machine.specs.declared.heard.Heard.{Heard}
use Rattle.rewind.specs.Asking.{allowed_since_power, tried_codes}
use Rattle.rewind.specs.PowerAlike.{PowerAlike}
use Rattle.rewind.specs.Reached.{Reached, chips_with, happened, happening, pulsed_in}
use Rattle.rewind.specs.Standing.{HasFollowed, HasReached, HaveHeard, IsReady, patches}
use Rattle.rewind.specs.Tape.{HasCome}
use Rattle.rewind.proofs.AskingLaws.{parted_since, since_power}
use Rattle.rewind.proofs.KeptChips.{keys_keeps, pulses_keeps}
use Rattle.rewind.proofs.KeptHearing.{heard_stays, keys_heard, pulses_heard}
use Rattle.rewind.proofs.KeptRacks.{views_by, ready_stays}
use Rattle.rewind.proofs.PatchLaws.{keyed_patches, pulsed_patches}
use Rattle.rewind.proofs.RackLaws.{racks_forget}

-- ---- the chips

keys_views : (port byte n : ℕ) (olds news : List ChipState) → NumberedZip (KeysInSocket port byte) n olds news →
    views news ≡ map (keyed port byte) (views olds)
keys_views port byte n [] [] all = refl
keys_views port byte n [] (y ∷ ys) all = absurd all
keys_views port byte n (x ∷ xs) [] all = absurd all
keys_views port byte n (x ∷ xs) (y ∷ ys) all = ap₂ (λ v vs. v ∷ vs) all.0.view (keys_views port byte (n + 1) xs ys all.1)

-- what a key byte, or a pulse, makes of the views; what the chips heard stays, and the rack stays ready
pub record Comes (vs : List ChipView) (olds news : List ChipState) : Type 0 where
  pub are : views news ≡ vs
  pub heard : (steps : List Heard) → HaveHeard steps 0 olds → HaveHeard steps 0 news
  pub ready : IsReady news

comes_not : (olds news : List ChipState) → news ≡ olds → IsReady olds → Comes (views olds) olds news
comes_not olds news same ready = record {
  are = ap views same;
  heard = λ steps had. subst (λ (l : List ChipState). HaveHeard steps 0 l) (sym same) had;
  ready = subst (λ (l : List ChipState). IsReady l) (sym same) ready;
}

keys_by : (own : Bool) (port byte : ℕ) (olds news : List ChipState) → RackKeyedBy own port byte olds news →
    IsReady olds → Comes (if own then views olds else map (keyed port byte) (views olds)) olds news
keys_by true port byte olds news same ready = comes_not olds news same ready
keys_by false port byte olds news all ready = record {
  are = keys_views port byte 0 olds news all;
  heard = λ steps had. heard_stays (KeysInSocket port byte) steps steps (keys_heard port byte steps) 0 olds news all had;
  ready = ready_stays (KeysInSocket port byte) (keys_keeps port byte) olds news all ready;
}

pulse_view : (chosen socket : ℕ) (old new : ChipState) → PulsesInSocket chosen socket old new →
    new.view ≡ (if chosen == socket then pulsed old.view else old.view)
pulse_view chosen socket old new pulses = by (chosen == socket) pulses
  where
    by : (here : Bool) → PulsesIf here old new → new.view ≡ (if here then pulsed old.view else old.view)
    by true takes = takes.view
    by false same = ap (λ (s : ChipState). s.view) same

pulses_by : (socket : Option ℕ) (olds news : List ChipState) → RackPulsed socket olds news → IsReady olds →
    Comes (pulsed_in socket (views olds)) olds news
pulses_by None olds news same ready = comes_not olds news same ready
pulses_by (Some chosen) olds news all ready = record {
  are = views_by (PulsesInSocket chosen) (λ k v. if chosen == k then pulsed v else v) (pulse_view chosen) 0 olds news all;
  heard = λ steps had. heard_stays (PulsesInSocket chosen) steps steps (pulses_heard chosen steps) 0 olds news all had;
  ready = ready_stays (PulsesInSocket chosen) (pulses_keeps chosen) olds news all ready;
}

-- ---- the machine

-- a key byte changes the processor alone
pub record SameButKeys (m after : MachineState) : Type 0 where
  pub mode : after.mode ≡ m.mode
  pub phi : after.phi ≡ m.phi
  pub probe : after.probe ≡ m.probe
  pub index : after.index ≡ m.index
  pub chain : after.chain ≡ m.chain

keyed_as : (own : Bool) (m keyed : MachineState) → SameButKeys m keyed → SameButKeys m (if own then keyed else m)
keyed_as true m keyed same = same
keyed_as false m keyed same = record { mode = refl; phi = refl; probe = refl; index = refl; chain = refl }

pub keyed_same : (port byte : ℕ) (m after : MachineState) → after ≡ keyed_machine port byte m → SameButKeys m after
keyed_same port byte m after is =
    subst (λ (n : MachineState). SameButKeys m n) (sym is)
    (keyed_as (is_own port) m _ (record { mode = refl; phi = refl; probe = refl; index = refl; chain = refl }))

-- ---- where it leads

module _ (m after : MachineState) (olds news : List ChipState) (r : Reached) (at : HasReached m olds r) (running : r.stop ≡ None) where
  came_at : (event : Event) → Represents after news (with_event event r.position) → after.probe ≡ m.probe → after.index ≡ m.index →
      Comes (chips_with r.position.chain event r.chips) olds news → HasReached after news (happened event r)
  came_at event stands probe index comes =
      let came : HasReached after news (happening None event r) = record {
        machine = rw running stands;
        chain = stands.stands.chain;
        probe = probe ∙ at.probe;
        chips = comes.are;
        heard = comes.heard r.heard at.heard;
        index = subst (λ (i : Index). HasFollowed r.heard i) (sym index) at.index;
        ready = comes.ready;
      } in
      subst (λ (stop : Option Stop). HasReached after news (happening stop event r)) (sym running) came

  keys_at : (port byte : ℕ) → after ≡ keyed_machine port byte m → RackKeyed port byte olds news →
      Represents after news (with_event (Keys port byte) r.position) → HasReached after news (happened (Keys port byte) r)
  keys_at port byte is keyed_all goes =
      came_at (Keys port byte) goes (keyed_same port byte m after is).probe (keyed_same port byte m after is).index
      (subst (λ (vs : List ChipView). Comes (if is_own port then vs else map (keyed port byte) vs) olds news) at.chips
      (keys_by (is_own port) port byte olds news keyed_all at.ready))

  pulse_at : (chip : ℕ) → after ≡ m → RackPulsed (slice_get m.chain chip) olds news →
      Represents after news (with_event (Pulse chip) r.position) → HasReached after news (happened (Pulse chip) r)
  pulse_at chip is pulsed_all goes =
      came_at (Pulse chip) goes (ap (λ (n : MachineState). n.probe) is) (ap (λ (n : MachineState). n.index) is)
      (subst (λ (vs : List ChipView). Comes (pulsed_in (slice_get r.position.chain chip) vs) olds news) at.chips
      (pulses_by (slice_get r.position.chain chip) olds news
      (subst (λ (chain : List ℕ). RackPulsed (slice_get chain chip) olds news) at.chain pulsed_all) at.ready))

  pub event_at : (event : Event) → HasCome event m after olds news → Represents after news (with_event event r.position) →
      HasReached after news (happened event r)
  event_at (Keys port byte) came goes = keys_at port byte came.0 came.1 goes
  event_at (Pulse chip) came goes = pulse_at chip came.0 came.1 goes

-- ---- what it leaves

pub event_same : (event : Event) (m after : MachineState) (olds news : List ChipState) → HasCome event m after olds news →
    SameButKeys m after
event_same (Keys port byte) m after olds news came = keyed_same port byte m after came.0
event_same (Pulse chip) m after olds news came =
    subst (λ (n : MachineState). SameButKeys m n) (sym came.0)
    (record { mode = refl; phi = refl; probe = refl; index = refl; chain = refl })

pub event_patches : (event : Event) (m after : MachineState) (olds news : List ChipState) → HasCome event m after olds news →
    patches news ≡ patches olds
event_patches (Keys port byte) m after olds news came = keyed_patches port byte olds news came.1
event_patches (Pulse chip) m after olds news came = pulsed_patches (slice_get m.chain chip) olds news came.1

pub event_alike : (event : Event) (m after : MachineState) (olds news : List ChipState) (first : List ChipView) →
    HasCome event m after olds news → PowerAlike (views olds) first → PowerAlike (views news) first
event_alike (Keys port byte) m after olds news first came alike = racks_forget.keys port byte olds news first came.1 alike
event_alike (Pulse chip) m after olds news first came alike = racks_forget.pulse (slice_get m.chain chip) olds news first came.1 alike

-- ---- questions

happening_codes : (stop : Option Stop) (event : Event) (r : Reached) → tried_codes (happening stop event r) ≡ tried_codes r
happening_codes None event r = refl
happening_codes (Some stop) event r = refl

-- no more is allowed on a rack of n chips
pub event_allowed : (n : ℕ) (event : Event) (m after : MachineState) (olds news : List ChipState) (r : Reached) →
    length olds ≡ n → length news ≡ n → Fits m olds → Fits after news → after.index ≡ m.index → HasReached m olds r →
    HasReached after news (happened event r) → allowed_since_power (happened event r) ≡ allowed_since_power r
event_allowed n event m after olds news r long kept fits fit index at there =
    let first : Index = at.index.first in
    let parted : first.is_parted ≡ m.index.is_parted = parted_since (codes_of r.heard) first m.index at.index.is in
    since_power n news (happened event r) first kept there.chips at.index.unknown
    (parted ∙ sym (ap (λ (i : Index). i.is_parted) index) ∙ fit.lists.parted)
    ∙ ap (λ (codes : List ℕ). 512 * n + allowances n first codes) (happening_codes r.stop event r)
    ∙ sym (since_power n olds r first long at.chips at.index.unknown (parted ∙ fits.lists.parted))
