-- Power-on makes of a rack what it made of it before the bus steps of a record, a key byte, a pulse or another power-on.
use Rattle.std.proofs.Common.{◌≡◌, ℕ, zero, suc, ◌+◌, Bool, true, false, List, [], ◌∷◌, refl, sym, ap, ◌∙◌, subst}
use Rattle.std.specs.Prelude.{◌==◌, Option, Some, None}
use Rattle.f8_spec.specs.ChipState.{ChipView, ChipState, IsFilled, after_step, keyed, powered, pulsed}
use Rattle.console_spec.specs.Powering.{fill_in, start_in}
use Rattle.data_bus.specs.Racks.{NumberedZip, views}
use Rattle.f8_machine.specs.Keying.{KeysInSocket, RackKeyedBy, is_own}
use Rattle.f8_machine.specs.Refinement.{AreWhole}
use Rattle.f8_machine.specs.RequestsHeld.{PulsesIf, PulsesInSocket, RackPulsed}
use Rattle.f8_machine.specs.Rounds.{PowersInSocket, Runs, after_steps, heard_in}
use Rattle.f8_machine.specs.declared.heard.Heard.{Heard}
use Rattle.rewind.specs.PowerAlike.{AreFilled, PowerAlike, RacksPowerAlike}
use Rattle.rewind.specs.Forgetting.{IsForgotten, RacksForget}
use Rattle.rewind.proofs.ChipLaws.{chips_forget}

-- ---- one chip

forgotten_all : (v : ChipView) → IsForgotten v v
forgotten_all v = record { alike = λ fill start. refl; filled = λ filled. filled }

forgotten_then : (a b c : ChipView) → IsForgotten a b → IsForgotten b c → IsForgotten a c
forgotten_then a b c first second = record {
  alike = λ fill start. second.alike fill start ∙ first.alike fill start;
  filled = λ filled. second.filled (first.filled filled);
}

forgotten_as : (old new made : ChipView) → new ≡ made → IsForgotten old made → IsForgotten old new
forgotten_as old new made is forgotten = subst (λ v. IsForgotten old v) (sym is) forgotten

steps_forgotten : (socket : ℕ) (steps : List Heard) (v : ChipView) → IsForgotten v (after_steps socket steps v)
steps_forgotten socket [] v = forgotten_all v
steps_forgotten socket (h ∷ later) v =
    let next : ChipView = after_step (heard_in socket h) v in
    forgotten_then v next (after_steps socket later next) (chips_forget.step (heard_in socket h) v)
    (steps_forgotten socket later next)

pulse_forgotten : (here : Bool) (old new : ChipState) → PulsesIf here old new → IsForgotten old.view new.view
pulse_forgotten true old new takes = forgotten_as old.view new.view (pulsed old.view) takes.view (chips_forget.pulse old.view)
pulse_forgotten false old new same =
    forgotten_as old.view new.view old.view (ap (λ (s : ChipState). s.view) same) (forgotten_all old.view)

-- ---- racks

-- what is forgotten of each chip, where that is filled, is forgotten of a rack
module _ (R : ℕ → ChipState → ChipState → Type 0)
    (each : (k : ℕ) (old new : ChipState) → R k old new → IsFilled old.view → IsForgotten old.view new.view) where
  alike_after : (n : ℕ) (olds news : List ChipState) (first : List ChipView) → NumberedZip R n olds news → AreFilled (views olds) →
      RacksPowerAlike (views olds) first → RacksPowerAlike (views news) first
  alike_after n [] [] [] all filled alike = tt
  alike_after n [] [] (v ∷ vs) all filled alike = absurd alike
  alike_after n [] (new ∷ news) first all filled alike = absurd all
  alike_after n (old ∷ olds) [] first all filled alike = absurd all
  alike_after n (old ∷ olds) (new ∷ news) [] all filled alike = absurd alike
  alike_after n (old ∷ olds) (new ∷ news) (v ∷ vs) all filled alike =
      let here : IsForgotten old.view new.view = each n old new all.0 (filled 0 old.view refl) in (
        λ fill start. here.alike fill start ∙ alike.0 fill start,
        alike_after (n + 1) olds news vs all.1 (λ k u lies. filled (suc k) u lies) alike.1,
      )

  filled_after : (n : ℕ) (olds news : List ChipState) → NumberedZip R n olds news → AreFilled (views olds) → AreFilled (views news)
  filled_after n [] [] all filled place v lies = filled place v lies
  filled_after n [] (new ∷ news) all filled place v lies = absurd all
  filled_after n (old ∷ olds) [] all filled place v lies = absurd all
  filled_after n (old ∷ olds) (new ∷ news) all filled zero v lies =
      let same : new.view ≡ v = cc in
      let here : IsForgotten old.view new.view = each n old new all.0 (filled 0 old.view refl) in
      subst IsFilled same (here.filled (filled 0 old.view refl))
  filled_after n (old ∷ olds) (new ∷ news) all filled (suc k) v lies =
      filled_after (n + 1) olds news all.1 (λ j u there. filled (suc j) u there) k v lies

  forgets : (olds news : List ChipState) (first : List ChipView) → NumberedZip R 0 olds news → PowerAlike (views olds) first →
      PowerAlike (views news) first
  forgets olds news first all alike = record {
    alike = alike_after 0 olds news first all alike.filled alike.alike;
    filled = filled_after 0 olds news all alike.filled;
    filled_first = alike.filled_first;
  }

-- ---- what comes to a rack

fitted_alike : (first : List ChipView) → RacksPowerAlike first first
fitted_alike [] = tt
fitted_alike (v ∷ vs) = (λ fill start. refl, fitted_alike vs)

-- whole chips are filled
whole_filled : (states : List ChipState) → AreWhole states → AreFilled (views states)
whole_filled [] whole k v lies = cc
whole_filled (s ∷ states) whole zero v lies = let same : s.view ≡ v = cc in subst IsFilled same (whole 0 s refl).filled
whole_filled (s ∷ states) whole (suc k) v lies = whole_filled states (λ j t there. whole (suc j) t there) k v lies

stays : (olds news : List ChipState) (first : List ChipView) → news ≡ olds → PowerAlike (views olds) first →
    PowerAlike (views news) first
stays olds news first same alike = subst (λ (states : List ChipState). PowerAlike (views states) first) (sym same) alike

keyed_forgotten : (own : Bool) (port byte : ℕ) (olds news : List ChipState) (first : List ChipView) →
    RackKeyedBy own port byte olds news → PowerAlike (views olds) first → PowerAlike (views news) first
keyed_forgotten true port byte olds news first same alike = stays olds news first same alike
keyed_forgotten false port byte olds news first all alike =
    forgets (KeysInSocket port byte)
    (λ k old new keys filled. forgotten_as old.view new.view (keyed port byte old.view) keys.view (chips_forget.keys port byte old.view))
    olds news first all alike

pulsed_forgotten : (chosen : Option ℕ) (olds news : List ChipState) (first : List ChipView) → RackPulsed chosen olds news →
    PowerAlike (views olds) first → PowerAlike (views news) first
pulsed_forgotten None olds news first same alike = stays olds news first same alike
pulsed_forgotten (Some chosen) olds news first all alike =
    forgets (PulsesInSocket chosen) (λ k old new pulses filled. pulse_forgotten (chosen == k) old new pulses) olds news first all alike

powers_forgotten : (fill start : ℕ → ℕ) (k : ℕ) (old new : ChipState) → PowersInSocket fill start k old new → IsFilled old.view →
    IsForgotten old.view new.view
powers_forgotten fill start k old new powers filled =
    forgotten_as old.view new.view (powered (fill k) (start k) old.view) powers.view (chips_forget.power (fill k) (start k) old.view filled)

pub racks_forget : RacksForget
racks_forget = record {
  fitted = λ states whole. record {
    alike = fitted_alike (views states);
    filled = whole_filled states whole;
    filled_first = whole_filled states whole;
  };
  steps = λ steps olds news first all alike. forgets (Runs steps)
      (λ k old new ran filled. forgotten_as old.view new.view (after_steps k steps old.view) ran.view (steps_forgotten k steps old.view))
      olds news first all alike;
  keys = λ port byte olds news first keys alike. keyed_forgotten (is_own port) port byte olds news first keys alike;
  pulse = λ chosen olds news first pulses alike. pulsed_forgotten chosen olds news first pulses alike;
  power = λ fill chain powers olds news first all alike. forgets (PowersInSocket (fill_in fill chain powers) (start_in fill chain powers))
      (λ k old new one filled. powers_forgotten (fill_in fill chain powers) (start_in fill chain powers) k old new one filled)
      olds news first all alike;
}
