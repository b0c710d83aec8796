-- A rack over the steps of a record, one by one.
use Rattle.std.proofs.Common.{◌≡◌, ℕ, ◌+◌, Bool, List, [], ◌∷◌, ◌++◌, append-nil, map, refl, ap, ◌∙◌, sym, subst}
use Rattle.std.specs.Prelude.{Option, None}
use Rattle.std.proofs.lemmas.List.{append_assoc, map-append}
use Rattle.f8_spec.specs.ChipState.{ChipView, ChipState, after_step, told_step}
use Rattle.f8_spec.specs.BusArbitration.{is_first}
use Rattle.data_bus.specs.Racks.{NumberedZip, SettlesStep}
use Rattle.f8_machine.specs.BusSteps.{IsPlain}
use Rattle.f8_machine.specs.declared.heard.Heard.{Heard}
use Rattle.probe.specs.ProbeState.{ProbeState, probe_after}
use Rattle.f8_machine.specs.MachineState.{probe_after_steps}
use Rattle.f8_machine.specs.Rounds.{heard_in, after_steps, Runs, RackRuns}

after_steps-append : (socket : ℕ) (first later : List Heard) (v : ChipView) →
    after_steps socket (first ++ later) v ≡ after_steps socket later (after_steps socket first v)
after_steps-append socket [] later v = refl
after_steps-append socket (h ∷ first) later v =
    after_steps-append socket first later (after_step (heard_in socket h) v)

runs_none : (socket : ℕ) (s : ChipState) → Runs [] socket s s
runs_none socket s = record {
  view = refl;
  heard = record { told = λ now is. (now, is, sym (append-nil now)) };
  patch = refl;
}

pub rack_runs_none : (n : ℕ) (states : List ChipState) → NumberedZip (Runs []) n states states
rack_runs_none n [] = tt
rack_runs_none n (s ∷ states) = (runs_none n s, rack_runs_none (n + 1) states)

-- the chip that is marked in a step is the one whose vector the record has
abbrev pub MarksDriver : Option ℕ → Heard → Type 0
MarksDriver first h = (socket : ℕ) → is_first first socket ≡ (heard_in socket h).first

-- where no interrupt is acknowledged none is marked
pub plain_marks : (h : Heard) → IsPlain h.romc → MarksDriver None h
plain_marks h plain socket = rw plain refl

runs_more : (first : Option ℕ) (socket : ℕ) (steps : List Heard) (h : Heard) (a b c : ChipState) → MarksDriver first h →
    Runs steps socket a b →
    SettlesStep h.romc h.long first h.byte socket b c → Runs (steps ++ h ∷ []) socket a c
runs_more first socket steps h a b c marks ran settles = record {
  view = settles.view
      ∙ ap (λ (m : Bool). after_step (record (heard_in socket h) { first = m }) b.view) (marks socket)
      ∙ ap (after_step (heard_in socket h)) ran.view
      ∙ sym (after_steps-append socket steps (h ∷ []) a.view);
  heard = record {
    told = λ now is.
        let last = settles.heard.told now is in
        let first = ran.heard.told last.0 last.1 in (
          first.0,
          first.1,
          last.2
              ∙ ap (λ (m : Bool). last.0 ++ told_step (record (heard_in socket h) { first = m }) ∷ []) (marks socket)
              ∙ ap (λ l. l ++ told_step (heard_in socket h) ∷ []) first.2
              ∙ append_assoc first.0 (map (λ k. told_step (heard_in socket k)) steps)
              (told_step (heard_in socket h) ∷ [])
              ∙ ap (λ l. first.0 ++ l) (sym (map-append (λ k. told_step (heard_in socket k)) steps (h ∷ []))),
        );
  };
  patch = settles.patch ∙ ran.patch;
}

pub rack_runs_more : (first : Option ℕ) (n : ℕ) (steps : List Heard) (h : Heard) (xs ys zs : List ChipState) →
    MarksDriver first h → NumberedZip (Runs steps) n xs ys →
    NumberedZip (SettlesStep h.romc h.long first h.byte) n ys zs → NumberedZip (Runs (steps ++ h ∷ [])) n xs zs
rack_runs_more first n steps h [] [] [] marks ran settles = tt
rack_runs_more first n steps h [] [] (z ∷ zs) marks ran settles = absurd settles
rack_runs_more first n steps h [] (y ∷ ys) zs marks ran settles = absurd ran
rack_runs_more first n steps h (x ∷ xs) [] zs marks ran settles = absurd ran
rack_runs_more first n steps h (x ∷ xs) (y ∷ ys) [] marks ran settles = absurd settles
rack_runs_more first n steps h (x ∷ xs) (y ∷ ys) (z ∷ zs) marks ran settles = (
  runs_more first n steps h x y z marks ran.0 settles.0,
  rack_runs_more first (n + 1) steps h xs ys zs marks ran.1 settles.1,
)

-- a rack on which nothing happens
pub rack_runs_stays : (steps : List Heard) (xs ys zs : List ChipState) → NumberedZip (Runs steps) 0 xs ys → zs ≡ ys →
    NumberedZip (Runs steps) 0 xs zs
rack_runs_stays steps xs ys zs ran same = subst (λ (l : List ChipState). NumberedZip (Runs steps) 0 xs l) (sym same) ran

pub rack_runs_nothing : (steps : List Heard) (states : List ChipState) → steps ≡ [] → RackRuns steps states states
rack_runs_nothing steps states none = subst (λ (l : List Heard). RackRuns l states states) (sym none)
    (rack_runs_none 0 states)

-- the probe after one more step
pub probe_after_steps-more : (steps : List Heard) (h : Heard) (p : ProbeState) →
    probe_after_steps (steps ++ h ∷ []) p ≡ probe_after h.romc h.byte (probe_after_steps steps p)
probe_after_steps-more [] h p = refl
probe_after_steps-more (k ∷ steps) h p = probe_after_steps-more steps h (probe_after k.romc k.byte p)
