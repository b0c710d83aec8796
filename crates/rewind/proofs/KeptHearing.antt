-- What the chips of a rack heard: bus steps come behind those of before, power-on forgets them, and key bytes and pulses leave them.
use Rattle.std.proofs.Common.{ℕ, ◌+◌, Bool, true, false, List, [], ◌∷◌, ◌++◌, map, ap, subst, sym, ◌∙◌}
use Rattle.std.specs.Prelude.{◌==◌}
use Rattle.std.proofs.lemmas.List.{map-append}
use Rattle.f8_spec.specs.ChipState.{ChipState, HeardStep, told_step}
use Rattle.data_bus.specs.Racks.{NumberedZip}
use Rattle.f8_machine.specs.Keying.{KeysInSocket}
use Rattle.f8_machine.specs.RequestsHeld.{PulsesIf, PulsesInSocket}
use Rattle.f8_machine.specs.Rounds.{Runs, PowersInSocket, heard_in}
use Rattle.f8_machine.specs.declared.heard.Heard.{Heard}
use Rattle.rewind.specs.Standing.{HasHeard, HaveHeard}

-- ---- a chip in a socket

pub runs_heard : (steps before : List Heard) (socket : ℕ) (old new : ChipState) → Runs steps socket old new →
    HasHeard before socket old → HasHeard (before ++ steps) socket new
runs_heard steps before socket old new ran had = λ told is.
    let as_told : Heard → HeardStep = λ h. told_step (heard_in socket h) in
    let more = ran.heard.told told is in
    more.2
    ∙ ap (λ (first : List HeardStep). first ++ map as_told steps) (had more.0 more.1)
    ∙ sym (map-append as_told before steps)

pub keys_heard : (port byte : ℕ) (steps : List Heard) (socket : ℕ) (old new : ChipState) → KeysInSocket port byte socket old new →
    HasHeard steps socket old → HasHeard steps socket new
keys_heard port byte steps socket old new keys had = λ told is. had told (sym keys.heard ∙ is)

pub pulses_heard : (chosen : ℕ) (steps : List Heard) (socket : ℕ) (old new : ChipState) → PulsesInSocket chosen socket old new →
    HasHeard steps socket old → HasHeard steps socket new
pulses_heard chosen steps socket old new pulses had = by (chosen == socket) pulses
  where
    by : (here : Bool) → PulsesIf here old new → HasHeard steps socket new
    by true takes = λ told is. had told (sym takes.heard ∙ is)
    by false same = subst (λ (s : ChipState). HasHeard steps socket s) (sym same) had

-- ---- a rack

pub powers_heard : (fill start : ℕ → ℕ) (n : ℕ) (olds news : List ChipState) → NumberedZip (PowersInSocket fill start) n olds news →
    HaveHeard [] n news
powers_heard fill start n [] [] all = tt
powers_heard fill start n [] (y ∷ ys) all = absurd all
powers_heard fill start n (x ∷ xs) [] all = absurd all
powers_heard fill start n (x ∷ xs) (y ∷ ys) all = (all.0.heard, powers_heard fill start (n + 1) xs ys all.1)

pub heard_stays : (R : ℕ → ChipState → ChipState → Type 0) (before after : List Heard) →
    ((k : ℕ) (a b : ChipState) → R k a b → HasHeard before k a → HasHeard after k b) → (n : ℕ)
    (olds news : List ChipState) → NumberedZip R n olds news → HaveHeard before n olds → HaveHeard after n news
heard_stays R before after each n [] [] all had = tt
heard_stays R before after each n [] (y ∷ ys) all had = absurd all
heard_stays R before after each n (x ∷ xs) [] all had = absurd all
heard_stays R before after each n (x ∷ xs) (y ∷ ys) all had =
    (each n x y all.0 had.0, heard_stays R before after each (n + 1) xs ys all.1 had.1)
