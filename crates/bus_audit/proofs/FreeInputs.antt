-- Events change key bytes and pulses alone.
use Rattle.std.proofs.Common.{◌≡◌, ℕ, ◌<◌, ◌≤◌, Bool, true, false, List, [], ◌∷◌, ◌++◌, length, filter, refl, ◌∙◌, sym, inl, inr}
use Rattle.std.proofs.Common.{arith, length-set, get_or-set_other}
use Rattle.std.proofs.lemmas.Bool.{cases_eq}
use Rattle.std.proofs.lemmas.Grind.{get_or-set_at}
use Rattle.std.specs.Prelude.{Option, Some, None, nat_lt, slice_get, slice_index, slice_set, if◌then◌else◌}
use Rattle.console_spec.specs.InterruptRequests.{Mark, with_mark}
use Rattle.console_spec.specs.Run.{Position, pulse_in}
use Rattle.console_spec.specs.Telling.{with_events}
use Rattle.console_spec.specs.declared.Event.{Event}
use Rattle.console_spec.specs.declared.Event.TheVariants.{Keys, Pulse}
use Rattle.bus_audit.specs.FreeRuns.{AreFree, is_own_key}
use Rattle.bus_audit.specs.Determinacy.{with_free}

-- ---- what events make of key bytes and of pulses

abbrev pub keys_after : List Event → List ℕ → List ℕ
keys_after [] keys = keys
keys_after (Keys port byte ∷ later) keys = keys_after later (slice_set keys port byte)
keys_after (Pulse chip ∷ later) keys = keys_after later keys

abbrev pub marked : Option ℕ → ℕ → List Mark → List Mark
marked None phi marks = marks
marked (Some socket) phi marks = with_mark socket phi marks

abbrev pub pulses_after : List ℕ → ℕ → List Event → List Mark → List Mark
pulses_after chain phi [] marks = marks
pulses_after chain phi (Keys port byte ∷ later) marks = pulses_after chain phi later marks
pulses_after chain phi (Pulse chip ∷ later) marks = pulses_after chain phi later (marked (slice_get chain chip) phi marks)

pulse_first : (later : List Event) (o : Option ℕ) (keys : List ℕ) (pulses : List Mark) (x : Position) →
    ((marks : List Mark) → with_events later (with_free keys marks x)
    ≡ with_free (keys_after later keys) (pulses_after x.chain x.flat.state.phi later marks) x) →
    with_events later (pulse_in o (with_free keys pulses x))
    ≡ with_free (keys_after later keys) (pulses_after x.chain x.flat.state.phi later (marked o x.flat.state.phi pulses)) x
pulse_first later None keys pulses x rest = rest pulses
pulse_first later (Some socket) keys pulses x rest = rest (with_mark socket x.flat.state.phi pulses)

pub events_with : (events : List Event) (keys : List ℕ) (pulses : List Mark) (x : Position) →
    with_events events (with_free keys pulses x)
    ≡ with_free (keys_after events keys) (pulses_after x.chain x.flat.state.phi events pulses) x
events_with [] keys pulses x = refl
events_with (Keys port byte ∷ later) keys pulses x = events_with later (slice_set keys port byte) pulses x
events_with (Pulse chip ∷ later) keys pulses x =
    pulse_first later (slice_get x.chain chip) keys pulses x (λ marks. events_with later keys marks x)

-- at any position
pub events_on : (events : List Event) (x : Position) →
    with_events events x
    ≡ with_free (keys_after events x.flat.state.keys) (pulses_after x.chain x.flat.state.phi events x.flat.state.pulses) x
events_on events x = events_with events x.flat.state.keys x.flat.state.pulses x

-- ---- two lists of events

pub keys_after-append : (events later : List Event) (keys : List ℕ) → keys_after (events ++ later) keys ≡ keys_after later (keys_after events keys)
keys_after-append [] later keys = refl
keys_after-append (Keys port byte ∷ events) later keys = keys_after-append events later (slice_set keys port byte)
keys_after-append (Pulse chip ∷ events) later keys = keys_after-append events later keys

pub pulses_after-append : (chain : List ℕ) (phi : ℕ) (events later : List Event) (marks : List Mark) →
    pulses_after chain phi (events ++ later) marks ≡ pulses_after chain phi later (pulses_after chain phi events marks)
pulses_after-append chain phi [] later marks = refl
pulses_after-append chain phi (Keys port byte ∷ events) later marks = pulses_after-append chain phi events later marks
pulses_after-append chain phi (Pulse chip ∷ events) later marks =
    pulses_after-append chain phi events later (marked (slice_get chain chip) phi marks)

-- ---- key bytes

pub length-keys_after : (events : List Event) (keys : List ℕ) → length (keys_after events keys) ≡ length keys
length-keys_after [] keys = refl
length-keys_after (Keys port byte ∷ later) keys = length-keys_after later (slice_set keys port byte) ∙ length-set keys port byte
length-keys_after (Pulse chip ∷ later) keys = length-keys_after later keys

-- free inputs leave those of ports 0 and 1
pub free_leaves : (events : List Event) (keys : List ℕ) (n : ℕ) → AreFree events → n < 2 →
    slice_index (keys_after events keys) n ≡ slice_index keys n
free_leaves [] keys n are small = refl
free_leaves (Keys port byte ∷ later) keys n are small =
    free_leaves later (slice_set keys port byte) n are.1 small ∙ get_or-set_other keys port n byte 0 (apart are.0.0)
  where
    apart : 2 ≤ port → n ≡ port → ⊥
    apart high same = omega arith
free_leaves (Pulse chip ∷ later) keys n are small = free_leaves later keys n are.1 small

set_alike : (keys others : List ℕ) (port byte n : ℕ) → length keys ≡ length others → n < length keys →
    slice_index keys n ≡ slice_index others n → slice_index (slice_set keys port byte) n ≡ slice_index (slice_set others port byte) n
set_alike keys others port byte n lengths within same = elim (cases_eq n port) [
  | inl here ↦ get_or-set_at keys port n byte 0 here (omega arith) ∙ sym (get_or-set_at others port n byte 0 here (omega arith))
  | inr apart ↦ get_or-set_other keys port n byte 0 apart ∙ same ∙ sym (get_or-set_other others port n byte 0 apart)
]

-- the same events leave what is alike alike
pub events_alike : (events : List Event) (keys others : List ℕ) (n : ℕ) → length keys ≡ length others → n < length keys →
    slice_index keys n ≡ slice_index others n → slice_index (keys_after events keys) n ≡ slice_index (keys_after events others) n
events_alike [] keys others n lengths within same = same
events_alike (Keys port byte ∷ later) keys others n lengths within same =
    events_alike later (slice_set keys port byte) (slice_set others port byte) n
    (length-set keys port byte ∙ lengths ∙ sym (length-set others port byte)) (longer (length-set keys port byte))
    (set_alike keys others port byte n lengths within same)
  where
    longer : length (slice_set keys port byte) ≡ length keys → n < length (slice_set keys port byte)
    longer same_length = omega arith
events_alike (Pulse chip ∷ later) keys others n lengths within same = events_alike later keys others n lengths within same

-- ---- the key bytes of a script are no pulses

pub own_unpulsed : (chain : List ℕ) (phi : ℕ) (events : List Event) (marks : List Mark) →
    pulses_after chain phi (filter is_own_key events) marks ≡ marks
own_unpulsed chain phi [] marks = refl
own_unpulsed chain phi (Keys port byte ∷ later) marks = by (nat_lt port 2) (own_unpulsed chain phi later marks)
  where
    by : (own : Bool) → pulses_after chain phi (filter is_own_key later) marks ≡ marks →
        pulses_after chain phi (if own then Keys port byte ∷ filter is_own_key later else filter is_own_key later) marks ≡ marks
    by true rest = rest
    by false rest = rest
own_unpulsed chain phi (Pulse chip ∷ later) marks = own_unpulsed chain phi later marks
