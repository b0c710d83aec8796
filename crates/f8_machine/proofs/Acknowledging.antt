-- The steps of an acknowledgement: the one that ends a request ends that of the marked chip, and it changes nothing else that a plain step
-- doesn't.
use Rattle.std.proofs.Common.{◌≡◌, ℕ, ◌+◌, Bool, true, false, List, [], ◌∷◌, map, refl, sym, ap, ap₂, ◌∙◌, subst, ◌<◌}
use Rattle.std.proofs.Common.{arith, eqb-true, eq-eqb}
use Rattle.std.specs.Prelude.{◌==◌, ◌&&◌, not, is_some, Option, Some, None, option_map, slice_get}
use Rattle.std.proofs.lemmas.Option.{slice_get-map}
use Rattle.f8_spec.specs.BusCodes.{Count}
use Rattle.f8_spec.specs.ShiftTimer.{step_period}
use Rattle.f8_spec.specs.ChipState.{ChipView, ChipState, after_step, timer_passed, holds, held_byte, data_port, has_fixed_vector}
use Rattle.f8_spec.specs.BusArbitration.{Seat, seat_of, is_first}
use Rattle.f8_spec.specs.Instructions.{step_clocks}
use Rattle.console_spec.specs.AddressSpace.{byte_at}
use Rattle.console_spec.specs.Processor.{Flow}
use Rattle.console_spec.specs.CounterCopies.{Copy}
use Rattle.console_spec.specs.InterruptRequests.{History, IsPast}
use Rattle.console_spec.specs.declared.PortWrite.{PortWrite}
use Rattle.console_spec.proofs.RequestLaws.{past-later, past-acknowledged, after_acknowledgement}
use Rattle.data_bus.specs.Racks.{NumberedZip, SettlesStep, RackSettles, views}
use Rattle.data_bus.proofs.Zipped.{Paired, paired, zip_mapped}
use Rattle.f8_machine.specs.RackViews.{IsCopy, AreCopies, HoldsFlat, IsPort, HoldsPorts}
use Rattle.f8_machine.specs.Requests.{IsDevice, device_of, device_passed, device_ended}
use Rattle.f8_machine.specs.RequestsHeld.{HasRequests, HoldRequests, IsInTime, marked_step}
use Rattle.f8_machine.proofs.DeviceLaws.{device_more, device_acknowledged, device_kept}
use Rattle.f8_machine.proofs.Kept.{Comes, comes}
use Rattle.f8_machine.proofs.RequestSteps.{vector_same}
use Rattle.f8_machine.proofs.Slots.{plain_step}

-- ---- a code that marks nobody's request as ended

-- but for that one code the mark of a chip says nothing
unmarked : (romc byte clocks : ℕ) (marked : Bool) (v : ChipView) → (romc == 0x13) ≡ false →
    after_step (marked_step romc byte clocks marked) v ≡ after_step (plain_step romc byte clocks) v
unmarked romc byte clocks marked v other = rw other refl

pub views_unmarked : (romc : ℕ) (long : Bool) (first : Option ℕ) (byte : ℕ) (olds news : List ChipState) → (romc == 0x13) ≡ false →
    RackSettles romc long first byte olds news → views news ≡ map (after_step (plain_step romc byte (step_clocks long))) (views olds)
views_unmarked romc long first byte olds news other all =
    zip_mapped (SettlesStep romc long first byte) (λ (s : ChipState). s.view) (λ (s : ChipState). s.view)
    (after_step (plain_step romc byte (step_clocks long)))
    (λ k old new one. one.view ∙ unmarked romc byte (step_clocks long) (is_first first k) old.view other) 0 olds news all

-- ---- the code that ends a request

-- the chip after it
acknowledged_device : (first chosen socket byte clocks time : ℕ) (marked : Bool) (h : History) (v : ChipView) → (chosen == socket) ≡ marked →
    clocks < step_period → IsPast time h → IsDevice first socket h time (device_of v) →
    IsDevice first socket (after_acknowledgement chosen (time + clocks) h) (time + clocks)
    (device_of (after_step (marked_step 0x13 byte clocks marked) v))
acknowledged_device first chosen socket byte clocks time true h v mark few past is =
    let same : socket ≡ chosen = sym (eqb-true chosen socket mark) in
    subst (λ (k : ℕ). IsDevice first socket (after_acknowledgement k (time + clocks) h) (time + clocks)
    (device_ended (device_passed clocks (device_of v)))) same
    (device_acknowledged first socket (time + clocks) h (device_passed clocks (device_of v)) (past-later time (time + clocks) h (omega arith) past)
    (device_more first socket clocks time h (device_of v) few past is))
acknowledged_device first chosen socket byte clocks time false h v mark few past is =
    device_kept first socket chosen (time + clocks) (time + clocks) h (device_passed clocks (device_of v))
    (λ same. (let yes : (chosen == socket) ≡ true = eq-eqb chosen socket same in cc))
    (device_more first socket clocks time h (device_of v) few past is)

acknowledged_request : (marked request : Bool) → request ≡ false → (not marked && request) ≡ false
acknowledged_request true request none = refl
acknowledged_request false request none = none

acknowledged : (ports : Option ℕ) (chosen socket byte clocks time : ℕ) (h : History) (v : ChipView) → clocks < step_period → IsPast time h →
    HasRequests ports socket h time v →
    HasRequests ports socket (after_acknowledgement chosen (time + clocks) h) (time + clocks)
    (after_step (marked_step 0x13 byte clocks (chosen == socket)) v)
acknowledged None chosen socket byte clocks time h v few past is = record {
  control_byte = is.control_byte;
  silent = acknowledged_request (chosen == socket) (timer_passed clocks v).request (rw (is.silent, is.control_byte) refl);
}
acknowledged (Some first) chosen socket byte clocks time h v few past is = record {
  device = acknowledged_device first chosen socket byte clocks time (chosen == socket) h v refl few past is.device;
  vector = vector_same (has_fixed_vector v.kind) first h.writes v (after_step (marked_step 0x13 byte clocks (chosen == socket)) v) refl is.vector;
}

acknowledged_all : (long : Bool) (chosen byte time : ℕ) (h : History) (olds news : List ChipState) → step_clocks long < step_period →
    RackSettles 0x13 long (Some chosen) byte olds news → IsInTime time h (views olds) →
    HoldRequests (time + step_clocks long) (after_acknowledgement chosen (time + step_clocks long) h) (views news)
acknowledged_all long chosen byte time h olds news few all is socket w lies =
    let clocks : ℕ = step_clocks long in
    let new : Comes (λ (s : ChipState). s.view) (slice_get news socket) w =
    comes (λ (s : ChipState). s.view) (slice_get news socket) w (sym (slice_get-map (λ (s : ChipState). s.view) news socket) ∙ lies) in
    let pair : Paired (SettlesStep 0x13 long (Some chosen) byte) olds socket socket new.from =
    paired (SettlesStep 0x13 long (Some chosen) byte) 0 socket socket olds news new.from (omega arith) all new.is in
    let v : ChipView = pair.from.view in
    let lies_before : slice_get (views olds) socket ≡ Some v =
    slice_get-map (λ (s : ChipState). s.view) olds socket ∙ ap (option_map (λ (s : ChipState). s.view)) pair.is in
    let stepped : after_step (marked_step 0x13 byte clocks (chosen == socket)) v ≡ w = sym (new.gives ∙ pair.related.view) in
    subst (λ (u : ChipView). HasRequests u.ports socket (after_acknowledgement chosen (time + clocks) h) (time + clocks) u) stepped
    (acknowledged v.ports chosen socket byte clocks time h v few is.past (is.requests socket v lies_before))

-- A served step that ends the request of the chip in a socket. The acknowledgement stands at the step's end.
pub in_time_acknowledged : (long : Bool) (chosen byte time : ℕ) (h : History) (olds news : List ChipState) → step_clocks long < step_period →
    RackSettles 0x13 long (Some chosen) byte olds news → IsInTime time h (views olds) →
    IsInTime (time + step_clocks long) (after_acknowledgement chosen (time + step_clocks long) h) (views news)
in_time_acknowledged long chosen byte time h olds news few all is =
    let clocks : ℕ = step_clocks long in
    record {
      past = past-acknowledged chosen (time + clocks) (time + clocks) h (omega arith) (past-later time (time + clocks) h (omega arith) is.past);
      requests = acknowledged_all long chosen byte time h olds news few all is;
    }

-- ---- what a plain step leaves, that one does

-- but for the request
abbrev pub unasked : ChipView → ChipView
unasked v = record v { request = false }

unasked_from : (long : Bool) (first : Option ℕ) (byte n : ℕ) (olds news : List ChipState) →
    NumberedZip (SettlesStep 0x13 long first byte) n olds news →
    map unasked (views news) ≡ map unasked (map (after_step (plain_step 0x13 byte (step_clocks long))) (views olds))
unasked_from long first byte n [] [] all = refl
unasked_from long first byte n [] (new ∷ news) all = absurd all
unasked_from long first byte n (old ∷ olds) [] all = absurd all
unasked_from long first byte n (old ∷ olds) (new ∷ news) all =
    ap₂ (λ (v : ChipView) (vs : List ChipView). v ∷ vs) (ap unasked all.0.view) (unasked_from long first byte (n + 1) olds news all.1)

pub views_acknowledged : (long : Bool) (first : Option ℕ) (byte : ℕ) (olds news : List ChipState) →
    RackSettles 0x13 long first byte olds news →
    map unasked (views news) ≡ map unasked (map (after_step (plain_step 0x13 byte (step_clocks long))) (views olds))
views_acknowledged long first byte olds news all = unasked_from long first byte 0 olds news all

-- ---- what chips hold of a position, whatever they ask

pub seats_unasked : (vs ws : List ChipView) → map unasked ws ≡ map unasked vs → map seat_of ws ≡ map seat_of vs
seats_unasked vs ws same = sym (seats_of_unasked ws) ∙ ap (map seat_of) same ∙ seats_of_unasked vs
  where
    seats_of_unasked : (us : List ChipView) → map seat_of (map unasked us) ≡ map seat_of us
    seats_of_unasked [] = refl
    seats_of_unasked (u ∷ us) = ap (λ (ss : List Seat). seat_of u ∷ ss) (seats_of_unasked us)

pub copies_unasked : (now : Bool → Flow → Count) (last : ℕ) (cs : List Copy) (vs ws : List ChipView) → map unasked ws ≡ map unasked vs →
    AreCopies now last cs vs → AreCopies now last cs ws
copies_unasked now last [] [] [] same are = tt
copies_unasked now last [] [] (w ∷ ws) same are = cc
copies_unasked now last [] (v ∷ vs) ws same are = absurd are
copies_unasked now last (c ∷ cs) [] ws same are = absurd are
copies_unasked now last (c ∷ cs) (v ∷ vs) [] same are = cc
copies_unasked now last (c ∷ cs) (v ∷ vs) (w ∷ ws) same are =
    let first : unasked w ≡ unasked v = head_same (unasked w) (unasked v) (map unasked ws) (map unasked vs) same in
    let later : map unasked ws ≡ map unasked vs = tail_same (unasked w) (unasked v) (map unasked ws) (map unasked vs) same in
    let copy : IsCopy now last c (unasked w) = subst (IsCopy now last c) (sym first) (record {
      seat = are.0.seat;
      counters = are.0.counters;
      heard = are.0.heard;
      filled = are.0.filled;
    }) in (
      record { seat = copy.seat; counters = copy.counters; heard = copy.heard; filled = copy.filled },
      copies_unasked now last cs vs ws later are.1,
    )
  where
    head_same : (x y : ChipView) (xs ys : List ChipView) → x ∷ xs ≡ y ∷ ys → x ≡ y
    head_same x y xs ys e = cc

    tail_same : (x y : ChipView) (xs ys : List ChipView) → x ∷ xs ≡ y ∷ ys → xs ≡ ys
    tail_same x y xs ys e = cc

-- the chip at a place of one list has one in the other
lies_unasked : (vs : List ChipView) (k : ℕ) (v : ChipView) → slice_get vs k ≡ Some v → slice_get (map unasked vs) k ≡ Some (unasked v)
lies_unasked vs k v lies = slice_get-map unasked vs k ∙ ap (option_map unasked) lies

comes_unasked : (vs : List ChipView) (k : ℕ) (v : ChipView) → slice_get (map unasked vs) k ≡ Some v → Comes unasked (slice_get vs k) v
comes_unasked vs k v lies = comes unasked (slice_get vs k) v (sym (slice_get-map unasked vs k) ∙ lies)

flat_to : (memory : List ℕ) (vs : List ChipView) → HoldsFlat memory vs → HoldsFlat memory (map unasked vs)
flat_to memory vs holds_flat place v at small lies held once =
    let old : Comes unasked (slice_get vs place) v = comes_unasked vs place v lies in
    subst (λ (u : ChipView). held_byte u at ≡ Some (byte_at memory at)) (sym old.gives)
    (holds_flat place old.from at small old.is (subst (λ (u : ChipView). holds u at ≡ true) old.gives held)
    (λ j w there has. once j (unasked w) (lies_unasked vs j w there) has))

flat_from : (memory : List ℕ) (vs : List ChipView) → HoldsFlat memory (map unasked vs) → HoldsFlat memory vs
flat_from memory vs holds_flat place v at small lies held once =
    holds_flat place (unasked v) at small (lies_unasked vs place v lies) held
    (λ j w there has. let old : Comes unasked (slice_get vs j) w = comes_unasked vs j w there in
    once j old.from old.is (subst (λ (u : ChipView). holds u at ≡ true) old.gives has))

pub flat_unasked : (memory : List ℕ) (vs ws : List ChipView) → map unasked ws ≡ map unasked vs → HoldsFlat memory vs → HoldsFlat memory ws
flat_unasked memory vs ws same flat = flat_from memory ws (subst (HoldsFlat memory) (sym same) (flat_to memory vs flat))

port_same : (keys : List ℕ) (writes : List PortWrite) (port latch : ℕ) (v : ChipView) → IsPort keys writes port latch v →
    IsPort keys writes port latch (unasked v)
port_same keys writes port latch v is = record { latches = is.latches; key_bytes = is.key_bytes; written = is.written; key = is.key }

port_back : (keys : List ℕ) (writes : List PortWrite) (port latch : ℕ) (v : ChipView) → IsPort keys writes port latch (unasked v) →
    IsPort keys writes port latch v
port_back keys writes port latch v is = record { latches = is.latches; key_bytes = is.key_bytes; written = is.written; key = is.key }

ports_to : (keys : List ℕ) (writes : List PortWrite) (vs : List ChipView) → HoldsPorts keys writes vs → HoldsPorts keys writes (map unasked vs)
ports_to keys writes vs ports place v port latch lies found once =
    let old : Comes unasked (slice_get vs place) v = comes_unasked vs place v lies in
    subst (IsPort keys writes port latch) (sym old.gives) (port_same keys writes port latch old.from
    (ports place old.from port latch old.is (subst (λ (u : ChipView). data_port u port ≡ Some latch) old.gives found)
    (λ j w there has. once j (unasked w) (lies_unasked vs j w there) has)))

ports_from : (keys : List ℕ) (writes : List PortWrite) (vs : List ChipView) → HoldsPorts keys writes (map unasked vs) → HoldsPorts keys writes vs
ports_from keys writes vs ports place v port latch lies found once =
    port_back keys writes port latch v (ports place (unasked v) port latch (lies_unasked vs place v lies) found
    (λ j w there has. let old : Comes unasked (slice_get vs j) w = comes_unasked vs j w there in
    once j old.from old.is (subst (λ (u : ChipView). is_some (data_port u port) ≡ true) old.gives has)))

pub ports_unasked : (keys : List ℕ) (writes : List PortWrite) (vs ws : List ChipView) → map unasked ws ≡ map unasked vs →
    HoldsPorts keys writes vs → HoldsPorts keys writes ws
ports_unasked keys writes vs ws same ports =
    ports_from keys writes ws (subst (HoldsPorts keys writes) (sym same) (ports_to keys writes vs ports))
