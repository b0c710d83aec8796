-- What the chips of a rack answer by the history of the run: which asks for an interrupt, and which vector it gives.
use Rattle.std.proofs.Common.{◌≡◌, ℕ, zero, suc, ◌+◌, Bool, true, false, List, [], ◌∷◌, map, refl, sym, ap, ◌∙◌, subst, arith}
use Rattle.std.specs.Prelude.{◌==◌, ◌&&◌, ◌||◌, if◌then◌else◌, Option, Some, None, option_map, slice_get}
use Rattle.std.proofs.lemmas.Option.{slice_get-map}
use Rattle.f8_spec.specs.BusArbitration.{Seat, seat_of, is_first}
use Rattle.f8_spec.specs.ChipState.{ChipView, ChipState, has_fixed_vector, vector_under, given_vector, is_asking, admits_expiries, timer_of}
use Rattle.f8_spec.specs.ChipState.{has_ram_at, bytes_with, stored, effect, timer_passed, after_step}
use Rattle.f8_spec.specs.Instructions.{step_clocks}
use Rattle.f8_spec.specs.ShiftTimer.{expires_within}
use Rattle.console_spec.specs.InterruptRequests.{History}
use Rattle.console_spec.specs.InterruptChoice.{has_request_by, is_asking_in, is_asking_at, control_of, written_vector, seat_vector}
use Rattle.console_spec.specs.declared.PortWrite.{PortWrite}
use Rattle.data_bus.specs.Racks.{NumberedZip, SettlesStep, RackSettles, NamesAsking}
use Rattle.f8_machine.specs.RequestsHeld.{HasVector, HasRequests, IsInTime, is_asking_seated, marked_step}

-- ---- who asks

asks_by : (ports : Option ℕ) (socket time : ℕ) (h : History) (v : ChipView) → HasRequests ports socket h time v →
    v.request ≡ has_request_by ports socket h time
asks_by None socket time h v is = is.silent
asks_by (Some first) socket time h v is = is.device.asks

-- the chip of a socket, and none where there is no chip
pub sampled : (time : ℕ) (h : History) (vs : List ChipView) (socket : ℕ) → IsInTime time h vs →
    is_asking_seated (slice_get vs socket) ≡ is_asking_at (map seat_of vs) h time socket
sampled time h vs socket is = by (slice_get vs socket) refl ∙ ap (λ (o : Option Seat). is_asking_in o socket h time) (sym (slice_get-map seat_of vs socket))
  where
    by : (o : Option ChipView) → slice_get vs socket ≡ o → is_asking_seated o ≡ is_asking_in (option_map seat_of o) socket h time
    by None lies = refl
    by (Some v) lies = ap (λ (b : Bool). v.wired && b) (asks_by v.ports socket time h v (is.requests socket v lies))

-- ---- the vector

vector_by : (fixed : Bool) (first : ℕ) (writes : List PortWrite) (v : ChipView) → HasVector fixed first writes v →
    v.vector ≡ (if fixed then (if fixed then v.vector else 0) else written_vector (Some first) writes)
vector_by true first writes v has = refl
vector_by false first writes v has = has.halves

given_by : (ports : Option ℕ) (first socket time : ℕ) (h : History) (v : ChipView) → ports ≡ Some first → HasRequests ports socket h time v →
    given_vector v ≡ vector_under (control_of ports h.writes)
    (if has_fixed_vector v.kind then (if has_fixed_vector v.kind then v.vector else 0) else written_vector ports h.writes)
given_by None first socket time h v none is = cc
given_by (Some first) other socket time h v same is =
    ap (λ (c : ℕ). vector_under c v.vector) is.device.control_byte
    ∙ ap (vector_under (control_of (Some first) h.writes)) (vector_by (has_fixed_vector v.kind) first h.writes v is.vector)

-- the chip in a socket gives the vector of the history, where it has ports
pub given_seated : (time : ℕ) (h : History) (vs : List ChipView) (socket first : ℕ) (v : ChipView) → IsInTime time h vs →
    slice_get vs socket ≡ Some v → v.ports ≡ Some first → given_vector v ≡ seat_vector (seat_of v) h.writes
given_seated time h vs socket first v is lies ports = given_by v.ports first socket time h v ports (is.requests socket v lies)

-- ---- a request goes on

-- a step that neither ends a request nor writes a port keeps the request of a chip that asks
asks_effect : (romc byte : ℕ) (marked : Bool) (v : ChipView) → (romc == 0x13) ≡ false → (romc == 0x1A) ≡ false →
    is_asking (effect romc byte marked v) ≡ is_asking v
asks_effect romc byte marked v ends put = rw (ends, put) (by (romc == 0x05))
  where
    stored_asks : (ram : Bool) → is_asking (if ram then record v { bytes = bytes_with v.pages v.bytes v.counters.dc0 byte } else v) ≡ is_asking v
    stored_asks true = refl
    stored_asks false = refl

    by : (store : Bool) → is_asking (if store then stored v.counters.dc0 byte v else v) ≡ is_asking v
    by true = stored_asks (has_ram_at v v.counters.dc0)
    by false = refl

asks_passed : (clocks : ℕ) (v : ChipView) → is_asking v ≡ true → is_asking (timer_passed clocks v) ≡ true
asks_passed clocks v asks = by v.wired v.request (admits_expiries v.control && expires_within clocks (timer_of v)) asks
  where
    by : (wired request expires : Bool) → (wired && request) ≡ true → (wired && (request || expires)) ≡ true
    by true true expires e = refl
    by true false expires e = cc
    by false request expires e = cc

pub asks_after : (romc byte clocks : ℕ) (marked : Bool) (v : ChipView) → (romc == 0x13) ≡ false → (romc == 0x1A) ≡ false →
    is_asking v ≡ true → is_asking (after_step (marked_step romc byte clocks marked) v) ≡ true
asks_after romc byte clocks marked v ends put asks = asks_effect romc byte marked (timer_passed clocks v) ends put ∙ asks_passed clocks v asks

-- a chip of a rack has one after the step
settles_to : (romc : ℕ) (long : Bool) (first : Option ℕ) (byte n number place : ℕ) (olds news : List ChipState) (old : ChipState) → n + place ≡ number →
    NumberedZip (SettlesStep romc long first byte) n olds news → slice_get olds place ≡ Some old →
    (new : ChipState) × (slice_get news place ≡ Some new) × SettlesStep romc long first byte number old new
settles_to romc long first byte n number place [] news old e all lies = cc
settles_to romc long first byte n number place (x ∷ olds) [] old e all lies = absurd all
settles_to romc long first byte n number zero (x ∷ olds) (y ∷ news) old e all lies =
    let same : x ≡ old = cc in
    let at : n ≡ number = omega arith in (
      y,
      refl,
      subst (λ (m : ℕ). SettlesStep romc long first byte m old y) at
          (subst (λ (s : ChipState). SettlesStep romc long first byte n s y) same all.0),
    )
settles_to romc long first byte n number (suc place) (x ∷ olds) (y ∷ news) old e all lies =
    settles_to romc long first byte (n + 1) number place olds news old (omega arith) all.1 lies

-- the chosen chip goes on asking
pub asking_stays : (chosen : Option ℕ) (romc : ℕ) (long : Bool) (first : Option ℕ) (byte : ℕ) (olds news : List ChipState) →
    (romc == 0x13) ≡ false → (romc == 0x1A) ≡ false → RackSettles romc long first byte olds news →
    NamesAsking chosen olds → NamesAsking chosen news
asking_stays chosen romc long first byte olds news ends put all named =
    let after = settles_to romc long first byte 0 named.socket named.socket olds news named.chip (omega arith) all named.seated in
    record {
      socket = named.socket;
      chip = after.0;
      is = named.is;
      seated = after.1;
      asks = ap is_asking after.2.view ∙ asks_after romc byte (step_clocks long) (is_first first named.socket) named.chip.view ends put named.asks;
    }
