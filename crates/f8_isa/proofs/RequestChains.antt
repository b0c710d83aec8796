-- What is kept of the requests of all chips described stays as the history says.
use Rattle.std.proofs.Common.{◌≡◌, ◌≢◌, ◌==◌, ℕ, zero, suc, ◌+◌, ◌-◌, ◌<◌, ◌≤◌, Bool, true, false, List, [], ◌∷◌, length, map, refl, sym}
use Rattle.std.proofs.Common.{subst, ◌∙◌, arith}
use Rattle.std.specs.Prelude.{if◌then◌else◌, AllPairs, slice_get, Option, Some, None}
use Rattle.std.specs.List.{range_with_len}
use Rattle.std.proofs.lemmas.Option.{get_or_from_slice_get, slice_get_within}
use Rattle.std.proofs.lemmas.List.FromFn.{get_or-range_with_len, length-range_with_len}
use Rattle.f8_spec.specs.BusArbitration.{Seat, seat_of}
use Rattle.console_spec.specs.InterruptRequests.{History, IsPast, no_history, control_port, timer_port}
use Rattle.console_spec.specs.InterruptRequests.{time_of}
use Rattle.console_spec.specs.Processor.{write_at, with_write}
use Rattle.console_spec.specs.declared.PortWrite.{PortWrite}
use Rattle.console_spec.proofs.RequestLaws.{past-later, past-written, past-acknowledged, past-pulsed}
use Rattle.console_spec.proofs.RequestLaws.{after_write, after_acknowledgement, after_pulse}
use Rattle.f8_isa.specs.Requests.{KnowsRequests, FitsSeat, KnowsEach, KnowsChain, after_port_write, all_after_write, pulse_from}
use Rattle.f8_isa.specs.Requests.{pulse_at_place}
use Rattle.f8_isa.specs.Requests.{ended_from, ended_at, acknowledged_at_place}
use Rattle.chip_face.specs.Fitting.{IsChipList, is_blank, fitted}
use Rattle.chip_face.specs.declared.specification.ChipSpec.{ChipSpec}
use Rattle.chip_face.specs.declared.specification.ChipSpec.TheVariants.{Blank, Psu, Smi, Pio}
use Rattle.memory_map.specs.MapOf.{views_of}
use Rattle.console_spec.specs.Run.{chain_in_order}
use Rattle.f8_isa.specs.Requests.{with_pulse, after_control, after_load, first_requests}
use Rattle.f8_isa.specs.declared.requests.ChipRequests.{ChipRequests}
use Rattle.f8_isa.proofs.RequestKeeping.{knows-later, knows-written, knows-acknowledged, knows-kept, knows-pulsed, knows-unpulsed}
use Rattle.f8_isa.proofs.RequestKeeping.{knows-early}

-- ---- the histories that an instruction and a pulse leave

abbrev pub with_write_in : Option PortWrite → History → History
with_write_in wrote h = record h { writes = with_write wrote h.writes }

abbrev pub with_pulse_in : Option ℕ → ℕ → History → History
with_pulse_in None phi h = h
with_pulse_in (Some socket) phi h = after_pulse socket phi h

-- ---- an instruction

same_seat : (control timer : Bool) (w : PortWrite) (k : ChipRequests) (seat : Seat) → FitsSeat k.first_port k.wired k.fixed_vector seat →
    let l = if control then after_control w k else if timer then after_load w k else k in
    FitsSeat l.first_port l.wired l.fixed_vector seat
same_seat true timer w k seat fits = fits
same_seat false true w k seat fits = fits
same_seat false false w k seat fits = fits

each_written : (seats : List Seat) (w : PortWrite) (h : History) (time : ℕ) (ks : List ChipRequests) (chain : List ℕ) → time + 4 ≤ w.phi →
    IsPast time h → IsPast (time_of w) h → KnowsEach seats h time ks chain → KnowsEach seats (after_write w h) w.phi (map (after_port_write w) ks) chain
each_written seats w h time [] [] order past past_then each = tt
each_written seats w h time [] (socket ∷ chain) order past past_then each = absurd each
each_written seats w h time (k ∷ ks) [] order past past_then each = absurd each
each_written seats w h time (k ∷ ks) (socket ∷ chain) order past past_then each = (
  record {
    seat = each.0.seat;
    sits = each.0.sits;
    fits = same_seat (w.port == control_port k.first_port) (w.port == timer_port k.first_port) w k each.0.seat each.0.fits;
    knows = knows-written socket w h time k order past past_then each.0.knows;
  },
  each_written seats w h time ks chain order past past_then each.1,
)

each_later : (seats : List Seat) (h : History) (time later : ℕ) (ks : List ChipRequests) (chain : List ℕ) → time ≤ later → IsPast time h →
    KnowsEach seats h time ks chain → KnowsEach seats h later ks chain
each_later seats h time later [] [] order past each = tt
each_later seats h time later [] (socket ∷ chain) order past each = absurd each
each_later seats h time later (k ∷ ks) [] order past each = absurd each
each_later seats h time later (k ∷ ks) (socket ∷ chain) order past each = (
  record {
    seat = each.0.seat;
    sits = each.0.sits;
    fits = each.0.fits;
    knows = knows-later socket h time later k each.0.knows past order;
  },
  each_later seats h time later ks chain order past each.1,
)

-- an instruction with its write, if a port takes it
pub chain-written : (seats : List Seat) (port : Option ℕ) (byte time phi : ℕ) (h : History) (ks : List ChipRequests) (chain : List ℕ) → time + 4 ≤ phi →
    KnowsChain seats h time ks chain →
    KnowsChain seats (with_write_in (write_at phi byte port) h) phi (all_after_write (write_at phi byte port) ks) chain
chain-written seats None byte time phi h ks chain order knows = record {
  past = past-later time phi h (omega arith) knows.past;
  distinct = knows.distinct;
  each = each_later seats h time phi ks chain (omega arith) knows.past knows.each;
}
chain-written seats (Some port) byte time phi h ks chain order knows =
    let w : PortWrite = record { phi = phi; port = port; byte = byte } in
    record {
      past = past-written w phi h (omega arith) (past-later time phi h (omega arith) knows.past);
      distinct = knows.distinct;
      each = each_written seats w h time ks chain order knows.past (past-later time (phi - 4) h (omega arith) knows.past) knows.each;
    }

-- ---- sockets that are distinct

-- the first socket of a chain is not that of a later place
first_apart : (first : ℕ) (chain : List ℕ) (place socket : ℕ) → AllPairs (λ one other. one ≢ other) (first ∷ chain) →
    slice_get chain place ≡ Some socket → first ≢ socket
first_apart first chain place socket distinct e same =
    let within : place < length chain = slice_get_within chain place socket e in
    distinct 0 (suc place) 0 (omega arith) (omega arith) (same ∙ sym (get_or_from_slice_get chain place socket 0 e))

distinct_behind : (first : ℕ) (chain : List ℕ) → AllPairs (λ one other. one ≢ other) (first ∷ chain) → AllPairs (λ one other. one ≢ other) chain
distinct_behind first chain distinct i j d order within = distinct (suc i) (suc j) d (omega arith) (omega arith)

-- ---- an acknowledgement

each_kept : (seats : List Seat) (other phi : ℕ) (h : History) (time later : ℕ) (ks : List ChipRequests) (chain : List ℕ) → time ≤ later → IsPast time h →
    ((place socket : ℕ) → slice_get chain place ≡ Some socket → other ≢ socket) → KnowsEach seats h time ks chain →
    KnowsEach seats (after_acknowledgement other phi h) later ks chain
each_kept seats other phi h time later [] [] order past apart each = tt
each_kept seats other phi h time later [] (socket ∷ chain) order past apart each = absurd each
each_kept seats other phi h time later (k ∷ ks) [] order past apart each = absurd each
each_kept seats other phi h time later (k ∷ ks) (socket ∷ chain) order past apart each = (
  record {
    seat = each.0.seat;
    sits = each.0.sits;
    fits = each.0.fits;
    knows = knows-kept socket other phi h time later k (apart 0 socket refl) order past each.0.knows;
  },
  each_kept seats other phi h time later ks chain order past (λ place s e. apart (suc place) s e) each.1,
)

ended_behind : (found : Option ChipRequests) (at chip : ℕ) (k : ChipRequests) (ks : List ChipRequests) →
    ended_from found at (suc chip) (k ∷ ks) ≡ k ∷ ended_from found at chip ks
ended_behind None at chip k ks = refl
ended_behind (Some q) at chip k ks = refl

each_acknowledged : (seats : List Seat) (chip socket at : ℕ) (h : History) (time : ℕ) (ks : List ChipRequests) (chain : List ℕ) → at < time →
    IsPast at h → IsPast time h → slice_get chain chip ≡ Some socket → AllPairs (λ one other. one ≢ other) chain → KnowsEach seats h time ks chain →
    KnowsEach seats (after_acknowledgement socket at h) time (acknowledged_at_place at chip ks) chain
each_acknowledged seats chip socket at h time [] [] order past past_now e distinct each = tt
each_acknowledged seats chip socket at h time [] (first ∷ chain) order past past_now e distinct each = absurd each
each_acknowledged seats chip socket at h time (k ∷ ks) [] order past past_now e distinct each = absurd each
each_acknowledged seats zero socket at h time (k ∷ ks) (first ∷ chain) order past past_now e distinct each =
    let same : first ≡ socket = cc in (
      record {
        seat = each.0.seat;
        sits = each.0.sits;
        fits = each.0.fits;
        knows =
            subst (λ (s : ℕ). KnowsRequests first (after_acknowledgement s at h) time (ended_at at k)) same
            (knows-acknowledged first h time at time k order past each.0.knows);
      },
      subst (λ (s : ℕ). KnowsEach seats (after_acknowledgement s at h) time ks chain) same
          (each_kept seats first at h time time ks chain (omega arith) past_now (λ place s found. first_apart first chain place s distinct found) each.1),
    )
each_acknowledged seats (suc chip) socket at h time (k ∷ ks) (first ∷ chain) order past past_now e distinct each =
    rw (ended_behind (slice_get ks chip) at chip k ks) (
      record {
        seat = each.0.seat;
        sits = each.0.sits;
        fits = each.0.fits;
        knows =
            knows-kept first socket at h time time k (λ same. first_apart first chain chip socket distinct e (sym same)) (omega arith) past_now
            each.0.knows;
      },
      each_acknowledged seats chip socket at h time ks chain order past past_now e (distinct_behind first chain distinct) each.1,
    )

-- of the chip in a place, at a time at which the whole history lies behind
pub chain-acknowledged : (seats : List Seat) (chip socket at : ℕ) (h : History) (time : ℕ) (ks : List ChipRequests) (chain : List ℕ) → at < time →
    IsPast at h → slice_get chain chip ≡ Some socket → KnowsChain seats h time ks chain →
    KnowsChain seats (after_acknowledgement socket at h) time (acknowledged_at_place at chip ks) chain
chain-acknowledged seats chip socket at h time ks chain order past e knows = record {
  past = past-acknowledged socket at time h (omega arith) knows.past;
  distinct = knows.distinct;
  each = each_acknowledged seats chip socket at h time ks chain order past knows.past e knows.distinct knows.each;
}

-- ---- a pulse

each_unpulsed : (seats : List Seat) (other phi : ℕ) (h : History) (time : ℕ) (ks : List ChipRequests) (chain : List ℕ) →
    ((place socket : ℕ) → slice_get chain place ≡ Some socket → other ≢ socket) → KnowsEach seats h time ks chain →
    KnowsEach seats (after_pulse other phi h) time ks chain
each_unpulsed seats other phi h time [] [] apart each = tt
each_unpulsed seats other phi h time [] (socket ∷ chain) apart each = absurd each
each_unpulsed seats other phi h time (k ∷ ks) [] apart each = absurd each
each_unpulsed seats other phi h time (k ∷ ks) (socket ∷ chain) apart each = (
  record {
    seat = each.0.seat;
    sits = each.0.sits;
    fits = each.0.fits;
    knows = knows-unpulsed socket other phi h time k (apart 0 socket refl) each.0.knows;
  },
  each_unpulsed seats other phi h time ks chain (λ place s e. apart (suc place) s e) each.1,
)

pulse_behind : (found : Option ChipRequests) (chip : ℕ) (k : ChipRequests) (ks : List ChipRequests) →
    pulse_from found (suc chip) (k ∷ ks) ≡ k ∷ pulse_from found chip ks
pulse_behind None chip k ks = refl
pulse_behind (Some q) chip k ks = refl

each_pulsed : (seats : List Seat) (chip socket : ℕ) (h : History) (time : ℕ) (ks : List ChipRequests) (chain : List ℕ) → slice_get chain chip ≡ Some socket →
    AllPairs (λ one other. one ≢ other) chain → KnowsEach seats h time ks chain →
    KnowsEach seats (after_pulse socket time h) time (pulse_at_place chip ks) chain
each_pulsed seats chip socket h time [] [] e distinct each = tt
each_pulsed seats chip socket h time [] (first ∷ chain) e distinct each = absurd each
each_pulsed seats chip socket h time (k ∷ ks) [] e distinct each = absurd each
each_pulsed seats zero socket h time (k ∷ ks) (first ∷ chain) e distinct each =
    let same : first ≡ socket = cc in (
      record {
        seat = each.0.seat;
        sits = each.0.sits;
        fits = each.0.fits;
        knows = subst (λ (s : ℕ). KnowsRequests first (after_pulse s time h) time (with_pulse k)) same (knows-pulsed first h time k each.0.knows);
      },
      subst (λ (s : ℕ). KnowsEach seats (after_pulse s time h) time ks chain) same
          (each_unpulsed seats first time h time ks chain (λ place s found. first_apart first chain place s distinct found) each.1),
    )
each_pulsed seats (suc chip) socket h time (k ∷ ks) (first ∷ chain) e distinct each =
    rw (pulse_behind (slice_get ks chip) chip k ks) (
      record {
        seat = each.0.seat;
        sits = each.0.sits;
        fits = each.0.fits;
        knows = knows-unpulsed first socket time h time k (λ same. first_apart first chain chip socket distinct e (sym same)) each.0.knows;
      },
      each_pulsed seats chip socket h time ks chain e (distinct_behind first chain distinct) each.1,
    )

-- where there is no such chip
none_there : (seats : List Seat) (chip : ℕ) (h : History) (time : ℕ) (ks : List ChipRequests) (chain : List ℕ) → slice_get chain chip ≡ None →
    KnowsEach seats h time ks chain → slice_get ks chip ≡ None
none_there seats chip h time [] [] e each = refl
none_there seats chip h time [] (first ∷ chain) e each = absurd each
none_there seats chip h time (k ∷ ks) [] e each = absurd each
none_there seats zero h time (k ∷ ks) (first ∷ chain) e each = cc
none_there seats (suc chip) h time (k ∷ ks) (first ∷ chain) e each = none_there seats chip h time ks chain e each.1

pub chain-pulsed : (seats : List Seat) (chip : ℕ) (h : History) (time : ℕ) (ks : List ChipRequests) (chain : List ℕ) (found : Option ℕ) →
    slice_get chain chip ≡ found → KnowsChain seats h time ks chain → KnowsChain seats (with_pulse_in found time h) time (pulse_at_place chip ks) chain
chain-pulsed seats chip h time ks chain None e knows = rw (none_there seats chip h time ks chain e knows.each) knows
chain-pulsed seats chip h time ks chain (Some socket) e knows = record {
  past = past-pulsed socket time time h (omega arith) knows.past;
  distinct = knows.distinct;
  each = each_pulsed seats chip socket h time ks chain e knows.distinct knows.each;
}

-- ---- a pulse before any write

early_each : (seats : List Seat) (other phi : ℕ) (h : History) (time : ℕ) (ks : List ChipRequests) (chain : List ℕ) → h.writes ≡ [] →
    KnowsEach seats h time ks chain → KnowsEach seats (after_pulse other phi h) time ks chain
early_each seats other phi h time [] [] none each = tt
early_each seats other phi h time [] (first ∷ chain) none each = absurd each
early_each seats other phi h time (k ∷ ks) [] none each = absurd each
early_each seats other phi h time (k ∷ ks) (first ∷ chain) none each = (
  record {
    seat = each.0.seat;
    sits = each.0.sits;
    fits = each.0.fits;
    knows = knows-early first other phi h time k k.pulsed none each.0.knows;
  },
  early_each seats other phi h time ks chain none each.1,
)

early_pulsed : (seats : List Seat) (chip other phi : ℕ) (h : History) (time : ℕ) (ks : List ChipRequests) (chain : List ℕ) → h.writes ≡ [] →
    KnowsEach seats h time ks chain → KnowsEach seats (after_pulse other phi h) time (pulse_at_place chip ks) chain
early_pulsed seats chip other phi h time [] [] none each = tt
early_pulsed seats chip other phi h time [] (first ∷ chain) none each = absurd each
early_pulsed seats chip other phi h time (k ∷ ks) [] none each = absurd each
early_pulsed seats zero other phi h time (k ∷ ks) (first ∷ chain) none each = (
  record {
    seat = each.0.seat;
    sits = each.0.sits;
    fits = each.0.fits;
    knows = knows-early first other phi h time k true none each.0.knows;
  },
  early_each seats other phi h time ks chain none each.1,
)
early_pulsed seats (suc chip) other phi h time (k ∷ ks) (first ∷ chain) none each =
    rw (pulse_behind (slice_get ks chip) chip k ks) (
      record {
        seat = each.0.seat;
        sits = each.0.sits;
        fits = each.0.fits;
        knows = knows-early first other phi h time k k.pulsed none each.0.knows;
      },
      early_pulsed seats chip other phi h time ks chain none each.1,
    )

pub chain-early : (seats : List Seat) (chip phi : ℕ) (h : History) (time : ℕ) (ks : List ChipRequests) (chain : List ℕ) (found : Option ℕ) →
    slice_get chain chip ≡ found → phi ≤ time → h.writes ≡ [] → KnowsChain seats h time ks chain →
    KnowsChain seats (with_pulse_in found phi h) time (pulse_at_place chip ks) chain
chain-early seats chip phi h time ks chain None e order none knows = rw (none_there seats chip h time ks chain e knows.each) knows
chain-early seats chip phi h time ks chain (Some socket) e order none knows = record {
  past = past-pulsed socket phi time h order knows.past;
  distinct = knows.distinct;
  each = early_pulsed seats chip socket phi h time ks chain none knows.each;
}

-- ---- power-on and reset

first_knows : (socket : ℕ) (chip : ChipSpec) → KnowsRequests socket no_history 14 (first_requests chip)
first_knows socket chip = record {
  control_byte = refl;
  ended = refl;
  ended_before = omega arith;
  clocks = refl;
  load = refl;
  expiries = λ until. refl;
  pulse = λ one. refl;
}

fits_first : (chip : ChipSpec) → is_blank chip ≡ false →
    FitsSeat (first_requests chip).first_port (first_requests chip).wired (first_requests chip).fixed_vector (seat_of (fitted None chip))
fits_first (Blank kind) kept = cc
fits_first (Psu base rom ports vector wired) kept = record { ports = refl; wiring = refl; vector = (refl, refl) }
fits_first (Smi pages rom wired) kept = record { ports = refl; wiring = refl; vector = (refl, refl) }
fits_first (Pio ports vector wired) kept = record { ports = refl; wiring = refl; vector = (refl, refl) }

first_each : (seats : List Seat) (first : ℕ) (chips : List ChipSpec) →
    ((place : ℕ) (s : Seat) → slice_get (map seat_of (map (fitted None) chips)) place ≡ Some s → slice_get seats (first + place) ≡ Some s) →
    ((place : ℕ) (c : ChipSpec) → slice_get chips place ≡ Some c → is_blank c ≡ false) →
    KnowsEach seats no_history 14 (map first_requests chips) (range_with_len first (length (map (fitted None) chips)))
first_each seats first [] sit kept = tt
first_each seats first (c ∷ cs) sit kept = (
  record {
    seat = seat_of (fitted None c);
    sits = let here : first + 0 ≡ first = omega arith in rw here at (sit 0 (seat_of (fitted None c)) refl);
    fits = fits_first c (kept 0 c refl);
    knows = first_knows first c;
  },
  first_each seats (first + 1) cs
      (λ place s e. let next : first + suc place ≡ first + 1 + place = omega arith in rw next at (sit (suc place) s e))
      (λ place d e. kept (suc place) d e),
)

distinct_range : (n : ℕ) → AllPairs (λ one other. one ≢ other) (range_with_len 0 n)
distinct_range n i j d order within same =
    let long : j < n = rw length-range_with_len at within in
    omega (arith, get_or-range_with_len 0 n i d (omega arith), get_or-range_with_len 0 n j d long, same)

pub chain-first : (chips : List ChipSpec) → IsChipList chips →
    KnowsChain (map seat_of (views_of chips)) no_history 14 (map first_requests chips) (chain_in_order (views_of chips))
chain-first chips limits = record {
  past = record { writes = tt; acknowledged = tt; pulses = tt };
  distinct = distinct_range (length (views_of chips));
  each =
      first_each (map seat_of (views_of chips)) 0 chips (λ place s e. let same : 0 + place ≡ place = omega arith in rw same e)
      (λ place c e. kept place c e);
}
  where
    kept : (place : ℕ) (c : ChipSpec) → slice_get chips place ≡ Some c → is_blank c ≡ false
    kept place c e =
        subst (λ (d : ChipSpec). is_blank d ≡ false) (get_or_from_slice_get chips place c c e)
        (limits.none_blank place c (slice_get_within chips place c e))
