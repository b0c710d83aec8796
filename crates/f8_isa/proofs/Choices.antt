-- The chip that is chosen is the flat machine's, and so is its vector.
use Rattle.std.proofs.Common.{◌≡◌, ℕ, suc, ◌+◌, ◌-◌, ◌<◌, ◌≤◌, Bool, true, false, inl, inr, List, [], ◌∷◌, length, map, refl, ap, ◌∙◌}
use Rattle.std.proofs.Common.{arith}
use Rattle.std.specs.Prelude.{not, ◌||◌, if◌then◌else◌, nat_lt, nat_le, ◌⊎◌, position, slice_get, slice_index, Option, Some, None}
use Rattle.std.specs.Prelude.{option_map, is_some, cond}
use Rattle.std.specs.List.{position_or_len}
use Rattle.std.proofs.lemmas.Bool.Decides.{nat_tests}
use Rattle.std.proofs.lemmas.Bool.{ne_eqb}
use Rattle.f8_spec.specs.BusArbitration.{Seat}
use Rattle.f8_spec.specs.ChipState.{has_fixed_vector, vector_under}
use Rattle.f8_spec.specs.Instructions.{InRange, row_of, row_clocks, clocks_of, clocks_before_fetch, has_long_fetch, is_shielding}
use Rattle.f8_spec.specs.declared.instructions.Op.{Op}
use Rattle.f8_spec.specs.declared.instructions.Op.TheVariants.{Out, Outs}
use Rattle.f8_spec.specs.declared.instructions.Row.{Row}
use Rattle.f8_spec.specs.declared.instructions.Row.TheVariants.{Branch, BranchIsar}
use Rattle.console_spec.specs.Writes.{latch_of}
use Rattle.console_spec.specs.FlatStep.{chosen_at}
use Rattle.console_spec.specs.InterruptRequests.{History, IsPast, control_port, timer_port}
use Rattle.console_spec.specs.InterruptChoice.{is_asking_at, first_asking, written_vector, vector_of}
use Rattle.console_spec.specs.Processor.{write_at, with_write}
use Rattle.console_spec.specs.declared.PortWrite.{PortWrite}
use Rattle.f8_isa.specs.Ports.{PortState, if_writable, port_taking}
use Rattle.f8_isa.specs.Requests.{KnowsChip, KnowsEach, IsVectorOf, is_asking, asking_place, kept_vector, all_after_write}
use Rattle.f8_isa.specs.Requests.{after_port_write, place_vector}
use Rattle.f8_isa.specs.declared.requests.ChipRequests.{ChipRequests}
use Rattle.f8_isa.proofs.RequestKeeping.{asks-is}

-- ---- the choice

-- the chip in a place and in a socket is one
pub record IsChosen (seats : List Seat) (h : History) (time : ℕ) (ks : List ChipRequests) (chain : List ℕ) (place socket : ℕ) : Type 0 where
  pub chip : ChipRequests
  pub kept : slice_get ks place ≡ Some chip
  pub at : slice_get chain place ≡ Some socket
  pub knows : KnowsChip seats h time chip socket

-- none is chosen by either, or one by both
abbrev pub AreChosen : List Seat → History → ℕ → List ChipRequests → List ℕ → Option ℕ → Option ℕ → Type 0
AreChosen seats h time ks chain None None = Unit {0}
AreChosen seats h time ks chain (Some place) (Some socket) = IsChosen seats h time ks chain place socket
AreChosen seats h time ks chain None (Some socket) = ⊥
AreChosen seats h time ks chain (Some place) None = ⊥

pub some_alike : (seats : List Seat) (h : History) (time : ℕ) (ks : List ChipRequests) (chain : List ℕ) (place socket : Option ℕ) →
    AreChosen seats h time ks chain place socket → is_some place ≡ is_some socket
some_alike seats h time ks chain None None chosen = refl
some_alike seats h time ks chain (Some place) (Some socket) chosen = refl
some_alike seats h time ks chain None (Some socket) chosen = absurd chosen
some_alike seats h time ks chain (Some place) None chosen = absurd chosen

position_behind : (n size m long : ℕ) → m ≡ suc n → long ≡ suc size →
    cond (nat_lt m long) (Some m) None ≡ option_map suc (cond (nat_lt n size) (Some n) None)
position_behind n size m long e f =
    let same : nat_lt m long ≡ nat_lt n size = grind (nat_tests, arith) in
    rw (same, e) (inside (nat_lt n size))
  where
    inside : (b : Bool) → cond b (Some (suc n)) None ≡ option_map suc (cond b (Some n) None)
    inside true = refl
    inside false = refl

position_more : {A : Type 0} (test : A → Bool) (x : A) (xs : List A) →
    position test (x ∷ xs) ≡ (if test x then Some 0 else option_map suc (position test xs))
position_more test x xs = by (test x) refl
  where
    by : (b : Bool) → test x ≡ b → position test (x ∷ xs) ≡ (if b then Some 0 else option_map suc (position test xs))
    by true e =
        let at : position_or_len test (x ∷ xs) ≡ 0 = rw e refl in
        let first : nat_lt 0 (length (x ∷ xs)) ≡ true = grind (nat_tests, arith) in rw (at, first) refl
    by false e =
        let at : position_or_len test (x ∷ xs) ≡ 1 + position_or_len test xs = rw e refl in
        position_behind (position_or_len test xs) (length xs) (position_or_len test (x ∷ xs)) (length (x ∷ xs)) (at ∙ omega arith) (omega arith)

asks_alike : (seats : List Seat) (h : History) (known time : ℕ) (k : ChipRequests) (socket : ℕ) → IsPast known h → known ≤ time →
    KnowsChip seats h known k socket → is_asking_at seats h time socket ≡ is_asking time k
asks_alike seats h known time k socket past order knows =
    rw (knows.sits, knows.fits.ports, ← knows.fits.wiring, ← asks-is socket h known time k knows.knows past order) refl

chosen_more : (seats : List Seat) (h : History) (known : ℕ) (ks : List ChipRequests) (chain : List ℕ) (k : ChipRequests) (socket : ℕ) (asks : Bool)
    (found later : Option ℕ) → KnowsChip seats h known k socket → AreChosen seats h known ks chain found later →
    AreChosen seats h known (k ∷ ks) (socket ∷ chain) (if asks then Some 0 else option_map suc found) (if asks then Some socket else later)
chosen_more seats h known ks chain k socket true found later knows chosen = record { chip = k; kept = refl; at = refl; knows = knows }
chosen_more seats h known ks chain k socket false None None knows chosen = tt
chosen_more seats h known ks chain k socket false (Some place) (Some other) knows chosen =
    record { chip = chosen.chip; kept = chosen.kept; at = chosen.at; knows = chosen.knows }
chosen_more seats h known ks chain k socket false None (Some other) knows chosen = absurd chosen
chosen_more seats h known ks chain k socket false (Some place) None knows chosen = absurd chosen

pub first_alike : (seats : List Seat) (h : History) (known time : ℕ) (ks : List ChipRequests) (chain : List ℕ) → IsPast known h → known ≤ time →
    KnowsEach seats h known ks chain → AreChosen seats h known ks chain (asking_place time ks) (first_asking seats h time chain)
first_alike seats h known time [] [] past order each = tt
first_alike seats h known time [] (socket ∷ chain) past order each = absurd each
first_alike seats h known time (k ∷ ks) [] past order each = absurd each
first_alike seats h known time (k ∷ ks) (socket ∷ chain) past order each =
    rw (position_more (is_asking time) k ks, asks_alike seats h known time k socket past order each.0)
    (chosen_more seats h known ks chain k socket (is_asking time k) (asking_place time ks) (first_asking seats h time chain) each.0
    (first_alike seats h known time ks chain past order each.1))

-- where an interrupt may be taken at all
pub chosen_alike : (op : Op) (icb : Bool) (seats : List Seat) (h : History) (known time : ℕ) (ks : List ChipRequests) (chain : List ℕ)
    (place : Option ℕ) → (is_shielding op ≡ false → AreChosen seats h known ks chain place (first_asking seats h time chain)) →
    AreChosen seats h known ks chain (if is_shielding op || not icb then None else place) (chosen_at op icb seats chain h time)
unfolding chosen_at
chosen_alike op icb seats h known time ks chain place alike = by (is_shielding op) icb alike
  where
    by : (shields enabled : Bool) → (shields ≡ false → AreChosen seats h known ks chain place (first_asking seats h time chain)) →
        AreChosen seats h known ks chain (if shields || not enabled then None else place)
        (if shields || not enabled then None else first_asking seats h time chain)
    by true enabled alike = tt
    by false true alike = alike refl
    by false false alike = tt

-- an instruction at whose end one is taken doesn't shield its end
pub open_end : (op : Op) (icb : Bool) (found : Option ℕ) (place : ℕ) → (if is_shielding op || not icb then None else found) ≡ Some place →
    is_shielding op ≡ false
open_end op icb found place e = by (is_shielding op) icb e
  where
    by : (shields enabled : Bool) → (if shields || not enabled then None else found) ≡ Some place → shields ≡ false
    by true enabled e = cc
    by false enabled e = refl

-- ---- the vector

pub vector_alike : (seats : List Seat) (h : History) (known : ℕ) (ks : List ChipRequests) (chain latches : List ℕ) (place socket : ℕ) →
    slice_index latches 0x0C ≡ latch_of 0x0C h.writes → slice_index latches 0x0D ≡ latch_of 0x0D h.writes →
    IsChosen seats h known ks chain place socket → vector_of (Some socket) seats h.writes ≡ place_vector place latches ks
vector_alike seats h known ks chain latches place socket high low chosen =
    let k = chosen.chip in
    let seat = chosen.knows.seat in
    rw (chosen.knows.sits, chosen.kept, chosen.knows.fits.ports, ← chosen.knows.knows.control_byte)
    (ap (vector_under k.control) (by k.fixed_vector k.first_port seat.ports chosen.knows.fits.ports chosen.knows.fits.vector))
  where
    by : (fixed : Option ℕ) (first : ℕ) (ports : Option ℕ) → chosen.knows.seat.ports ≡ Some first → IsVectorOf fixed chosen.knows.seat →
        (if has_fixed_vector chosen.knows.seat.kind then chosen.knows.seat.vector else written_vector (Some first) h.writes) ≡ kept_vector latches fixed
    by (Some vector) first ports e fits = rw fits.0 fits.1
    by None first ports e fits = let same : first ≡ 0x0C = cc in rw (fits.0, same, high, low) refl

-- ---- instructions that don't shield their end

-- they write no port but the processor's own
own_port : (op : Op) (operand : ℕ) (p : PortState) → InRange op → is_shielding op ≡ false → (port : ℕ) → port_taking op operand p ≡ Some port → port < 2
own_port Out operand p range other port e = cc
own_port (Outs n) operand p range other port e = by range other e
  where
    by : (n < 2) ⊎ ((4 ≤ n) × (n < 16)) → nat_le 4 n ≡ false → (if nat_lt n 2 then Some n else if_writable p n) ≡ Some port → port < 2
    by (inl low) other e = let small : nat_lt n 2 ≡ true = grind (nat_tests, arith) in let same : n ≡ port = cc in omega arith
    by (inr high) other e = let large : nat_le 4 n ≡ true = (let from = high.0 in grind (nat_tests, arith)) in cc
own_port op operand p range other port e = cc

-- which no chip hears
unheard : (w : PortWrite) (ks : List ChipRequests) → w.port < 2 → map (after_port_write w) ks ≡ ks
unheard w [] low = refl
unheard w (k ∷ ks) low =
    rw (
      ne_eqb w.port (control_port k.first_port) (λ same. omega (arith, same, low)),
      ne_eqb w.port (timer_port k.first_port) (λ same. omega (arith, same, low)),
      unheard w ks low,
    )
    refl

requests_own : (phi byte : ℕ) (ks : List ChipRequests) (found : Option ℕ) → ((port : ℕ) → found ≡ Some port → port < 2) →
    all_after_write (write_at phi byte found) ks ≡ ks
requests_own phi byte ks None own = refl
requests_own phi byte ks (Some port) own = unheard (record { phi = phi; port = port; byte = byte }) ks (own port refl)

pub requests_left : (op : Op) (operand phi byte : ℕ) (p : PortState) (ks : List ChipRequests) → InRange op → is_shielding op ≡ false →
    all_after_write (write_at phi byte (port_taking op operand p)) ks ≡ ks
requests_left op operand phi byte p ks range other =
    requests_own phi byte ks (port_taking op operand p) (own_port op operand p range other)

latch_own : (phi byte port : ℕ) (ws : List PortWrite) (found : Option ℕ) → 2 ≤ port → ((other : ℕ) → found ≡ Some other → other < 2) →
    latch_of port (with_write (write_at phi byte found) ws) ≡ latch_of port ws
latch_own phi byte port ws None high own = refl
latch_own phi byte port ws (Some other) high own = let low = own other refl in rw (ne_eqb other port (λ same. omega (arith, same, low))) refl

pub latch_left : (op : Op) (operand phi byte port : ℕ) (p : PortState) (ws : List PortWrite) → InRange op → is_shielding op ≡ false → 2 ≤ port →
    latch_of port (with_write (write_at phi byte (port_taking op operand p)) ws) ≡ latch_of port ws
latch_left op operand phi byte port p ws range other high =
    latch_own phi byte port ws (port_taking op operand p) high (own_port op operand p range other)

-- ---- clocks

-- the clocks of the last fetch are among those of a row
fetch_among : (row : Row) (taken : Bool) → (if has_long_fetch row then 6 else 4) ≤ row_clocks row taken
fetch_among Branch true = omega arith
fetch_among Branch false = omega arith
fetch_among BranchIsar true = omega arith
fetch_among BranchIsar false = omega arith
fetch_among row taken = omega arith

pub sample_alike : (op : Op) (phi : ℕ) (taken : Bool) →
    phi + clocks_of op taken - (if has_long_fetch (row_of op) then 6 else 4) ≡ phi + clocks_before_fetch op taken
sample_alike op phi taken = omega (arith, fetch_among (row_of op) taken)
