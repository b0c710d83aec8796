-- Known agreement over one step: a move of the probe's counters and of a chip's own by the same code and byte keeps what is known of them.
use Rattle.std.proofs.Common.{◌≡◌, ℕ, suc, ◌+◌, ◌-◌, ◌*◌, ◌/◌, ◌%◌, ◌<◌, Bool, true, false, refl, ap, arith, ℤ, pos, negsuc}
use Rattle.std.specs.Prelude.{◌||◌, ◌==◌, if◌then◌else◌}
use Rattle.std.specs.Int.{w8, cast_signed}
use Rattle.std.proofs.lemmas.Bool.{and_parts}
use Rattle.f8_spec.specs.Words.{with_high, with_low, places_on, wrapped, displaced}
use Rattle.f8_spec.specs.BusCodes.{Count, moved_by}
use Rattle.data_bus.specs.declared.marks.Halves.{Halves}
use Rattle.data_bus.specs.declared.marks.Marks.{Marks}
use Rattle.data_bus.specs.KnownAgreement.{no_halves, is_known, carried, marks_after, HalvesAgree, CountAgrees}

-- ---- one counter

-- where nothing is known
unknown : (reference own : ℕ) → HalvesAgree no_halves reference own
unknown reference own = record { low = λ mark. absurd (cc); high = λ mark. absurd (cc) }

-- at one address
one_address : (halves : Halves) (at : ℕ) → HalvesAgree halves at at
one_address halves at = record { low = λ mark. refl; high = λ mark. refl }

-- where both halves are known the address is
pub same_address : (halves : Halves) (reference own : ℕ) → is_known halves ≡ true → HalvesAgree halves reference own → own ≡ reference
same_address halves reference own known agrees =
    let marked = and_parts halves.low halves.high known in
    let low : own % 256 ≡ reference % 256 = agrees.low marked.0 in
    let high : own / 256 ≡ reference / 256 = agrees.high marked.1 in
    omega arith

-- a move whose low half comes of the low half
KeepsLow : (ℕ → ℕ) → Type 0
KeepsLow move = (own reference : ℕ) → own % 256 ≡ reference % 256 → move own % 256 ≡ move reference % 256

carry : (move : ℕ → ℕ) → KeepsLow move → (halves : Halves) (reference own : ℕ) → HalvesAgree halves reference own →
    HalvesAgree (carried halves) (move reference) (move own)
unfolding KeepsLow
carry move keeps_low halves reference own agrees = record {
  low = λ mark. keeps_low own reference (agrees.low mark);
  high = λ mark. ap (λ at. move at / 256) (same_address halves reference own mark agrees);
}

-- one place on
next_agrees : (halves : Halves) (reference own : ℕ) → HalvesAgree halves reference own →
    HalvesAgree (carried halves) (places_on reference 1) (places_on own 1)
unfolding KeepsLow
next_agrees = carry (λ at. places_on at 1) (λ own reference same. omega arith)

-- a signed byte leads back by fewer than 65,536 places
IsNear : ℤ → Type 0
IsNear (pos n) = Unit {0}
IsNear (negsuc n) = n < 65536

near_if : (test : Bool) (byte : ℕ) → IsNear (if test then pos byte else negsuc (256 - suc byte))
unfolding IsNear
near_if true byte = tt
near_if false byte = omega arith

wrapped_low : (by : ℤ) → IsNear by → KeepsLow (λ at. wrapped at by)
unfolding IsNear KeepsLow
wrapped_low (pos n) near own reference same = omega arith
wrapped_low (negsuc n) near own reference same = omega arith

-- away by a signed byte
displaced_agrees : (byte : ℕ) (halves : Halves) (reference own : ℕ) → HalvesAgree halves reference own →
    HalvesAgree (carried halves) (displaced reference byte) (displaced own byte)
displaced_agrees byte = carry (λ at. displaced at byte) (wrapped_low (cast_signed w8 byte) (near_if _ byte))

-- with a low byte
low_agrees : (byte : ℕ) (halves : Halves) (reference own : ℕ) → HalvesAgree halves reference own →
    HalvesAgree (record halves { low = true }) (with_low reference byte) (with_low own byte)
low_agrees byte halves reference own agrees = record {
  low = λ mark. omega arith;
  high = λ mark. ap (λ page. (page * 256 + byte) / 256) (agrees.high mark);
}

-- with a high byte
high_agrees : (byte : ℕ) (halves : Halves) (reference own : ℕ) → HalvesAgree halves reference own →
    HalvesAgree (record halves { high = true }) (with_high reference byte) (with_high own byte)
high_agrees byte halves reference own agrees = record {
  low = λ mark. ap (λ place. (byte * 256 + place) % 256) (agrees.low mark);
  high = λ mark. omega arith;
}

-- ---- four counters

-- by a test of the code
pick : (code : Bool) {moved_marks marks : Marks} {second : Bool} {moved_reference reference moved_own own : Count} →
    CountAgrees moved_marks moved_reference second moved_own → CountAgrees marks reference second own →
    CountAgrees (if code then moved_marks else marks) (if code then moved_reference else reference) second (if code then moved_own else own)
pick true moved others = moved
pick false moved others = others

-- the exchange of the data counters, which passes by a chip that has one
exchanged : (is_parted second : Bool) (marks : Marks) (reference own : Count) → (second ≡ false → is_parted ≡ true) →
    CountAgrees marks reference second own →
    CountAgrees (record marks { dc0 = if is_parted then no_halves else marks.dc1; dc1 = marks.dc0 })
    (record reference { dc0 = reference.dc1; dc1 = reference.dc0 }) second
    (if second then record own { dc0 = own.dc1; dc1 = own.dc0 } else own)
exchanged true true marks reference own parted agrees =
    record { pc0 = agrees.pc0; pc1 = agrees.pc1; dc0 = unknown _ _; dc1 = λ has. agrees.dc0 }
exchanged false true marks reference own parted agrees =
    record { pc0 = agrees.pc0; pc1 = agrees.pc1; dc0 = agrees.dc1 refl; dc1 = λ has. agrees.dc0 }
exchanged true false marks reference own parted agrees =
    record { pc0 = agrees.pc0; pc1 = agrees.pc1; dc0 = unknown _ _; dc1 = λ has. absurd (cc) }
exchanged false false marks reference own parted agrees = absurd (let known = parted refl in cc)

-- each code, in the order of its tests
pub keeps : (is_parted : Bool) (romc byte : ℕ) (marks : Marks) (reference own : Count) (second : Bool) → (second ≡ false → is_parted ≡ true) →
    CountAgrees marks reference second own →
    CountAgrees (marks_after is_parted romc marks) (moved_by romc byte true reference) second (moved_by romc byte second own)
keeps is_parted romc byte marks reference own second parted agrees =
    pick (romc == 0x00 || romc == 0x03) (record { pc0 = next_agrees _ _ _ agrees.pc0; pc1 = agrees.pc1; dc0 = agrees.dc0; dc1 = agrees.dc1 })
    (pick (romc == 0x01) (record { pc0 = displaced_agrees _ _ _ _ agrees.pc0; pc1 = agrees.pc1; dc0 = agrees.dc0; dc1 = agrees.dc1 })
    (pick (romc == 0x02 || romc == 0x05) (record { pc0 = agrees.pc0; pc1 = agrees.pc1; dc0 = next_agrees _ _ _ agrees.dc0; dc1 = agrees.dc1 })
    (pick (romc == 0x04) (record { pc0 = agrees.pc1; pc1 = agrees.pc1; dc0 = agrees.dc0; dc1 = agrees.dc1 })
    (pick (romc == 0x08) (record { pc0 = one_address _ _; pc1 = agrees.pc0; dc0 = agrees.dc0; dc1 = agrees.dc1 })
    (pick (romc == 0x0A) (record { pc0 = agrees.pc0; pc1 = agrees.pc1; dc0 = displaced_agrees _ _ _ _ agrees.dc0; dc1 = agrees.dc1 })
    (pick (romc == 0x0C || romc == 0x17) (record { pc0 = low_agrees _ _ _ _ agrees.pc0; pc1 = agrees.pc1; dc0 = agrees.dc0; dc1 = agrees.dc1 })
    (pick (romc == 0x0D) (record { pc0 = agrees.pc0; pc1 = next_agrees _ _ _ agrees.pc0; dc0 = agrees.dc0; dc1 = agrees.dc1 })
    (pick (romc == 0x0E || romc == 0x19) (record { pc0 = agrees.pc0; pc1 = agrees.pc1; dc0 = low_agrees _ _ _ _ agrees.dc0; dc1 = agrees.dc1 })
    (pick (romc == 0x0F || romc == 0x12) (record { pc0 = low_agrees _ _ _ _ agrees.pc0; pc1 = agrees.pc0; dc0 = agrees.dc0; dc1 = agrees.dc1 })
    (pick (romc == 0x11 || romc == 0x16) (record { pc0 = agrees.pc0; pc1 = agrees.pc1; dc0 = high_agrees _ _ _ _ agrees.dc0; dc1 = agrees.dc1 })
    (pick (romc == 0x13 || romc == 0x14) (record { pc0 = high_agrees _ _ _ _ agrees.pc0; pc1 = agrees.pc1; dc0 = agrees.dc0; dc1 = agrees.dc1 })
    (pick (romc == 0x15) (record { pc0 = agrees.pc0; pc1 = high_agrees _ _ _ _ agrees.pc1; dc0 = agrees.dc0; dc1 = agrees.dc1 })
    (pick (romc == 0x18) (record { pc0 = agrees.pc0; pc1 = low_agrees _ _ _ _ agrees.pc1; dc0 = agrees.dc0; dc1 = agrees.dc1 })
    (pick (romc == 0x1D) (exchanged is_parted second marks reference own parted agrees) agrees))))))))))))))
