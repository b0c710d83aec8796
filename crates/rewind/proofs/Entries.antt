-- The entries that marks stand for: taken apart, put together and counted.
use Rattle.std.proofs.Common.{◌≡◌, ℕ, zero, suc, ◌+◌, ◌-◌, ◌≤◌, List, [], ◌∷◌, ◌++◌, length, append_assoc, refl, sym}
use Rattle.std.proofs.Common.{ap, ◌∙◌, arith}
use Rattle.std.specs.Prelude.{replicate}
use Rattle.rewind.specs.LogEntries.{events_in, instructions_in}
use Rattle.rewind.specs.LogView.{AreInOrder, entries}
use Rattle.rewind.specs.declared.entry.Entry.{Entry}
use Rattle.rewind.specs.declared.entry.Entry.TheVariants.{Happens, Instruction}
use Rattle.rewind.specs.declared.log.Mark.{Mark}

-- ---- instructions alone

-- n instructions, taken apart
replicate-add : (m n k : ℕ) → m + n ≡ k → replicate k Instruction ≡ replicate m Instruction ++ replicate n Instruction
replicate-add zero n k e = ap (λ (i : ℕ). replicate i Instruction) (omega arith)
replicate-add (suc m) n zero e = absurd (omega arith)
replicate-add (suc m) n (suc k) e = ap (λ (es : List Entry). Instruction ∷ es) (replicate-add m n k (omega arith))

-- ---- order

pub order_least : (ms : List Mark) (from to : ℕ) → AreInOrder ms from to → from ≤ to
order_least [] from to order = order
order_least (m ∷ ms) from to order =
    let later : m.after ≤ to = order_least ms m.after to order.1 in
    let first : from ≤ m.after = order.0 in
    omega arith

pub order-append : (a b : List Mark) (from mid to : ℕ) → AreInOrder a from mid → AreInOrder b mid to → AreInOrder (a ++ b) from to
order-append [] [] from mid to first later = omega arith
order-append [] (m ∷ ms) from mid to first later = (let next : mid ≤ m.after = later.0 in omega arith, later.1)
order-append (m ∷ ms) b from mid to first later = (first.0, order-append ms b m.after mid to first.1 later)

-- ---- the entries

-- a number in between, before which there is no mark
entries-from : (b : List Mark) (from mid to : ℕ) → from ≤ mid → AreInOrder b mid to →
    entries b from to ≡ replicate (mid - from) Instruction ++ entries b mid to
entries-from [] from mid to below order = replicate-add (mid - from) (to - mid) (to - from) (omega arith)
entries-from (m ∷ ms) from mid to below order =
    let next : mid ≤ m.after = order.0 in
    ap (λ (es : List Entry). es ++ Happens m.event ∷ entries ms m.after to)
    (replicate-add (mid - from) (m.after - mid) (m.after - from) (omega arith))
    ∙ append_assoc (replicate (mid - from) Instruction) (replicate (m.after - mid) Instruction) (Happens m.event ∷ entries ms m.after to)

-- marks up to a number, and those from it on
pub entries-append : (a b : List Mark) (from mid to : ℕ) → AreInOrder a from mid → AreInOrder b mid to →
    entries (a ++ b) from to ≡ entries a from mid ++ entries b mid to
entries-append [] b from mid to first later = entries-from b from mid to first later
entries-append (m ∷ ms) b from mid to first later =
    ap (λ (es : List Entry). replicate (m.after - from) Instruction ++ Happens m.event ∷ es)
    (entries-append ms b m.after mid to first.1 later)
    ∙ sym (append_assoc (replicate (m.after - from) Instruction) (Happens m.event ∷ entries ms m.after mid) (entries b mid to))

-- ---- counts

pub instructions-append : (a b : List Entry) → instructions_in (a ++ b) ≡ instructions_in a + instructions_in b
instructions-append [] b = omega arith
instructions-append (Happens event ∷ a) b = instructions-append a b
instructions-append (Instruction ∷ a) b = let rest = instructions-append a b in omega arith

events-append : (a b : List Entry) → events_in (a ++ b) ≡ events_in a + events_in b
events-append [] b = omega arith
events-append (Happens event ∷ a) b = let rest = events-append a b in omega arith
events-append (Instruction ∷ a) b = events-append a b

instructions-replicate : (n : ℕ) → instructions_in (replicate n Instruction) ≡ n
instructions-replicate zero = refl
instructions-replicate (suc n) = let rest = instructions-replicate n in omega arith

events-replicate : (n : ℕ) → events_in (replicate n Instruction) ≡ 0
events-replicate zero = refl
events-replicate (suc n) = events-replicate n

pub instructions-entries : (ms : List Mark) (from to : ℕ) → AreInOrder ms from to → instructions_in (entries ms from to) + from ≡ to
instructions-entries [] from to order = let all = instructions-replicate (to - from) in omega arith
instructions-entries (m ∷ ms) from to order =
    let first : from ≤ m.after = order.0 in
    let own = instructions-replicate (m.after - from) in
    let rest = instructions-entries ms m.after to order.1 in
    let all = instructions-append (replicate (m.after - from) Instruction) (Happens m.event ∷ entries ms m.after to) in
    omega arith

pub events-entries : (ms : List Mark) (from to : ℕ) → events_in (entries ms from to) ≡ length ms
events-entries [] from to = events-replicate (to - from)
events-entries (m ∷ ms) from to =
    let own = events-replicate (m.after - from) in
    let rest = events-entries ms m.after to in
    let all = events-append (replicate (m.after - from) Instruction) (Happens m.event ∷ entries ms m.after to) in
    omega arith
