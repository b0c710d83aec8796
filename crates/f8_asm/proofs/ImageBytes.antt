-- Which line's byte lies at an address of an image.
use Rattle.std.proofs.Common.{◌≡◌, ℕ, zero, suc, ◌+◌, ◌-◌, ◌<◌, Bool, true, false, List, [], ◌∷◌, ◌++◌, length}
use Rattle.std.proofs.Common.{length-set, get_or, set, drop, take, Option, Some, None, refl, sym, ap, ◌∙◌, arith, inl}
use Rattle.std.proofs.Common.{inr}
use Rattle.std.specs.Prelude.{◌==◌, not, if◌then◌else◌}
use Rattle.std.specs.List.{list_any}
use Rattle.std.proofs.lemmas.Bool.{cases_eq}
use Rattle.std.proofs.lemmas.Bool.Decides.{nat_tests}
use Rattle.std.proofs.lemmas.List.{get_or-set_same, get_or-set_other, get_or-take, get_or-drop}
use Rattle.f8_asm.specs.Image.{ascending, bytes_from}
use Rattle.f8_asm.specs.ImageLaw.{Standing, standing_bytes, byte_at, Apart}
use Rattle.f8_asm.specs.Marks.{marks_with, is_free}
use Rattle.f8_asm.specs.PassThree.{table_with}

-- ---- tests

same_test : (m n : ℕ) → m ≡ n → (m == n) ≡ true
same_test m n same = grind (arith, nat_tests)

other_test : (m n : ℕ) → (m ≡ n → ⊥) → (m == n) ≡ false
other_test m n other = grind (arith, nat_tests)

-- ---- the byte at an address

-- what is found first
abbrev pub first : Option ℕ → Option ℕ → Option ℕ
first None o = o
first (Some b) o = Some b

pick_first : (t : Bool) (b : ℕ) (o p q : Option ℕ) → o ≡ first p q → (if t then Some b else o) ≡ first (if t then Some b else p) q
pick_first true b o p q e = refl
pick_first false b o p q e = e

pub byte_at-append : (xs ys : List (ℕ × ℕ)) (a : ℕ) → byte_at (xs ++ ys) a ≡ first (byte_at xs a) (byte_at ys a)
byte_at-append [] ys a = refl
byte_at-append (x ∷ xs) ys a = pick_first (x.0 == a) x.1 _ _ _ (byte_at-append xs ys a)

-- no byte of a row lies elsewhere
pub outside : (at : ℕ) (bs : List ℕ) (a : ℕ) → ((k : ℕ) → k < length bs → at + k ≡ a → ⊥) → byte_at (bytes_from at bs) a ≡ None
outside at [] a far = refl
outside at (b ∷ bs) a far =
    let here = far 0 (omega arith) in
    let test = other_test at a (λ e. here (omega (arith, e))) in
    rw test (outside (at + 1) bs a (λ k within e. far (suc k) (omega arith) (omega (arith, e))))

-- a byte of a row lies in it
pub inside_of : (at : ℕ) (bs : List ℕ) (a b : ℕ) → byte_at (bytes_from at bs) a ≡ Some b → (k : ℕ) × (k < length bs) × (at + k ≡ a)
inside_of at [] a b found = cc
inside_of at (c ∷ cs) a b found =
    elim (cases_eq at a) [
      | inl same ↦ (0, omega arith, omega (arith, same))
      | inr other ↦ (let test = other_test at a other in
          let rest = inside_of (at + 1) cs a b (rw test at found) in
          (suc rest.0, (let within = rest.1 in omega (arith, within)), (let is = rest.2 in omega (arith, is))))
    ]

-- ---- bytes that are put

pub table_with-length : (table : List (Option ℕ)) (at : ℕ) (bs : List ℕ) → length (table_with table at bs) ≡ length table
table_with-length table at [] = refl
table_with-length table at (b ∷ bs) = table_with-length (set table at (Some b)) (at + 1) bs ∙ length-set table at (Some b)

first_none : (p q : Option ℕ) (b : ℕ) → p ≡ None → q ≡ Some b → first p q ≡ Some b
first_none p q b none some = rw (none, some) refl

pub written_at : (table : List (Option ℕ)) (at : ℕ) (bs : List ℕ) (a : ℕ) → ((k : ℕ) → k < length bs → at + k < length table)
    → get_or (table_with table at bs) a None ≡ first (byte_at (bytes_from at bs) a) (get_or table a None)
written_at table at [] a within = refl
written_at table at (b ∷ bs) a within =
    let size = length-set table at (Some b) in
    let here = within 0 (omega arith) in
    let behind = written_at (set table at (Some b)) (at + 1) bs a
    (λ k below. let next = within (suc k) (omega arith) in omega (arith, size, next)) in
    elim (cases_eq a at) [
      | inl same ↦ (let test = same_test at a (sym same) in
          let gone = outside (at + 1) bs a (λ k below e. omega (arith, e, same)) in
          let put : get_or (set table at (Some b)) a None ≡ Some b = rw same
          (get_or-set_same table at (Some b) None (omega (arith, here))) in
          rw test (behind ∙ first_none _ _ b gone put))
      | inr other ↦ (let test = other_test at a (λ e. other (sym e)) in
          rw test (behind ∙ ap (λ o. first (byte_at (bytes_from (at + 1) bs) a) o) (get_or-set_other table at a (Some b) None other)))
    ]

-- ---- the bytes of a table

low_none : (place a : ℕ) (table : List (Option ℕ)) → a < place → byte_at (ascending place table) a ≡ None
low_none place a [] low = refl
low_none place a (None ∷ table) low = low_none (place + 1) a table (omega arith)
low_none place a (Some b ∷ table) low = let test = other_test place a (λ e. omega (arith, e)) in rw test
    (low_none (place + 1) a table (omega arith))

pub ascending_at : (place i : ℕ) (table : List (Option ℕ)) → byte_at (ascending place table) (place + i) ≡ get_or table i None
ascending_at place i [] = refl
ascending_at place zero (None ∷ table) = low_none (place + 1) (place + 0) table (omega arith)
ascending_at place zero (Some b ∷ table) = let test = same_test place (place + 0) (omega arith) in rw test refl
ascending_at place (suc i) (None ∷ table) = let next : place + 1 + i ≡ place + suc i = omega arith in rw next at
    (ascending_at (place + 1) i table)
ascending_at place (suc i) (Some b ∷ table) =
    let next : place + 1 + i ≡ place + suc i = omega arith in
    let test = other_test place (place + suc i) (λ e. omega (arith, e)) in
    rw test (rw next at (ascending_at (place + 1) i table))

-- ---- lines

-- all lines' bytes put
abbrev pub all_written : List (Option ℕ) → List Standing → List (Option ℕ)
all_written table [] = table
all_written table (s ∷ ss) = all_written (table_with table s.address s.bytes) ss

-- every byte lies below this address
abbrev pub Below : ℕ → List Standing → Type 0
Below n [] = Unit {0}
Below n (s ∷ ss) = ((k : ℕ) → k < length s.bytes → s.address + k < n) × Below n ss

turned : (p q r : Option ℕ) → ((b : ℕ) → p ≡ Some b → q ≡ None) → first q (first p r) ≡ first (first p q) r
turned None q r clear = refl
turned (Some b) q r clear = rw (clear b refl) refl

pub all_written_at : (ss : List Standing) (n : ℕ) (table : List (Option ℕ)) (a : ℕ) → n ≡ length table → Apart ss → Below n ss
    → get_or (all_written table ss) a None ≡ first (byte_at (standing_bytes ss) a) (get_or table a None)
all_written_at [] n table a size apart below = refl
all_written_at (s ∷ ss) n table a size apart below =
    let put = written_at table s.address s.bytes a (λ k within. let fits = below.0 k within in omega (arith, size, fits)) in
    let behind = all_written_at ss n (table_with table s.address s.bytes) a
    (size ∙ sym (table_with-length table s.address s.bytes)) apart.1 below.1 in
    let clear : (b : ℕ) → byte_at (bytes_from s.address s.bytes) a ≡ Some b
    → byte_at (standing_bytes ss) a ≡ None = λ b found. let there = inside_of s.address s.bytes a b found in rw there.2 at
    (apart.0 there.0 there.1) in
    behind ∙ ap (λ o. first (byte_at (standing_bytes ss) a) o) put
    ∙ turned (byte_at (bytes_from s.address s.bytes) a) (byte_at (standing_bytes ss) a) (get_or table a None) clear
    ∙ ap (λ o. first o (get_or table a None)) (sym (byte_at-append (bytes_from s.address s.bytes) (standing_bytes ss) a))

-- ---- marks

none_at : (xs : List Bool) (k : ℕ) → list_any (λ m. m) xs ≡ false → get_or xs k false ≡ false
none_at [] k none = refl
none_at (true ∷ xs) k none = cc
none_at (false ∷ xs) zero none = refl
none_at (false ∷ xs) (suc k) none = none_at xs k none

not_any : (b : Bool) → not b ≡ true → b ≡ false
not_any true h = cc
not_any false h = refl

-- a free address isn't marked
pub free_at : (marks : List Bool) (at n k : ℕ) → is_free marks at n ≡ true → k < n → get_or marks (at + k) false ≡ false
free_at marks at n k free below =
    let none = none_at (take (at + n - at) (drop at marks)) k (not_any _ free) in
    sym (get_or-drop at marks k false) ∙ sym (get_or-take (at + n - at) (drop at marks) k false (omega arith)) ∙ none

pub marks_with-length : (marks : List Bool) (at n : ℕ) → length (marks_with marks at n) ≡ length marks
marks_with-length marks at zero = refl
marks_with-length marks at (suc n) = length-set (marks_with marks at n) (at + n) true ∙ marks_with-length marks at n

set_keeps : (marks : List Bool) (i a : ℕ) → get_or marks a false ≡ true → get_or (set marks i true) a false ≡ true
set_keeps [] i a is = cc
set_keeps (m ∷ ms) zero zero is = refl
set_keeps (m ∷ ms) zero (suc a) is = is
set_keeps (m ∷ ms) (suc i) zero is = is
set_keeps (m ∷ ms) (suc i) (suc a) is = set_keeps ms i a is

-- a mark stays
pub marked_keeps : (marks : List Bool) (at n a : ℕ) → get_or marks a false ≡ true → get_or (marks_with marks at n) a false ≡ true
marked_keeps marks at zero a is = is
marked_keeps marks at (suc n) a is = set_keeps (marks_with marks at n) (at + n) a (marked_keeps marks at n a is)

-- what is filled is marked
pub marked_at : (marks : List Bool) (at n k : ℕ) → k < n → at + k < length marks → get_or (marks_with marks at n) (at + k) false ≡ true
marked_at marks at zero k below within = absurd (omega arith)
marked_at marks at (suc n) k below within =
    elim (cases_eq k n) [
      | inl same ↦ (let size = marks_with-length marks at n in
          rw same (get_or-set_same (marks_with marks at n) (at + n) true false (omega (arith, size, same))))
      | inr other ↦ set_keeps (marks_with marks at n) (at + n) (at + k) (marked_at marks at n k (omega (arith, other)) within)
    ]
