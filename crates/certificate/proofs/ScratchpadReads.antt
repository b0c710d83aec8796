-- What the scratchpad has in the tracked registers, place by place.
use Rattle.std.proofs.Common.{◌≡◌, ℕ, zero, suc, ◌+◌, ◌-◌, ◌<◌, ◌≤◌, Bool, true, false, ◌&&◌, List, [], ◌∷◌, length, map, get_or, refl, sym}
use Rattle.std.proofs.Common.{ap, ◌∙◌, arith}
use Rattle.std.specs.Prelude.{Option, Some, None, slice_get, slice_index_or, option_and_then, nat_eq, not}
use Rattle.std.specs.List.{list_all, range_with_len}
use Rattle.std.specs.Option.{option_eq}
use Rattle.abs_domain.specs.KnownParts.{known_byte}
use Rattle.abs_domain.specs.declared.values.Val.{Val}
use Rattle.abs_domain.specs.declared.values.Val.TheVariants.{Known, Any}
use Rattle.abs_domain.specs.declared.state.Abs.{Abs}
use Rattle.abs_domain.specs.StateView.{registers_of}
use Rattle.abs_step.specs.RegisterWrites.{known_register}
use Rattle.abs_step.specs.Successors.{tracked_byte}

-- a test of each number from one on, below another
abbrev pub passes_from : (ℕ → Bool) → ℕ → ℕ → Bool
passes_from test from size = list_all test (range_with_len from (size - from))

module _ (test : ℕ → Bool) (from size : ℕ) (within : from < size) where
  one_more : size - from ≡ suc (size - (from + 1))
  one_more = omega arith

  opened : passes_from test from size ≡ (test from && passes_from test (from + 1) size)
  opened = ap (λ n. list_all test (range_with_len from n)) one_more

  pub next_passes : test from ≡ true → passes_from test from size ≡ passes_from test (from + 1) size
  next_passes passed = opened ∙ rw passed refl

  pub next_fails : test from ≡ false → passes_from test from size ≡ false
  next_fails failed = opened ∙ rw failed refl

pub passes_at_start : (test : ℕ → Bool) (size : ℕ) → passes_from test 0 size ≡ list_all test (range_with_len 0 size)
passes_at_start test size = let all : size - 0 ≡ size = omega arith in ap (λ n. list_all test (range_with_len 0 n)) all

pub passes_at_end : (test : ℕ → Bool) (from size : ℕ) → size ≤ from → passes_from test from size ≡ true
passes_at_end test from size past = let none : size - from ≡ 0 = omega arith in rw none refl

pub known_at : (registers : List Val) (n : ℕ) (d : Val) → n < length registers →
    slice_index_or (map known_byte registers) n None ≡ known_byte (slice_index_or registers n d)
known_at [] n d within = absurd (omega arith)
known_at (r ∷ rs) zero d within = refl
known_at (r ∷ rs) (suc n) d within = known_at rs n d (omega arith)

-- registers that have these bytes, one by one
pub each_known : (registers : List Val) (bytes : List (Option ℕ)) → length registers ≡ length bytes →
    ((k : ℕ) → k < length registers → known_byte (get_or registers k Any) ≡ get_or bytes k None) → map known_byte registers ≡ bytes
each_known [] [] long each = refl
each_known [] (b ∷ bytes) long each = absurd (omega arith)
each_known (r ∷ rs) [] long each = absurd (omega arith)
each_known (r ∷ rs) (b ∷ bytes) long each =
    let first : known_byte r ≡ b = each 0 (omega arith) in
    rw (first, each_known rs bytes (omega arith) (λ k small. each (suc k) (omega arith))) refl

-- ---- tracked registers

found_at : (xs : List ℕ) (k : ℕ) → k < length xs → slice_get xs k ≡ Some (get_or xs k 0)
found_at [] k within = absurd (omega arith)
found_at (x ∷ xs) zero within = refl
found_at (x ∷ xs) (suc k) within = found_at xs k (omega arith)

module _ (tracked : List ℕ) (split : List (Option ℕ)) (s : Abs) (place n : ℕ) (within : place < length tracked)
    (names : n ≡ get_or tracked place 0) (small : n < length s.regs) where
  tracked_at : tracked_byte tracked (registers_of s) place ≡ known_byte (get_or s.regs n (Known 0))
  tracked_at =
      ap (option_and_then (λ number. known_register number (registers_of s))) (found_at tracked place within)
      ∙ ap (λ number. known_register number (registers_of s)) (sym names) ∙ known_at s.regs n (Known 0) small

  -- the test of a place is that of the byte which the code reads
  pub place_as : (byte : Option ℕ) → byte ≡ known_byte (get_or s.regs n (Known 0)) →
      option_eq nat_eq (tracked_byte tracked (registers_of s) place) (slice_index_or split place None)
      ≡ option_eq nat_eq byte (slice_index_or split place None)
  place_as byte read = rw (tracked_at, ← read) refl

pub not_true : (b : Bool) → true ≡ not b → b ≡ false
not_true true e = absurd (cc)
not_true false e = refl

pub not_false : (b : Bool) → false ≡ not b → b ≡ true
not_false true e = refl
not_false false e = absurd (cc)
