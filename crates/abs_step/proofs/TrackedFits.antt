-- Points have what their states know of the tracked registers.
use Rattle.std.proofs.Common.{◌≡◌, ℕ, zero, suc, ◌+◌, Bool, true, false, List, []}
use Rattle.std.proofs.Common.{◌∷◌, length, map, replicate, refl, sym, ◌∙◌, subst, arith}
use Rattle.std.specs.Prelude.{Option, Some, None, slice_get, slice_index_or, option_and_then, if◌then◌else◌, ◌==◌, flat_map}
use Rattle.std.specs.List.{AllByRecursion, range_with_len}
use Rattle.std.proofs.lemmas.Bool.Decides.{nat_tests}
use Rattle.f8_spec.specs.declared.instructions.Op.{Op}
use Rattle.abs_domain.specs.Lattice.{common, common_each, same_number}
use Rattle.abs_domain.specs.AbstractState.{AbstractState, HasScratchpad}
use Rattle.abs_domain.specs.Joins.{joined_state}
use Rattle.abs_domain.specs.declared.points.Point.{Point}
use Rattle.abs_domain.proofs.Bounds.{join_laws}
use Rattle.abs_step.specs.RegisterWrites.{known_register}
use Rattle.abs_step.specs.declared.exits.Exit.{Exit}
use Rattle.abs_step.specs.MapView.{MapView}
use Rattle.abs_step.specs.Successors.{Invariant, HasTrackedBytes, tracked_byte, tracked_bytes, start_state}
use Rattle.abs_step.specs.Successors.{start_invariant, state_after, exits_of, along}
use Rattle.abs_step.specs.Successors.{all_along, same_point, with_invariant, with_invariants, successors}
use Rattle.abs_step.specs.FitLaws.{FitLaw}
use Rattle.abs_step.proofs.Covering.{all_flat, along_holds, same_by, pad_after}

-- ---- the start

none_at : (n k : ℕ) → slice_index_or {A = Option ℕ} (replicate n None) k None ≡ None
none_at zero k = refl
none_at (suc n) zero = refl
none_at (suc n) (suc k) = none_at n k

nothing_tracked : (tracked : List ℕ) (place : ℕ) → tracked_byte tracked start_state.registers place ≡ None
nothing_tracked tracked place = by (slice_get tracked place)
  where
    by : (o : Option ℕ) → option_and_then (λ number. known_register number start_state.registers) o ≡ None
    by None = refl
    by (Some number) = none_at 64 number

all_none : (f : ℕ → Option ℕ) (a n : ℕ) → ((x : ℕ) → f x ≡ None) → replicate n None ≡ map f (range_with_len a n)
all_none f a zero each = refl
all_none f a (suc n) each = rw (each a, sym (all_none f (a + 1) n each)) refl

start_fits : (tracked : List ℕ) → HasTrackedBytes tracked start_invariant
start_fits tracked = all_none (tracked_byte tracked start_state.registers) 0 8 (nothing_tracked tracked)

-- ---- joins

pub common_itself : (o : Option ℕ) → common same_number o o ≡ o
common_itself None = refl
common_itself (Some x) = let same : (x == x) ≡ true = grind (arith, nat_tests) in rw same refl

common_at : (xs ys : List (Option ℕ)) (k : ℕ) → length xs ≡ length ys → slice_index_or xs k None ≡ slice_index_or ys k None →
    slice_index_or (common_each same_number xs ys) k None ≡ slice_index_or xs k None
common_at [] ys k long same = refl
common_at (x ∷ xs) [] k long same = absurd (omega arith)
common_at (x ∷ xs) (y ∷ ys) zero long same = rw (sym same) (common_itself x)
common_at (x ∷ xs) (y ∷ ys) (suc k) long same = common_at xs ys k (omega arith) same

joined_bytes : (f g h : ℕ → Option ℕ) (xs : List ℕ) → ((x : ℕ) → f x ≡ g x → h x ≡ f x) → map f xs ≡ map g xs → map h xs ≡ map f xs
joined_bytes f g h [] each e = refl
joined_bytes f g h (x ∷ xs) each e =
    let first : f x ≡ g x = cc in
    let later : map f xs ≡ map g xs = cc in
    rw (each x first, joined_bytes f g h xs each later) refl

joined_byte : (tracked : List ℕ) (s t : AbstractState) (place : ℕ) → HasScratchpad s → HasScratchpad t →
    tracked_byte tracked s.registers place ≡ tracked_byte tracked t.registers place →
    tracked_byte tracked (joined_state s t).registers place ≡ tracked_byte tracked s.registers place
joined_byte tracked s t place whole full same = by (slice_get tracked place) same
  where
    by : (o : Option ℕ) → option_and_then (λ n. known_register n s.registers) o ≡ option_and_then (λ n. known_register n t.registers) o →
        option_and_then (λ n. known_register n (joined_state s t).registers) o ≡ option_and_then (λ n. known_register n s.registers) o
    by None e = refl
    by (Some n) e = common_at s.registers.scratchpad t.registers.scratchpad n (whole ∙ sym full) e

joined_fits : (tracked : List ℕ) (p : Point) (s t : AbstractState) → HasScratchpad s → HasScratchpad t →
    HasTrackedBytes tracked (record { point = p; state = s }) → HasTrackedBytes tracked (record { point = p; state = t }) →
    HasTrackedBytes tracked (record { point = p; state = joined_state s t })
joined_fits tracked p s t whole full first second =
    let same : tracked_bytes tracked s.registers ≡ tracked_bytes tracked t.registers = sym first ∙ second in
    first ∙ sym (joined_bytes (tracked_byte tracked s.registers) (tracked_byte tracked t.registers)
    (tracked_byte tracked (joined_state s t).registers)
    (range_with_len 0 8) (λ place e. joined_byte tracked s t place whole full e) same)

-- ---- what holds next

abbrev IsWhole : List ℕ → Invariant → Type 0
IsWhole tracked y = HasTrackedBytes tracked y × HasScratchpad y.state

with_fits : (tracked : List ℕ) (x : Invariant) (done : List Invariant) → IsWhole tracked x → AllByRecursion (IsWhole tracked) done →
    AllByRecursion (IsWhole tracked) (with_invariant x done)
with_fits tracked x [] h all = (h, tt)
with_fits tracked x (d ∷ ds) h all = by (same_point x.point d.point) refl (with_fits tracked x ds h all.1)
  where
    by : (b : Bool) → same_point x.point d.point ≡ b → AllByRecursion (IsWhole tracked) (with_invariant x ds) →
        AllByRecursion (IsWhole tracked) (if b then record d { state = joined_state d.state x.state } ∷ ds else d ∷ with_invariant x ds)
    by true e rest =
        let same : x.point ≡ d.point = same_by x.point d.point _ refl e in
        let other : HasTrackedBytes tracked (record { point = d.point; state = x.state }) =
        subst (λ (p : Point). HasTrackedBytes tracked (record { point = p; state = x.state })) same h.0 in
        ((joined_fits tracked d.point d.state x.state all.0.1 h.1 all.0.0 other, join_laws.scratchpad d.state x.state all.0.1 h.1), all.1)
    by false e rest = (all.0, rest)

all_fits : (tracked : List ℕ) (xs done : List Invariant) → AllByRecursion (IsWhole tracked) xs → AllByRecursion (IsWhole tracked) done →
    AllByRecursion (IsWhole tracked) (with_invariants xs done)
all_fits tracked [] done more all = all
all_fits tracked (x ∷ xs) done more all = all_fits tracked xs (with_invariant x done) more.1 (with_fits tracked x done more.0 all)

along_fits : (tracked vectors : List ℕ) (s : AbstractState) (es : List Exit) → HasScratchpad s →
    AllByRecursion (IsWhole tracked) (flat_map (along tracked vectors s) es)
along_fits tracked vectors s es pad = all_flat (IsWhole tracked) (along tracked vectors s) es (by es)
  where
    by : (fs : List Exit) → AllByRecursion (λ f. AllByRecursion (IsWhole tracked) (along tracked vectors s f)) fs
    by [] = tt
    by (f ∷ fs) = (along_holds (IsWhole tracked) tracked vectors s f (refl, pad) (λ timer vector. (refl, pad)), by fs)

successors_fit : (op : Op) (m : MapView) (tracked : List ℕ) (x : Invariant) → HasScratchpad x.state →
    AllByRecursion (IsWhole tracked) (successors op m tracked x)
unfolding successors
successors_fit op m tracked x pad =
    all_fits tracked (all_along op m tracked x) [] (along_fits tracked _ (state_after op m x) (exits_of op m x) (pad_after op m x pad)) tt

pub fits : FitLaw
fits = record { start = start_fits; joined = joined_fits; successors = successors_fit }
