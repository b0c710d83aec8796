-- A register that no write blurs is known alike after the writes where it was known alike before them.
use Rattle.std.proofs.Common.{◌≡◌, ℕ, zero, suc, ◌+◌, Bool, true, false, ◌&&◌, ◌||◌, List, [], ◌∷◌, map, refl, inl, inr, arith}
use Rattle.std.specs.Prelude.{Option, Some, None, is_some, is_none, not, slice_get, slice_index_or, option_and_then}
use Rattle.std.specs.List.{AllZip, AllByRecursion, list_any, range_with_len}
use Rattle.abs_domain.specs.Lattice.{Below}
use Rattle.abs_domain.specs.AbstractState.{KnownRegisters}
use Rattle.abs_step.specs.RegisterWrites.{known_register, Target, RegisterWrite, target_allows}
use Rattle.abs_step.specs.RegisterWrites.{is_exact, written_to, written_from, written_all}
use Rattle.abs_step.specs.Safety.{blurs, any_blurred}
use Rattle.abs_step.specs.Successors.{tracked_byte, tracked_bytes}
use Rattle.abs_step.proofs.Knowing.{known_of, Implies, left_of, right_of, both_of, known_below}
use Rattle.abs_step.proofs.Members.{IsIn, none_of_any, from_all}
use Rattle.abs_step.proofs.Scratchpads.{TargetBelow, WriteBelow, allows_below, written_from_below}

-- ---- one write

exact_below : (t u : Target) → TargetBelow t u → Implies (is_exact u) (is_exact t)
exact_below t u p exact = both_of _ _
    (known_below t.high u.high p.high (left_of _ _ exact)) (known_below t.low u.low p.low (right_of _ _ exact))

same_digit : (x y : Option ℕ) → Below x y → is_some y ≡ true → x ≡ y
same_digit x None p known = absurd (cc)
same_digit x (Some y) p known = p

same_target : (t u : Target) → TargetBelow t u → is_exact u ≡ true → t ≡ u
same_target t u p exact =
    let high : t.high ≡ u.high = same_digit t.high u.high p.high (left_of _ _ exact) in
    let low : t.low ≡ u.low = same_digit t.low u.low p.low (right_of _ _ exact) in
    λ i. record { high = high i; low = low i }

clear_of : (allows none exact : Bool) → (allows && (none || not exact)) ≡ false → allows ≡ true → (none ≡ false) × (exact ≡ true)
clear_of true true exact e a = absurd (cc)
clear_of true false true e a = (refl, refl)
clear_of true false false e a = absurd (cc)
clear_of false none exact e a = absurd (cc)

-- a register that the upper write doesn't blur
same_written : (v w : RegisterWrite) (r : ℕ) (old older : Option ℕ) → WriteBelow v w → old ≡ older → blurs w r ≡ false →
    written_to v r old ≡ written_to w r older
same_written v w r old older p same clear = by (target_allows w.target r) refl
  where
    no_lower : target_allows w.target r ≡ false → (b : Bool) → target_allows v.target r ≡ b → b ≡ false
    no_lower upper true e = absurd (cc (allows_below v.target w.target r p.target e))
    no_lower upper false e = refl

    by : (a : Bool) → target_allows w.target r ≡ a → written_to v r old ≡ written_to w r older
    by false upper = rw (upper, no_lower upper (target_allows v.target r) refl) same
    by true upper =
        let both = clear_of (target_allows w.target r) (is_none w.value) (is_exact w.target) clear upper in
        let target : v.target ≡ w.target = same_target v.target w.target p.target both.1 in
        let value : v.value ≡ w.value = same_digit v.value w.value p.value (known_of w.value both.0) in
        rw (target, upper, both.1) value

same_from : (r n k : ℕ) (v w : RegisterWrite) (xs ys : List (Option ℕ)) → r ≡ n + k → WriteBelow v w → AllZip Below xs ys →
    slice_index_or xs k None ≡ slice_index_or ys k None → blurs w r ≡ false →
    slice_index_or (written_from n v xs) k None ≡ slice_index_or (written_from n w ys) k None
same_from r n k v w [] [] at p h same clear = refl
same_from r n k v w [] (y ∷ ys) at p h same clear = absurd h
same_from r n k v w (x ∷ xs) [] at p h same clear = absurd h
same_from r n zero v w (x ∷ xs) (y ∷ ys) at p h same clear =
    let here : r ≡ n = omega arith in
    same_written v w n x y p same (rw here at clear)
same_from r n (suc k) v w (x ∷ xs) (y ∷ ys) at p h same clear = same_from r (n + 1) k v w xs ys (omega arith) p h.1 same clear

-- ---- all of them

same_all : (r : ℕ) (vs ws : List RegisterWrite) (xs ys : List (Option ℕ)) → AllZip WriteBelow vs ws → AllZip Below xs ys →
    slice_index_or xs r None ≡ slice_index_or ys r None → AllByRecursion (λ (w : RegisterWrite). blurs w r ≡ false) ws →
    slice_index_or (written_all vs xs) r None ≡ slice_index_or (written_all ws ys) r None
same_all r [] [] xs ys p h same clear = same
same_all r [] (w ∷ ws) xs ys p h same clear = absurd p
same_all r (v ∷ vs) [] xs ys p h same clear = absurd p
same_all r (v ∷ vs) (w ∷ ws) xs ys p h same clear =
    same_all r vs ws (written_from 0 v xs) (written_from 0 w ys) p.1 (written_from_below 0 v w xs ys p.0 h)
    (same_from r 0 r v w xs ys (omega arith) p.0 h same clear.0) clear.1

-- ---- the bytes of tracked registers

is_in_at : (xs : List ℕ) (k x : ℕ) → slice_get xs k ≡ Some x → IsIn x xs
is_in_at [] k x e = absurd (cc)
is_in_at (y ∷ ys) zero x e = inl (cc)
is_in_at (y ∷ ys) (suc k) x e = inr (is_in_at ys k x e)

maps_same : (f g h l : ℕ → Option ℕ) (xs : List ℕ) → ((x : ℕ) → f x ≡ g x → h x ≡ l x) → map f xs ≡ map g xs → map h xs ≡ map l xs
maps_same f g h l [] each e = refl
maps_same f g h l (x ∷ xs) each e =
    let first : f x ≡ g x = cc in
    let later : map f xs ≡ map g xs = cc in
    rw (each x first, maps_same f g h l xs each later) refl

module _ (tracked : List ℕ) (j k j2 k2 : KnownRegisters) (each : (r : ℕ) → IsIn r tracked → known_register r j ≡ known_register r k →
    known_register r j2 ≡ known_register r k2) where
  one_place : (place : ℕ) → tracked_byte tracked j place ≡ tracked_byte tracked k place →
      tracked_byte tracked j2 place ≡ tracked_byte tracked k2 place
  one_place place same = by (slice_get tracked place) refl same
    where
      by : (o : Option ℕ) → slice_get tracked place ≡ o →
          option_and_then (λ number. known_register number j) o ≡ option_and_then (λ number. known_register number k) o →
          option_and_then (λ number. known_register number j2) (slice_get tracked place)
          ≡ option_and_then (λ number. known_register number k2) (slice_get tracked place)
      by None e h = rw e refl
      by (Some r) e h = rw e (each r (is_in_at tracked place r e) h)

  pub tracked_same : tracked_bytes tracked j ≡ tracked_bytes tracked k → tracked_bytes tracked j2 ≡ tracked_bytes tracked k2
  tracked_same same = maps_same (tracked_byte tracked j) (tracked_byte tracked k) (tracked_byte tracked j2) (tracked_byte tracked k2)
      (range_with_len 0 8) one_place same

pub tracked_after : (tracked : List ℕ) (j k : KnownRegisters) (vs ws : List RegisterWrite) → AllZip WriteBelow vs ws →
    AllZip Below j.scratchpad k.scratchpad → any_blurred ws tracked ≡ false → tracked_bytes tracked j ≡ tracked_bytes tracked k →
    tracked_bytes tracked (record j { scratchpad = written_all vs j.scratchpad })
    ≡ tracked_bytes tracked (record k { scratchpad = written_all ws k.scratchpad })
tracked_after tracked j k vs ws p h clear same = tracked_same tracked j k
    (record j { scratchpad = written_all vs j.scratchpad }) (record k { scratchpad = written_all ws k.scratchpad })
    (λ r is alike. same_all r vs ws j.scratchpad k.scratchpad p h alike
    (none_of_any (λ (w : RegisterWrite). blurs w r) ws
    (from_all (λ (n : ℕ). list_any (λ (w : RegisterWrite). blurs w n) ws ≡ false) tracked r
    (none_of_any (λ (n : ℕ). list_any (λ (w : RegisterWrite). blurs w n) ws) tracked clear) is))) same

-- ---- the test keeps the order

none_of : (o : Option ℕ) → is_some o ≡ true → is_none o ≡ false
none_of None e = absurd (cc)
none_of (Some x) e = refl

unblurred : (none exact : Bool) → none ≡ false → exact ≡ true → (none || not exact) ≡ true → ⊥
unblurred true exact p q e = cc
unblurred false true p q e = cc
unblurred false false p q e = cc

pub blurs_below : (v w : RegisterWrite) (r : ℕ) → WriteBelow v w → blurs w r ≡ false → blurs v r ≡ false
blurs_below v w r p clear = by (blurs v r) refl
  where
    by : (b : Bool) → blurs v r ≡ b → b ≡ false
    by false e = refl
    by true e =
        let allowed : target_allows w.target r ≡ true = allows_below v.target w.target r p.target (left_of _ _ e) in
        let both = clear_of (target_allows w.target r) (is_none w.value) (is_exact w.target) clear allowed in
        let exact : is_exact v.target ≡ true = exact_below v.target w.target p.target both.1 in
        let value : is_some v.value ≡ true = known_below v.value w.value p.value (known_of w.value both.0) in
        absurd (unblurred (is_none v.value) (is_exact v.target) (none_of v.value value) exact (right_of _ _ e))

any_clear : (vs ws : List RegisterWrite) (r : ℕ) → AllZip WriteBelow vs ws → list_any (λ w. blurs w r) ws ≡ false →
    list_any (λ v. blurs v r) vs ≡ false
any_clear [] [] r p clear = refl
any_clear [] (w ∷ ws) r p clear = absurd p
any_clear (v ∷ vs) [] r p clear = absurd p
any_clear (v ∷ vs) (w ∷ ws) r p clear =
    let parts = none_of_any (λ (x : RegisterWrite). blurs x r) (w ∷ ws) clear in
    rw (blurs_below v w r p.0 parts.0) (any_clear vs ws r p.1 (rest (blurs w r) clear))
  where
    rest : (b : Bool) → (b || list_any (λ x. blurs x r) ws) ≡ false → list_any (λ x. blurs x r) ws ≡ false
    rest true e = absurd (cc)
    rest false e = e

pub blurred_below : (vs ws : List RegisterWrite) (tracked : List ℕ) → AllZip WriteBelow vs ws → any_blurred ws tracked ≡ false →
    any_blurred vs tracked ≡ false
blurred_below vs ws [] p clear = refl
blurred_below vs ws (r ∷ rs) p clear =
    let parts = none_of_any (λ (n : ℕ). list_any (λ (w : RegisterWrite). blurs w n) ws) (r ∷ rs) clear in
    rw (any_clear vs ws r p parts.0) (blurred_below vs ws rs p (rest (list_any (λ w. blurs w r) ws) clear))
  where
    rest : (b : Bool) → (b || any_blurred ws rs) ≡ false → any_blurred ws rs ≡ false
    rest true e = absurd (cc)
    rest false e = e
