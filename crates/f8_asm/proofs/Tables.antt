-- The byte of each address. The list is long, so it's never written out.
use Rattle.std.proofs.Common.{◌≡◌, ℕ, zero, suc, ◌+◌, ◌<◌, List, [], ◌∷◌, ◌++◌, length, get_or, set, drop, replicate}
use Rattle.std.proofs.Common.{Option, Some, None, refl, sym, ◌∙◌, ap, arith, add-one}
use Rattle.std.proofs.Math.Seq.{drop-cons}
use Rattle.std.proofs.lemmas.List.{length-replicate}
use Rattle.f8_asm.specs.PassThree.{no_bytes, table_with}
use Rattle.f8_asm.specs.Image.{ascending}

pub are_no_bytes : (n : ℕ) (table : List (Option ℕ)) → n ≡ 65536 → table ≡ replicate n None → table ≡ no_bytes 65536
unfolding no_bytes
are_no_bytes n table same is = is ∙ ap (λ k. replicate k None) same

-- one slot more
pub slot_more : (n : ℕ) (slot : Option ℕ) → replicate n slot ++ slot ∷ [] ≡ replicate (n + 1) slot
slot_more n slot = push n ∙ ap (λ k. replicate k slot) (sym (add-one n))
  where
    push : (n : ℕ) → replicate n slot ++ slot ∷ [] ≡ replicate (suc n) slot
    push zero = refl
    push (suc n) = ap (λ r. slot ∷ r) (push n)

pub all_addresses : (n : ℕ) (table : List (Option ℕ)) → n ≡ 65536 → table ≡ replicate n None → length table ≡ 65536
all_addresses n table same is = ap length is ∙ length-replicate n None ∙ same

-- a byte more is put
pub record WrittenOn (table : List (Option ℕ)) (at : ℕ) (rest : List ℕ) (whole : List (Option ℕ)) : Type 0 where
  pub is : table_with table at rest ≡ whole

pub written_more : (table : List (Option ℕ)) (at k : ℕ) (bytes : List ℕ) (whole : List (Option ℕ)) →
    WrittenOn table (at + k) (drop k bytes) whole → k < length bytes →
    WrittenOn (set table (at + k) (Some (get_or bytes k 0))) (at + (k + 1)) (drop (k + 1) bytes) whole
written_more table at k bytes whole on within =
    let next : at + (k + 1) ≡ at + k + 1 = omega arith in
    record { is = rw next (rw (drop-cons bytes k 0, ← add-one k) at on.is) }

-- the bytes so far, then those of the addresses from here on
pub record AscendingOn (front : List (ℕ × ℕ)) (at : ℕ) (rest : List (Option ℕ)) (whole : List (ℕ × ℕ)) : Type 0 where
  pub is : front ++ ascending at rest ≡ whole
