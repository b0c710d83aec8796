-- Lists of bytes stay lists of bytes.
use Rattle.std.proofs.Common.{ℕ, zero, suc, ◌<◌, Bool, true, false, List, [], ◌∷◌, ◌++◌, get_or, take, drop, lit<}
use Rattle.std.specs.Prelude.{if◌then◌else◌, replicate, slice_set}
use Rattle.f8_spec.specs.ChipState.{filled_bytes, is_ram}
use Rattle.f8_spec.specs.declared.chips.Page.{Page}

-- every element is a byte
abbrev pub AreBytes : List ℕ → Type 0
AreBytes xs = (place : ℕ) → get_or xs place 0 < 256

pub set_bytes : (xs : List ℕ) (i byte : ℕ) → byte < 256 → AreBytes xs → AreBytes (slice_set xs i byte)
set_bytes [] i byte small bytes place = bytes place
set_bytes (x ∷ xs) zero byte small bytes zero = small
set_bytes (x ∷ xs) zero byte small bytes (suc place) = bytes (suc place)
set_bytes (x ∷ xs) (suc i) byte small bytes zero = bytes zero
set_bytes (x ∷ xs) (suc i) byte small bytes (suc place) = set_bytes xs i byte small (λ k. bytes (suc k)) place

append_bytes : (xs ys : List ℕ) → AreBytes xs → AreBytes ys → AreBytes (xs ++ ys)
append_bytes [] ys first later place = later place
append_bytes (x ∷ xs) ys first later zero = first zero
append_bytes (x ∷ xs) ys first later (suc place) = append_bytes xs ys (λ k. first (suc k)) later place

take_bytes : (n : ℕ) (xs : List ℕ) → AreBytes xs → AreBytes (take n xs)
take_bytes zero xs bytes place = lit< tt
take_bytes (suc n) [] bytes place = bytes place
take_bytes (suc n) (x ∷ xs) bytes zero = bytes zero
take_bytes (suc n) (x ∷ xs) bytes (suc place) = take_bytes n xs (λ k. bytes (suc k)) place

drop_bytes : (n : ℕ) (xs : List ℕ) → AreBytes xs → AreBytes (drop n xs)
drop_bytes zero xs bytes place = bytes place
drop_bytes (suc n) [] bytes place = bytes place
drop_bytes (suc n) (x ∷ xs) bytes place = drop_bytes n xs (λ k. bytes (suc k)) place

replicate_bytes : (n byte : ℕ) → byte < 256 → AreBytes (replicate n byte)
replicate_bytes zero byte small place = lit< tt
replicate_bytes (suc n) byte small zero = small
replicate_bytes (suc n) byte small (suc place) = replicate_bytes n byte small place

own_bytes : (ram : Bool) (fill n : ℕ) (bytes : List ℕ) → fill < 256 → AreBytes bytes →
    AreBytes (if ram then replicate n fill else take n bytes)
own_bytes true fill n bytes small are = replicate_bytes n fill small
own_bytes false fill n bytes small are = take_bytes n bytes are

-- those of a chip at power-on
pub filled_are_bytes : (fill : ℕ) (pages : List Page) (bytes : List ℕ) → fill < 256 → AreBytes bytes →
    AreBytes (filled_bytes fill pages bytes)
filled_are_bytes fill [] bytes small are = are
filled_are_bytes fill (p ∷ ps) bytes small are =
    append_bytes (if is_ram p.sort then replicate 256 fill else take 256 bytes) (filled_bytes fill ps (drop 256 bytes))
    (own_bytes (is_ram p.sort) fill 256 bytes small are)
    (filled_are_bytes fill ps (drop 256 bytes) small (drop_bytes 256 bytes are))
