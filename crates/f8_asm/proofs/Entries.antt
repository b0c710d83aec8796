-- The loop over the bytes that are listed.
use Rattle.std.proofs.Common.{◌≡◌, ℕ, zero, suc, ◌+◌, ◌-◌, ◌<◌, List, [], ◌∷◌, length, drop, take, refl, sym, ◌∙◌, ap, arith, add-zero}
use Rattle.std.proofs.lemmas.List.{take_rest}
use Rattle.f8_asm.specs.declared.pieces.Piece.{Piece}
use Rattle.f8_asm.specs.Listing.{piece, entries, with_entry, with_entries}

-- bytes of a statement already read only move the address
skipped : (k raw at : ℕ) (bs : List ℕ) → entries k raw at bs ≡ entries 0 raw (at + k) (drop k bs)
unfolding entries
skipped zero raw at bs = rw (add-zero at) refl
skipped (suc k) raw at [] = refl
skipped (suc k) raw at (b ∷ bs) = let next : at + 1 + k ≡ at + suc k = omega arith in skipped k raw (at + 1) bs ∙ ap (λ a. entries 0 raw a (drop k bs)) next

-- the statements written and those of the rest make the whole
pub record ListsOn (written : List ℕ) (raw at : ℕ) (rest whole : List ℕ) : Type 0 where
  pub is : with_entries written (entries 0 raw at rest) ≡ whole

module _ {written whole : List ℕ} {raw at : ℕ} where
  pub listed_all : ListsOn written raw at [] whole → written ≡ whole
  unfolding entries
  listed_all on = on.is

  pub listed_more : (b : ℕ) (bs : List ℕ) → 0 < (piece raw at b bs).length → ListsOn written raw at (b ∷ bs) whole →
      ListsOn (with_entry written (piece raw at b bs).entry) (piece raw at b bs).raw (at + (piece raw at b bs).length)
      (drop (piece raw at b bs).length (b ∷ bs)) whole
  unfolding entries
  listed_more b bs some on = goes (piece raw at b bs).length some refl
    where
      goes : (n : ℕ) → 0 < n → n ≡ (piece raw at b bs).length →
          ListsOn (with_entry written (piece raw at b bs).entry) (piece raw at b bs).raw (at + n)
          (drop n (b ∷ bs)) whole
      goes zero some is = absurd (omega arith)
      goes (suc k) some is =
          let less : (piece raw at b bs).length - 1 ≡ k = omega arith in
          let next : at + 1 + k ≡ at + suc k = omega arith in
          let rest : entries 0 (piece raw at b bs).raw (at + suc k) (drop k bs)
          ≡ entries ((piece raw at b bs).length - 1) (piece raw at b bs).raw (at + 1) bs =
          ap (λ a. entries 0 (piece raw at b bs).raw a (drop k bs)) (sym next)
          ∙ sym (skipped k (piece raw at b bs).raw (at + 1) bs)
          ∙ ap (λ n. entries n (piece raw at b bs).raw (at + 1) bs) (sym less) in
          record { is = ap (with_entries (with_entry written (piece raw at b bs).entry)) rest ∙ on.is }

  -- one turn of the loop
  pub listed_step : (p : Piece) (b : ℕ) (bs rest new : List ℕ) → p ≡ piece raw at b bs → rest ≡ b ∷ bs → 0 < p.length →
      new ≡ with_entry written p.entry → ListsOn written raw at rest whole →
      ListsOn new p.raw (at + p.length) (take (length rest - p.length) (drop p.length rest)) whole
  listed_step p b bs rest new is front some text on = rw (text, take_rest, front, is) (listed_more b bs (rw is at some) (rw front at on))
