-- The bytes of a list: where the loop over its items begins, goes on and ends.
use Rattle.std.proofs.Common.{◌≡◌, ℕ, ◌+◌, ◌<◌, ◌≤◌, List, [], ◌∷◌, ◌++◌, length, get_or, drop, map, Result, Ok, Err, refl}
use Rattle.std.proofs.Common.{sym, ◌∙◌, ap, add-one, append_assoc, append-nil, suc}
use Rattle.std.proofs.Math.Seq.{drop-cons}
use Rattle.std.proofs.lemmas.List.{drop_all}
use Rattle.text_lines.specs.declared.read_error.ReadError.{ReadError}
use Rattle.text_lines.specs.declared.read_error.ReadError.TheVariants as stop
use Rattle.f8_asm.specs.declared.faults.LineFault.{LineFault}
use Rattle.f8_asm.specs.declared.operands.Operand.{Operand}
use Rattle.f8_asm.specs.declared.values.Outcome.{Outcome}
use Rattle.f8_asm.specs.declared.words.ItemSize.{ItemSize}
use Rattle.f8_asm.specs.Answers.{◌>>=◌, SaysOfBytes}
use Rattle.f8_asm.specs.Bytes.{item_bytes, list_bytes}

-- the bytes so far, then those of the rest
abbrev pub after : List ℕ → Result (List ℕ) LineFault → Result (List ℕ) LineFault
after front (Ok bs) = Ok (front ++ bs)
after front (Err fault) = Err fault

after_more : (front item : List ℕ) (r : Result (List ℕ) LineFault) → after (front ++ item) r ≡ after front (r >>= λ rest. Ok (item ++ rest))
after_more front item (Ok bs) = ap Ok (append_assoc front item bs)
after_more front item (Err fault) = refl

-- the bytes found and those of the rest make the whole
pub record BytesOn (size : ItemSize) (front : List ℕ) (rest : List (Operand Outcome)) (whole : Result (List ℕ) LineFault) : Type 0 where
  pub is : after front (list_bytes size rest) ≡ whole

module _ {size : ItemSize} {front : List ℕ} {whole : Result (List ℕ) LineFault} where
  pub bytes_end : BytesOn size front [] whole → whole ≡ Ok front
  unfolding list_bytes
  bytes_end on = sym on.is ∙ ap Ok (append-nil front)

  pub bytes_more : {o : Operand Outcome} {os : List (Operand Outcome)} → BytesOn size front (o ∷ os) whole → (item : List ℕ) →
      item_bytes size o ≡ Ok item → BytesOn size (front ++ item) os whole
  unfolding list_bytes
  bytes_more {o} {os} on item is = record { is = after_more front item (list_bytes size os) ∙ rw (is, list_bytes) at on.is }

  pub bytes_stop : {o : Operand Outcome} {os : List (Operand Outcome)} → BytesOn size front (o ∷ os) whole → (fault : LineFault) →
      item_bytes size o ≡ Err fault → whole ≡ Err fault
  unfolding list_bytes
  bytes_stop {o} {os} on fault is = sym (rw (is, list_bytes) at on.is)

-- what is left of items begins with the next
cut : {A : Type 0} (os : List (Operand A)) (i : ℕ) (o : Operand A) → i < length os → o ≡ get_or os i o → drop i os ≡ o ∷ drop (i + 1) os
cut os i o within is = rw (add-one i, drop-cons os i o) (ap (λ q. q ∷ drop (suc i) os) (sym is))

module _ {A : Type 0} (value : Operand A → Operand Outcome) {size : ItemSize} {front : List ℕ} {whole : Result (List ℕ) LineFault} where
  -- the same, by the place of the item, of items that have these values
  pub more_at : (os : List (Operand A)) (i : ℕ) (o : Operand A) (item : List ℕ) → BytesOn size front (map value (drop i os)) whole → i < length os
      → o ≡ get_or os i o → item_bytes size (value o) ≡ Ok item → BytesOn size (front ++ item) (map value (drop (i + 1) os)) whole
  more_at os i o item on within at_i is = bytes_more (rw (cut os i o within at_i) at on) item is

  pub stop_at : (os : List (Operand A)) (i : ℕ) (o : Operand A) (e : ReadError LineFault) → BytesOn size front (map value (drop i os)) whole → i < length os
      → o ≡ get_or os i o → SaysOfBytes (Err e) (item_bytes size (value o)) → SaysOfBytes (Err e) whole
  stop_at os i o (stop.Fault fault) on within at_i is = bytes_stop (rw (cut os i o within at_i) at on) fault is
  stop_at os i o stop.Memory on within at_i is = tt

  pub end_at : (os : List (Operand A)) (i : ℕ) → BytesOn size front (map value (drop i os)) whole → length os ≤ i → whole ≡ Ok front
  end_at os i on past = bytes_end (rw (drop_all i os past) at on)
