-- The bytes of a list with what linking puts into them: where the loop over its items begins, goes on and ends.
use Rattle.std.proofs.Common.{◌≡◌, ℕ, ◌+◌, ◌*◌, ◌<◌, ◌≤◌, List, [], ◌∷◌, ◌++◌, length, get_or, drop, map, Result, Ok, Err, refl}
use Rattle.std.proofs.Common.{sym, ◌∙◌, ap, add-one, append_assoc, append-nil, length-append, suc, arith}
use Rattle.std.proofs.Math.Seq.{drop-cons}
use Rattle.std.proofs.lemmas.List.{drop_all}
use Rattle.text_lines.specs.declared.read_error.ReadError.{ReadError}
use Rattle.text_lines.specs.declared.read_error.ReadError.TheVariants as stop
use Rattle.text_lines.specs.ReadErrors.{Says}
use Rattle.f8_asm.specs.Answers.{◌>>=◌}
use Rattle.f8_asm.specs.Bytes.{word_bytes}
use Rattle.f8_asm.specs.Judging.{unsigned_value, byte}
use Rattle.f8_asm.specs.Statements.{item_size}
use Rattle.f8_asm.specs.declared.operands.Operand.{Operand}
use Rattle.f8_asm.specs.declared.words.ItemSize.{ItemSize}
use Rattle.f8_asm.specs.declared.words.ItemSize.TheVariants as item
use Rattle.f8_asm.proofs.Alike.{read-ok}
use Rattle.f8_link.specs.Answers.{line_told}
use Rattle.f8_link.specs.Pieces.{Piece, whole, joined, byte_in, word_in, constant_operand, item_piece, list_piece}
use Rattle.f8_link.specs.declared.faults.ModuleLineFault.{ModuleLineFault}
use Rattle.f8_link.specs.declared.values.Found.{Found}
use Rattle.f8_link.specs.declared.values.Found.TheVariants as found
use Rattle.f8_link.specs.declared.values.Value.TheVariants.{Constant, Placed}

-- ---- how many bytes an item has

length_by : {E : Type 0} (q p : Piece) (n : ℕ) → ◌≡◌ {A = Result Piece E} (Ok q) (Ok p) → length q.bytes ≡ n → length p.bytes ≡ n
length_by q p n same is = let at_p : q ≡ p = cc same in sym (ap (λ (r : Piece). length r.bytes) at_p) ∙ is

byte_length : (offset column : ℕ) (f : Found) (p : Piece) → byte_in offset column f ≡ Ok p → length p.bytes ≡ 1
byte_length offset column (found.Value (Constant v)) p h =
    read-ok (length p.bytes ≡ 1) (line_told (byte (constant_operand column v))) _ p h (λ b at_b h. length_by (whole (b ∷ [])) p 1 h refl)
byte_length offset column (found.Value (Placed base k)) p h = length_by _ p 1 h refl
byte_length offset column (found.Half half base k) p h = length_by _ p 1 h refl
byte_length offset column found.OutOfRange p h = cc h
byte_length offset column found.Shapeless p h = cc h
byte_length offset column (found.Undefined at) p h = cc h

word_length : (offset column : ℕ) (f : Found) (p : Piece) → word_in offset column f ≡ Ok p → length p.bytes ≡ 2
word_length offset column (found.Value (Constant v)) p h =
    read-ok (length p.bytes ≡ 2) (line_told (unsigned_value 65535 (constant_operand column v))) _ p h
    (λ w at_w h. length_by (whole (word_bytes w)) p 2 h refl)
word_length offset column (found.Value (Placed base k)) p h = length_by _ p 2 h refl
word_length offset column (found.Half half base k) p h = length_by _ p 2 h refl
word_length offset column found.OutOfRange p h = cc h
word_length offset column found.Shapeless p h = cc h
word_length offset column (found.Undefined at) p h = cc h

pub item_length : (offset : ℕ) (size : ItemSize) (o : Operand Found) (p : Piece) → item_piece offset size o ≡ Ok p → length p.bytes ≡ item_size size
item_length offset item.Byte o p h = byte_length offset o.column o.value p h
item_length offset item.Word o p h = word_length offset o.column o.value p h

-- ---- the loop

-- the piece so far, then that of the rest
abbrev pub after : Piece → Result Piece ModuleLineFault → Result Piece ModuleLineFault
after front (Ok p) = Ok (joined front p)
after front (Err fault) = Err fault

joined_more : (a b c : Piece) → joined (joined a b) c ≡ joined a (joined b c)
joined_more a b c = rw (append_assoc a.bytes b.bytes c.bytes, append_assoc a.fixups b.fixups c.fixups) refl

joined_none : (a : Piece) → joined a (whole []) ≡ a
joined_none a = rw (append-nil a.bytes, append-nil a.fixups) refl

after_more : (front p : Piece) (r : Result Piece ModuleLineFault) → after (joined front p) r ≡ after front (r >>= λ rest. Ok (joined p rest))
after_more front p (Ok q) = ap Ok (joined_more front p q)
after_more front p (Err fault) = refl

room_after : (size : ItemSize) (a b n m : ℕ) → a + item_size size * n ≤ m → n ≡ b + 1 → a + item_size size + item_size size * b ≤ m
room_after item.Byte a b n m room is = omega arith
room_after item.Word a b n m room is = omega arith

-- the piece found and that of the rest make the whole, and the rest has room behind it
pub record PieceOn (offset : ℕ) (size : ItemSize) (front : Piece) (rest : List (Operand Found)) (whole : Result Piece ModuleLineFault) : Type 0 where
  pub is : after front (list_piece (offset + length front.bytes) size rest) ≡ whole
  pub room : offset + length front.bytes + item_size size * length rest ≤ 65536

module _ {offset : ℕ} {size : ItemSize} {front : Piece} {whole_is : Result Piece ModuleLineFault} where
  pub piece_end : PieceOn offset size front [] whole_is → whole_is ≡ Ok front
  unfolding list_piece
  piece_end on = sym on.is ∙ ap Ok (joined_none front)

  pub piece_more : {o : Operand Found} {os : List (Operand Found)} → PieceOn offset size front (o ∷ os) whole_is → (p : Piece) →
      item_piece (offset + length front.bytes) size o ≡ Ok p → PieceOn offset size (joined front p) os whole_is
  unfolding list_piece
  piece_more {o} {os} on p is =
      let counted : length (front.bytes ++ p.bytes) ≡ length front.bytes + item_size size =
      length-append front.bytes p.bytes ∙ ap (λ n. length front.bytes + n) (item_length (offset + length front.bytes) size o p is) in
      let at_next : offset + length (front.bytes ++ p.bytes) ≡ offset + length front.bytes + length p.bytes =
      omega (arith, length-append front.bytes p.bytes) in
      let left = room_after size (offset + length front.bytes) (length os) (length (o ∷ os)) 65536 on.room (omega arith) in
      record {
        is = rw at_next (after_more front p (list_piece (offset + length front.bytes + length p.bytes) size os)) ∙ rw (is, list_piece) at on.is;
        room = omega (arith, counted, left);
      }

  pub piece_stop : {o : Operand Found} {os : List (Operand Found)} → PieceOn offset size front (o ∷ os) whole_is → (fault : ModuleLineFault) →
      item_piece (offset + length front.bytes) size o ≡ Err fault → whole_is ≡ Err fault
  unfolding list_piece
  piece_stop {o} {os} on fault is = sym (rw (is, list_piece) at on.is)

-- what is left of items begins with the next
cut : {A : Type 0} (os : List (Operand A)) (i : ℕ) (o : Operand A) → i < length os → o ≡ get_or os i o → drop i os ≡ o ∷ drop (i + 1) os
cut os i o within is = rw (add-one i, drop-cons os i o) (ap (λ q. q ∷ drop (suc i) os) (sym is))

-- an item has room
pub item_room : {offset : ℕ} {size : ItemSize} {front : Piece} {rest : List (Operand Found)} {whole_is : Result Piece ModuleLineFault}
    → PieceOn offset size front rest whole_is → offset + length front.bytes ≤ 65536
item_room on = omega (arith, on.room)

module _ {A : Type 0} (value : Operand A → Operand Found) {offset : ℕ} {size : ItemSize} {front : Piece} {whole_is : Result Piece ModuleLineFault} where
  -- the same, by the place of the item, of items that have these values
  pub more_at : (os : List (Operand A)) (i : ℕ) (o : Operand A) (p : Piece) → PieceOn offset size front (map value (drop i os)) whole_is → i < length os
      → o ≡ get_or os i o → item_piece (offset + length front.bytes) size (value o) ≡ Ok p
      → PieceOn offset size (joined front p) (map value (drop (i + 1) os)) whole_is
  more_at os i o p on within at_i is = piece_more (rw (cut os i o within at_i) at on) p is

  pub stop_at : (os : List (Operand A)) (i : ℕ) (o : Operand A) (e : ReadError ModuleLineFault) → PieceOn offset size front (map value (drop i os)) whole_is
      → i < length os → o ≡ get_or os i o → Says {A = Piece} (Err e) (item_piece (offset + length front.bytes) size (value o))
      → Says {A = Piece} (Err e) whole_is
  stop_at os i o (stop.Fault fault) on within at_i is = piece_stop (rw (cut os i o within at_i) at on) fault is
  stop_at os i o stop.Memory on within at_i is = tt

  pub end_at : (os : List (Operand A)) (i : ℕ) → PieceOn offset size front (map value (drop i os)) whole_is → length os ≤ i → whole_is ≡ Ok front
  end_at os i on past = piece_end (rw (drop_all i os past) at on)
