-- A statement of a module and the same in the one source: its bytes are those that linking leaves.
use Rattle.std.proofs.Common.{◌≡◌, ℕ, ℤ, ◌+◌, List, [], ◌∷◌, ◌++◌, length, Result, Ok, Err, refl, ap, arith}
use Rattle.f8_spec.specs.Instructions.{encoded}
use Rattle.f8_spec.specs.declared.instructions.Op.{Op}
use Rattle.f8_asm.specs.Answers.{◌>>=◌}
use Rattle.f8_asm.specs.Bytes.{word_bytes, single_bytes, item_bytes, list_bytes, bytes_of}
use Rattle.f8_asm.specs.Judging.{unsigned_value, byte, displacement, with_field}
use Rattle.f8_asm.specs.declared.faults.LineFault.{LineFault}
use Rattle.f8_asm.specs.declared.fields.Field.{Field}
use Rattle.f8_asm.specs.declared.operands.Operand.{Operand}
use Rattle.f8_asm.specs.declared.operands.Statement.{Statement}
use Rattle.f8_asm.specs.declared.operands.Statement.TheVariants.{Nothing, Fixed, Test}
use Rattle.f8_asm.specs.declared.values.Outcome.{Outcome}
use Rattle.f8_asm.specs.declared.words.ItemSize.{ItemSize}
use Rattle.f8_asm.specs.declared.words.ItemSize.TheVariants as item
use Rattle.f8_asm.specs.declared.words.Single.{Single}
use Rattle.f8_asm.specs.declared.words.Single.TheVariants as single
use Rattle.f8_asm.proofs.Alike.{read-ok, AllAlike, none_alike, more_alike}
use Rattle.f8_asm.proofs.StatementsAlike.{OperandAlike, StatementAlike, nothing_alike, fixed_alike, one_alike, test_alike, items_alike}
use Rattle.f8_link.specs.declared.faults.ModuleLineFault.{ModuleLineFault}
use Rattle.f8_link.specs.declared.values.Found.{Found}
use Rattle.f8_link.specs.Pieces.{Piece, whole, behind, joined, byte_of, word_of, branch_of, number_of, field_of, single_piece, item_piece}
use Rattle.f8_link.specs.Pieces.{list_piece, piece_of}
use Rattle.f8_link.proofs.Goes.{Goes}
use Rattle.f8_link.proofs.Settles.{Settles, settles_same, settles_whole, settles_behind, settles_joined}
use Rattle.f8_link.proofs.SettlesOperands.{byte_settles, word_settles, displacement_bytes, branch_settles, number_goes, field_goes}

-- what stands behind a byte
behind_read : {A : Type 0} (r : Result A LineFault) (f : A → List ℕ) (code : ℕ) (bs : List ℕ) → (r >>= λ x. Ok (f x)) ≡ Ok bs
    → (r >>= λ x. Ok (code ∷ f x)) ≡ Ok (code ∷ bs)
behind_read (Ok x) f code bs is = let same : f x ≡ bs = cc is in ap (λ (r : List ℕ). Ok (code ∷ r)) same
behind_read (Err e) f code bs is = cc is

both_read : (r s : Result (List ℕ) LineFault) (bs cs : List ℕ) → r ≡ Ok bs → s ≡ Ok cs → (r >>= λ front. s >>= λ rest. Ok (front ++ rest)) ≡ Ok (bs ++ cs)
both_read r s bs cs one other = rw (one, other) refl

list_read : (size : ItemSize) (p : Operand Outcome) (ps : List (Operand Outcome)) (bs cs : List ℕ) → item_bytes size p ≡ Ok bs → list_bytes size ps ≡ Ok cs
    → list_bytes size (p ∷ ps) ≡ Ok (bs ++ cs)
unfolding list_bytes
list_read size p ps bs cs one other = both_read (item_bytes size p) (list_bytes size ps) bs cs one other

no_items : (size : ItemSize) → list_bytes size [] ≡ Ok []
unfolding list_bytes
no_items size = refl

test_read : (address : ℕ) (f : Field) (bits place : Operand Outcome) (op : Op) (bs : List ℕ) → with_field f bits ≡ Ok op
    → displacement_bytes address place ≡ Ok bs → bytes_of address (Test f bits place) ≡ Ok (encoded op ∷ bs)
test_read address f bits place op bs at_op is = rw at_op (behind_read (displacement address place) (λ d. d ∷ []) (encoded op) bs is)

port_read : (code b : ℕ) (p : Operand Outcome) → unsigned_value 255 p ≡ Ok b → (unsigned_value 255 p >>= λ n. Ok (code ∷ n ∷ [])) ≡ Ok (code ∷ b ∷ [])
port_read code b p is = rw is refl

field_read : (f : Field) (op : Op) (p : Operand Outcome) → with_field f p ≡ Ok op → (with_field f p >>= λ o. Ok (encoded o ∷ [])) ≡ Ok (encoded op ∷ [])
field_read f op p is = rw is refl

module _ (first : ℕ) (values : List ℤ) where
  -- a piece with bytes of which this holds, behind an opcode
  code_settles : (offset code : ℕ) (r : Result Piece ModuleLineFault) (piece : Piece) (Q R : List ℕ → Type 0)
      → ((q : Piece) → r ≡ Ok q → Settles first values (offset + 1) q Q) → ((bs : List ℕ) → Q bs → R (code ∷ bs))
      → (r >>= λ q. Ok (behind code q)) ≡ Ok piece → Settles first values offset piece R
  code_settles offset code r piece Q R on so is =
      read-ok (Settles first values offset piece R) r (λ q. Ok (behind code q)) piece is (λ q at_q e.
      settles_same first values offset (behind code q) piece R e (settles_behind first values code offset q Q R so (on q at_q)))

  known_settles : {A : Type 0} (offset : ℕ) (r : Result A ModuleLineFault) (f : A → List ℕ) (piece : Piece) (Q : List ℕ → Type 0)
      → ((x : A) → r ≡ Ok x → Q (f x)) → (r >>= λ x. Ok (whole (f x))) ≡ Ok piece → Settles first values offset piece Q
  known_settles offset r f piece Q so is =
      read-ok (Settles first values offset piece Q) r (λ x. Ok (whole (f x))) piece is (λ x at_x e.
      settles_same first values offset (whole (f x)) piece Q e (settles_whole first values offset (f x) Q (so x at_x)))

  single_settles : (offset address : ℕ) (what : Single) (o : Operand Found) (p : Operand Outcome) (piece : Piece) → address ≡ first + offset
      → OperandAlike (Goes first values) o p → single_piece offset what o ≡ Ok piece
      → Settles first values offset piece (λ bs. single_bytes address what p ≡ Ok bs)
  single_settles offset address (single.Byte code) o p piece at same is =
      code_settles offset code (byte_of (offset + 1) o) piece (λ bs. item_bytes item.Byte p ≡ Ok bs) (λ bs. single_bytes address (single.Byte code) p ≡ Ok bs)
      (λ q at_q. byte_settles first values (offset + 1) o.column o.value p q same.1 at_q)
      (λ bs so. behind_read (byte p) (λ b. b ∷ []) code bs so) is
  single_settles offset address (single.Port code) o p piece at same is =
      known_settles offset (number_of 255 o) (λ b. code ∷ b ∷ []) piece (λ bs. single_bytes address (single.Port code) p ≡ Ok bs)
      (λ b at_b. port_read code b p (number_goes first values 255 o.column o.value p b same.1 at_b)) is
  single_settles offset address (single.Word code) o p piece at same is =
      code_settles offset code (word_of (offset + 1) o) piece (λ bs. item_bytes item.Word p ≡ Ok bs) (λ bs. single_bytes address (single.Word code) p ≡ Ok bs)
      (λ q at_q. word_settles first values (offset + 1) o.column o.value p q same.1 at_q)
      (λ bs so. behind_read (unsigned_value 65535 p) word_bytes code bs so) is
  single_settles offset address (single.Branch code) o p piece at same is =
      code_settles offset code (branch_of (offset + 1) o) piece (λ bs. displacement_bytes address p ≡ Ok bs)
      (λ bs. single_bytes address (single.Branch code) p ≡ Ok bs)
      (λ q at_q. branch_settles first values (offset + 1) address o.column o.value p q (omega (arith, at)) same.1 at_q)
      (λ bs so. behind_read (displacement address p) (λ d. d ∷ []) code bs so) is
  single_settles offset address (single.Small f) o p piece at same is =
      known_settles offset (field_of f o) (λ op. encoded op ∷ []) piece (λ bs. single_bytes address (single.Small f) p ≡ Ok bs)
      (λ op at_op. field_read f op p (field_goes first values f o.column o.value p op same.1 at_op)) is
  single_settles offset address single.Org o p piece at same is =
      settles_same first values offset (whole []) piece (λ bs. single_bytes address single.Org p ≡ Ok bs) is
      (settles_whole first values offset [] (λ bs. single_bytes address single.Org p ≡ Ok bs) refl)
  single_settles offset address single.Equ o p piece at same is =
      settles_same first values offset (whole []) piece (λ bs. single_bytes address single.Equ p ≡ Ok bs) is
      (settles_whole first values offset [] (λ bs. single_bytes address single.Equ p ≡ Ok bs) refl)

  item_settles : (offset : ℕ) (size : ItemSize) (o : Operand Found) (p : Operand Outcome) (piece : Piece) → OperandAlike (Goes first values) o p
      → item_piece offset size o ≡ Ok piece → Settles first values offset piece (λ bs. item_bytes size p ≡ Ok bs)
  item_settles offset item.Byte o p piece same is = byte_settles first values offset o.column o.value p piece same.1 is
  item_settles offset item.Word o p piece same is = word_settles first values offset o.column o.value p piece same.1 is

  list_settles : (offset : ℕ) (size : ItemSize) {os : List (Operand Found)} {ps : List (Operand Outcome)} (piece : Piece)
      → AllAlike (OperandAlike (Goes first values)) os ps → list_piece offset size os ≡ Ok piece
      → Settles first values offset piece (λ bs. list_bytes size ps ≡ Ok bs)
  unfolding list_piece
  list_settles offset size piece none_alike is =
      settles_same first values offset (whole []) piece (λ bs. list_bytes size [] ≡ Ok bs) is
      (settles_whole first values offset [] (λ bs. list_bytes size [] ≡ Ok bs) (no_items size))
  list_settles offset size piece (more_alike {x} {y} {xs} {ys} same rest) is =
      read-ok (Settles first values offset piece (λ bs. list_bytes size (y ∷ ys) ≡ Ok bs)) (item_piece offset size x) _ piece is (λ front at_front behind.
      read-ok (Settles first values offset piece (λ bs. list_bytes size (y ∷ ys) ≡ Ok bs)) (list_piece (offset + length front.bytes) size xs) _ piece behind
      (λ back at_back e. settles_same first values offset (joined front back) piece (λ bs. list_bytes size (y ∷ ys) ≡ Ok bs) e
      (settles_joined first values offset front back (λ bs. item_bytes size y ≡ Ok bs) (λ bs. list_bytes size ys ≡ Ok bs)
      (λ bs. list_bytes size (y ∷ ys) ≡ Ok bs) (λ bs cs one other. list_read size y ys bs cs one other)
      (item_settles offset size x y front same at_front)
      (list_settles (offset + length front.bytes) size back rest at_back))))

  test_settles : (offset address : ℕ) (f : Field) (o q : Operand Found) (p r : Operand Outcome) (piece : Piece) → address ≡ first + offset
      → OperandAlike (Goes first values) o p → OperandAlike (Goes first values) q r → piece_of offset (Test f o q) ≡ Ok piece
      → Settles first values offset piece (λ bs. bytes_of address (Test f p r) ≡ Ok bs)
  test_settles offset address f o q p r piece at same other is =
      read-ok (Settles first values offset piece (λ bs. bytes_of address (Test f p r) ≡ Ok bs)) (field_of f o) _ piece is (λ op at_op behind.
      code_settles offset (encoded op) (branch_of (offset + 1) q) piece (λ bs. displacement_bytes address r ≡ Ok bs)
      (λ bs. bytes_of address (Test f p r) ≡ Ok bs)
      (λ back at_back. branch_settles first values (offset + 1) address q.column q.value r back (omega (arith, at)) other.1 at_back)
      (λ bs so. test_read address f p r op bs (field_goes first values f o.column o.value p op same.1 at_op) so) behind)

  pub statement_settles : (offset address : ℕ) (st : Statement Found) (other : Statement Outcome) (piece : Piece) → address ≡ first + offset
      → StatementAlike (Goes first values) st other → piece_of offset st ≡ Ok piece
      → Settles first values offset piece (λ bs. bytes_of address other ≡ Ok bs)
  statement_settles offset address st other piece at nothing_alike is =
      settles_same first values offset (whole []) piece (λ bs. bytes_of address Nothing ≡ Ok bs) is
      (settles_whole first values offset [] (λ bs. bytes_of address Nothing ≡ Ok bs) refl)
  statement_settles offset address st other piece at (fixed_alike code) is =
      settles_same first values offset (whole (code ∷ [])) piece (λ bs. bytes_of address (Fixed code) ≡ Ok bs) is
      (settles_whole first values offset (code ∷ []) (λ bs. bytes_of address (Fixed code) ≡ Ok bs) refl)
  statement_settles offset address st other piece at (one_alike what {o} {p} same) is = single_settles offset address what o p piece at same is
  statement_settles offset address st other piece at (test_alike f {o} {q} {p} {r} same also) is = test_settles offset address f o q p r piece at same also is
  statement_settles offset address st other piece at (items_alike size same) is = list_settles offset size piece same is
