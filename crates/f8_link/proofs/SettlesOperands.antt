-- An operand in a module, and the same in the one source: its bytes are those that linking leaves.
use Rattle.std.proofs.Common.{◌≡◌, ℕ, ℤ, pos, negsuc, ◌+◌, ◌/◌, ◌%◌, ◌<◌, Bool, true, false, List, [], ◌∷◌, length, Option, Some, None}
use Rattle.std.proofs.Common.{Result, Ok, Err}
use Rattle.std.proofs.Common.{refl, sym, ap, ◌∙◌, arith}
use Rattle.std.specs.Prelude.{◌+ℤ◌, ◌-ℤ◌, int_le, int_div, int_rem, option_map, nat_le, unsigned_abs, if◌then◌else◌}
use Rattle.std.proofs.lemmas.Bool.Decides.{nat_tests}
use Rattle.std.proofs.lemmas.Int.{ints, rem_below}
use Rattle.f8_spec.specs.declared.instructions.Op.{Op}
use Rattle.f8_asm.specs.Answers.{◌>>=◌}
use Rattle.f8_asm.specs.Bytes.{word_bytes, item_bytes}
use Rattle.f8_asm.specs.Fields.{last_of, op_with, small, octet}
use Rattle.f8_asm.specs.Judging.{fitting, unsigned_value, byte, displacement, with_field}
use Rattle.f8_asm.specs.Values.{within, prefix_value}
use Rattle.f8_asm.specs.declared.answers.AsmCause.{AsmCause}
use Rattle.f8_asm.specs.declared.answers.AsmCause.TheVariants.{Range}
use Rattle.f8_asm.specs.declared.faults.LineFault.{LineFault}
use Rattle.f8_asm.specs.declared.fields.Field.{Field}
use Rattle.f8_asm.specs.declared.operands.Operand.{Operand}
use Rattle.f8_asm.specs.declared.values.Outcome.{Outcome}
use Rattle.f8_asm.specs.declared.values.Outcome.TheVariants as outcome
use Rattle.f8_asm.specs.declared.words.ItemSize.TheVariants as item
use Rattle.f8_asm.proofs.Alike.{read-ok}
use Rattle.f8_link.specs.declared.objects.FixupKind.{FixupKind}
use Rattle.f8_link.specs.declared.objects.FixupKind.TheVariants as kind
use Rattle.f8_link.specs.declared.values.Base.{Base}
use Rattle.f8_link.specs.declared.values.Base.TheVariants.{Module, Import}
use Rattle.f8_link.specs.declared.values.Found.{Found}
use Rattle.f8_link.specs.declared.values.Found.TheVariants as found
use Rattle.f8_link.specs.declared.values.Half.{Half}
use Rattle.f8_link.specs.declared.values.Half.TheVariants.{Low, High}
use Rattle.f8_link.specs.declared.values.Value.TheVariants.{Constant, Placed}
use Rattle.f8_link.specs.Answers.{line_told}
use Rattle.f8_link.specs.Linking.{half_byte, one_byte, fixed_value, fixed}
use Rattle.f8_link.specs.Pieces.{Piece, whole, open_at, kind_of, constant_operand, constant_in, byte_in, word_in, reached, displaced}
use Rattle.f8_link.specs.Pieces.{branch_in}
use Rattle.f8_link.proofs.Goes.{at_base, prefix_of, Goes}
use Rattle.f8_link.proofs.Settles.{Settles, settles_same, settles_whole, settles_open, settles_behind}

-- ---- what was read

told_ok : {A : Type 0} (r : Result A LineFault) (x : A) → line_told r ≡ Ok x → r ≡ Ok x
told_ok (Ok y) x is = let same : y ≡ x = cc is in ap Ok same
told_ok (Err fault) x is = cc is

fits_some : {A : Type 0} (column : ℕ) (what : AsmCause) (o : Option A) (x : A) → fitting column what o ≡ Ok x → o ≡ Some x
fits_some column what (Some y) x is = let same : y ≡ x = cc is in ap Some same
fits_some column what None x is = cc is

mapped : {A B : Type 0} (f : A → B) (o : Option A) (y : B) → option_map f o ≡ Some y → (x : A) × (o ≡ Some x) × (y ≡ f x)
mapped f (Some x) y is = (x, refl, (let same : f x ≡ y = cc is in sym same))
mapped f None y is = cc is

-- what was fixed is what the value gives, where an expression may have it
fixed_by : (what : FixupKind) (address : ℕ) (z : ℤ) (bs : List ℕ) (t : Bool)
    → fixed what address (if t then outcome.Value z else outcome.OutOfRange) ≡ Some bs → fixed_value what address z ≡ Some bs
fixed_by what address z bs true is = is
fixed_by what address z bs false is = cc is

fixed_real : (what : FixupKind) (address : ℕ) (z : ℤ) (bs : List ℕ) → fixed what address (within z) ≡ Some bs → fixed_value what address z ≡ Some bs
fixed_real what address z bs is = fixed_by what address z bs _ is

-- ---- halves

half_given : (o : Outcome) (bs : List ℕ) → half_byte o ≡ Some bs → (b : ℕ) × (o ≡ outcome.Value (pos b)) × (bs ≡ b ∷ [])
half_given (outcome.Value (pos b)) bs is = (b, refl, (let same : b ∷ [] ≡ bs = cc is in sym same))
half_given (outcome.Value (negsuc b)) bs is = cc is
half_given outcome.OutOfRange bs is = cc is
half_given (outcome.Undefined column) bs is = cc is

abbrev half_read : Bool → ℤ → Outcome
half_read t v = if t then outcome.Value v else outcome.OutOfRange

half_small : (t : Bool) (v : ℤ) (b : ℕ) → half_read t (int_rem v (pos 256)) ≡ outcome.Value (pos b) → b < 256
half_small true v b is =
    let same : int_rem v (pos 256) ≡ pos b = cc is in
    let size : unsigned_abs (int_rem v (pos 256)) ≡ b = ap unsigned_abs same in
    let below = rem_below v (pos 256) (omega arith) in
    omega (arith, size, below)
half_small false v b is = cc is

half_below : (half : Half) (v : ℤ) (b : ℕ) → prefix_value (prefix_of half) v ≡ outcome.Value (pos b) → b < 256
half_below Low v b is = half_small (int_le (pos 0) v) v b is
half_below High v b is = half_small (int_le (pos 0) v) (int_div v (pos 256)) b is

half_fixed : (half : Half) (address : ℕ) (v : ℤ) (bs : List ℕ) → fixed_value (kind_of half) address v ≡ Some bs
    → (b : ℕ) × (prefix_value (prefix_of half) v ≡ outcome.Value (pos b)) × (bs ≡ b ∷ []) × (b < 256)
half_fixed Low address v bs is =
    let h = half_given (prefix_value (prefix_of Low) v) bs is in (h.0, h.1, h.2, half_below Low v h.0 h.1)
half_fixed High address v bs is =
    let h = half_given (prefix_value (prefix_of High) v) bs is in (h.0, h.1, h.2, half_below High v h.0 h.1)

octet_of : (b : ℕ) → b < 256 → octet 255 (pos b) ≡ Some b
octet_of b below = let test : nat_le b 255 ≡ true = grind (arith, nat_tests) in rw test refl

small_of : (b : ℕ) → b < 256 → small 65535 (pos b) ≡ Some b
small_of b below = let test : nat_le b 65535 ≡ true = grind (arith, nat_tests) in rw test refl

half_word : (b : ℕ) → b < 256 → word_bytes b ≡ 0 ∷ b ∷ []
half_word b below =
    let high : b / 256 ≡ 0 = omega arith in
    let low : b % 256 ≡ b = omega arith in
    rw (high, low) refl

-- ---- bytes and words

byte_read : (p : Operand Outcome) (v : ℤ) (b : ℕ) → p.value ≡ outcome.Value v → octet 255 v ≡ Some b → item_bytes item.Byte p ≡ Ok (b ∷ [])
byte_read p v b is fits = rw (is, fits) refl

word_read : (p : Operand Outcome) (v : ℤ) (w : ℕ) → p.value ≡ outcome.Value v → small 65535 v ≡ Some w → item_bytes item.Word p ≡ Ok (word_bytes w)
word_read p v w is fits = rw (is, fits) refl

module _ (first : ℕ) (values : List ℤ) where
  byte_put : (offset : ℕ) (base : Base) (k : ℤ) (p : Operand Outcome) (bs : List ℕ) → p.value ≡ outcome.Value (at_base first values base +ℤ k)
      → fixed kind.Byte (first + offset) (within (at_base first values base +ℤ k)) ≡ Some bs → (item_bytes item.Byte p ≡ Ok bs) × (length bs ≡ 1)
  byte_put offset base k p bs so is =
      let m = mapped one_byte (octet 255 (at_base first values base +ℤ k)) bs
      (fixed_real kind.Byte (first + offset) (at_base first values base +ℤ k) bs is) in
      (byte_read p (at_base first values base +ℤ k) m.0 so m.1 ∙ ap Ok (sym m.2), ap length m.2)

  half_put : (half : Half) (offset : ℕ) (base : Base) (k : ℤ) (p : Operand Outcome) (bs : List ℕ)
      → p.value ≡ prefix_value (prefix_of half) (at_base first values base +ℤ k)
      → fixed (kind_of half) (first + offset) (within (at_base first values base +ℤ k)) ≡ Some bs → (item_bytes item.Byte p ≡ Ok bs) × (length bs ≡ 1)
  half_put half offset base k p bs so is =
      let h = half_fixed half (first + offset) (at_base first values base +ℤ k) bs
      (fixed_real (kind_of half) (first + offset) (at_base first values base +ℤ k) bs is) in
      (byte_read p (pos h.0) h.0 (so ∙ h.1) (octet_of h.0 h.3) ∙ ap Ok (sym h.2), ap length h.2)

  pub byte_settles : (offset column : ℕ) (x : Found) (p : Operand Outcome) (piece : Piece) → Goes first values x p.value → byte_in offset column x ≡ Ok piece
      → Settles first values offset piece (λ bs. item_bytes item.Byte p ≡ Ok bs)
  byte_settles offset column (found.Value (Constant v)) p piece so is =
      read-ok (Settles first values offset piece (λ bs. item_bytes item.Byte p ≡ Ok bs)) (line_told (byte (constant_operand column v)))
      (λ b. Ok (whole (b ∷ []))) piece is (λ b at_b e. settles_same first values offset (whole (b ∷ [])) piece (λ bs. item_bytes item.Byte p ≡ Ok bs) e
      (settles_whole first values offset (b ∷ []) (λ bs. item_bytes item.Byte p ≡ Ok bs)
      (byte_read p v b so (fits_some column Range (octet 255 v) b (told_ok _ b at_b)))))
  byte_settles offset column (found.Value (Placed base k)) p piece so is =
      settles_same first values offset (open_at (0 ∷ []) offset kind.Byte (Some base) k) piece (λ bs. item_bytes item.Byte p ≡ Ok bs) is
      (settles_open first values (0 ∷ []) offset kind.Byte (Some base) k (λ bs. item_bytes item.Byte p ≡ Ok bs) (λ bs put. byte_put offset base k p bs so put))
  byte_settles offset column (found.Half half base k) p piece so is =
      settles_same first values offset (open_at (0 ∷ []) offset (kind_of half) (Some base) k) piece (λ bs. item_bytes item.Byte p ≡ Ok bs) is
      (settles_open first values (0 ∷ []) offset (kind_of half) (Some base) k (λ bs. item_bytes item.Byte p ≡ Ok bs)
      (λ bs put. half_put half offset base k p bs so put))
  byte_settles offset column found.OutOfRange p piece so is = cc is
  byte_settles offset column found.Shapeless p piece so is = cc is
  byte_settles offset column (found.Undefined at) p piece so is = cc is

  -- a half in a word is its second byte
  half_put_in_word : (half : Half) (offset : ℕ) (base : Base) (k : ℤ) (p : Operand Outcome) (bs : List ℕ)
      → p.value ≡ prefix_value (prefix_of half) (at_base first values base +ℤ k)
      → fixed (kind_of half) (first + offset) (within (at_base first values base +ℤ k)) ≡ Some bs
      → (item_bytes item.Word p ≡ Ok (0 ∷ bs)) × (length bs ≡ 1)
  half_put_in_word half offset base k p bs so is =
      let h = half_fixed half (first + offset) (at_base first values base +ℤ k) bs
      (fixed_real (kind_of half) (first + offset) (at_base first values base +ℤ k) bs is) in
      (word_read p (pos h.0) h.0 (so ∙ h.1) (small_of h.0 h.3) ∙ ap Ok (half_word h.0 h.3 ∙ ap (λ (r : List ℕ). 0 ∷ r) (sym h.2)), ap length h.2)

  word_put : (offset : ℕ) (base : Base) (k : ℤ) (p : Operand Outcome) (bs : List ℕ) → p.value ≡ outcome.Value (at_base first values base +ℤ k)
      → fixed kind.Word (first + offset) (within (at_base first values base +ℤ k)) ≡ Some bs → (item_bytes item.Word p ≡ Ok bs) × (length bs ≡ 2)
  word_put offset base k p bs so is =
      let m = mapped word_bytes (small 65535 (at_base first values base +ℤ k)) bs
      (fixed_real kind.Word (first + offset) (at_base first values base +ℤ k) bs is) in
      (word_read p (at_base first values base +ℤ k) m.0 so m.1 ∙ ap Ok (sym m.2), ap length m.2)

  pub word_settles : (offset column : ℕ) (x : Found) (p : Operand Outcome) (piece : Piece) → Goes first values x p.value → word_in offset column x ≡ Ok piece
      → Settles first values offset piece (λ bs. item_bytes item.Word p ≡ Ok bs)
  word_settles offset column (found.Value (Constant v)) p piece so is =
      read-ok (Settles first values offset piece (λ bs. item_bytes item.Word p ≡ Ok bs)) (line_told (unsigned_value 65535 (constant_operand column v)))
      (λ w. Ok (whole (word_bytes w))) piece is (λ w at_w e.
      settles_same first values offset (whole (word_bytes w)) piece (λ bs. item_bytes item.Word p ≡ Ok bs) e
      (settles_whole first values offset (word_bytes w) (λ bs. item_bytes item.Word p ≡ Ok bs)
      (word_read p v w so (fits_some column Range (small 65535 v) w (told_ok _ w at_w)))))
  word_settles offset column (found.Value (Placed base k)) p piece so is =
      settles_same first values offset (open_at (0 ∷ 0 ∷ []) offset kind.Word (Some base) k) piece (λ bs. item_bytes item.Word p ≡ Ok bs) is
      (settles_open first values (0 ∷ 0 ∷ []) offset kind.Word (Some base) k (λ bs. item_bytes item.Word p ≡ Ok bs)
      (λ bs put. word_put offset base k p bs so put))
  word_settles offset column (found.Half half base k) p piece so is =
      settles_same first values offset (open_at (0 ∷ 0 ∷ []) (offset + 1) (kind_of half) (Some base) k) piece (λ bs. item_bytes item.Word p ≡ Ok bs) is
      (settles_behind first values 0 offset (open_at (0 ∷ []) (offset + 1) (kind_of half) (Some base) k)
      (λ bs. item_bytes item.Word p ≡ Ok (0 ∷ bs)) (λ bs. item_bytes item.Word p ≡ Ok bs) (λ bs so. so)
      (settles_open first values (0 ∷ []) (offset + 1) (kind_of half) (Some base) k (λ bs. item_bytes item.Word p ≡ Ok (0 ∷ bs))
      (λ bs put. half_put_in_word half (offset + 1) base k p bs so put)))
  word_settles offset column found.OutOfRange p piece so is = cc is
  word_settles offset column found.Shapeless p piece so is = cc is
  word_settles offset column (found.Undefined at) p piece so is = cc is

-- ---- branches

-- the displacement byte of a branch whose opcode stands at this address
abbrev pub displacement_bytes : ℕ → Operand Outcome → Result (List ℕ) LineFault
displacement_bytes address p = displacement address p >>= λ d. Ok (d ∷ [])

branch_read : (address : ℕ) (p : Operand Outcome) (v w : ℤ) (d : ℕ) → p.value ≡ outcome.Value v → octet 127 w ≡ Some d → v -ℤ pos (address + 1) ≡ w
    → displacement_bytes address p ≡ Ok (d ∷ [])
branch_read address p v w d is fits same = rw (is, same, fits) refl

from_first : (first offset address : ℕ) (k : ℤ) → address + 1 ≡ first + offset → (pos first +ℤ k) -ℤ pos (address + 1) ≡ k -ℤ pos offset
from_first first offset address k at = omega (arith, ints)

reached_some : (column : ℕ) (o : Option ℕ) (d : ℕ) → reached column o ≡ Ok d → o ≡ Some d
reached_some column (Some b) d is = let same : b ≡ d = cc is in ap Some same
reached_some column None d is = cc is

module _ (first : ℕ) (values : List ℤ) where
  -- a branch that linking judges, to this value
  branch_put : (offset address : ℕ) (z : ℤ) (p : Operand Outcome) (bs : List ℕ) → address + 1 ≡ first + offset → p.value ≡ outcome.Value z
      → fixed kind.Branch (first + offset) (within z) ≡ Some bs → (displacement_bytes address p ≡ Ok bs) × (length bs ≡ 1)
  branch_put offset address z p bs at so is =
      let m = mapped one_byte (octet 127 (z -ℤ pos (first + offset))) bs (fixed_real kind.Branch (first + offset) z bs is) in
      (branch_read address p z (z -ℤ pos (first + offset)) m.0 so m.1 (ap (λ (n : ℕ). z -ℤ pos n) at) ∙ ap Ok (sym m.2), ap length m.2)

  constant_put : (offset address : ℕ) (v : ℤ) (p : Operand Outcome) (bs : List ℕ) → address + 1 ≡ first + offset → p.value ≡ outcome.Value v
      → fixed kind.Branch (first + offset) (within (pos 0 +ℤ v)) ≡ Some bs → (displacement_bytes address p ≡ Ok bs) × (length bs ≡ 1)
  constant_put offset address v p bs at so is =
      let same : pos 0 +ℤ v ≡ v = omega (arith, ints) in
      branch_put offset address v p bs at so (ap (λ (z : ℤ). fixed kind.Branch (first + offset) (within z)) (sym same) ∙ is)

  pub branch_settles : (offset address column : ℕ) (x : Found) (p : Operand Outcome) (piece : Piece) → address + 1 ≡ first + offset
      → Goes first values x p.value → branch_in offset column x ≡ Ok piece → Settles first values offset piece (λ bs. displacement_bytes address p ≡ Ok bs)
  branch_settles offset address column (found.Value (Constant v)) p piece at so is =
      settles_same first values offset (open_at (0 ∷ []) offset kind.Branch None v) piece (λ bs. displacement_bytes address p ≡ Ok bs) is
      (settles_open first values (0 ∷ []) offset kind.Branch None v (λ bs. displacement_bytes address p ≡ Ok bs)
      (λ bs put. constant_put offset address v p bs at so put))
  branch_settles offset address column (found.Value (Placed Module k)) p piece at so is =
      read-ok (Settles first values offset piece (λ bs. displacement_bytes address p ≡ Ok bs)) (displaced column offset k)
      (λ d. Ok (whole (d ∷ []))) piece is (λ d at_d e. settles_same first values offset (whole (d ∷ [])) piece (λ bs. displacement_bytes address p ≡ Ok bs) e
      (settles_whole first values offset (d ∷ []) (λ bs. displacement_bytes address p ≡ Ok bs)
      (branch_read address p (pos first +ℤ k) (k -ℤ pos offset) d so (reached_some column (octet 127 (k -ℤ pos offset)) d at_d)
      (from_first first offset address k at))))
  branch_settles offset address column (found.Value (Placed (Import i) k)) p piece at so is =
      settles_same first values offset (open_at (0 ∷ []) offset kind.Branch (Some (Import i)) k) piece (λ bs. displacement_bytes address p ≡ Ok bs) is
      (settles_open first values (0 ∷ []) offset kind.Branch (Some (Import i)) k (λ bs. displacement_bytes address p ≡ Ok bs)
      (λ bs put. branch_put offset address (at_base first values (Import i) +ℤ k) p bs at so put))
  branch_settles offset address column (found.Half half base k) p piece at so is = cc is
  branch_settles offset address column found.OutOfRange p piece at so is = cc is
  branch_settles offset address column found.Shapeless p piece at so is = cc is
  branch_settles offset address column (found.Undefined at_name) p piece at so is = cc is

  -- ---- numbers and fields

  pub number_goes : (last column : ℕ) (x : Found) (p : Operand Outcome) (b : ℕ) → Goes first values x p.value
      → (constant_in column x >>= λ v. line_told (unsigned_value last (constant_operand column v))) ≡ Ok b → unsigned_value last p ≡ Ok b
  number_goes last column (found.Value (Constant v)) p b so is =
      let fits = fits_some column Range (small last v) b (told_ok _ b is) in rw (so, fits) refl
  number_goes last column (found.Value (Placed base k)) p b so is = cc is
  number_goes last column (found.Half half base k) p b so is = cc is
  number_goes last column found.OutOfRange p b so is = cc is
  number_goes last column found.Shapeless p b so is = cc is
  number_goes last column (found.Undefined at) p b so is = cc is

  field_given : (field : Field) (column : ℕ) (v : ℤ) (p : Operand Outcome) (op : Op) → p.value ≡ outcome.Value v
      → with_field field (constant_operand column v) ≡ Ok op → with_field field p ≡ Ok op
  field_given field column v p op so is =
      read-ok (with_field field p ≡ Ok op) (unsigned_value (last_of field) (constant_operand column v))
      (λ n. fitting column Range (op_with field n)) op is (λ n at_n e.
      let fits = fits_some column Range (small (last_of field) v) n at_n in
      let goes = fits_some column Range (op_with field n) op e in
      rw (so, fits, goes) refl)

  pub field_goes : (field : Field) (column : ℕ) (x : Found) (p : Operand Outcome) (op : Op) → Goes first values x p.value
      → (constant_in column x >>= λ v. line_told (with_field field (constant_operand column v))) ≡ Ok op → with_field field p ≡ Ok op
  field_goes field column (found.Value (Constant v)) p op so is = field_given field column v p op so (told_ok _ op is)
  field_goes field column (found.Value (Placed base k)) p op so is = cc is
  field_goes field column (found.Half half base k) p op so is = cc is
  field_goes field column found.OutOfRange p op so is = cc is
  field_goes field column found.Shapeless p op so is = cc is
  field_goes field column (found.Undefined at) p op so is = cc is
