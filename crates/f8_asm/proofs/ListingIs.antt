-- The statements of bytes list them.
use Rattle.std.proofs.Common.{◌≡◌, ℕ, zero, suc, ◌+◌, ◌-◌, ◌<◌, ◌≤◌, Bool, true, false, cond, List, [], ◌∷◌, length}
use Rattle.std.proofs.Common.{drop, Option, Some, None, refl, ap, ◌∙◌, subst, arith, add-zero}
use Rattle.std.specs.Prelude.{nat_lt, nat_le}
use Rattle.std.proofs.lemmas.Bool.Decides.{nat_tests}
use Rattle.f8_spec.specs.Instructions.{decoded, row_of, row_length, length_of}
use Rattle.f8_spec.specs.declared.instructions.Op.{Op}
use Rattle.f8_spec.specs.declared.instructions.Row.{Row}
use Rattle.f8_spec.specs.declared.instructions.Row.TheVariants as row
use Rattle.f8_asm.specs.declared.pieces.Piece.{Piece}
use Rattle.f8_asm.specs.declared.pieces.Tail.{Tail}
use Rattle.f8_asm.specs.declared.pieces.Tail.TheVariants as tail
use Rattle.f8_asm.specs.declared.spelling.Entry.{Entry}
use Rattle.f8_asm.specs.Listing.{target, data_piece, byte_piece, reaching, place_piece, word_piece, tail_piece, tail_of, op_piece, piece}
use Rattle.f8_asm.specs.Listing.{entries, listing}
use Rattle.f8_asm.specs.ListingLaw.{is_branch_row, is_branch, LeadsTo, IsListing, nothing_left, instruction_alone}
use Rattle.f8_asm.specs.ListingLaw.{instruction_with_byte, instruction_with_word, branch, branch_astray, reserved}
use Rattle.f8_asm.specs.ListingLaw.{cut_instruction, IsListingText}
use Rattle.f8_asm.proofs.ListedPieces.{AreBytes}

-- ---- what stands behind an opcode

abbrev tail_length : Tail → ℕ
tail_length tail.Nothing = 1
tail_length tail.Byte = 2
tail_length tail.Place = 2
tail_length tail.Word = 3

abbrev is_place : Tail → Bool
is_place tail.Place = true
is_place other = false

row_tail : (r : Row) → (row_length r ≡ tail_length (tail_of r)) × (is_branch_row r ≡ is_place (tail_of r))
row_tail row.Immediate = (refl, refl)
row_tail row.PortIn = (refl, refl)
row_tail row.PortOut = (refl, refl)
row_tail row.Branch = (refl, refl)
row_tail row.BranchIsar = (refl, refl)
row_tail row.Call = (refl, refl)
row_tail row.Jump = (refl, refl)
row_tail row.LoadData = (refl, refl)
row_tail other = (refl, refl)

length_by : (op : Op) (t : Tail) → tail_of (row_of op) ≡ t → length_of op ≡ tail_length t
length_by op t is = (row_tail (row_of op)).0 ∙ ap tail_length is

branch_by : (op : Op) (t : Tail) → tail_of (row_of op) ≡ t → is_branch op ≡ is_place t
branch_by op t is = (row_tail (row_of op)).1 ∙ ap is_place is

-- ---- displacements

-- where a displacement leads, or that it leads nowhere
abbrev Led : ℕ → ℕ → Option ℕ → Type 0
Led place c None = (w : ℕ) → LeadsTo place c w → ⊥
Led place c (Some w) = LeadsTo place c w

choose : (place c : ℕ) (t : Bool) (p q : Option ℕ) → (t ≡ true → Led place c p) → (t ≡ false → Led place c q) → Led place c (cond t p q)
choose place c true p q first second = first refl
choose place c false p q first second = second refl

led_forth : (place c : ℕ) → c < 128 → place + c < 65536 → LeadsTo place c (place + c)
led_forth place c low fits = record { among = fits; forth = λ h. refl; back = λ h. absurd (omega arith) }

led_back : (place c : ℕ) → 128 ≤ c → c < 256 → place ≤ 65536 → 256 ≤ place + c → LeadsTo place c (place + c - 256)
led_back place c high byte within fits = record { among = omega arith; forth = λ h. absurd (omega arith); back = λ h. omega arith }

past : (place c w : ℕ) → c < 128 → 65536 ≤ place + c → LeadsTo place c w → ⊥
past place c w low fits leads = let there = leads.forth low in let among = leads.among in omega arith

below : (place c w : ℕ) → 128 ≤ c → place + c < 256 → LeadsTo place c w → ⊥
below place c w high fits leads = let there = leads.back high in omega arith

led : (place c : ℕ) → place ≤ 65536 → c < 256 → Led place c (target place c)
led place c within byte =
    choose place c (nat_lt c 128) _ _
    (λ low. choose place c (nat_lt (place + c) 65536) (Some (place + c)) None
    (λ fits. led_forth place c (grind (arith, nat_tests)) (grind (arith, nat_tests)))
    (λ far w. past place c w (grind (arith, nat_tests)) (grind (arith, nat_tests))))
    (λ high. choose place c (nat_le 256 (place + c)) (Some (place + c - 256)) None
    (λ fits. led_back place c (grind (arith, nat_tests)) byte within (grind (arith, nat_tests)))
    (λ far w. below place c w (grind (arith, nat_tests)) (grind (arith, nat_tests))))

-- ---- the first statement

-- the statement of a piece, and those behind it
abbrev behind : ℕ → List ℕ → Piece → List Entry
behind at bs p = p.entry ∷ entries (p.length - 1) p.raw (at + 1) bs

-- what is behind an opcode is listed from each of its bytes on
abbrev Rest : ℕ → List ℕ → Type 0
Rest at bs = (skip : ℕ) → IsListing (at + 1 + skip) (drop skip bs) (entries skip 0 (at + 1) bs)

-- the same address, written otherwise
move_op : {n m : ℕ} {bs : List ℕ} {es : List Entry} → n ≡ m → IsListing n bs es → IsListing m bs es
move_op {n} {m} {bs} {es} e is = subst (λ at. IsListing at bs es) e is

two_on : (at : ℕ) → at + 1 + 1 ≡ at + 2
two_on at = omega arith

three_on : (at : ℕ) → at + 1 + 2 ≡ at + 3
three_on at = omega arith

module _ (at b : ℕ) where
  reserved_first : (bs : List ℕ) → decoded b ≡ None → Rest at bs → IsListing at (b ∷ bs) (behind at bs (data_piece b 0))
  reserved_first bs is rest = reserved is (rw (add-zero (at + 1)) at (rest 0))

  module _ (op : Op) (is : decoded b ≡ Some op) where
    alone_first : (bs : List ℕ) → tail_of (row_of op) ≡ tail.Nothing → Rest at bs
        → IsListing at (b ∷ bs) (behind at bs (tail_piece at b op bs tail.Nothing))
    alone_first bs tail_is rest = instruction_alone is (length_by op tail.Nothing tail_is) (rw (add-zero (at + 1)) at (rest 0))

    byte_first : (bs : List ℕ) → tail_of (row_of op) ≡ tail.Byte → Rest at bs → IsListing at (b ∷ bs) (behind at bs (byte_piece b op bs))
    unfolding entries
    byte_first [] tail_is rest = let size = length_by op tail.Byte tail_is in cut_instruction is (omega (arith, size))
    byte_first (c ∷ cs) tail_is rest = instruction_with_byte is (length_by op tail.Byte tail_is) (branch_by op tail.Byte tail_is)
        (move_op (two_on at) (rest 1))

    reaching_first : (c : ℕ) (cs : List ℕ) (w : Option ℕ) → Led (at + 1) c w → tail_of (row_of op) ≡ tail.Place → Rest at (c ∷ cs)
        → IsListing at (b ∷ c ∷ cs) (behind at (c ∷ cs) (reaching b op w))
    unfolding entries piece
    reaching_first c cs None far tail_is rest = branch_astray is (branch_by op tail.Place tail_is) far (move_op (two_on at) (rest 1))
    reaching_first c cs (Some w) far tail_is rest = branch is (branch_by op tail.Place tail_is) far (move_op (two_on at) (rest 1))

    place_first : (bs : List ℕ) → AreBytes bs → at + 1 ≤ 65536 → tail_of (row_of op) ≡ tail.Place → Rest at bs
        → IsListing at (b ∷ bs) (behind at bs (place_piece at b op bs))
    unfolding entries
    place_first [] all fits tail_is rest = let size = length_by op tail.Place tail_is in cut_instruction is (omega (arith, size))
    place_first (c ∷ cs) all fits tail_is rest = reaching_first c cs (target (at + 1) c) (led (at + 1) c fits all.0) tail_is rest

    word_first : (bs : List ℕ) → tail_of (row_of op) ≡ tail.Word → Rest at bs → IsListing at (b ∷ bs) (behind at bs (word_piece b op bs))
    unfolding entries piece
    word_first [] tail_is rest = let size = length_by op tail.Word tail_is in cut_instruction is (omega (arith, size))
    word_first (c ∷ []) tail_is rest = let size = length_by op tail.Word tail_is in cut_instruction is (omega (arith, size))
    word_first (c ∷ d ∷ ds) tail_is rest = instruction_with_word is (length_by op tail.Word tail_is) (move_op (three_on at) (rest 2))

    tail_first : (bs : List ℕ) (t : Tail) → AreBytes bs → at + 1 ≤ 65536 → tail_of (row_of op) ≡ t → Rest at bs
        → IsListing at (b ∷ bs) (behind at bs (tail_piece at b op bs t))
    tail_first bs tail.Nothing all fits tail_is rest = alone_first bs tail_is rest
    tail_first bs tail.Byte all fits tail_is rest = byte_first bs tail_is rest
    tail_first bs tail.Place all fits tail_is rest = place_first bs all fits tail_is rest
    tail_first bs tail.Word all fits tail_is rest = word_first bs tail_is rest

  op_first : (bs : List ℕ) (o : Option Op) → AreBytes bs → at + 1 ≤ 65536 → decoded b ≡ o → Rest at bs
      → IsListing at (b ∷ bs) (behind at bs (op_piece at b bs o))
  op_first bs None all fits is rest = reserved_first bs is rest
  op_first bs (Some op) all fits is rest = tail_first op is bs (tail_of (row_of op)) all fits refl rest

-- ---- all bytes

-- the statements of bytes list those that aren't skipped
list_entries : (skip at : ℕ) (bytes : List ℕ) → AreBytes bytes → at + length bytes ≤ 65536
    → IsListing (at + skip) (drop skip bytes) (entries skip 0 at bytes)
unfolding entries piece
list_entries zero at [] all fits = nothing_left
list_entries (suc skip) at [] all fits = nothing_left
list_entries (suc skip) at (b ∷ bs) all fits = let next : at + 1 + skip ≡ at + suc skip = omega arith in rw next at
    (list_entries skip (at + 1) bs all.1 (omega arith))
list_entries zero at (b ∷ bs) all fits = rw (add-zero at)
    (op_first at b bs (decoded b) all.1 (omega arith) refl (λ skip. list_entries skip (at + 1) bs all.1 (omega arith)))

pub listing_is : (bytes : List ℕ) → AreBytes bytes → length bytes ≤ 65536 → IsListingText bytes (listing bytes)
unfolding listing
listing_is bytes all fits = record { statements = entries 0 0 0 bytes; written = refl; listed = list_entries 0 0 bytes all (omega arith) }
