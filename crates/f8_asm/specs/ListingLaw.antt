-- What a listing says of bytes: an instruction where one stands, and DB, a line a byte, where none does.
use Rattle.std.specs.Prelude.{◌≡◌, ℕ, ◌+◌, ◌*◌, ◌<◌, ◌≤◌, Bool, true, false, List, [], ◌∷◌, length, map, codes, Some, None}
use Rattle.f8_spec.specs.Instructions.{decoded, row_of, length_of}
use Rattle.f8_spec.specs.declared.instructions.Op.{Op}
use Rattle.f8_spec.specs.declared.instructions.Row.{Row}
use Rattle.f8_spec.specs.declared.instructions.Row.TheVariants as row
use Rattle.f8_asm.specs.declared.spelling.Entry.{Entry}
use Rattle.f8_asm.specs.declared.spelling.Entry.TheVariants.{Data, Plain, Byte, Word}
use Rattle.f8_asm.specs.Listing.{with_entries}

-- the byte behind the opcode is a displacement
abbrev pub is_branch_row : Row → Bool
is_branch_row row.Branch = true
is_branch_row row.BranchIsar = true
is_branch_row other = false

abbrev pub is_branch : Op → Bool
is_branch op = is_branch_row (row_of op)

-- The displacement c at this place leads to the address w: c on from its place, or from 128 on, 256 less. It doesn't wrap.
pub record LeadsTo (place c w : ℕ) : Type 0 where
  pub among : w < 65536
  pub forth : c < 128 → w ≡ place + c
  pub back : 128 ≤ c → w + 256 ≡ place + c

-- these statements list these bytes, of which the first has this address
pub data IsListing : ℕ → List ℕ → List Entry → Type 0 where
  nothing_left : {at : ℕ} → IsListing at [] []
  -- an instruction without operand bytes
  instruction_alone : {at b : ℕ} {op : Op} {bs : List ℕ} {es : List Entry} → decoded b ≡ Some op → length_of op ≡ 1
      → IsListing (at + 1) bs es → IsListing at (b ∷ bs) (Plain op ∷ es)
  -- an instruction with a byte
  instruction_with_byte : {at b c : ℕ} {op : Op} {bs : List ℕ} {es : List Entry} → decoded b ≡ Some op → length_of op ≡ 2
      → is_branch op ≡ false → IsListing (at + 2) bs es → IsListing at (b ∷ c ∷ bs) (Byte op c ∷ es)
  -- an instruction with a word, high byte first
  instruction_with_word : {at b c d : ℕ} {op : Op} {bs : List ℕ} {es : List Entry} → decoded b ≡ Some op → length_of op ≡ 3
      → IsListing (at + 3) bs es → IsListing at (b ∷ c ∷ d ∷ bs) (Word op (256 * c + d) ∷ es)
  -- a branch, with the place that it leads to
  branch : {at b c w : ℕ} {op : Op} {bs : List ℕ} {es : List Entry} → decoded b ≡ Some op → is_branch op ≡ true → LeadsTo (at + 1) c w
      → IsListing (at + 2) bs es → IsListing at (b ∷ c ∷ bs) (Word op w ∷ es)
  -- both bytes of a branch that leads out of the addresses
  branch_astray : {at b c : ℕ} {op : Op} {bs : List ℕ} {es : List Entry} → decoded b ≡ Some op → is_branch op ≡ true
      → ((w : ℕ) → LeadsTo (at + 1) c w → ⊥) → IsListing (at + 2) bs es → IsListing at (b ∷ c ∷ bs) (Data b ∷ Data c ∷ es)
  -- a reserved code
  reserved : {at b : ℕ} {bs : List ℕ} {es : List Entry} → decoded b ≡ None → IsListing (at + 1) bs es → IsListing at (b ∷ bs) (Data b ∷ es)
  -- all that is left, where the end cuts an instruction
  cut_instruction : {at b : ℕ} {op : Op} {bs : List ℕ} → decoded b ≡ Some op → length bs + 1 < length_of op
      → IsListing at (b ∷ bs) (map Data (b ∷ bs))

-- a text is `ORG $0000` and the lines of statements that list these bytes from address 0000 on
pub record IsListingText (bytes text : List ℕ) : Type 0 where
  pub statements : List Entry
  pub written : text ≡ with_entries (codes "ORG $0000\n") statements
  pub listed : IsListing 0 bytes statements
