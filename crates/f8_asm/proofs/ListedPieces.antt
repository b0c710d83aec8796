-- What a listing says of bytes is read as those bytes.
use Rattle.std.proofs.Common.{◌≡◌, ℕ, zero, suc, ◌+◌, ◌-◌, ◌*◌, ◌<◌, ◌≤◌, Bool, true, false, cond, List, [], ◌∷◌, ◌++◌}
use Rattle.std.proofs.Common.{length, drop, Option, Some, None, refl, subst, arith, add-zero, lit<, pos, negsuc, ◌-ℤ◌}
use Rattle.std.specs.Prelude.{nat_lt, nat_le, ◌&&◌, ◌||◌}
use Rattle.std.proofs.lemmas.Int.{ints}
use Rattle.std.proofs.lemmas.Bool.Decides.{nat_tests}
use Rattle.f8_spec.specs.Instructions.{decoded, row_of}
use Rattle.f8_spec.specs.declared.instructions.Op.{Op}
use Rattle.f8_spec.proofs.ValuesBelow.{values_below, same_below}
use Rattle.f8_asm.specs.declared.pieces.Piece.{Piece}
use Rattle.f8_asm.specs.declared.pieces.Tail.{Tail}
use Rattle.f8_asm.specs.declared.pieces.Tail.TheVariants as tail
use Rattle.f8_asm.specs.declared.spelling.Entry.{Entry}
use Rattle.f8_asm.specs.declared.spelling.Entry.TheVariants as entry
use Rattle.f8_asm.specs.Fields.{octet}
use Rattle.f8_asm.specs.Listing.{target, data_piece, byte_piece, reaching, place_piece, word_piece, tail_piece, tail_of, op_piece, piece}
use Rattle.f8_asm.specs.Listing.{entries}
use Rattle.f8_asm.proofs.ListedLines.{line_of, Says}
use Rattle.f8_asm.proofs.ListedBytes.{found, says_alone, says_data, says_byte, says_word, says_mask, says_branch}

-- bytes are below 256
abbrev pub AreBytes : List ℕ → Type 0
AreBytes [] = Unit {0}
AreBytes (b ∷ bs) = (b < 256) × AreBytes bs

-- ---- which opcodes want operand bytes

abbrev has_place : Tail → ℕ → Bool
has_place tail.Nothing b = true
has_place tail.Byte b = nat_le 0x20 b && nat_lt b 0x28
has_place tail.Word b = nat_le 0x28 b && nat_lt b 0x2B
has_place tail.Place b = (nat_le 0x80 b && nat_lt b 0x88) || (nat_le 0x8F b && nat_lt b 0xA0)

abbrev is_placed : Option Op → ℕ → Bool
is_placed None b = true
is_placed (Some what) b = has_place (tail_of (row_of what)) b

-- computed at each byte
all_placed : (b : ℕ) → b < 256 → is_placed (decoded b) b ≡ true
unfolding values_below decoded
all_placed b is_byte = same_below (λ b. is_placed (decoded b) b) (λ b. true) 256 b refl is_byte

placed : (b : ℕ) (what : Op) (t : Tail) → b < 256 → decoded b ≡ Some what → tail_of (row_of what) ≡ t → has_place t b ≡ true
placed b what t is_byte is behind = subst (λ t. has_place t b ≡ true) behind (subst (λ o. is_placed o b ≡ true) is (all_placed b is_byte))

-- what holds of the opcode at a distance holds of the opcode
at_code : (P : Op → ℕ → Type 0) (from b : ℕ) (what : Op) → from ≤ b → decoded b ≡ Some what →
    P (found (decoded (from + (b - from)))) (from + (b - from)) → P what b
at_code P from b what above is holds =
    let same : from + (b - from) ≡ b = omega arith in
    subst (λ o. P (found o) b) is (subst (λ c. P (found (decoded c)) c) same holds)

-- ---- instructions by what stands behind them

plain_line : (b at : ℕ) (what : Op) → b < 256 → decoded b ≡ Some what → tail_of (row_of what) ≡ tail.Nothing → Says at (line_of (entry.Plain what)) (b ∷ [])
plain_line b at what is_byte is behind = subst (λ t. Says at (line_of (tail_piece 0 b what [] t).entry) (b ∷ [])) behind
    (subst (λ o. Says at (line_of (op_piece 0 b [] o).entry) (b ∷ [])) is (says_alone b at is_byte))

byte_line : (b c at : ℕ) (what : Op) → b < 256 → c < 256 → decoded b ≡ Some what → tail_of (row_of what) ≡ tail.Byte →
    Says at (line_of (entry.Byte what c)) (b ∷ c ∷ [])
byte_line b c at what is_byte c_is_byte is behind =
    let test = placed b what tail.Byte is_byte is behind in
    at_code (λ op b. Says at (line_of (entry.Byte op c)) (b ∷ c ∷ [])) 0x20 b what (grind (arith, nat_tests)) is
    (says_byte c c_is_byte (b - 0x20) at (grind (arith, nat_tests)))

word_line : (b c d at : ℕ) (what : Op) → b < 256 → c < 256 → d < 256 → decoded b ≡ Some what →
    tail_of (row_of what) ≡ tail.Word → Says at (line_of (entry.Word what (256 * c + d))) (b ∷ c ∷ d ∷ [])
word_line b c d at what is_byte high low is behind =
    let test = placed b what tail.Word is_byte is behind in
    at_code (λ op b. Says at (line_of (entry.Word op (256 * c + d))) (b ∷ c ∷ d ∷ [])) 0x28 b what
    (grind (arith, nat_tests)) is (says_word c d high low (b - 0x28) at (grind (arith, nat_tests)))

-- a branch to the place w, whose displacement is c
module _ (b c at w : ℕ) (what : Op) (is_byte : b < 256) (is : decoded b ≡ Some what) (word : w < 65536)
    (reaches : octet 127 (pos w -ℤ pos (at + 1)) ≡ Some c) where
  place_of : (low : Bool) → nat_lt b 0x88 ≡ low → has_place tail.Place b ≡ true → Says at (line_of (entry.Word what w)) (b ∷ c ∷ [])
  place_of true test place = at_code (λ op b. Says at (line_of (entry.Word op w)) (b ∷ c ∷ [])) 0x80 b what
      (grind (arith, nat_tests)) is (says_mask w c at word reaches (b - 0x80) (grind (arith, nat_tests)))
  place_of false test place = at_code (λ op b. Says at (line_of (entry.Word op w)) (b ∷ c ∷ [])) 0x8F b what
      (grind (arith, nat_tests)) is (says_branch w c at word reaches (b - 0x8F) (grind (arith, nat_tests)))

  place_line : tail_of (row_of what) ≡ tail.Place → Says at (line_of (entry.Word what w)) (b ∷ c ∷ [])
  place_line behind = place_of (nat_lt b 0x88) refl (placed b what tail.Place is_byte is behind)

-- ---- displacements

-- the displacement that a listed place came from
abbrev Reaches : ℕ → ℕ → Option ℕ → Type 0
Reaches place c None = Unit {0}
Reaches place c (Some w) = (octet 127 (pos w -ℤ pos place) ≡ Some c) × (w < 65536)

forth : (place c : ℕ) → c < 128 → octet 127 (pos (place + c) -ℤ pos place) ≡ Some c
forth place c h = let e : pos (place + c) -ℤ pos place ≡ pos c = omega (arith, ints) in rw e (grind (arith, nat_tests))

back : (place c : ℕ) → 128 ≤ c → c < 256 → 256 ≤ place + c → octet 127 (pos (place + c - 256) -ℤ pos place) ≡ Some c
back place c low high fits = let e : pos (place + c - 256) -ℤ pos place ≡ negsuc (255 - c) = omega (arith, ints) in rw e (grind (arith, nat_tests))

choose : (place c : ℕ) (t : Bool) (p q : Option ℕ) → (t ≡ true → Reaches place c p) → (t ≡ false → Reaches place c q) → Reaches place c (cond t p q)
choose place c true p q first second = first refl
choose place c false p q first second = second refl

reaches : (place c : ℕ) → place ≤ 65536 → c < 256 → Reaches place c (target place c)
reaches place c within byte =
    choose place c (nat_lt c 128) _ _
    (λ low. choose place c (nat_lt (place + c) 65536) (Some (place + c)) None
    (λ fits. (forth place c (grind (arith, nat_tests)), grind (arith, nat_tests))) (λ past. tt))
    (λ high. choose place c (nat_le 256 (place + c)) (Some (place + c - 256)) None
    (λ fits. (back place c (grind (arith, nat_tests)) byte (grind (arith, nat_tests)), grind (arith, nat_tests)))
    (λ below. tt))

-- ---- pieces

-- a piece's line gives the bytes that it takes
record Stands (at b : ℕ) (bs : List ℕ) (p : Piece) : Type 0 where
  front : List ℕ
  says : Says at (line_of p.entry) front
  split : b ∷ bs ≡ front ++ drop (p.length - 1) bs
  size : length front ≡ p.length
  some : 0 < p.length

data_stands : (at b raw : ℕ) (bs : List ℕ) → b < 256 → Stands at b bs (data_piece b raw)
data_stands at b raw bs h = record { front = b ∷ []; says = says_data b at h; split = refl; size = refl; some = lit< tt }

module _ (at b : ℕ) (what : Op) (is_byte : b < 256) (is : decoded b ≡ Some what) where
  byte_stands : (bs : List ℕ) → AreBytes bs → tail_of (row_of what) ≡ tail.Byte → Stands at b bs (byte_piece b what bs)
  byte_stands [] all behind = data_stands at b 0 [] is_byte
  byte_stands (c ∷ cs) all behind = record {
    front = b ∷ c ∷ [];
    says = byte_line b c at what is_byte all.0 is behind;
    split = refl;
    size = refl;
    some = lit< tt;
  }

  reaching_stands : (c : ℕ) (cs : List ℕ) (w : Option ℕ) → Reaches (at + 1) c w → tail_of (row_of what) ≡ tail.Place → Stands at b (c ∷ cs) (reaching b what w)
  reaching_stands c cs None far behind = data_stands at b 1 (c ∷ cs) is_byte
  reaching_stands c cs (Some w) far behind =
      record {
        front = b ∷ c ∷ [];
        says = place_line b c at w what is_byte is far.1 far.0 behind;
        split = refl;
        size = refl;
        some = lit< tt;
      }

  place_stands : (bs : List ℕ) → AreBytes bs → at + 1 ≤ 65536 → tail_of (row_of what) ≡ tail.Place → Stands at b bs (place_piece at b what bs)
  place_stands [] all fits behind = data_stands at b 0 [] is_byte
  place_stands (c ∷ cs) all fits behind = reaching_stands c cs (target (at + 1) c) (reaches (at + 1) c fits all.0) behind

  word_stands : (bs : List ℕ) → AreBytes bs → tail_of (row_of what) ≡ tail.Word → Stands at b bs (word_piece b what bs)
  word_stands [] all behind = data_stands at b 0 [] is_byte
  word_stands (c ∷ []) all behind = data_stands at b 1 (c ∷ []) is_byte
  word_stands (c ∷ d ∷ ds) all behind = record {
    front = b ∷ c ∷ d ∷ [];
    says = word_line b c d at what is_byte all.0 all.1.0 is behind;
    split = refl;
    size = refl;
    some = lit< tt;
  }

  tail_stands : (bs : List ℕ) (t : Tail) → AreBytes bs → at + 1 ≤ 65536 → tail_of (row_of what) ≡ t → Stands at b bs (tail_piece at b what bs t)
  tail_stands bs tail.Nothing all fits behind =
      record {
        front = b ∷ [];
        says = plain_line b at what is_byte is behind;
        split = refl;
        size = refl;
        some = lit< tt;
      }
  tail_stands bs tail.Byte all fits behind = byte_stands bs all behind
  tail_stands bs tail.Place all fits behind = place_stands bs all fits behind
  tail_stands bs tail.Word all fits behind = word_stands bs all behind

op_stands : (at b : ℕ) (bs : List ℕ) (o : Option Op) → b < 256 → AreBytes bs → at + 1 ≤ 65536 → decoded b ≡ o → Stands at b bs (op_piece at b bs o)
op_stands at b bs None is_byte all fits is = data_stands at b 0 bs is_byte
op_stands at b bs (Some what) is_byte all fits is = tail_stands at b what is_byte is bs (tail_of (row_of what)) all fits refl

stands : (raw at b : ℕ) (bs : List ℕ) → b < 256 → AreBytes bs → at + 1 ≤ 65536 → Stands at b bs (piece raw at b bs)
unfolding piece
stands (suc raw) at b bs is_byte all fits = data_stands at b raw bs is_byte
stands zero at b bs is_byte all fits = op_stands at b bs (decoded b) is_byte all fits refl

-- ---- all bytes

-- lines from an address on give these bytes
pub data Coded : ℕ → List Entry → List ℕ → Type 0 where
  coded_none : {at : ℕ} → Coded at [] []
  coded_more : {at : ℕ} {e : Entry} {es : List Entry} {front rest : List ℕ} → Says at (line_of e) front →
      Coded (at + length front) es rest → Coded at (e ∷ es) (front ++ rest)

coded_front : (at b : ℕ) (bs : List ℕ) (p : Piece) (es : List Entry) → Stands at b bs p →
    Coded (at + p.length) es (drop (p.length - 1) bs) → Coded at (p.entry ∷ es) (b ∷ bs)
coded_front at b bs p es here rest =
    let behind : Coded (at + length here.front) es (drop (p.length - 1) bs) = rw here.size rest in
    rw here.split (coded_more here.says behind)

-- the statements of bytes give the bytes that aren't skipped
pub coded_entries : (skip raw at : ℕ) (bytes : List ℕ) → AreBytes bytes → at + length bytes ≤ 65536 →
    Coded (at + skip) (entries skip raw at bytes) (drop skip bytes)
unfolding entries
coded_entries zero raw at [] all fits = coded_none
coded_entries (suc skip) raw at [] all fits = coded_none
coded_entries (suc skip) raw at (b ∷ bs) all fits = let next : at + 1 + skip ≡ at + suc skip = omega arith in
    rw next at (coded_entries skip raw (at + 1) bs all.1 (omega arith))
coded_entries zero raw at (b ∷ bs) all fits =
    let here = stands raw at b bs all.0 all.1 (omega arith) in
    let behind = coded_entries ((piece raw at b bs).length - 1) (piece raw at b bs).raw (at + 1) bs all.1 (omega arith) in
    let next : at + 1 + ((piece raw at b bs).length - 1) ≡ at + (piece raw at b bs).length = omega (arith, here.some) in
    rw (add-zero at) (coded_front at b bs (piece raw at b bs) _ here (rw next at behind))
