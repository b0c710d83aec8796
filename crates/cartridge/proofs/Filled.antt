-- Bytes that are put one after another stand at their addresses.
use Rattle.std.proofs.Common.{◌≡◌, ℕ, zero, suc, ◌+◌, ◌-◌, ◌<◌, ◌≤◌, Bool, true, false, cond, List, [], ◌∷◌, length, set, Option, Some}
use Rattle.std.proofs.Common.{None, refl, ◌∙◌, arith}
use Rattle.std.specs.Prelude.{◌≢◌, ◌==◌, option_map, option_and_then, slice_get, slice_index, unwrap_or, IsSomeAnd}
use Rattle.std.proofs.lemmas.Bool.Decides.{nat_tests}
use Rattle.std.proofs.lemmas.List.{length-set, get_or-set_other}
use Rattle.std.proofs.lemmas.Grind.{get_or-set_at}
use Rattle.std.proofs.lemmas.List.Elements.{All-head, All-tail}
use Rattle.f8_asm.specs.declared.answers.Room.{Room}
use Rattle.cartridge.specs.Filled.{or_else, image_byte, HasImage, IsFilledChip, IsFilled}
use Rattle.cartridge.specs.Filling.{PlannedSource, PlannedChip, Planned, HasRoomFor, rom_with, filled_source, filled_chip, with_change_at}
use Rattle.cartridge.specs.Filling.{filled_plan}
use Rattle.cartridge.specs.Rooms.{LiesIn}

-- ---- the bytes of a ROM

length-rom_with : (first : ℕ) (bs : List (ℕ × ℕ)) (rom : List ℕ) → length (rom_with first bs rom) ≡ length rom
length-rom_with first [] rom = refl
length-rom_with first (b ∷ bs) rom = length-rom_with first bs (set rom (b.0 - first) b.1) ∙ length-set rom (b.0 - first) b.1

-- one byte is put before others
byte_before : (own : Bool) (later : Option ℕ) (rom : List ℕ) (place at v : ℕ) → (own ≡ true → at ≡ place) → (own ≡ false → at ≢ place) → at < length rom
    → unwrap_or later (slice_index (set rom place v) at) ≡ unwrap_or (or_else later (cond own (Some v) None)) (slice_index rom at)
byte_before own (Some b) rom place at v same other within = refl
byte_before true None rom place at v same other within =
    let e = same refl in
    get_or-set_at rom place at v 0 e (omega arith)
byte_before false None rom place at v same other within = get_or-set_other rom place at v 0 (other refl)

byte-rom_with : (room : Room) (bs : List (ℕ × ℕ)) (rom : List ℕ) (address : ℕ) → LiesIn room bs → room.first ≤ address → address < room.first + length rom
    → slice_index (rom_with room.first bs rom) (address - room.first) ≡ unwrap_or (image_byte bs address) (slice_index rom (address - room.first))
byte-rom_with room [] rom address inside above below = refl
byte-rom_with room (b ∷ bs) rom address inside above below =
    let head = All-head (λ (b : ℕ × ℕ). (room.first ≤ b.0) × (b.0 ≤ room.last)) b bs inside in
    let size = length-set rom (b.0 - room.first) b.1 in
    byte-rom_with room bs (set rom (b.0 - room.first) b.1) address
    (All-tail (λ (b : ℕ × ℕ). (room.first ≤ b.0) × (b.0 ≤ room.last)) b bs inside) above
    (omega (arith, size, below))
    ∙ byte_before (b.0 == address) (image_byte bs address) rom (b.0 - room.first) (address - room.first) b.1
    (λ t. same_place b.0 t) (λ t. other_place b.0 head.0 t) (omega (arith, above, below))
  where
    same_place : (place : ℕ) → (place == address) ≡ true → address - room.first ≡ place - room.first
    same_place place t = grind (arith, nat_tests)

    other_place : (place : ℕ) → room.first ≤ place → (place == address) ≡ false → address - room.first ≢ place - room.first
    other_place place from t same = grind (arith, nat_tests)

source_filled : (bytes : List (ℕ × ℕ)) (s : PlannedSource) → LiesIn s.source.room bytes → HasImage bytes s (filled_source bytes s)
source_filled bytes s inside = record {
  source = refl;
  filled = refl;
  size = length-rom_with s.source.room.first bytes s.bytes;
  each = λ address above below. byte-rom_with s.source.room bytes s.bytes address inside above below;
}

-- ---- the chips of a plan

length-with_change_at : {A : Type 0} (change : A → A) (place : ℕ) (xs : List A) → length (with_change_at change place xs) ≡ length xs
length-with_change_at change place [] = refl
length-with_change_at change zero (x ∷ xs) = refl
length-with_change_at change (suc place) (x ∷ xs) = let rest = length-with_change_at change place xs in omega (arith, rest)

changed_other : {A : Type 0} (change : A → A) (place other : ℕ) (xs : List A) → other ≢ place →
    slice_get (with_change_at change place xs) other ≡ slice_get xs other
changed_other change place other [] differs = refl
changed_other change zero zero (x ∷ xs) differs = absurd (differs refl)
changed_other change zero (suc other) (x ∷ xs) differs = refl
changed_other change (suc place) zero (x ∷ xs) differs = refl
changed_other change (suc place) (suc other) (x ∷ xs) differs = changed_other change place other xs (λ same. differs (omega arith))

own_changed : (bytes : List (ℕ × ℕ)) (place : ℕ) (chips : List PlannedChip)
    → IsSomeAnd (option_and_then (λ (c : PlannedChip). option_map (λ (s : PlannedSource). s.source) c.source)
    (slice_get chips place)) (λ s. LiesIn s.room bytes)
    → IsSomeAnd (slice_get chips place) (λ c. IsSomeAnd (slice_get (with_change_at (filled_chip bytes) place chips) place) (λ d. IsFilledChip bytes c d))
own_changed bytes place [] room = room
own_changed bytes (suc place) (c ∷ chips) room = own_changed bytes place chips room
own_changed bytes zero (c ∷ chips) room = record { spec = refl; rom = of_source c.source room }
  where
    of_source : (source : Option PlannedSource) → IsSomeAnd (option_map (λ (s : PlannedSource). s.source) source) (λ s. LiesIn s.room bytes)
        → IsSomeAnd source (λ s. IsSomeAnd (option_map (filled_source bytes) source) (λ t. HasImage bytes s t))
    of_source None room = room
    of_source (Some s) room = source_filled bytes s room

pub plan_filled : (plan : Planned) (chip : ℕ) (bytes : List (ℕ × ℕ)) → HasRoomFor plan chip bytes → IsFilled plan chip bytes (filled_plan plan chip bytes)
plan_filled plan chip bytes room = record {
  split = refl;
  powers = refl;
  size = length-with_change_at (filled_chip bytes) chip plan.chips;
  others = λ place differs. changed_other (filled_chip bytes) chip place plan.chips differs;
  own = own_changed bytes chip plan.chips room;
}
