-- A table that describes a chip gives one that is as a specification has to be, not blank, and with a room for each byte of its source.
use Rattle.std.proofs.Common.{◌≡◌, ℕ, ◌+◌, ◌-◌, ◌%◌, ◌≤◌, Bool, true, false, ◌&&◌, ◌||◌, ◌==◌, List, []}
use Rattle.std.proofs.Common.{length, replicate, Option, Some, None, is_some, Result, Ok, Err, refl, sym, ap, ◌∙◌}
use Rattle.std.proofs.Common.{map, subst, arith, length-append}
use Rattle.std.specs.Prelude.{nat_le, not, option_and_then, option_map, if◌then◌else◌, pos, negsuc, ℤ}
use Rattle.std.specs.List.Sorted.{IsStrictlyIncreasing}
use Rattle.std.proofs.lemmas.Bool.{and_parts, eqb-true, leb-true}
use Rattle.std.proofs.lemmas.List.{length-replicate}
use Rattle.hex.specs.Hex.{decode_of}
use Rattle.hex.specs.declared.error.FromHexError.{FromHexError}
use Rattle.toml.specs.Data.{Data, Members, as_integer}
use Rattle.f8_spec.specs.declared.chips.ChipKind.{ChipKind}
use Rattle.f8_spec.specs.declared.chips.ChipKind.TheVariants as kind
use Rattle.f8_spec.specs.declared.chips.Page.{Page}
use Rattle.f8_spec.specs.declared.chips.PowerOn.{PowerOn}
use Rattle.f8_spec.specs.Powers.{usual_power}
use Rattle.f8_asm.specs.declared.answers.Room.{Room}
use Rattle.chip_face.specs.Fitting.{rom_of as rom_of_spec}
use Rattle.chip_face.specs.declared.specification.ChipSpec.{ChipSpec}
use Rattle.chip_face.specs.declared.specification.ChipSpec.TheVariants.{Psu, Smi, Pio}
use Rattle.cartridge.specs.declared.keys.Key.{Key}
use Rattle.cartridge.specs.declared.keys.Key.TheVariants.{Kind, Base, Ports, Vector, Fill, Rom, Source}
use Rattle.cartridge.specs.declared.format.CartFormat.{CartFormat}
use Rattle.cartridge.specs.declared.refusal.CartCause.{CartCause}
use Rattle.cartridge.specs.declared.refusal.CartCause.TheVariants.{Range, Boundary, BadHex, Both}
use Rattle.cartridge.specs.declared.refusal.KeyFault.{KeyFault}
use Rattle.cartridge.specs.Faults.{◌>>=◌}
use Rattle.cartridge.specs.Keys.{value_at, known, psu_keys, smi_keys}
use Rattle.cartridge.specs.Pages.{pages_of, rom_size_of, rom_span, rom_room}
use Rattle.cartridge.specs.Values.{required_value, optional, value_needed, usually, value_of_type, text, within, number_in, multiple_of}
use Rattle.cartridge.specs.Values.{multiple_in, maybe_number, kind_in, filled, fitting, rom_in, is_file_name, source_named, source_in}
use Rattle.cartridge.specs.Rooms.{room_size, psu_room}
use Rattle.cartridge.specs.Filling.{HasRom, IsPlannedChip, planned_chip, without_image}
use Rattle.cartridge.specs.ChipTables.{DescribedSource, DescribedChip, named_source, source_with, rom_of, mask_of, source_of, wired_of}
use Rattle.cartridge.specs.ChipTables.{start_of}
use Rattle.cartridge.specs.ChipTables.{psu_of, runs_of, smi_with, smi_of, pio_of, known_pio, chip_of_kind, chip_of}
use Rattle.cartridge.proofs.Answered.{bind-ok, if-ok, at_key-ok}
use Rattle.cartridge.proofs.PageNumbers.{pages_of-ascends}

-- ---- what stands before an answer

required_value-ok : {A : Type 0} (P : Type 0) (judge : Data → Result A CartCause) (o : Option Data) (x : A) → required_value judge o ≡ Ok x
    → ((d : Data) → judge d ≡ Ok x → P) → P
required_value-ok P judge None x h k = cc h
required_value-ok P judge (Some d) x h k = k d h

pub optional-ok : {A : Type 0} (P : Type 0) (usual : A) (judge : Data → Result A CartCause) (o : Option Data) (x : A) → optional usual judge o ≡ Ok x
    → (usual ≡ x → P) → ((d : Data) → judge d ≡ Ok x → P) → P
optional-ok P usual judge None x h none k = none (cc h)
optional-ok P usual judge (Some d) x h none k = k d h

-- ---- numbers

pub record IsMultiple (first last step n : ℕ) : Type 0 where
  pub above : first ≤ n
  pub below : n ≤ last
  pub even : n % step ≡ 0

within-ok : (first last : ℕ) (z : ℤ) (n : ℕ) → within first last z ≡ Ok n → (first ≤ n) × (n ≤ last)
within-ok first last (pos m) n h =
    let (t, e) = if-ok (nat_le first m && nat_le m last) m n Range h in
    let both = and_parts (nat_le first m) (nat_le m last) t in
    let above = leb-true first m both.0 in
    let below = leb-true m last both.1 in
    (omega (arith, e, above), omega (arith, e, below))
within-ok first last (negsuc m) n h = cc h

number-ok : (first last : ℕ) (d : Data) (n : ℕ) → number_in first last d ≡ Ok n → (first ≤ n) × (n ≤ last)
number-ok first last d n h =
    bind-ok ((first ≤ n) × (n ≤ last)) (value_of_type (as_integer d)) (within first last) n h (λ z read e. within-ok first last z n e)

multiple-ok : (first last step : ℕ) (d : Data) (n : ℕ) → multiple_in first last step d ≡ Ok n → IsMultiple first last step n
multiple-ok first last step d n h =
    bind-ok (IsMultiple first last step n) (number_in first last d) (multiple_of step) n h
    (λ m read e.
    let (t, same) = if-ok (m % step == 0) m n Boundary e in
    let between = number-ok first last d m read in
    rw (← same) (record { above = between.0; below = between.1; even = eqb-true (m % step) 0 t }))

pub value_needed-multiple : (key : Key) (first last step : ℕ) (table : Members) (n : ℕ) →
    value_needed key (multiple_in first last step) table ≡ Ok n → IsMultiple first last step n
value_needed-multiple key first last step table n h =
    required_value-ok (IsMultiple first last step n) (multiple_in first last step) (value_at key table) n
    (at_key-ok key (required_value (multiple_in first last step) (value_at key table)) n h) (λ d e. multiple-ok first last step d n e)

-- ---- bytes

filled-length : (room : ℕ) (bytes : List ℕ) → length bytes ≤ room → length (filled room bytes) ≡ room
filled-length room bytes few =
    length-append bytes (replicate (room - length bytes) 255)
    ∙ ap (λ (n : ℕ). length bytes + n) (length-replicate (room - length bytes) 255) ∙ omega arith

fitting-length : (room : ℕ) (r : Result (List ℕ) FromHexError) (bytes : List ℕ) → fitting room r ≡ Ok bytes → length bytes ≡ room
fitting-length room (Ok read) bytes h =
    let (t, e) = if-ok (nat_le (length read) room) (filled room read) bytes BadHex h in
    sym (ap length e) ∙ filled-length room read (leb-true (length read) room t)
fitting-length room (Err e) bytes h = cc h

rom_in-length : (room : ℕ) (d : Data) (bytes : List ℕ) → rom_in room d ≡ Ok bytes → length bytes ≡ room
rom_in-length room d bytes h =
    bind-ok (length bytes ≡ room) (text d) (λ digits. fitting room (decode_of digits)) bytes h
    (λ digits read e. fitting-length room (decode_of digits) bytes e)

rom_of-length : (room : ℕ) (table : Members) (bytes : List ℕ) → rom_of room table ≡ Ok bytes → length bytes ≡ room
rom_of-length room table bytes h =
    optional-ok (length bytes ≡ room) (filled room []) (rom_in room) (value_at Rom table) bytes
    (at_key-ok Rom (optional (filled room []) (rom_in room) (value_at Rom table)) bytes h)
    (λ none. sym (ap length none) ∙ filled-length room [] (omega arith))
    (λ d e. rom_in-length room d bytes e)

chosen-length : (t : Bool) (room : ℕ) (rom : Result (List ℕ) KeyFault) (fault : KeyFault) (bytes : List ℕ) → (rom ≡ Ok bytes → length bytes ≡ room)
    → (if t then rom else Err fault) ≡ Ok bytes → length bytes ≡ room
chosen-length true room rom fault bytes size h = size h
chosen-length false room rom fault bytes size h = cc h

mask_of-length : (room : ℕ) (table : Members) (bytes : List ℕ) → mask_of room table ≡ Ok bytes → length bytes ≡ room
mask_of-length room table bytes h =
    chosen-length (is_some (value_at Rom table) || is_some (value_at Source table)) room (rom_of room table) _ bytes (rom_of-length room table bytes) h

-- ---- sources

named-some : (named other : Bool) (name source : List ℕ) → (if not named then Err Range else if other then Err Both else Ok name) ≡ Ok source → named ≡ true
named-some true other name source h = refl
named-some false other name source h = cc h

source_in-some : (size : ℕ) (has_digits : Bool) (d : Data) (name : List ℕ) → source_in size has_digits d ≡ Ok (Some name) → 1 ≤ size
source_in-some size has_digits d name h =
    bind-ok (1 ≤ size) (text d) (λ read. source_named size has_digits read >>= λ source. Ok (Some source)) (Some name) h (λ read at_read h.
    bind-ok (1 ≤ size) (source_named size has_digits read) (λ source. Ok (Some source)) (Some name) h (λ source at_source h.
    leb-true 1 size (and_parts (is_file_name read) (nat_le 1 size)
    (named-some (is_file_name read && nat_le 1 size) has_digits read source at_source)).1))

-- where there is a source, there are addresses
source_of-some : (size : ℕ) (table : Members) (name : List ℕ) → source_of size table ≡ Ok (Some name) → 1 ≤ size
source_of-some size table name h =
    optional-ok (1 ≤ size) None (source_in size (is_some (value_at Rom table))) (value_at Source table) (Some name)
    (at_key-ok Source (optional None (source_in size (is_some (value_at Rom table))) (value_at Source table)) (Some name) h)
    (λ none. cc none)
    (λ d e. source_in-some size (is_some (value_at Rom table)) d name e)

without_image-rom : (spec : ChipSpec) (room : Room) (name : Option (List ℕ)) → ((n : List ℕ) → name ≡ Some n → 1 ≤ room_size room)
    → length (rom_of_spec spec) ≡ room_size room → HasRom spec (option_map without_image (named_source room name))
without_image-rom spec room None there whole = tt
without_image-rom spec room (Some name) there whole =
    let bytes = length-replicate {A = ℕ} (room_size room) 255 in
    let some = there name refl in
    record { rom = bytes ∙ sym whole; room = omega (arith, bytes, some) }

-- the bytes of a source are as many as its room has addresses
source_with-rom : (spec : ChipSpec) (room : Option Room) (table : Members) (source : Option DescribedSource) → source_with room table ≡ Ok source
    → ((r : Room) → room ≡ Some r → length (rom_of_spec spec) ≡ room_size r) → HasRom spec (option_map without_image source)
source_with-rom spec None table source h whole =
    bind-ok (HasRom spec (option_map without_image source)) (source_of 0 table) _ source h (λ name at_name h.
    let e : None ≡ source = cc h in
    subst (λ (s : Option DescribedSource). HasRom spec (option_map without_image s)) e tt)
source_with-rom spec (Some room) table source h whole =
    bind-ok (HasRom spec (option_map without_image source)) (source_of (room_size room) table) _ source h (λ name at_name h.
    let e : named_source room name ≡ source = cc h in
    subst (λ (s : Option DescribedSource). HasRom spec (option_map without_image s)) e
    (without_image-rom spec room name (λ n is. source_of-some (room_size room) table n (at_name ∙ ap Ok is)) (whole room refl)))

-- ---- a 3851

psu-whole : (base ports vector : ℕ) (wired : Bool) (rom : List ℕ) (source : Option DescribedSource) (power : PowerOn) (table : Members)
    → IsMultiple 0 64512 1024 base → IsMultiple 4 252 4 ports → length rom ≡ 1024 → source_with (Some (psu_room base)) table ≡ Ok source
    → IsPlannedChip (planned_chip (record { spec = Psu base rom ports vector wired; source = source; power = power }))
psu-whole base ports vector wired rom source power table space first size at_source =
    record {
      specified = record {
        bytes = size;
        boundary = space.even;
        four_ports = record { above_cpu = first.above; below_end = first.below; boundary = first.even };
      };
      no_blank = refl;
      has_rom = source_with-rom (Psu base rom ports vector wired) (Some (psu_room base)) table source at_source
          (λ r is. let e : psu_room base ≡ r = cc is in size ∙ room_whole base ∙ ap room_size e);
    }
  where
    room_whole : (at : ℕ) → 1024 ≡ room_size (psu_room at)
    room_whole at = omega arith

psu_of-whole : (table : Members) (chip : DescribedChip) → psu_of table ≡ Ok chip → IsPlannedChip (planned_chip chip)
unfolding psu_of
psu_of-whole table chip h =
    bind-ok (IsPlannedChip (planned_chip chip)) (value_needed Base (multiple_in 0 64512 1024) table) _ chip h (λ base at_base h.
    bind-ok (IsPlannedChip (planned_chip chip)) (value_needed Ports (multiple_in 4 252 4) table) _ chip h (λ ports at_ports h.
    bind-ok (IsPlannedChip (planned_chip chip)) (usually Vector 0 (number_in 0 65535) table) _ chip h (λ vector at_vector h.
    bind-ok (IsPlannedChip (planned_chip chip)) (wired_of table) _ chip h (λ wired at_wired h.
    bind-ok (IsPlannedChip (planned_chip chip)) (start_of table) _ chip h (λ start at_start h.
    bind-ok (IsPlannedChip (planned_chip chip)) (mask_of 1024 table) _ chip h (λ rom at_rom h.
    bind-ok (IsPlannedChip (planned_chip chip)) (source_with (Some (psu_room base)) table) _ chip h (λ source at_source h.
    let e : record { spec = Psu base rom ports vector wired; source = source; power = record { fill = None; start = start } } ≡ chip = cc h in
    rw (← e) (psu-whole base ports vector wired rom source (record { fill = None; start = start }) table
    (value_needed-multiple Base 0 64512 1024 table base at_base)
    (value_needed-multiple Ports 4 252 4 table ports at_ports) (mask_of-length 1024 table rom at_rom) at_source))))))))

-- ---- a 3853

-- a room of the ROM pages has an address for each of their bytes
spanned-size : (span : Option Room) (size : ℕ) (room : Room)
    → option_and_then (λ (r : Room). if room_size r == size then Some r else None) span ≡ Some room → room_size room ≡ size
spanned-size None size room h = cc h
spanned-size (Some r) size room h = chosen (room_size r == size) refl h
  where
    chosen : (t : Bool) → (room_size r == size) ≡ t → (if t then Some r else None) ≡ Some room → room_size room ≡ size
    chosen true is h =
        let e : r ≡ room = cc h in
        ap room_size (sym e) ∙ eqb-true (room_size r) size is
    chosen false is h = cc h

rom_room-size : (pages : List Page) (room : Room) → rom_room pages ≡ Some room → room_size room ≡ rom_size_of pages
rom_room-size pages room h = spanned-size (rom_span pages) (rom_size_of pages) room h

smi-whole : (pages : List Page) (wired : Bool) (bytes : List ℕ) (source : Option DescribedSource) (power : PowerOn) (table : Members)
    → IsStrictlyIncreasing (map (λ (p : Page). p.number) pages) → length bytes ≡ rom_size_of pages → source_with (rom_room pages) table ≡ Ok source
    → IsPlannedChip (planned_chip (record { spec = Smi pages bytes wired; source = source; power = power }))
smi-whole pages wired bytes source power table ascends size at_source =
    record {
      specified = record { ascending = ascends; bytes = size };
      no_blank = refl;
      has_rom = source_with-rom (Smi pages bytes wired) (rom_room pages) table source at_source
          (λ r is. size ∙ sym (rom_room-size pages r is));
    }

smi_with-whole : (pages : List Page) (table : Members) (chip : DescribedChip) → IsStrictlyIncreasing (map (λ (p : Page). p.number) pages)
    → smi_with pages table ≡ Ok chip → IsPlannedChip (planned_chip chip)
unfolding smi_with
smi_with-whole pages table chip ascends h =
    bind-ok (IsPlannedChip (planned_chip chip)) (wired_of table) _ chip h (λ wired at_wired h.
    bind-ok (IsPlannedChip (planned_chip chip)) (maybe_number Fill 255 table) _ chip h (λ fill at_fill h.
    bind-ok (IsPlannedChip (planned_chip chip)) (start_of table) _ chip h (λ start at_start h.
    bind-ok (IsPlannedChip (planned_chip chip)) (rom_of (rom_size_of pages) table) _ chip h (λ bytes at_bytes h.
    bind-ok (IsPlannedChip (planned_chip chip)) (source_with (rom_room pages) table) _ chip h (λ source at_source h.
    let e : record { spec = Smi pages bytes wired; source = source; power = record { fill = fill; start = start } } ≡ chip = cc h in
    rw (← e) (smi-whole pages wired bytes source (record { fill = fill; start = start }) table ascends
    (rom_of-length (rom_size_of pages) table bytes at_bytes) at_source))))))

smi_of-whole : (format : CartFormat) (table : Members) (chip : DescribedChip) → smi_of format table ≡ Ok chip → IsPlannedChip (planned_chip chip)
unfolding smi_of
smi_of-whole format table chip h =
    bind-ok (IsPlannedChip (planned_chip chip)) (runs_of format table) _ chip h (λ runs at_runs h.
    smi_with-whole (pages_of runs) table chip (pages_of-ascends runs) h)

-- ---- a 3861

pio-whole : (ports vector : ℕ) (wired : Bool) (power : PowerOn) → IsMultiple 4 252 4 ports
    → IsPlannedChip (planned_chip (record { spec = Pio ports vector wired; source = None; power = power }))
pio-whole ports vector wired power first =
    record {
      specified = record { above_cpu = first.above; below_end = first.below; boundary = first.even };
      no_blank = refl;
      has_rom = tt;
    }

pio_of-whole : (table : Members) (chip : DescribedChip) → pio_of table ≡ Ok chip → IsPlannedChip (planned_chip chip)
unfolding pio_of
pio_of-whole table chip h =
    bind-ok (IsPlannedChip (planned_chip chip)) (value_needed Ports (multiple_in 4 252 4) table) _ chip h (λ ports at_ports h.
    bind-ok (IsPlannedChip (planned_chip chip)) (usually Vector 0 (number_in 0 65535) table) _ chip h (λ vector at_vector h.
    bind-ok (IsPlannedChip (planned_chip chip)) (wired_of table) _ chip h (λ wired at_wired h.
    let e : record { spec = Pio ports vector wired; source = None; power = usual_power } ≡ chip = cc h in
    rw (← e) (pio-whole ports vector wired usual_power (value_needed-multiple Ports 4 252 4 table ports at_ports)))))

-- ---- any

either-whole : (format : CartFormat) (k : ChipKind) (table : Members) (chip : DescribedChip) → chip_of_kind format k table ≡ Ok chip
    → IsPlannedChip (planned_chip chip)
either-whole format kind.Psu table chip h =
    bind-ok (IsPlannedChip (planned_chip chip)) (known (psu_keys format) table) _ chip h (λ _ knows h. psu_of-whole table chip h)
either-whole format kind.Smi table chip h =
    bind-ok (IsPlannedChip (planned_chip chip)) (known (smi_keys format) table) _ chip h (λ _ knows h. smi_of-whole format table chip h)
either-whole format kind.Pio table chip h =
    bind-ok (IsPlannedChip (planned_chip chip)) (known_pio format table) _ chip h (λ _ knows h. pio_of-whole table chip h)

pub chip_of-whole : (format : CartFormat) (table : Members) (chip : DescribedChip) → chip_of format table ≡ Ok chip → IsPlannedChip (planned_chip chip)
unfolding chip_of
chip_of-whole format table chip h =
    bind-ok (IsPlannedChip (planned_chip chip)) (value_needed Kind kind_in table) _ chip h (λ k at_kind h. either-whole format k table chip h)
