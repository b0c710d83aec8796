-- What a described table holds at each key is plain: a number, a text or a truth value, or a list of numbers, of texts or of such tables.
use Rattle.std.proofs.Common.{◌≡◌, ℕ, ◌+◌, ◌≤◌, Bool, true, false, ◌||◌, List, [], ◌∷◌, length, Option, Some, None, Result, Ok, Err, refl}
use Rattle.std.proofs.Common.{ap, ◌∙◌}
use Rattle.std.specs.Prelude.{IsOk, if◌then◌else◌, is_some, nat_le, option_map, option_and_then}
use Rattle.std.specs.Result.{result_ok}
use Rattle.std.proofs.lemmas.Bool.{and_parts}
use Rattle.hex.specs.Hex.{decode_of}
use Rattle.toml.specs.Data.{Data, array, table, Items, no_items, item, Members, as_integer, as_str, as_bool, as_array, as_table}
use Rattle.toml.specs.Data.{members_depth, members_have_valid_dates}
use Rattle.f8_asm.specs.declared.answers.Room.{Room}
use Rattle.f8_spec.specs.declared.chips.ChipKind.{ChipKind}
use Rattle.f8_spec.specs.declared.chips.ChipKind.TheVariants as kind
use Rattle.f8_spec.specs.declared.chips.Page.{Page}
use Rattle.f8_spec.specs.declared.chips.PageSort.{PageSort}
use Rattle.f8_spec.specs.declared.chips.PageSort.TheVariants as sort
use Rattle.chip_face.specs.declared.sizes.TheConstants.{MOST_CHIPS}
use Rattle.cartridge.specs.declared.format.CartFormat.{CartFormat}
use Rattle.cartridge.specs.declared.format.CartFormat.TheVariants.{One, Two}
use Rattle.cartridge.specs.declared.keys.Key.{Key}
use Rattle.cartridge.specs.declared.keys.Key.TheVariants.{Format, Split, Chip, Kind, Base, Ports, Vector, RomPage, RomPages, RamPage}
use Rattle.cartridge.specs.declared.keys.Key.TheVariants.{RamPages, VoidPage, VoidPages, Pages, Interrupt, Fill, Start, Rom, Source}
use Rattle.cartridge.specs.declared.page_run.PageRun.{PageRun}
use Rattle.cartridge.specs.declared.refusal.CartCause.{CartCause}
use Rattle.cartridge.specs.declared.refusal.CartCause.TheVariants.{TooMany}
use Rattle.cartridge.specs.declared.refusal.CartFault.{CartFault}
use Rattle.cartridge.specs.Faults.{◌>>=◌, of_chip}
use Rattle.cartridge.specs.Keys.{value_at, known, top_keys, psu_keys, smi_keys, pio_keys, run_keys}
use Rattle.cartridge.specs.Values.{each, value_needed, usually, value_of_type, text, truth, within, number_in, multiple_of, multiple_in}
use Rattle.cartridge.specs.Values.{maybe_number}
use Rattle.cartridge.specs.Values.{kind_named, kind_in, fitting, rom_in, source_named, source_in, filled, count_of, registers, register}
use Rattle.cartridge.specs.Values.{split_of, split_in, few_tables, tables_in}
use Rattle.cartridge.specs.Pages.{run_at, pages_of, rom_room, rom_size_of}
use Rattle.cartridge.specs.PageTexts.{runs_in}
use Rattle.cartridge.specs.Rooms.{room_size, psu_room}
use Rattle.cartridge.specs.ChipTables.{DescribedChip, DescribedSource, wired_of, source_of, rom_of, mask_of, source_with, start_of, psu_of}
use Rattle.cartridge.specs.ChipTables.{three_runs, runs_of, smi_with, smi_of, pio_of, chip_of_kind, chip_of}
use Rattle.cartridge.specs.Description.{Described, Top, format_numbered, format_in, top_of, chips_from, description_in}
use Rattle.cartridge.specs.DistinctKeys.{are_distinct, entry_is_distinct, entries_are_distinct, list_is_distinct, chips_are_distinct}
use Rattle.cartridge.proofs.Answered.{bind-ok, if-ok, needed-judged, usually-judged}
use Rattle.cartridge.proofs.MigratedChips.{known-ok}
use Rattle.cartridge.proofs.MigratedTables.{of_type-ok, of_chip-ok, top_says}
use Rattle.cartridge.proofs.PlainTables.{IsPlain, AllPlain, ItemsPlain, members_plain, table_plain, integer_plain, text_plain, truth_plain}
use Rattle.cartridge.proofs.PlainTables.{list_plain, PlainAt, PlainAtKeys, plain_all}

-- ---- what is judged well is plain

abbrev Judges : {A : Type 0} → ℕ → (Data → Result A CartCause) → Type 0
Judges {A} n judge = (d : Data) (x : A) → judge d ≡ Ok x → IsPlain n d

number_judges : (n first last : ℕ) → Judges n (number_in first last)
number_judges n first last d x h =
    bind-ok (IsPlain n d) (value_of_type (as_integer d)) (within first last) x h (λ z at_z h. integer_plain n d z (of_type-ok (as_integer d) z at_z))

multiple_judges : (n first last step : ℕ) → Judges n (multiple_in first last step)
multiple_judges n first last step d x h =
    bind-ok (IsPlain n d) (number_in first last d) (multiple_of step) x h (λ m at_m h. number_judges n first last d m at_m)

maybe_judges : (n last : ℕ) → Judges n (λ d. number_in 0 last d >>= λ m. Ok (Some m))
maybe_judges n last d x h =
    bind-ok (IsPlain n d) (number_in 0 last d) (λ m. Ok (Some m)) x h (λ m at_m h. number_judges n 0 last d m at_m)

format_judges : (n : ℕ) → Judges n format_in
format_judges n d x h =
    bind-ok (IsPlain n d) (number_in 1 2 d) (λ m. Ok (format_numbered m)) x h (λ m at_m h. number_judges n 1 2 d m at_m)

truth_judges : (n : ℕ) → Judges n truth
truth_judges n d x h = truth_plain n d x (of_type-ok (as_bool d) x h)

text_judges : (n : ℕ) → Judges n text
text_judges n d x h = text_plain n d x (of_type-ok (as_str d) x h)

kind_judges : (n : ℕ) → Judges n kind_in
kind_judges n d x h = bind-ok (IsPlain n d) (text d) kind_named x h (λ s at_s h. text_judges n d s at_s)

rom_judges : (n room : ℕ) → Judges n (rom_in room)
rom_judges n room d x h = bind-ok (IsPlain n d) (text d) (λ s. fitting room (decode_of s)) x h (λ s at_s h. text_judges n d s at_s)

source_judges : (n room : ℕ) (has_digits : Bool) → Judges n (source_in room has_digits)
source_judges n room has_digits d x h =
    bind-ok (IsPlain n d) (text d) (λ s. source_named room has_digits s >>= λ source. Ok (Some source)) x h (λ s at_s h. text_judges n d s at_s)

-- ---- lists

more_parts : {A : Type 0} (P : Type 0) (o : Option A) (r : Option (List A)) (xs : List A)
    → option_and_then (λ x. option_map (λ ys. x ∷ ys) r) o ≡ Some xs → ((x : A) → o ≡ Some x → (ys : List A) → r ≡ Some ys → P) → P
more_parts P None r xs h k = cc h
more_parts P (Some x) None xs h k = cc h
more_parts P (Some x) (Some ys) xs h k = k x refl ys refl

each_plain : {A : Type 0} (n : ℕ) (part : Data → Option A) → ((d : Data) (x : A) → part d ≡ Some x → IsPlain n d)
    → (ds : Items) (xs : List A) → each part ds ≡ Some xs → ItemsPlain n ds
each_plain n part plain no_items xs h = tt
each_plain n part plain (item d ds) xs h =
    more_parts (ItemsPlain n (item d ds)) (part d) (each part ds) xs h
    (λ x at_x ys at_ys. (plain d x at_x, each_plain n part plain ds ys at_ys))

runs_judges : (n : ℕ) → Judges (n + 1) runs_in
runs_judges n d x h =
    bind-ok (IsPlain (n + 1) d) (value_of_type (as_array d)) _ x h (λ entries at_entries h.
    bind-ok (IsPlain (n + 1) d) (value_of_type (each as_str entries)) _ x h (λ texts at_texts h.
    list_plain n d entries (of_type-ok (as_array d) entries at_entries)
    (each_plain n as_str (text_plain n) entries texts (of_type-ok (each as_str entries) texts at_texts))))

register_read : (r : Result ℕ CartCause) (x : ℕ) → result_ok r ≡ Some x → r ≡ Ok x
register_read (Ok y) x h = cc h
register_read (Err e) x h = cc h

register_plain : (n : ℕ) (d : Data) (x : ℕ) → register d ≡ Some x → IsPlain n d
register_plain n d x h = number_judges n 0 63 d x (register_read (number_in 0 63 d) x h)

registers_read : (P : Type 0) (o : Option (List ℕ)) (rs : List ℕ) → registers o ≡ Ok rs → ((xs : List ℕ) → o ≡ Some xs → P) → P
registers_read P None rs h k = cc h
registers_read P (Some xs) rs h k = k xs refl

chosen : {A E : Type 0} (t : Bool) (r : Result A E) (e : E) (x : A) → (if t then r else Err e) ≡ Ok x → r ≡ Ok x
chosen true r e x h = h
chosen false r e x h = cc h

split_judges : (n : ℕ) → Judges (n + 1) split_in
split_judges n d x h =
    bind-ok (IsPlain (n + 1) d) (value_of_type (as_array d)) split_of x h (λ ds at_ds h.
    registers_read (IsPlain (n + 1) d) (each register ds) x (chosen (nat_le (count_of ds) 8) (registers (each register ds)) TooMany x h) (λ xs at_xs.
    list_plain n d ds (of_type-ok (as_array d) ds at_ds) (each_plain n register (register_plain n) ds xs at_xs)))

-- ---- at a key

usual_plain : {A : Type 0} (n : ℕ) (key : Key) (usual : A) (judge : Data → Result A CartCause) (ms : Members) (x : A) → Judges n judge
    → usually key usual judge ms ≡ Ok x → PlainAt n ms key
usual_plain n key usual judge ms x judges h d there = judges d x (usually-judged key usual judge ms x d h there)

needed_plain : {A : Type 0} (n : ℕ) (key : Key) (judge : Data → Result A CartCause) (ms : Members) (x : A) → Judges n judge
    → value_needed key judge ms ≡ Ok x → PlainAt n ms key
needed_plain n key judge ms x judges h d there = judges d x (needed-judged key judge ms x d h there)

wired_plain : (ms : Members) (x : Bool) → wired_of ms ≡ Ok x → PlainAt 1 ms Interrupt
wired_plain ms x h = usual_plain 1 Interrupt false truth ms x (truth_judges 1) h

maybe_plain : (key : Key) (last : ℕ) (ms : Members) (x : Option ℕ) → maybe_number key last ms ≡ Ok x → PlainAt 1 ms key
maybe_plain key last ms x h = usual_plain 1 key None (λ d. number_in 0 last d >>= λ m. Ok (Some m)) ms x (maybe_judges 1 last) h

rom_plain : (room : ℕ) (ms : Members) (x : List ℕ) → rom_of room ms ≡ Ok x → PlainAt 1 ms Rom
rom_plain room ms x h = usual_plain 1 Rom (filled room []) (rom_in room) ms x (rom_judges 1 room) h

mask_plain : (room : ℕ) (ms : Members) (x : List ℕ) → mask_of room ms ≡ Ok x → PlainAt 1 ms Rom
mask_plain room ms x h = rom_plain room ms x (chosen (is_some (value_at Rom ms) || is_some (value_at Source ms)) (rom_of room ms) _ x h)

name_plain : (size : ℕ) (ms : Members) (x : Option (List ℕ)) → source_of size ms ≡ Ok x → PlainAt 1 ms Source
name_plain size ms x h =
    usual_plain 1 Source None (source_in size (is_some (value_at Rom ms))) ms x (source_judges 1 size (is_some (value_at Rom ms))) h

source_plain : (room : Option Room) (ms : Members) (x : Option DescribedSource) → source_with room ms ≡ Ok x → PlainAt 1 ms Source
source_plain None ms x h = bind-ok (PlainAt 1 ms Source) (source_of 0 ms) _ x h (λ name at_name h. name_plain 0 ms name at_name)
source_plain (Some room) ms x h =
    bind-ok (PlainAt 1 ms Source) (source_of (room_size room) ms) _ x h (λ name at_name h. name_plain (room_size room) ms name at_name)

-- ---- a 3851

psu_keys_plain : (format : CartFormat) (ms : Members) → PlainAt 1 ms Kind → PlainAt 1 ms Interrupt → PlainAt 1 ms Rom → PlainAt 1 ms Source
    → PlainAt 1 ms Base → PlainAt 1 ms Ports → PlainAt 1 ms Vector → PlainAt 1 ms Start → PlainAtKeys 1 ms (psu_keys format)
psu_keys_plain One ms kind interrupt rom source base ports vector start = (kind, (interrupt, (rom, (source, (base, (ports, (vector, tt)))))))
psu_keys_plain Two ms kind interrupt rom source base ports vector start = (kind, (interrupt, (rom, (source, (base, (ports, (vector, (start, tt))))))))

psu_plain : (format : CartFormat) (ms : Members) (c : DescribedChip) → PlainAt 1 ms Kind → psu_of ms ≡ Ok c → PlainAtKeys 1 ms (psu_keys format)
unfolding psu_of
psu_plain format ms c at_kind h =
    bind-ok (PlainAtKeys 1 ms (psu_keys format)) (value_needed Base (multiple_in 0 64512 1024) ms) _ c h (λ base at_base h.
    bind-ok (PlainAtKeys 1 ms (psu_keys format)) (value_needed Ports (multiple_in 4 252 4) ms) _ c h (λ ports at_ports h.
    bind-ok (PlainAtKeys 1 ms (psu_keys format)) (usually Vector 0 (number_in 0 65535) ms) _ c h (λ vector at_vector h.
    bind-ok (PlainAtKeys 1 ms (psu_keys format)) (wired_of ms) _ c h (λ wired at_wired h.
    bind-ok (PlainAtKeys 1 ms (psu_keys format)) (start_of ms) _ c h (λ start at_start h.
    bind-ok (PlainAtKeys 1 ms (psu_keys format)) (mask_of 1024 ms) _ c h (λ rom at_rom h.
    bind-ok (PlainAtKeys 1 ms (psu_keys format)) (source_with (Some (psu_room base)) ms) _ c h (λ source at_source h.
    psu_keys_plain format ms at_kind (wired_plain ms wired at_wired) (mask_plain 1024 ms rom at_rom)
    (source_plain (Some (psu_room base)) ms source at_source)
    (needed_plain 1 Base (multiple_in 0 64512 1024) ms base (multiple_judges 1 0 64512 1024) at_base)
    (needed_plain 1 Ports (multiple_in 4 252 4) ms ports (multiple_judges 1 4 252 4) at_ports)
    (usual_plain 1 Vector 0 (number_in 0 65535) ms vector (number_judges 1 0 65535) at_vector) (maybe_plain Start 65535 ms start at_start))))))))

-- ---- a 3853

run_plain : (s : PageSort) (first count : Key) (earlier : List PageRun) (ms : Members) (run : PageRun) → run_at s first count earlier ms ≡ Ok run
    → PlainAt 1 ms first × PlainAt 1 ms count
run_plain s first count earlier ms run h =
    bind-ok (PlainAt 1 ms first × PlainAt 1 ms count) (usually first 0 (number_in 0 255) ms) _ run h (λ f at_f h.
    bind-ok (PlainAt 1 ms first × PlainAt 1 ms count) (usually count 0 (number_in 0 256) ms) _ run h (λ c at_c h. (
      usual_plain 1 first 0 (number_in 0 255) ms f (number_judges 1 0 255) at_f,
      usual_plain 1 count 0 (number_in 0 256) ms c (number_judges 1 0 256) at_c,
    )))

-- what the runs of a 3853 and its power-on are read from
abbrev own_keys : CartFormat → List Key
own_keys One = run_keys
own_keys Two = Pages ∷ Fill ∷ Start ∷ []

three_plain : (ms : Members) (runs : List PageRun) → three_runs ms ≡ Ok runs → PlainAtKeys 1 ms run_keys
three_plain ms runs h =
    bind-ok (PlainAtKeys 1 ms run_keys) (run_at sort.Rom RomPage RomPages [] ms) _ runs h (λ rom at_rom h.
    bind-ok (PlainAtKeys 1 ms run_keys) (run_at sort.Ram RamPage RamPages (rom ∷ []) ms) _ runs h (λ ram at_ram h.
    bind-ok (PlainAtKeys 1 ms run_keys) (run_at sort.Void VoidPage VoidPages (rom ∷ ram ∷ []) ms) _ runs h (λ void at_void h.
    let of_rom = run_plain sort.Rom RomPage RomPages [] ms rom at_rom in
    let of_ram = run_plain sort.Ram RamPage RamPages (rom ∷ []) ms ram at_ram in
    let of_void = run_plain sort.Void VoidPage VoidPages (rom ∷ ram ∷ []) ms void at_void in
    (of_rom.0, (of_rom.1, (of_ram.0, (of_ram.1, (of_void.0, (of_void.1, tt)))))))))

own_plain : (format : CartFormat) (ms : Members) (runs : List PageRun) → runs_of format ms ≡ Ok runs → PlainAt 1 ms Fill → PlainAt 1 ms Start
    → PlainAtKeys 1 ms (own_keys format)
own_plain One ms runs h fill start = three_plain ms runs h
own_plain Two ms runs h fill start = (usual_plain 1 Pages [] runs_in ms runs (runs_judges 0) h, (fill, (start, tt)))

smi_keys_plain : (format : CartFormat) (ms : Members) → PlainAt 1 ms Kind → PlainAt 1 ms Interrupt → PlainAt 1 ms Rom → PlainAt 1 ms Source
    → PlainAtKeys 1 ms (own_keys format) → PlainAtKeys 1 ms (smi_keys format)
smi_keys_plain One ms kind interrupt rom source own = (kind, (interrupt, (rom, (source, own))))
smi_keys_plain Two ms kind interrupt rom source own = (kind, (interrupt, (rom, (source, own))))

with_plain : (format : CartFormat) (pages : List Page) (ms : Members) (c : DescribedChip) → PlainAt 1 ms Kind
    → (PlainAt 1 ms Fill → PlainAt 1 ms Start → PlainAtKeys 1 ms (own_keys format)) → smi_with pages ms ≡ Ok c → PlainAtKeys 1 ms (smi_keys format)
unfolding smi_with
with_plain format pages ms c at_kind own h =
    bind-ok (PlainAtKeys 1 ms (smi_keys format)) (wired_of ms) _ c h (λ wired at_wired h.
    bind-ok (PlainAtKeys 1 ms (smi_keys format)) (maybe_number Fill 255 ms) _ c h (λ fill at_fill h.
    bind-ok (PlainAtKeys 1 ms (smi_keys format)) (start_of ms) _ c h (λ start at_start h.
    bind-ok (PlainAtKeys 1 ms (smi_keys format)) (rom_of (rom_size_of pages) ms) _ c h (λ rom at_rom h.
    bind-ok (PlainAtKeys 1 ms (smi_keys format)) (source_with (rom_room pages) ms) _ c h (λ source at_source h.
    smi_keys_plain format ms at_kind (wired_plain ms wired at_wired) (rom_plain (rom_size_of pages) ms rom at_rom)
    (source_plain (rom_room pages) ms source at_source)
    (own (maybe_plain Fill 255 ms fill at_fill) (maybe_plain Start 65535 ms start at_start)))))))

smi_plain : (format : CartFormat) (ms : Members) (c : DescribedChip) → PlainAt 1 ms Kind → smi_of format ms ≡ Ok c → PlainAtKeys 1 ms (smi_keys format)
unfolding smi_of
smi_plain format ms c at_kind h =
    bind-ok (PlainAtKeys 1 ms (smi_keys format)) (runs_of format ms) _ c h (λ runs at_runs h.
    with_plain format (pages_of runs) ms c at_kind (own_plain format ms runs at_runs) h)

-- ---- a 3861

pio_plain : (ms : Members) (c : DescribedChip) → PlainAt 1 ms Kind → pio_of ms ≡ Ok c → PlainAtKeys 1 ms pio_keys
unfolding pio_of
pio_plain ms c at_kind h =
    bind-ok (PlainAtKeys 1 ms pio_keys) (value_needed Ports (multiple_in 4 252 4) ms) _ c h (λ ports at_ports h.
    bind-ok (PlainAtKeys 1 ms pio_keys) (usually Vector 0 (number_in 0 65535) ms) _ c h (λ vector at_vector h.
    bind-ok (PlainAtKeys 1 ms pio_keys) (wired_of ms) _ c h (λ wired at_wired h. (
      at_kind,
      (
        wired_plain ms wired at_wired,
        (
          needed_plain 1 Ports (multiple_in 4 252 4) ms ports (multiple_judges 1 4 252 4) at_ports,
          (usual_plain 1 Vector 0 (number_in 0 65535) ms vector (number_judges 1 0 65535) at_vector, tt),
        ),
      ),
    ))))

pio_in_plain : (format : CartFormat) (ms : Members) (c : DescribedChip) → PlainAt 1 ms Kind → are_distinct ms ≡ true
    → chip_of_kind format kind.Pio ms ≡ Ok c → AllPlain 1 ms
pio_in_plain One ms c at_kind distinct h = cc h
pio_in_plain Two ms c at_kind distinct h =
    bind-ok (AllPlain 1 ms) (known pio_keys ms) _ c h (λ u knows h.
    plain_all 1 pio_keys ms (known-ok pio_keys ms u knows) distinct (pio_plain ms c at_kind h))

-- ---- a chip

either_plain : (format : CartFormat) (k : ChipKind) (ms : Members) (c : DescribedChip) → PlainAt 1 ms Kind → are_distinct ms ≡ true
    → chip_of_kind format k ms ≡ Ok c → AllPlain 1 ms
either_plain format kind.Psu ms c at_kind distinct h =
    bind-ok (AllPlain 1 ms) (known (psu_keys format) ms) _ c h (λ u knows h.
    plain_all 1 (psu_keys format) ms (known-ok (psu_keys format) ms u knows) distinct (psu_plain format ms c at_kind h))
either_plain format kind.Smi ms c at_kind distinct h =
    bind-ok (AllPlain 1 ms) (known (smi_keys format) ms) _ c h (λ u knows h.
    plain_all 1 (smi_keys format) ms (known-ok (smi_keys format) ms u knows) distinct (smi_plain format ms c at_kind h))
either_plain format kind.Pio ms c at_kind distinct h = pio_in_plain format ms c at_kind distinct h

chip_plain : (format : CartFormat) (ms : Members) (c : DescribedChip) → are_distinct ms ≡ true → chip_of format ms ≡ Ok c → AllPlain 1 ms
unfolding chip_of
chip_plain format ms c distinct h =
    bind-ok (AllPlain 1 ms) (value_needed Kind kind_in ms) _ c h (λ k at_kind h.
    either_plain format k ms c (needed_plain 1 Kind kind_in ms k (kind_judges 1) at_kind) distinct h)

-- ---- the list of chips

more_tables_read : (P : Type 0) (o : Option Members) (r : Option (List Members)) (tables : List Members)
    → option_and_then (λ x. option_map (λ ys. x ∷ ys) r) o ≡ Some tables
    → ((ms : Members) → o ≡ Some ms → (rest : List Members) → r ≡ Some rest → ms ∷ rest ≡ tables → P) → P
more_tables_read P None r tables h k = cc h
more_tables_read P (Some ms) None tables h k = cc h
more_tables_read P (Some ms) (Some rest) tables h k = k ms refl rest refl (cc h)

entry_plain : (d : Data) (ms : Members) → as_table d ≡ Some ms → entry_is_distinct d ≡ true → (are_distinct ms ≡ true → AllPlain 1 ms) → IsPlain 2 d
entry_plain (table rs) ms h distinct plain =
    let same : rs ≡ ms = cc h in rw same (table_plain 1 ms (plain (rw same at distinct)))
entry_plain _ ms h distinct plain = cc h

chips_plain : (format : CartFormat) (i : ℕ) (ds : Items) (tables : List Members) (chips : List DescribedChip) → each as_table ds ≡ Some tables
    → chips_from format i tables ≡ Ok chips → entries_are_distinct ds ≡ true → ItemsPlain 2 ds
unfolding chips_from
chips_plain format i no_items tables chips read h distinct = tt
chips_plain format i (item d ds) tables chips read h distinct =
    let (here, more) = and_parts (entry_is_distinct d) (entries_are_distinct ds) distinct in
    more_tables_read (ItemsPlain 2 (item d ds)) (as_table d) (each as_table ds) tables read (λ ms at_ms rest at_rest same.
    let told : chips_from format i (ms ∷ rest) ≡ Ok chips = ap (chips_from format i) same ∙ h in
    bind-ok (ItemsPlain 2 (item d ds)) (of_chip (Some i) (chip_of format ms)) _ chips told (λ c at_c told.
    bind-ok (ItemsPlain 2 (item d ds)) (chips_from format (i + 1) rest) _ chips told (λ cs at_cs told. (
      entry_plain d ms at_ms here (λ apart. chip_plain format ms c apart (of_chip-ok (Some i) (chip_of format ms) c at_c)),
      chips_plain format (i + 1) ds rest cs at_rest at_cs more,
    ))))

list_here : (d : Data) (ds : Items) → as_array d ≡ Some ds → list_is_distinct d ≡ true → entries_are_distinct ds ≡ true
list_here (array es) ds h distinct = let same : es ≡ ds = cc h in rw (← same) distinct
list_here _ ds h distinct = cc h

chips_at_plain : (format : CartFormat) (ms : Members) (tables : List Members) (chips : List DescribedChip)
    → usually Chip [] tables_in ms ≡ Ok tables → chips_from format 0 tables ≡ Ok chips → chips_are_distinct (value_at Chip ms) ≡ true → PlainAt 3 ms Chip
chips_at_plain format ms tables chips at_tables h distinct d there =
    let apart : list_is_distinct d ≡ true = rw there at distinct in
    bind-ok (IsPlain 3 d) (value_of_type (as_array d)) _ tables (usually-judged Chip [] tables_in ms tables d at_tables there) (λ ds at_ds read.
    bind-ok (IsPlain 3 d) (value_of_type (each as_table ds)) few_tables tables read (λ ts at_ts few.
    let same : ts ≡ tables = (if-ok (nat_le (length ts) MOST_CHIPS) ts tables TooMany few).1 in
    let is_list = of_type-ok (as_array d) ds at_ds in
    list_plain 2 d ds is_list (chips_plain format 0 ds tables chips (of_type-ok (each as_table ds) ts at_ts ∙ ap Some same) h
    (list_here d ds is_list apart))))

-- ---- the whole description

cart_plain : (ms : Members) (top : Top) (chips : List DescribedChip) → top_of ms ≡ Ok top → chips_from top.format 0 top.tables ≡ Ok chips
    → are_distinct ms ≡ true → chips_are_distinct (value_at Chip ms) ≡ true → AllPlain 3 ms
cart_plain ms top chips at_top h distinct apart =
    let says = top_says ms top at_top in
    plain_all 3 top_keys ms says.knows distinct (
      needed_plain 3 Format format_in ms top.format (format_judges 3) says.format,
      (
        usual_plain 3 Split [] split_in ms top.split (split_judges 2) says.split,
        (chips_at_plain top.format ms top.tables chips says.tables h apart, tt),
      ),
    )

described_plain : (ms : Members) (cart : Described) → description_in ms ≡ Ok cart → are_distinct ms ≡ true
    → chips_are_distinct (value_at Chip ms) ≡ true → (members_depth ms ≤ 3) × (members_have_valid_dates ms ≡ true)
unfolding description_in
described_plain ms cart h distinct apart =
    bind-ok ((members_depth ms ≤ 3) × (members_have_valid_dates ms ≡ true)) (of_chip None (top_of ms)) _ cart h (λ top at_top h.
    bind-ok ((members_depth ms ≤ 3) × (members_have_valid_dates ms ≡ true)) (chips_from top.format 0 top.tables) _ cart h (λ chips at_chips h.
    members_plain 3 ms (cart_plain ms top chips (of_chip-ok None (top_of ms) top at_top) at_chips distinct apart)))

accepted_at : (r : Result Described CartFault) (ms : Members) → description_in ms ≡ r → IsOk r → are_distinct ms ≡ true
    → chips_are_distinct (value_at Chip ms) ≡ true → (members_depth ms ≤ 3) × (members_have_valid_dates ms ≡ true)
accepted_at (Ok cart) ms at accepted distinct apart = described_plain ms cart at distinct apart
accepted_at (Err fault) ms at accepted distinct apart = cc accepted

pub accepted_plain : (ms : Members) → IsOk (description_in ms) → are_distinct ms ≡ true → chips_are_distinct (value_at Chip ms) ≡ true
    → (members_depth ms ≤ 3) × (members_have_valid_dates ms ≡ true)
accepted_plain ms accepted distinct apart = accepted_at (description_in ms) ms refl accepted distinct apart
