-- What holds of every plan holds of the plan of a description.
use Rattle.std.proofs.Common.{◌≡◌, ℕ, ◌+◌, ◌≤◌, List, [], ◌∷◌, length, map, Option, Some, None, subst, Result, Ok, Err, refl, sym, ◌∙◌}
use Rattle.std.proofs.Common.{arith}
use Rattle.std.specs.Prelude.{All, nat_le}
use Rattle.std.proofs.lemmas.Bool.{leb-true}
use Rattle.std.proofs.lemmas.List.{length-map}
use Rattle.std.proofs.lemmas.List.Elements.{All-nil, All-cons}
use Rattle.toml.specs.Data.{Data, Members, as_array, as_table}
use Rattle.chip_face.specs.declared.sizes.TheConstants.{MOST_CHIPS}
use Rattle.cartridge.specs.declared.format.CartFormat.{CartFormat}
use Rattle.cartridge.specs.declared.keys.Key.TheVariants.{Format, Split, Chip}
use Rattle.cartridge.specs.declared.refusal.CartCause.TheVariants.{TooMany}
use Rattle.cartridge.specs.declared.refusal.KeyFault.{KeyFault}
use Rattle.cartridge.specs.Faults.{of_chip}
use Rattle.cartridge.specs.Keys.{known, top_keys, value_at}
use Rattle.cartridge.specs.Values.{value_needed, usually, optional, split_in, value_of_type, each, few_tables, tables_in}
use Rattle.cartridge.specs.ChipTables.{DescribedChip, chip_of}
use Rattle.cartridge.specs.Description.{Described, Top, format_in, top_of, chips_from, description_in}
use Rattle.cartridge.specs.Filling.{PlannedChip, IsPlannedChip, IsPlan, IsWholePlan, planned_chip, power_of, plan_without_images}
use Rattle.cartridge.proofs.Answered.{bind-ok, if-ok, at_key-ok}
use Rattle.cartridge.proofs.Specified.{optional-ok, chip_of-whole}

of_chip-ok : {A : Type 0} (chip : Option ℕ) (r : Result A KeyFault) (x : A) → of_chip chip r ≡ Ok x → r ≡ Ok x
of_chip-ok chip (Ok y) x h = cc h
of_chip-ok chip (Err f) x h = cc h

record ArePlanned (count : ℕ) (chips : List PlannedChip) : Type 0 where
  size : length chips ≡ count
  each : All IsPlannedChip chips

none_planned : ArePlanned 0 []
none_planned = record { size = refl; each = All-nil IsPlannedChip }

cons_planned : (count : ℕ) (chip : PlannedChip) (chips : List PlannedChip) → IsPlannedChip chip → ArePlanned count chips → ArePlanned (count + 1) (chip ∷ chips)
cons_planned count chip chips one more =
    let rest = more.size in record { size = omega (arith, rest); each = All-cons IsPlannedChip chip chips one more.each }

chips-whole : (format : CartFormat) (i : ℕ) (tables : List Members) (chips : List DescribedChip) → chips_from format i tables ≡ Ok chips →
    ArePlanned (length tables) (map planned_chip chips)
unfolding chips_from
chips-whole format i [] chips h =
    let e : [] ≡ chips = cc h in
    rw (← e) none_planned
chips-whole format i (table ∷ tables) chips h =
    bind-ok (ArePlanned (length (table ∷ tables)) (map planned_chip chips)) (of_chip (Some i) (chip_of format table)) _ chips h (λ chip at_chip h.
    bind-ok (ArePlanned (length (table ∷ tables)) (map planned_chip chips)) (chips_from format (i + 1) tables) _ chips h (λ more at_more h.
    let e : chip ∷ more ≡ chips = cc h in
    let longer : length tables + 1 ≡ length (table ∷ tables) = omega arith in
    let one = chip_of-whole format table chip (of_chip-ok (Some i) (chip_of format table) chip at_chip) in
    subst (λ (cs : List DescribedChip). ArePlanned (length (table ∷ tables)) (map planned_chip cs)) e
    (subst (λ (n : ℕ). ArePlanned n (map planned_chip (chip ∷ more))) longer
    (cons_planned (length tables) (planned_chip chip) (map planned_chip more) one (chips-whole format (i + 1) tables more at_more)))))

-- ---- at most `MOST_CHIPS`

tables-few : (d : Data) (tables : List Members) → tables_in d ≡ Ok tables → length tables ≤ MOST_CHIPS
tables-few d tables h =
    bind-ok (length tables ≤ MOST_CHIPS) (value_of_type (as_array d)) _ tables h (λ ds at_ds h.
    bind-ok (length tables ≤ MOST_CHIPS) (value_of_type (each as_table ds)) few_tables tables h (λ all at_all h.
    let (t, e) = if-ok (nat_le (length all) MOST_CHIPS) all tables TooMany h in
    subst (λ (ts : List Members). length ts ≤ MOST_CHIPS) e (leb-true (length all) MOST_CHIPS t)))

top-few : (table : Members) (top : Top) → top_of table ≡ Ok top → length top.tables ≤ MOST_CHIPS
unfolding top_of
top-few table top h =
    bind-ok (length top.tables ≤ MOST_CHIPS) (known top_keys table) _ top h (λ _ at_known h.
    bind-ok (length top.tables ≤ MOST_CHIPS) (value_needed Format format_in table) _ top h (λ format at_format h.
    bind-ok (length top.tables ≤ MOST_CHIPS) (usually Split [] split_in table) _ top h (λ split at_split h.
    bind-ok (length top.tables ≤ MOST_CHIPS) (usually Chip [] tables_in table) _ top h (λ tables at_tables h.
    let e : tables ≡ top.tables = cc h in
    subst (λ (ts : List Members). length ts ≤ MOST_CHIPS) e
    (optional-ok (length tables ≤ MOST_CHIPS) [] tables_in (value_at Chip table) tables
    (at_key-ok Chip (optional [] tables_in (value_at Chip table)) tables at_tables)
    (λ none. subst (λ (ts : List Members). length ts ≤ MOST_CHIPS) none (omega arith))
    (λ d at_list. tables-few d tables at_list))))))

both-mapped : (chips : List DescribedChip) → length (map power_of chips) ≡ length (map planned_chip chips)
both-mapped chips = length-map chips power_of ∙ sym (length-map chips planned_chip)

pub described_whole : (table : Members) (cart : Described) → description_in table ≡ Ok cart → IsWholePlan (plan_without_images cart)
unfolding description_in
described_whole table cart h =
    bind-ok (IsWholePlan (plan_without_images cart)) (of_chip None (top_of table)) _ cart h (λ top at_top h.
    bind-ok (IsWholePlan (plan_without_images cart)) (chips_from top.format 0 top.tables) _ cart h (λ chips at_chips h.
    let e : chips ≡ cart.chips = cc h in
    let all = chips-whole top.format 0 top.tables chips at_chips in
    let few = top-few table top (of_chip-ok None (top_of table) top at_top) in
    let size = all.size in
    record {
      chips = subst (λ (cs : List DescribedChip). IsPlan (map planned_chip cs)) e (record { few = omega (arith, size, few); each = all.each });
      paired = both-mapped cart.chips;
    }))
