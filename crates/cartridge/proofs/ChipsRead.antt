-- The chips of tables, one table after another.
use Rattle.std.proofs.Common.{◌≡◌, ℕ, ◌+◌, ◌<◌, List, [], ◌∷◌, ◌++◌, length, drop, get_or, Some, Result, Ok, Err, refl}
use Rattle.std.proofs.Common.{sym, ap, ◌∙◌, arith, append_assoc, append-nil}
use Rattle.std.proofs.lemmas.List.{at_drop_more, at_drop_all}
use Rattle.toml.specs.Data.{Members}
use Rattle.cartridge.specs.declared.format.CartFormat.{CartFormat}
use Rattle.cartridge.specs.declared.refusal.CartFault.{CartFault}
use Rattle.cartridge.specs.declared.refusal.KeyFault.{KeyFault}
use Rattle.text_lines.specs.declared.read_error.ReadError.{ReadError}
use Rattle.text_lines.specs.declared.read_error.ReadError.TheVariants as stop
use Rattle.cartridge.specs.Faults.{◌>>=◌, of_chip, answer_at}
use Rattle.text_lines.specs.ReadErrors.{SaysSeen}
use Rattle.cartridge.specs.ChipTables.{DescribedChip, chip_of}
use Rattle.cartridge.specs.Description.{chips_from}
use Rattle.cartridge.specs.Plans.{seen_chip}

abbrev behind : List DescribedChip → Result (List DescribedChip) CartFault → Result (List DescribedChip) CartFault
behind xs rest = rest >>= λ more. Ok (xs ++ more)

-- the chips of the first i tables, and behind them those of the others
abbrev pub HasChips : CartFormat → List Members → ℕ → List DescribedChip → Type 0
HasChips format all i xs = chips_from format 0 all ≡ behind xs (chips_from format i (drop i all))

behind_none : (rest : Result (List DescribedChip) CartFault) → rest ≡ behind [] rest
behind_none (Ok more) = refl
behind_none (Err f) = refl

pub chips_none : (format : CartFormat) (all : List Members) → HasChips format all 0 []
chips_none format all = behind_none (chips_from format 0 all)

abbrev first_then : CartFormat → ℕ → List Members → Result DescribedChip KeyFault → Result (List DescribedChip) CartFault
first_then format i rest chip = of_chip (Some i) chip >>= λ c. chips_from format (i + 1) rest >>= λ chips. Ok (c ∷ chips)

cons_chip : (format : CartFormat) (i : ℕ) (t : Members) (rest : List Members) → chips_from format i (t ∷ rest) ≡ first_then format i rest (chip_of format t)
unfolding chips_from
cons_chip format i t rest = refl

at_table : (format : CartFormat) (all : List Members) (i : ℕ) (t : Members) → i < length all → get_or all i t ≡ t
    → chips_from format i (drop i all) ≡ first_then format i (drop (i + 1) all) (chip_of format t)
at_table format all i t within at =
    at_drop_more (chips_from format i) all i t within
    ∙ ap (λ (u : Members). chips_from format i (u ∷ drop (i + 1) all)) at
    ∙ cons_chip format i t (drop (i + 1) all)

behind_nested : (xs : List DescribedChip) (x : DescribedChip) (rest : Result (List DescribedChip) CartFault)
    → behind xs (rest >>= λ more. Ok (x ∷ more)) ≡ behind (xs ++ x ∷ []) rest
behind_nested xs x (Err f) = refl
behind_nested xs x (Ok more) = ap Ok (sym (append_assoc xs (x ∷ []) more))

pub chips_more : (format : CartFormat) (all : List Members) (i : ℕ) (t : Members) (x : DescribedChip) (xs : List DescribedChip)
    → i < length all → get_or all i t ≡ t → chip_of format t ≡ Ok x → HasChips format all i xs → HasChips format all (i + 1) (xs ++ x ∷ [])
chips_more format all i t x xs within at is held =
    let here : chips_from format i (drop i all) ≡ first_then format i (drop (i + 1) all) (Ok x) =
    at_table format all i t within at ∙ ap (first_then format i (drop (i + 1) all)) is in
    held ∙ ap (behind xs) here ∙ behind_nested xs x (chips_from format (i + 1) (drop (i + 1) all))

pub chips_bad : (format : CartFormat) (all : List Members) (i : ℕ) (t : Members) (f : KeyFault) (xs : List DescribedChip)
    → i < length all → get_or all i t ≡ t → chip_of format t ≡ Err f → HasChips format all i xs
    → chips_from format 0 all ≡ Err (record { chip = Some i; key = f.key; cause = f.cause })
chips_bad format all i t f xs within at is held =
    let here : chips_from format i (drop i all) ≡ first_then format i (drop (i + 1) all) (Err f) =
    at_table format all i t within at ∙ ap (first_then format i (drop (i + 1) all)) is in
    held ∙ ap (behind xs) here

none_left : (format : CartFormat) (i : ℕ) → chips_from format i [] ≡ Ok []
unfolding chips_from
none_left format i = refl

pub chips_all : (format : CartFormat) (all : List Members) (i : ℕ) (xs : List DescribedChip) → i ≡ length all → HasChips format all i xs
    → chips_from format 0 all ≡ Ok xs
chips_all format all i xs at held =
    held ∙ at_drop_all (λ (rest : List Members). behind xs (chips_from format i rest)) all i (omega arith)
    ∙ ap (behind xs) (none_left format i) ∙ ap Ok (append-nil xs)

-- a table that isn't read to its end ends the description
pub chips_stop : {A : Type 0} (format : CartFormat) (seen : A → List DescribedChip) (all : List Members) (i : ℕ) (t : Members) (s : ReadError KeyFault)
    (xs : List DescribedChip) → i < length all
    → get_or all i t ≡ t → SaysSeen seen_chip (Err s) (chip_of format t) → HasChips format all i xs →
    SaysSeen seen (Err (answer_at (Some i) s)) (chips_from format 0 all)
chips_stop format seen all i t (stop.Fault f) xs within at is held = chips_bad format all i t f xs within at is held
chips_stop format seen all i t stop.Memory xs within at is held = tt
