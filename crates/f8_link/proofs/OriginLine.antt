-- The line before a module's lines in the one source: it moves to where the module begins, and gives no byte.
use Rattle.std.proofs.Common.{◌≡◌, ℕ, ◌≤◌, ℤ, pos, true, List, Option, None, is_some, Ok, refl, arith}
use Rattle.std.specs.Prelude.{nat_le}
use Rattle.std.proofs.lemmas.Bool.Decides.{nat_tests}
use Rattle.f8_asm.specs.PassTwo.{Layout, moved_to, with_placed}
use Rattle.f8_asm.specs.Statements.{statement, label_of, behind_label}
use Rattle.f8_asm.specs.declared.operands.Operand.{Operand}
use Rattle.f8_asm.specs.declared.operands.Statement.TheVariants.{One}
use Rattle.f8_asm.specs.declared.values.Outcome.{Outcome}
use Rattle.f8_asm.specs.declared.values.Outcome.TheVariants as outcome
use Rattle.f8_asm.specs.declared.words.Single.TheVariants as single
use Rattle.f8_asm.proofs.ListedBytes.{all_open}
use Rattle.f8_link.specs.OneSource.{SourceLine, PlacedSource, renamed_values, source_placed, source_emitted, origin_tokens}

abbrev origin_operand : ℕ → Operand Outcome
origin_operand address = record { column = 6; value = outcome.Value (pos address) }

no_label : (address : ℕ) → label_of (origin_tokens address) ≡ None
unfolding label_of
no_label address = refl

origin_read : (rename : List ℕ → List ℕ) (names : List (List ℕ × ℤ)) (here address : ℕ)
    → statement (renamed_values rename names here) (is_some (label_of (origin_tokens address))) (behind_label (origin_tokens address))
    ≡ Ok (One single.Org (origin_operand address))
unfolding all_open
origin_read rename names here address = refl

-- the line, with any number
abbrev pub origin_source : ℕ → ℕ → SourceLine
origin_source number address = record { rename = λ x. x; number = number; tokens = origin_tokens address }

abbrev pub origin_place : ℕ → ℕ → ℕ → PlacedSource
origin_place number address here = record { address = here; line = origin_source number address }

-- in the second pass
pub origin_placed : (number address : ℕ) (s : Layout PlacedSource) → address ≤ 65535
    → source_placed s (origin_source number address) ≡ Ok (with_placed (origin_place number address s.here) (moved_to address s))
unfolding source_placed
origin_placed number address s low =
    let fits : nat_le address 65535 ≡ true = grind (arith, nat_tests) in
    rw (origin_read (λ x. x) s.names s.here address, no_label address, fits) refl

-- in the third
pub origin_emitted : (names : List (List ℕ × ℤ)) (table : List (Option ℕ)) (number address here : ℕ)
    → source_emitted names table (origin_place number address here) ≡ Ok table
unfolding source_emitted
origin_emitted names table number address here = rw (origin_read (λ x. x) names here address) refl
