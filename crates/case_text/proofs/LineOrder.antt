-- A line that is behind another one as a text is at no earlier address.
use Rattle.std.proofs.Common.{◌≡◌, ℕ, ◌/◌, ◌%◌, ◌<◌, ◌≤◌, Bool, true, ◌==◌, ◌&&◌, ◌||◌, List, [], ◌∷◌, ◌++◌}
use Rattle.std.proofs.Common.{map, ◌⊎◌, inl, inr, refl, arith}
use Rattle.std.specs.Prelude.{Some, nat_lt, flat_map}
use Rattle.std.specs.List.{list_all}
use Rattle.std.specs.Ordering.{nat_cmp, ordering_then}
use Rattle.std.specs.Cmp.Lexicographic.{slice_cmp}
use Rattle.std.specs.declared.cmp.Ordering.{Ordering}
use Rattle.std.specs.declared.cmp.Ordering.TheVariants.{Less, Equal, Greater}
use Rattle.std.proofs.lemmas.Bool.{and_parts}
use Rattle.std.proofs.lemmas.Bool.Decides.{nat_tests}
use Rattle.f8_spec.specs.Spelling.{hex_digit, hex4}
use Rattle.case_step.specs.Entries.{EntryView}
use Rattle.case_text.specs.CasesText.{capital, is_text_behind, is_behind}
use Rattle.case_text.specs.WrittenCases.{entry_text, behind_blank, IsInForm}
use Rattle.case_text.proofs.LineMarks.{is_plain, others, entry_spaced, entry_plain}

-- ---- addresses

-- digits ascend as their characters do
digit_order : (d e : ℕ) → d < 16 → e < 16 → nat_cmp (hex_digit d) (hex_digit e) ≡ nat_cmp d e
digit_order d e small less = grind (arith, nat_tests)

by_first : (first rest : Ordering) → ordering_then first rest ≡ Less → (first ≡ Less) ⊎ ((first ≡ Equal) × (rest ≡ Less))
by_first Less rest is = inl refl
by_first Equal rest is = inr (refl, is)
by_first Greater rest is = absurd (cc)

less_is : (d e : ℕ) → nat_cmp d e ≡ Less → d < e
less_is d e is = grind (arith, nat_tests)

equal_is : (d e : ℕ) → nat_cmp d e ≡ Equal → d ≡ e
equal_is d e is = grind (arith, nat_tests)

-- a digit below, or the same one and the rest below
one_digit : (d e : ℕ) (rest : Ordering) → d < 16 → e < 16 → ordering_then (nat_cmp (hex_digit d) (hex_digit e)) rest ≡ Less →
    (d < e) ⊎ ((d ≡ e) × (rest ≡ Less))
one_digit d e rest small less is = elim (by_first (nat_cmp d e) rest (rw (digit_order d e small less) at is)) [
  | inl below ↦ inl (less_is d e below)
  | inr same ↦ inr (equal_is d e same.0, same.1)
]

by_digits : (a b : ℕ) (r s : List ℕ) → a < 65536 → b < 65536 → slice_cmp nat_cmp (hex4 a ++ r) (hex4 b ++ s) ≡ Less → a ≤ b
by_digits a b r s small less is =
    elim (one_digit (a / 256 / 16) (b / 256 / 16) _ (omega arith) (omega arith) is) [
      | inl below ↦ omega arith
      | inr first ↦ elim (one_digit (a / 256 % 16) (b / 256 % 16) _ (omega arith) (omega arith) first.1) [
        | inl below ↦ let same = first.0 in omega (arith, same)
        | inr second ↦ elim (one_digit (a % 256 / 16) (b % 256 / 16) _ (omega arith) (omega arith) second.1) [
          | inl below ↦ let same = first.0 in let also = second.0 in omega (arith, same, also)
          | inr third ↦ elim (one_digit (a % 256 % 16) (b % 256 % 16) _ (omega arith) (omega arith) third.1) [
            | inl below ↦ let same = first.0 in let also = second.0 in let again = third.0 in omega (arith, same, also, again)
            | inr last ↦ let same = first.0 in let also = second.0 in let again = third.0 in let all = last.0 in
                omega (arith, same, also, again, all)
          ]
        ]
      ]
    ]

-- ---- capitals

no_small : (c : ℕ) → is_plain c ≡ true → capital c ≡ c
no_small c plain = grind (arith, nat_tests)

capitals : (line : List ℕ) → list_all is_plain line ≡ true → map capital line ≡ line
capitals [] plain = refl
capitals (c ∷ line) plain =
    let parts = and_parts (is_plain c) (list_all is_plain line) plain in
    rw (no_small c parts.0, capitals line parts.1) refl

-- ---- lines

behind_by : (first at : ℕ) (behind : Bool) → first ≤ at → behind ≡ true → (nat_lt first at || ((first == at) && behind)) ≡ true
behind_by first at behind low is = grind (arith, nat_tests)

pub line_behind : (e f : EntryView) → IsInForm e → IsInForm f → slice_cmp nat_cmp (entry_text e) (entry_text f) ≡ Less →
    is_behind (Some (e.at, entry_text e)) f.at (entry_text f) ≡ true
line_behind e f form other below =
    let low = by_digits e.at f.at (flat_map behind_blank (others e)) (flat_map behind_blank (others f)) form.at other.at
    (rw (entry_spaced e, entry_spaced f) at below) in
    let later : is_text_behind (entry_text e) (entry_text f) ≡ true =
    rw (capitals (entry_text e) (entry_plain e form), capitals (entry_text f) (entry_plain f other), below) refl in
    behind_by e.at f.at (is_text_behind (entry_text e) (entry_text f)) low later
