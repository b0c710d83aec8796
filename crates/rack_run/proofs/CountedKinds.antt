-- How many sockets of each kind of chip are counted.
use Rattle.std.proofs.Common.{◌≡◌, ℕ, ◌+◌, ◌≤◌, Bool, true, false, List, [], ◌∷◌, refl, ap, ◌∙◌, arith}
use Rattle.std.specs.Prelude.{if◌then◌else◌}
use Rattle.f8_spec.specs.ChipState.{same_kind}
use Rattle.f8_spec.specs.declared.chips.ChipKind.{ChipKind}
use Rattle.f8_spec.proofs.SameKind.{itself}
use Rattle.chip_face.specs.declared.specification.ChipSpec.{ChipSpec}
use Rattle.rack_run.specs.Seating.{counted, seat_at, seated_from}

-- one more of the kind itself, and no more of another
pub count_own : (kind : ChipKind) (before : ChipKind → ℕ) → counted kind before kind ≡ before kind + 1
count_own kind before = ap (λ b. if b then before kind + 1 else before kind) (itself kind)

pub count_other : (kind k : ChipKind) (before : ChipKind → ℕ) → same_kind k kind ≡ false → counted kind before k ≡ before k
count_other kind k before other = ap (λ b. if b then before k + 1 else before k) other

pub count_most : (kind k : ChipKind) (before after : ChipKind → ℕ) → after k ≡ counted kind before k → after k ≤ before k + 1
count_most kind k before after is = by (same_kind k kind) is
  where
    by : (own : Bool) → after k ≡ (if own then before k + 1 else before k) → after k ≤ before k + 1
    by true e = omega (arith, e)
    by false e = omega (arith, e)

-- only how many there are of each kind tells
pub seated_alike : (chips : List ChipSpec) (before after : ChipKind → ℕ) (kinds : List ChipKind) →
    ((k : ChipKind) → after k ≡ before k) → seated_from chips after kinds ≡ seated_from chips before kinds
seated_alike chips before after [] same = refl
seated_alike chips before after (kind ∷ kinds) same =
    ap (λ n. seat_at chips kind n ∷ seated_from chips (counted kind after) kinds) (same kind)
    ∙ ap (λ specs. seat_at chips kind (before kind) ∷ specs)
    (seated_alike chips (counted kind before) (counted kind after) kinds (λ k. ap (λ n. if same_kind k kind then n + 1 else n) (same k)))
