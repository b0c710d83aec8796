-- An expression behind which no operator stands is the longest that tokens begin with.
use Rattle.std.proofs.Common.{◌≡◌, ◌≤◌, List, [], ◌∷◌, ◌++◌, length, refl, sym, ap, arith, append-nil, length-append}
use Rattle.asm_text.specs.declared.answers.Token.{Token}
use Rattle.f8_asm.specs.ExpressionForms.{Forms, BeginsWithNoOperator, BeginsWithExpression}
use Rattle.f8_asm.specs.Grammar.{Actions}
use Rattle.f8_asm.proofs.ExpressionsRead.{expression_read}

-- the longer of two fronts goes on behind the shorter
record GoesOn (front rest more beyond : List Token) : Type 0 where
  pub extra : List Token
  pub longer : more ≡ front ++ extra
  pub behind : rest ≡ extra ++ beyond

goes_on : (front rest more beyond : List Token) → front ++ rest ≡ more ++ beyond → length front ≤ length more → GoesOn front rest more beyond
goes_on [] rest more beyond same less = record { extra = more; longer = refl; behind = same }
goes_on (t ∷ front) rest [] beyond same less = absurd (omega arith)
goes_on (t ∷ front) rest (u ∷ more) beyond same less =
    let heads : t ≡ u = cc same in
    let tails : front ++ rest ≡ more ++ beyond = cc same in
    let inner = goes_on front rest more beyond tails (omega arith) in
    record { extra = inner.extra; longer = rw heads (ap (λ us. u ∷ us) inner.longer); behind = inner.behind }

none_first : (extra beyond : List Token) → BeginsWithNoOperator (extra ++ beyond) → BeginsWithNoOperator extra
none_first [] beyond none = tt
none_first (t ∷ ts) beyond none = none

module _ {A : Type 0} (acts : Actions A) where
  no_extra : (front extra : List Token) (value other : A) → Forms acts 4 64 front value → BeginsWithNoOperator extra
      → Forms acts 4 64 (front ++ extra) other → length extra ≡ 0
  no_extra front extra value other forms none also =
      let first = expression_read acts (front ++ extra) value extra (record { front = front; whole = refl; forms = forms; ends = none }) in
      let whole : BeginsWithExpression acts (front ++ extra) other [] =
      record { front = front ++ extra; whole = sym (append-nil (front ++ extra)); forms = also; ends = tt } in
      let second = expression_read acts (front ++ extra) other [] whole in
      let same : ◌≡◌ {A = A × List Token} (value, extra) (other, []) = cc (first, second) in
      ap (λ (r : A × List Token). length r.1) same

  no_longer : (front rest more beyond : List Token) (value other : A) → Forms acts 4 64 front value → BeginsWithNoOperator rest
      → front ++ rest ≡ more ++ beyond → Forms acts 4 64 more other → length front ≤ length more → length more ≤ length front
  no_longer front rest more beyond value other forms none same also less =
      let on = goes_on front rest more beyond same less in
      let none_more = none_first on.extra beyond (rw on.behind at none) in
      let size = no_extra front on.extra value other forms none_more (rw on.longer at also) in
      let parts = length-append front on.extra in
      let all = ap length on.longer in
      omega arith

  pub longest : (front rest more beyond : List Token) (value other : A) → Forms acts 4 64 front value → BeginsWithNoOperator rest
      → front ++ rest ≡ more ++ beyond → Forms acts 4 64 more other → length more ≤ length front
  longest front rest more beyond value other forms none same also =
      let bound : length front ≤ length more → length more ≤ length front = no_longer front rest more beyond value other forms none same also in
      grind (arith, bound)
