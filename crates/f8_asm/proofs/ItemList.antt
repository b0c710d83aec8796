-- Items of a list: where the loop over them begins, goes on and ends.
use Rattle.std.proofs.Common.{◌≡◌, ℕ, zero, suc, ◌<◌, ◌≤◌, List, [], ◌∷◌, ◌++◌, length, Result, Ok, Err, refl, sym, ◌∙◌, ap, arith}
use Rattle.std.proofs.Common.{append_assoc}
use Rattle.asm_text.specs.declared.answers.Token.{Token}
use Rattle.f8_asm.specs.declared.faults.LineFault.{LineFault}
use Rattle.text_lines.specs.declared.read_error.ReadError.{ReadError}
use Rattle.text_lines.specs.declared.read_error.ReadError.TheVariants as stop
use Rattle.f8_asm.specs.declared.operands.Operand.{Operand}
use Rattle.f8_asm.specs.Answers.{◌>>=◌, SaysOfRead}
use Rattle.text_lines.specs.ReadErrors.{Says}
use Rattle.f8_asm.specs.Grammar.{Actions}
use Rattle.f8_asm.specs.Statements.{operand_at, comma, item_before, items}

-- the items so far, then what is still read
abbrev pub after : {A : Type 0} → List (Operand A) → Result (List (Operand A)) LineFault → Result (List (Operand A)) LineFault
after found (Ok os) = Ok (found ++ os)
after found (Err fault) = Err fault

-- one item more, before those still read
after_more : {A : Type 0} (found : List (Operand A)) (o : Operand A) (r : Result (List (Operand A)) LineFault)
    → after (found ++ o ∷ []) r ≡ after found (r >>= λ os. Ok (o ∷ os))
after_more found o (Ok os) = ap Ok (append_assoc found (o ∷ []) os)
after_more found o (Err fault) = refl

-- the items found and those still read make the whole
pub record ItemsOn {A : Type 0} (acts : Actions A) (found : List (Operand A)) (rest : List Token) (whole : Result (List (Operand A)) LineFault) : Type 0 where
  pub most : ℕ
  pub room : length rest ≤ most
  pub is : after found (items acts most rest) ≡ whole

module _ {A : Type 0} (acts : Actions A) where
  -- no operand stands here
  fails_at : (n : ℕ) (ts : List Token) (fault : LineFault) → length ts ≤ n → Err fault ≡ operand_at acts ts → items acts n ts ≡ Err fault
  unfolding items
  fails_at zero [] fault room failed = cc
  fails_at zero (t ∷ ts) fault room failed = absurd (omega arith)
  fails_at (suc n) ts fault room failed = rw (← failed) refl

  -- an operand ends the line
  ends_at : (n : ℕ) (ts : List Token) (o : Operand A) → length ts ≤ n → Ok (o, []) ≡ operand_at acts ts → items acts n ts ≡ Ok (o ∷ [])
  unfolding items
  ends_at zero [] o room read = cc
  ends_at zero (t ∷ ts) o room read = absurd (omega arith)
  ends_at (suc n) ts o room read = rw (← read) refl

  -- what stands behind an operand, if anything does
  before_some : (n : ℕ) (o : Operand A) (behind : List Token) → 0 < length behind →
      item_before (items acts n) o behind ≡ (comma behind >>= λ rest. items acts n rest >>= λ os. Ok (o ∷ os))
  before_some n o [] some = absurd (omega arith)
  before_some n o (t ∷ ts) some = refl

  -- no comma stands behind an operand
  stops_at : (n : ℕ) (ts behind : List Token) (o : Operand A) (fault : LineFault) → length ts ≤ n → 0 < length behind →
      Ok (o, behind) ≡ operand_at acts ts → Err fault ≡ comma behind → items acts n ts ≡ Err fault
  unfolding items
  stops_at zero [] behind o fault room some read failed = cc
  stops_at zero (t ∷ ts) behind o fault room some read failed = absurd (omega arith)
  stops_at (suc n) ts behind o fault room some read failed = rw (← read) (before_some n o behind some ∙ rw (← failed) refl)

  -- more items stand behind a comma
  goes_at : (n : ℕ) (ts behind rest : List Token) (o : Operand A) → 0 < length behind →
      Ok (o, behind) ≡ operand_at acts ts → Ok rest ≡ comma behind →
      items acts (suc n) ts ≡ (items acts n rest >>= λ os. Ok (o ∷ os))
  unfolding items
  goes_at n ts behind rest o some read more = rw (← read) (before_some n o behind some ∙ rw (← more) refl)

  module _ {found : List (Operand A)} {rest : List Token} {whole : Result (List (Operand A)) LineFault} (on : ItemsOn acts found rest whole) where
    pub on_no_operand : (e : ReadError LineFault) → SaysOfRead {A = Operand A} {B = List Token} (Err e) (operand_at acts rest)
        → Says {A = List (Operand A)} (Err e) whole
    on_no_operand (stop.Fault fault) failed = sym on.is ∙ ap (after found) (fails_at on.most rest fault on.room (sym failed))
    on_no_operand stop.Memory failed = tt

    pub on_end : (o : Operand A) → operand_at acts rest ≡ Ok (o, []) → whole ≡ Ok (found ++ o ∷ [])
    on_end o read = sym on.is ∙ ap (after found) (ends_at on.most rest o on.room (sym read))

    pub on_no_comma : (behind : List Token) (o : Operand A) (fault : LineFault) → 0 < length behind →
        operand_at acts rest ≡ Ok (o, behind) → Err fault ≡ comma behind → whole ≡ Err fault
    on_no_comma behind o fault some read failed = sym on.is ∙ ap (after found) (stops_at on.most rest behind o fault on.room some (sym read) failed)

    pub on_comma : (behind last : List Token) (o : Operand A) → 0 < length behind →
        operand_at acts rest ≡ Ok (o, behind) → Ok last ≡ comma behind → length last < length rest →
        ItemsOn acts (found ++ o ∷ []) last whole
    on_comma behind last o some read more less = goes on.most on.room on.is
      where
        goes : (n : ℕ) → length rest ≤ n → after found (items acts n rest) ≡ whole → ItemsOn acts (found ++ o ∷ []) last whole
        goes zero room e = absurd (omega arith)
        goes (suc n) room e = record {
          most = n;
          room = omega arith;
          is = after_more found o (items acts n last)
              ∙ ap (after found) (sym (goes_at n rest behind last o some (sym read) more)) ∙ e;
        }
