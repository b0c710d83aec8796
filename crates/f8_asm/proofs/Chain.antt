-- Operators of one strength: where the loop over them begins, goes on and ends.
use Rattle.std.proofs.Common.{◌≡◌, ℕ, zero, suc, ◌<◌, ◌≤◌, List, [], ◌∷◌, length, Option, Some, None, Ok, Err, refl, sym, ◌∙◌, arith}
use Rattle.asm_text.specs.declared.answers.Token.{Token}
use Rattle.f8_asm.specs.declared.values.Operator.{Operator}
use Rattle.f8_asm.specs.declared.faults.LineFault.{LineFault}
use Rattle.text_lines.specs.declared.read_error.ReadError.{ReadError}
use Rattle.text_lines.specs.declared.read_error.ReadError.TheVariants as stop
use Rattle.f8_asm.specs.Answers.{◌>>=◌, SaysOfRead}
use Rattle.f8_asm.specs.Grammar.{Actions, Read, operator_at, chain}

-- what is still read makes the whole
pub record ChainOn {A : Type 0} (acts : Actions A) (strength : ℕ) (g : List Token → Read A) (left : A) (rest : List Token) (whole : Read A) : Type 0 where
  pub most : ℕ
  pub room : length rest ≤ most
  pub is : chain acts strength g most left rest ≡ whole

module _ {A : Type 0} (acts : Actions A) (strength : ℕ) (g : List Token → Read A) where
  -- a token's operator decides
  abbrev pub turn : ℕ → A → Token → List Token → Option Operator → Read A
  turn n left t ts None = Ok (left, t ∷ ts)
  turn n left t ts (Some operator) = g ts >>= λ r. chain acts strength g n (acts.between operator left r.0) r.1

  pub at_token : (o : Option Operator) (n : ℕ) (left : A) (t : Token) (ts : List Token) →
      o ≡ operator_at strength t.kind → chain acts strength g (suc n) left (t ∷ ts) ≡ turn n left t ts o
  unfolding chain
  at_token None n left t ts is = rw (← is, chain) refl
  at_token (Some operator) n left t ts is = rw (← is, chain) refl

  -- one operator more
  pub chain_goes : {left : A} {t : Token} {ts : List Token} {whole : Read A} →
      ChainOn acts strength g left (t ∷ ts) whole → (operator : Operator) (right : A) (after : List Token) →
      Some operator ≡ operator_at strength t.kind → Ok (right, after) ≡ g ts → length after < length ts →
      ChainOn acts strength g (acts.between operator left right) after whole
  chain_goes {left} {t} {ts} {whole} on operator right after is read less = goes on.most on.room on.is
    where
      goes : (n : ℕ) → length (t ∷ ts) ≤ n → chain acts strength g n left (t ∷ ts) ≡ whole →
          ChainOn acts strength g (acts.between operator left right) after whole
      goes zero room e = absurd (omega arith)
      goes (suc n) room e = record {
        most = n;
        room = omega arith;
        is = rw (← read) at (sym (at_token (Some operator) n left t ts is) ∙ e);
      }

  -- a token that is no operator here
  pub chain_stops : {left : A} {t : Token} {ts : List Token} {whole : Read A} →
      ChainOn acts strength g left (t ∷ ts) whole → None ≡ operator_at strength t.kind → whole ≡ Ok (left, t ∷ ts)
  chain_stops {left} {t} {ts} {whole} on is = stops on.most on.room on.is
    where
      stops : (n : ℕ) → length (t ∷ ts) ≤ n → chain acts strength g n left (t ∷ ts) ≡ whole → whole ≡ Ok (left, t ∷ ts)
      stops zero room e = absurd (omega arith)
      stops (suc n) room e = sym e ∙ at_token None n left t ts is

  -- the operand behind an operator can't be read
  pub chain_fails : {left : A} {t : Token} {ts : List Token} {whole : Read A} →
      ChainOn acts strength g left (t ∷ ts) whole → (operator : Operator) (fault : LineFault) →
      Some operator ≡ operator_at strength t.kind → Err fault ≡ g ts → whole ≡ Err fault
  chain_fails {left} {t} {ts} {whole} on operator fault is failed = fails on.most on.room on.is
    where
      fails : (n : ℕ) → length (t ∷ ts) ≤ n → chain acts strength g n left (t ∷ ts) ≡ whole → whole ≡ Err fault
      fails zero room e = absurd (omega arith)
      fails (suc n) room e = sym e ∙ at_token (Some operator) n left t ts is ∙ rw (← failed) refl

  -- or memory is missing
  pub chain_stopped : {left : A} {t : Token} {ts : List Token} {whole : Read A} → ChainOn acts strength g left (t ∷ ts) whole
      → (operator : Operator) (e : ReadError LineFault) → Some operator ≡ operator_at strength t.kind
      → SaysOfRead {A = A} {B = List Token} (Err e) (g ts) → SaysOfRead {A = A} {B = List Token} (Err e) whole
  chain_stopped on operator (stop.Fault fault) is failed = chain_fails on operator fault is (sym failed)
  chain_stopped on operator stop.Memory is failed = tt

  -- no token is left
  pub chain_ends : {left : A} {whole : Read A} → ChainOn acts strength g left [] whole → whole ≡ Ok (left, [])
  unfolding chain
  chain_ends {left} {whole} on = ends on.most on.is
    where
      ends : (n : ℕ) → chain acts strength g n left [] ≡ whole → whole ≡ Ok (left, [])
      ends zero e = sym e
      ends (suc n) e = sym e
