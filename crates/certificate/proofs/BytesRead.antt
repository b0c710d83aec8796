-- A list that is filled byte by byte: what is read so far, and then the rest.
use Rattle.std.proofs.Common.{◌≡◌, ℕ, suc, ◌+◌, ◌-◌, ◌<◌, ◌≤◌, List, [], ◌∷◌, ◌++◌, length, take, refl, sym, ap, ◌∙◌, arith, append_assoc}
use Rattle.std.specs.Prelude.{Option, Some, None, option_and_then}
use Rattle.std.proofs.lemmas.List.{append-nil, take_all, take_more_set}
use Rattle.std.proofs.Math.ListN.{set, length-set}
use Rattle.certificate.specs.Parts.{behind, known_byte_at, bytes_at}
use Rattle.certificate.specs.Answers.{Gives}

abbrev pub with_front : List (Option ℕ) → Option (List (Option ℕ) × List ℕ) → Option (List (Option ℕ) × List ℕ)
with_front front None = None
with_front front (Some x) = Some (front ++ x.0, x.1)

twice : (xs ys : List (Option ℕ)) (o : Option (List (Option ℕ) × List ℕ)) → with_front (xs ++ ys) o ≡ with_front xs (with_front ys o)
twice xs ys None = refl
twice xs ys (Some x) = ap (λ (zs : List (Option ℕ)). Some (zs, x.1)) (append_assoc xs ys x.0)

module _ (mark rest : List ℕ) (left : ℕ) where
  pub no_mark : behind mark rest ≡ None → bytes_at mark (suc left) rest ≡ None
  unfolding bytes_at
  no_mark none = rw none refl

  pub no_byte : (text : List ℕ) → behind mark rest ≡ Some text → known_byte_at text ≡ None → bytes_at mark (suc left) rest ≡ None
  unfolding bytes_at
  no_byte text found none = rw (found, none) refl

  pub one_byte : (text after : List ℕ) (value : Option ℕ) → behind mark rest ≡ Some text → known_byte_at text ≡ Some (value, after) →
      bytes_at mark (suc left) rest ≡ with_front (value ∷ []) (bytes_at mark left after)
  unfolding bytes_at
  one_byte text after value found known = rw (found, known) (by (bytes_at mark left after))
    where
      by : (o : Option (List (Option ℕ) × List ℕ)) →
          option_and_then (λ others. Some (value ∷ others.0, others.1)) o ≡ with_front (value ∷ []) o
      by None = refl
      by (Some x) = refl

-- ---- a turn of the loop

module _ (mark text : List ℕ) (bytes : List (Option ℕ)) (i : ℕ) (rest : List ℕ) (within : i < length bytes)
    (so_far : with_front (take i bytes) (bytes_at mark (length bytes - i) rest) ≡ bytes_at mark (length bytes) text) where
  abbrev left : ℕ
  left = length bytes - (i + 1)

  one_more : length bytes - i ≡ suc left
  one_more = omega arith

  nothing_by : (o : Option (List (Option ℕ) × List ℕ)) → o ≡ None → with_front (take i bytes) o ≡ None
  nothing_by None e = refl
  nothing_by (Some x) e = absurd (cc)

  pub fails : bytes_at mark (suc left) rest ≡ None → bytes_at mark (length bytes) text ≡ None
  fails none = sym so_far ∙ nothing_by _ (ap (λ n. bytes_at mark n rest) one_more ∙ none)

  pub goes_on : (value : Option ℕ) (after : List ℕ) → bytes_at mark (suc left) rest ≡ with_front (value ∷ []) (bytes_at mark left after) →
      with_front (take (i + 1) (set bytes i value)) (bytes_at mark (length (set bytes i value) - (i + 1)) after)
      ≡ bytes_at mark (length (set bytes i value)) text
  goes_on value after one =
      rw (length-set bytes i value, take_more_set bytes i value within, twice (take i bytes) (value ∷ []) (bytes_at mark left after), ← one)
      (ap (λ n. with_front (take i bytes) (bytes_at mark n rest)) (sym one_more) ∙ so_far)

pub all_read : (mark text : List ℕ) (bytes : List (Option ℕ)) (i : ℕ) (rest : List ℕ) → length bytes ≤ i →
    with_front (take i bytes) (bytes_at mark (length bytes - i) rest) ≡ bytes_at mark (length bytes) text →
    bytes_at mark (length bytes) text ≡ Some (bytes, rest)
unfolding bytes_at
all_read mark text bytes i rest past so_far =
    let none : length bytes - i ≡ 0 = omega arith in
    sym so_far ∙ rw (none, take_all i bytes past, append-nil bytes) refl

pub gives_none : {X Y : Type 0} (view : X → Y) (r : Option X) (said : Option Y) → r ≡ None → said ≡ None → Gives view r said
gives_none view None said none e = e
gives_none view (Some x) said none e = absurd (cc)
