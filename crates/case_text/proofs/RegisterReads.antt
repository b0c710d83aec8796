-- Registers that are read word by word: those so far stand before those of the words that are left.
use Rattle.std.proofs.Common.{◌≡◌, ℕ, suc, ◌+◌, ◌-◌, ◌<◌, ◌≤◌, List, [], ◌∷◌, ◌++◌, length, map, take, Option, Some, None, refl, sym, ap}
use Rattle.std.proofs.Common.{◌∙◌, arith, append_assoc}
use Rattle.std.specs.Prelude.{option_map, option_and_then}
use Rattle.std.proofs.Math.ListN.{set}
use Rattle.std.proofs.lemmas.List.{append-nil, map-append, take_all, take_more_set}
use Rattle.value_sets.specs.SetViews.{byte_values}
use Rattle.value_sets.specs.declared.bytes.ByteSet.{ByteSet}
use Rattle.case_text.specs.EntryWords.{byte_set_of, part, registers_of}

abbrev pub Read : Type 0
Read = Option (List (Option (List ℕ)) × List (List ℕ))

abbrev pub with_front : List (Option (List ℕ)) → Read → Read
with_front front others = option_map (λ x. (front ++ x.0, x.1)) others

twice : (xs ys : List (Option (List ℕ))) (others : Read) → with_front (xs ++ ys) others ≡ with_front xs (with_front ys others)
twice xs ys None = refl
twice xs ys (Some x) = ap (λ (zs : List (Option (List ℕ))). Some (zs, x.1)) (append_assoc xs ys x.0)

-- ---- the next word

module _ (left : ℕ) (words : List (List ℕ)) where
  pub no_set : part byte_set_of words ≡ None → registers_of (suc left) words ≡ None
  unfolding registers_of
  no_set none = rw none refl

  pub one_set : (values : Option (List ℕ)) (behind : List (List ℕ)) → part byte_set_of words ≡ Some (values, behind) →
      registers_of (suc left) words ≡ with_front (values ∷ []) (registers_of left behind)
  unfolding registers_of
  one_set values behind some = rw some (by (registers_of left behind))
    where
      by : (others : Read) → option_and_then (λ others. Some (values ∷ others.0, others.1)) others ≡ with_front (values ∷ []) others
      by None = refl
      by (Some x) = refl

-- ---- a turn of the loop

abbrev pub So_far : List (List ℕ) → List ByteSet → ℕ → List (List ℕ) → Type 0
So_far all registers i words = with_front (map byte_values (take i registers)) (registers_of (64 - i) words) ≡ registers_of 64 all

module _ (all words : List (List ℕ)) (registers : List ByteSet) (i : ℕ) (sized : length registers ≡ 64) (within : i < 64)
    (so_far : So_far all registers i words) where
  one_more : 64 - i ≡ suc (64 - (i + 1))
  one_more = omega arith

  pub fails : registers_of (suc (64 - (i + 1))) words ≡ None → registers_of 64 all ≡ None
  fails none = sym so_far ∙ rw (one_more, none) refl

  pub goes_on : (register : ByteSet) (behind : List (List ℕ)) →
      registers_of (suc (64 - (i + 1))) words ≡ with_front (byte_values register ∷ []) (registers_of (64 - (i + 1)) behind) →
      So_far all (set registers i register) (i + 1) behind
  goes_on register behind one =
      rw (take_more_set registers i register (omega arith), map-append, twice (map byte_values (take i registers)) (byte_values register ∷ []), ← one)
      (ap (λ n. with_front (map byte_values (take i registers)) (registers_of n words)) (sym one_more) ∙ so_far)

nothing_left : (words : List (List ℕ)) → registers_of 0 words ≡ Some ([], words)
unfolding registers_of
nothing_left words = refl

pub all_read : (all words : List (List ℕ)) (registers : List ByteSet) (i : ℕ) → length registers ≡ 64 → 64 ≤ i → So_far all registers i words →
    Some (map byte_values registers, words) ≡ registers_of 64 all
all_read all words registers i sized past so_far =
    let none : 64 - i ≡ 0 = omega arith in
    let ended = rw (none, nothing_left words, take_all i registers (omega arith), append-nil (map byte_values registers)) at so_far in
    ended

-- nothing is seen of nothing
pub nothing_seen : {X Y : Type 0} (view : X → Y) (r : Option X) (said : Option Y) → r ≡ None → said ≡ None → option_map view r ≡ said
nothing_seen view None said none is = sym is
nothing_seen view (Some x) said none is = absurd cc
