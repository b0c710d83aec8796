-- How long lists may be, and unions up to that and beyond, computed from the definitions.
use Rattle.std.proofs.Common.{◌≡◌, [], ◌∷◌, refl}
use Rattle.std.specs.Prelude.{Some, None}
use Rattle.std.specs.List.{range_with_len}
use Rattle.value_sets.specs.ValueSets.{joined}
use Rattle.value_sets.specs.declared.bytes.TheConstants.{MOST_BYTES}
use Rattle.value_sets.specs.declared.words.TheConstants.{MOST_WORDS}

most_bytes : MOST_BYTES ≡ 16
most_bytes = refl

most_words : MOST_WORDS ≡ 512
most_words = refl

-- a union is in order, with each number once
in_order : joined 16 (Some (3 ∷ 9 ∷ [])) (Some (5 ∷ 9 ∷ [])) ≡ Some (3 ∷ 5 ∷ 9 ∷ [])
in_order = refl

-- sixteen bytes, one of them again, and one more
all_sixteen : joined 16 (Some (range_with_len 0 16)) (Some (15 ∷ [])) ≡ Some (range_with_len 0 16)
all_sixteen = refl

one_byte_more : joined 16 (Some (range_with_len 0 16)) (Some (16 ∷ [])) ≡ None
one_byte_more = refl

-- 512 words, one of them again, and one more
all_512 : joined 512 (Some (range_with_len 0 512)) (Some (511 ∷ [])) ≡ Some (range_with_len 0 512)
all_512 = refl

one_word_more : joined 512 (Some (range_with_len 0 512)) (Some (512 ∷ [])) ≡ None
one_word_more = refl
