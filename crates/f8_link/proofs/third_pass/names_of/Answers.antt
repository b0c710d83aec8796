use Rattle.std.proofs.Common.{◌≡◌, ℕ, ◌<◌, ◌+◌, List, [], ◌∷◌, ◌++◌, length, map, take, slice_get, Some, None, sym, ap, ◌∙◌, arith}
use Rattle.std.proofs.lemmas.List.{map_more}
use Rattle.std.proofs.lemmas.Option.{get_or_from_slice_get, slice_get-get_or}
use Rattle.f8_link.proofs.third_pass.names_of.Goals.{in-Some+in_ok-push, in_default}
use Rattle.f8_link.proofs.third_pass.names_of.Goals as goal

-- one name more
one_more : (names : List (List ℕ)) (imports : List (List ℕ × ℕ)) (k : ℕ) (i : List ℕ × ℕ) → k < length imports → names ≡ map (λ i. i.0) (take k imports)
    → slice_get imports k ≡ Some i → names ++ i.0 ∷ [] ≡ map (λ i. i.0) (take (k + 1) imports)
one_more names imports k i within so_far here =
    ap (λ (ns : List (List ℕ)). ns ++ i.0 ∷ []) so_far
    ∙ ap (λ (j : List ℕ × ℕ). map (λ i. i.0) (take k imports) ++ j.0 ∷ []) (sym (get_or_from_slice_get imports k i i here))
    ∙ sym (map_more (λ i. i.0) imports k i within)

-- there is one
not_past : (imports : List (List ℕ × ℕ)) (k : ℕ) → k < length imports → None ≡ slice_get imports k → ⊥
not_past imports k within past = let there = slice_get-get_or imports k ([], 0) within in cc (past, there)

pub loop-k-preserved : goal.loop-k-preserved
loop-k-preserved c =
    let within : c.loop-k.k < length c.args.imports.now = omega (arith, c.len-k-end.ensures, c.loop-k-test.true) in
    elim c.match-get.branch [
      | in-Some+in_ok-push w ↦
          let next = one_more c.loop-k.names.items c.args.imports.now c.loop-k.k (w.in-Some.name.now, w.in-Some._number) within c.loop-k.invariant
          (sym w.in-Some.ensures.entry) in
          rw (w.names-is, w.in_ok-push.ensures.items, w.of.ensures, w.as_bytes.ensures.value) next
      | in_default w ↦ absurd (not_past c.args.imports.now c.loop-k.k within w.in_default.ensures.entry)
    ]
