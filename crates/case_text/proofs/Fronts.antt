-- Lists that are read number by number: those so far stand before those of the rest.
use Rattle.std.proofs.Common.{◌≡◌, List, [], ◌∷◌, ◌++◌, Option, Some, None, refl, ap, append_assoc, sym}
use Rattle.std.specs.Prelude.{option_map}

abbrev pub behind : {A : Type 0} → List A → Option (List A) → Option (List A)
behind front others = option_map (λ xs. front ++ xs) others

-- one more is read
pub behind_more : {A : Type 0} (front : List A) (x : A) (others : Option (List A)) →
    behind front (option_map (λ xs. x ∷ xs) others) ≡ behind (front ++ x ∷ []) others
behind_more front x None = refl
behind_more front x (Some xs) = ap Some (sym (append_assoc front (x ∷ []) xs))
