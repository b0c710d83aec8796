-- A chain with another socket behind still names each socket once.
use Rattle.std.proofs.Common.{◌≡◌, ◌≢◌, ℕ, zero, suc, ◌+◌, ◌<◌, Bool, true, false, List, [], ◌∷◌, length, take}
use Rattle.std.proofs.Common.{get_or, AllPairs, refl, sym, subst, arith, eq-eqb}
use Rattle.std.specs.Prelude.{◌==◌, ◌||◌, slice_set}
use Rattle.std.specs.List.{list_any}
use Rattle.std.proofs.lemmas.List.{take_more_set}
use Rattle.std.proofs.lemmas.List.Quantifiers.{all_pairs_push}

both_false : (a b : Bool) → (a || b) ≡ false → (a ≡ false) × (b ≡ false)
both_false true b none = cc
both_false false b none = (refl, none)

other_than : (sockets : List ℕ) (socket : ℕ) → list_any (λ held. held == socket) sockets ≡ false → (k d : ℕ) →
    k < length sockets → get_or sockets k d ≢ socket
other_than [] socket none k d within = absurd (omega (arith, within))
other_than (s ∷ later) socket none zero d within = λ same.
    let some : (s == socket) ≡ true = eq-eqb s socket same in
    let first = (both_false (s == socket) (list_any (λ held. held == socket) later) none).0 in cc
other_than (s ∷ later) socket none (suc k) d within =
    other_than later socket (both_false (s == socket) (list_any (λ held. held == socket) later) none).1 k d
    (omega (arith, within))

pub distinct_with : (sockets : List ℕ) (len socket : ℕ) → len < length sockets →
    list_any (λ held. held == socket) (take len sockets) ≡ false →
    AllPairs (λ one other. one ≢ other) (take len sockets) →
    AllPairs (λ one other. one ≢ other) (take (len + 1) (slice_set sockets len socket))
distinct_with sockets len socket within none distinct =
    subst (λ (l : List ℕ). AllPairs (λ one other. one ≢ other) l) (sym (take_more_set sockets len socket within))
    (all_pairs_push (λ one other. one ≢ other) (take len sockets) socket distinct
    (λ k d below. other_than (take len sockets) socket none k d below))
