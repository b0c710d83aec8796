-- The sockets whose flags are set.
use Rattle.std.proofs.Common.{◌≡◌, ℕ, zero, suc, ◌+◌, ◌<◌, ◌≤◌, Bool, true, false, List, [], ◌∷◌, ◌++◌, length, refl, sym, ap, subst, ◌∙◌}
use Rattle.std.proofs.Common.{arith, length-set}
use Rattle.std.specs.Prelude.{replicate}
use Rattle.std.specs.List.{AllByRecursion}
use Rattle.std.proofs.Math.ListN.{set}
use Rattle.data_bus.specs.PageIndex.{flagged}

-- none is below the first
flagged-low : (m n : ℕ) (flags : List Bool) → m ≤ n → AllByRecursion (λ k. m ≤ k) (flagged n flags)
flagged-low m n [] low = tt
flagged-low m n (true ∷ flags) low = (low, flagged-low m (n + 1) flags (omega arith))
flagged-low m n (false ∷ flags) low = flagged-low m (n + 1) flags (omega arith)

-- between bounds that cross there is none
none-between : (m : ℕ) (ks : List ℕ) → AllByRecursion (λ k. m + 1 ≤ k) ks → AllByRecursion (λ k. k < m) ks → ks ≡ []
none-between m [] low high = refl
none-between m (k ∷ ks) low high = let below = high.0 in let above = low.0 in absurd (omega (arith, below, above))

alike : (m n : ℕ) (ks : List ℕ) → m ≡ n → AllByRecursion (λ k. k < m) ks → AllByRecursion (λ k. k < n) ks
alike m n ks same all = subst (λ (j : ℕ). AllByRecursion (λ k. k < j) ks) same all

-- a flag above those that are set is the last
pub flagged-set : (n i : ℕ) (flags : List Bool) → i < length flags → AllByRecursion (λ k. k < n + i) (flagged n flags) →
    flagged n (set flags i true) ≡ flagged n flags ++ (n + i) ∷ []
flagged-set n i [] b all = absurd (omega arith)
flagged-set n zero (true ∷ flags) b all = let here = all.0 in absurd (omega (arith, here))
flagged-set n zero (false ∷ flags) b all =
    let same : n + 0 ≡ n = omega arith in
    let none : flagged (n + 1) flags ≡ [] =
    none-between n (flagged (n + 1) flags) (flagged-low (n + 1) (n + 1) flags (omega arith)) (alike (n + 0) n _ same all) in
    rw (none, same) refl
flagged-set n (suc i) (true ∷ flags) b all =
    let same : n + suc i ≡ n + 1 + i = omega arith in
    let later = flagged-set (n + 1) i flags (omega arith) (alike (n + suc i) (n + 1 + i) _ same all.1) in
    ap (λ l. n ∷ l) (later ∙ ap (λ (k : ℕ). flagged (n + 1) flags ++ k ∷ []) (sym same))
flagged-set n (suc i) (false ∷ flags) b all =
    let same : n + suc i ≡ n + 1 + i = omega arith in
    let later = flagged-set (n + 1) i flags (omega arith) (alike (n + suc i) (n + 1 + i) _ same all) in
    later ∙ ap (λ (k : ℕ). flagged (n + 1) flags ++ k ∷ []) (sym same)

-- ---- two flags, and one more

-- what is set in a list of flags
pub record IsSet (flags : List Bool) (sockets : List ℕ) : Type 0 where
  pub long : length flags ≡ 16
  pub all : flagged 0 flags ≡ sockets

pub one_more_set : (flags after : List Bool) (socket : ℕ) (sockets : List ℕ) → IsSet flags sockets → socket < 16 →
    AllByRecursion (λ k. k < socket) sockets → after ≡ set flags socket true → IsSet after (sockets ++ socket ∷ [])
one_more_set flags after socket sockets is below above same =
    let none : 0 + socket ≡ socket = omega arith in
    let long = is.long in
    let higher : AllByRecursion (λ k. k < 0 + socket) (flagged 0 flags) =
    subst (λ l. AllByRecursion (λ k. k < 0 + socket) l) (sym is.all) (alike socket (0 + socket) sockets (sym none) above) in
    record {
      long = ap length same ∙ length-set flags socket true ∙ is.long;
      all = ap (flagged 0) same ∙ flagged-set 0 socket flags (omega (arith, long, below)) higher
          ∙ ap (λ l. l ++ (0 + socket) ∷ []) is.all ∙ ap (λ (k : ℕ). sockets ++ k ∷ []) none;
    }

-- two that are set
pub two_set : (first socket : ℕ) (once twice : List Bool) → socket < 16 → first < socket →
    once ≡ set (replicate 16 false) first true → twice ≡ set once socket true → IsSet twice (first ∷ (socket ∷ []))
two_set first socket once twice below above a b =
    let none : IsSet (replicate 16 false) [] = record { long = refl; all = refl } in
    one_more_set once twice socket (first ∷ []) (one_more_set (replicate 16 false) once first [] none (omega arith) tt a) below
    (above, tt) b

pub are_several : (flags : List Bool) (sockets : List ℕ) → IsSet flags sockets → 2 ≤ length sockets → (length flags ≡ 16) × (2 ≤ length (flagged 0 flags))
are_several flags sockets is two = (is.long, rw is.all two)
