-- One pair of octal digits more.
use Rattle.std.proofs.Common.{◌≡◌, ℕ, ◌+◌, ◌-◌, ◌*◌, ◌≤◌, List, [], ◌∷◌, ◌++◌, length, take, drop, get_or, Result, Ok, Err}
use Rattle.std.proofs.Common.{Some, true, arith}
use Rattle.std.specs.Prelude.{OnOk}
use Rattle.std.specs.Result.{is_ok}
use Rattle.std.proofs.lemmas.List.{take_all}
use Rattle.case_text.specs.EntryWords.{octal_of, octals_of}
use Rattle.case_text.proofs.Fronts.{behind, behind_more}

-- what holds where a call succeeds
pub on_ok : {A E P : Type 0} (r : Result A E) → true ≡ is_ok r → OnOk r P → P
on_ok (Ok x) good holds = holds
on_ok (Err e) good holds = absurd cc

pub octals_more : (word rest front : List ℕ) (h l : ℕ) → 2 ≤ length rest → Some h ≡ octal_of (get_or rest 0 0) → Some l ≡ octal_of (get_or rest 1 0) →
    behind front (octals_of rest) ≡ octals_of word →
    behind (front ++ (h * 8 + l) ∷ []) (octals_of (take (length rest - 2) (drop 2 rest))) ≡ octals_of word
octals_more word [] front h l long high low so_far = absurd (omega arith)
octals_more word (a ∷ []) front h l long high low so_far = absurd (omega arith)
octals_more word (a ∷ b ∷ rest) front h l long high low so_far =
    let pair = rw (← high, ← low) at so_far in
    let all = take_all (length (a ∷ b ∷ rest) - 2) rest (omega arith) in
    rw (all, ← behind_more front (h * 8 + l) (octals_of rest)) pair
