-- Where the first fault of a text is, and what it is. This goes by what lines say and what may stand together, and knows nothing of how
-- they are read.
use Rattle.std.specs.Prelude.{◌≡◌, ℕ, ◌+◌, List, ◌∷◌, ◌++◌, length, Option, Some, None, Result, Ok, Err, IsOk}
use Rattle.std.specs.List.{All}
use Rattle.line_words.specs.declared.text_fault.TextFault.{TextFault}
use Rattle.line_words.specs.Drafts.{statements_by}

-- each line says something or is skipped, and what they say may stand together
pub record HasNoFault {S C : Type 0} (line_of : List ℕ → Result (Option S) C) (Together : List S → Type 0)
    (ls : List (List ℕ)) : Type 0 where
  pub each : All (λ l. IsOk (line_of l)) ls
  pub together : Together (statements_by line_of ls)

-- a line is at fault by itself, or what it says can't stand behind what was said before
abbrev pub IsLineFault : {S C : Type 0} → (List S → S → C → Type 0) → List S → Result (Option S) C → C → Type 0
IsLineFault CantStand before (Err own) cause = cause ≡ own
IsLineFault CantStand before (Ok None) cause = ⊥
IsLineFault CantStand before (Ok (Some statement)) cause = CantStand before statement cause

-- a line is at fault, with no fault before it
pub record IsFirstFault {S C : Type 0} (line_of : List ℕ → Result (Option S) C) (Together : List S → Type 0)
    (CantStand : List S → S → C → Type 0) (ls : List (List ℕ)) (fault : TextFault C) : Type 0 where
  pub before : List (List ℕ)
  pub line : List ℕ
  pub behind : List (List ℕ)
  pub parts : ls ≡ before ++ line ∷ behind
  pub clean : HasNoFault line_of Together before
  pub counted : fault.line ≡ length before + 1
  pub own : IsLineFault CantStand (statements_by line_of before) (line_of line) fault.cause

-- a line that takes memory is come to, with no fault before it
pub record TakesMemory {S C : Type 0} (line_of : List ℕ → Result (Option S) C) (Together : List S → Type 0)
    (Takes : List ℕ → Type 0) (ls : List (List ℕ)) : Type 0 where
  pub before : List (List ℕ)
  pub line : List ℕ
  pub behind : List (List ℕ)
  pub parts : ls ≡ before ++ line ∷ behind
  pub clean : HasNoFault line_of Together before
  pub takes : Takes line
