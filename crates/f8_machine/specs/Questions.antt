-- The questions that the bus steps of a machine put to the chips of its rack, step by step.
use Rattle.std.specs.Prelude.{◌≡◌, ℕ, ◌+◌, ◌≤◌, Bool, List, [], ◌∷◌, ◌++◌, map, length, sum_by}
use Rattle.f8_spec.specs.BusCodes.{counter_of}
use Rattle.f8_spec.specs.BusArbitration.{rule_of}
use Rattle.data_bus.specs.Allowances.{allowance_by}
use Rattle.data_bus.specs.KnownAgreement.{knows, marks_after}
use Rattle.data_bus.specs.PageIndex.{followed}
use Rattle.data_bus.specs.declared.fault.BusFault.{BusFault}
use Rattle.data_bus.specs.declared.fault.BusFault.TheVariants.{Conflict, Undriven, Astray}
use Rattle.data_bus.specs.declared.index.Index.{Index}
use Rattle.data_bus.specs.declared.marks.Marks.{Marks}
use Rattle.f8_machine.specs.declared.bus.Bus.{Bus}
use Rattle.f8_machine.specs.declared.heard.Heard.{Heard}

-- ---- steps

abbrev pub codes_of : List Heard → List ℕ
codes_of steps = map (λ h. h.romc) steps

-- the code of the step that was not served
abbrev pub code_of : BusFault → ℕ
code_of (Conflict romc parties) = romc
code_of (Undriven romc at) = romc
code_of (Astray romc socket at reference) = romc

-- the index after served steps
abbrev pub followed_all : List ℕ → Index → Index
followed_all [] index = index
followed_all (romc ∷ later) index = followed_all later (followed romc index)

-- How many questions steps with these codes may put to a rack of so many chips, one after another, by what is known before them. The flag
-- says that a chip that holds a page has no second data counter.
abbrev pub allowed : ℕ → Bool → Marks → List ℕ → ℕ
allowed chips is_parted marks [] = 0
allowed chips is_parted marks (romc ∷ later) =
    allowance_by (rule_of romc) (knows (counter_of romc) marks) chips
    + allowed chips is_parted (marks_after is_parted romc marks) later

-- the same by an index
abbrev pub allowances : ℕ → Index → List ℕ → ℕ
allowances chips index codes = allowed chips index.is_parted index.marks codes

-- ---- what has been asked since a beginning

-- what is known, how many questions were put to the rack, and the steps that were served
pub record Asking : Type 0 where
  pub index : Index
  pub questions : ℕ
  pub steps : List Heard

-- the index has followed the steps, and the questions are no more than their allowances
pub record Counted (chips : ℕ) (first : Index) (before : ℕ) (now : Asking) : Type 0 where
  pub marks : now.index ≡ followed_all (codes_of now.steps) first
  pub asked : now.questions ≤ before + allowances chips first (codes_of now.steps)

-- and a step more was tried, which was not served
pub record CountedTried (chips : ℕ) (first : Index) (before : ℕ) (fault : BusFault) (now : Asking) : Type 0 where
  pub marks : now.index ≡ followed_all (codes_of now.steps) first
  pub asked : now.questions ≤ before + allowances chips first (codes_of now.steps ++ code_of fault ∷ [])

-- what was counted is counted on, on a rack of that size
pub record CountsOn (size : ℕ) (old new : Asking) : Type 0 where
  pub on : (chips : ℕ) (first : Index) (before : ℕ) → chips ≡ size → Counted chips first before old →
      Counted chips first before new

pub record CountsOnTried (size : ℕ) (fault : BusFault) (old new : Asking) : Type 0 where
  pub on : (chips : ℕ) (first : Index) (before : ℕ) → chips ≡ size → Counted chips first before old →
      CountedTried chips first before fault new

-- ---- what a call counts

-- the rack's chips, by the questions that each was put, the bus and the record of steps
abbrev pub asking : {X : Type 0} → (X → ℕ) → List X → Bus → List Heard → Asking
asking queries chips bus steps = record { index = bus.index; questions = sum_by queries chips; steps = steps }

-- from the chips, the bus and the record before a call to those after it the count goes on
abbrev pub Counts : {X : Type 0} → (X → ℕ) → List X → List X → Bus → Bus → List Heard → List Heard → Type 0
Counts queries olds news before after earlier now =
    CountsOn (length olds) (asking queries olds before earlier) (asking queries news after now)

-- and a step more was tried, which was not served
abbrev pub CountsTried : {X : Type 0} → BusFault → (X → ℕ) → List X → List X → Bus → Bus → List Heard → List Heard → Type 0
CountsTried fault queries olds news before after earlier now =
    CountsOnTried (length olds) fault (asking queries olds before earlier) (asking queries news after now)
