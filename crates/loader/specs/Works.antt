-- What a call says that does a work over a store, of which contracts see the input, old and new.
use Rattle.std.specs.Prelude.{◌≡◌, ℕ, ◌+◌, ◌^◌, ◌≤◌, ◌⊎◌, List, [], ◌∷◌, ◌++◌, slice_get}
use Rattle.std.specs.Prelude.{Option, Some, None, Result, Ok, Err}
use Rattle.outside.specs.Counts.{Rose}
use Rattle.outside.specs.StoreRules.{NamedBytes, Asked, asked_for, Input, bytes_of}
use Rattle.loader.specs.declared.purposes.Purpose.{Purpose}
use Rattle.loader.specs.declared.purposes.Purpose.TheVariants as purpose
use Rattle.loader.specs.declared.refusals.Refusal.{Refusal}
use Rattle.loader.specs.declared.refusals.Refusal.TheVariants as refusal
use Rattle.loader.specs.declared.refusals.Stop.{Stop}
use Rattle.loader.specs.declared.refusals.Stop.TheVariants.{Refused, Store, Memory}
use Rattle.loader.specs.Work.{Ask, End, Gives, Refuses, Lacks, Course, Work}

-- ---- how many files were asked for, and the sum of their limits

-- what a store was asked for once it was asked for these files, each with its limit
abbrev pub after_asking : List Ask → Asked → Asked
after_asking [] asked = asked
after_asking (ask ∷ asks) asked = after_asking asks (asked_for ask.limit asked)

-- as many files were asked for, and their limits have the same sum, up to the greatest u64
abbrev pub AsksAll : Input → Input → List Ask → Type 0
AsksAll old new asks = new.asked ≡ after_asking asks old.asked

-- the same of the first of the files, or of all of them
pub record AsksFew (old new : Input) (asks : List Ask) : Type 0 where
  pub first : List Ask
  pub rest : List Ask
  pub are : asks ≡ first ++ rest
  pub fetches : AsksAll old new first

-- the store failed at one of the files that are asked for, and was asked for no other behind it
pub record FailsAt (old new : Input) (asks : List Ask) (purpose : Purpose) : Type 0 where
  pub before : List Ask
  pub ask : Ask
  pub rest : List Ask
  pub are : asks ≡ before ++ ask ∷ rest
  pub said : purpose ≡ ask.purpose
  pub fetches : AsksAll old new (before ++ ask ∷ [])

-- ---- outcomes

-- an outcome, as it is seen
abbrev pub outcome_as : {A B : Type 0} → (A → B) → Result A Stop → Result B Stop
outcome_as seen (Ok x) = Ok (seen x)
outcome_as seen (Err stop) = Err stop

-- An outcome is that of the course: all its files were fetched, and it ended so. The store may have failed before, or memory been wanting.
abbrev pub IsOutcomeOf : {A : Type 0} → Input → Input → Course A → Result A Stop → Type 0
IsOutcomeOf old new course (Ok x) = (course.end ≡ Gives x) × AsksAll old new course.asks
IsOutcomeOf old new course (Err (Refused refusal)) = (course.end ≡ Refuses refusal) × AsksAll old new course.asks
IsOutcomeOf old new course (Err (Store purpose)) = FailsAt old new course.asks purpose
IsOutcomeOf old new course (Err Memory) = AsksFew old new course.asks

-- the store failed where its count of faults rose, and nowhere else
abbrev pub StoreFails : {A : Type 0} → Input → Input → Result A Stop → Type 0
StoreFails old new (Ok x) = new.faults ≡ old.faults
StoreFails old new (Err (Refused refusal)) = new.faults ≡ old.faults
StoreFails old new (Err (Store purpose)) = Rose old.faults new.faults
StoreFails old new (Err Memory) = new.faults ≡ old.faults

-- ---- refusals

-- The order in which a command asks for its files: a description, the sources of its chips by their numbers, which are bytes, and then a
-- script, a certificate, a list of entries or the debugger's commands, and behind a script a trace; or one file; or a plan, and its modules by their
-- numbers, which are bytes.
abbrev pub order_of : Purpose → ℕ
order_of purpose.Cart = 0
order_of purpose.File = 0
order_of purpose.Plan = 0
order_of (purpose.Source chip) = chip + 1
order_of (purpose.Module number) = number + 1
order_of purpose.Script = 2 ^ 8 + 1
order_of purpose.Cert = 2 ^ 8 + 1
order_of purpose.Cases = 2 ^ 8 + 1
order_of purpose.Commands = 2 ^ 8 + 1
order_of purpose.Trace = 2 ^ 8 + 2

abbrev pub purpose_of_text : Option ℕ → Purpose
purpose_of_text None = purpose.File
purpose_of_text (Some chip) = purpose.Source chip

-- The file that is refused. Where modules don't go together that is the last that a plan may have, since all of them are looked at.
abbrev pub file_of : Refusal → Purpose
file_of refusal.Document = purpose.Cart
file_of (refusal.Cart fault) = purpose.Cart
file_of (refusal.Assembly source fault) = purpose_of_text source
file_of (refusal.Script fault) = purpose.Script
file_of (refusal.Cert fault) = purpose.Cert
file_of (refusal.Cases fault) = purpose.Cases
file_of (refusal.Commands fault) = purpose.Commands
file_of (refusal.Trace fault) = purpose.Trace
file_of (refusal.Plan fault) = purpose.Plan
file_of (refusal.Module number fault) = purpose.Module number
file_of (refusal.Link fault) = purpose.Module 63
file_of refusal.Digits = purpose.File
file_of (refusal.Long purpose) = purpose

-- a refusal is that of a file at this place of the order, or behind it
abbrev pub RefusesFrom : {A : Type 0} → ℕ → Result A Stop → Type 0
RefusesFrom first (Ok x) = Unit {0}
RefusesFrom first (Err (Refused refusal)) = first ≤ order_of (file_of refusal)
RefusesFrom first (Err (Store purpose)) = Unit {0}
RefusesFrom first (Err Memory) = Unit {0}

-- one of the files that are asked for is missing, and it is at most so far in the order
pub record Misses (files : List NamedBytes) (asks : List Ask) (order : ℕ) : Type 0 where
  pub place : ℕ
  pub ask : Ask
  pub here : slice_get asks place ≡ Some ask
  pub early : order_of ask.purpose ≤ order
  pub missing : bytes_of files ask.name ≡ None

-- A refusal is that of the files, unless the refused file or one before it is missing.
abbrev pub RefusesBy : {A : Type 0} → List NamedBytes → Course A → Result A Stop → Type 0
RefusesBy files course (Ok x) = Unit {0}
RefusesBy files course (Err (Refused refusal)) =
    (course.end ≡ Refuses refusal) ⊎ Misses files course.asks (order_of (file_of refusal))
RefusesBy files course (Err (Store purpose)) = Unit {0}
RefusesBy files course (Err Memory) = Unit {0}

-- ---- a work

-- no file is missing
abbrev pub HasFiles : {A : Type 0} → End A → Type 0
HasFiles (Gives x) = Unit {0}
HasFiles (Refuses refusal) = Unit {0}
HasFiles Lacks = ⊥

pub record Works {A : Type 0} (old new : Input) (work : Work A) (outcome : Result A Stop) : Type 0 where
  -- Where the store tells its files after the call, they are those that it told before it, and the outcome is that of the work over them.
  pub same : (files : List NamedBytes) → new.files ≡ Some files → old.files ≡ Some files
  pub follows : (files : List NamedBytes) → new.files ≡ Some files → IsOutcomeOf old new (work files) outcome
  -- where no file is missing, it still tells them
  pub telling : (files : List NamedBytes) → old.files ≡ Some files → HasFiles (work files).end →
      new.files ≡ Some files
  -- also where it no longer does, no file is refused that comes before the first that is missing
  pub refused : (files : List NamedBytes) → old.files ≡ Some files → RefusesBy files (work files) outcome
  pub fails : StoreFails old new outcome
