-- The stores in memory, as contracts see them.
use Rattle.std.specs.Prelude.{◌≡◌, ⊤, ℕ, Bool, true, not, ◌&&◌, ◌||◌, ◌==◌, nat_le, if◌then◌else◌, List, [], ◌∷◌}
use Rattle.std.specs.Prelude.{length, Option, Some, None, is_some, Result, Ok, Err, bytes_eq}
use Rattle.std.specs.List.{list_any}
use Rattle.outside.specs.Counts.{one_more, raised}
use Rattle.outside.specs.StoreRules.{NamedBytes, Input, bytes_of}
use Rattle.outside.specs.declared.store.FetchFault.{FetchFault}
use Rattle.outside.specs.declared.store.FetchFault.TheVariants.{Failed, TooLong, Memory}

abbrev pub has_name : List NamedBytes → List ℕ → Bool
has_name files name = list_any (λ f. bytes_eq f.name name) files

-- no name comes twice
unfoldable pub names_differ : List NamedBytes → Bool
names_differ [] = true
names_differ (f ∷ fs) = not (has_name fs f.name) && names_differ fs

-- what a fetch is to answer, but for want of memory
pub data Answer : Type 0 where
  Gives : List ℕ → Answer
  Fails : Answer
  Refuses : Answer

-- a file with at most so many bytes is given, a longer one refused
abbrev pub within_limit : ℕ → List ℕ → Answer
within_limit limit bytes = if nat_le (length bytes) limit then Gives bytes else Refuses

abbrev pub HasBytes : Answer → Type 0
HasBytes (Gives bytes) = ⊤
HasBytes Fails = ⊥
HasBytes Refuses = ⊥

-- A fetch that gave no bytes was to be answered so. Memory may be wanting where there are bytes to give, and nowhere else.
abbrev pub IsRefused : {T : Type 0} → Answer → Result T FetchFault → Type 0
IsRefused answer (Ok x) = ⊤
IsRefused answer (Err Failed) = answer ≡ Fails
IsRefused answer (Err TooLong) = answer ≡ Refuses
IsRefused answer (Err Memory) = HasBytes answer

-- A store that can fail: its files, the numbers of the calls that are to fail, how many calls there were, the sum of their limits, and its
-- count of faults.
pub record KeptFiles : Type 0 where
  pub files : List NamedBytes
  pub failing : List ℕ
  pub calls : ℕ
  pub allowed : ℕ
  pub faults : ℕ

abbrev pub kept_input : KeptFiles → Input
kept_input s = record { files = Some s.files; faults = s.faults; asked = record { fetches = s.calls; allowed = s.allowed } }

-- the call that comes is to fail
abbrev pub call_fails : KeptFiles → Bool
call_fails s = list_any (λ call. call == one_more s.calls) s.failing

abbrev pub answer_for : ℕ → Option (List ℕ) → Answer
answer_for limit None = Fails
answer_for limit (Some bytes) = within_limit limit bytes

-- A call that is to fail does so, and a missing file is a failure.
abbrev pub kept_answer : KeptFiles → List ℕ → ℕ → Answer
kept_answer s name limit = if call_fails s then Fails else answer_for limit (bytes_of s.files name)

abbrev pub failures : Answer → ℕ → ℕ
failures Fails n = one_more n
failures (Gives bytes) n = n
failures Refuses n = n

-- the store after a fetch: one more call, with its limit, and one more fault where it failed
abbrev pub after_fetch : KeptFiles → List ℕ → ℕ → KeptFiles
after_fetch s name limit = record s {
  calls = one_more s.calls;
  allowed = raised s.allowed limit;
  faults = failures (kept_answer s name limit) s.faults;
}

-- A store that never fails: its files, whether it was asked for one that is missing, how many calls there were, and the sum of their limits.
pub record SureFiles : Type 0 where
  pub files : List NamedBytes
  pub strayed : Bool
  pub calls : ℕ
  pub allowed : ℕ

abbrev pub sure_input : SureFiles → Input
sure_input s = record {
  files = (if s.strayed then None else Some s.files);
  faults = 0;
  asked = record { fetches = s.calls; allowed = s.allowed };
}

-- A missing file is taken as an empty one.
abbrev pub sure_answer_for : ℕ → Option (List ℕ) → Answer
sure_answer_for limit None = Gives []
sure_answer_for limit (Some bytes) = within_limit limit bytes

abbrev pub sure_answer : SureFiles → List ℕ → ℕ → Answer
sure_answer s name limit = sure_answer_for limit (bytes_of s.files name)

-- the store after a fetch: one more call, with its limit, and it has strayed from its files where it was asked for a missing one
abbrev pub after_sure_fetch : SureFiles → List ℕ → ℕ → SureFiles
after_sure_fetch s name limit = record s {
  calls = one_more s.calls;
  allowed = raised s.allowed limit;
  strayed = s.strayed || not (is_some (bytes_of s.files name));
}
