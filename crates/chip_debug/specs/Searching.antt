-- What is looked for when instructions are done again, and what becomes of the tape.
use Rattle.std.specs.Prelude.{ℕ, ◌≡◌, ◌≤◌, ◌+◌, ◌-◌, ◌*◌, ◌==◌, ◌++◌, ◌&&◌, nat_le, Bool, true, false, List, Option, slice_get}
use Rattle.std.specs.List.{list_any}
use Rattle.f8_spec.specs.ChipState.{ChipView, ChipState}
use Rattle.f8_spec.specs.declared.bus.Counters.{Counters}
use Rattle.f8_machine.specs.declared.heard.Heard.{Heard}
use Rattle.rewind.specs.Asking.{allowed_since_power}
use Rattle.rewind.specs.LogEntries.{LogState}
use Rattle.rewind.specs.Reached.{Reached}
use Rattle.rewind.specs.Tape.{TapeState, IsTaped, begin, come, entries_of}
use Rattle.rewind.specs.declared.entry.Entry.{Entry}
use Rattle.chip_debug.specs.Asking.{behind_allowed}
use Rattle.chip_debug.specs.Breaks.{are_met}
use Rattle.chip_debug.specs.Scenes.{meets_break}
use Rattle.chip_debug.specs.Stepping.{is_so, is_store, latest, places, stores_at, upto}
use Rattle.chip_debug.specs.declared.replaying.Sought.{Sought}
use Rattle.chip_debug.specs.declared.replaying.Sought.TheVariants.{Nothing, Break, Store}

-- the instruction of a number that comes next is looked for, with the chain of the chips described
abbrev pub is_sought : Sought → List ℕ → ℕ → Reached → Bool
is_sought Nothing chain n r = false
is_sought (Break from breaks) chain n r = nat_le from n && meets_break breaks chain r
is_sought (Store at) chain n r = stores_at at r

-- so it is by what was seen of it: the data counter before it, its bus steps, and where it led
abbrev pub is_this : Sought → ℕ → ℕ → List Heard → ℕ → Counters → List ℕ → List ChipView → Bool
is_this Nothing n at steps p reference chain vs = false
is_this (Break from breaks) n at steps p reference chain vs = nat_le from n && are_met breaks steps p reference chain vs
is_this (Store wanted) n at steps p reference chain vs = (at == wanted) && list_any is_store steps

-- how many questions are put behind each instruction
abbrev pub sought_allowed : Sought → List ℕ → ℕ
sought_allowed Nothing chain = 0
sought_allowed (Break from breaks) chain = behind_allowed true breaks chain
sought_allowed (Store at) chain = 0

-- the last of so many instructions of some entries, counted from 1, that is looked for
abbrev pub last_sought : Sought → List ℕ → ℕ → List Entry → Reached → Option ℕ
last_sought sought chain count entries r =
    latest (λ n. is_so (is_sought sought chain n) (slice_get (places entries r) (n - 1))) count

-- a log of which so many instructions were played again from the start
abbrev pub log_replayed : ℕ → LogState → LogState → Type 0
log_replayed count old new =
    (new.played ≡ upto count (entries_of old)) × (new.played ++ new.left ≡ entries_of old) × (new.spare ≡ old.spare)

-- The tape stands there, the last instruction that is looked for was found, and no more was asked than the bus steps and the search allow.
pub record IsReplayed (sought : Sought) (count : ℕ) (answer : Option ℕ) (old new : TapeState) (news : List ChipState)
    (first : List ChipView) (before after : ℕ) : Type 0 where
  pub taped : IsTaped new news first
  pub found : answer ≡ last_sought sought old.machine.chain count (entries_of old.log) (begin old first)
  pub asked :
      after ≤ before + allowed_since_power (come new first) + count * sought_allowed sought old.machine.chain
