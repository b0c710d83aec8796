-- Whole cartridges that were worked out by hand: how many points are reached, whether all are free of faults, or which one is unsafe and
-- why. What is reached is computed from the definitions, point after point, until nothing is new.
use Rattle.std.proofs.Common.{◌≡◌, ℕ, zero, suc, Bool, true, false, List, [], ◌∷◌, length, refl}
use Rattle.std.specs.Prelude.{Option, Some, None, if◌then◌else◌}
use Rattle.std.specs.List.{list_all, fold}
use Rattle.f8_spec.specs.Instructions.{decoded}
use Rattle.f8_spec.specs.declared.chips.PageSort.TheVariants.{Rom, Ram}
use Rattle.abs_domain.specs.Joins.{joined_state, is_state_below}
use Rattle.abs_domain.specs.declared.points.Point.{Point}
use Rattle.abs_domain.specs.declared.reason.Reason.{Reason}
use Rattle.abs_domain.specs.declared.reason.Reason.TheVariants.{UnknownJump, DataCountersApart}
use Rattle.abs_step.specs.KnownResults.{known_effect, register_writes}
use Rattle.abs_step.specs.MapView.{MapView, chips_view, holds_every_address}
use Rattle.abs_step.specs.Successors.{Invariant, same_point, start_point, start_invariant, successors}
use Rattle.abs_step.specs.Safety.{unsafe_reason, reasons, is_fault_free}
use Rattle.abs_step.proofs.WorkedSteps.{page, psu, smi}
use Rattle.abs_step.specs.StepView.{next_at}

-- ---- what is reached

-- the invariants so far, the points whose successors are still to be taken, and an unsafe one with its reason
pub record Search : Type 0 where
  pub notes : List Invariant
  pub due : List Point
  pub unsafe : Option (Point × Reason)

abbrev pub note_at : Point → List Invariant → Option Invariant
note_at p [] = None
note_at p (x ∷ xs) = if same_point p x.point then Some x else note_at p xs

abbrev pub with_note : Invariant → List Invariant → List Invariant
with_note x [] = x ∷ []
with_note x (y ∷ ys) = if same_point x.point y.point then x ∷ ys else y ∷ with_note x ys

abbrev pub risen : Invariant → Option Invariant → Search → Search
risen x None s = record s { notes = x ∷ s.notes; due = x.point ∷ s.due }
risen x (Some y) s =
    if is_state_below x.state y.state then s
    else record s { notes = with_note (record y { state = joined_state y.state x.state }) s.notes; due = x.point ∷ s.due }

abbrev pub with_next : Search → Invariant → Search
with_next s x = risen x (note_at x.point s.notes) s

abbrev pub stepped_on : MapView → List ℕ → Invariant → Option Reason → Search → Search
stepped_on m tracked x (Some reason) s = record s { unsafe = Some (x.point, reason) }
stepped_on m tracked x None s = fold with_next s (next_at m tracked x)

abbrev pub stepped_at : MapView → List ℕ → Option Invariant → Search → Search
stepped_at m tracked None s = s
stepped_at m tracked (Some x) s = stepped_on m tracked x (unsafe_reason m tracked x) s

-- so many steps at most, up to the first unsafe invariant
abbrev pub searched : MapView → List ℕ → ℕ → Option (Point × Reason) → List Point → Search → Search
searched m tracked zero unsafe due s = s
searched m tracked (suc n) (Some u) due s = s
searched m tracked (suc n) None [] s = s
searched m tracked (suc n) None (p ∷ due) s =
    let t : Search = stepped_at m tracked (note_at p s.notes) (record s { due = due }) in
    searched m tracked n t.unsafe t.due t

abbrev pub from_start : MapView → List ℕ → ℕ → Search
from_start m tracked n =
    searched m tracked n None (start_point ∷ []) (record { notes = start_invariant ∷ []; due = start_point ∷ []; unsafe = None })

-- what is told of it: the points and whether all are free of faults, where nothing is left to do; or the unsafe point
pub data Told : Type 0 where
  Safe : ℕ → Bool → Told
  Unsafe : ℕ → Option ℕ → Reason → Told
  Unfinished : Told

abbrev pub told_of : MapView → Search → Option (Point × Reason) → List Point → Told
told_of m s (Some u) due = Unsafe u.0.at u.0.ret u.1
told_of m s None [] = Safe (length s.notes) (list_all (is_fault_free m) s.notes)
told_of m s None (p ∷ due) = Unfinished

abbrev pub check : MapView → List ℕ → ℕ → Told
check m tracked n = let s : Search = from_start m tracked n in told_of m s s.unsafe s.due

-- ---- a load and a branch back to it

branch_back : check (chips_view (psu 0 4 (0x71 ∷ 0x2B ∷ 0x90 ∷ 0xFE ∷ []) ∷ [])) [] 20 ≡ Safe 3 true
unfolding decoded known_effect register_writes successors unsafe_reason reasons is_fault_free holds_every_address chips_view
branch_back = refl

-- ---- reads of the RAM alone, the second data counter being elsewhere

only_ram : check (chips_view (
    psu 0 4 (0x2A ∷ 0x28 ∷ 0x00 ∷ 0x2C ∷ 0x2A ∷ 0x28 ∷ 0x01 ∷ 0x2C ∷ 0x16 ∷ 0x90 ∷ 0xFF ∷ []) ∷ smi (page Ram 0x28 ∷ []) ∷ []
    )) [] 30 ≡ Safe 6 true
unfolding decoded known_effect register_writes successors unsafe_reason reasons is_fault_free holds_every_address chips_view
only_ram = refl

-- ---- a call within a call by K: known at the second return only where K is tracked

nested_unsplit : check (chips_view (
    psu 0 4 (0x28 ∷ 0x00 ∷ 0x10 ∷ 0x28 ∷ 0x00 ∷ 0x10 ∷ 0x90 ∷ 0xFF ∷ 0xFF ∷ 0xFF ∷ 0xFF ∷ 0xFF ∷ 0xFF ∷ 0xFF ∷ 0xFF ∷ 0xFF ∷ 0x08 ∷ 0x28
    ∷ 0x00 ∷ 0x20
    ∷ 0x0C ∷ 0xFF ∷ 0xFF ∷ 0xFF ∷ 0xFF ∷ 0xFF ∷ 0xFF ∷ 0xFF ∷ 0xFF ∷ 0xFF ∷ 0xFF ∷ 0xFF ∷ 0x1C ∷ []) ∷ []
    )) [] 60 ≡ Unsafe 0x14 (Some 0x14) UnknownJump
unfolding decoded known_effect register_writes successors unsafe_reason reasons is_fault_free holds_every_address chips_view
nested_unsplit = refl

nested_split : check (chips_view (
    psu 0 4 (0x28 ∷ 0x00 ∷ 0x10 ∷ 0x28 ∷ 0x00 ∷ 0x10 ∷ 0x90 ∷ 0xFF ∷ 0xFF ∷ 0xFF ∷ 0xFF ∷ 0xFF ∷ 0xFF ∷ 0xFF ∷ 0xFF ∷ 0xFF ∷ 0x08 ∷ 0x28
    ∷ 0x00 ∷ 0x20
    ∷ 0x0C ∷ 0xFF ∷ 0xFF ∷ 0xFF ∷ 0xFF ∷ 0xFF ∷ 0xFF ∷ 0xFF ∷ 0xFF ∷ 0xFF ∷ 0xFF ∷ 0xFF ∷ 0x1C ∷ []) ∷ []
    )) (12 ∷ 13 ∷ []) 60 ≡ Safe 11 true
unfolding decoded known_effect register_writes successors unsafe_reason reasons is_fault_free holds_every_address chips_view
nested_split = refl

-- ---- a loop that copies 16 bytes between two data counters

-- where the 3851's own one is in it is known only while r0, which counts, is tracked

copy_unsplit : check (chips_view (
    psu 0 4 (0x2A ∷ 0x28 ∷ 0x00 ∷ 0x2C ∷ 0x2A ∷ 0x20 ∷ 0x00 ∷ 0x20 ∷ 0x10 ∷ 0x50 ∷ 0x16 ∷ 0x2C ∷ 0x17 ∷ 0x2C ∷ 0x30 ∷ 0x94 ∷ 0xFA ∷ 0x90
    ∷ 0xFF ∷ [])
    ∷ smi (page Rom 0x20 ∷ page Ram 0x28 ∷ []) ∷ []
    )) [] 200 ≡ Unsafe 0x0A None DataCountersApart
unfolding decoded known_effect register_writes successors unsafe_reason reasons is_fault_free holds_every_address chips_view
copy_unsplit = refl

copy_split : check (chips_view (
    psu 0 4 (0x2A ∷ 0x28 ∷ 0x00 ∷ 0x2C ∷ 0x2A ∷ 0x20 ∷ 0x00 ∷ 0x20 ∷ 0x10 ∷ 0x50 ∷ 0x16 ∷ 0x2C ∷ 0x17 ∷ 0x2C ∷ 0x30 ∷ 0x94 ∷ 0xFA ∷ 0x90
    ∷ 0xFF ∷ [])
    ∷ smi (page Rom 0x20 ∷ page Ram 0x28 ∷ []) ∷ []
    )) (0 ∷ []) 400 ≡ Safe 102 true
unfolding decoded known_effect register_writes successors unsafe_reason reasons is_fault_free holds_every_address chips_view
copy_split = refl

-- ---- reads that go on past the ROM: safe, and not free of faults

read_on : check (chips_view (
    psu 0 4 (0x2A ∷ 0x00 ∷ 0x00 ∷ 0x16 ∷ 0x90 ∷ 0xFE ∷ []) ∷ []
    )) [] 60 ≡ Safe 3 false
unfolding decoded known_effect register_writes successors unsafe_reason reasons is_fault_free holds_every_address chips_view
read_on = refl

-- ---- three chips, with a routine in the third

ordinary : check (chips_view (
    psu 0 4 (0x2A ∷ 0x08 ∷ 0x00 ∷ 0x16 ∷ 0x25 ∷ 0x55 ∷ 0x94 ∷ 0x04 ∷ 0x29 ∷ 0x08 ∷ 0x02 ∷ 0x90 ∷ 0xFF ∷ []) ∷ psu 0x400 8 []
    ∷ psu 0x800 32 (0x55 ∷ 0x2B ∷ 0x28 ∷ 0x08 ∷ 0x10 ∷ 0x90 ∷ 0xFC ∷ 0xFF ∷ 0xFF ∷ 0xFF ∷ 0xFF ∷ 0xFF ∷ 0xFF ∷ 0xFF ∷ 0xFF ∷ 0xFF
    ∷ 0x08 ∷ 0x70 ∷ 0xB4 ∷ 0xB0 ∷ 0xA4 ∷ 0x18 ∷ 0xB4 ∷ 0x20 ∷ 0x37 ∷ 0xB5 ∷ 0x20 ∷ 0x20 ∷ 0xB0 ∷ 0x0C ∷ []) ∷ []
    )) [] 200 ≡ Safe 20 true
unfolding decoded known_effect register_writes successors unsafe_reason reasons is_fault_free holds_every_address chips_view
ordinary = refl
