-- What is said of a sink: what it was given, where it tells that, and its count of faults.
use Rattle.std.specs.Prelude.{◌≡◌, ℕ, ◌≤◌, List, ◌++◌, Option, Some, None}
use Rattle.outside.specs.Counts.{Rose}

-- what a sink was given, where it tells that, and its count of faults
pub record Output : Type 0 where
  pub written : Option (List ℕ)
  pub faults : ℕ

-- a sink that tells nothing but its faults
abbrev pub untold_output : ℕ → Output
untold_output faults = record { written = None; faults = faults }

-- Where what was written is told after a call, it was told before it, and has gained these bytes. The count of faults stays.
pub record Adds (old new : Output) (bytes : List ℕ) : Type 0 where
  pub told : (now : List ℕ) → new.written ≡ Some now →
      (before : List ℕ) × (old.written ≡ Some before) × (now ≡ before ++ bytes)
  pub count : new.faults ≡ old.faults

-- A fault: what was written has gained a first part of the bytes, which may be none of them or all. The count rose, and it never falls.
pub record AddsPart (old new : Output) (bytes : List ℕ) : Type 0 where
  pub told : (now : List ℕ) → new.written ≡ Some now →
      (before : List ℕ) × (part : List ℕ) × (rest : List ℕ)
      × (old.written ≡ Some before) × (bytes ≡ part ++ rest) × (now ≡ before ++ part)
  pub later : old.faults ≤ new.faults
  pub rose : Rose old.faults new.faults
