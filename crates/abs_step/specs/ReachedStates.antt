-- The states that an analysis reaches at its points, and the invariant maps of it: closed, safe, free of faults, and the least one.
use Rattle.std.specs.Prelude.{◌≡◌, ◌≤◌, ◌<◌, true, List, length, Option, Some, Ok, Err}
use Rattle.std.specs.List.{All, Contains, IsDistinct}
use Rattle.std.specs.List.Sorted.{IsStrictlySortedBy}
use Rattle.std.specs.Map.{lookup, keys_of}
use Rattle.std.specs.BTreeMap.{is_at}
use Rattle.std.specs.Ordering.{eq_by_cmp}
use Rattle.abs_domain.specs.declared.reason.Reason.{Reason}
use Rattle.abs_step.specs.Analysis.{Analysis}

-- ---- reached states

-- The start is reached; so is the join of two states that are reached at one point, and all that holds next after a safe state. Nothing
-- else is.
pub data Reached {P S : Type 0} (an : Analysis P S) : P → S → Type 0 where
  start : Reached an an.start_point an.start_state
  joined : {p : P} {s t : S} → Reached an p s → Reached an p t → Reached an p (an.join s t)
  next : {p q : P} {s t : S} {ways : List (P × S)} → Reached an p s → an.next p s ≡ Ok ways → Contains ways (q, t) → Reached an q t

-- ---- invariant maps: states by their points

module _ {P S : Type 0} (an : Analysis P S) where
  -- the state at a point
  abbrev pub state_at : List (P × S) → P → Option S
  state_at notes p = lookup (is_at (an.order p)) notes

  -- the map has a state at the point that says no more
  pub record CoversAt (notes : List (P × S)) (p : P) (s : S) : Type 0 where
    pub upper : S
    pub noted : state_at notes p ≡ Some upper
    pub below : an.below s upper ≡ true

  -- points ascend, there are at most 65,536 of them, and each state fits its point
  pub record IsInvariantMap (notes : List (P × S)) : Type 0 where
    pub ascends : IsStrictlySortedBy an.order (keys_of notes)
    pub few : length notes ≤ 65536
    pub fits : (p : P) (s : S) → state_at notes p ≡ Some s → an.fits p s

  -- the start is covered, and all that holds next after a safe state of the map
  pub record IsClosedMap (notes : List (P × S)) : Type 0 where
    pub start : CoversAt notes an.start_point an.start_state
    pub next : (p : P) (s : S) (ways : List (P × S)) → state_at notes p ≡ Some s → an.next p s ≡ Ok ways →
        (q : P) (t : S) → Contains ways (q, t) → CoversAt notes q t

  -- each state of it is safe, and each is free of faults
  abbrev pub HoldsSafeStates : List (P × S) → Type 0
  HoldsSafeStates notes = (p : P) (s : S) → state_at notes p ≡ Some s → (ways : List (P × S)) × (an.next p s ≡ Ok ways)

  abbrev pub HoldsFaultFreeStates : List (P × S) → Type 0
  HoldsFaultFreeStates notes = (p : P) (s : S) → state_at notes p ≡ Some s → an.is_fault_free p s ≡ true

  pub record IsSafelyClosed (notes : List (P × S)) : Type 0 where
    pub is_map : IsInvariantMap notes
    pub closed : IsClosedMap notes
    pub safe : HoldsSafeStates notes

  -- it is closed and safe, and each state of it is reached: so no other one says more anywhere
  pub record IsLeastMap (notes : List (P × S)) : Type 0 where
    pub closed : IsSafelyClosed notes
    pub reached : (p : P) (s : S) → state_at notes p ≡ Some s → Reached an p s

  -- every closed and safe map covers each state of it
  abbrev pub IsLowestMap : List (P × S) → Type 0
  IsLowestMap notes = (others : List (P × S)) → IsSafelyClosed others → (p : P) (s : S) → state_at notes p ≡ Some s → CoversAt others p s

  -- ---- whether there are such maps

  abbrev pub SomeIsSafe : Type 0
  SomeIsSafe = (notes : List (P × S)) × IsSafelyClosed notes

  abbrev pub SomeIsFaultFree : Type 0
  SomeIsFaultFree = (notes : List (P × S)) × IsSafelyClosed notes × HoldsFaultFreeStates notes

  -- ---- what shows that there are none

  -- a state is reached that isn't safe at its point, for this reason
  pub record ReachesUnsafe (p : P) (s : S) (reason : Reason) : Type 0 where
    pub reached : Reached an p s
    pub unsafe : an.next p s ≡ Err reason

  -- states are reached at more than 65,536 points
  pub record ReachesTooMany : Type 0 where
    pub points : List P
    pub many : 65536 < length points
    pub distinct : IsDistinct (eq_by_cmp an.order) points
    pub reached : All (λ p. (s : S) × Reached an p s) points
