-- The work of a search: what is found so far, which points are due, and what holds of it all the while.
use Rattle.std.specs.Prelude.{◌≡◌, ℕ, ◌+◌, ◌-◌, ◌*◌, ◌≤◌, Bool, true, cond, ◌⊎◌, List, length, Option, Some, None, is_some, Ok, MatchBool}
use Rattle.std.specs.List.{Contains, list_any, sum_by}
use Rattle.std.specs.List.Sorted.{IsStrictlySortedBy}
use Rattle.std.specs.Map.{lookup, keys_of, values_of}
use Rattle.std.specs.BTreeMap.{is_at, insert_entry}
use Rattle.std.specs.declared.cmp.Ordering.{Ordering}
use Rattle.abs_step.specs.Analysis.{Analysis}
use Rattle.abs_step.specs.ReachedStates.{Reached, state_at, CoversAt}

-- the states that are found so far, by their points in order, and the points that are due, which are to be looked at again
pub record Work (P S : Type 0) : Type 0 where
  pub notes : List (P × S)
  pub due : List P

-- ---- what a change does, by the order of points

abbrev pub is_due : {P : Type 0} → (P → P → Ordering) → List P → P → Bool
is_due order due p = list_any (is_at (order p)) due

module _ {P S : Type 0} (order : P → P → Ordering) where
  -- the state at a point
  abbrev pub state_by : List (P × S) → P → Option S
  state_by notes p = lookup (is_at (order p)) notes

  -- a state is written at a point, and the point is due
  pub record Wrote (old new : Work P S) (q : P) (v : S) : Type 0 where
    pub notes : (p : P) → state_by new.notes p ≡ cond (is_at (order q) p) (Some v) (state_by old.notes p)
    pub due : (p : P) → is_due order new.due p ≡ cond (is_at (order q) p) true (is_due order old.due p)
    pub entries : new.notes ≡ insert_entry order old.notes q v
    pub was_ascending : IsStrictlySortedBy order (keys_of old.notes)
    pub ascends : IsStrictlySortedBy order (keys_of new.notes)
    pub longer : length new.due ≤ length old.due + 1
    pub count : length new.notes ≡ length old.notes + cond (is_some (state_by old.notes q)) 0 1

  -- A state is added at a point: it is written where none is; where it is below the one that is there, nothing changes; else their join is
  -- written.
  module _ (below : S → S → Bool) (join : S → S → S) where
    abbrev pub AddedTo : Work P S → Work P S → P → S → Option S → Type 0
    AddedTo old new q t None = Wrote old new q t
    AddedTo old new q t (Some s) = MatchBool (below t s) (new ≡ old) (Wrote old new q (join s t))

    abbrev pub Added : Work P S → Work P S → P → S → Type 0
    Added old new q t = AddedTo old new q t (state_by old.notes q)

module _ {P S : Type 0} (an : Analysis P S) where
  -- ---- what holds all the while

  -- a state is safe at its point, and all that holds next is covered
  pub record IsSettled (notes : List (P × S)) (p : P) (s : S) : Type 0 where
    pub ways : List (P × S)
    pub safe : an.next p s ≡ Ok ways
    pub covered : (q : P) (t : S) → Contains ways (q, t) → CoversAt an notes q t

  -- the start is covered, all states are reached, and those at points that aren't due are settled, but for some that are left for now
  pub record Holds (w : Work P S) (left : P → S → Type 0) : Type 0 where
    pub start : CoversAt an w.notes an.start_point an.start_state
    pub reached : (p : P) (s : S) → state_at an w.notes p ≡ Some s → Reached an p s
    pub settled : (p : P) (s : S) → state_at an w.notes p ≡ Some s → (is_due an.order w.due p ≡ true) ⊎ (IsSettled w.notes p s ⊎ left p s)
    pub ascends : IsStrictlySortedBy an.order (keys_of w.notes)
    pub few : length w.notes ≤ 65536

  -- none are left, or only the one that is looked at now
  abbrev pub Nothing : P → S → Type 0
  Nothing p s = ⊥

  abbrev pub Only : P → S → P → S → Type 0
  Only q t p s = (q ≡ p) × (t ≡ s)

  -- ---- how much is still to do at most

  -- Each state can still lose its rank, 79 at most, and each point that may still come has one such state. What comes or falls is due once
  -- more.
  abbrev pub effort : Work P S → ℕ
  effort w = 2 * (sum_by an.rank (values_of w.notes) + 81 * (65536 - length w.notes)) + length w.due
