-- An analysis as a worklist sees it: points and states, what holds next, and which states say less. No instruction is in sight here.
use Rattle.std.specs.Prelude.{◌≡◌, ℕ, ◌≤◌, ◌<◌, Bool, true, false, List, Result, Ok}
use Rattle.std.specs.List.{Contains}
use Rattle.std.specs.declared.cmp.Ordering.{Ordering}
use Rattle.std.specs.declared.cmp.Ordering.TheVariants.{Equal}
use Rattle.std.specs.Cmp.{IsTotalOrder}
use Rattle.abs_domain.specs.declared.reason.Reason.{Reason}

-- Points are in order. A state is below another where it says no less, and the join says what both say. The analysis starts at a point in a
-- state. What holds next is a list of states at points, in their order, or the reason why the state isn't safe there. A safe
-- state may be free of faults besides. Only some states fit a point; and the rank of a state is how much it says.
pub record Analysis (P S : Type 0) : Type 1 where
  pub order : P → P → Ordering
  pub below : S → S → Bool
  pub join : S → S → S
  pub start_point : P
  pub start_state : S
  pub next : P → S → Result (List (P × S)) Reason
  pub is_fault_free : P → S → Bool
  pub fits : P → S → Type 0
  pub rank : S → ℕ

-- each state of the lower list has one of the upper list at its point that says no more
pub record IsFollowedBy {P S : Type 0} (an : Analysis P S) (lower upper : List (P × S)) : Type 0 where
  pub each : (q : P) (t : S) → Contains lower (q, t) → (u : S) × Contains upper (q, u) × (an.below t u ≡ true)

-- a state is safe at a point, and what holds next is followed by the list
pub record LeadsBelow {P S : Type 0} (an : Analysis P S) (p : P) (s : S) (upper : List (P × S)) : Type 0 where
  pub lower : List (P × S)
  pub safe : an.next p s ≡ Ok lower
  pub followed : IsFollowedBy an lower upper

pub record AnalysisLaws {P S : Type 0} (an : Analysis P S) : Type 0 where
  -- the order of points is total, and only a point itself is its equal in it
  pub total : IsTotalOrder an.order
  pub exact : (p q : P) → an.order p q ≡ Equal → p ≡ q
  -- states are in order, and the join of two that fit one point is their least upper bound
  pub reflexive : (s : S) → an.below s s ≡ true
  pub transitive : (s t u : S) → an.below s t ≡ true → an.below t u ≡ true → an.below s u ≡ true
  pub first : (p : P) (s t : S) → an.fits p s → an.fits p t → an.below s (an.join s t) ≡ true
  pub second : (p : P) (s t : S) → an.fits p s → an.fits p t → an.below t (an.join s t) ≡ true
  pub least : (s t u : S) → an.below s u ≡ true → an.below t u ≡ true → an.below (an.join s t) u ≡ true
  -- from a state that says more no less is safe or free of faults, and what holds next says no less
  pub keeps : (p : P) (lower upper : S) (ways : List (P × S)) → an.fits p lower → an.fits p upper → an.below lower upper ≡ true →
      an.next p upper ≡ Ok ways → LeadsBelow an p lower ways
  pub fault_free : (p : P) (lower upper : S) → an.fits p lower → an.fits p upper → an.below lower upper ≡ true →
      an.is_fault_free p upper ≡ true → an.is_fault_free p lower ≡ true
  -- a state that is joined with one which isn't below it loses rank, and no rank is above 79
  pub falls : (p : P) (s t : S) → an.fits p s → an.fits p t → an.below t s ≡ false → an.rank (an.join s t) < an.rank s
  pub most : (p : P) (s : S) → an.fits p s → an.rank s ≤ 79
  -- states fit their points at the start, where two at one point are joined, and in all that holds next
  pub start_fits : an.fits an.start_point an.start_state
  pub join_fits : (p : P) (s t : S) → an.fits p s → an.fits p t → an.fits p (an.join s t)
  pub next_fits : (p : P) (s : S) (ways : List (P × S)) → an.fits p s → an.next p s ≡ Ok ways → (q : P) (t : S) → Contains ways (q, t) →
      an.fits q t
