-- The laws of abstract states: an order, in which the join is the least upper bound, and whose rank bounds every rise; and of points.
use Rattle.std.specs.Prelude.{◌≡◌, ◌<◌, ◌≤◌, ◌↔◌, IsTrue}
use Rattle.std.specs.declared.cmp.Ordering.TheVariants.{Equal}
use Rattle.std.specs.Cmp.{IsTotalOrder}
use Rattle.abs_domain.specs.AbstractState.{AbstractState, HasScratchpad, StateBelow}
use Rattle.abs_domain.specs.Joins.{joined_state, is_state_below, rank}
use Rattle.abs_domain.specs.PointOrder.{point_cmp}
use Rattle.abs_domain.specs.StateView.{state_of}
use Rattle.abs_domain.specs.declared.points.Point.{Point}
use Rattle.abs_domain.specs.declared.state.Abs.{Abs}
use Rattle.abs_domain.specs.contracts.points.PointOrd.TheImpl.{ghosts as derived}

-- the states are in order, and the test of it answers right
pub record OrderLaw : Type 0 where
  pub reflexive : (s : AbstractState) → StateBelow s s
  pub transitive : (s t u : AbstractState) → StateBelow s t → StateBelow t u → StateBelow s u
  pub antisymmetric : (s t : AbstractState) → StateBelow s t → StateBelow t s → s ≡ t
  pub test : (s t : AbstractState) → IsTrue (is_state_below s t) ↔ StateBelow s t

-- the join of two states is above both, and below whatever is above both; a state that the program holds has a whole scratchpad
pub record JoinLaw : Type 0 where
  pub whole : (s : Abs) → HasScratchpad (state_of s)
  pub first : (s t : AbstractState) → HasScratchpad s → HasScratchpad t → StateBelow s (joined_state s t)
  pub second : (s t : AbstractState) → HasScratchpad s → HasScratchpad t → StateBelow t (joined_state s t)
  pub least : (s t u : AbstractState) → StateBelow s u → StateBelow t u → StateBelow (joined_state s t) u
  pub scratchpad : (s t : AbstractState) → HasScratchpad s → HasScratchpad t → HasScratchpad (joined_state s t)

-- A state that is joined with one which isn't below it says less than before. So it rises at most 79 times: there are 79 parts and facts.
pub record RankLaw : Type 0 where
  pub falls : (s t : AbstractState) → HasScratchpad s → HasScratchpad t → ¬ StateBelow t s → rank (joined_state s t) < rank s
  pub most : (s : AbstractState) → HasScratchpad s → rank s ≤ 79

-- points are compared by this order, which is total, and in which only a point itself is its equal
pub record PointLaw : Type 0 where
  pub compares : (p q : Point) → derived.cmp p q ≡ point_cmp p q
  pub total : IsTotalOrder point_cmp
  pub exact : (p q : Point) → point_cmp p q ≡ Equal → p ≡ q
