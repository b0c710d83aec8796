-- The test decides the order.
use Rattle.std.proofs.Common.{◌≡◌, rules}
use Rattle.abs_domain.specs.StateView.{state_of}
use Rattle.std.proofs.lemmas.Bool.Decides.{Decides-at}
use Rattle.abs_domain.proofs.Orders.{state_decided}
use Rattle.abs_domain.specs.Joins.{is_state_below}
use Rattle.abs_domain.proofs.state.Abs.below.Goals as goal

pub returns-then-registers_below-clause-order : goal.returns-then-registers_below-clause-order
returns-then-registers_below-clause-order c =
    let s = state_of c.args.self.now in
    let t = state_of c.args.upper.now in
    let same : c.counters_below.result ≡ is_state_below s t = search rules in
    Decides-at _ _ same (state_decided s t)

pub returns-else-registers_below-clause-order : goal.returns-else-registers_below-clause-order
returns-else-registers_below-clause-order c =
    let s = state_of c.args.self.now in
    let t = state_of c.args.upper.now in
    let same : c.registers_below.result ≡ is_state_below s t = search rules in
    Decides-at _ _ same (state_decided s t)
