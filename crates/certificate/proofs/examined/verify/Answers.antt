-- What is found says just whether the map is closed, safe and free of faults, and so what each run does.
use Rattle.std.proofs.Common.{◌∙◌, ◌≤◌, length, arith, rules, sym}
use Rattle.abs_step.specs.MapView.{chips_view}
use Rattle.certificate.proofs.ClosedMaps.{agreed_as, whole_as}
use Rattle.certificate.proofs.VerifiedMaps.{agreed_goes_on, whole_goes_on}
use Rattle.certificate.proofs.examined.verify.Goals as goal

pub returns-clause-answer : goal.returns-clause-answer
returns-clause-answer c = search rules

pub returns-clause-whole : goal.returns-clause-whole
returns-clause-whole c =
    let few : length c.args.notes.now ≤ 65536 = omega (arith, c.len-count.ensures.few, c.len-count.ensures.count) in
    whole_as (chips_view c.args.cart.now.chips) c.args.cart.now.split c.args.notes.now c.len-count.ensures.ascends few c.requires
    c.examined.result (returns-clause-answer c) (λ is. rw c.as_map.ensures at (c.examined.ensures.whole is))

pub returns-clause-agreed : goal.returns-clause-agreed
returns-clause-agreed c =
    let few : length c.args.notes.now ≤ 65536 = omega (arith, c.len-count.ensures.few, c.len-count.ensures.count) in
    agreed_as (chips_view c.args.cart.now.chips) c.args.cart.now.split c.args.notes.now c.len-count.ensures.ascends few c.requires
    c.examined.result (returns-clause-answer c) (λ is. rw c.as_map.ensures at (c.examined.ensures.agreed is))

pub returns-clause-served : goal.returns-clause-served
returns-clause-served c = λ is.
    whole_goes_on c.args.cart.now.chips c.args.cart.now.split c.args.notes.now ((returns-clause-whole c).0 is).0.is_map
    (sym (returns-clause-answer c) ∙ is)

pub returns-clause-undriven : goal.returns-clause-undriven
returns-clause-undriven c = λ is.
    agreed_goes_on c.args.cart.now.chips c.args.cart.now.split c.args.notes.now ((returns-clause-agreed c).0 is).0.is_map
    (sym (returns-clause-answer c) ∙ is)
