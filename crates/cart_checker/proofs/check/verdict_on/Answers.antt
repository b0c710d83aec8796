-- The least map is free of faults, or not.
use Rattle.std.proofs.Common.{◌≡◌, true, false, refl, sym, ap, ◌∙◌}
use Rattle.abs_step.specs.MapView.{view_of}
use Rattle.cart_checker.specs.WorkView.{are_fault_free}
use Rattle.cart_checker.proofs.Endings.{free_as}
use Rattle.cart_checker.proofs.check.verdict_on.Goals as goal

pub returns-then-are_fault_free-clause-verdict : goal.returns-then-are_fault_free-clause-verdict
returns-then-are_fault_free-clause-verdict c =
    let m = view_of c.args.map.now in
    let free : are_fault_free m c.in-Ok.notes ≡ true =
    ap (are_fault_free m) (sym c.as_map.ensures) ∙ sym (free_as m c.as_map.result.now.entries) ∙ sym c.are_fault_free.ensures
    ∙ c.if-are_fault_free.true in
    rw (c.in-Ok.is, free) refl

pub returns-else-are_fault_free-clause-verdict : goal.returns-else-are_fault_free-clause-verdict
returns-else-are_fault_free-clause-verdict c =
    let m = view_of c.args.map.now in
    let free : are_fault_free m c.in-Ok.notes ≡ false =
    ap (are_fault_free m) (sym c.as_map.ensures) ∙ sym (free_as m c.as_map.result.now.entries) ∙ sym c.are_fault_free.ensures
    ∙ c.if-are_fault_free.false in
    rw (c.in-Ok.is, free) refl
