-- A printable name is UTF-8, so nothing in it is replaced.
use Rattle.std.proofs.Common.{◌≡◌, false, length, map, sym, arith, refl}
use Rattle.std.specs.Prelude.{◌==◌}
use Rattle.std.proofs.lemmas.Bool.Decides.{nat_tests}
use Rattle.std.proofs.lemmas.List.{length-map}
use Rattle.f8_link.specs.Plans.{module_seen}
use Rattle.f8_link.proofs.PlanLines.{one_more, printable_text}
use Rattle.f8_link.proofs.plan.ModuleList.say.Goals as goal

pub returns : goal.returns
returns c =
    let same = c.in_ok-file.ensures.ok (printable_text _ c.requires) in
    let size = length-map c.self.inside.lines.items module_seen in
    let room : (length (map module_seen c.self.inside.lines.items) == 64) ≡ false = grind (arith, nat_tests, size) in
    rw (sym c.self.view_is, c.in_ok-push.ensures.items)
    (one_more c.self.inside.lines.items _ c.args.file.now c.args.room room (rw same refl))
