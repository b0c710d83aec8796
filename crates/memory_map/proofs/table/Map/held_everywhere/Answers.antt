-- What is kept is what the pages say.
use Rattle.std.proofs.Common.{length, ap, sym, ◌∙◌}
use Rattle.std.specs.List.{list_all}
use Rattle.memory_map.specs.MapEntries.{is_held}
use Rattle.memory_map.specs.MapOf.{MapTable}
use Rattle.memory_map.proofs.Summary.{everywhere_by}
use Rattle.memory_map.proofs.table.Map.held_everywhere.Goals as goal

pub returns : goal.returns
returns c =
    let same = ap (λ (m : MapTable). list_all is_held m.pages) c.self.view_is in
    let size = ap (λ (m : MapTable). length m.pages) (sym c.self.view_is) ∙ c.self.invariant.0.each_page in
    c.self.invariant.0.each_held ∙ same ∙ sym (everywhere_by c.args.self.now size)
