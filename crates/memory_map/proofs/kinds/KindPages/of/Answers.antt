-- All pages are told, by the chips that are fitted.
use Rattle.std.proofs.Common.{◌∙◌, arith}
use Rattle.memory_map.specs.MapKinds.{has_kind_and_page, has_kind_and_pages}
use Rattle.memory_map.proofs.Summary.{any-seats}
use Rattle.memory_map.proofs.kinds.KindPages.of.Goals as goal

pub returns : goal.returns
returns c = record {
  held = λ number within.
      c.loop-number.invariant.held number (omega arith) ∙ any-seats (has_kind_and_page c.args.kind number) c.args.chips.now;
  any = c.some_has_pages.ensures ∙ any-seats (has_kind_and_pages c.args.kind) c.args.chips.now;
}
