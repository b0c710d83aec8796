-- Each register may hold any byte.
use Rattle.std.proofs.Common.{refl, rules, tests, ◌∙◌}
use Rattle.std.specs.Prelude.{None}
use Rattle.std.proofs.lemmas.Iterator.{YieldsList-from_slice}
use Rattle.std.proofs.lemmas.Iterator.Search.{all_from_yields_List}
use Rattle.value_sets.specs.SetViews.{byte_values}
use Rattle.value_sets.specs.ValueSets.{is_within}
use Rattle.case_step.specs.EntryViews.{entry_view}
use Rattle.case_step.proofs.StartCover.{scratchpad_met}
use Rattle.case_step.proofs.list.is_scratchpad_free.Goals as goal

pub returns-then-is_none : goal.returns-then-is_none
returns-then-is_none c =
    let e = c.args.upper.now in
    all_from_yields_List (λ set. is_within None (byte_values set)) _ _ _ c.all.ensures.ran
    (YieldsList-from_slice e.regs (cc)) (λ x b q k. search (rules, tests))
    ∙ scratchpad_met (entry_view e) e.regs e.all_registers refl c.if-is_none.ensures
