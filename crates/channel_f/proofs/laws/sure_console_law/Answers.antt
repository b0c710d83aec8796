-- The counts of faults of a sure store and a sure sink stay 0.
use Rattle.std.proofs.Common.{refl}
use Rattle.channel_f.specs.declared.status.Status.TheVariants as status
use Rattle.channel_f.proofs.StatusCodes.{never_code}
use Rattle.channel_f.proofs.SureCalls.{never_rose, surely_complete, told_unless_strayed}
use Rattle.channel_f.proofs.laws.sure_console_law.Goals as goal

pub returns-clause-complete : goal.returns-clause-complete
returns-clause-complete g c =
    λ kept.
    surely_complete _ _ c.args.store.now.files _ (told_unless_strayed c.args.store.now.strayed c.args.store.now.files kept) refl refl refl refl
    _ c.console.ensures.complete

pub returns-clause-store : goal.returns-clause-store
returns-clause-store g c =
    never_code _ status.Store _ c.console.ensures.complete (λ said complete by_store. never_rose (complete.store by_store))

pub returns-clause-sink : goal.returns-clause-sink
returns-clause-sink g c =
    never_code _ status.Sink _ c.console.ensures.complete (λ said complete by_sink. never_rose (complete.sink by_sink))
