use Rattle.std.proofs.Common.{rules}
use Rattle.std.proofs.lemmas.Map.Made.{filter_same_pairs}
use Rattle.cartridge.specs.Keys.{run_keys}
use Rattle.cartridge.proofs.MigratedMembers.{keeps, kept_seen}
use Rattle.cartridge.proofs.migration.remove_runs.Goals as goal

pub returns : goal.returns
returns c =
    let kept = filter_same_pairs _ (keeps run_keys) _ (λ k v b w f' t. search rules) _ _ c.retain.ensures.filtered in
    rw kept (kept_seen run_keys c.args.table.now.entries)
