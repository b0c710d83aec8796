use Rattle.toml.specs.View.{table_view}
use Rattle.cartridge.proofs.MigratedRuns.{three_runs-apart, inside_all}
use Rattle.cartridge.proofs.migration.put_pages.Goals as goal

pub run_texts-requires : goal.run_texts-requires
run_texts-requires c =
    let are = three_runs-apart (table_view c.args.chip.now) c.in-Ok.runs.items c.in-Ok.ensures in
    rw c.as_slice.ensures.value (inside_all c.in-Ok.runs.items are.inside)
