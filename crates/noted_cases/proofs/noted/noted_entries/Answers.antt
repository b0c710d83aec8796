-- the notes are those of the map
use Rattle.std.proofs.Common.{◌≡◌, rules}
use Rattle.noted_cases.proofs.NotedLoops.{none_made}
use Rattle.noted_cases.proofs.noted.noted_entries.Goals as goal

pub loop-point-init : goal.loop-point-init
loop-point-init c =
    let all : c.into_iter-point-iterator.result ≡ c.as_map-point-items.result.now.entries = search rules in
    none_made c.in_ok-entries.entries.items c.into_iter-point-iterator.result c.as_map-point-items.result.now.entries c.args.notes.now
    c.in_ok-entries.ensures.items all c.as_map-point-items.ensures
