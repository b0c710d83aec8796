-- The run on the instruction set is that of the definitions, with no chip.
use Rattle.std.proofs.Common.{refl}
use Rattle.console_spec.specs.Run.{power_position, chain_in_order}
use Rattle.memory_map.specs.MapOf.{views_of}
use Rattle.pad_script.specs.Reading.{seen}
use Rattle.rack_run.specs.Machines.{BeginsAt}
use Rattle.rack_run.proofs.FlatTurns.{start_of, stands_at_start, keeps_at_start, tells_whole, lines_whole, lines_cut}
use Rattle.rack_run.proofs.on_flat.refer.Goals as goal

pub returns-in-Ok-run-clause-refers : goal.returns-in-Ok-run-clause-refers
returns-in-Ok-run-clause-refers g c =
    let script = seen c.args.script.now in
    let vs = views_of c.args.chips.now in
    let powers = c.args.powers.now in
    let first = power_position vs (chain_in_order vs) powers script.power in
    let begins : BeginsAt c.in-Ok.isa first = record { unwritten = refl; stands = c.in-Ok.ensures.stands } in
    let begun = (rw c.as_slice.ensures.events at (c.happen_at.ensures.begins first begins)).stands in
    let keeps = keeps_at_start c.happen_at.new.player vs powers script c.phi.result begun c.phi.ensures in
    let out = c.in-Ok-run.ensures.out (start_of vs powers script) (stands_at_start c.happen_at.new.player vs powers script begun)
    (rw c.new-progress.ensures keeps) in
    record {
      tells = tells_whole vs powers script _ _ _ _ c.in-Ok-run.ending out;
      lines = lines_whole vs powers script _ _ _ _ c.in-Ok-run.ending out;
    }

pub returns-clause-failed : goal.returns-clause-failed
returns-clause-failed g c =
    let script = seen c.args.script.now in
    let vs = views_of c.args.chips.now in
    let powers = c.args.powers.now in
    let first = power_position vs (chain_in_order vs) powers script.power in
    let begins : BeginsAt c.in-Ok.isa first = record { unwritten = refl; stands = c.in-Ok.ensures.stands } in
    let begun = (rw c.as_slice.ensures.events at (c.happen_at.ensures.begins first begins)).stands in
    let keeps = keeps_at_start c.happen_at.new.player vs powers script c.phi.result begun c.phi.ensures in
    lines_cut vs powers script _ _ _ _ _
    (c.in-Err.ensures.short (start_of vs powers script) (stands_at_start c.happen_at.new.player vs powers script begun) (rw c.new-progress.ensures keeps))
