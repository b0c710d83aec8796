-- A turn carries the next command out.
use Rattle.std.proofs.Common.{◌∙◌, ◌≤◌, [], arith, length, refl}
use Rattle.std.proofs.lemmas.List.{drop_all, drop_more}
use Rattle.std.proofs.lemmas.Result.{err_from_is_err_and}
use Rattle.chip_debug.specs.declared.command.Command.TheVariants.{Power}
use Rattle.channel_f.proofs.Debuggings.{along_first, along_more, along_cut, along_all, asked_all, failed_at, rooms_next, total_next}
use Rattle.channel_f.proofs.Debuggings.{whole_all}
use Rattle.channel_f.proofs.debugging.carry_out.Goals as goal

pub loop-command-init : goal.loop-command-init
loop-command-init g c = record {
  along = λ scene at. along_first c.args.commands.now scene _ _ _ _ at;
  same = refl;
  ranges = c.requires.ranges;
  counted = omega (arith, c.requires.begun);
  room = c.requires.room;
  fits = c.requires.fits;
  chips = refl;
}

pub command-requires : goal.command-requires
command-requires g c =
    let next = drop_more c.args.commands.now c.loop-command.command-index (Power 0) c.loop-command-test.true in
    let inv = c.loop-command.invariant in
    let counted = total_next c.args.commands.now c.loop-command.command-index c.loop-command-test.true in
    let rooms = rooms_next c.args.commands.now c.loop-command.command-index c.loop-command-test.true in
    record {
      few = omega (arith, c.requires.few, inv.chips);
      ranges = (rw next at inv.ranges).0;
      count = omega (arith, inv.counted, counted, c.requires.total);
      room = omega (arith, inv.room, rooms);
      fits = inv.fits;
    }

pub loop-command-preserved : goal.loop-command-preserved
loop-command-preserved g c =
    let next = drop_more c.args.commands.now c.loop-command.command-index (Power 0) c.loop-command-test.true in
    let inv = c.loop-command.invariant in
    let counted = total_next c.args.commands.now c.loop-command.command-index c.loop-command-test.true in
    let rooms = rooms_next c.args.commands.now c.loop-command.command-index c.loop-command-test.true in
    let new = c.in_ok-command.ensures in
    record {
      along = λ scene at.
          let here = inv.along scene at in
          along_more _ _ _ _ scene _ _ _ _ _ _ _ _ _ _ here next (new.carried _ here.at) (new.told _ here.at).ok
          (new.asked _ here.at);
      same = new.patches ∙ inv.same;
      ranges = (rw next at inv.ranges).1;
      counted = let here = (inv.along c.requires.stands.0 c.requires.stands.1).at in omega (arith, inv.counted, counted, new.count _ here);
      room = omega (arith, inv.room, rooms, new.room);
      fits = new.fits;
      chips = new.chips ∙ inv.chips;
    }

pub returns-in_err-command : goal.returns-in_err-command
returns-in_err-command g c =
    let p = err_from_is_err_and c.from_residual.result c.from_residual.ensures.1 in
    let next = drop_more c.args.commands.now c.loop-command.command-index (Power 0) c.loop-command-test.true in
    let inv = c.loop-command.invariant in
    let new = c.in_err-command.ensures in
    record {
      told = λ scene at.
          let here = inv.along scene at in
          rw p.1
          (along_cut _ _ _ _ scene _ c.command.new.self _ [] _ _ _ _ _ 0 here next p.0 (new.told _ here.at).err (new.told _ here.at).some);
      whole = λ scene at. rw p.1 tt;
      asked = λ scene at. rw p.1 tt;
      patches = new.patches ∙ inv.same;
      failed = λ scene before at begun.
          let here = inv.along scene at in
          rw p.1
          (failed_at _ _ _ _ scene _ _ _ _ _ _ _ _ _ _ here next (new.carried _ here.at) (new.told _ here.at).err
          (new.told _ here.at).some (new.asked _ here.at) before begun);
      chips = new.chips ∙ inv.chips;
    }

pub returns : goal.returns
returns g c =
    let inv = c.loop-command.invariant in
    let past : length c.args.commands.now ≤ c.loop-command.command-index = omega arith in
    let none = drop_all c.loop-command.command-index c.args.commands.now past in
    record {
      told = λ scene at. along_all _ _ scene _ _ _ _ _ _ (inv.along scene at) none tt;
      whole = λ scene at. whole_all _ _ scene _ _ _ _ _ _ (inv.along scene at) none;
      failed = λ scene before at begun. tt;
      asked = λ scene at. asked_all _ _ scene _ _ _ _ _ _ (inv.along scene at) none;
      patches = inv.same;
      chips = inv.chips;
    }
