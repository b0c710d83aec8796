-- Each turn leads on or ends the run.
use Rattle.std.proofs.Common.{◌∙◌, ◌+◌, ◌<◌, length, refl, sym, ap, map, arith}
use Rattle.std.specs.Prelude.{sum_by}
use Rattle.console_spec.specs.Scripts.{most_instructions}
use Rattle.pad_script.specs.Reading.{seen}
use Rattle.rack_run.specs.Asking.{AsksWithin}
use Rattle.rack_run.proofs.Progressed.{over_is}
use Rattle.rack_run.proofs.AskingLaws.{asks_none, asks_end, asks_then, asks_last}
use Rattle.rack_run.proofs.RunLaws.{reached_first, reached_more, ends_over, ends_done, ends_stopped, ends_cut}
use Rattle.rack_run.proofs.RunLaws.{over_asks, done_asks, stopped_asks}
use Rattle.rack_run.proofs.run.run.Goals as goal

pub loop-init : goal.loop-init
loop-init g c =
    let states = map (λ b. (goal.Chip-dyn g (b.vtable, b.value)).state b.value) c.args.rack.now.items in
    record {
      reached =
          λ x at keeps. reached_first c.args.detail (g.P.Player.way c.args.detail) (seen c.args.script.now) x _
          (g.P.Player.at c.args.player.now states) c.args.progress.now states (g.K.Sink.output c.args.sink.now)
          (asks_none _ _) at keeps;
      ready = c.requires.ready;
      fits = c.requires.fits;
      chips = refl;
      count = c.requires.count;
      phi = c.requires.phi;
      clocks = c.requires.bounded;
    }

pub returns-then-is_over-clause-out : goal.returns-then-is_over-clause-out
returns-then-is_over-clause-out g c = λ x at keeps.
    let here = c.loop.invariant.reached x at keeps in
    ends_over c.args.detail (g.P.Player.way c.args.detail) (seen c.args.script.now) x _ _ c.loop.counter c.loop.progress
    _ _ _ _ here
    (g.P.Player.readout c.loop.player) (g.met.P.Player.reads c.loop.player _ here.here here.at) c.ending.result
    c.ending.ensures
    (sym (over_is c.args.script.now.end c.loop.progress here.here.flat.state here.keeps) ∙ sym c.is_over.ensures ∙ c.if-is_over.true)

pub returns-then-is_over-clause-asked : goal.returns-then-is_over-clause-asked
returns-then-is_over-clause-asked g c = λ x at keeps.
    let here = c.loop.invariant.reached x at keeps in
    over_asks c.args.detail (g.P.Player.way c.args.detail) (seen c.args.script.now) x _ _ c.loop.counter c.loop.progress
    _ _ _ _ here (AsksWithin (g.P.Player.allowed (length c.args.rack.now.items) c.args.player.now)
    (sum_by (λ b. (goal.Chip-dyn g (b.vtable, b.value)).queries b.value) c.args.rack.now.items)
    (sum_by (λ b. (goal.Chip-dyn g (b.vtable, b.value)).queries b.value) c.loop.rack.items))
    (λ codes so_far. asks_end _ _ _ _ codes so_far)
    (sym (over_is c.args.script.now.end c.loop.progress here.here.flat.state here.keeps) ∙ sym c.is_over.ensures ∙ c.if-is_over.true)

pub returns-in-Err-Halt-clause-out : goal.returns-in-Err-Halt-clause-out
returns-in-Err-Halt-clause-out g c = λ x at keeps.
    let here = c.loop.invariant.reached x at keeps in
    let on =
    sym (over_is c.args.script.now.end c.loop.progress here.here.flat.state here.keeps)
    ∙ sym c.is_over.ensures
    ∙ c.if-is_over.false in
    let more : c.loop.counter < most_instructions c.args.script.now.end =
    rw c.most_instructions-end.ensures at c.loop-test.true in
    let cut = rw c.in-Err-Halt.field-0-is at (c.in-Err-Halt.ensures.cut here.here here.at here.keeps) in
    ends_stopped c.args.detail (g.P.Player.way c.args.detail) (seen c.args.script.now) x _ _ c.loop.counter
    c.loop.progress _ _ _ _ here
    (g.P.Player.readout c.turn.new.player) c.turn.new.progress _ _ c.ending-in-Err-Halt.result c.in-Err-Halt.halt more
    on cut
    (rw c.in-Err-Halt.field-0-is at c.ending-in-Err-Halt.ensures)

pub returns-in-Err-Halt-clause-asked : goal.returns-in-Err-Halt-clause-asked
returns-in-Err-Halt-clause-asked g c = λ x at keeps.
    let here = c.loop.invariant.reached x at keeps in
    let on =
    sym (over_is c.args.script.now.end c.loop.progress here.here.flat.state here.keeps)
    ∙ sym c.is_over.ensures
    ∙ c.if-is_over.false in
    let more : c.loop.counter < most_instructions c.args.script.now.end =
    rw c.most_instructions-end.ensures at c.loop-test.true in
    let cut = rw c.in-Err-Halt.field-0-is at (c.in-Err-Halt.ensures.cut here.here here.at here.keeps) in
    stopped_asks c.args.detail (g.P.Player.way c.args.detail) (seen c.args.script.now) x _ _ c.loop.counter
    c.loop.progress _ _ _ _ here (AsksWithin (g.P.Player.allowed (length c.args.rack.now.items) c.args.player.now)
    (sum_by (λ b. (goal.Chip-dyn g (b.vtable, b.value)).queries b.value) c.args.rack.now.items)
    (sum_by (λ b. (goal.Chip-dyn g (b.vtable, b.value)).queries b.value) c.turn.new.rack.items))
    (λ codes so_far. asks_last (λ n. g.P.Player.allowed n c.args.player.now) (λ n. g.P.Player.allowed n c.loop.player) (λ n l. 0) _ _ _ _ _
    c.loop.invariant.chips codes _ so_far (c.in-Err-Halt.ensures.asked_cut here.here here.at))
    _ more on cut.turns

pub returns-in-Err-Sink-clause-short : goal.returns-in-Err-Sink-clause-short
returns-in-Err-Sink-clause-short g c = λ x at keeps.
    let here = c.loop.invariant.reached x at keeps in
    let on =
    sym (over_is c.args.script.now.end c.loop.progress here.here.flat.state here.keeps)
    ∙ sym c.is_over.ensures
    ∙ c.if-is_over.false in
    let more : c.loop.counter < most_instructions c.args.script.now.end =
    rw c.most_instructions-end.ensures at c.loop-test.true in
    ends_cut c.args.detail (g.P.Player.way c.args.detail) (seen c.args.script.now) x _ _ _ c.loop.counter c.loop.progress _
    _ _ _ _ _ more
    here on (rw c.in-Err-Sink.field-0-is at (c.in-Err-Sink.ensures.cut here.here here.at here.keeps))
    (λ codes so_far. asks_last (λ n. g.P.Player.allowed n c.args.player.now) (λ n. g.P.Player.allowed n c.loop.player) (λ n l. 0) _ _ _ _ _
    c.loop.invariant.chips codes _ so_far (c.in-Err-Sink.ensures.asked_cut here.here here.at))

pub loop-preserved : goal.loop-preserved
loop-preserved g c =
    let nows = map (λ b. (goal.Chip-dyn g (b.vtable, b.value)).state b.value) c.turn.new.rack.items in
    record {
      reached = λ x at keeps.
          let here = c.loop.invariant.reached x at keeps in
          let on =
          sym (over_is c.args.script.now.end c.loop.progress here.here.flat.state here.keeps)
          ∙ sym c.is_over.ensures
          ∙ c.if-is_over.false in
          let more : c.loop.counter < most_instructions c.args.script.now.end =
          rw c.most_instructions-end.ensures at c.loop-test.true in
          reached_more c.args.detail (g.P.Player.way c.args.detail) (seen c.args.script.now) x _ _ _
          (g.P.Player.at c.turn.new.player nows) c.loop.counter c.loop.progress c.turn.new.progress _ _ _ _ _ _ more
          here on
          (c.in-Ok.ensures.goes here.here here.at here.keeps)
          (λ codes so_far. asks_then (λ n. g.P.Player.allowed n c.args.player.now) (λ n. g.P.Player.allowed n c.loop.player)
          (λ n. g.P.Player.allowed n c.turn.new.player) _ _ _ _ _ c.loop.invariant.chips codes _ so_far
          (c.in-Ok.ensures.asked here.here here.at));
      ready = c.turn.ensures.ready;
      fits = c.turn.ensures.fits;
      chips = c.turn.ensures.chips ∙ c.loop.invariant.chips;
      count = c.in-Ok.ensures.count ∙ ap (λ n. n + 1) c.loop.invariant.count;
      phi = c.in-Ok.ensures.phi;
      clocks = omega (arith, c.turn.ensures.clocks, c.loop.invariant.clocks);
    }

pub returns-clause-out : goal.returns-clause-out
returns-clause-out g c = λ x at keeps.
    let here = c.loop.invariant.reached x at keeps in
    ends_done c.args.detail (g.P.Player.way c.args.detail) (seen c.args.script.now) x _ _ c.loop.counter c.loop.progress
    _ _ _ _ here
    (g.P.Player.readout c.loop.player) (g.met.P.Player.reads c.loop.player _ here.here here.at) c.ending-2.result
    c.ending-2.ensures
    (rw c.most_instructions-end.ensures at c.loop-test.false)

pub returns-clause-asked : goal.returns-clause-asked
returns-clause-asked g c = λ x at keeps.
    let here = c.loop.invariant.reached x at keeps in
    done_asks c.args.detail (g.P.Player.way c.args.detail) (seen c.args.script.now) x _ _ c.loop.counter c.loop.progress
    _ _ _ _ here (AsksWithin (g.P.Player.allowed (length c.args.rack.now.items) c.args.player.now)
    (sum_by (λ b. (goal.Chip-dyn g (b.vtable, b.value)).queries b.value) c.args.rack.now.items)
    (sum_by (λ b. (goal.Chip-dyn g (b.vtable, b.value)).queries b.value) c.loop.rack.items))
    (λ codes so_far. asks_end _ _ _ _ codes so_far)
    (rw c.most_instructions-end.ensures at c.loop-test.false)
