-- An instruction, with what is told of its end and the events behind it.
use Rattle.std.proofs.Common.{◌∙◌, sym, ap}
use Rattle.rack_run.specs.Asking.{turn_codes}
use Rattle.rack_run.proofs.AskingLaws.{asks_end, asks_events}
use Rattle.std.proofs.lemmas.Result.{err_from_is_err_and}
use Rattle.pad_script.specs.Reading.{seen}
use Rattle.rack_run.proofs.Progressed.{frame_falls}
use Rattle.rack_run.proofs.TurnLaws.{cuts_first, fails_behind, goes_on, keeps_turn}
use Rattle.rack_run.proofs.run.turn.Goals as goal

pub returns-in_err-wrote-clause-cut : goal.returns-in_err-wrote-clause-cut
returns-in_err-wrote-clause-cut g c = λ x at keeps.
    let p = err_from_is_err_and c.from_residual.result c.from_residual.ensures.1 in
    rw (p.1, p.2)
    (cuts_first c.args.detail (g.P.Player.way c.args.detail) (seen c.args.script.now) x (g.P.Player.readout c.advance.new.self)
    c.args.progress.now _ _ _ _ keeps c.in_err-wrote.field-0.0 (c.in_err-wrote.ensures.cut x at))

pub returns-in_err-wrote-clause-asked_cut : goal.returns-in_err-wrote-clause-asked_cut
returns-in_err-wrote-clause-asked_cut g c = λ x at.
    let p = err_from_is_err_and c.from_residual.result c.from_residual.ensures.1 in
    rw p.1 (c.in_err-wrote.ensures.asked_cut x at)

pub returns-in_default-clause-asked_cut : goal.returns-in_default-clause-asked_cut
returns-in_default-clause-asked_cut g c = λ x at.
    asks_end _ _ _ _ (turn_codes (g.P.Player.way c.args.detail) x) (c.in_ok-wrote.ensures.asked x at)

pub returns-clause-asked : goal.returns-clause-asked
returns-clause-asked g c = λ x at.
    asks_events (λ n. g.P.Player.allowed n c.args.player.now) (λ n. g.P.Player.allowed n c.advance.new.self)
    (λ n. g.P.Player.allowed n c.happen_behind.new.player) _ _ _ _ _ c.advance.ensures.chips
    (turn_codes (g.P.Player.way c.args.detail) x) (c.in_ok-wrote.ensures.asked x at) c.happen_behind.ensures.asked

pub returns-in_default-clause-cut : goal.returns-in_default-clause-cut
returns-in_default-clause-cut g c = λ x at keeps.
    let done = c.in_ok-wrote.ensures.goes x at in
    let phi = c.clocks.ensures ∙ ap (λ r. r.phi) (g.met.P.Player.reads c.advance.new.self _ done.there done.at) in
    let puts = c.in_default.ensures.puts x done.there keeps (sym phi) done.writes in
    fails_behind c.args.detail (g.P.Player.way c.args.detail) (seen c.args.script.now) x _ _ _ _ _ _ done _ puts.some
    puts.err

pub returns-clause-goes : goal.returns-clause-goes
returns-clause-goes g c = λ x at keeps.
    let done = c.in_ok-wrote.ensures.goes x at in
    let phi = c.clocks.ensures ∙ ap (λ r. r.phi) (g.met.P.Player.reads c.advance.new.self _ done.there done.at) in
    let puts = c.in-Ok.ensures.puts x done.there keeps (sym phi) done.writes in
    let kept =
    keeps_turn c.in_ok-wrote.wrote c.args.progress.now c.tell_end.new.progress x done.there c.clocks.result keeps
    done.counts
    done.writes phi c.in-Ok.ensures.after in
    let falls = c.in-Ok.ensures.fallen
    ∙ frame_falls c.args.progress.now x.flat.state done.there.flat.state c.clocks.result keeps phi in
    goes_on c.args.detail (g.P.Player.way c.args.detail) (seen c.args.script.now) x _ _ _ _ _ _ done _ _ _ _ puts.ok
    kept
    (c.happen_behind.ensures.behind x done.there done.at kept falls)
