-- A key byte keeps what the machine and the rack stand for.
use Rattle.std.proofs.Common.{◌<◌, rules}
use Rattle.f8_machine.proofs.FitMachines.{keyed_fits}
use Rattle.f8_machine.proofs.Keyed.{represents_own, powered_own, represents_others, powered_others}
use Rattle.f8_machine.proofs.machine.Machine.keys.Goals as goal

pub returns-then-port-lt-OWN_PORTS-clause-powered : goal.returns-then-port-lt-OWN_PORTS-clause-powered
returns-then-port-lt-OWN_PORTS-clause-powered g c =
    λ x p. powered_own c.args.self.now _ c.self.view_is _ x c.args.port c.args.byte c.if-port-lt-OWN_PORTS.true
    c.keys.new.self c.keys.ensures p

pub returns-then-port-lt-OWN_PORTS-clause-running : goal.returns-then-port-lt-OWN_PORTS-clause-running
returns-then-port-lt-OWN_PORTS-clause-running g c =
    λ x r. represents_own c.args.self.now _ c.self.view_is _ x c.args.port c.args.byte c.if-port-lt-OWN_PORTS.true
    c.keys.new.self c.keys.ensures r

pub returns-else-port-lt-OWN_PORTS-clause-powered : goal.returns-else-port-lt-OWN_PORTS-clause-powered
returns-else-port-lt-OWN_PORTS-clause-powered g c = λ x p.
    let small : c.args.port < 256 = search rules in
    powered_others c.args.self.now _ _ x c.args.port c.args.byte small c.if-port-lt-OWN_PORTS.false
    c.key_all.ensures.keyed p

pub returns-else-port-lt-OWN_PORTS-clause-running : goal.returns-else-port-lt-OWN_PORTS-clause-running
returns-else-port-lt-OWN_PORTS-clause-running g c = λ x r.
    let small : c.args.port < 256 = search rules in
    represents_others c.args.self.now _ _ x c.args.port c.args.byte small c.if-port-lt-OWN_PORTS.false
    c.key_all.ensures.keyed r

pub returns-else-port-lt-OWN_PORTS-clause-fits : goal.returns-else-port-lt-OWN_PORTS-clause-fits
returns-else-port-lt-OWN_PORTS-clause-fits g c =
    keyed_fits c.args.port c.args.byte c.args.self.now.index c.args.self.now.probe _ _ c.key_all.ensures.keyed c.requires.fits
