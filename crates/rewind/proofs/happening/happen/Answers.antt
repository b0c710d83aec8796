-- An event leads a machine and its rack on.
use Rattle.std.proofs.Common.{◌∙◌}
use Rattle.std.proofs.lemmas.List.{length-map}
use Rattle.console_spec.specs.declared.Event.TheVariants.{Keys, Pulse}
use Rattle.rewind.proofs.EventLaws.{event_alike, event_allowed, event_at, event_patches, event_same}
use Rattle.rewind.proofs.ReachedLaws.{represents_at}
use Rattle.rewind.proofs.happening.happen.Goals as goal

pub returns-in-Keys-clause-there : goal.returns-in-Keys-clause-there
returns-in-Keys-clause-there g c = λ r at running.
    rw c.in-Keys.is
    (event_at _ c.keys.new.self _ _ r at running (Keys c.in-Keys.port c.in-Keys.byte) (c.keys.ensures.machine, c.keys.ensures.keyed)
    (c.keys.ensures.running r.position (represents_at _ _ r at running)))

pub returns-in-Pulse-clause-there : goal.returns-in-Pulse-clause-there
returns-in-Pulse-clause-there g c = λ r at running.
    rw c.in-Pulse.is
    (event_at _ c.pulse.new.self _ _ r at running (Pulse c.in-Pulse.chip) (c.pulse.ensures.machine, c.pulse.ensures.pulsed)
    (c.pulse.ensures.running r.position (represents_at _ _ r at running)))

pub returns-in-Keys-clause-allowed : goal.returns-in-Keys-clause-allowed
returns-in-Keys-clause-allowed g c = λ r at running.
    event_allowed _ c.args.event _ c.keys.new.self _ _ r (length-map c.args.rack.now.items _)
    (length-map c.keys.new.rack.items _ ∙ c.keys.ensures.chips) c.requires.fits c.keys.ensures.fits
    (event_same (Keys c.in-Keys.port c.in-Keys.byte) _ c.keys.new.self _ _ (c.keys.ensures.machine, c.keys.ensures.keyed)).index at
    (returns-in-Keys-clause-there g c r at running)

pub returns-in-Pulse-clause-allowed : goal.returns-in-Pulse-clause-allowed
returns-in-Pulse-clause-allowed g c = λ r at running.
    event_allowed _ c.args.event _ c.pulse.new.self _ _ r (length-map c.args.rack.now.items _)
    (length-map c.pulse.new.rack.items _ ∙ c.pulse.ensures.chips) c.requires.fits c.pulse.ensures.fits
    (event_same (Pulse c.in-Pulse.chip) _ c.pulse.new.self _ _ (c.pulse.ensures.machine, c.pulse.ensures.pulsed)).index at
    (returns-in-Pulse-clause-there g c r at running)

pub returns-in-Keys-clause-alike : goal.returns-in-Keys-clause-alike
returns-in-Keys-clause-alike g c = λ first alike.
    event_alike (Keys c.in-Keys.port c.in-Keys.byte) _ c.keys.new.self _ _ first (c.keys.ensures.machine, c.keys.ensures.keyed) alike

pub returns-in-Pulse-clause-alike : goal.returns-in-Pulse-clause-alike
returns-in-Pulse-clause-alike g c = λ first alike.
    event_alike (Pulse c.in-Pulse.chip) _ c.pulse.new.self _ _ first (c.pulse.ensures.machine, c.pulse.ensures.pulsed) alike

pub returns-in-Keys-clause-patches : goal.returns-in-Keys-clause-patches
returns-in-Keys-clause-patches g c =
    event_patches (Keys c.in-Keys.port c.in-Keys.byte) _ c.keys.new.self _ _ (c.keys.ensures.machine, c.keys.ensures.keyed)

pub returns-in-Pulse-clause-patches : goal.returns-in-Pulse-clause-patches
returns-in-Pulse-clause-patches g c =
    event_patches (Pulse c.in-Pulse.chip) _ c.pulse.new.self _ _ (c.pulse.ensures.machine, c.pulse.ensures.pulsed)
