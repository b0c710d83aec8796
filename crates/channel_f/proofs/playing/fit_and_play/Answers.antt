-- The chips are fitted, and then the check and the run are theirs.
use Rattle.std.proofs.Common.{refl, inl}
use Rattle.outside.proofs.SinkLaws.{adds_none}
use Rattle.loader.specs.Seen.{seen_game}
use Rattle.rack_run.proofs.AskingLaws.{none_asked}
use Rattle.channel_f.proofs.Games.{asked_before, due_judged, keeps_judged, plays_judged, plays_wanting}
use Rattle.channel_f.proofs.playing.fit_and_play.Goals as goal

pub returns-in-Ok-clause-answers : goal.returns-in-Ok-clause-answers
returns-in-Ok-clause-answers g c =
    due_judged _ _ _ c.args.manner (seen_game c.args.game.now) _ _ _ _ _ _ c.in-Ok.ensures.views c.chain_of-chain.ensures
    c.check_and_play.ensures

pub returns-in-Ok-clause-rack : goal.returns-in-Ok-clause-rack
returns-in-Ok-clause-rack g c =
    asked_before _ _ _ (seen_game c.args.game.now) c.args.manner _ _ _ _ _
    (none_asked (λ b. (goal.Chip-dyn g (b.vtable, b.value)).queries b.value) c.args.rack.now.items c.fit_all.new.rack.items
    c.fit_all.ensures.asked)
    (plays_judged _ _ _ c.args.manner (seen_game c.args.game.now) _ _ _ _ _ _ c.in-Ok.ensures.views
    c.chain_of-chain.ensures c.in-Ok.ensures.fitted c.check_and_play.ensures)

pub returns-in-Err-clause-answers : goal.returns-in-Err-clause-answers
returns-in-Err-clause-answers g c = inl (record { status = refl; nothing = adds_none _ })

pub returns-in-Err-clause-rack : goal.returns-in-Err-clause-rack
returns-in-Err-clause-rack g c =
    plays_wanting _ _ _ _ _ _ _ _
    (none_asked (λ b. (goal.Chip-dyn g (b.vtable, b.value)).queries b.value) c.args.rack.now.items c.fit_all.new.rack.items
    c.fit_all.ensures.asked) c.in-Err.ensures.partly

pub returns-in-Ok-clause-safe : goal.returns-in-Ok-clause-safe
returns-in-Ok-clause-safe g c =
    keeps_judged _ _ _ c.args.manner (seen_game c.args.game.now) _ _ _ _ _ _ c.in-Ok.ensures.views c.chain_of-chain.ensures
    c.safe_run_law.ensures c.script_law.ensures c.powers_law.ensures c.check_and_play.ensures

pub returns-in-Err-clause-safe : goal.returns-in-Err-clause-safe
returns-in-Err-clause-safe g c = λ fits patches by_memory. absurd (by_memory refl)
