-- The chips are fitted, and then the session is theirs.
use Rattle.std.proofs.Common.{◌∙◌, inl, inr}
use Rattle.rack_run.proofs.AskingLaws.{none_asked}
use Rattle.channel_f.specs.Answers.{debug_answer}
use Rattle.channel_f.proofs.Debuggings.{debug_answers, debugs, debugs_wanting, fitted_still}
use Rattle.channel_f.proofs.FittedPatches.{fitted_patched, partly_patched}
use Rattle.channel_f.proofs.Games.{answers_stayed, answers_wanting}
use Rattle.channel_f.proofs.debugging.fit_and_debug.Goals as goal

pub returns-in-Ok-debug_fitted-clause-answers : goal.returns-in-Ok-debug_fitted-clause-answers
returns-in-Ok-debug_fitted-clause-answers g c =
    debug_answers _ _ _ c.args.asked.now _ _ c.in-Ok.ensures.views c.in-Ok-debug_fitted.ensures.reports

pub returns-in-Ok-debug_fitted-clause-rack : goal.returns-in-Ok-debug_fitted-clause-rack
returns-in-Ok-debug_fitted-clause-rack g c =
    let unasked = none_asked (λ b. (goal.Chip-dyn g (b.vtable, b.value)).queries b.value) c.args.rack.now.items
    c.fit_all.new.rack.items c.fit_all.ensures.asked in
    let done = c.in-Ok-debug_fitted.ensures in
    debugs _ _ _ c.args.asked.now _ _ c.in-Ok.ensures.views done.reports _ _ _ done.whole
    (rw unasked at done.failed) (rw unasked at done.asked)
    (done.patches ∙ fitted_patched c.args.asked.now.cart.chips _ _ c.in-Ok.ensures.fitted)

pub returns-in-Err-debug_fitted-clause-answers : goal.returns-in-Err-debug_fitted-clause-answers
returns-in-Err-debug_fitted-clause-answers g c =
    answers_stayed _ _ (debug_answer c.args.asked.now _) c.in-Err-debug_fitted.ensures.nothing

pub returns-in-Err-debug_fitted-clause-rack : goal.returns-in-Err-debug_fitted-clause-rack
returns-in-Err-debug_fitted-clause-rack g c =
    let wants = c.in-Err-debug_fitted.ensures in
    debugs_wanting _ _ c.args.asked.now _ _ _ _
    (none_asked (λ b. (goal.Chip-dyn g (b.vtable, b.value)).queries b.value) c.args.rack.now.items c.debug_fitted.new.rack.items
    (wants.unasked ∙ c.fit_all.ensures.asked))
    (wants.patches ∙ fitted_patched c.args.asked.now.cart.chips _ _ c.in-Ok.ensures.fitted)
    (inl (fitted_still c.args.asked.now.cart.chips _ _ _ wants.stays c.in-Ok.ensures.fitted))

pub returns-in-Err-clause-answers : goal.returns-in-Err-clause-answers
returns-in-Err-clause-answers g c = answers_wanting _ (debug_answer c.args.asked.now _)

pub returns-in-Err-clause-rack : goal.returns-in-Err-clause-rack
returns-in-Err-clause-rack g c =
    debugs_wanting _ _ c.args.asked.now _ _ _ _
    (none_asked (λ b. (goal.Chip-dyn g (b.vtable, b.value)).queries b.value) c.args.rack.now.items c.fit_all.new.rack.items
    c.fit_all.ensures.asked)
    (partly_patched c.args.asked.now.cart.chips _ _ c.in-Err.ensures.partly) (inr c.in-Err.ensures.partly)
