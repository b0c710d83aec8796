-- The session begins at the first scene, and the commands are carried out from there.
use Rattle.std.proofs.Common.{map, arith}
use Rattle.data_bus.specs.Racks.{views}
use Rattle.chip_debug.specs.Carried.{first_scene}
use Rattle.channel_f.proofs.Debuggings.{begun_asks, reports_cut_short, reports_done, starts_at}
use Rattle.channel_f.proofs.debugging.debug_fitted.Goals as goal

pub returns-in-Ok-clause-reports : goal.returns-in-Ok-clause-reports
returns-in-Ok-clause-reports g c =
    let chips = c.args.asked.now.cart.chips in
    let powers = c.args.asked.now.cart.powers in
    let olds = map (λ b. (goal.Chip-dyn g (b.vtable, b.value)).state b.value) c.args.rack.now.items in
    let first = first_scene chips powers (views olds) in
    let done = c.in-Ok.ensures.told first (starts_at chips powers olds _ _ c.in_ok-session.ensures.at) in
    reports_done _ _ _ (rw c.as_slice.ensures.commands at done.ok)

pub returns-in-Ok-clause-whole : goal.returns-in-Ok-clause-whole
returns-in-Ok-clause-whole g c =
    let chips = c.args.asked.now.cart.chips in
    let powers = c.args.asked.now.cart.powers in
    let olds = map (λ b. (goal.Chip-dyn g (b.vtable, b.value)).state b.value) c.args.rack.now.items in
    let first = first_scene chips powers (views olds) in
    let done = c.in-Ok.ensures.whole first (starts_at chips powers olds _ _ c.in_ok-session.ensures.at) in
    λ by_sink. rw c.as_slice.ensures.commands at done

pub returns-clause-reports : goal.returns-clause-reports
returns-clause-reports g c =
    let chips = c.args.asked.now.cart.chips in
    let powers = c.args.asked.now.cart.powers in
    let olds = map (λ b. (goal.Chip-dyn g (b.vtable, b.value)).state b.value) c.args.rack.now.items in
    let first = first_scene chips powers (views olds) in
    let done = c.in-Err.ensures.told first (starts_at chips powers olds _ _ c.in_ok-session.ensures.at) in
    reports_cut_short _ _ _ (rw c.as_slice.ensures.commands at done.err)

pub returns-clause-failed : goal.returns-clause-failed
returns-clause-failed g c =
    let chips = c.args.asked.now.cart.chips in
    let powers = c.args.asked.now.cart.powers in
    let olds = map (λ b. (goal.Chip-dyn g (b.vtable, b.value)).state b.value) c.args.rack.now.items in
    let first = first_scene chips powers (views olds) in
    let begun = begun_asks chips powers olds _ _ c.in_ok-session.ensures.asked in
    let done = c.in-Err.ensures.failed first _ (starts_at chips powers olds _ _ c.in_ok-session.ensures.at) begun in
    λ by_sink. rw c.as_slice.ensures.commands at done

pub returns-in-Ok-clause-asked : goal.returns-in-Ok-clause-asked
returns-in-Ok-clause-asked g c =
    let chips = c.args.asked.now.cart.chips in
    let powers = c.args.asked.now.cart.powers in
    let olds = map (λ b. (goal.Chip-dyn g (b.vtable, b.value)).state b.value) c.args.rack.now.items in
    let first = first_scene chips powers (views olds) in
    let begun = begun_asks chips powers olds _ _ c.in_ok-session.ensures.asked in
    let done = rw c.as_slice.ensures.commands at
    (c.in-Ok.ensures.asked first (starts_at chips powers olds _ _ c.in_ok-session.ensures.at)) in
    λ by_sink. omega (arith, begun, done)
