use Rattle.std.proofs.Common.{◌≡◌, Ok, Err, rules}
use Rattle.f8_link.specs.declared.answers.LinkCause.TheVariants.{Twice}
use Rattle.f8_link.specs.Linking.{export_given}
use Rattle.f8_link.proofs.LinkSteps.{all_at, more_at, fail_at}
use Rattle.f8_link.proofs.linker.give_exports.Goals as goal

pub returns-then-is_some : goal.returns-then-is_some
returns-then-is_some c =
    let told : export_given c.args.part.now.room.first c.loop-name.names c.loop-name-item.result ≡ Err Twice = search rules in
    fail_at (export_given c.args.part.now.room.first) c.args.part.now.object.exports c.loop-name.name-index c.loop-name-item.result Twice
    c.loop-name.invariant (rw c.exports-name-items.ensures at c.loop-name-test.true) (rw c.exports-name-items.ensures at c.loop-name-item.is) told

pub loop-name-preserved : goal.loop-name-preserved
loop-name-preserved c =
    let told : export_given c.args.part.now.room.first c.loop-name.names c.loop-name-item.result ≡ Ok c.define.new.self = search rules in
    more_at (export_given c.args.part.now.room.first) c.args.part.now.object.exports c.loop-name.name-index c.loop-name-item.result c.define.new.self
    c.loop-name.invariant (rw c.exports-name-items.ensures at c.loop-name-test.true) (rw c.exports-name-items.ensures at c.loop-name-item.is) told

pub returns : goal.returns
returns c =
    all_at (export_given c.args.part.now.room.first) c.args.part.now.object.exports c.loop-name.name-index c.loop-name.invariant
    (rw c.exports-name-items.ensures at c.loop-name-test.false)
