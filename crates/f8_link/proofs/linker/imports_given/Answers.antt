use Rattle.std.proofs.Common.{◌≡◌, Ok, Err, rules}
use Rattle.f8_link.specs.declared.answers.LinkCause.TheVariants.{Missing}
use Rattle.f8_link.specs.Linking.{import_given}
use Rattle.f8_link.proofs.LinkSteps.{all_at, more_at, fail_at}
use Rattle.f8_link.proofs.linker.imports_given.Goals as goal

pub returns-in-None : goal.returns-in-None
returns-in-None c =
    let told : import_given c.args.names.now c.loop-name.values.items c.name-item.result ≡ Err Missing = search rules in
    fail_at (import_given c.args.names.now) c.args.part.now.object.imports c.loop-name.name-index c.name-item.result Missing
    c.loop-name.invariant (rw c.imports-name-items.ensures at c.loop-name-test.true) (rw c.imports-name-items.ensures at c.name-item.is) told

pub loop-name-preserved : goal.loop-name-preserved
loop-name-preserved c =
    let told : import_given c.args.names.now c.loop-name.values.items c.name-item.result ≡ Ok c.push.new.self.items = search rules in
    more_at (import_given c.args.names.now) c.args.part.now.object.imports c.loop-name.name-index c.name-item.result c.push.new.self.items
    c.loop-name.invariant (rw c.imports-name-items.ensures at c.loop-name-test.true) (rw c.imports-name-items.ensures at c.name-item.is) told

pub returns : goal.returns
returns c =
    let whole = all_at (import_given c.args.names.now) c.args.part.now.object.imports c.loop-name.name-index c.loop-name.invariant
    (rw c.imports-name-items.ensures at c.loop-name-test.false) in
    rw c.from_vec.ensures whole
