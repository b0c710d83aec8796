use Rattle.std.proofs.Common.{◌≡◌, length, rules}
use Rattle.f8_link.specs.Linking.{fixup_put}
use Rattle.f8_link.proofs.LinkSteps.{put_back}
use Rattle.f8_link.proofs.fixes.fix.Goals as goal

pub returns-in-Some : goal.returns-in-Some
unfolding fixup_put
returns-in-Some c =
    let same : length c.put.new.bytes ≡ length c.args.bytes.now.items = search rules in
    let all : c.args.bytes.now.len ≡ length c.args.bytes.now.items = search rules in
    rw (put_back c.put.new.bytes c.args.bytes.now.items c.args.bytes.now.len same all) (search rules)
