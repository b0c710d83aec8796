use Rattle.std.proofs.Common.{◌∙◌}
use Rattle.cartridge.proofs.MigratedMembers.{put_seen}
use Rattle.cartridge.proofs.migration.put.Goals as goal

pub returns : goal.returns
returns c = put_seen _ _ _ _ _ (c.in_ok-name.ensures.ok ∙ c.word.ensures) c.in_ok-insert.ensures.entries
