-- each call has one file less
use Rattle.std.proofs.Common.{length}
use Rattle.outside.proofs.file_list.+names_differ.Given as goal

abbrev pub decreases-names_differ : goal.decreases-names_differ
decreases-names_differ l = length l.files.now
