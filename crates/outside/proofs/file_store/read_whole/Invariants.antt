-- each read brings the bytes nearer to one past the limit, or the loop ends
use Rattle.std.proofs.Common.{◌≡◌, ◌≤◌, ◌+◌, ◌-◌, length}
use Rattle.std.specs.Io.KnownBytes.{Consumes}
use Rattle.outside.proofs.file_store.read_whole.Given as goal

abbrev pub invariant-loop-bytes : goal.invariant-loop-bytes
invariant-loop-bytes g l = record {
  consumed : Consumes (g.F.Read.remaining l.fn.file.reader) (g.F.Read.remaining l.file.reader) l.bytes.items;
  unfailed : l.file.failures ≡ l.fn.file.failures;
  within : length l.bytes.items ≤ l.limit + 1;
}

abbrev pub decreases-loop-bytes : goal.decreases-loop-bytes
decreases-loop-bytes g l = l.limit + 1 - length l.bytes.items
