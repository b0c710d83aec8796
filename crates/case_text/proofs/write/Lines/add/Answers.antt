-- A line that is added is put at its place, with its bytes.
use Rattle.std.proofs.Common.{arith}
use Rattle.case_text.proofs.LineSets.{seen_put, seen_grown}
use Rattle.case_text.proofs.write.Lines.add.Goals as goal

pub invariant_of-self-then-branch : goal.invariant_of-self-then-branch
invariant_of-self-then-branch c =
    let told = c.in_ok-insert.ensures in
    let grown = seen_grown (λ line. line.items) c.args.self.now.lines.keys c.insert.new.self.keys c.args.line told.keys
    c.in_ok-insert.field-0 c.if-branch.true told.len in
    let before = c.args.self.now.sized in
    record { sized = omega (arith, grown, before, c.len-length.ensures) }

pub returns-then-branch : goal.returns-then-branch
returns-then-branch c =
    seen_put (λ line. line.items) c.args.self.now.lines.keys c.insert.new.self.keys c.args.line c.in_ok-insert.ensures.keys

pub returns-else-branch : goal.returns-else-branch
returns-else-branch c =
    seen_put (λ line. line.items) c.args.self.now.lines.keys c.insert.new.self.keys c.args.line c.in_ok-insert.ensures.keys
