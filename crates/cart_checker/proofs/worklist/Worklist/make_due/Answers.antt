-- An insertion makes a point due.
use Rattle.std.proofs.Common.{◌≡◌, ℕ, ◌+◌, ◌≤◌, Bool, true, false, cond, length, arith}
use Rattle.cart_checker.proofs.worklist.Worklist.make_due.Goals as goal

pub returns-clause-due : goal.returns-clause-due
returns-clause-due c =
    let set = c.in_ok-insert.ensures in
    record {
      due = set.updates.0;
      longer = longer c.in_ok-insert.field-0 (length c.args.self.now.due.keys) (length c.insert.new.self.keys) set.len;
    }
  where
    longer : (b : Bool) (n m : ℕ) → m ≡ n + cond b 1 0 → m ≤ n + 1
    longer true n m e = omega arith
    longer false n m e = omega arith
