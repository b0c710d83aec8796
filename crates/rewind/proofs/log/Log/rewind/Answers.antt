use Rattle.std.proofs.Common.{◌-◌, List, [], ◌++◌, length, ap, ◌∙◌, arith}
use Rattle.rewind.specs.LogEntries.{LogState}
use Rattle.rewind.specs.LogView.{IsKept}
use Rattle.rewind.specs.declared.entry.Entry.{Entry}
use Rattle.rewind.specs.declared.log.Log.TheInside.{Inside}
use Rattle.rewind.proofs.LogCalls.{entries_whole, order_whole}
use Rattle.rewind.proofs.log.Log.rewind.Goals as goal

pub invariant_of-self : goal.invariant_of-self
invariant_of-self c =
    let l : Inside = c.self.inside in
    let kept : IsKept l = c.self.invariant in
    record {
      reserved = kept.reserved;
      within = kept.within;
      next = omega arith;
      before = omega arith;
      behind = order_whole l kept;
      few = kept.few;
    }

pub returns : goal.returns
returns c =
    let l : Inside = c.self.inside in
    ap (λ (es : List Entry). record { played = []; left = es; spare = l.room - length l.marks.items }) (entries_whole l c.self.invariant)
    ∙ ap (λ (s : LogState). record s { played = []; left = s.played ++ s.left }) c.self.view_is
