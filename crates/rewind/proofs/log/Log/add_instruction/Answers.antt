use Rattle.std.proofs.Common.{◌≡◌, ℕ, ◌+◌, ◌<◌, [], ◌∷◌, ◌++◌, ap, ◌∙◌, arith}
use Rattle.rewind.specs.LogEntries.{LogState, instructions_in}
use Rattle.rewind.specs.LogView.{IsKept, log_state}
use Rattle.rewind.specs.declared.entry.Entry.TheVariants.{Instruction}
use Rattle.rewind.specs.declared.log.Log.TheInside.{Inside}
use Rattle.rewind.proofs.LogCalls.{InstructionAdded, instruction_added, place_is, seen_ended, total_is}
use Rattle.rewind.proofs.log.Log.add_instruction.Goals as goal

few_more : (total seen played : ℕ) → total ≡ seen → seen ≡ played → played < 4294967295 → total + 1 < 4294967296
few_more total seen played all same few = omega arith

pub overflow_add-self : goal.overflow_add-self
overflow_add-self c =
    let counted : instructions_in (log_state c.self.inside).played ≡ instructions_in c.args.self.now.played =
    ap (λ (s : LogState). instructions_in s.played) c.self.view_is in
    omega (arith, total_is c.self.inside c.self.invariant (seen_ended c.self.inside c.args.self.now c.self.view_is c.requires.ended))

pub overflow_add-self-2 : goal.overflow_add-self-2
overflow_add-self-2 c =
    let counted : instructions_in (log_state c.self.inside).played ≡ instructions_in c.args.self.now.played =
    ap (λ (s : LogState). instructions_in s.played) c.self.view_is in
    omega (arith, place_is c.self.inside c.self.invariant)

pub invariant_of-self : goal.invariant_of-self
invariant_of-self c =
    let l : Inside = c.self.inside in
    let kept : IsKept l = c.self.invariant in
    let added : InstructionAdded l = instruction_added l kept (seen_ended l c.args.self.now c.self.view_is c.requires.ended) in
    record {
      reserved = kept.reserved;
      within = kept.within;
      next = kept.next;
      before = added.before;
      behind = added.behind;
      few = few_more c.self.inside.total (instructions_in (log_state l).played) (instructions_in c.args.self.now.played)
          (total_is l kept (seen_ended l c.args.self.now c.self.view_is c.requires.ended))
          (ap (λ (s : LogState). instructions_in s.played) c.self.view_is) c.requires.count;
    }

pub returns : goal.returns
returns c =
    (instruction_added c.self.inside c.self.invariant (seen_ended c.self.inside c.args.self.now c.self.view_is c.requires.ended)).state_is
    ∙ ap (λ (s : LogState). record s { played = s.played ++ Instruction ∷ [] }) c.self.view_is
