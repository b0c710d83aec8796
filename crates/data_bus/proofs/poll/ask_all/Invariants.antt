-- The poll so far, from which the chips that are left lead to the whole one; and the questions put so far, which change no chip.
use Rattle.std.proofs.Common.{map}
use Rattle.f8_spec.specs.BusArbitration.{is_first}
use Rattle.data_bus.specs.Allowances.{questions_at}
use Rattle.data_bus.proofs.Gathering.{Gathered}
use Rattle.data_bus.specs.Questions.{AskedBy}
use Rattle.data_bus.proofs.Questions.{AskedBelow}
use Rattle.data_bus.proofs.Racks.{ChangedBelow}
use Rattle.data_bus.proofs.poll.ask_all.Given as goal

abbrev pub invariant-loop-i : goal.invariant-loop-i
invariant-loop-i g l = record {
  gathered : Gathered l.question.rule l.question.romc l.question.reference l.question.first
      (map (λ b. (goal.Chip-dyn g (b.vtable, b.value)).state b.value) l.initial.chip-items) l.i l.poll;
  asked : AskedBelow (λ b. (goal.Chip-dyn g (b.vtable, b.value)).state b.value)
      (λ b. (goal.Chip-dyn g (b.vtable, b.value)).queries b.value)
      (λ k. questions_at l.question.rule (is_first l.question.first k)) l.i l.initial.chip-items l.chip-items;
  each : ChangedBelow (AskedBy l.question.rule l.question.first) l.i
      (map (λ b. (goal.Chip-dyn g (b.vtable, b.value)).queries b.value) l.initial.chip-items)
      (map (λ b. (goal.Chip-dyn g (b.vtable, b.value)).queries b.value) l.chip-items);
}
