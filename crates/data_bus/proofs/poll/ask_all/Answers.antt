-- Each chip is asked by its socket, and its answer is the next of the poll.
use Rattle.std.proofs.Common.{refl, ◌≡◌, ◌≤◌, ◌∙◌, ap, length, vec_len, rules, arith}
use Rattle.std.proofs.lemmas.List.{length-map}
use Rattle.f8_spec.specs.BusArbitration.{is_first}
use Rattle.data_bus.specs.Allowances.{questions_at}
use Rattle.data_bus.proofs.Gathering.{gathered-more, gathered-whole}
use Rattle.data_bus.proofs.Questions.{asked-none, asked-at, asked-more, asked-written, total_few}
use Rattle.data_bus.specs.Questions.{AskedBy}
use Rattle.data_bus.proofs.Racks.{changed-none, changed-more, changed-written, whole_again}
use Rattle.data_bus.proofs.poll.ask_all.Goals as goal

pub ask-answer-requires : goal.ask-answer-requires
ask-answer-requires g c =
    c.requires.chosen c.loop-i.i _ (rw c.deref_mut-chip-items.ensures.value at
    (asked-at (λ b. (goal.Chip-dyn g (b.vtable, b.value)).state b.value) (λ b. (goal.Chip-dyn g (b.vtable, b.value)).queries b.value)
    (λ k. questions_at c.args.question.now.rule (is_first c.args.question.now.first k)) c.loop-i.i
    c.deref_mut-chip-items.result.now c.loop-i.chip-items c.chip-item.result
    c.loop-i-test.true c.loop-i.auto.chip-items c.loop-i.invariant.asked))

pub loop-i-init : goal.loop-i-init
loop-i-init g c = record {
  gathered = rw c.new-poll.ensures (record { rest = refl; few = search rules });
  asked = asked-none _ _ _ _;
  each = changed-none _ _;
}

pub loop-i-preserved : goal.loop-i-preserved
loop-i-preserved g c = record {
  gathered = gathered-more _ _ _ _ _ c.loop-i.i _ c.loop-i.poll c.count.new.self c.ask-answer.result
      (asked-at (λ b. (goal.Chip-dyn g (b.vtable, b.value)).state b.value) (λ b. (goal.Chip-dyn g (b.vtable, b.value)).queries b.value)
      (λ k. questions_at c.args.question.now.rule (is_first c.args.question.now.first k)) c.loop-i.i
      c.deref_mut-chip-items.result.now c.loop-i.chip-items c.chip-item.result
      c.loop-i-test.true c.loop-i.auto.chip-items c.loop-i.invariant.asked)
      c.loop-i.invariant.gathered c.ask-answer.ensures.answer c.count.ensures.counted c.count.ensures.few;
  asked = asked-more (λ b. (goal.Chip-dyn g (b.vtable, b.value)).state b.value) (λ b. (goal.Chip-dyn g (b.vtable, b.value)).queries b.value)
      (λ k. questions_at c.args.question.now.rule (is_first c.args.question.now.first k)) c.loop-i.i
      c.deref_mut-chip-items.result.now c.loop-i.chip-items c.chip-item.result c.ask-answer.new.chip
      c.loop-i-test.true c.loop-i.auto.chip-items c.loop-i.invariant.asked c.ask-answer.ensures.stays
      c.ask-answer.ensures.asked;
  each = changed-more (λ b. (goal.Chip-dyn g (b.vtable, b.value)).queries b.value)
      (AskedBy c.args.question.now.rule c.args.question.now.first)
      c.deref_mut-chip-items.result.now c.loop-i.chip-items c.loop-i.i c.chip-item.result c.ask-answer.new.chip
      c.loop-i-test.true c.loop-i.auto.chip-items c.loop-i.invariant.each c.ask-answer.ensures.asked;
}

pub returns : goal.returns
returns g c =
    let long : length c.loop-i.chip-items ≡ length c.args.rack.now.items = rw c.deref_mut-chip-items.ensures.value at c.loop-i.auto.chip-items in
    let count : length c.args.rack.now.items ≡ vec_len c.args.rack.now = rw c.deref_mut-chip-items.ensures.value at c.deref_mut-chip-items.ensures.len in
    let past : length c.args.rack.now.items ≤ c.loop-i.i = rw c.deref_mut-chip-items.ensures.value at c.loop-i-test.false in
    let whole = whole_again _ c.args.rack.now.items c.loop-i.chip-items count long in
    let asked = asked-written (λ b. (goal.Chip-dyn g (b.vtable, b.value)).state b.value)
    (λ b. (goal.Chip-dyn g (b.vtable, b.value)).queries b.value)
    (λ k. questions_at c.args.question.now.rule (is_first c.args.question.now.first k))
    c.args.rack.now.items c.loop-i.chip-items _ c.loop-i.i count long past (search rules)
    (rw c.deref_mut-chip-items.ensures.value at c.loop-i.invariant.asked) in
    let few = total_few c.args.question.now.rule c.args.question.now.first (length c.args.rack.now.items) in
    record {
      answer = gathered-whole _ _ _ _ _ c.loop-i.i c.loop-i.poll (omega (
        arith,
        past,
        length-map c.args.rack.now.items
            (λ b. (goal.Chip-dyn g (b.vtable, b.value)).state b.value),
      ))
          (rw c.deref_mut-chip-items.ensures.value at c.loop-i.invariant.gathered);
      stays = asked.stays;
      asked = let within = asked.asked in omega (arith, few, within);
      each = changed-written (λ b. (goal.Chip-dyn g (b.vtable, b.value)).queries b.value)
          (AskedBy c.args.question.now.rule c.args.question.now.first)
          c.args.rack.now.items c.loop-i.chip-items _ c.loop-i.i count long past
          (rw c.deref_mut-chip-items.ensures.value at c.loop-i.invariant.each);
      chips = ap length whole ∙ long;
    }
