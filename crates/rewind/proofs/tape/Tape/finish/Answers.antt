-- Events are played up to the end.
use Rattle.std.proofs.Common.{◌∙◌, ◌≡◌, ◌∷◌, [], List, length, refl, ap, arith}
use Rattle.rewind.specs.LogEntries.{IsAtEnd}
use Rattle.rewind.specs.declared.entry.Entry.{Entry}
use Rattle.rewind.specs.declared.entry.Entry.TheVariants.{Happens, Instruction}
use Rattle.rewind.proofs.TapeForward.{as_long, finish_allowed, finish_taped, finished_tape, none_met, passed_more, passed_none}
use Rattle.rewind.proofs.TapeSteps.{in_time_events}
use Rattle.rewind.proofs.tape.Tape.finish.Given.{Over}
use Rattle.rewind.proofs.tape.Tape.finish.Goals.{In_default}
use Rattle.rewind.proofs.tape.Tape.finish.Goals as goal

pub loop-event-init : goal.loop-event-init
loop-event-init g c =
    rw (← c.self.view_is) (record {
      passed = passed_none _ _;
      fits = rw (← c.self.view_is) at c.requires.fits;
      asked = refl;
      time = c.self.invariant;
    })

pub happen-requires-clause-few : goal.happen-requires-clause-few
happen-requires-clause-few g c =
    omega (
      arith,
      c.requires.few,
      as_long (λ b. (goal.Chip-dyn g (b.vtable, b.value)).queries b.value) c.args.rack.now.items
          c.loop-event.rack.items c.loop-event.invariant.asked,
    )

pub happen-requires-clause-fits : goal.happen-requires-clause-fits
happen-requires-clause-fits g c = c.loop-event.invariant.fits

pub loop-event-smaller : goal.loop-event-smaller
loop-event-smaller g c = omega (arith, ap (λ (es : List Entry). length es) c.in-Some-Happens.ensures.some.left)

pub loop-event-preserved : goal.loop-event-preserved
loop-event-preserved g c = record {
  passed = passed_more c.in-Some-Happens.event _ _ _ _ _ _ c.loop-event.invariant.passed
      (rw c.in-Some-Happens.field-0-is at c.in-Some-Happens.ensures.some) refl
      (record {
        there = c.happen.ensures.there;
        allowed = c.happen.ensures.allowed;
        alike = c.happen.ensures.alike;
        chain = c.happen.ensures.chain;
        patches_stay = c.happen.ensures.patches;
      });
  fits = c.happen.ensures.fits;
  asked = c.happen.ensures.asked ∙ c.loop-event.invariant.asked;
  time = in_time_events (Happens c.in-Some-Happens.event ∷ []) _ _ c.loop-event.self-inside.log _ refl c.loop-event.invariant.time
      c.happen.ensures.mode c.happen.ensures.phi (rw c.in-Some-Happens.field-0-is at c.in-Some-Happens.ensures.some).played;
}

-- ---- no instruction is left, so none is met

is_instruction : (g : Over) (c : In_default g) → c.in_default.field-0 ≡ Instruction
is_instruction g c = cc

not_met : (g : Over) (c : In_default g) → ⊥
not_met g c =
    none_met c.args.self.now _ _ _ _ c.loop-event.invariant.passed (rw (c.in_default.is, is_instruction g c) at c.play.ensures.some)
    c.requires.none

pub invariant_of-self : goal.invariant_of-self
invariant_of-self g c = absurd (not_met g c)

pub returns-in_default-clause-taped : goal.returns-in_default-clause-taped
returns-in_default-clause-taped g c = absurd (not_met g c)

pub returns-in_default-clause-tape : goal.returns-in_default-clause-tape
returns-in_default-clause-tape g c = absurd (not_met g c)

pub returns-in_default-clause-chain : goal.returns-in_default-clause-chain
returns-in_default-clause-chain g c = absurd (not_met g c)

pub returns-in_default-clause-allowed : goal.returns-in_default-clause-allowed
returns-in_default-clause-allowed g c = absurd (not_met g c)

pub returns-in_default-clause-asked : goal.returns-in_default-clause-asked
returns-in_default-clause-asked g c = absurd (not_met g c)

pub returns-in_default-clause-patches : goal.returns-in_default-clause-patches
returns-in_default-clause-patches g c = absurd (not_met g c)

pub returns-in_default-clause-fits : goal.returns-in_default-clause-fits
returns-in_default-clause-fits g c = absurd (not_met g c)

pub returns-in_default-clause-chips : goal.returns-in_default-clause-chips
returns-in_default-clause-chips g c = absurd (not_met g c)

-- ---- the end

pub returns-in_default-2-clause-taped : goal.returns-in_default-2-clause-taped
returns-in_default-2-clause-taped g c = λ first taped.
    let end : IsAtEnd c.loop-event.self-inside.log c.play.new.self = rw c.in_default.is at c.play.ensures.none in
    rw end.stays (finish_taped c.args.self.now _ _ _ c.loop-event.invariant.passed end.left first taped)

pub returns-in_default-2-clause-tape : goal.returns-in_default-2-clause-tape
returns-in_default-2-clause-tape g c =
    let end : IsAtEnd c.loop-event.self-inside.log c.play.new.self = rw c.in_default.is at c.play.ensures.none in
    rw end.stays (finished_tape c.args.self.now _ _ _ c.loop-event.invariant.passed end.left)

pub returns-in_default-2-clause-allowed : goal.returns-in_default-2-clause-allowed
returns-in_default-2-clause-allowed g c = λ first taped.
    let end : IsAtEnd c.loop-event.self-inside.log c.play.new.self = rw c.in_default.is at c.play.ensures.none in
    rw end.stays (finish_allowed c.args.self.now _ _ _ c.loop-event.invariant.passed end.left first taped)
