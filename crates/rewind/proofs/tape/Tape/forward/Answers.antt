-- Events are played up to the next instruction, which is then done again.
use Rattle.std.proofs.Common.{◌∙◌, ◌≡◌, List, [], ◌∷◌, length, refl, ap, arith}
use Rattle.std.proofs.lemmas.List.{length-map}
use Rattle.rewind.specs.LogEntries.{instructions_in}
use Rattle.rewind.specs.Tape.{TapeState}
use Rattle.rewind.specs.declared.entry.Entry.{Entry}
use Rattle.rewind.specs.declared.entry.Entry.TheVariants.{Happens}
use Rattle.rewind.proofs.PatchLaws.{ran_patches}
use Rattle.rewind.proofs.TapeForward.{as_long, as_many, forwards, is_forward, passed_all, passed_few, passed_more, passed_none}
use Rattle.rewind.proofs.TapeSteps.{in_time_events, in_time_on}
use Rattle.rewind.proofs.tape.Tape.forward.Given.{Over}
use Rattle.rewind.proofs.tape.Tape.forward.Goals as goal

pub loop-entry-init : goal.loop-entry-init
loop-entry-init g c =
    rw (← c.self.view_is) (record {
      passed = passed_none _ _;
      fits = rw (← c.self.view_is) at c.requires.fits;
      asked = refl;
      time = c.self.invariant;
    })

pub happen-requires-clause-few : goal.happen-requires-clause-few
happen-requires-clause-few g c =
    omega (
      arith,
      c.requires.few,
      as_long (λ b. (goal.Chip-dyn g (b.vtable, b.value)).queries b.value) c.args.rack.now.items
          c.loop-entry.rack.items c.loop-entry.invariant.asked,
    )

pub happen-requires-clause-fits : goal.happen-requires-clause-fits
happen-requires-clause-fits g c = c.loop-entry.invariant.fits

pub loop-entry-smaller : goal.loop-entry-smaller
loop-entry-smaller g c = omega (arith, ap (λ (es : List Entry). length es) c.in-Some.ensures.some.left)

pub loop-entry-preserved : goal.loop-entry-preserved
loop-entry-preserved g c = record {
  passed = passed_more c.in-Happens.event _ _ _ _ _ _ c.loop-entry.invariant.passed (rw c.in-Happens.is at c.in-Some.ensures.some) refl
      (record {
        there = c.happen.ensures.there;
        allowed = c.happen.ensures.allowed;
        alike = c.happen.ensures.alike;
        chain = c.happen.ensures.chain;
        patches_stay = c.happen.ensures.patches;
      });
  fits = c.happen.ensures.fits;
  asked = c.happen.ensures.asked ∙ c.loop-entry.invariant.asked;
  time = in_time_events (Happens c.in-Happens.event ∷ []) _ _ c.loop-entry.self-inside.log _ refl c.loop-entry.invariant.time
      c.happen.ensures.mode c.happen.ensures.phi (rw c.in-Happens.is at c.in-Some.ensures.some).played;
}

pub instr-requires-clause-few : goal.instr-requires-clause-few
instr-requires-clause-few g c =
    omega (
      arith,
      c.requires.few,
      as_long (λ b. (goal.Chip-dyn g (b.vtable, b.value)).queries b.value) c.args.rack.now.items
          c.loop-entry.rack.items c.loop-entry.invariant.asked,
    )

pub instr-requires-clause-mode : goal.instr-requires-clause-mode
instr-requires-clause-mode g c = c.loop-entry.invariant.time.reset

pub instr-requires-clause-fits : goal.instr-requires-clause-fits
instr-requires-clause-fits g c = c.loop-entry.invariant.fits

pub instr-requires-clause-phi : goal.instr-requires-clause-phi
instr-requires-clause-phi g c =
    omega (
      arith,
      c.loop-entry.invariant.time.clocks,
      passed_few c.args.self.now _ _ _ c.loop-entry.invariant.passed,
      ap (λ (t : TapeState). instructions_in t.log.played) c.self.view_is,
      c.place.ensures,
      c.place.type_inv,
    )

pub invariant_of-self : goal.invariant_of-self
invariant_of-self g c =
    in_time_on _ _ c.loop-entry.self-inside.log _ c.loop-entry.invariant.time c.instr.ensures.follows.mode
    c.instr.ensures.advances.clocks (rw c.in-Instruction.is at c.in-Some.ensures.some).played

pub returns-in-Instruction-clause-some : goal.returns-in-Instruction-clause-some
returns-in-Instruction-clause-some g c = λ first taped.
    is_forward c.args.self.now _ _ _ _ _ c.instr.result c.loop-entry.invariant.passed
    (rw c.in-Instruction.is at c.in-Some.ensures.some) refl (record {
      advances = c.instr.ensures.advances;
      follows = c.instr.ensures.follows;
      halts = c.instr.ensures.halts;
      stopped = c.instr.ensures.stopped;
    }) c.instr.ensures.bytes first taped _ _ _ (length-map c.loop-entry.rack.items _)
    (length-map c.instr.new.rack.items _ ∙ c.instr.ensures.chips) c.loop-entry.invariant.fits c.instr.ensures.fits
    (rw (as_many (λ b. (goal.Chip-dyn g (b.vtable, b.value)).queries b.value) c.args.rack.now.items c.loop-entry.rack.items
    c.loop-entry.invariant.asked) at c.instr.ensures.asked)

pub returns-in-Instruction-clause-moves : goal.returns-in-Instruction-clause-moves
returns-in-Instruction-clause-moves g c =
    forwards c.args.self.now _ _ _ _ c.loop-entry.invariant.passed (rw c.in-Instruction.is at c.in-Some.ensures.some)

pub returns-in-Instruction-clause-tape : goal.returns-in-Instruction-clause-tape
returns-in-Instruction-clause-tape g c =
    ap (λ (t : TapeState). record t { machine = c.instr.new.self; log = c.play.new.self }) c.loop-entry.invariant.passed.rest

pub returns-in-Instruction-clause-chain : goal.returns-in-Instruction-clause-chain
returns-in-Instruction-clause-chain g c = c.instr.ensures.follows.chain ∙ c.loop-entry.invariant.passed.chain

pub returns-in-Instruction-clause-patches : goal.returns-in-Instruction-clause-patches
returns-in-Instruction-clause-patches g c =
    ran_patches _ _ _ c.instr.ensures.follows.ran ∙ c.loop-entry.invariant.passed.patches_stay

pub returns-in-Instruction-clause-chips : goal.returns-in-Instruction-clause-chips
returns-in-Instruction-clause-chips g c =
    c.instr.ensures.chips
    ∙ as_long (λ b. (goal.Chip-dyn g (b.vtable, b.value)).queries b.value) c.args.rack.now.items c.loop-entry.rack.items
    c.loop-entry.invariant.asked

-- ---- an instruction is left, so the end isn't met before it

none_left : (g : Over) (c : goal.In_default g) → instructions_in c.args.self.now.log.left ≡ 0
none_left g c = passed_all c.args.self.now _ _ _ c.loop-entry.invariant.passed c.in_default.ensures.none.left

pub returns-clause-none : goal.returns-clause-none
returns-clause-none g c = none_left g c

not_met : (g : Over) (c : goal.In_default g) → ⊥
not_met g c =
    c.if-place-length.false
    (omega (arith, none_left g c, ap (λ (t : TapeState). instructions_in t.log.left) c.self.view_is, c.place.ensures, c.length.ensures))

pub invariant_of-self-in_default : goal.invariant_of-self-in_default
invariant_of-self-in_default g c = absurd (not_met g c)

pub returns-clause-stays : goal.returns-clause-stays
returns-clause-stays g c = absurd (not_met g c)

pub returns-clause-rack : goal.returns-clause-rack
returns-clause-rack g c = absurd (not_met g c)

pub returns-clause-unasked : goal.returns-clause-unasked
returns-clause-unasked g c = absurd (not_met g c)

pub returns-clause-tape : goal.returns-clause-tape
returns-clause-tape g c = absurd (not_met g c)

pub returns-clause-chain : goal.returns-clause-chain
returns-clause-chain g c = absurd (not_met g c)

pub returns-clause-patches : goal.returns-clause-patches
returns-clause-patches g c = absurd (not_met g c)

pub returns-clause-fits : goal.returns-clause-fits
returns-clause-fits g c = absurd (not_met g c)

pub returns-clause-chips : goal.returns-clause-chips
returns-clause-chips g c = absurd (not_met g c)
