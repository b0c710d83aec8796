-- one number after another, where the digits allow it
use Rattle.std.proofs.Common.{◌≡◌, ◌≤◌, ◌/◌, ◌%◌, ℕ, true, false, length, sym, ◌∙◌, arith}
use Rattle.abs_domain.specs.KnownParts.{known_digit}
use Rattle.abs_step.specs.RegisterWrites.{Target, digit_allows, target_allows}
use Rattle.abs_step.proofs.Knowing.{both_of}
use Rattle.noted_cases.proofs.NumberSets.{few_so_far, with_one, with_none, all_passed, passed_small, first_fails, second_fails}
use Rattle.noted_cases.proofs.noted.numbers_by.Goals as goal
use Rattle.noted_cases.proofs.noted.numbers_by.Goals.{then-allows+then-allows-2, else-allows, else-allows-via-then-allows+else-allows-2}
use Rattle.noted_cases.proofs.noted.numbers_by.Goals.{else-allows-via-else-allows}

pub push-requires : goal.push-requires
push-requires c =
    let few : length c.loop-number.numbers.items ≤ c.loop-number.number = few_so_far _ _ _ c.loop-number.invariant in
    omega arith

pub loop-number-preserved : goal.loop-number-preserved
loop-number-preserved c =
    let isar : Target = record { high = known_digit c.args.high; low = known_digit c.args.low } in
    let n : ℕ = c.loop-number.number in
    elim c.if-allows.branch [
      | then-allows+then-allows-2 w ↦
          let high : digit_allows isar.high (n / 8) ≡ true = sym c.allows.ensures ∙ w.if-allows.true in
          let low : digit_allows isar.low (n % 8) ≡ true = sym w.allows-then-allows.ensures ∙ w.if-allows-2.true in
          rw (w.numbers-is)
          (with_one (target_allows isar) n c.loop-number.numbers.items _ c.loop-number.invariant w.push.ensures.items
          (both_of _ _ high low))
      | else-allows w ↦
          let fails : target_allows isar n ≡ false =
          elim w.else-allows.branch [
            | else-allows-via-then-allows+else-allows-2 v ↦
                second_fails (digit_allows isar.high (n / 8)) _ (sym v.allows-then-allows.ensures ∙ v.if-allows-2.false)
            | else-allows-via-else-allows v ↦ first_fails _ (digit_allows isar.low (n % 8)) (sym c.allows.ensures ∙ v.if-allows.false)
          ] in
          rw (w.numbers-is) (with_none (target_allows isar) n c.loop-number.numbers.items c.loop-number.invariant fails)
    ]

pub returns : goal.returns
returns c =
    let isar : Target = record { high = known_digit c.args.high; low = known_digit c.args.low } in
    let whole = all_passed (target_allows isar) c.loop-number.number c.loop-number.numbers.items c.loop-number.invariant
    c.loop-number.auto.number-end c.loop-number-test.false in
    record { value = whole; small = passed_small isar c.loop-number.numbers.items whole }
