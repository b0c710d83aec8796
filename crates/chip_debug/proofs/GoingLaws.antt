-- Instructions one after another, and where they lead.
use Rattle.std.proofs.Common.{◌≡◌, ℕ, zero, suc, ◌+◌, ◌*◌, ◌<◌, ◌≤◌, Bool, true, false, List, refl, sym, ap, ap₂, subst, ◌∙◌, arith}
use Rattle.std.proofs.Common.{zero-add, add_assoc}
use Rattle.std.specs.Prelude.{◌-◌, ◌&&◌, if◌then◌else◌, is_some}
use Rattle.f8_spec.specs.ChipState.{ChipState}
use Rattle.rewind.specs.Asking.{allowed_since_power}
use Rattle.chip_debug.specs.declared.session.Came.{Came}
use Rattle.chip_debug.specs.declared.session.Came.TheVariants.{Done, Met, Stopped}
use Rattle.chip_debug.specs.declared.session.Ran.{Ran}
use Rattle.chip_debug.specs.Scenes.{Going, Scene, and_before, going, has_stopped, is_met, reached, stepped, stops, went}
use Rattle.chip_debug.specs.Standing.{SessionState, IsAt, IsGone, IsTurned, behind, came_of}
use Rattle.chip_debug.specs.Asking.{allowed_between, behind_allowed}
use Rattle.chip_debug.specs.declared.breaks.Breaks.{Breaks}
use Rattle.chip_debug.proofs.SceneLaws.{stepped_breaks, stepped_chain}

-- ---- one instruction more

-- by whether the session has stopped, whether the instruction stops it, and whether it meets a break
abbrev going_by : Bool → Bool → Bool → Scene → Going → Going
going_by stopped stops met s rest =
    if stopped then went s 0 false else if stops then went (stepped s) 0 false else
    if met then went (stepped s) 1 true else and_before 1 rest

going-suc : (heeds : Bool) (n : ℕ) (s : Scene) → going heeds (suc n) s
    ≡ going_by (has_stopped s) (stops s) (heeds && is_met s) s
    (going heeds n (stepped s))
unfolding going
going-suc heeds n s = refl

going-zero : (heeds : Bool) (s : Scene) → going heeds zero s ≡ went s 0 false
unfolding going
going-zero heeds s = refl

pub going-stopped : (heeds : Bool) (n : ℕ) (s : Scene) → has_stopped s ≡ true → going heeds n s ≡ went s 0 false
going-stopped heeds zero s stopped = going-zero heeds s
going-stopped heeds (suc n) s stopped = going-suc heeds n s ∙ rw stopped refl

abbrev came_by : Bool → Bool → Came
came_by stops met = if stops then Stopped else if met then Met else Done

-- where the instruction is done and meets no break that is heeded
going-done : (heeds : Bool) (n : ℕ) (s : Scene) → has_stopped s ≡ false → Done ≡ came_of heeds s →
    going heeds (suc n) s ≡ and_before 1 (going heeds n (stepped s))
going-done heeds n s running is =
    going-suc heeds n s
    ∙ rw running (by (stops s) (heeds && is_met s) is)
  where
    by : (stops met : Bool) → Done ≡ came_by stops met →
        going_by false stops met s (going heeds n (stepped s)) ≡ and_before 1 (going heeds n (stepped s))
    by true met e = cc
    by false true e = cc
    by false false e = refl

going-met : (heeds : Bool) (n : ℕ) (s : Scene) → has_stopped s ≡ false → Met ≡ came_of heeds s →
    going heeds (suc n) s ≡ went (stepped s) 1 true
going-met heeds n s running is =
    going-suc heeds n s
    ∙ rw running (by (stops s) (heeds && is_met s) is)
  where
    by : (stops met : Bool) → Met ≡ came_by stops met →
        going_by false stops met s (going heeds n (stepped s)) ≡ went (stepped s) 1 true
    by true met e = cc
    by false true e = refl
    by false false e = cc

going-stops : (heeds : Bool) (n : ℕ) (s : Scene) → has_stopped s ≡ false → Stopped ≡ came_of heeds s →
    going heeds (suc n) s ≡ went (stepped s) 0 false
going-stops heeds n s running is =
    going-suc heeds n s
    ∙ rw running (by (stops s) (heeds && is_met s) is)
  where
    by : (stops met : Bool) → Stopped ≡ came_by stops met →
        going_by false stops met s (going heeds n (stepped s)) ≡ went (stepped s) 0 false
    by true met e = refl
    by false true e = cc
    by false false e = cc

-- ---- the count

before_none : (g : Going) → and_before 0 g ≡ g
before_none g = ap (λ n. went g.scene n g.broke) (zero-add g.ran)

before_then : (a b : ℕ) (g : Going) → and_before a (and_before b g) ≡ and_before (a + b) g
before_then a b g = ap (λ n. went g.scene n g.broke) (sym (add_assoc a b g.ran))

-- ---- what is asked

none_more : (p a each : ℕ) → p + a ≤ p + a + 0 * each
none_more p a each = omega arith

-- what was asked up to a scene, and then at an instruction
then_asked : (p q r a b c so_far more all : ℕ) → q + a ≤ p + b + so_far → r + b ≤ q + c + more → all ≡ so_far + more →
    r + a ≤ p + c + all
then_asked p q r a b c so_far more all first next both = omega arith

once_more : (done each : ℕ) → (done + 1) * each ≡ done * each + each
once_more done each = omega arith

within : (p q a b c : ℕ) → q + a ≤ p + b + c → q ≤ p + (b - a + c)
within p q a b c few = omega arith

-- ---- the loop

-- after so many instructions a session has come to a scene from which the others lead to where all of them do
pub record Reached (heeds : Bool) (count : ℕ) (first : Scene) (done : ℕ) (s : SessionState)
    (states : List ChipState) (before after : ℕ) : Type 0 where
  pub there : Scene
  pub at : IsAt s states there
  pub left : ℕ
  pub all : count ≡ done + left
  pub rest : going heeds count first ≡ and_before done (going heeds left there)
  pub breaks : there.breaks ≡ first.breaks
  pub chain : there.chain ≡ first.chain
  pub asked :
      after + allowed_since_power (reached first)
      ≤ before + allowed_since_power (reached there) + done * behind_allowed heeds first.breaks first.chain

pub reached_first : (heeds : Bool) (count : ℕ) (scene : Scene) (s : SessionState) (states : List ChipState) (before : ℕ) →
    IsAt s states scene → Reached heeds count scene 0 s states before before
reached_first heeds count scene s states before at = record {
  there = scene;
  at = at;
  left = count;
  all = sym (zero-add count);
  rest = sym (before_none (going heeds count scene));
  breaks = refl;
  chain = refl;
  asked = none_more before (allowed_since_power (reached scene)) (behind_allowed heeds scene.breaks scene.chain);
}

gone_as : (heeds : Bool) (count : ℕ) (scene t : Scene) (n : ℕ) (broke : Bool) (ran : Ran) (s : SessionState)
    (states : List ChipState) (p q : ℕ) →
    going heeds count scene ≡ went t n broke → IsAt s states t → ran.count ≡ n → ran.broke ≡ broke →
    q + allowed_since_power (reached scene) ≤ p + allowed_since_power (reached t) + n * behind_allowed heeds scene.breaks scene.chain →
    IsGone heeds count ran s states scene p q
gone_as heeds count scene t n broke ran s states p q is at counted met few = record {
  at = subst (λ (g : Going). IsAt s states g.scene) (sym is) at;
  counted = counted ∙ sym (ap (λ (g : Going). g.ran) is);
  met = met ∙ sym (ap (λ (g : Going). g.broke) is);
  asked = subst (λ (g : Going). q ≤ p + (allowed_between scene g.scene
      + g.ran * behind_allowed heeds scene.breaks scene.chain)) (sym is)
      (within p q (allowed_since_power (reached scene)) (allowed_since_power (reached t))
      (n * behind_allowed heeds scene.breaks scene.chain) few);
}

pub gone_stopped : (heeds : Bool) (count : ℕ) (scene : Scene) (ran : Ran) (s : SessionState) (states : List ChipState) (p : ℕ) →
    IsAt s states scene → has_stopped scene ≡ true → ran.count ≡ 0 → ran.broke ≡ false →
    IsGone heeds count ran s states scene p p
gone_stopped heeds count scene ran s states p at stopped counted met =
    gone_as heeds count scene scene 0 false ran s states p p (going-stopped heeds count scene stopped) at counted met
    (none_more p (allowed_since_power (reached scene)) (behind_allowed heeds scene.breaks scene.chain))

module _ (heeds : Bool) (count : ℕ) (first : Scene) (done : ℕ) (s : SessionState) (states : List ChipState) (p q : ℕ)
    (r : Reached heeds count first done s states p q) where
  abbrev each : ℕ
  each = behind_allowed heeds first.breaks first.chain

  -- all are done
  pub gone_all : (ran : Ran) → count ≤ done → ran.count ≡ count → ran.broke ≡ false →
      IsGone heeds count ran s states first p q
  gone_all ran past counted met =
      let none : r.left ≡ 0 = let all = r.all in omega (arith, all) in
      let is : going heeds count first ≡ went r.there (done + 0) false =
      r.rest ∙ ap (λ n. and_before done (going heeds n r.there)) none ∙ ap (and_before done) (going-zero heeds r.there) in
      let counts : ran.count ≡ done + 0 = let all = r.all in omega (arith, all, none, counted) in
      let so_far : q + allowed_since_power (reached first) ≤ p + allowed_since_power (reached r.there) + (done + 0) * each =
      then_asked p q q (allowed_since_power (reached first)) (allowed_since_power (reached r.there)) (allowed_since_power (reached r.there)) (done * each) 0
      ((done + 0) * each) r.asked (omega arith) (omega arith) in
      gone_as heeds count first r.there (done + 0) false ran s states p q is r.at counts met so_far

  module _ (more : done < count) (running : has_stopped r.there ≡ false) (came : Came) (after : SessionState)
      (news : List ChipState) (asked : ℕ) (turns : IsTurned heeds came after news r.there q asked) where
    left_more : (m : ℕ) × (r.left ≡ suc m)
    left_more = by r.left r.all
      where
        by : (n : ℕ) → count ≡ done + n → (m : ℕ) × (n ≡ suc m)
        by zero all = absurd (omega (arith, all))
        by (suc m) all = (m, refl)

    next_is : going heeds count first ≡ and_before done (going heeds (suc left_more.0) r.there)
    next_is = r.rest ∙ ap (λ n. and_before done (going heeds n r.there)) left_more.1

    -- so many questions were put, with those behind the instruction
    asked_more : (n all : ℕ) → behind came each ≡ n → all ≡ done * each + n →
        asked + allowed_since_power (reached first) ≤ p + allowed_since_power (reached (stepped r.there)) + all
    asked_more n all is both =
        then_asked p q asked (allowed_since_power (reached first)) (allowed_since_power (reached r.there)) (allowed_since_power (reached (stepped r.there)))
        (done * each) n all r.asked
        (subst (λ k. asked + allowed_since_power (reached r.there) ≤ q + allowed_since_power (reached (stepped r.there)) + k)
        (ap (behind came) (ap₂ (λ (b : Breaks) (c : List ℕ). behind_allowed heeds b c) r.breaks r.chain) ∙ is) turns.asked)
        both

    pub reached_more : came ≡ Done → Reached heeds count first (done + 1) after news p asked
    reached_more is = record {
      there = stepped r.there;
      at = turns.at;
      left = left_more.0;
      all = let all = r.all in let left = left_more.1 in omega (arith, all, left);
      rest = next_is ∙ ap (and_before done) (going-done heeds left_more.0 r.there running (sym is ∙ turns.is))
          ∙ before_then done 1 (going heeds left_more.0 (stepped r.there));
      breaks = stepped_breaks r.there ∙ r.breaks;
      chain = stepped_chain r.there ∙ r.chain;
      asked = asked_more each ((done + 1) * each) (ap (λ (c : Came). behind c each) is) (once_more done each);
    }

    pub gone_met : (ran : Ran) → came ≡ Met → ran.count ≡ done + 1 → ran.broke ≡ true →
        IsGone heeds count ran after news first p asked
    gone_met ran is counted met =
        gone_as heeds count first (stepped r.there) (done + 1) true ran after news p asked
        (next_is ∙ ap (and_before done) (going-met heeds left_more.0 r.there running (sym is ∙ turns.is))) turns.at
        counted met (asked_more each ((done + 1) * each) (ap (λ (c : Came). behind c each) is) (once_more done each))

    pub gone_stops : (ran : Ran) → came ≡ Stopped → ran.count ≡ done → ran.broke ≡ false →
        IsGone heeds count ran after news first p asked
    gone_stops ran is counted met =
        gone_as heeds count first (stepped r.there) (done + 0) false ran after news p asked
        (next_is ∙ ap (and_before done) (going-stops heeds left_more.0 r.there running (sym is ∙ turns.is))) turns.at
        (omega (arith, counted)) met
        (asked_more 0 ((done + 0) * each) (ap (λ (c : Came). behind c each) is) (omega arith))
