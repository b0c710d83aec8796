use Rattle.std.proofs.Common.{◌≡◌, ◌+◌, ◌<◌, ℕ, List, take, Ok, Err, All, get_or, length, ◌∷◌, [], ◌++◌, sym, ◌∙◌, ap, subst, add-one}
use Rattle.std.proofs.Common.{rules}
use Rattle.std.proofs.Math.Seq.{take-suc}
use Rattle.std.proofs.lemmas.List.{take_all}
use Rattle.std.proofs.lemmas.List.Elements.{All-push}
use Rattle.f8_link.specs.declared.answers.LinkCause.TheVariants.{Outside}
use Rattle.f8_link.specs.declared.parts.Part.{Part}
use Rattle.f8_link.specs.Linking.{IsLow, inside}
use Rattle.f8_link.proofs.EachPart.{all_done, one_more, stopped}
use Rattle.f8_link.proofs.linker.all_inside.Goals as goal

-- one room more is low
low_more : (ps : List Part) (number : ℕ) (p : Part) → number < length ps → p ≡ get_or ps number p → All IsLow (take number ps) → IsLow p
    → All IsLow (take (number + 1) ps)
low_more ps number p within is before low =
    let more : take (number + 1) ps ≡ take number ps ++ p ∷ [] =
    ap (λ (n : ℕ). take n ps) (add-one number) ∙ take-suc ps number p within ∙ ap (λ (q : Part). take number ps ++ q ∷ []) (sym is) in
    rw more (All-push IsLow (take number ps) p before low)

pub returns-then-not-is_inside_room-clause-value : goal.returns-then-not-is_inside_room-clause-value
unfolding inside
returns-then-not-is_inside_room-clause-value c =
    let told : inside tt c.index-parts-number.result ≡ Err Outside = search rules in
    rw c.stop_in.ensures
    (stopped (λ number. inside) c.args.parts.now c.loop-number.number c.loop-number.invariant.0 c.index-parts-number.result
    c.loop-number-test.true c.index-parts-number.is Outside told)

pub loop-number-preserved : goal.loop-number-preserved
unfolding inside
loop-number-preserved c =
    let told : inside tt c.index-parts-number.result ≡ Ok tt = search rules in (
      one_more (λ number. inside) c.args.parts.now c.loop-number.number c.loop-number.invariant.0 c.index-parts-number.result
          c.loop-number-test.true c.index-parts-number.is tt told,
      low_more c.args.parts.now c.loop-number.number c.index-parts-number.result c.loop-number-test.true c.index-parts-number.is
          c.loop-number.invariant.1 c.is_inside_room.ensures.low,
    )

pub returns-clause-value : goal.returns-clause-value
returns-clause-value c = all_done (λ number. inside) c.args.parts.now c.loop-number.number c.loop-number.invariant.0 c.loop-number-test.false

pub returns-clause-low : goal.returns-clause-low
returns-clause-low c =
    subst (All IsLow) (take_all c.loop-number.number c.args.parts.now c.loop-number-test.false) c.loop-number.invariant.1
