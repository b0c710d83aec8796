-- A number that is there already adds nothing, and another one goes in at its place.
use Rattle.std.proofs.Common.{◌≡◌, ◌<◌, ◌≤◌, ◌+◌, ℕ, refl, ap, sym, subst, ◌∙◌, arith, length, List, Bool, true, false, nat_le}
use Rattle.std.proofs.lemmas.Bool.{le-leb, lt-leb}
use Rattle.std.proofs.lemmas.List.Edits.{length-insert}
use Rattle.std.specs.Prelude.{Result, Ok, Err, OnOk, is_ok, ◌↔◌}
use Rattle.std.specs.Bool.{OnTrue}
use Rattle.std.specs.List.{insert}
use Rattle.value_sets.specs.ValueSets.{with_number}
use Rattle.value_sets.proofs.OneMore.{unchanged, inserted}
use Rattle.value_sets.proofs.numbers.add_number.Goals as goal

not_less : (x y : ℕ) → (x < y → ⊥) → y ≤ x
not_less x y none = grind arith

same : {g : _} (c : goal.Then-eq g) → with_number c.args.numbers.now.items c.args.number ≡ c.args.numbers.now.items
same c =
    unchanged c.as_slice-listed.result.now c.args.numbers.now.items c.as_slice-listed.ensures.value c.place_of-place.result c.get.result _
    c.get.ensures.lookup.0 c.get.ensures.lookup.1 c.place_of-place.ensures.before (sym c.eq.ensures ∙ c.if-eq.true)

more : {g : _} (c : goal.After-is_ok g) →
    with_number c.args.numbers.now.items c.args.number ≡ insert c.args.numbers.now.items c.place_of-place.result c.args.number
more c =
    inserted c.as_slice-listed.result.now c.args.numbers.now.items c.as_slice-listed.ensures.value c.place_of-place.result c.get.result _
    c.get.ensures.lookup.0 c.get.ensures.lookup.1 c.place_of-place.ensures.before (sym c.eq.ensures ∙ c.if-eq.false)
    c.place_of-place.ensures.within c.place_of-place.ensures.first

pub returns-then-eq-clause-room : goal.returns-then-eq-clause-room
returns-then-eq-clause-room g c =
    fits (same c) (subst (λ listed. length listed ≤ g.row.N) c.as_slice-listed.ensures.value c.as_slice-listed.ensures.fits)
  where
    fits : {list numbers : List ℕ} {most : ℕ} → list ≡ numbers → length numbers ≤ most → true ≡ nat_le (length list) most
    fits equal few = grind arith

pub returns-then-eq-clause-added : goal.returns-then-eq-clause-added
returns-then-eq-clause-added g c = sym (same c)

pub returns-clause-room : goal.returns-clause-room
returns-clause-room g c =
    let place = c.place_of-place.result in
    let within = subst (λ listed. place ≤ length listed) c.as_slice-listed.ensures.value c.place_of-place.ensures.within in
    let longer = ap length (more c) ∙ length-insert c.args.numbers.now.items place c.args.number within in
    told (length c.args.numbers.now.items) _ g.row.N c.is_ok.result _ longer c.is_ok.ensures.value c.try_insert.ensures.variant
  where
    told : (before after most : ℕ) (answer done : Bool) → after ≡ before + 1 → answer ≡ done → (done ≡ true) ↔ (before < most) →
        answer ≡ nat_le after most
    told before after most answer true longer is room = is ∙ sym (le-leb after most (omega (arith, longer, room.0 refl)))
    told before after most answer false longer is room =
        let full : most ≤ before = not_less before most (λ less. absurd (cc (room.1 less))) in
        is ∙ sym (lt-leb after most (omega (arith, longer, full)))

pub returns-clause-added : goal.returns-clause-added
returns-clause-added g c =
    added c.try_insert.new.self.items _ _ c.try_insert.result (more c) c.is_ok.ensures.value c.try_insert.ensures.ok
  where
    added : {A B : Type 0} {answer : Bool} (numbers list more : List ℕ) (result : Result A B) → list ≡ more → answer ≡ is_ok result →
        OnOk result (numbers ≡ more) → OnTrue answer (numbers ≡ list)
    added numbers list more (Ok value) equal is done = rw is (done ∙ sym equal)
    added numbers list more (Err error) equal is done = rw is tt
