use Rattle.std.proofs.Common.{◌≡◌, Ok, All, subst, rules}
use Rattle.f8_asm.proofs.ImageRooms.{ascending_ascends}
use Rattle.f8_link.specs.Linking.{IsLow, linked_of, linked_in}
use Rattle.f8_link.proofs.OneSourceIs.{one_source_law, plain_law}
use Rattle.f8_link.proofs.linker.link.Goals as goal

pub returns-clause-value : goal.returns-clause-value
unfolding linked_of linked_in
returns-clause-value c = search rules

pub returns-clause-ascent : goal.returns-clause-ascent
returns-clause-ascent c = rw (c.of.ensures, c.in_ok-ascending.ensures) (ascending_ascends 0 c.in_ok-table.table)

pub returns-clause-source : goal.returns-clause-source
unfolding linked_of linked_in
returns-clause-source c =
    let linked : linked_of c.args.parts.now ≡ Ok c.of.result = search rules in
    λ texts so. one_source_law texts c.args.parts.now c.of.result so
    (subst (All IsLow) c.as_slice-parts.ensures c.in_ok-all_inside.ensures.low) linked

pub returns-clause-plain : goal.returns-clause-plain
unfolding linked_of linked_in
returns-clause-plain c =
    let linked : linked_of c.args.parts.now ≡ Ok c.of.result = search rules in
    λ texts so twice. plain_law texts c.args.parts.now c.of.result so twice
    (subst (All IsLow) c.as_slice-parts.ensures c.in_ok-all_inside.ensures.low) linked
