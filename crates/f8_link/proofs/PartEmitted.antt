-- A module's part of the table: the one source's third pass over its lines puts what linking puts.
use Rattle.std.proofs.Common.{◌≡◌, ℕ, ℤ, ◌≤◌, List, Option, Ok, ap, ◌∙◌}
use Rattle.f8_asm.specs.Names.{value_of}
use Rattle.f8_asm.specs.PassThree.{table_with}
use Rattle.f8_asm.specs.Steps.{steps}
use Rattle.f8_asm.proofs.Alike.{read-ok}
use Rattle.f8_link.specs.declared.lines.PlacedLine.{PlacedLine}
use Rattle.f8_link.specs.declared.parts.Part.{Part}
use Rattle.f8_link.specs.declared.values.Named.{Named}
use Rattle.f8_link.specs.Linking.{all_in_reach, fixup_put, bytes_fixed, part_written}
use Rattle.f8_link.specs.Objects.{Object}
use Rattle.f8_link.specs.OneSource.{PlacedSource, source_emitted}
use Rattle.f8_link.specs.ThirdPass.{Code, no_code, emit_lines, object_of}
use Rattle.f8_link.proofs.Goes.{NameGoes, reaches}
use Rattle.f8_link.proofs.LinesGo.{SourcesStand, StandFrom, module_emitted}

pub part_emitted : (p : Part) (values : List ℤ) (rename : List ℕ → List ℕ) (names : List (List ℕ × Named)) (imports : List (List ℕ × ℕ))
    (others : List (List ℕ × ℤ)) (ps : List PlacedLine) (qs : List PlacedSource) (code : Code) (table after : List (Option ℕ)) → p.room.first ≤ 65536
    → ((x : List ℕ) → NameGoes p.room.first values (value_of names x) (value_of imports x) (value_of others (rename x)))
    → SourcesStand p.room.first rename ps qs → StandFrom 0 ps → emit_lines names imports no_code ps ≡ Ok code → object_of code imports ≡ p.object
    → part_written values table p ≡ Ok after → steps (source_emitted others) table qs ≡ Ok after
unfolding part_written
part_emitted p values rename names imports others ps qs code table after low name sources stand emits object written =
    read-ok (steps (source_emitted others) table qs ≡ Ok after) (bytes_fixed values p) (λ z. Ok (table_with table p.room.first z)) after written
    (λ z at_z e.
    read-ok (steps (source_emitted others) table qs ≡ Ok after) (all_in_reach values)
    (λ _. steps (fixup_put p.room.first values) p.object.bytes p.object.fixups) z at_z (λ u at_u fixed.
    let same : table_with table p.room.first z ≡ after = cc e in
    let own : steps (fixup_put p.room.first values) code.bytes code.fixups ≡ Ok z =
    ap (λ (o : Object). steps (fixup_put p.room.first values) o.bytes o.fixups) object ∙ fixed in
    module_emitted p.room.first values rename names imports others ps qs code z table
    (record { reach = reaches p.room.first values u low at_u; name = name }) sources stand emits own
    ∙ ap (λ (t : List (Option ℕ)). Ok t) same))
