-- The one source's third pass over all modules puts the bytes that linking puts.
use Rattle.std.proofs.Common.{◌≡◌, ℕ, suc, ◌+◌, ◌≤◌, ℤ, List, ◌∷◌, ◌++◌, Option, Some, Ok, All, refl, sym, ap, ◌∙◌, subst, arith}
use Rattle.std.proofs.lemmas.List.Elements.{All-head, All-tail}
use Rattle.std.specs.Prelude.{slice_get}
use Rattle.f8_asm.specs.Steps.{steps}
use Rattle.f8_asm.proofs.Alike.{read-ok}
use Rattle.f8_asm.proofs.Steps.{steps_more}
use Rattle.f8_link.specs.declared.lines.PlacedLine.{PlacedLine}
use Rattle.f8_link.specs.declared.parts.Part.{Part}
use Rattle.f8_link.specs.Linking.{IsLow, at_module, each_part, part_written, values_of}
use Rattle.f8_link.specs.OneSource.{PlacedSource, source_emitted}
use Rattle.f8_link.proofs.ImportsGo.{at_module-ok}
use Rattle.f8_link.proofs.LinesGo.{SourcesStand, no_source, export_source, statement_source, StandFrom}
use Rattle.f8_link.proofs.ModulePlaced.{PlacesPair, no_place, export_place, statement_place}
use Rattle.f8_link.proofs.OriginLine.{origin_place, origin_emitted}
use Rattle.f8_link.proofs.PartEmitted.{part_emitted}
use Rattle.f8_link.proofs.PartsGo.{Placing, PartsPair, no_part, one_part}
use Rattle.f8_link.proofs.SourceRead.{steps_on}
use Rattle.f8_link.proofs.Spelt.{Spelt, none_spelt, one_spelt}

-- lines where they stand, as the third pass wants them
places_stand : {first : ℕ} {rename : List ℕ → List ℕ} {at : ℕ} {ps : List PlacedLine} {qs : List PlacedSource} → PlacesPair first rename at ps qs
    → SourcesStand first rename ps qs
places_stand no_place = no_source
places_stand (export_place rest) = export_source (places_stand rest)
places_stand (statement_place read rest) = statement_source read refl (places_stand rest)

places_from : {first : ℕ} {rename : List ℕ → List ℕ} {at : ℕ} {ps : List PlacedLine} {qs : List PlacedSource} → PlacesPair first rename at ps qs
    → StandFrom at ps
places_from no_place = tt
places_from (export_place {offset} {ps} rest) = (refl, subst (λ (n : ℕ). StandFrom n ps) (omega arith) (places_from rest))
places_from (statement_place read rest) = (refl, places_from rest)

-- values of modules' imports from this number on
abbrev ValuesFrom : ℕ → List (List ℤ) → List (List ℤ) → Type 0
ValuesFrom number whole rest = (i : ℕ) (v : List ℤ) → slice_get rest i ≡ Some v → slice_get whole (number + i) ≡ Some v

values_here : (number : ℕ) (whole rest : List (List ℤ)) (v : List ℤ) → ValuesFrom number whole (v ∷ rest) → values_of (slice_get whole number) ≡ v
values_here number whole rest v from =
    let at : number + 0 ≡ number = omega arith in
    let is : slice_get whole number ≡ Some v = ap (λ (n : ℕ). slice_get whole n) (sym at) ∙ from 0 v refl in
    ap values_of is

values_behind : (number : ℕ) (whole rest : List (List ℤ)) (v : List ℤ) → ValuesFrom number whole (v ∷ rest) → ValuesFrom (number + 1) whole rest
values_behind number whole rest v from i w is =
    let at : number + 1 + i ≡ number + suc i = omega arith in
    ap (λ (n : ℕ). slice_get whole n) at ∙ from (suc i) w is

written_on : {spell : ℕ → Part → List ℕ → List ℕ} {all : List (List ℕ × ℤ)} {number : ℕ} {before : List (List ℕ × ℤ)} {values : List (List ℤ)}
    {texts : List (List ℕ)} {ps : List Part} {ms : List Placing} {qs : List PlacedSource} (whole : List (List ℤ)) (table after : List (Option ℕ))
    → Spelt spell all number before values texts ps ms → PartsPair all ms qs → ValuesFrom number whole values → All IsLow ps
    → each_part (λ n. part_written (values_of (slice_get whole n))) number table ps ≡ Ok after → steps (source_emitted all) table qs ≡ Ok after
unfolding each_part steps
written_on whole table after (none_spelt is) no_part from low h = let same : table ≡ after = cc h in ap Ok same
written_on {spell} {all} whole table after (one_spelt {number} {values} {rest} {text} {p} {ps} {ms} c names others)
    (one_part {number = line} {here} {qs = ours} {rest = theirs} places own pair) from low h =
    read-ok (steps (source_emitted all) table (origin_place line p.room.first here ∷ (ours ++ theirs)) ≡ Ok after)
    (at_module number (part_written (values_of (slice_get whole number)) table p)) _ after h (λ now at_now h.
    let did = at_module-ok number (part_written (values_of (slice_get whole number)) table p) now at_now in
    let here_are = values_here number whole rest values from in
    let written : part_written values table p ≡ Ok now = ap (λ vs. part_written vs table p) (sym here_are) ∙ did in
    let first : p.room.first ≤ 65535 = (All-head IsLow p ps low).0 in
    let front = part_emitted p values (spell number p) c.laid.names c.read.imports all c.laid.placed ours c.code table now (omega (arith, first))
    names.goes (places_stand places) (places_from places) c.at_code c.object_is written in
    let last = written_on whole now after others pair (values_behind number whole rest values from) (All-tail IsLow p ps low) h in
    sym (steps_more (source_emitted all) table table (origin_place line p.room.first here) (ours ++ theirs) (origin_emitted all table line p.room.first here))
    ∙ steps_on (source_emitted all) table now ours theirs front ∙ last)

pub spelt_written : {spell : ℕ → Part → List ℕ → List ℕ} {all before : List (List ℕ × ℤ)} {values : List (List ℤ)} {texts : List (List ℕ)}
    {ps : List Part} {ms : List Placing} {qs : List PlacedSource} (table after : List (Option ℕ)) → Spelt spell all 0 before values texts ps ms
    → PartsPair all ms qs → All IsLow ps → each_part (λ n. part_written (values_of (slice_get values n))) 0 table ps ≡ Ok after
    → steps (source_emitted all) table qs ≡ Ok after
spelt_written {values} table after spelt pair low h = written_on values table after spelt pair (λ i v is. let at : 0 + i ≡ i = omega arith in rw at is) low h
