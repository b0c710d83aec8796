-- The image of modules linked, as lines of one source: it is what linking makes of them.
use Rattle.std.proofs.Common.{◌≡◌, ℕ, ℤ, List, [], Option, Ok, All, refl, ◌∙◌, subst}
use Rattle.f8_asm.specs.Image.{ascending}
use Rattle.f8_asm.specs.Marks.{no_marks}
use Rattle.f8_asm.specs.PassThree.{no_bytes}
use Rattle.f8_link.specs.declared.parts.Part.{Part}
use Rattle.f8_link.specs.Linking.{IsLow, all_written}
use Rattle.f8_link.specs.OneSource.{source_image, source_image_in}
use Rattle.f8_link.proofs.PartsGo.{Placing, PartsPair, parts_lines, all_parts_go}
use Rattle.f8_link.proofs.RoomsGo.{RoomsGo}
use Rattle.f8_link.proofs.Spelt.{Spelt, spelt_names, spelt_placed}
use Rattle.f8_link.proofs.SpeltRead.{spelt_read}
use Rattle.f8_link.proofs.SpeltWritten.{spelt_written}

spelt_image_in : {spell : ℕ → Part → List ℕ → List ℕ} {all : List (List ℕ × ℤ)} {values : List (List ℤ)} {texts : List (List ℕ)} {ps : List Part}
    {ms : List Placing} (size : ℕ) (table : List (Option ℕ)) → Spelt spell all 0 [] values texts ps ms → RoomsGo (no_marks size) ps → All IsLow ps
    → all_written size values ps ≡ Ok table
    → source_image_in size (parts_lines 1 ms) ≡ Ok (record { bytes = ascending 0 table; symbols = all })
unfolding source_image_in
spelt_image_in {all} {ms} size table spelt rooms low written =
    let read = spelt_read spelt 1 in
    let go = all_parts_go size 1 (spelt_placed spelt (no_marks size) rooms low) in
    let names : go.u.names ≡ all = go.names ∙ spelt_names spelt in
    let pair : PartsPair all ms go.u.placed = rw (go.source_are) (subst (λ ns. PartsPair ns ms go.qs) names go.pair) in
    let emits = spelt_written (no_bytes size) table spelt pair low written in
    rw (read.1, go.is, names, emits) refl

pub spelt_image : {spell : ℕ → Part → List ℕ → List ℕ} {all : List (List ℕ × ℤ)} {values : List (List ℤ)} {texts : List (List ℕ)} {ps : List Part}
    {ms : List Placing} (table : List (Option ℕ)) → Spelt spell all 0 [] values texts ps ms → RoomsGo (no_marks 65536) ps → All IsLow ps
    → all_written 65536 values ps ≡ Ok table → source_image (parts_lines 1 ms) ≡ Ok (record { bytes = ascending 0 table; symbols = all })
unfolding source_image
spelt_image table spelt rooms low written = spelt_image_in 65536 table spelt rooms low written
