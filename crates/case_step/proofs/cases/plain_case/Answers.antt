-- each part is known where it has one value
use Rattle.std.proofs.Common.{◌≡◌, ◌/◌, ◌%◌, refl, rules}
use Rattle.std.specs.Prelude.{option_map, if◌then◌else◌}
use Rattle.std.proofs.lemmas.Simd.{map-map}
use Rattle.abs_domain.specs.KnownParts.{known_digit, known_word}
use Rattle.value_sets.specs.SetViews.{byte_values, word_values}
use Rattle.value_sets.specs.ValueSets.{only, single}
use Rattle.case_step.proofs.cases.plain_case.Goals as goal
use Rattle.case_step.proofs.cases.plain_case.Goals.{then-entry, else-entry}

pub returns : goal.returns
returns c =
    let e = c.args.entry.now in
    let high : known_digit c.from-2.result ≡ option_map (λ number. number / 8) (only e.isar.items) = search rules in
    let low : known_digit c.from-3.result ≡ option_map (λ number. number % 8) (only e.isar.items) = search rules in
    let goes : known_word c.from-6.result ≡ (if e.p0 then single (word_values e.d0) else single (word_values e.c)) =
    elim c.if-entry.branch [ then-entry w ↦ search rules | else-entry w ↦ search rules ] in
    rw (
      c.from.ensures,
      c.single.ensures,
      c.known_registers.ensures,
      high,
      low,
      c.from-4.ensures,
      c.single-2.ensures,
      c.from-5.ensures,
      c.single-3.ensures,
      goes,
      map-map single byte_values e.regs,
    ) refl
