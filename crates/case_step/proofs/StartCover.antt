-- An entry covers the start: its registers, its data counters and its scratchpad do.
use Rattle.std.proofs.Common.{◌≡◌, ℕ, zero, suc, Bool, true, false, ◌&&◌, List, [], ◌∷◌, length, map, replicate, refl, arith}
use Rattle.std.specs.Prelude.{Option, None, Some, is_some, if◌then◌else◌, ◌==◌}
use Rattle.std.specs.List.{list_all}
use Rattle.std.specs.Option.{option_eq}
use Rattle.abs_domain.specs.Joins.{is_status_below}
use Rattle.abs_domain.specs.Lattice.{is_fact_below}
use Rattle.value_sets.specs.SetViews.{byte_values}
use Rattle.value_sets.specs.ValueSets.{are_among, is_each_within, is_within}
use Rattle.value_sets.specs.declared.bytes.ByteSet.{ByteSet}
use Rattle.case_step.specs.Entries.{EntryView, start_entry}
use Rattle.case_step.specs.Results.{is_covered_by, is_same_below}

-- ---- four parts

abbrev pub is_point_met : EntryView → Bool
is_point_met u = start_entry.at == u.at && option_eq (λ x y. x == y) start_entry.ret u.ret

abbrev pub are_registers_met : EntryView → Bool
are_registers_met u =
    is_within start_entry.accumulator u.accumulator && are_among u.isar start_entry.isar && is_status_below start_entry.status u.status

abbrev pub are_counters_met : EntryView → Bool
are_counters_met u =
    is_within start_entry.d0 u.d0 && is_within start_entry.d1 u.d1 && is_within start_entry.c u.c
    && is_fact_below start_entry.s0 u.s0 && is_fact_below start_entry.s1 u.s1
    && is_fact_below start_entry.p0 u.p0 && is_fact_below start_entry.p1 u.p1

abbrev pub is_scratchpad_met : EntryView → Bool
is_scratchpad_met u = is_same_below start_entry u.same && is_each_within start_entry.scratchpad u.scratchpad

and_assoc : (a b c : Bool) → ((a && b) && c) ≡ (a && (b && c))
and_assoc true b c = refl
and_assoc false b c = refl

regrouped : (a b c d e f g h i j k l m n : Bool) →
    (a && b && c && d && e && f && g && h && i && j && k && l && m && n)
    ≡ ((a && b) && (c && d && e) && (f && g && h && i && j && k && l) && (m && n))
regrouped a b c d e f g h i j k l m n = simp and_assoc

pub start_covered : (u : EntryView) →
    is_covered_by start_entry u ≡ (is_point_met u && are_registers_met u && are_counters_met u && is_scratchpad_met u)
unfolding is_covered_by
start_covered u =
    regrouped (start_entry.at == u.at) (option_eq (λ x y. x == y) start_entry.ret u.ret) (is_within start_entry.accumulator u.accumulator)
    (are_among u.isar start_entry.isar) (is_status_below start_entry.status u.status) (is_within start_entry.d0 u.d0)
    (is_within start_entry.d1 u.d1) (is_within start_entry.c u.c) (is_fact_below start_entry.s0 u.s0) (is_fact_below start_entry.s1 u.s1)
    (is_fact_below start_entry.p0 u.p0) (is_fact_below start_entry.p1 u.p1) (is_same_below start_entry u.same)
    (is_each_within start_entry.scratchpad u.scratchpad)

-- ---- registers that may hold any byte

each_free : (n : ℕ) (sets : List ByteSet) → length sets ≡ n →
    list_all (λ set. is_within None (byte_values set)) sets ≡ is_each_within (replicate n None) (map byte_values sets)
each_free zero [] long = refl
each_free zero (x ∷ sets) long = absurd (omega arith)
each_free (suc n) [] long = absurd (omega arith)
each_free (suc n) (x ∷ sets) long = by (is_within None (byte_values x)) _ _ (each_free n sets (omega arith))
  where
    by : (b rest others : Bool) → rest ≡ others → (b && rest) ≡ (if b then others else false)
    by true rest others same = same
    by false rest others same = refl

pub scratchpad_met : (u : EntryView) (sets : List ByteSet) → length sets ≡ 64 → u.scratchpad ≡ map byte_values sets → is_some u.same ≡ false →
    list_all (λ set. is_within None (byte_values set)) sets ≡ is_scratchpad_met u
scratchpad_met u sets long is none = by u.same none
  where
    by : (same : Option ℕ) → is_some same ≡ false →
        list_all (λ set. is_within None (byte_values set)) sets
        ≡ (is_same_below start_entry same && is_each_within start_entry.scratchpad u.scratchpad)
    by None none = rw is (each_free 64 sets long)
    by (Some number) none = absurd (cc)
