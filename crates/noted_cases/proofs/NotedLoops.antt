-- What the loops over notes and over registers keep.
use Rattle.std.proofs.Common.{◌≡◌, ℕ, ◌+◌, ◌<◌, ◌≤◌, List, [], ◌∷◌, ◌++◌, length, map, take, get_or, set, ap, sym, ◌∙◌, length-set, arith}
use Rattle.std.specs.Prelude.{Option}
use Rattle.std.proofs.lemmas.List.{map-append, map_more, take_all, take_more_set}
use Rattle.std.proofs.lemmas.Simd.{map-map}
use Rattle.abs_domain.specs.AbstractState.{AbstractState}
use Rattle.abs_domain.specs.declared.points.Point.{Point}
use Rattle.abs_domain.specs.declared.state.Abs.{Abs}
use Rattle.abs_domain.specs.declared.values.Val.{Val}
use Rattle.abs_domain.specs.KnownParts.{known_byte}
use Rattle.abs_step.specs.StatesAtPoints.{state_in, states_of}
use Rattle.value_sets.specs.SetViews.{byte_values}
use Rattle.value_sets.specs.ValueSets.{set_of}
use Rattle.value_sets.specs.declared.bytes.ByteSet.{ByteSet}
use Rattle.case_step.specs.EntryViews.{entry_view}
use Rattle.case_step.specs.declared.entry.Entry.{Entry}
use Rattle.noted_cases.specs.NotedEntries.{noted_entry}

-- before the first note there is no entry, and all notes are left
pub none_made : (made : List Entry) (left held : List (Point × Abs)) (notes : List (Point × AbstractState)) → made ≡ [] → left ≡ held →
    states_of held ≡ notes → map entry_view made ++ map (λ note. noted_entry (state_in note)) left ≡ map noted_entry notes
none_made made left held notes none all are =
    rw (none, all) (sym (map-map noted_entry state_in held) ∙ ap (map noted_entry) are)

-- ---- the sets of registers

abbrev byte_set_of : Val → Option (List ℕ)
byte_set_of known = set_of (known_byte known)

pub one_set_more : (sets : List ByteSet) (known : List Val) (n : ℕ) (one : ByteSet) (d : Val) → length sets ≡ 64 → length known ≡ 64 →
    n < 64 → map byte_values (take n sets) ≡ map byte_set_of (take n known) → byte_values one ≡ byte_set_of (get_or known n d) →
    (length (set sets n one) ≡ 64) × (map byte_values (take (n + 1) (set sets n one)) ≡ map byte_set_of (take (n + 1) known))
one_set_more sets known n one d long whole within so_far is = (
  length-set sets n one ∙ long,
  ap (map byte_values) (take_more_set sets n one (omega arith)) ∙ map-append byte_values (take n sets) (one ∷ [])
      ∙ (λ i. so_far i ++ is i ∷ []) ∙ sym (map_more byte_set_of known n d (omega arith)),
)

pub all_sets : (sets : List ByteSet) (known : List Val) (n : ℕ) → length sets ≡ 64 → length known ≡ 64 → 64 ≤ n →
    map byte_values (take n sets) ≡ map byte_set_of (take n known) → map byte_values sets ≡ map set_of (map known_byte known)
all_sets sets known n long whole most so_far =
    let first : take n sets ≡ sets = take_all n sets (omega arith) in
    let second : take n known ≡ known = take_all n known (omega arith) in
    ap (map byte_values) (sym first) ∙ so_far ∙ ap (map byte_set_of) second ∙ sym (map-map set_of known_byte known)
