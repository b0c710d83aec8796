-- The scratchpad of a result within that of an entry, register by register.
use Rattle.std.proofs.Common.{◌≡◌, ◌+◌, ◌<◌, ℕ, zero, suc, Bool, true, false, List, [], ◌∷◌, length, map, get_or, refl, ap, sym, ◌∙◌, arith}
use Rattle.std.specs.Prelude.{Option, None, if◌then◌else◌}
use Rattle.std.specs.List.{range_with_len}
use Rattle.std.proofs.lemmas.List.{get_or-map}
use Rattle.abs_domain.specs.KnownParts.{known_byte}
use Rattle.abs_domain.specs.StateView.{registers_of}
use Rattle.abs_domain.specs.declared.state.Abs.{Abs}
use Rattle.abs_domain.specs.declared.values.Val.TheVariants.{Known}
use Rattle.abs_step.specs.RegisterWrites.{known_register}
use Rattle.value_sets.specs.SetViews.{byte_values}
use Rattle.value_sets.specs.ValueSets.{is_within, is_each_within}
use Rattle.value_sets.specs.declared.bytes.ByteSet.{ByteSet}
use Rattle.case_step.specs.Entries.{register_values}
use Rattle.case_step.specs.EntryViews.{entry_view}
use Rattle.case_step.specs.declared.entry.Entry.{Entry}

module _ (f : ℕ → Option (List ℕ)) where
  -- where each set lies within, the lists do
  pub each_within : (start n : ℕ) (ys : List (Option (List ℕ))) → length ys ≡ n →
      ((k number : ℕ) → k < n → number ≡ start + k → is_within (f number) (get_or ys k None) ≡ true) →
      is_each_within (map f (range_with_len start n)) ys ≡ true
  each_within start zero [] long each = refl
  each_within start zero (y ∷ ys) long each = absurd (omega arith)
  each_within start (suc n) [] long each = absurd (omega arith)
  each_within start (suc n) (y ∷ ys) long each =
      rw (each 0 start (omega arith) (omega arith))
      (each_within (start + 1) n ys (omega arith) (λ k number small same. each (suc k) number (omega arith) (omega arith)))

  -- where one doesn't, they don't
  pub each_within_not : (start n : ℕ) (ys : List (Option (List ℕ))) (k number : ℕ) → k < n → number ≡ start + k → length ys ≡ n →
      is_within (f number) (get_or ys k None) ≡ false → is_each_within (map f (range_with_len start n)) ys ≡ false
  each_within_not start zero ys k number small same long without = absurd (omega arith)
  each_within_not start (suc n) [] k number small same long without = absurd (omega arith)
  each_within_not start (suc n) (y ∷ ys) zero number small same long without =
      let here : number ≡ start = omega arith in
      let first : is_within (f start) y ≡ false = rw here at without in
      rw first refl
  each_within_not start (suc n) (y ∷ ys) (suc k) number small same long without =
      either (is_within (f start) y) (each_within_not (start + 1) n ys k number (omega arith) (omega arith) (omega arith) without)
    where
      either : (b : Bool) {rest : Bool} → rest ≡ false → (if b then rest else false) ≡ false
      either true gone = gone
      either false gone = refl

-- ---- registers by their numbers

pub known_at : (s : Abs) (number : ℕ) → number < 64 → known_register number (registers_of s) ≡ known_byte (get_or s.regs number (Known 0))
known_at s number small = get_or-map known_byte s.regs number (Known 0) None (omega (arith, s.all_registers))

pub values_at : (e : Entry) (number : ℕ) (values : ByteSet) → number < 64 → values ≡ get_or e.regs number values →
    register_values number (entry_view e) ≡ byte_values values
values_at e number values small is =
    get_or-map byte_values e.regs number values None (omega (arith, e.all_registers)) ∙ ap byte_values (sym is)
