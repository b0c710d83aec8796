-- Different registers, read from a list.
use Rattle.std.proofs.Common.{◌≡◌, ℕ, ◌<◌, ◌+◌, true, false, List, [], ◌∷◌, ◌++◌, length, drop, get_or}
use Rattle.std.proofs.Common.{append_assoc, Option, Some, None, Ok, Err, refl, sym, ap, ◌∙◌, arith}
use Rattle.std.proofs.lemmas.List.{length_push}
use Rattle.std.specs.Prelude.{option_map}
use Rattle.std.specs.Result.{result_ok}
use Rattle.toml.specs.View.{view, items_view}
use Rattle.toml.specs.declared.value.Value.{Value}
use Rattle.cart_data.specs.Splits.{is_among, are_different}
use Rattle.cart_data.proofs.Registers.{different_push, not_different}
use Rattle.cartridge.specs.declared.refusal.CartCause.{CartCause}
use Rattle.cartridge.specs.declared.refusal.CartCause.TheVariants.{Range}
use Rattle.cartridge.specs.Values.{register, registers, number_in, each}
use Rattle.cartridge.proofs.ListsRead.{HasRead, read_none, read_more, read_bad, read_all}

pub record HasRegisters (vs : List Value) (i : ℕ) (rs : List ℕ) : Type 0 where
  pub count : length rs ≡ i
  pub different : are_different rs ≡ true
  pub read : HasRead register vs i rs

pub registers_none : (vs : List Value) → HasRegisters vs 0 []
registers_none vs = record { count = refl; different = refl; read = read_none register vs }

pub registers_more : (vs : List Value) (i : ℕ) (v : Value) (r : ℕ) (rs : List ℕ) → i < length vs → get_or vs i v ≡ v
    → number_in 0 63 (view v) ≡ Ok r → is_among rs r ≡ false → HasRegisters vs i rs → HasRegisters vs (i + 1) (rs ++ r ∷ [])
registers_more vs i v r rs within at is other held =
    let pushed = length_push rs r in
    let before = held.count in record {
      count = omega arith;
      different = different_push rs r held.different other;
      read = read_more register vs i v r rs within at (ap result_ok is) held.read;
    }

pub registers_bad : (vs : List Value) (i : ℕ) (v : Value) (cause : CartCause) (rs : List ℕ) → i < length vs → get_or vs i v ≡ v
    → number_in 0 63 (view v) ≡ Err cause → HasRegisters vs i rs → Err Range ≡ registers (each register (items_view vs))
registers_bad vs i v cause rs within at is held = sym (ap registers (read_bad register vs i v rs within at (ap result_ok is) held.read))

with-equal : (rs : List ℕ) (r : ℕ) (rest : Option (List ℕ)) → is_among rs r ≡ true
    → Err Range ≡ registers (option_map (λ more. (rs ++ r ∷ []) ++ more) rest)
with-equal rs r None a = refl
with-equal rs r (Some more) a = rw (append_assoc rs (r ∷ []) more, not_different rs r more a) refl

pub registers_twice : (vs : List Value) (i : ℕ) (v : Value) (r : ℕ) (rs : List ℕ) → i < length vs → get_or vs i v ≡ v
    → number_in 0 63 (view v) ≡ Ok r → is_among rs r ≡ true → HasRegisters vs i rs → Err Range ≡ registers (each register (items_view vs))
registers_twice vs i v r rs within at is a held =
    with-equal rs r (each register (items_view (drop (i + 1) vs))) a
    ∙ sym (ap registers (read_more register vs i v r rs within at (ap result_ok is) held.read))

pub registers_all : (vs : List Value) (i : ℕ) (rs : List ℕ) → i ≡ length vs → HasRegisters vs i rs → Ok rs ≡ registers (each register (items_view vs))
registers_all vs i rs at held = rw (read_all register vs i rs at held.read, held.different) refl
