-- Tables of words: a word longer than all of a table isn't in it, and what a table has at a word is of one kind if all in it is.
use Rattle.std.proofs.Common.{◌≡◌, ℕ, ◌<◌, ◌≤◌, Bool, true, false, List, [], ◌∷◌, length, get_or, map, Option, None, Some, refl, sym, ap}
use Rattle.std.proofs.Common.{◌∙◌, arith, rules}
use Rattle.std.specs.Borrow.{Bor}
use Rattle.std.specs.Prelude.{IfSome, cond, ◌==◌, filter}
use Rattle.std.specs.Char.{to_ascii_lowercase}
use Rattle.std.specs.List.{AllByRecursion}
use Rattle.std.specs.Option.{option_or}
use Rattle.std.proofs.lemmas.Bool.{false_from_ne_true, false≢true, cond-false}
use Rattle.std.proofs.lemmas.Bool.Decides.{Decides-eqb, nat_tests}
use Rattle.std.proofs.lemmas.List.{length-map, get_or-map}
use Rattle.std.proofs.lemmas.Slice.Eq.{bytes_eq-Decides}
use Rattle.f8_spec.specs.Instructions.{InRange, mnemonic_of}
use Rattle.f8_spec.specs.declared.instructions.Op.{Op}
use Rattle.f8_spec.proofs.ValuesBelow.{values_below, same_below}
use Rattle.f8_asm.specs.declared.words.Shape.{Shape}
use Rattle.f8_asm.specs.declared.words.TheConstants.{PLAIN_OPS, FIELD_WORDS}
use Rattle.f8_asm.specs.Registers.{same_word, at_word, register_words, register_of}
use Rattle.f8_asm.specs.Words.{plain_ops, aliases, field_words, directives, own_word, field_word, initial_from, initial_of, op_of, shape_of}
use Rattle.f8_asm.specs.Words.{HasRoom}

-- words of different lengths differ
unlike : (a b : List ℕ) → length b < length a → same_word a b ≡ false
unfolding same_word
unlike a b longer = false_from_ne_true _ (λ same.
    let lengths = ap length ((bytes_eq-Decides (map to_ascii_lowercase a) (map to_ascii_lowercase b)).0 same) in
    omega (arith, length-map a to_ascii_lowercase, length-map b to_ascii_lowercase, lengths, longer))

module _ {X : Type 0} where
  pub too_long : (limit : ℕ) (name : List ℕ) (ws : List (List ℕ × X)) → AllByRecursion (λ w. length w.0 ≤ limit) ws → limit < length name →
      at_word name ws ≡ None
  too_long limit name [] all long = refl
  too_long limit name (w ∷ ws) all long = rw (unlike name w.0 (omega (arith, all.0, long))) (too_long limit name ws all.1 long)

  pub all_at_word : (P : X → Type 0) (name : List ℕ) (ws : List (List ℕ × X)) → AllByRecursion (λ w. P w.1) ws → IfSome (at_word name ws) P
  all_at_word P name [] all = tt
  all_at_word P name (w ∷ ws) all = chosen (same_word name w.0) (at_word name ws) all.0 (all_at_word P name ws all.1)
    where
      chosen : (b : Bool) (rest : Option X) → P w.1 → IfSome rest P → IfSome (cond b (Some w.1) rest) P
      chosen true rest here there = here
      chosen false rest here there = there

  either : (P : X → Type 0) (a b : Option X) → IfSome a P → IfSome b P → IfSome (option_or a b) P
  either P (Some x) b here there = here
  either P None b here there = there

-- words that are the same have one row
one_row : (a b : List ℕ) → same_word a b ≡ true → initial_of b == initial_of a ≡ true
unfolding same_word initial_of
one_row a b same =
    let e = (bytes_eq-Decides (map to_ascii_lowercase a) (map to_ascii_lowercase b)).0 same in
    (Decides-eqb (initial_from (map to_ascii_lowercase b)) (initial_from (map to_ascii_lowercase a))).1 (sym (ap initial_from e))

-- what a table has at a word, its row has
module _ {X : Type 0} where
  pub in_row : (name : List ℕ) (ws : List (List ℕ × X)) → at_word name (filter (λ w. initial_of w.0 == initial_of name) ws) ≡ at_word name ws
  in_row name [] = refl
  in_row name (w ∷ ws) =
      by_row (initial_of w.0 == initial_of name) (filter (λ w. initial_of w.0 == initial_of name) ws) (in_row name ws) (one_row name w.0)
    where
      by_row : (row : Bool) (xs : List (List ℕ × X)) → at_word name xs ≡ at_word name ws → (same_word name w.0 ≡ true → row ≡ true) →
          at_word name (cond row (w ∷ xs) xs) ≡ at_word name (w ∷ ws)
      by_row true xs rest one = ap (cond (same_word name w.0) (Some w.1)) rest
      by_row false xs rest one =
          rest ∙ sym (cond-false _ (Some w.1) (at_word name ws) (false_from_ne_true (same_word name w.0) (λ same. false≢true (one same))))

-- ---- the tables of this crate

plain_rows : values_below (λ k. map own_word (get_or (map (λ row. row.now) PLAIN_OPS) k [])) 27
    ≡ values_below (λ k. filter (λ w. initial_of w.0 == k) (map own_word plain_ops)) 27
unfolding values_below plain_ops mnemonic_of initial_of
plain_rows = refl

initial_below : (name : List ℕ) → initial_of name < 27
unfolding initial_of
initial_below name = from (map to_ascii_lowercase name)
  where
    from : (letters : List ℕ) → initial_from letters < 27
    from [] = omega arith
    from (c ∷ cs) = grind (arith, nat_tests)

pub plain_row : (name : List ℕ) →
    at_word name (map own_word (get_or (map (λ row. row.now) PLAIN_OPS) (initial_of name) [])) ≡ at_word name (map own_word plain_ops)
plain_row name =
    let coded : ℕ → List (List ℕ × Op) = λ k. map own_word (get_or (map (λ row. row.now) PLAIN_OPS) k []) in
    let listed : ℕ → List (List ℕ × Op) = λ k. filter (λ w. initial_of w.0 == k) (map own_word plain_ops) in
    ap (at_word name) (same_below coded listed 27 (initial_of name) plain_rows (initial_below name)) ∙ in_row name (map own_word plain_ops)

pub plain_at : (name : List ℕ) (rows : List (Bor (List Op))) (i : ℕ) (other : Bor (List Op)) → i ≡ initial_of name → i < length rows →
    at_word name (map own_word (get_or rows i other).now) ≡ at_word name (map own_word (get_or (map (λ row. row.now) rows) (initial_of name) []))
plain_at name rows i other is within =
    ap (λ row. at_word name (map own_word row)) (sym (get_or-map (λ row. row.now) rows i other [] within))
    ∙ ap (λ k. at_word name (map own_word (get_or (map (λ row. row.now) rows) k []))) is

field_rows : values_below (λ k. map field_word (get_or (map (λ row. row.now) FIELD_WORDS) k [])) 27
    ≡ values_below (λ k. filter (λ w. initial_of w.0 == k) (map field_word field_words)) 27
unfolding values_below field_words mnemonic_of initial_of
field_rows = refl

pub field_row : (name : List ℕ) →
    at_word name (map field_word (get_or (map (λ row. row.now) FIELD_WORDS) (initial_of name) [])) ≡ at_word name (map field_word field_words)
field_row name =
    let coded : ℕ → List (List ℕ × Shape) = λ k. map field_word (get_or (map (λ row. row.now) FIELD_WORDS) k []) in
    let listed : ℕ → List (List ℕ × Shape) = λ k. filter (λ w. initial_of w.0 == k) (map field_word field_words) in
    ap (at_word name) (same_below coded listed 27 (initial_of name) field_rows (initial_below name)) ∙ in_row name (map field_word field_words)

pub field_at : (name : List ℕ) (rows : List (Bor (List (Op × Shape)))) (i : ℕ) (other : Bor (List (Op × Shape))) → i ≡ initial_of name → i < length rows →
    at_word name (map field_word (get_or rows i other).now) ≡ at_word name (map field_word (get_or (map (λ row. row.now) rows) (initial_of name) []))
field_at name rows i other is within =
    ap (λ row. at_word name (map field_word row)) (sym (get_or-map (λ row. row.now) rows i other [] within))
    ∙ ap (λ k. at_word name (map field_word (get_or (map (λ row. row.now) rows) k []))) is

registers_short : AllByRecursion (λ w. length w.0 ≤ 2) register_words
unfolding register_words
registers_short = search (rules, arith)

pub no_long_register : (name : List ℕ) → 2 < length name → register_of name ≡ None
unfolding register_of
no_long_register name long = too_long 2 name register_words registers_short long

plain_short : AllByRecursion (λ w. length w.0 ≤ 4) (map own_word plain_ops)
unfolding plain_ops mnemonic_of
plain_short = search (rules, arith)

aliases_short : AllByRecursion (λ w. length w.0 ≤ 4) aliases
unfolding aliases
aliases_short = search (rules, arith)

fields_short : AllByRecursion (λ w. length w.0 ≤ 4) (map field_word field_words)
unfolding field_words mnemonic_of
fields_short = search (rules, arith)

directives_short : AllByRecursion (λ w. length w.0 ≤ 4) directives
unfolding directives
directives_short = search (rules, arith)

pub no_long_word : (name : List ℕ) → 4 < length name → shape_of name ≡ None
unfolding shape_of op_of
no_long_word name long = rw (
  too_long 4 name (map own_word plain_ops) plain_short long,
  too_long 4 name aliases aliases_short long,
  too_long 4 name (map field_word field_words) fields_short long,
  too_long 4 name directives directives_short long,
) refl

plain_in_range : AllByRecursion (λ w. InRange w.1) (map own_word plain_ops)
unfolding plain_ops
plain_in_range = search (rules, arith)

aliases_in_range : AllByRecursion (λ w. InRange w.1) aliases
unfolding aliases
aliases_in_range = search (rules, arith)

-- an instruction at its mnemonic, and else at another word
pub own_instruction : (name : List ℕ) (op : Op) → at_word name (map own_word plain_ops) ≡ Some op → Some op ≡ op_of name
unfolding op_of
own_instruction name op is = rw is refl

pub alias_instruction : (name : List ℕ) → at_word name (map own_word plain_ops) ≡ None → at_word name aliases ≡ op_of name
unfolding op_of
alias_instruction name none = rw none refl

pub op_in_range : (name : List ℕ) → IfSome (op_of name) InRange
unfolding op_of
op_in_range name = either InRange (at_word name (map own_word plain_ops)) (at_word name aliases)
    (all_at_word InRange name (map own_word plain_ops) plain_in_range) (all_at_word InRange name aliases aliases_in_range)

fields_have_room : AllByRecursion (λ w. HasRoom w.1) (map field_word field_words)
unfolding field_words
fields_have_room = search (rules, arith)

directives_have_room : AllByRecursion (λ w. HasRoom w.1) directives
unfolding directives
directives_have_room = search (rules, arith)

pub others_have_room : (name : List ℕ) →
    IfSome (option_or (at_word name (map field_word field_words)) (at_word name directives)) HasRoom
others_have_room name = either HasRoom (at_word name (map field_word field_words)) (at_word name directives)
    (all_at_word HasRoom name (map field_word field_words) fields_have_room)
    (all_at_word HasRoom name directives directives_have_room)
