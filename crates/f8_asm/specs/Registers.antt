-- Register words, and the instruction LR between two of them.
use Rattle.std.specs.Prelude.{ℕ, Bool, true, false, List, [], ◌∷◌, codes, Option, Some, None, if◌then◌else◌, bytes_eq, map, option_map}
use Rattle.std.specs.Char.{to_ascii_lowercase}
use Rattle.f8_spec.specs.declared.instructions.Op.{Op}
use Rattle.f8_spec.specs.declared.instructions.Op.TheVariants as op
use Rattle.f8_asm.specs.declared.registers.Register.{Register}
use Rattle.f8_asm.specs.declared.registers.Register.TheVariants.{A, J, Hu, Hl, Ku, Kl, Qu, Ql, K, Q, H, S, I, D, Is, P, P0, Dc, W}

-- two words are the same in either case
unfoldable pub same_word : List ℕ → List ℕ → Bool
same_word a b = bytes_eq (map to_ascii_lowercase a) (map to_ascii_lowercase b)

-- what a table has at a word
abbrev pub at_word : {X : Type 0} → List ℕ → List (List ℕ × X) → Option X
at_word name [] = None
at_word name (entry ∷ more) = if same_word name entry.0 then Some entry.1 else at_word name more

-- the register words
unfoldable pub register_words : List (List ℕ × Register)
register_words =
    (codes "A", A) ∷ (codes "J", J) ∷ (codes "K", K) ∷ (codes "Q", Q) ∷ (codes "H", H)
    ∷ (codes "S", S) ∷ (codes "I", I) ∷ (codes "D", D) ∷ (codes "P", P) ∷ (codes "W", W)
    ∷ (codes "HU", Hu) ∷ (codes "HL", Hl) ∷ (codes "KU", Ku) ∷ (codes "KL", Kl) ∷ (codes "QU", Qu)
    ∷ (codes "QL", Ql) ∷ (codes "IS", Is) ∷ (codes "P0", P0) ∷ (codes "DC", Dc) ∷ []

-- the register that a word names
unfoldable pub register_of : List ℕ → Option Register
register_of name = at_word name register_words

-- the scratchpad register that a word stands for as an operand r
abbrev pub register_number : Register → Option ℕ
register_number J = Some 9
register_number Hu = Some 10
register_number Hl = Some 11
register_number S = Some 12
register_number I = Some 13
register_number D = Some 14
register_number register = None

abbrev pub is_accumulator : Register → Bool
is_accumulator A = true
is_accumulator register = false

-- LR A,from
abbrev pub load_op : Register → Option Op
load_op Ku = Some op.LrAKu
load_op Kl = Some op.LrAKl
load_op Qu = Some op.LrAQu
load_op Ql = Some op.LrAQl
load_op Is = Some op.LrAIs
load_op from = option_map (λ r. op.LrAR r) (register_number from)

-- LR to,A
abbrev pub store_op : Register → Option Op
store_op Ku = Some op.LrKuA
store_op Kl = Some op.LrKlA
store_op Qu = Some op.LrQuA
store_op Ql = Some op.LrQlA
store_op Is = Some op.LrIsA
store_op to = option_map (λ r. op.LrRA r) (register_number to)

-- LR to,from past the accumulator
abbrev pub move_op : Register → Register → Option Op
move_op K P = Some op.LrKP
move_op P K = Some op.LrPK
move_op P0 Q = Some op.LrP0Q
move_op Q Dc = Some op.LrQDc
move_op Dc Q = Some op.LrDcQ
move_op Dc H = Some op.LrDcH
move_op H Dc = Some op.LrHDc
move_op W J = Some op.LrWJ
move_op J W = Some op.LrJW
move_op to from = None

-- LR to,from, if there is such an instruction
unfoldable pub pair_op : Register → Register → Option Op
pair_op to from =
    if is_accumulator to then load_op from else
    if is_accumulator from then store_op to else
    move_op to from
