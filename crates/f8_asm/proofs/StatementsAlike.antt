-- A statement that is read with two kinds of values: both readings give the same but for the values. So how many bytes it fills doesn't hang
-- on the values of names.
use Rattle.std.proofs.Common.{◌≡◌, ℕ, zero, suc, ◌*◌, List, [], ◌∷◌, ◌++◌, length, drop, Bool, Option, Some, None, map}
use Rattle.std.proofs.Common.{Result, Ok, refl, sym, ap, ◌∙◌, arith, length-append}
use Rattle.std.specs.Prelude.{not, ◌&&◌}
use Rattle.asm_text.specs.declared.answers.Token.{Token}
use Rattle.asm_text.specs.declared.answers.TokenKind.{TokenKind}
use Rattle.asm_text.specs.declared.answers.TokenKind.TheVariants as kind
use Rattle.f8_asm.specs.declared.faults.LineFault.{LineFault}
use Rattle.f8_asm.specs.declared.fields.Field.{Field}
use Rattle.f8_asm.specs.declared.fields.Field.TheVariants as field
use Rattle.f8_asm.specs.declared.operands.Effect.{Effect}
use Rattle.f8_asm.specs.declared.operands.Effect.TheVariants.{Names, Moves, Fills}
use Rattle.f8_asm.specs.declared.operands.Operand.{Operand}
use Rattle.f8_asm.specs.declared.operands.Statement.{Statement}
use Rattle.f8_asm.specs.declared.operands.Statement.TheVariants.{Nothing, Fixed, One, Test, Items}
use Rattle.f8_asm.specs.declared.registers.Register.{Register}
use Rattle.f8_asm.specs.declared.values.Outcome.{Outcome}
use Rattle.f8_asm.specs.declared.words.ItemSize.{ItemSize}
use Rattle.f8_asm.specs.declared.words.ItemSize.TheVariants as item
use Rattle.f8_asm.specs.declared.words.Shape.{Shape}
use Rattle.f8_asm.specs.declared.words.Shape.TheVariants as shape
use Rattle.f8_asm.specs.declared.words.Single.{Single}
use Rattle.f8_asm.specs.declared.words.Single.TheVariants as single
use Rattle.f8_asm.specs.Answers.{◌>>=◌}
use Rattle.f8_asm.specs.Bytes.{single_bytes, item_bytes, list_bytes, bytes_of, word_bytes}
use Rattle.f8_asm.specs.Fields.{op_with}
use Rattle.f8_asm.specs.Grammar.{Actions}
use Rattle.f8_asm.specs.Judging.{unsigned_value, byte, displacement, with_field}
use Rattle.f8_asm.specs.Registers.{is_accumulator, pair_op}
use Rattle.f8_asm.specs.Statements.{operand_at, comma, done, instruction_of, one, two, register_operand, register_number_at}
use Rattle.f8_asm.specs.Statements.{register_at, accumulator, load_from, load, item_before, items, item_list, operands}
use Rattle.f8_asm.specs.Statements.{wants_label, statement_of, statement_in, statement, single_effect, item_size}
use Rattle.f8_asm.specs.Statements.{effect_of, operand_valued, statement_valued}
use Rattle.f8_asm.specs.Words.{shape_of}
use Rattle.f8_spec.specs.Instructions.{encoded}
use Rattle.f8_spec.specs.declared.instructions.Op.{Op}
use Rattle.f8_asm.proofs.Alike.{Alike, alike_ok, alike_err, alike_self, alike_then, alike_if, alike_both, read-ok, AllAlike, none_alike}
use Rattle.f8_asm.proofs.Alike.{more_alike}
use Rattle.f8_asm.proofs.Alike.{alike_length}
use Rattle.f8_asm.proofs.ExpressionsAlike.{Actalike, expression_alike}

-- how many bytes an effect fills
abbrev pub layout_filled : Effect → ℕ
layout_filled (Names o) = 0
layout_filled (Moves o) = 0
layout_filled (Fills n) = n

-- operands at one column whose values go together
abbrev pub OperandAlike : {A B : Type 0} → (A → B → Type 0) → Operand A → Operand B → Type 0
OperandAlike R o p = (o.column ≡ p.column) × R o.value p.value

-- statements that are the same but for the values of operands, which go together
pub data StatementAlike {A B : Type 0} (R : A → B → Type 0) : Statement A → Statement B → Type 0 where
  nothing_alike : StatementAlike R Nothing Nothing
  fixed_alike : (code : ℕ) → StatementAlike R (Fixed code) (Fixed code)
  one_alike : (what : Single) {o : Operand A} {p : Operand B} → OperandAlike R o p → StatementAlike R (One what o) (One what p)
  test_alike : (f : Field) {o q : Operand A} {p r : Operand B} → OperandAlike R o p → OperandAlike R q r → StatementAlike R (Test f o q) (Test f p r)
  items_alike : (size : ItemSize) {os : List (Operand A)} {ps : List (Operand B)} → AllAlike (OperandAlike R) os ps
      → StatementAlike R (Items size os) (Items size ps)

abbrev Same : {A : Type 0} → A → A → Type 0
Same x y = x ≡ y

done_alike : {A B : Type 0} {R : A → B → Type 0} {st : Statement A} {other : Statement B} (ts : List Token) → StatementAlike R st other
    → Alike (StatementAlike R) (done st ts) (done other ts)
done_alike [] same = alike_ok same
done_alike (t ∷ ts) same = alike_err

fixed_done : {A B : Type 0} {R : A → B → Type 0} (op : Option Op) (ts : List Token)
    → Alike (StatementAlike R) (instruction_of {A = A} op ts) (instruction_of {A = B} op ts)
fixed_done (Some op) ts = done_alike (drop 1 ts) (fixed_alike (encoded op))
fixed_done None ts = alike_err

module _ {A B : Type 0} {R : A → B → Type 0} {a : Actions A} {b : Actions B} (all : Actalike R a b) where
  -- operands, and the same tokens are left
  abbrev OperandRead : (Operand A × List Token) → (Operand B × List Token) → Type 0
  OperandRead x y = OperandAlike R x.0 y.0 × (x.1 ≡ y.1)

  operand_at_alike : (ts : List Token) → Alike OperandRead (operand_at a ts) (operand_at b ts)
  operand_at_alike [] = alike_err
  operand_at_alike (t ∷ ts) = alike_then (expression_alike all (t ∷ ts)) (λ r s same. alike_ok ((refl, same.0), same.1))

  one_read : (what : Single) (ts : List Token) → Alike (StatementAlike R) (one a what ts) (one b what ts)
  one_read what ts = alike_then (operand_at_alike ts) (λ r s same. rw same.1 (done_alike s.1 (one_alike what same.0)))

  two_read : (f : Field) (ts : List Token) → Alike (StatementAlike R) (two a f ts) (two b f ts)
  two_read f ts =
      alike_then (operand_at_alike ts) (λ r s same.
      rw same.1 (alike_then (alike_self {R = Same} (comma s.1) (λ us. refl)) (λ us vs equal.
      rw equal (alike_then (operand_at_alike vs) (λ q p rest. rw rest.1 (done_alike p.1 (test_alike f same.0 rest.0)))))))

  register_read : (f : Field) (ts : List Token) (number : Option ℕ)
      → Alike (StatementAlike R) (register_operand a f ts number) (register_operand b f ts number)
  register_read f ts (Some r) = fixed_done (op_with f r) ts
  register_read f ts None = one_read (single.Small f) ts

  load_from_read : (to : Register) (ts : List Token) (from : Option Register) → Alike (StatementAlike R) (load_from a to ts from) (load_from b to ts from)
  load_from_read to ts (Some from) = fixed_done (pair_op to from) ts
  load_from_read to ts None = alike_if (is_accumulator to) (one_read (single.Small field.LrAR) ts) alike_err

  load_read : (ts : List Token) (register : Option Register) → Alike (StatementAlike R) (load a ts register) (load b ts register)
  load_read ts (Some to) =
      alike_then (alike_self {R = Same} (comma (drop 1 ts)) (λ us. refl)) (λ us vs equal. rw equal (load_from_read to vs (register_at vs)))
  load_read ts None =
      alike_then (operand_at_alike ts) (λ r s same.
      rw same.1 (alike_then (alike_self {R = Same} (comma s.1) (λ us. refl)) (λ us vs equal.
      rw equal (alike_then (alike_self {R = Same} (accumulator vs) (λ us. refl)) (λ ws xs equals.
      rw equals (done_alike xs (one_alike (single.Small field.LrRA) same.0)))))))

  before_read : (f : List Token → Result (List (Operand A)) LineFault) (g : List Token → Result (List (Operand B)) LineFault)
      (o : Operand A) (p : Operand B) (ts : List Token) → OperandAlike R o p → ((us : List Token) → Alike (AllAlike (OperandAlike R)) (f us) (g us))
      → Alike (AllAlike (OperandAlike R)) (item_before f o ts) (item_before g p ts)
  before_read f g o p [] same each = alike_ok (more_alike same none_alike)
  before_read f g o p (t ∷ ts) same each =
      alike_then (alike_self {R = Same} (comma (t ∷ ts)) (λ us. refl)) (λ us vs equal.
      rw equal (alike_then (each vs) (λ os ps rest. alike_ok (more_alike same rest))))

  items_read : (n : ℕ) (ts : List Token) → Alike (AllAlike (OperandAlike R)) (items a n ts) (items b n ts)
  unfolding items
  items_read zero ts = alike_err
  items_read (suc n) ts =
      alike_then (operand_at_alike ts)
      (λ r s same. rw same.1 (before_read (items a n) (items b n) r.0 s.0 s.1 same.0 (λ us. items_read n us)))

  item_list_read : (size : ItemSize) (ts : List Token) → Alike (StatementAlike R) (item_list a size ts) (item_list b size ts)
  item_list_read size ts = alike_then (items_read (length ts) ts) (λ os ps same. alike_ok (items_alike size same))

  operands_read : (s : Shape) (ts : List Token) → Alike (StatementAlike R) (operands a s ts) (operands b s ts)
  unfolding operands
  operands_read (shape.Plain code) ts = done_alike ts (fixed_alike code)
  operands_read (shape.One what) ts = one_read what ts
  operands_read (shape.Register f) ts = register_read f ts (register_number_at ts)
  operands_read (shape.Test f) ts = two_read f ts
  operands_read shape.Load ts = load_read ts (register_at ts)
  operands_read (shape.Items size) ts = item_list_read size ts

  statement_of_read : (labelled : Bool) (column : ℕ) (name : List ℕ) (ts : List Token) (s : Option Shape)
      → Alike (StatementAlike R) (statement_of a labelled column name ts s) (statement_of b labelled column name ts s)
  statement_of_read labelled column name ts (Some s) = alike_if (wants_label s && not labelled) alike_err (operands_read s ts)
  statement_of_read labelled column name ts None = alike_err

  statement_in_read : (labelled : Bool) (k : TokenKind) (column : ℕ) (ts : List Token)
      → Alike (StatementAlike R) (statement_in a labelled k column ts) (statement_in b labelled k column ts)
  statement_in_read labelled (kind.Name name) column ts = statement_of_read labelled column name ts (shape_of name)
  statement_in_read labelled (kind.Number number) column ts = alike_err
  statement_in_read labelled (kind.Mark mark) column ts = alike_err

  pub statement_alike : (labelled : Bool) (ts : List Token) → Alike (StatementAlike R) (statement a labelled ts) (statement b labelled ts)
  unfolding statement
  statement_alike labelled [] = alike_ok nothing_alike
  statement_alike labelled (t ∷ ts) = statement_in_read labelled t.kind t.column ts

-- ---- what a statement fills

abbrev Any : {A B : Type 0} → A → B → Type 0
Any x y = Unit {0}

any_values : {A B : Type 0} (a : Actions A) (b : Actions B) → Actalike Any a b
any_values a b = record {
  number = λ n. tt;
  name = λ column name. tt;
  here = tt;
  before = λ prefix x y so. tt;
  between = λ operator x u y v so now. tt;
}

single_same : (what : Single) (o p : Operand Outcome) → layout_filled (single_effect what o) ≡ layout_filled (single_effect what p)
single_same single.Equ o p = refl
single_same single.Org o p = refl
single_same (single.Byte code) o p = refl
single_same (single.Port code) o p = refl
single_same (single.Word code) o p = refl
single_same (single.Branch code) o p = refl
single_same (single.Small f) o p = refl

filled_same : {R : Outcome → Outcome → Type 0} {st other : Statement Outcome} → StatementAlike R st other
    → layout_filled (effect_of st) ≡ layout_filled (effect_of other)
filled_same nothing_alike = refl
filled_same (fixed_alike code) = refl
filled_same (one_alike what {o} {p} same) = single_same what o p
filled_same (test_alike f one other) = refl
filled_same (items_alike size same) = ap (λ (n : ℕ). item_size size * n) (alike_length same)

-- with other values of names a statement fills as many bytes
pub statement_fills : (a b : Actions Outcome) (labelled : Bool) (ts : List Token) (st other : Statement Outcome)
    → statement a labelled ts ≡ Ok st → statement b labelled ts ≡ Ok other → layout_filled (effect_of st) ≡ layout_filled (effect_of other)
statement_fills a b labelled ts st other at_st at_other = filled_same (alike_both (statement_alike (any_values a b) labelled ts) st other at_st at_other)

-- ---- a statement with the values of its operands

module _ {A B : Type 0} {R : A → B → Type 0} (value : B → A) (is : (x : A) (y : B) → R x y → x ≡ value y) where
  operand_value_of : {o : Operand A} {p : Operand B} → OperandAlike R o p → o ≡ operand_valued value p
  operand_value_of {o} {p} same = let has = is o.value p.value same.1 in rw (← same.0, ← has) refl

  operand_values_of : {os : List (Operand A)} {ps : List (Operand B)} → AllAlike (OperandAlike R) os ps → os ≡ map (operand_valued value) ps
  operand_values_of none_alike = refl
  operand_values_of (more_alike {x} {y} {xs} {ys} first rest) = rw (operand_value_of first, operand_values_of rest) refl

  pub statement_value_of : {st : Statement A} {other : Statement B} → StatementAlike R st other → st ≡ statement_valued value other
  statement_value_of nothing_alike = refl
  statement_value_of (fixed_alike code) = refl
  statement_value_of (one_alike what {o} {p} same) = ap (One what) (operand_value_of same)
  statement_value_of (test_alike f {o} {q} {p} {r} one other) = rw (operand_value_of one, operand_value_of other) refl
  statement_value_of (items_alike size {os} {ps} same) = ap (Items size) (operand_values_of same)

-- ---- the bytes of a statement are as many as it fills

bytes-read : {A : Type 0} (r : Result A LineFault) (f : A → List ℕ) (n : ℕ) (bs : List ℕ) → (r >>= λ x. Ok (f x)) ≡ Ok bs → ((x : A) → length (f x) ≡ n)
    → length bs ≡ n
bytes-read r f n bs h size =
    read-ok (length bs ≡ n) r (λ x. Ok (f x)) bs h (λ x at_x e. let same : f x ≡ bs = cc e in sym (ap length same) ∙ size x)

single_bytes-length : (address : ℕ) (what : Single) (o : Operand Outcome) (bs : List ℕ) → single_bytes address what o ≡ Ok bs →
    length bs ≡ layout_filled (single_effect what o)
single_bytes-length address (single.Byte code) o bs h = bytes-read (byte o) (λ b. code ∷ b ∷ []) 2 bs h (λ b. refl)
single_bytes-length address (single.Port code) o bs h = bytes-read (unsigned_value 255 o) (λ b. code ∷ b ∷ []) 2 bs h (λ b. refl)
single_bytes-length address (single.Word code) o bs h = bytes-read (unsigned_value 65535 o) (λ w. code ∷ word_bytes w) 3 bs h (λ w. refl)
single_bytes-length address (single.Branch code) o bs h = bytes-read (displacement address o) (λ d. code ∷ d ∷ []) 2 bs h (λ d. refl)
single_bytes-length address (single.Small f) o bs h = bytes-read (with_field f o) (λ op. encoded op ∷ []) 1 bs h (λ op. refl)
single_bytes-length address single.Org o bs h = let none : [] ≡ bs = cc h in sym (ap length none)
single_bytes-length address single.Equ o bs h = let none : [] ≡ bs = cc h in sym (ap length none)

item_bytes-length : (size : ItemSize) (o : Operand Outcome) (bs : List ℕ) → item_bytes size o ≡ Ok bs → length bs ≡ item_size size
item_bytes-length item.Byte o bs h = bytes-read (byte o) (λ b. b ∷ []) 1 bs h (λ b. refl)
item_bytes-length item.Word o bs h = bytes-read (unsigned_value 65535 o) word_bytes 2 bs h (λ w. refl)

list_bytes-length : (size : ItemSize) (os : List (Operand Outcome)) (bs : List ℕ) → list_bytes size os ≡ Ok bs → length bs ≡ item_size size * length os
unfolding list_bytes
list_bytes-length size [] bs h =
    let none : [] ≡ bs = cc h in
    let empty = ap length none in
    omega (arith, empty)
list_bytes-length size (o ∷ os) bs h =
    read-ok (length bs ≡ item_size size * length (o ∷ os)) (item_bytes size o) _ bs h (λ front at_front h.
    read-ok (length bs ≡ item_size size * length (o ∷ os)) (list_bytes size os) _ bs h (λ rest at_rest h.
    let whole : front ++ rest ≡ bs = cc h in
    let one = item_bytes-length size o front at_front in
    let others = list_bytes-length size os rest at_rest in
    let both = length-append front rest in
    let all = ap length whole in
    grind (arith, one, others, both, all)))

pub bytes_of-length : (address : ℕ) (st : Statement Outcome) (bs : List ℕ) → bytes_of address st ≡ Ok bs → length bs ≡ layout_filled (effect_of st)
bytes_of-length address Nothing bs h = let none : [] ≡ bs = cc h in sym (ap length none)
bytes_of-length address (Fixed code) bs h = let one : code ∷ [] ≡ bs = cc h in sym (ap length one)
bytes_of-length address (One what o) bs h = single_bytes-length address what o bs h
bytes_of-length address (Test f bits place) bs h =
    read-ok (length bs ≡ 2) (with_field f bits) _ bs h (λ op at_op h. bytes-read (displacement address place) (λ d. encoded op ∷ d ∷ []) 2 bs h (λ d. refl))
bytes_of-length address (Items size os) bs h = list_bytes-length size os bs h
