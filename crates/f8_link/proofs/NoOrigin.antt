-- A line without ORG, EXPORT or IMPORT makes no statement that moves.
use Rattle.std.proofs.Common.{◌≡◌, ℕ, zero, suc, Bool, true, false, List, [], ◌∷◌, length, drop, map, Option, Some, None, is_some, Result}
use Rattle.std.proofs.Common.{Ok, Err, refl}
use Rattle.std.specs.Prelude.{if◌then◌else◌, codes, option_map, IfSome, IfOk, not, ◌&&◌, ◌||◌}
use Rattle.std.specs.List.{AllByRecursion}
use Rattle.std.specs.Option.{option_or}
use Rattle.asm_text.specs.declared.answers.Token.{Token}
use Rattle.asm_text.specs.declared.answers.TokenKind.{TokenKind}
use Rattle.asm_text.specs.declared.answers.TokenKind.TheVariants as kind
use Rattle.f8_spec.specs.Instructions.{encoded, row_of}
use Rattle.f8_spec.specs.declared.instructions.Op.{Op}
use Rattle.f8_spec.specs.declared.instructions.Row.{Row}
use Rattle.f8_spec.specs.declared.instructions.Row.TheVariants as row
use Rattle.f8_asm.specs.declared.fields.Field.{Field}
use Rattle.f8_asm.specs.declared.fields.Field.TheVariants as field
use Rattle.f8_asm.specs.declared.operands.Operand.{Operand}
use Rattle.f8_asm.specs.declared.operands.Statement.{Statement}
use Rattle.f8_asm.specs.declared.operands.Statement.TheVariants.{Fixed, One, Test}
use Rattle.f8_asm.specs.declared.registers.Register.{Register}
use Rattle.f8_asm.specs.declared.words.Shape.{Shape}
use Rattle.f8_asm.specs.declared.words.Shape.TheVariants as shape
use Rattle.f8_asm.specs.declared.words.Single.{Single}
use Rattle.f8_asm.specs.declared.words.Single.TheVariants as single
use Rattle.f8_asm.specs.declared.words.ItemSize.TheVariants as item
use Rattle.f8_asm.specs.Answers.{◌>>=◌}
use Rattle.f8_asm.specs.Fields.{op_with}
use Rattle.f8_asm.specs.Grammar.{Actions}
use Rattle.f8_asm.specs.Registers.{same_word, at_word, is_accumulator, pair_op}
use Rattle.f8_asm.specs.Statements.{operand_at, comma, done, instruction_of, one, two, register_operand, register_number_at}
use Rattle.f8_asm.specs.Statements.{register_at, accumulator, load_from, load, items, operands, behind_label}
use Rattle.f8_asm.specs.Statements.{wants_label, statement_of, statement_in, statement, label_of}
use Rattle.f8_asm.specs.Words.{op_shape, field_words, directives, field_word, op_of, shape_of, shape_of_op}
use Rattle.f8_asm.proofs.WordTables.{all_at_word}
use Rattle.f8_link.specs.Directives.{org_word, stray_in, stray}

-- what doesn't move
abbrev pub StandsStill : {A : Type 0} → Statement A → Type 0
StandsStill (One single.Org o) = ⊥
StandsStill other = Unit {0}

abbrev StaysOne : Single → Type 0
StaysOne single.Org = ⊥
StaysOne other = Unit {0}

abbrev Stays : Shape → Type 0
Stays (shape.One what) = StaysOne what
Stays other = Unit {0}

-- ---- words

by_row : (r : Row) (code : ℕ) → Stays (op_shape r code)
by_row row.Immediate code = tt
by_row row.PortIn code = tt
by_row row.PortOut code = tt
by_row row.Call code = tt
by_row row.Jump code = tt
by_row row.LoadData code = tt
by_row row.Branch code = tt
by_row row.BranchIsar code = tt
by_row other code = tt

by_op : (o : Option Op) → IfSome (option_map shape_of_op o) Stays
by_op None = tt
by_op (Some op) = by_row (row_of op) (encoded op)

fields_stay : AllByRecursion (λ w. Stays w.1) (map field_word field_words)
unfolding field_words
fields_stay = (tt, (tt, (tt, (tt, (tt, (tt, (tt, (tt, (tt, (tt, (tt, (tt, (tt, (tt, (tt, tt)))))))))))))))

chosen : (b : Bool) (s : Shape) (o : Option Shape) → Stays s → IfSome o Stays → IfSome (if b then Some s else o) Stays
chosen true s o here there = here
chosen false s o here there = there

directives_stay : (name : List ℕ) → same_word name org_word ≡ false → IfSome (at_word name directives) Stays
unfolding directives
directives_stay name other =
    let org : List (List ℕ × Shape) = (codes "ORG", shape.One single.Org) ∷ [] in
    let equ : List (List ℕ × Shape) = (codes "EQU", shape.One single.Equ) ∷ org in
    let words : List (List ℕ × Shape) = (codes "DW", shape.Items item.Word) ∷ equ in
    chosen (same_word name (codes "DB")) (shape.Items item.Byte) (at_word name words) tt
    (chosen (same_word name (codes "DW")) (shape.Items item.Word) (at_word name equ) tt
    (chosen (same_word name (codes "EQU")) (shape.One single.Equ) (at_word name org) tt (rw other tt)))

either : (a b : Option Shape) → IfSome a Stays → IfSome b Stays → IfSome (option_or a b) Stays
either (Some x) b here there = here
either None b here there = there

shape_stays : (name : List ℕ) → same_word name org_word ≡ false → IfSome (shape_of name) Stays
unfolding shape_of
shape_stays name other =
    either (option_map shape_of_op (op_of name)) (option_or (at_word name (map field_word field_words)) (at_word name directives)) (by_op (op_of name))
    (either (at_word name (map field_word field_words)) (at_word name directives) (all_at_word Stays name (map field_word field_words) fields_stay)
    (directives_stay name other))

-- ---- statements

goes_on : {A B E : Type 0} (r : Result A E) (f : A → Result B E) (Q : B → Type 0) → ((x : A) → IfOk (f x) Q) → IfOk (r >>= f) Q
goes_on (Ok x) f Q next = next x
goes_on (Err e) f Q next = tt

unless : {A E : Type 0} (b : Bool) (e : E) (r : Result A E) (Q : A → Type 0) → IfOk r Q → IfOk (if b then Err e else r) Q
unless true e r Q holds = tt
unless false e r Q holds = holds

when : {A E : Type 0} (b : Bool) (e : E) (r : Result A E) (Q : A → Type 0) → IfOk r Q → IfOk (if b then r else Err e) Q
when true e r Q holds = holds
when false e r Q holds = tt

module _ {A : Type 0} (acts : Actions A) where
  done_stays : (st : Statement A) (ts : List Token) → StandsStill st → IfOk (done st ts) StandsStill
  done_stays st [] stays = stays
  done_stays st (t ∷ ts) stays = tt

  single_stays : (what : Single) (o : Operand A) → StaysOne what → StandsStill (One what o)
  single_stays single.Org o stays = stays
  single_stays other o stays = tt

  one_stays : (what : Single) (ts : List Token) → StaysOne what → IfOk (one acts what ts) StandsStill
  one_stays what ts stays = goes_on (operand_at acts ts) _ StandsStill (λ o. done_stays (One what o.0) o.1 (single_stays what o.0 stays))

  instruction_stays : (o : Option Op) (ts : List Token) → IfOk (instruction_of {A = A} o ts) StandsStill
  instruction_stays (Some op) ts = done_stays (Fixed (encoded op)) (drop 1 ts) tt
  instruction_stays None ts = tt

  two_stays : (f : Field) (ts : List Token) → IfOk (two acts f ts) StandsStill
  two_stays f ts =
      goes_on (operand_at acts ts) _ StandsStill (λ a. goes_on (comma a.1) _ StandsStill (λ rest. goes_on (operand_at acts rest) _ StandsStill (λ b.
      done_stays (Test f a.0 b.0) b.1 tt)))

  register_stays : (f : Field) (ts : List Token) (o : Option ℕ) → IfOk (register_operand acts f ts o) StandsStill
  register_stays f ts (Some r) = instruction_stays (op_with f r) ts
  register_stays f ts None = one_stays (single.Small f) ts tt

  load_from_stays : (to : Register) (ts : List Token) (o : Option Register) → IfOk (load_from acts to ts o) StandsStill
  load_from_stays to ts (Some from) = instruction_stays (pair_op to from) ts
  load_from_stays to ts None = when (is_accumulator to) _ (one acts (single.Small field.LrAR) ts) StandsStill (one_stays (single.Small field.LrAR) ts tt)

  load_stays : (ts : List Token) (o : Option Register) → IfOk (load acts ts o) StandsStill
  load_stays ts (Some to) = goes_on (comma (drop 1 ts)) _ StandsStill (λ rest. load_from_stays to rest (register_at rest))
  load_stays ts None =
      goes_on (operand_at acts ts) _ StandsStill (λ o. goes_on (comma o.1) _ StandsStill (λ rest. goes_on (accumulator rest) _ StandsStill (λ last.
      done_stays (One (single.Small field.LrRA) o.0) last tt)))

  operands_stay : (s : Shape) (ts : List Token) → Stays s → IfOk (operands acts s ts) StandsStill
  unfolding operands
  operands_stay (shape.Plain code) ts stays = done_stays (Fixed code) ts tt
  operands_stay (shape.One what) ts stays = one_stays what ts stays
  operands_stay (shape.Register f) ts stays = register_stays f ts (register_number_at ts)
  operands_stay (shape.Test f) ts stays = two_stays f ts
  operands_stay shape.Load ts stays = load_stays ts (register_at ts)
  operands_stay (shape.Items size) ts stays = goes_on (items acts (length ts) ts) _ StandsStill (λ os. tt)

  statement_of_stays : (labelled : Bool) (column : ℕ) (name : List ℕ) (ts : List Token) (o : Option Shape) → IfSome o Stays
      → IfOk (statement_of acts labelled column name ts o) StandsStill
  statement_of_stays labelled column name ts (Some s) stays =
      unless (wants_label s && not labelled) _ (operands acts s ts) StandsStill (operands_stay s ts stays)
  statement_of_stays labelled column name ts None stays = tt

  statement_in_stays : (labelled : Bool) (k : TokenKind) (column : ℕ) (ts : List Token) → stray_in k ≡ false
      → IfOk (statement_in acts labelled k column ts) StandsStill
  statement_in_stays labelled (kind.Name name) column ts other =
      statement_of_stays labelled column name ts (shape_of name) (shape_stays name (first_false (same_word name org_word) _ other))
    where
      first_false : (a b : Bool) → (a || b) ≡ false → a ≡ false
      first_false true b h = cc h
      first_false false b h = refl
  statement_in_stays labelled (kind.Number number) column ts other = tt
  statement_in_stays labelled (kind.Mark mark) column ts other = tt

  statement_stays : (labelled : Bool) (ts : List Token) → stray ts ≡ None → IfOk (statement acts labelled ts) StandsStill
  unfolding statement stray
  statement_stays labelled [] none = tt
  statement_stays labelled (t ∷ ts) none = statement_in_stays labelled t.kind t.column ts (not_here (stray_in t.kind) t.column (stray ts) none)
    where
      not_here : (b : Bool) (column : ℕ) (o : Option ℕ) → (if b then Some column else o) ≡ None → b ≡ false
      not_here true column o h = cc h
      not_here false column o h = refl

-- ---- lines

rest_none : (b : Bool) (column : ℕ) (o : Option ℕ) → (if b then Some column else o) ≡ None → o ≡ None
rest_none true column o h = cc h
rest_none false column o h = h

drop_none : (n : ℕ) (ts : List Token) → stray ts ≡ None → stray (drop n ts) ≡ None
unfolding stray
drop_none zero ts none = none
drop_none (suc n) [] none = refl
drop_none (suc n) (t ∷ ts) none = drop_none n ts (rest_none (stray_in t.kind) t.column (stray ts) none)

behind_by : (b : Bool) (ts : List Token) → stray ts ≡ None → stray (if b then drop 2 ts else ts) ≡ None
behind_by true ts none = drop_none 2 ts none
behind_by false ts none = none

was_read : {A E : Type 0} (P : A → Type 0) (r : Result A E) (x : A) → r ≡ Ok x → IfOk r P → P x
was_read P r x is holds = rw is at holds

-- the statement of a line without one of the three words doesn't move
pub stands_still : {A : Type 0} (acts : Actions A) (labelled : Bool) (ts : List Token) (st : Statement A) → stray ts ≡ None
    → statement acts labelled (behind_label ts) ≡ Ok st → StandsStill st
stands_still acts labelled ts st none read =
    was_read StandsStill (statement acts labelled (behind_label ts)) st read
    (statement_stays acts labelled (behind_label ts) (behind_by (is_some (label_of ts)) ts none))
