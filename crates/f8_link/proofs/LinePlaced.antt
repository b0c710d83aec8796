-- The second pass over one line of a module, beside the second pass over the same line in the one source.
use Rattle.std.proofs.Common.{◌≡◌, ℕ, ◌+◌, ◌≤◌, ℤ, Bool, true, false, List, [], ◌∷◌, ◌++◌, Option, Some, None, is_some, Result, Ok, Err}
use Rattle.std.proofs.Common.{refl, sym, ap, subst, arith}
use Rattle.std.specs.Prelude.{if◌then◌else◌}
use Rattle.asm_text.specs.declared.answers.Token.{Token}
use Rattle.f8_asm.specs.Answers.{◌>>=◌}
use Rattle.f8_asm.specs.Formulas.{formulas}
use Rattle.f8_asm.specs.Image.{everywhere}
use Rattle.f8_asm.specs.ParsedLines.{parsed, line_of}
use Rattle.f8_asm.specs.PassTwo.{is_inside}
use Rattle.f8_asm.specs.Statements.{statement, statement_size, operand_valued, label_of, behind_label}
use Rattle.f8_asm.specs.declared.formulas.Step.{Step}
use Rattle.f8_asm.specs.declared.line.ParsedLine.{ParsedLine}
use Rattle.f8_asm.specs.declared.operands.Operand.{Operand}
use Rattle.f8_asm.specs.declared.operands.Statement.{Statement}
use Rattle.f8_asm.specs.declared.operands.Statement.TheVariants.{One}
use Rattle.f8_asm.specs.declared.words.Single.TheVariants as single
use Rattle.f8_asm.proofs.Alike.{read-ok}
use Rattle.f8_link.specs.Answers.{in_line_to}
use Rattle.f8_link.specs.Evaluation.{formula_found, names_import}
use Rattle.f8_link.specs.Pieces.{constant_of}
use Rattle.f8_link.specs.SecondPass.{Layout, with_label, moved_by, with_placed, constant_at, filled, statement_settled, settle, place}
use Rattle.f8_link.specs.SecondPass.{line_size}
use Rattle.f8_link.specs.declared.faults.ModuleLineFault.{ModuleLineFault}
use Rattle.f8_link.specs.declared.lines.LineTask.{LineTask}
use Rattle.f8_link.specs.declared.lines.LineTask.TheVariants as line
use Rattle.f8_link.specs.declared.lines.PlacedLine.{PlacedLine}
use Rattle.f8_link.specs.declared.values.Named.{Named}
use Rattle.f8_link.specs.declared.values.Named.TheVariants.{Constant, Offset}
use Rattle.f8_link.proofs.MarkRuns.{inside_end}

-- ---- what a line is made of

pub record LineFrom (ts : List Token) (l : ParsedLine) : Type 0 where
  pub st : Statement (List Step)
  pub read : statement formulas (is_some (label_of ts)) (behind_label ts) ≡ Ok st
  pub label : l.label ≡ label_of ts
  pub statement_is : l.statement ≡ st

pub line_from : (number : ℕ) (ts : List Token) (l : ParsedLine) → parsed number ts ≡ Ok l → LineFrom ts l
unfolding parsed
line_from number ts l h =
    read-ok (LineFrom ts l) (statement formulas (is_some (label_of ts)) (behind_label ts)) _ l h
    (λ st at_st e.
    let is : line_of number ts st ≡ l = cc e in
    record {
      st = st;
      read = at_st;
      label = sym (ap (λ (k : ParsedLine). k.label) is);
      statement_is = sym (ap (λ (k : ParsedLine). k.statement) is);
    })

pub in_line-read : {A : Type 0} (number end : ℕ) (r : Result A ModuleLineFault) (x : A) → in_line_to number end r ≡ Ok x → r ≡ Ok x
in_line-read number end (Ok y) x h = cc h
in_line-read number end (Err fault) x h = cc h

-- ---- how far a module's line goes

unless_read : {A E : Type 0} (t : Bool) (e : E) (r : Result A E) (x : A) → (if t then Err e else r) ≡ Ok x → r ≡ Ok x
unless_read true e r x h = cc h
unless_read false e r x h = h

pub when_read : {A E : Type 0} (t : Bool) (e : E) (y x : A) → (if t then Ok y else Err e) ≡ Ok x → (t ≡ true) × (y ≡ x)
when_read true e y x h = (refl, cc h)
when_read false e y x h = cc h

-- EQU names a constant
pub record Named_constant (imports : List (List ℕ × ℕ)) (label : Option (List ℕ)) (m t : Layout) (o : Operand (List Step)) : Type 0 where
  pub v : ℤ
  pub is : constant_of (operand_valued (formula_found m.names [] m.here) o) ≡ Ok v
  pub after : with_label label (Constant v) m ≡ t

pub equ_read : (imports : List (List ℕ × ℕ)) (label : Option (List ℕ)) (m t : Layout) (o : Operand (List Step))
    → (constant_at imports m o >>= λ v. Ok (with_label label v m)) ≡ Ok t → Named_constant imports label m t o
equ_read imports label m t o h =
    read-ok (Named_constant imports label m t o) (constant_at imports m o) _ t h (λ n at_n e.
    read-ok (Named_constant imports label m t o) (constant_of (operand_valued (formula_found m.names [] m.here) o)) _ n
    (unless_read (names_import imports o.value) _ _ n at_n) (λ v at_v is.
    let named : Constant v ≡ n = cc is in
    let after : with_label label n m ≡ t = cc e in
    record { v = v; is = at_v; after = rw named after }))

pub label_stays : (label : Option (List ℕ)) (v : Named) (m : Layout) → (with_label label v m).here ≡ m.here
label_stays None v m = refl
label_stays (Some x) v m = refl

label_placed : (label : Option (List ℕ)) (v : Named) (m : Layout) → (with_label label v m).placed ≡ m.placed
label_placed None v m = refl
label_placed (Some x) v m = refl

-- what a statement does to a module's layout
pub record Grows (size : ℕ) (m t : Layout) : Type 0 where
  pub here : t.here ≡ m.here + size
  pub placed : t.placed ≡ m.placed
  pub inside : m.here ≤ 65536 → t.here ≤ 65536

equ_grows : {imports : List (List ℕ × ℕ)} {label : Option (List ℕ)} {m t : Layout} {o : Operand (List Step)} → Named_constant imports label m t o
    → Grows 0 m t
equ_grows {imports} {label} {m} {t} {o} did =
    subst (λ (u : Layout). Grows 0 m u) did.after
    (let stays = label_stays label (Constant did.v) m in
    record { here = omega (arith, stays); placed = label_placed label (Constant did.v) m; inside = λ low. rw stays low })

filled_grows : (label : Option (List ℕ)) (column : Option ℕ) (size : ℕ) (m t : Layout) → filled label column size m ≡ Ok t → Grows size m t
filled_grows label column size m t h =
    let both = when_read (is_inside everywhere m.here size) _ (moved_by size (with_label label (Offset m.here) m)) t h in
    subst (λ (u : Layout). Grows size m u) both.1
    (let stays = label_stays label (Offset m.here) m in
    record {
      here = ap (λ n. n + size) stays;
      placed = label_placed label (Offset m.here) m;
      inside = λ low. rw stays (inside_end m.here size low both.0);
    })

settled_grows : (imports : List (List ℕ × ℕ)) (label : Option (List ℕ)) (column : Option ℕ) (m t : Layout) (st : Statement (List Step))
    → statement_settled imports label column m st ≡ Ok t → Grows (statement_size st) m t
settled_grows imports label column m t (One single.Equ o) h = equ_grows (equ_read imports label m t o h)
settled_grows imports label column m t other h = filled_grows label column (statement_size other) m t h

-- a line of a module is placed where the layout stands, which goes on behind its bytes
pub record Places (l : LineTask) (m t : Layout) : Type 0 where
  pub here : t.here ≡ m.here + line_size l
  pub placed : t.placed ≡ m.placed ++ record { offset = m.here; line = l } ∷ []
  pub inside : m.here ≤ 65536 → t.here ≤ 65536

pub line_places : (imports : List (List ℕ × ℕ)) (l : LineTask) (m t : Layout) → place imports m l ≡ Ok t → Places l m t
unfolding place settle
line_places imports (line.Statement l) m t h =
    read-ok (Places (line.Statement l) m t) (in_line_to l.number l.end (settle imports m l)) _ t h (λ u at_u e.
    let did = settled_grows imports l.label l.column m u l.statement (in_line-read l.number l.end (settle imports m l) u at_u) in
    let p : PlacedLine = record { offset = m.here; line = line.Statement l } in
    let is : with_placed p u ≡ t = cc e in
    subst (λ (v : Layout). Places (line.Statement l) m v) is
    (record { here = did.here; placed = ap (λ ps. ps ++ p ∷ []) did.placed; inside = did.inside }))
line_places imports (line.Export number column name) m t h =
    let p : PlacedLine = record { offset = m.here; line = line.Export number column name } in
    let is : with_placed p m ≡ t = cc h in
    subst (λ (v : Layout). Places (line.Export number column name) m v) is
    (record { here = omega arith; placed = refl; inside = λ low. low })
