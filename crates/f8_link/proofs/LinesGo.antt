-- A module's lines and the same lines in the one source: the bytes that linking leaves of the module are those of the one source's lines.
use Rattle.std.proofs.Common.{◌≡◌, ℕ, ℤ, ◌+◌, ◌*◌, Bool, List, [], ◌∷◌, ◌++◌, length, Option, Some, None, Result, Ok, Err}
use Rattle.std.proofs.Common.{refl, sym, ap, ◌∙◌, subst, arith, append_assoc, append-nil}
use Rattle.std.proofs.lemmas.List.{length-map}
use Rattle.std.specs.Prelude.{is_some, slice_set}
use Rattle.asm_text.specs.declared.answers.Token.{Token}
use Rattle.f8_asm.specs.Answers.{◌>>=◌}
use Rattle.f8_asm.specs.Bytes.{bytes_of}
use Rattle.f8_asm.specs.Formulas.{formulas}
use Rattle.f8_asm.specs.Names.{value_of}
use Rattle.f8_asm.specs.ParsedLines.{line_of, parsed}
use Rattle.f8_asm.specs.PassThree.{table_with}
use Rattle.f8_asm.specs.Statements.{statement, statement_valued, statement_size, operand_valued, item_size, label_of, behind_label}
use Rattle.f8_asm.specs.Steps.{steps}
use Rattle.f8_asm.specs.declared.faults.LineFault.{LineFault}
use Rattle.f8_asm.specs.declared.formulas.Step.{Step}
use Rattle.f8_asm.specs.declared.line.ParsedLine.{ParsedLine}
use Rattle.f8_asm.specs.declared.operands.Statement.{Statement}
use Rattle.f8_asm.specs.declared.operands.Statement.TheVariants.{Nothing, Fixed, One, Test, Items}
use Rattle.f8_asm.specs.declared.values.Outcome.{Outcome}
use Rattle.f8_asm.proofs.Alike.{AlikeBy, read-ok}
use Rattle.f8_asm.proofs.FormulaValues.{statement_with_values}
use Rattle.f8_asm.proofs.StatementsAlike.{StatementAlike, statement_alike}
use Rattle.f8_link.specs.declared.faults.ModuleLineFault.{ModuleLineFault}
use Rattle.f8_link.specs.declared.lines.LineTask.TheVariants as line
use Rattle.f8_link.specs.declared.lines.PlacedLine.{PlacedLine}
use Rattle.f8_link.specs.declared.values.Found.{Found}
use Rattle.f8_link.specs.declared.values.Found.TheVariants as found
use Rattle.f8_link.specs.declared.values.Named.{Named}
use Rattle.f8_link.specs.Answers.{in_line_to}
use Rattle.f8_link.specs.Evaluation.{placed_values, formula_found}
use Rattle.f8_link.specs.Linking.{fixup_put}
use Rattle.f8_link.specs.OneSource.{PlacedSource, renamed_values, source_bytes, source_emitted}
use Rattle.f8_link.specs.Pieces.{Piece, whole, joined, piece_of}
use Rattle.f8_link.specs.SecondPass.{line_size}
use Rattle.f8_link.specs.ThirdPass.{Code, no_code, with_piece, with_value, line_piece, exported, emit, emit_lines}
use Rattle.f8_link.proofs.Goes.{Goes, NameGoes, Reach, expressions_go}
use Rattle.f8_link.proofs.PieceLength.{piece_length}
use Rattle.f8_link.proofs.Settles.{Settles, settles_so, settles_sized, settles_whole, settles_joined}
use Rattle.f8_link.proofs.SettlesStatements.{statement_settles}

-- each base is in reach, and each name of a module stands for what it stands for in the one source
pub record NamesGo (first : ℕ) (values : List ℤ) (rename : List ℕ → List ℕ) (names : List (List ℕ × Named)) (imports : List (List ℕ × ℕ))
    (others : List (List ℕ × ℤ)) : Type 0 where
  pub reach : Reach first values
  pub name : (x : List ℕ) → NameGoes first values (value_of names x) (value_of imports x) (value_of others (rename x))

-- ---- a statement that both read

-- where the first is read, so is the second
record Other {A B E : Type 0} (R : A → B → Type 0) (s : Result B E) (x : A) : Type 0 where
  y : B
  is : s ≡ Ok y
  so : R x y

other_by : {A B E : Type 0} (R : A → B → Type 0) (r : Result A E) (s : Result B E) → AlikeBy R r s → (x : A) → r ≡ Ok x → Other R s x
other_by {A} {B} {E} R (Ok u) (Ok v) on x at_x =
    let same : u ≡ x = cc at_x in
    record { y = v; is = refl; so = subst (λ (w : A). R w v) same on }
other_by R (Ok u) (Err f) on x at_x = absurd on
other_by R (Err e) (Ok v) on x at_x = absurd on
other_by R (Err e) (Err f) on x at_x = cc at_x

-- the statement of the same tokens in the one source
pub record ReadTogether (first : ℕ) (values : List ℤ) (rename : List ℕ → List ℕ) (others : List (List ℕ × ℤ)) (address : ℕ) (labelled : Bool)
    (ts : List Token) (st : Statement Found) : Type 0 where
  pub other : Statement Outcome
  pub is : statement (renamed_values rename others address) labelled ts ≡ Ok other
  pub alike : StatementAlike (Goes first values) st other

pub read_together : (first : ℕ) (values : List ℤ) (rename : List ℕ → List ℕ) (names : List (List ℕ × Named)) (imports : List (List ℕ × ℕ))
    (others : List (List ℕ × ℤ)) (offset address : ℕ) (labelled : Bool) (ts : List Token) (st : Statement (List Step))
    → NamesGo first values rename names imports others → address ≡ first + offset → statement formulas labelled ts ≡ Ok st
    → ReadTogether first values rename others address labelled ts (statement_valued (formula_found names imports offset) st)
read_together first values rename names imports others offset address labelled ts st go at read =
    let goes = expressions_go first values names imports offset rename others address go.reach at go.name in
    let told = statement_with_values found.OutOfRange (placed_values names imports offset) labelled ts st read in
    let both = statement_alike goes labelled ts in
    let o = other_by (StatementAlike (Goes first values)) (statement (placed_values names imports offset) labelled ts)
    (statement (renamed_values rename others address) labelled ts) both.is (statement_valued (formula_found names imports offset) st) told in
    record { other = o.y; is = o.is; alike = o.so }

-- ---- a line

bytes_read : (address : ℕ) (r : Result (Statement Outcome) LineFault) (other : Statement Outcome) (bs : List ℕ) → r ≡ Ok other
    → bytes_of address other ≡ Ok bs → (r >>= λ st. bytes_of address st) ≡ Ok bs
bytes_read address r other bs is so = rw is so

module _ (first : ℕ) (values : List ℤ) (rename : List ℕ → List ℕ) (names : List (List ℕ × Named)) (imports : List (List ℕ × ℕ))
    (others : List (List ℕ × ℤ)) (go : NamesGo first values rename names imports others) where
  -- the line that gives the statement's tokens
  abbrev source_at : ℕ → ℕ → List Token → PlacedSource
  source_at address number ts = record { address = address; line = record { rename = rename; number = number; tokens = ts } }

  pub line_settles : (offset address number : ℕ) (ts : List Token) (l : ParsedLine) (piece : Piece) → address ≡ first + offset → parsed l.number ts ≡ Ok l
      → line_piece names imports offset l ≡ Ok piece
      → Settles first values offset piece
      (λ bs. source_bytes others (record { address = address; line = record { rename = rename; number = number; tokens = ts } }) ≡ Ok bs)
  unfolding parsed line_piece
  line_settles offset address number ts l piece at is told =
      read-ok (Settles first values offset piece (λ bs. source_bytes others (source_at address number ts) ≡ Ok bs))
      (statement formulas (is_some (label_of ts)) (behind_label ts)) (λ st. Ok (line_of l.number ts st)) l is (λ st at_st e.
      let same : line_of l.number ts st ≡ l = cc e in
      let has : l.statement ≡ st = sym (ap (λ (k : ParsedLine). k.statement) same) in
      let r = read_together first values rename names imports others offset address (is_some (label_of ts)) (behind_label ts) st go at at_st in
      let given : piece_of offset (statement_valued (formula_found names imports offset) st) ≡ Ok piece =
      ap (λ (k : Statement (List Step)). piece_of offset (statement_valued (formula_found names imports offset) k)) (sym has) ∙ told in
      settles_so first values offset piece (λ bs. bytes_of address r.other ≡ Ok bs) (λ bs. source_bytes others (source_at address number ts) ≡ Ok bs)
      (λ bs so. bytes_read address (statement (renamed_values rename others address) (is_some (label_of ts)) (behind_label ts)) r.other bs r.is so)
      (statement_settles first values offset address (statement_valued (formula_found names imports offset) st) r.other piece at r.alike given))

-- ---- all lines of a module

-- the lines of the one source that a module's statements make, each where its bytes stand
pub data SourcesStand (first : ℕ) (rename : List ℕ → List ℕ) : List PlacedLine → List PlacedSource → Type 0 where
  no_source : SourcesStand first rename [] []
  export_source : {offset number column : ℕ} {name : List ℕ} {ps : List PlacedLine} {qs : List PlacedSource} → SourcesStand first rename ps qs
      → SourcesStand first rename (record { offset = offset; line = line.Export number column name } ∷ ps) qs
  statement_source : {offset address number : ℕ} {l : ParsedLine} {ts : List Token} {ps : List PlacedLine} {qs : List PlacedSource}
      → parsed l.number ts ≡ Ok l → address ≡ first + offset → SourcesStand first rename ps qs
      → SourcesStand first rename (record { offset = offset; line = line.Statement l } ∷ ps)
      (record { address = address; line = record { rename = rename; number = number; tokens = ts } } ∷ qs)

-- each line begins where the one before it ends
abbrev pub StandFrom : ℕ → List PlacedLine → Type 0
StandFrom at [] = Unit {0}
StandFrom at (p ∷ ps) = (p.offset ≡ at) × StandFrom (at + line_size p.line) ps

-- lines of the one source give these bytes, one after the other from an address on
pub data SourcesGive (others : List (List ℕ × ℤ)) : ℕ → List PlacedSource → List ℕ → Type 0 where
  none_give : {at : ℕ} → SourcesGive others at [] []
  more_give : {at : ℕ} {q : PlacedSource} {bs cs : List ℕ} {qs : List PlacedSource} → q.address ≡ at → source_bytes others q ≡ Ok bs
      → SourcesGive others (at + length bs) qs cs → SourcesGive others at (q ∷ qs) (bs ++ cs)

pub valued_size : {A B : Type 0} (value : A → B) (st : Statement A) → statement_size (statement_valued value st) ≡ statement_size st
valued_size value Nothing = refl
valued_size value (Fixed code) = refl
valued_size value (One what o) = refl
valued_size value (Test f a b) = refl
valued_size value (Items size os) = ap (λ (n : ℕ). item_size size * n) (length-map os (operand_valued value))

in_line-ok : {A : Type 0} (number end : ℕ) (r : Result A ModuleLineFault) (x : A) → in_line_to number end r ≡ Ok x → r ≡ Ok x
in_line-ok number end (Ok y) x is = let same : y ≡ x = cc is in ap Ok same
in_line-ok number end (Err fault) x is = cc is

pub exported_is : (s t : Code) (number column : ℕ) (name : List ℕ) (v : Option Named) → exported s number column name v ≡ Ok t
    → (t.bytes ≡ s.bytes) × (t.fixups ≡ s.fixups)
exported_is s t number column name (Some v) is =
    let same : with_value s name v ≡ t = cc is in
    (sym (ap (λ (c : Code). c.bytes) same), sym (ap (λ (c : Code). c.fixups) same))
exported_is s t number column name None is = cc is

-- what the lines give, as one piece behind what was there
pub record Emitted (first : ℕ) (values : List ℤ) (others : List (List ℕ × ℤ)) (at : ℕ) (s code : Code) (qs : List PlacedSource) : Type 0 where
  pub piece : Piece
  pub bytes : code.bytes ≡ s.bytes ++ piece.bytes
  pub fixups : code.fixups ≡ s.fixups ++ piece.fixups
  pub settles : Settles first values at piece (λ bs. SourcesGive others (first + at) qs bs)

module _ (first : ℕ) (values : List ℤ) (rename : List ℕ → List ℕ) (names : List (List ℕ × Named)) (imports : List (List ℕ × ℕ))
    (others : List (List ℕ × ℤ)) (go : NamesGo first values rename names imports others) where
  none_emitted : (at : ℕ) (s code : Code) → s ≡ code → Emitted first values others at s code []
  none_emitted at s code is = record {
    piece = whole [];
    bytes = sym (ap (λ (c : Code). c.bytes) is) ∙ sym (append-nil s.bytes);
    fixups = sym (ap (λ (c : Code). c.fixups) is) ∙ sym (append-nil s.fixups);
    settles = settles_whole first values at [] (λ bs. SourcesGive others (first + at) [] bs) none_give;
  }

  -- a name that is exported gives no bytes
  past_export : (at : ℕ) (s t code : Code) (qs : List PlacedSource) → (t.bytes ≡ s.bytes) × (t.fixups ≡ s.fixups)
      → Emitted first values others at t code qs → Emitted first values others at s code qs
  past_export at s t code qs same e = record {
    piece = e.piece;
    bytes = e.bytes ∙ ap (λ (r : List ℕ). r ++ e.piece.bytes) same.0;
    fixups = e.fixups ∙ ap (λ r. r ++ e.piece.fixups) same.1;
    settles = e.settles;
  }

  give_more : (at size : ℕ) (q : PlacedSource) (qs : List PlacedSource) (bs cs : List ℕ) → q.address ≡ first + at
      → (source_bytes others q ≡ Ok bs) × (length bs ≡ size) → SourcesGive others (first + (at + size)) qs cs
      → SourcesGive others (first + at) (q ∷ qs) (bs ++ cs)
  give_more at size q qs bs cs there one other =
      let next : first + (at + size) ≡ first + at + length bs = (let is = one.1 in omega (arith, is)) in
      more_give there one.0 (subst (λ (n : ℕ). SourcesGive others n qs cs) next other)

  -- a statement's piece, and those of the lines behind it
  statement_emitted : (at : ℕ) (s code : Code) (p : Piece) (q : PlacedSource) (qs : List PlacedSource) → q.address ≡ first + at
      → Settles first values at p (λ bs. source_bytes others q ≡ Ok bs)
      → Emitted first values others (at + length p.bytes) (with_piece s p) code qs → Emitted first values others at s code (q ∷ qs)
  statement_emitted at s code p q qs there so e = record {
    piece = joined p e.piece;
    bytes = e.bytes ∙ append_assoc s.bytes p.bytes e.piece.bytes;
    fixups = e.fixups ∙ append_assoc s.fixups p.fixups e.piece.fixups;
    settles = settles_joined first values at p e.piece (λ bs. (source_bytes others q ≡ Ok bs) × (length bs ≡ length p.bytes))
        (λ bs. SourcesGive others (first + (at + length p.bytes)) qs bs) (λ bs. SourcesGive others (first + at) (q ∷ qs) bs)
        (λ bs cs one other. give_more at (length p.bytes) q qs bs cs there one other)
        (settles_sized first values at p (λ bs. source_bytes others q ≡ Ok bs) so) e.settles;
  }

  line_length : (offset : ℕ) (l : ParsedLine) (p : Piece) → line_piece names imports offset l ≡ Ok p → length p.bytes ≡ statement_size l.statement
  unfolding line_piece
  line_length offset l p is =
      piece_length offset (statement_valued (formula_found names imports offset) l.statement) p is
      ∙ valued_size (formula_found names imports offset) l.statement

  pub lines_emitted : (at : ℕ) {ps : List PlacedLine} {qs : List PlacedSource} (s code : Code) → SourcesStand first rename ps qs → StandFrom at ps
      → emit_lines names imports s ps ≡ Ok code → Emitted first values others at s code qs
  unfolding steps emit
  lines_emitted at s code no_source stand is = none_emitted at s code (let same : s ≡ code = cc is in same)
  lines_emitted at {ps} {qs} s code (export_source {offset} {number} {column} {name} {ps = rest} {qs = others_rest} sources) stand is =
      read-ok (Emitted first values others at s code qs) (exported s number column name (value_of names name))
      (λ t. steps (emit names imports) t rest) code is (λ t at_t e.
      past_export at s t code qs (exported_is s t number column name (value_of names name) at_t)
      (lines_emitted at t code sources (subst (λ (n : ℕ). StandFrom n rest) (omega arith) stand.1) e))
  lines_emitted at {ps} {qs} s code (statement_source {offset} {address} {number} {l} {ts} {ps = rest} {qs = behind} parse there sources) stand is =
      read-ok (Emitted first values others at s code qs)
      (in_line_to l.number l.end (line_piece names imports offset l) >>= λ p. Ok (with_piece s p)) (λ t. steps (emit names imports) t rest) code is
      (λ t at_t e.
      read-ok (Emitted first values others at s code qs) (in_line_to l.number l.end (line_piece names imports offset l)) (λ p. Ok (with_piece s p)) t at_t
      (λ p at_p same.
      let told = in_line-ok l.number l.end (line_piece names imports offset l) p at_p in
      let is_t : with_piece s p ≡ t = cc same in
      let size = line_length offset l p told in
      let here : offset ≡ at = stand.0 in
      let q : PlacedSource = record { address = address; line = record { rename = rename; number = number; tokens = ts } } in
      let so = line_settles first values rename names imports others go offset address number ts l p there parse told in
      statement_emitted at s code p q behind (there ∙ ap (λ (n : ℕ). first + n) here)
      (subst (λ (n : ℕ). Settles first values n p (λ bs. source_bytes others q ≡ Ok bs)) here so)
      (lines_emitted (at + length p.bytes) (with_piece s p) code sources
      (subst (λ (n : ℕ). StandFrom n rest) (ap (λ (n : ℕ). at + n) (sym size)) stand.1)
      (ap (λ (c : Code). steps (emit names imports) c rest) is_t ∙ e))))

-- ---- the table of the one source

pub table_append : (table : List (Option ℕ)) (at : ℕ) (bs cs : List ℕ) →
    table_with (table_with table at bs) (at + length bs) cs ≡ table_with table at (bs ++ cs)
table_append table at [] cs = ap (λ (n : ℕ). table_with table n cs) (omega arith)
table_append table at (b ∷ bs) cs =
    let next : at + length (b ∷ bs) ≡ at + 1 + length bs = omega arith in
    ap (λ (n : ℕ). table_with (table_with (slice_set table at (Some b)) (at + 1) bs) n cs) next ∙ table_append (slice_set table at (Some b)) (at + 1) bs cs

emitted_one : (others : List (List ℕ × ℤ)) (table : List (Option ℕ)) (q : PlacedSource) (bs : List ℕ) → source_bytes others q ≡ Ok bs
    → source_emitted others table q ≡ Ok (table_with table q.address bs)
unfolding source_emitted
emitted_one others table q bs is = rw is refl

then_steps : {S X E : Type 0} (step : S → X → Result S E) (s t : S) (x : X) (xs : List X) → step s x ≡ Ok t → steps step s (x ∷ xs) ≡ steps step t xs
unfolding steps
then_steps step s t x xs is = rw is refl

pub sources_emitted : (others : List (List ℕ × ℤ)) {at : ℕ} {qs : List PlacedSource} {bs : List ℕ} → SourcesGive others at qs bs → (table : List (Option ℕ))
    → steps (source_emitted others) table qs ≡ Ok (table_with table at bs)
unfolding steps
sources_emitted others none_give table = refl
sources_emitted others (more_give {at} {q} {bs} {cs} {qs} there is rest) table =
    then_steps (source_emitted others) table (table_with table q.address bs) q qs (emitted_one others table q bs is)
    ∙ ap (λ (n : ℕ). steps (source_emitted others) (table_with table n bs) qs) there
    ∙ sources_emitted others rest (table_with table at bs) ∙ ap Ok (table_append table at bs cs)

-- The third pass of the one source over a module's lines puts the bytes that linking leaves of the module.
pub module_emitted : (first : ℕ) (values : List ℤ) (rename : List ℕ → List ℕ) (names : List (List ℕ × Named)) (imports : List (List ℕ × ℕ))
    (others : List (List ℕ × ℤ)) (ps : List PlacedLine) (qs : List PlacedSource) (code : Code) (z : List ℕ) (table : List (Option ℕ))
    → NamesGo first values rename names imports others → SourcesStand first rename ps qs → StandFrom 0 ps → emit_lines names imports no_code ps ≡ Ok code
    → steps (fixup_put first values) code.bytes code.fixups ≡ Ok z → steps (source_emitted others) table qs ≡ Ok (table_with table first z)
unfolding no_code
module_emitted first values rename names imports others ps qs code z table go sources stand emits fixed =
    let e = lines_emitted first values rename names imports others go 0 no_code code sources stand emits in
    let bytes : e.piece.bytes ++ [] ≡ code.bytes = append-nil e.piece.bytes ∙ sym e.bytes in
    let fixes : e.piece.fixups ≡ code.fixups = sym e.fixups in
    let all : steps (fixup_put first values) (e.piece.bytes ++ []) e.piece.fixups ≡ Ok z = rw (bytes, fixes) fixed in
    let s = e.settles.is [] [] z refl all in
    let whole : z ≡ s.bytes = s.is ∙ append-nil s.bytes in
    let at : first + 0 ≡ first = omega arith in
    sources_emitted others s.said table ∙ ap (λ (n : ℕ). Ok (table_with table n s.bytes)) at ∙ ap (λ (r : List ℕ). Ok (table_with table first r)) (sym whole)
