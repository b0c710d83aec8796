-- A module's object has as many bytes as its second pass counted.
use Rattle.std.proofs.Common.{◌≡◌, ℕ, ◌+◌, List, [], ◌∷◌, ◌++◌, length, Ok, refl, sym, ap, ◌∙◌, subst, arith, length-append}
use Rattle.f8_asm.specs.Names.{value_of}
use Rattle.f8_asm.specs.Statements.{statement_size, statement_valued}
use Rattle.f8_asm.specs.Steps.{steps}
use Rattle.f8_asm.proofs.Alike.{read-ok}
use Rattle.f8_link.specs.declared.lines.LineTask.{LineTask}
use Rattle.f8_link.specs.declared.lines.LineTask.TheVariants as line
use Rattle.f8_link.specs.declared.lines.PlacedLine.{PlacedLine}
use Rattle.f8_link.specs.declared.values.Named.{Named}
use Rattle.f8_link.specs.Answers.{in_line_to}
use Rattle.f8_link.specs.Evaluation.{formula_found}
use Rattle.f8_link.specs.SecondPass.{Layout, no_layout, place, place_lines, line_size}
use Rattle.f8_link.specs.ThirdPass.{Code, no_code, with_piece, line_piece, line_emitted, emit, emit_lines, object_of}
use Rattle.f8_link.specs.Objects.{Object}
use Rattle.f8_link.proofs.LinePlaced.{line_places, in_line-read}
use Rattle.f8_link.proofs.LinesGo.{valued_size, exported_is}
use Rattle.f8_link.proofs.PieceLength.{piece_length}

-- the bytes of some lines
abbrev lines_size : List PlacedLine → ℕ
lines_size [] = 0
lines_size (p ∷ ps) = line_size p.line + lines_size ps

size_more : (ps : List PlacedLine) (p : PlacedLine) → lines_size (ps ++ p ∷ []) ≡ lines_size ps + line_size p.line
size_more [] p = omega arith
size_more (q ∷ ps) p = let rest = size_more ps p in omega (arith, rest)

laid_size : (imports : List (List ℕ × ℕ)) (ls : List LineTask) (m t : Layout) → place_lines imports m ls ≡ Ok t → m.here ≡ lines_size m.placed
    → t.here ≡ lines_size t.placed
unfolding steps
laid_size imports [] m t h so =
    let same : m ≡ t = cc h in
    subst (λ (u : Layout). u.here ≡ lines_size u.placed) same so
laid_size imports (l ∷ ls) m t h so =
    read-ok (t.here ≡ lines_size t.placed) (place imports m l) _ t h (λ u at_u h.
    let did = line_places imports l m u at_u in
    let p : PlacedLine = record { offset = m.here; line = l } in
    laid_size imports ls u t h
    (did.here ∙ ap (λ (n : ℕ). n + line_size l) so ∙ sym (size_more m.placed p) ∙ ap lines_size (sym did.placed)))

module _ (names : List (List ℕ × Named)) (imports : List (List ℕ × ℕ)) where
  line_length : (offset : ℕ) (l : LineTask) (s t : Code) → line_emitted names imports offset s l ≡ Ok t
      → length t.bytes ≡ length s.bytes + line_size l
  unfolding line_piece
  line_length offset (line.Statement l) s t h =
      read-ok (length t.bytes ≡ length s.bytes + statement_size l.statement) (in_line_to l.number l.end (line_piece names imports offset l)) _ t h
      (λ p at_p e.
      let told = in_line-read l.number l.end (line_piece names imports offset l) p at_p in
      let size : length p.bytes ≡ statement_size l.statement =
      piece_length offset (statement_valued (formula_found names imports offset) l.statement) p told
      ∙ valued_size (formula_found names imports offset) l.statement in
      let is : with_piece s p ≡ t = cc e in
      ap (λ (c : Code). length c.bytes) (sym is) ∙ length-append s.bytes p.bytes ∙ ap (λ (n : ℕ). length s.bytes + n) size)
  line_length offset (line.Export number column name) s t h =
      let same = (exported_is s t number column name (value_of names name) h).0 in
      ap (λ (bs : List ℕ). length bs) same ∙ omega arith

  emitted_size : (ps : List PlacedLine) (s t : Code) → emit_lines names imports s ps ≡ Ok t → length t.bytes ≡ length s.bytes + lines_size ps
  unfolding steps emit
  emitted_size [] s t h =
      let same : s ≡ t = cc h in
      ap (λ (c : Code). length c.bytes) (sym same) ∙ omega arith
  emitted_size (p ∷ ps) s t h =
      read-ok (length t.bytes ≡ length s.bytes + lines_size (p ∷ ps)) (emit names imports s p) _ t h (λ u at_u h.
      let one = line_length p.offset p.line s u at_u in
      let rest = emitted_size ps u t h in
      omega (arith, one, rest))

pub module_size : (imports : List (List ℕ × ℕ)) (ls : List LineTask) (laid : Layout) (code : Code) (object : Object)
    → place_lines imports no_layout ls ≡ Ok laid → emit_lines laid.names imports no_code laid.placed ≡ Ok code → object_of code imports ≡ object
    → laid.here ≡ length object.bytes
unfolding no_layout no_code
module_size imports ls laid code object at_laid at_code is =
    let size = emitted_size laid.names imports laid.placed no_code code at_code in
    let emitted : lines_size laid.placed ≡ length code.bytes = omega (arith, size) in
    laid_size imports ls no_layout laid at_laid refl ∙ emitted
    ∙ ap (λ (o : Object). length o.bytes) is
