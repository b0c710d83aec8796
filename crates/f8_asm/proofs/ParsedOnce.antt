-- The passes over lines of which each was read once give what the passes over tokens give.
use Rattle.std.proofs.Common.{◌≡◌, ℕ, ◌+◌, ℤ, pos, Bool, true, false, List, [], ◌∷◌, ◌++◌, length, drop, Option, Some, None, is_some}
use Rattle.std.proofs.Common.{Result, Ok, Err}
use Rattle.std.proofs.Common.{refl, sym, ap, ◌∙◌, subst, length-append}
use Rattle.std.specs.Prelude.{if◌then◌else◌}
use Rattle.asm_text.specs.declared.answers.Token.{Token}
use Rattle.text_lines.specs.declared.read_error.ReadError.{ReadError}
use Rattle.f8_asm.specs.declared.answers.AsmFault.{AsmFault}
use Rattle.text_lines.specs.declared.read_error.ReadError.TheVariants as answer
use Rattle.f8_asm.specs.declared.answers.Room.{Room}
use Rattle.f8_asm.specs.declared.faults.LineFault.{LineFault}
use Rattle.f8_asm.specs.declared.formulas.Step.{Step}
use Rattle.f8_asm.specs.declared.line.ParsedLine.{ParsedLine}
use Rattle.f8_asm.specs.declared.line.PlacedLine.{PlacedLine as ParsedPlace}
use Rattle.f8_asm.specs.declared.operands.Effect.{Effect}
use Rattle.f8_asm.specs.declared.operands.Effect.TheVariants.{Names, Moves, Fills}
use Rattle.f8_asm.specs.declared.operands.Statement.{Statement}
use Rattle.f8_asm.specs.declared.values.Outcome.{Outcome}
use Rattle.f8_asm.specs.declared.values.Outcome.TheVariants.{OutOfRange}
use Rattle.f8_asm.specs.Answers.{◌>>=◌}
use Rattle.text_lines.specs.ReadErrors.{Says}
use Rattle.f8_asm.specs.Evaluation.{values}
use Rattle.f8_asm.specs.Formulas.{formulas, formula_value}
use Rattle.f8_asm.specs.Grammar.{column_of}
use Rattle.f8_asm.specs.Image.{Picture, ascending, image_in, image_of}
use Rattle.f8_asm.specs.Judging.{operand_value, unsigned_value}
use Rattle.f8_asm.specs.Names.{value_of, with_name}
use Rattle.f8_asm.specs.ParsedLines.{line_of, parsed, names_after, Parsing, parse_tokens, parse_numbered, parse_line, parse_lines}
use Rattle.f8_asm.specs.ParsedLines.{no_parsing}
use Rattle.f8_asm.specs.ParsedLines.{settle_parsed, place_parsed, place_all_parsed, parsed_bytes, emit_parsed, emit_all_parsed}
use Rattle.f8_asm.specs.ParsedLines.{image_parsed}
use Rattle.f8_asm.specs.PassOne.{end_of, in_line, in_line_to, line_tokens, check_with, check, Reading, read_numbered, read_line, read_lines}
use Rattle.f8_asm.specs.PassOne.{no_reading}
use Rattle.f8_asm.specs.PassThree.{no_bytes, line_bytes, emit}
use Rattle.f8_asm.specs.PassTwo.{Layout, no_layout, with_label, fits, layout_after, settle, place}
use Rattle.f8_asm.specs.Statements.{statement, statement_valued, label_of, behind_label, effect_of, twice}
use Rattle.f8_asm.specs.TokenLines.{Line, PlacedLine}
use Rattle.text_lines.specs.Lines.{lines}
use Rattle.f8_asm.proofs.Alike.{read-ok, AlikeBy, Alike, alike_ok, alike_err, alike_self, alike_then, alike_same}
use Rattle.f8_asm.proofs.Alike.{AllAlike, none_alike, alike_push, alike_length, alike_each}
use Rattle.f8_asm.proofs.ImageRooms.{in_line-ok}
use Rattle.f8_asm.proofs.FormulaValues.{Puts, statement_read, statement_with_values}
use Rattle.f8_asm.proofs.StatementsAlike.{StatementAlike}
use Rattle.f8_asm.proofs.Steps.{steps_alike}

abbrev Same : {A : Type 0} → A → A → Type 0
Same x y = x ≡ y

-- a line read once is that of the tokens
abbrev LineRead : Line → ParsedLine → Type 0
LineRead l p = parsed l.number l.tokens ≡ Ok p

-- a line is made of the statement of its tokens
record ParsedFrom (number : ℕ) (ts : List Token) (p : ParsedLine) : Type 0 where
  st : Statement (List Step)
  at_st : statement formulas (is_some (label_of ts)) (behind_label ts) ≡ Ok st
  is : line_of number ts st ≡ p

parsed_from : (number : ℕ) (ts : List Token) (p : ParsedLine) → parsed number ts ≡ Ok p → ParsedFrom number ts p
unfolding parsed
parsed_from number ts p h =
    read-ok (ParsedFrom number ts p) (statement formulas (is_some (label_of ts)) (behind_label ts)) _ p h
    (λ st at_st e. record { st = st; at_st = at_st; is = cc e })

in_line_alike : {A B : Type 0} {R : A → B → Type 0} (number end : ℕ) {r : Result A LineFault} {s : Result B LineFault} → Alike R r s
    → Alike R (in_line_to number end r) (in_line_to number end s)
in_line_alike {A} {B} {R} number end {r} {s} on = by r s on.is
  where
    by : (r : Result A LineFault) (s : Result B LineFault) → AlikeBy R r s → Alike R (in_line_to number end r) (in_line_to number end s)
    by (Ok x) (Ok y) so = alike_ok so
    by (Ok x) (Err f) so = absurd so
    by (Err e) (Ok y) so = absurd so
    by (Err e) (Err f) so = rw so alike_err

-- ---- the first pass

record ReadAs (s : Reading) (p : Parsing) : Type 0 where
  names : s.names ≡ p.names
  lines : AllAlike LineRead s.lines p.lines

-- the names behind a line, and the line
record CheckedAs (p : Parsing) (number : ℕ) (ts : List Token) (names : List (List ℕ × ℤ)) (q : Parsing) : Type 0 where
  names_are : names ≡ q.names
  line : ParsedLine
  is : parsed number ts ≡ Ok line
  lines_are : q.lines ≡ p.lines ++ line ∷ []

-- a statement is checked, and what follows
abbrev checks : {A B : Type 0} → Result A LineFault → B → Result B LineFault
checks r after = (r >>= λ _. Ok (tt {0})) >>= λ _. Ok after

module _ (p : Parsing) (number : ℕ) (ts : List Token) where
  -- a statement that is checked, and one that is read
  goes_on : (line : Statement (List Step) → ParsedLine) (names : List (List ℕ × ℤ)) (r : Result (Statement Outcome) LineFault)
      (q : Result (Statement (List Step)) LineFault) → AlikeBy (StatementAlike (Puts (values names 0))) r q
      → parsed number ts ≡ (q >>= λ st. Ok (line st)) → (after : List (List ℕ × ℤ))
      → Alike (CheckedAs p number ts) (checks r after)
      ((q >>= λ st. Ok (line st)) >>= λ line. Ok (record { names = after; lines = p.lines ++ line ∷ [] }))
  goes_on line names (Ok st) (Ok other) so is after = alike_ok (record { names_are = refl; line = line other; is = is; lines_are = refl })
  goes_on line names (Ok st) (Err f) so is after = absurd so
  goes_on line names (Err e) (Ok other) so is after = absurd so
  goes_on line names (Err e) (Err f) so is after = rw so alike_err

  -- the same under the test for a label that is new
  with_new : (given : Bool) (f : LineFault) (line : Statement (List Step) → ParsedLine) (names after : List (List ℕ × ℤ))
      (r : Result (Statement Outcome) LineFault) (q : Result (Statement (List Step)) LineFault)
      → AlikeBy (StatementAlike (Puts (values names 0))) r q → parsed number ts ≡ (q >>= λ st. Ok (line st))
      → Alike (CheckedAs p number ts) (if given then Err f else checks r after)
      ((if given then Err f else Ok after) >>= λ names. (q >>= λ st. Ok (line st)) >>= λ line. Ok
      (record { names = names; lines = p.lines ++ line ∷ [] }))
  with_new true f line names after r q so is = alike_err
  with_new false f line names after r q so is = goes_on line names r q so is after

  -- the line behind a label, if there is one
  abbrev behind : Option (List ℕ) → List Token
  behind label = if is_some label then drop 2 ts else ts

  abbrev line_with : Option (List ℕ) → Statement (List Step) → ParsedLine
  line_with label st = record { number = number; end = end_of ts; label = label; column = column_of (behind label); statement = st }

  parsed_as : (label : Option (List ℕ)) → label_of ts ≡ label
      → parsed number ts ≡ (statement formulas (is_some label) (behind label) >>= λ st. Ok (line_with label st))
  unfolding parsed
  parsed_as label is = rw (← is) refl

  checked_by : (label : Option (List ℕ)) → label_of ts ≡ label → Alike (CheckedAs p number ts) (check_with p.names ts label)
      (names_after p.names ts label >>= λ names. parsed number ts >>= λ line. Ok (record { names = names; lines = p.lines ++ line ∷ [] }))
  checked_by None is =
      let has = parsed_as None is in
      rw has
      (goes_on (line_with None) p.names (statement (values p.names 0) false ts) (statement formulas false ts)
      (statement_read (values p.names 0) false ts).is has p.names)
  checked_by (Some name) is =
      let has = parsed_as (Some name) is in
      let rest : behind_label ts ≡ drop 2 ts = rw is refl in
      rw (has, rest)
      (with_new (is_some (value_of p.names name)) (twice (column_of ts)) (line_with (Some name)) p.names (with_name p.names name (pos 0))
      (statement (values p.names 0) true (drop 2 ts)) (statement formulas true (drop 2 ts))
      (statement_read (values p.names 0) true (drop 2 ts)).is has)

  checked_alike : Alike (CheckedAs p number ts) (check p.names ts) (parse_tokens number p ts)
  checked_alike = checked_by (label_of ts) refl

-- a line more
read_on : (s : Reading) (p : Parsing) (number : ℕ) (ts : List Token) → AllAlike LineRead s.lines p.lines
    → (r : Result (List (List ℕ × ℤ)) LineFault) (q : Result Parsing LineFault) → AlikeBy (CheckedAs p number ts) r q
    → Alike ReadAs (in_line number ts r >>= λ names. Ok (record { names = names; lines = s.lines ++ (record { number = number; tokens = ts }) ∷ [] }))
    (in_line number ts q)
read_on s p number ts so_far (Ok names) (Ok q) so =
    alike_ok (record {
      names = so.names_are;
      lines = rw so.lines_are (alike_push so_far so.is);
    })
read_on s p number ts so_far (Ok names) (Err f) so = absurd so
read_on s p number ts so_far (Err e) (Ok q) so = absurd so
read_on s p number ts so_far (Err e) (Err f) so = rw so alike_err

numbered_alike : (number : ℕ) (s : Reading) (p : Parsing) (l : List ℕ) → ReadAs s p → Alike ReadAs (read_numbered number s l) (parse_numbered number p l)
numbered_alike number s p l so =
    alike_then (alike_self {R = Same} (line_tokens number l) (λ ts. refl)) (λ ts us same.
    rw (same, so.names)
    (read_on s p number us so.lines (check p.names us) (parse_tokens number p us) (checked_alike p number us).is))

line_alike : (s : Reading) (p : Parsing) (l k : List ℕ) → ReadAs s p → l ≡ k → Alike ReadAs (read_line s l) (parse_line p k)
unfolding read_line parse_line
line_alike s p l k so same = rw (same, alike_length so.lines) (numbered_alike (length p.lines + 1) s p k so)

lines_alike : (ls : List (List ℕ)) → Alike ReadAs (read_lines no_reading ls) (parse_lines no_parsing ls)
unfolding no_reading no_parsing
lines_alike ls =
    steps_alike ReadAs Same read_line parse_line line_alike (alike_each ls (λ l. refl)) no_reading no_parsing
    (record { names = refl; lines = none_alike })

-- a line more is read of each
pub parse_line_adds : (s t : Parsing) (bytes : List ℕ) → parse_line s bytes ≡ Ok t → length t.lines ≡ length s.lines + 1
unfolding parse_line
parse_line_adds s t bytes h =
    let number : ℕ = length s.lines + 1 in
    read-ok (length t.lines ≡ number) (line_tokens number bytes) _ t h (λ ts at_ts h.
    let told = in_line-ok number ts (parse_tokens number s ts) t h in
    read-ok (length t.lines ≡ number) (names_after s.names ts (label_of ts)) _ t told (λ names at_names h.
    read-ok (length t.lines ≡ number) (parsed number ts) _ t h (λ line at_line h.
    let is : record { names = names; lines = s.lines ++ line ∷ [] } ≡ t = cc h in
    ap (λ (p : Parsing). length p.lines) (sym is) ∙ length-append s.lines (line ∷ []))))

-- ---- the second pass

abbrev PlaceRead : PlacedLine → ParsedPlace → Type 0
PlaceRead a b = (a.address ≡ b.address) × LineRead a.line b.line

record LaidAs (s : Layout PlacedLine) (t : Layout ParsedPlace) : Type 0 where
  here : s.here ≡ t.here
  names : s.names ≡ t.names
  filled : s.filled ≡ t.filled
  placed : AllAlike PlaceRead s.placed t.placed

labelled_alike : (label : Option (List ℕ)) (v : ℤ) (s : Layout PlacedLine) (t : Layout ParsedPlace) → LaidAs s t
    → LaidAs (with_label label v s) (with_label label v t)
labelled_alike None v s t so = so
labelled_alike (Some name) v s t so = record {
  here = so.here;
  names = ap (λ n. with_name n name v) so.names;
  filled = so.filled;
  placed = so.placed;
}

fits_alike : (room : Room) (column : Option ℕ) (size : ℕ) (s : Layout PlacedLine) (t : Layout ParsedPlace) → LaidAs s t
    → fits room column size s ≡ fits room column size t
fits_alike room column size s t so = rw (so.here, so.filled) refl

after_alike : (room : Room) (label : Option (List ℕ)) (column : Option ℕ) (s : Layout PlacedLine) (t : Layout ParsedPlace) (effect : Effect) → LaidAs s t
    → Alike LaidAs (layout_after room label column s effect) (layout_after room label column t effect)
after_alike room label column s t (Names o) so =
    alike_then (alike_self {R = Same} (operand_value o) (λ v. refl)) (λ v w same. rw same (alike_ok (labelled_alike label w s t so)))
after_alike room label column s t (Moves o) so =
    let behind = rw so.here at (labelled_alike label (pos s.here) s t so) in
    alike_then (alike_self {R = Same} (unsigned_value 65535 o) (λ v. refl)) (λ v w same. rw (same, so.here)
    (alike_ok (record { here = refl; names = behind.names; filled = behind.filled; placed = behind.placed })))
after_alike room label column s t (Fills size) so =
    let behind = rw so.here at (labelled_alike label (pos s.here) s t so) in
    rw (fits_alike room column size s t so, so.here)
    (alike_then (alike_self {R = Same} (fits room column size t) (λ u. refl)) (λ u v same.
    alike_ok (record {
      here = rw behind.here refl;
      names = behind.names;
      filled = rw (behind.here, behind.filled) refl;
      placed = behind.placed;
    })))

place_alike : (room : Room) (s : Layout PlacedLine) (t : Layout ParsedPlace) (l : Line) (p : ParsedLine) → LaidAs s t → LineRead l p
    → Alike LaidAs (place room s l) (place_parsed room t p)
unfolding place settle place_parsed settle_parsed
place_alike room s t l p so read =
    let ts : List Token = l.tokens in
    let from = parsed_from l.number ts p read in
    let has : Statement Outcome = statement_valued (formula_value OutOfRange (values t.names t.here)) from.st in
    let at_t = statement_with_values OutOfRange (values t.names t.here) (is_some (label_of ts)) (behind_label ts) from.st from.at_st in
    let valued : statement (values s.names s.here) (is_some (label_of ts)) (behind_label ts) ≡ Ok has = rw (so.names, so.here) at_t in
    let goes = after_alike room (label_of ts) (column_of (behind_label ts)) s t (effect_of has) so in
    let same : LineRead l (line_of l.number ts from.st) = rw from.is read in
    subst (λ (q : ParsedLine). Alike LaidAs (place room s l) (place_parsed room t q)) from.is
    (rw valued
    (alike_then (in_line_alike l.number (end_of ts) goes) (λ u v now.
    alike_ok (record {
      here = now.here;
      names = now.names;
      filled = now.filled;
      placed = alike_push now.placed (so.here, same);
    }))))

-- ---- the third pass

emit_alike : (names : List (List ℕ × ℤ)) (table other : List (Option ℕ)) (a : PlacedLine) (b : ParsedPlace) → table ≡ other → PlaceRead a b
    → Alike Same (emit names table a) (emit_parsed names other b)
unfolding emit line_bytes emit_parsed parsed_bytes
emit_alike names table other a b same so =
    let ts : List Token = a.line.tokens in
    let from = parsed_from a.line.number ts b.line so.1 in
    let valued = statement_with_values OutOfRange (values names b.address) (is_some (label_of ts)) (behind_label ts) from.st from.at_st in
    rw (same, so.0, ← from.is, valued) (alike_self _ (λ t. refl))

-- ---- the image

pub image_read_once : (size : ℕ) (text : List ℕ) (room : Room) → image_in size text room ≡ image_parsed size text room
unfolding image_in image_parsed
image_read_once size text room = alike_same
    (alike_then (lines_alike (lines text)) (λ s p read.
    alike_then
    (steps_alike LaidAs LineRead (place room) (place_parsed room) (place_alike room) read.lines (no_layout size) (no_layout size)
    (record { here = refl; names = refl; filled = refl; placed = none_alike }))
    (λ laid other now.
    rw now.names
    (alike_then
    (steps_alike Same PlaceRead (emit other.names) (emit_parsed other.names) (emit_alike other.names) now.placed (no_bytes size) (no_bytes size) refl)
    (λ table same is. alike_ok (rw is refl))))))

image_parsed_of : (text : List ℕ) (room : Room) → image_of text room ≡ image_parsed 65536 text room
unfolding image_of
image_parsed_of text room = image_read_once 65536 text room

-- ---- what the passes of a call give

pub no_lines : length no_parsing.lines ≡ 0
unfolding no_parsing
no_lines = refl

module _ (text : List ℕ) (room : Room) where
  pub image_whole : (read : Parsing) (laid : Layout ParsedPlace) (table : List (Option ℕ)) → parse_lines no_parsing (lines text) ≡ Ok read
      → place_all_parsed room (no_layout 65536) read.lines ≡ Ok laid → emit_all_parsed laid.names (no_bytes 65536) laid.placed ≡ Ok table
      → image_of text room ≡ Ok (record { bytes = ascending 0 table; symbols = laid.names })
  unfolding image_parsed
  image_whole read laid table at_read at_laid at_table = image_parsed_of text room ∙ rw (at_read, at_laid, at_table) refl

  pub stops_reading : (stop : ReadError AsmFault) → Says {A = Parsing} (Err stop) (parse_lines no_parsing (lines text))
      → Says {A = Picture} (Err stop) (image_of text room)
  unfolding image_parsed
  stops_reading (answer.Fault fault) says = image_parsed_of text room ∙ rw says refl
  stops_reading answer.Memory says = tt

  pub stops_placing : (stop : ReadError AsmFault) (read : Parsing) → parse_lines no_parsing (lines text) ≡ Ok read
      → Says {A = Layout ParsedPlace} (Err stop) (place_all_parsed room (no_layout 65536) read.lines)
      → Says {A = Picture} (Err stop) (image_of text room)
  unfolding image_parsed
  stops_placing (answer.Fault fault) read at_read says = image_parsed_of text room ∙ rw (at_read, says) refl
  stops_placing answer.Memory read at_read says = tt

  pub stops_emitting : (stop : ReadError AsmFault) (read : Parsing) (laid : Layout ParsedPlace) → parse_lines no_parsing (lines text) ≡ Ok read
      → place_all_parsed room (no_layout 65536) read.lines ≡ Ok laid
      → Says {A = List (Option ℕ)} (Err stop) (emit_all_parsed laid.names (no_bytes 65536) laid.placed)
      → Says {A = Picture} (Err stop) (image_of text room)
  unfolding image_parsed
  stops_emitting (answer.Fault fault) read laid at_read at_laid says = image_parsed_of text room ∙ rw (at_read, at_laid, says) refl
  stops_emitting answer.Memory read laid at_read at_laid says = tt
