-- The fault that three passes tell is the first in the earliest of them.
use Rattle.std.proofs.Common.{◌≡◌, ℕ, ◌+◌, ℤ, List, [], ◌∷◌, ◌++◌, length, length-append, Option, Result, Ok, Err, refl}
use Rattle.std.proofs.Common.{sym, ap, ◌∙◌, subst, arith, append_assoc, append-nil}
use Rattle.std.specs.Prelude.{map, is_some, Bool, true, false, if◌then◌else◌}
use Rattle.std.proofs.lemmas.List.{map-append, length-map}
use Rattle.std.specs.Str.{is_utf8}
use Rattle.asm_text.specs.Tokens.{tokens_of}
use Rattle.asm_text.specs.declared.answers.Token.{Token}
use Rattle.asm_text.specs.declared.answers.TokenFault.{TokenFault}
use Rattle.asm_text.specs.declared.answers.TokenFault.TheVariants as token
use Rattle.text_lines.specs.Lines.{lines}
use Rattle.text_lines.specs.declared.read_error.ReadError.{ReadError}
use Rattle.text_lines.specs.declared.read_error.ReadError.TheVariants as answer
use Rattle.f8_asm.specs.declared.answers.AsmCause.TheVariants as cause
use Rattle.f8_asm.specs.declared.answers.AsmFault.{AsmFault}
use Rattle.f8_asm.specs.declared.answers.Room.{Room}
use Rattle.f8_asm.specs.declared.faults.LineFault.{LineFault}
use Rattle.f8_asm.specs.Answers.{◌>>=◌}
use Rattle.text_lines.specs.ReadErrors.{Says}
use Rattle.f8_asm.specs.FirstFault.{AreStatements, ArePlaced, IsFirstFault, no_statement, no_place, no_bytes, HasNoFault, TellsFault}
use Rattle.f8_asm.specs.Evaluation.{values}
use Rattle.f8_asm.specs.Grammar.{column_of}
use Rattle.f8_asm.specs.Image.{Picture, image_in, image_of}
use Rattle.f8_asm.specs.PassOne.{in_line, tokens_in, line_tokens, check, Reading, read_numbered, read_line, read_lines, no_reading}
use Rattle.f8_asm.specs.PassTwo.{Layout, no_layout, settle, place, place_lines}
use Rattle.f8_asm.specs.PassThree.{no_bytes as no_bytes_yet, line_bytes, emit, emit_lines}
use Rattle.f8_asm.specs.Statements.{statement, label_of, behind_label, effect_of}
use Rattle.f8_asm.specs.Steps.{steps}
use Rattle.f8_asm.specs.TokenLines.{Line, PlacedLine}
use Rattle.f8_asm.proofs.Alike.{read-ok}
use Rattle.f8_asm.proofs.ImageRooms.{in_line-ok, layout_after-inside}
use Rattle.f8_asm.proofs.Steps.{first_failing}

-- ---- a fault has its line's number

at_line : {A B : Type 0} (number : ℕ) (ts : List Token) (r : Result A LineFault) (f : A → Result B AsmFault) (fault : AsmFault)
    → ((x : A) → f x ≡ Err fault → fault.line ≡ number) → (in_line number ts r >>= f) ≡ Err fault → fault.line ≡ number
at_line number ts (Ok x) f fault behind fault_in_line = behind x fault_in_line
at_line number ts (Err own) f fault behind fault_in_line = cc

abbrev as_answer : {A : Type 0} → A → Result A AsmFault
as_answer x = Ok x

no_fault : {A : Type 0} (x : A) (fault : AsmFault) (number : ℕ) → as_answer x ≡ Err fault → fault.line ≡ number
no_fault x fault number fault_in_line = cc

token_line : {B : Type 0} (number : ℕ) (r : Result (List Token) TokenFault) (f : List Token → Result B AsmFault) (fault : AsmFault)
    → ((ts : List Token) → f ts ≡ Err fault → fault.line ≡ number) → (tokens_in number r >>= f) ≡ Err fault → fault.line ≡ number
token_line number (Ok ts) f fault behind fault_in_line = behind ts fault_in_line
token_line number (Err (token.Bad column)) f fault behind fault_in_line = cc
token_line number (Err (token.Wide column)) f fault behind fault_in_line = cc
token_line number (Err token.Memory) f fault behind fault_in_line = cc

tokens_line : {B : Type 0} (number : ℕ) (b : Bool) (r : Result (List Token) TokenFault) (f : List Token → Result B AsmFault) (fault : AsmFault)
    → ((ts : List Token) → f ts ≡ Err fault → fault.line ≡ number)
    → ((if b then tokens_in number r else Err (record { line = number; column = 1; cause = cause.Utf8 })) >>= f) ≡ Err fault → fault.line ≡ number
tokens_line number true r f fault behind fault_in_line = token_line number r f fault behind fault_in_line
tokens_line number false r f fault behind fault_in_line = cc

read_numbered-line : (number : ℕ) (s : Reading) (l : List ℕ) (fault : AsmFault) → read_numbered number s l ≡ Err fault → fault.line ≡ number
read_numbered-line number s l fault fault_in_line =
    unfold line_tokens in tokens_line number (is_utf8 l) (tokens_of l) _ fault
    (λ ts. at_line number ts (check s.names ts) _ fault (λ names. no_fault _ fault number)) fault_in_line

read_line-line : (s : Reading) (l : List ℕ) (fault : AsmFault) → read_line s l ≡ Err fault → fault.line ≡ length s.lines + 1
unfolding read_line
read_line-line s l fault fault_in_line = read_numbered-line (length s.lines + 1) s l fault fault_in_line

place-line : (room : Room) (s : Layout PlacedLine) (l : Line) (fault : AsmFault) → place room s l ≡ Err fault → fault.line ≡ l.number
place-line room s l fault fault_in_line = unfold place in
    at_line l.number l.tokens (settle room s l.tokens) _ fault (λ t. no_fault _ fault l.number) fault_in_line

emit-line : (names : List (List ℕ × ℤ)) (table : List (Option ℕ)) (p : PlacedLine) (fault : AsmFault) →
    emit names table p ≡ Err fault → fault.line ≡ p.line.number
emit-line names table p fault fault_in_line =
    unfold emit in at_line p.line.number p.line.tokens (line_bytes names p.address p.line.tokens) _ fault (λ bs. no_fault _ fault p.line.number) fault_in_line

-- ---- lines are numbered from 1

abbrev AreNumbered : ℕ → List Line → Type 0
AreNumbered n [] = Unit {0}
AreNumbered n (l ∷ ls) = (l.number ≡ n) × AreNumbered (n + 1) ls

numbered_more : (n : ℕ) (ls : List Line) (l : Line) → AreNumbered n ls → l.number ≡ n + length ls → AreNumbered n (ls ++ l ∷ [])
numbered_more n [] l are is = (omega (arith, is), tt)
numbered_more n (k ∷ ls) l are is = (are.0, numbered_more (n + 1) ls l are.1 (omega arith))

number_at : (n : ℕ) (before : List Line) (l : Line) (behind : List Line) → AreNumbered n (before ++ l ∷ behind) → l.number ≡ n + length before
number_at n [] l behind are = let first = are.0 in omega arith
number_at n (k ∷ before) l behind are = let later = number_at (n + 1) before l behind are.1 in omega arith

-- a line that is read stands behind the others, with its number
record ReadMore (s t : Reading) : Type 0 where
  ts : List Token
  lines_are : t.lines ≡ s.lines ++ (record { number = length s.lines + 1; tokens = ts }) ∷ []

read_more : (s t : Reading) (l : List ℕ) → read_line s l ≡ Ok t → ReadMore s t
unfolding read_line
read_more s t l h =
    let number : ℕ = length s.lines + 1 in
    read-ok (ReadMore s t) (line_tokens number l) _ t h (λ ts at_ts h.
    read-ok (ReadMore s t) (in_line number ts (check s.names ts)) _ t h (λ names at_names h.
    let line : Line = record { number = number; tokens = ts } in
    let is : record { names = names; lines = s.lines ++ line ∷ [] } ≡ t = cc h in
    record { ts = ts; lines_are = sym (ap (λ (r : Reading). r.lines) is) }))

read_lines_numbered : (s t : Reading) (ls : List (List ℕ)) → AreNumbered 1 s.lines → read_lines s ls ≡ Ok t → AreNumbered 1 t.lines
unfolding steps
read_lines_numbered s t [] are h =
    let same : s ≡ t = cc h in
    subst (λ (r : Reading). AreNumbered 1 r.lines) same are
read_lines_numbered s t (l ∷ ls) are h =
    read-ok (AreNumbered 1 t.lines) (read_line s l) _ t h (λ u at_u h.
    let more = read_more s u l at_u in
    let next : AreNumbered 1 u.lines = rw more.lines_are
    (numbered_more 1 s.lines (record { number = length s.lines + 1; tokens = more.ts }) are (omega arith)) in
    read_lines_numbered u t ls next h)

read_lines_count : (s t : Reading) (ls : List (List ℕ)) → read_lines s ls ≡ Ok t → length t.lines ≡ length s.lines + length ls
unfolding steps
read_lines_count s t [] h =
    let same : s ≡ t = cc h in
    let many = ap (λ (r : Reading). length r.lines) same in
    omega (arith, many)
read_lines_count s t (l ∷ ls) h =
    read-ok (length t.lines ≡ length s.lines + length (l ∷ ls)) (read_line s l) _ t h (λ u at_u h.
    let more = read_more s u l at_u in
    let one = ap length more.lines_are ∙ length-append s.lines ((record { number = length s.lines + 1; tokens = more.ts }) ∷ []) in
    let others = read_lines_count u t ls h in
    omega (arith, one, others))

-- the lines of a layout are those that were placed
abbrev lines_in : List PlacedLine → List Line
lines_in ps = map (λ p. p.line) ps

placed_line : (room : Room) (s t : Layout PlacedLine) (l : Line) → place room s l ≡ Ok t → lines_in t.placed ≡ lines_in s.placed ++ l ∷ []
unfolding place settle
placed_line room s t l h =
    let p : PlacedLine = record { address = s.here; line = l } in
    read-ok (lines_in t.placed ≡ lines_in s.placed ++ l ∷ []) (in_line l.number l.tokens (settle room s l.tokens)) _ t h (λ u at_u h.
    read-ok (lines_in t.placed ≡ lines_in s.placed ++ l ∷ []) (statement (values s.names s.here) (is_some (label_of l.tokens)) (behind_label l.tokens)) _ u
    (in_line-ok l.number l.tokens (settle room s l.tokens) u at_u) (λ st at_st e.
    let did = layout_after-inside room (label_of l.tokens) (column_of (behind_label l.tokens)) s u (effect_of st) e in
    let more : u.placed ++ p ∷ [] ≡ t.placed = cc h in
    ap lines_in (sym more) ∙ map-append (λ (q : PlacedLine). q.line) u.placed (p ∷ []) ∙ ap (λ ps. lines_in ps ++ l ∷ []) did.placed))

placed_lines : (room : Room) (s t : Layout PlacedLine) (ls : List Line) → place_lines room s ls ≡ Ok t → lines_in t.placed ≡ lines_in s.placed ++ ls
unfolding steps
placed_lines room s t [] h =
    let same : s ≡ t = cc h in
    ap (λ (r : Layout PlacedLine). lines_in r.placed) (sym same) ∙ sym (append-nil (lines_in s.placed))
placed_lines room s t (l ∷ ls) h =
    read-ok (lines_in t.placed ≡ lines_in s.placed ++ l ∷ ls) (place room s l) _ t h (λ u at_u h.
    placed_lines room u t ls h ∙ ap (λ (ks : List Line). ks ++ ls) (placed_line room s u l at_u) ∙ append_assoc (lines_in s.placed) (l ∷ []) ls)

number_of_line : (read : Reading) (ls : List (List ℕ)) (before : List Line) (l : Line) (behind : List Line) → AreStatements ls read →
    read.lines ≡ before ++ l ∷ behind → l.number ≡ length before + 1
number_of_line read ls before l behind is parts =
    let numbered = read_lines_numbered no_reading read ls (unfold no_reading in tt) is in
    let number = number_at 1 before l behind (subst (AreNumbered 1) parts numbered) in
    omega arith

number_of_placed : (room : Room) (read : Reading) (laid : Layout PlacedLine) (ls : List (List ℕ)) (before : List PlacedLine)
    (p : PlacedLine) (behind : List PlacedLine) → AreStatements ls read → ArePlaced room read.lines laid → laid.placed ≡ before ++ p ∷ behind →
    p.line.number ≡ length before + 1
number_of_placed room read laid ls before p behind is placed parts =
    let lines_are = sym (placed_lines room (no_layout 65536) laid read.lines placed) ∙ ap lines_in parts
    ∙ map-append (λ (q : PlacedLine). q.line) before (p ∷ behind) in
    let number = number_of_line read ls (lines_in before) p.line (lines_in behind) is lines_are in
    let many = length-map before (λ (q : PlacedLine). q.line) in
    omega arith

-- ---- what an answer tells

read-err : {A B E : Type 0} (P : Type 0) (r : Result A E) (f : A → Result B E) (fault : E) → (r >>= f) ≡ Err fault → (r ≡ Err fault → P)
    → ((x : A) → r ≡ Ok x → f x ≡ Err fault → P) → P
read-err P (Ok x) f fault h here later = later x refl h
read-err P (Err e) f fault h here later = here cc

first_fault : (text : List ℕ) (room : Room) (fault : AsmFault) → image_of text room ≡ Err fault → IsFirstFault text room fault
unfolding image_of image_in
first_fault text room fault h =
    read-err (IsFirstFault text room fault) (read_lines no_reading (lines text)) _ fault h
    (λ fault_in_line.
    let first = first_failing read_line no_reading (lines text) fault fault_in_line in
    let many : length first.at.lines ≡ 0 + length first.before = unfold no_reading in read_lines_count no_reading first.at first.before first.taken in
    no_statement first.before first.x first.behind first.at first.parts first.taken first.fails
    (read_line-line first.at first.x fault first.fails ∙ (omega (arith, many))))
    (λ read is h. read-err (IsFirstFault text room fault) (place_lines room (no_layout 65536) read.lines) _ fault h
    (λ fault_in_line.
    let first = first_failing (place room) (no_layout 65536) read.lines fault fault_in_line in
    no_place read first.before first.x first.behind first.at is first.parts first.taken first.fails
    (place-line room first.at first.x fault first.fails ∙ number_of_line read (lines text) first.before first.x first.behind is first.parts))
    (λ laid placed h. read-err (IsFirstFault text room fault) (emit_lines laid.names (no_bytes_yet 65536) laid.placed) _ fault h
    (λ fault_in_line.
    let first = first_failing (emit laid.names) (no_bytes_yet 65536) laid.placed fault fault_in_line in
    no_bytes read laid first.before first.x first.behind first.at is placed first.parts first.taken first.fails
    (emit-line laid.names first.at first.x fault first.fails
    ∙ number_of_placed room read laid (lines text) first.before first.x first.behind is placed first.parts))
    (λ table given h. cc)))

pub no_fault_at : (text : List ℕ) (room : Room) (picture : Picture) → image_of text room ≡ Ok picture → HasNoFault text room
unfolding image_of image_in
no_fault_at text room picture h =
    read-ok (HasNoFault text room) (read_lines no_reading (lines text)) _ picture h (λ read is h.
    read-ok (HasNoFault text room) (place_lines room (no_layout 65536) read.lines) _ picture h (λ laid placed h.
    read-ok (HasNoFault text room) (emit_lines laid.names (no_bytes_yet 65536) laid.placed) _ picture h (λ table given h.
    record { read = read; laid = laid; table = table; statements = is; placed = placed; bytes = given })))

pub fault_answer : (text : List ℕ) (room : Room) (said : Result Picture (ReadError AsmFault)) → Says said (image_of text room) → TellsFault said text room
fault_answer text room (Ok picture) says = no_fault_at text room picture says
fault_answer text room (Err (answer.Fault fault)) says = first_fault text room fault says
fault_answer text room (Err answer.Memory) says = tt
