-- A text names no more than it has lines, and has no more lines than bytes.
use Rattle.std.proofs.Common.{◌≡◌, ℕ, ℤ, pos, ◌+◌, ◌≤◌, Bool, true, false, cond, List, [], ◌∷◌, length, length-append}
use Rattle.std.proofs.Common.{Option, Some, None, Result, Ok, Err, bytes_eq, arith}
use Rattle.std.specs.Prelude.{IfOk, ◌&&◌, ◌==◌}
use Rattle.asm_text.specs.declared.answers.Token.{Token}
use Rattle.f8_asm.specs.declared.answers.AsmFault.{AsmFault}
use Rattle.f8_asm.specs.declared.answers.Room.{Room}
use Rattle.f8_asm.specs.declared.faults.LineFault.{LineFault}
use Rattle.f8_asm.specs.declared.operands.Effect.{Effect}
use Rattle.f8_asm.specs.declared.operands.Effect.TheVariants.{Names, Moves, Fills}
use Rattle.f8_asm.specs.Answers.{◌>>=◌}
use Rattle.f8_asm.specs.Evaluation.{values}
use Rattle.f8_asm.specs.Grammar.{column_of}
use Rattle.f8_asm.specs.Image.{Picture, image_in, image_of}
use Rattle.f8_asm.specs.Judging.{operand_value, unsigned_value}
use Rattle.text_lines.specs.Lines.{lines, begins, with_first}
use Rattle.f8_asm.specs.Names.{with_name}
use Rattle.f8_asm.specs.PassOne.{Reading, line_tokens, in_line, check, read_line, read_lines, no_reading}
use Rattle.f8_asm.specs.PassThree.{no_bytes, emit_lines}
use Rattle.f8_asm.specs.PassTwo.{Layout, with_label, fits, layout_after, settle, place, place_lines, no_layout}
use Rattle.f8_asm.specs.Statements.{statement, label_of, behind_label, effect_of}
use Rattle.f8_asm.specs.Steps.{steps}
use Rattle.f8_asm.specs.TokenLines.{Line, PlacedLine}
use Rattle.f8_asm.proofs.Alike.{read-ok}

-- ---- what was read, if anything was

any : {A E : Type 0} (r : Result A E) → IfOk r (λ x. Unit {0})
any (Ok x) = tt
any (Err e) = tt

then : {A B E : Type 0} (r : Result A E) (f : A → Result B E) (P : A → Type 0) (Q : B → Type 0) → IfOk r P → ((x : A) → P x → IfOk (f x) Q) → IfOk (r >>= f) Q
then (Ok x) f P Q first next = next x first
then (Err e) f P Q first next = tt

placed_in_line : {A : Type 0} (number : ℕ) (ts : List Token) (r : Result A LineFault) (P : A → Type 0) → IfOk r P → IfOk (in_line number ts r) P
placed_in_line number ts (Ok x) P holds = holds
placed_in_line number ts (Err fault) P holds = tt

-- ---- a line adds a name at most

one_of : {A : Type 0} (b : Bool) (x y : List A) (most : ℕ) → length x ≤ most → length y ≤ most → length (cond b x y) ≤ most
one_of true x y most h k = h
one_of false x y most h k = k

with_name_adds : (names : List (List ℕ × ℤ)) (name : List ℕ) (v : ℤ) → length (with_name names name v) ≤ length names + 1
with_name_adds [] name v = omega arith
with_name_adds (e ∷ es) name v =
    let behind = with_name_adds es name v in
    one_of (bytes_eq name e.0) ((e.0, v) ∷ es) (e ∷ with_name es name v) (length (e ∷ es) + 1) (omega arith) (omega arith)

with_label_adds : (label : Option (List ℕ)) (v : ℤ) (s : Layout PlacedLine) → length (with_label label v s).names ≤ length s.names + 1
with_label_adds None v s = omega arith
with_label_adds (Some name) v s = with_name_adds s.names name v

abbrev AddsOne : Layout PlacedLine → Layout PlacedLine → Type 0
AddsOne s t = length t.names ≤ length s.names + 1

settled_adds : (room : Room) (label : Option (List ℕ)) (column : Option ℕ) (s : Layout PlacedLine) (effect : Effect) →
    IfOk (layout_after room label column s effect) (AddsOne s)
settled_adds room label column s (Names o) =
    then (operand_value o) (λ v. Ok (with_label label v s)) (λ v. Unit {0}) (AddsOne s) (any (operand_value o)) (λ v _. with_label_adds label v s)
settled_adds room label column s (Moves o) =
    then (unsigned_value 65535 o) _ (λ v. Unit {0}) (AddsOne s) (any (unsigned_value 65535 o)) (λ _ _. with_label_adds label (pos s.here) s)
settled_adds room label column s (Fills size) =
    then (fits room column size s) _ (λ v. Unit {0}) (AddsOne s) (any (fits room column size s)) (λ _ _. with_label_adds label (pos s.here) s)

settle_adds : (room : Room) (s : Layout PlacedLine) (ts : List Token) → IfOk (settle room s ts) (AddsOne s)
unfolding settle
settle_adds room s ts =
    let read = statement (values s.names s.here) _ (behind_label ts) in
    then read _ (λ st. Unit {0}) (AddsOne s) (any read) (λ st _. settled_adds room (label_of ts) (column_of (behind_label ts)) s (effect_of st))

place_adds : (room : Room) (s : Layout PlacedLine) (l : Line) → IfOk (place room s l) (AddsOne s)
unfolding place
place_adds room s l =
    then (in_line l.number l.tokens (settle room s l.tokens)) _ (AddsOne s) (AddsOne s)
    (placed_in_line l.number l.tokens (settle room s l.tokens) (AddsOne s) (settle_adds room s l.tokens))
    (λ t adds. adds)

place_lines_adds : (room : Room) (s : Layout PlacedLine) (ls : List Line) → IfOk (place_lines room s ls) (λ t. length t.names ≤ length s.names + length ls)
unfolding steps
place_lines_adds room s [] = omega arith
place_lines_adds room s (l ∷ ls) =
    then (place room s l) _ (AddsOne s) (λ t. length t.names ≤ length s.names + length (l ∷ ls)) (place_adds room s l)
    (λ t adds. more t adds (place_lines room t ls) (place_lines_adds room t ls))
  where
    more : (t : Layout PlacedLine) → AddsOne s t → (r : Result (Layout PlacedLine) AsmFault) →
        IfOk r (λ u. length u.names ≤ length t.names + length ls) →
        IfOk r (λ u. length u.names ≤ length s.names + length (l ∷ ls))
    more t adds (Ok u) h = omega arith
    more t adds (Err e) h = tt

-- ---- a text has as many lines as are read, and each takes a byte

abbrev OneLine : Reading → Reading → Type 0
OneLine s t = length t.lines ≤ length s.lines + 1

read_line_adds : (s : Reading) (bytes : List ℕ) → IfOk (read_line s bytes) (OneLine s)
unfolding read_line
read_line_adds s bytes =
    let number : ℕ = length s.lines + 1 in
    then (line_tokens number bytes) _ (λ ts. Unit {0}) (OneLine s) (any (line_tokens number bytes))
    (λ ts _. then (in_line number ts (check s.names ts)) _ (λ names. Unit {0}) (OneLine s) (any (in_line number ts (check s.names ts)))
    (λ names _. omega (arith, length-append s.lines ((record { number = number; tokens = ts }) ∷ []))))

read_lines_adds : (s : Reading) (ls : List (List ℕ)) → IfOk (read_lines s ls) (λ t. length t.lines ≤ length s.lines + length ls)
unfolding steps
read_lines_adds s [] = omega arith
read_lines_adds s (l ∷ ls) =
    then (read_line s l) _ (OneLine s) (λ t. length t.lines ≤ length s.lines + length (l ∷ ls)) (read_line_adds s l)
    (λ t adds. more t adds (read_lines t ls) (read_lines_adds t ls))
  where
    more : (t : Reading) → OneLine s t → (r : Result Reading AsmFault) →
        IfOk r (λ u. length u.lines ≤ length t.lines + length ls) →
        IfOk r (λ u. length u.lines ≤ length s.lines + length (l ∷ ls))
    more t adds (Ok u) h = omega arith
    more t adds (Err e) h = tt

with_first_adds : (b : ℕ) (ls : List (List ℕ)) → length (with_first b ls) ≤ length ls + 1
with_first_adds b [] = omega arith
with_first_adds b (l ∷ ls) = omega arith

-- there may be a first line more, or not
few_lines : (text : List ℕ) → length (lines text) ≤ length text
few_lines [] = omega arith
few_lines (b ∷ bs) =
    let behind = few_lines bs in
    let others = one_of ((b == 13) && begins 10 bs) (lines bs) (with_first b (lines bs)) (length (b ∷ bs)) (omega arith)
    (omega (arith, with_first_adds b (lines bs))) in
    one_of (b == 10) ([] ∷ lines bs) (cond ((b == 13) && begins 10 bs) (lines bs) (with_first b (lines bs))) (length (b ∷ bs)) (omega arith) others

few_names : (size : ℕ) (text : List ℕ) (room : Room) (read : Reading) (laid : Layout PlacedLine) →
    read_lines no_reading (lines text) ≡ Ok read → place_lines room (no_layout size) read.lines ≡ Ok laid →
    length laid.names ≤ length text
unfolding no_reading
few_names size text room read laid reads places =
    let lines_read : length read.lines ≤ 0 + length (lines text) = rw reads at (read_lines_adds no_reading (lines text)) in
    let names_laid : length laid.names ≤ 0 + length read.lines = rw places at (place_lines_adds room (no_layout size) read.lines) in
    omega (arith, few_lines text)

-- an image has no more symbols than its text has bytes
pub few_symbols : (text : List ℕ) (room : Room) (picture : Picture) → image_of text room ≡ Ok picture → length picture.symbols ≤ length text
unfolding image_of image_in
few_symbols text room picture h =
    read-ok (length picture.symbols ≤ length text) (read_lines no_reading (lines text)) _ picture h (λ read at_read h.
    read-ok (length picture.symbols ≤ length text) (place_lines room (no_layout 65536) read.lines) _ picture h (λ laid at_laid h.
    read-ok (length picture.symbols ≤ length text) (emit_lines laid.names (no_bytes 65536) laid.placed) _ picture h (λ table at_table h.
    let same : laid.names ≡ picture.symbols = cc h in
    let few = few_names 65536 text room read laid at_read at_laid in
    rw (← same) few)))
