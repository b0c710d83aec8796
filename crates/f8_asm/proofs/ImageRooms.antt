-- The image of a text lies in its room.
use Rattle.std.proofs.Common.{◌≡◌, ℕ, zero, suc, ◌+◌, ◌<◌, ◌≤◌, ℤ, Bool, true, false, List, [], ◌∷◌, ◌++◌, length}
use Rattle.std.proofs.Common.{get_or, set, replicate, Option, Some, None, is_some, Result, Ok, Err, refl, sym, ap, ◌∙◌}
use Rattle.std.proofs.Common.{subst, arith, inl, inr}
use Rattle.std.specs.Prelude.{All, ◌==◌, nat_le, pos, if◌then◌else◌}
use Rattle.std.proofs.lemmas.Bool.{cases_eq, and_parts, leb-true}
use Rattle.std.proofs.lemmas.Bool.Decides.{nat_tests}
use Rattle.std.proofs.lemmas.List.{get_or-set_other}
use Rattle.std.proofs.lemmas.List.Kept.{AllPairs-cons}
use Rattle.std.proofs.lemmas.List.Elements.{All-nil, All-cons, All-head, All-tail, All-push}
use Rattle.asm_text.specs.declared.answers.Token.{Token}
use Rattle.f8_asm.specs.declared.answers.Room.{Room}
use Rattle.f8_asm.specs.declared.faults.LineFault.{LineFault}
use Rattle.f8_asm.specs.declared.operands.Effect.{Effect}
use Rattle.f8_asm.specs.declared.operands.Effect.TheVariants.{Names, Moves, Fills}
use Rattle.f8_asm.specs.declared.operands.Statement.{Statement}
use Rattle.f8_asm.specs.declared.values.Outcome.{Outcome}
use Rattle.f8_asm.specs.Evaluation.{values}
use Rattle.f8_asm.specs.Grammar.{column_of}
use Rattle.f8_asm.specs.Image.{Picture, ascending, image_in, image_of, LiesIn, Ascends}
use Rattle.f8_asm.specs.Judging.{operand_value, unsigned_value}
use Rattle.text_lines.specs.Lines.{lines}
use Rattle.f8_asm.specs.Marks.{is_free}
use Rattle.f8_asm.specs.PassOne.{in_line, no_reading, read_lines}
use Rattle.f8_asm.specs.PassTwo.{Layout, no_layout, is_inside, with_label, fits, layout_after, settle, place, place_lines}
use Rattle.f8_asm.specs.PassThree.{no_bytes, table_with, line_bytes, emit, emit_lines}
use Rattle.f8_asm.specs.Statements.{statement, label_of, behind_label, effect_of}
use Rattle.f8_asm.specs.Steps.{steps}
use Rattle.f8_asm.specs.TokenLines.{Line, PlacedLine}
use Rattle.f8_asm.proofs.Alike.{read-ok}
use Rattle.f8_asm.proofs.StatementsAlike.{layout_filled, statement_fills, bytes_of-length}

-- ---- the second pass places each line where its bytes are inside

-- a line's statement, by some values of names, fills bytes inside the room
record IsPlaced (room : Room) (p : PlacedLine) : Type 0 where
  names : List (List ℕ × ℤ)
  st : Statement Outcome
  is : statement (values names p.address) (is_some (label_of p.line.tokens)) (behind_label p.line.tokens) ≡ Ok st
  inside : is_inside room p.address (layout_filled (effect_of st)) ≡ true

label-placed : (label : Option (List ℕ)) (v : ℤ) (s : Layout PlacedLine) → (with_label label v s).placed ≡ s.placed
label-placed None v s = refl
label-placed (Some name) v s = refl

-- what a statement did
pub record Settled (room : Room) (s t : Layout PlacedLine) (effect : Effect) : Type 0 where
  pub placed : t.placed ≡ s.placed
  pub inside : is_inside room s.here (layout_filled effect) ≡ true

both-fit : (inside free : Bool) (e f : LineFault) (x : Unit {0}) → (if inside then (if free then Ok x else Err e) else Err f) ≡ Ok x → inside ≡ true
both-fit true free e f x h = refl
both-fit false free e f x h = cc h

pub fits-inside : (room : Room) (column : Option ℕ) (size : ℕ) (s : Layout PlacedLine) → fits room column size s ≡ Ok tt → is_inside room s.here size ≡ true
fits-inside room column size s h = both-fit (is_inside room s.here size) (is_free s.filled s.here size) _ _ tt h

pub layout_after-inside : (room : Room) (label : Option (List ℕ)) (column : Option ℕ) (s t : Layout PlacedLine) (effect : Effect) →
    layout_after room label column s effect ≡ Ok t → Settled room s t effect
layout_after-inside room label column s t (Names o) h =
    read-ok (Settled room s t (Names o)) (operand_value o) _ t h (λ v at_v h.
    let e : with_label label v s ≡ t = cc h in
    record { placed = sym (ap (λ (l : Layout PlacedLine). l.placed) e) ∙ label-placed label v s; inside = refl })
layout_after-inside room label column s t (Moves o) h =
    read-ok (Settled room s t (Moves o)) (unsigned_value 65535 o) _ t h (λ v at_v h.
    let move_op : (with_label label (pos s.here) s).placed ≡ t.placed = cc h in
    record { placed = sym move_op ∙ label-placed label (pos s.here) s; inside = refl })
layout_after-inside room label column s t (Fills size) h =
    read-ok (Settled room s t (Fills size)) (fits room column size s) _ t h (λ u at_u h.
    let filled : (with_label label (pos s.here) s).placed ≡ t.placed = cc h in
    record { placed = sym filled ∙ label-placed label (pos s.here) s; inside = fits-inside room column size s at_u })

pub in_line-ok : {A : Type 0} (number : ℕ) (ts : List Token) (r : Result A LineFault) (x : A) → in_line number ts r ≡ Ok x → r ≡ Ok x
in_line-ok number ts (Ok y) x h = cc h
in_line-ok number ts (Err fault) x h = cc h

place-placed : (room : Room) (s : Layout PlacedLine) (l : Line) (t : Layout PlacedLine) → place room s l ≡ Ok t
    → All (IsPlaced room) s.placed → All (IsPlaced room) t.placed
unfolding place settle
place-placed room s l t h so_far =
    let p : PlacedLine = record { address = s.here; line = l } in
    read-ok (All (IsPlaced room) t.placed) (in_line l.number l.tokens (settle room s l.tokens)) _ t h (λ u at_u h.
    read-ok (All (IsPlaced room) t.placed) (statement (values s.names s.here) (is_some (label_of l.tokens)) (behind_label l.tokens)) _ u
    (in_line-ok l.number l.tokens (settle room s l.tokens) u at_u) (λ st at_st e.
    let did = layout_after-inside room (label_of l.tokens) (column_of (behind_label l.tokens)) s u (effect_of st) e in
    let placed : u.placed ++ p ∷ [] ≡ t.placed = cc h in
    let one : IsPlaced room p = record { names = s.names; st = st; is = at_st; inside = did.inside } in
    subst (λ (ps : List PlacedLine). All (IsPlaced room) ps) placed
    (All-push (IsPlaced room) u.placed p (subst (λ (ps : List PlacedLine). All (IsPlaced room) ps) (sym did.placed) so_far) one)))

all-placed : (room : Room) (s : Layout PlacedLine) (ls : List Line) (t : Layout PlacedLine) → place_lines room s ls ≡ Ok t →
    All (IsPlaced room) s.placed → All (IsPlaced room) t.placed
unfolding steps
all-placed room s [] t h so_far =
    let e : s ≡ t = cc h in
    subst (λ (l : Layout PlacedLine). All (IsPlaced room) l.placed) e so_far
all-placed room s (l ∷ ls) t h so_far =
    read-ok (All (IsPlaced room) t.placed) (place room s l) _ t h (λ u at_u h. all-placed room u ls t h (place-placed room s l u at_u so_far))

-- ---- the third pass puts bytes inside alone

record InRoom (room : Room) (table : List (Option ℕ)) : Type 0 where
  at : (i b : ℕ) → get_or table i None ≡ Some b → (room.first ≤ i) × (i ≤ room.last)

set-in : (room : Room) (table : List (Option ℕ)) (place b : ℕ) → InRoom room table → (room.first ≤ place) × (place ≤ room.last)
    → InRoom room (set table place (Some b))
set-in room table place b is here = record {
  at = λ i c h.
      elim (cases_eq i place) [
        | inl same ↦ rw same here
        | inr other ↦ is.at i c (sym (get_or-set_other table place i (Some b) None other) ∙ h)
      ];
}

table_with-in : (room : Room) (table : List (Option ℕ)) (place : ℕ) (bs : List ℕ) → InRoom room table
    → ((k : ℕ) → k < length bs → (room.first ≤ place + k) × (place + k ≤ room.last)) → InRoom room (table_with table place bs)
table_with-in room table place [] is inside = is
table_with-in room table place (b ∷ bs) is inside =
    let here = inside 0 (omega arith) in
    table_with-in room (set table place (Some b)) (place + 1) bs (set-in room table place b is (omega (arith, here.0), omega (arith, here.1)))
    (λ k below. let next = inside (k + 1) (omega arith) in (omega (arith, next.0), omega (arith, next.1)))

pub inside-at : (room : Room) (here size k : ℕ) → is_inside room here size ≡ true → k < size → (room.first ≤ here + k) × (here + k ≤ room.last)
inside-at room here size k inside below =
    let some : (size == 0) ≡ false = grind (arith, nat_tests) in
    let both = and_parts (nat_le room.first here) (nat_le (here + size) (room.last + 1)) (rw some at inside) in
    let above = leb-true room.first here both.0 in
    let end = leb-true (here + size) (room.last + 1) both.1 in
    (omega (arith, above), omega (arith, end))

emit-in : (room : Room) (names : List (List ℕ × ℤ)) (table : List (Option ℕ)) (p : PlacedLine) (t : List (Option ℕ)) →
    emit names table p ≡ Ok t → IsPlaced room p
    → InRoom room table → InRoom room t
unfolding emit line_bytes
emit-in room names table p t h placed is =
    let ts : List Token = p.line.tokens in
    read-ok (InRoom room t) (in_line p.line.number ts (line_bytes names p.address ts)) _ t h (λ bs at_bs h.
    read-ok (InRoom room t) (statement (values names p.address) (is_some (label_of ts)) (behind_label ts)) _ bs
    (in_line-ok p.line.number ts (line_bytes names p.address ts) bs at_bs) (λ st at_st at_bytes.
    let same = statement_fills (values placed.names p.address) (values names p.address) (is_some (label_of ts)) (behind_label ts)
    placed.st st placed.is at_st in
    let size = bytes_of-length p.address st bs at_bytes in
    let e : table_with table p.address bs ≡ t = cc h in
    subst (λ (u : List (Option ℕ)). InRoom room u) e
    (table_with-in room table p.address bs is (λ k below.
    inside-at room p.address (layout_filled (effect_of placed.st)) k placed.inside (omega (arith, below, same, size))))))

all-in : (room : Room) (names : List (List ℕ × ℤ)) (table : List (Option ℕ)) (ps : List PlacedLine) (t : List (Option ℕ)) → emit_lines names table ps ≡ Ok t
    → All (IsPlaced room) ps → InRoom room table → InRoom room t
unfolding steps
all-in room names table [] t h all is =
    let e : table ≡ t = cc h in
    subst (λ (u : List (Option ℕ)). InRoom room u) e is
all-in room names table (p ∷ ps) t h all is =
    read-ok (InRoom room t) (emit names table p) _ t h (λ u at_u h.
    all-in room names u ps t h (All-tail (IsPlaced room) p ps all) (emit-in room names table p u at_u (All-head (IsPlaced room) p ps all) is))

pub blank : (n i : ℕ) → (let slot : Option ℕ = None in get_or (replicate n slot) i slot ≡ slot)
blank zero i = refl
blank (suc n) zero = refl
blank (suc n) (suc i) = blank n i

none-in : (room : Room) (n : ℕ) → InRoom room (no_bytes n)
unfolding no_bytes
none-in room n = record { at = λ i b h. let nothing = blank n i in cc (nothing, h) }

-- ---- the bytes of the image

ascending-in : (room : Room) (place : ℕ) (table : List (Option ℕ)) →
    ((i b : ℕ) → get_or table i None ≡ Some b → (room.first ≤ place + i) × (place + i ≤ room.last))
    → LiesIn room (ascending place table)
ascending-in room place [] inside = All-nil (λ (b : ℕ × ℕ). (room.first ≤ b.0) × (b.0 ≤ room.last))
ascending-in room place (None ∷ table) inside =
    ascending-in room (place + 1) table (λ i b h. let here = inside (suc i) b h in (omega (arith, here.0), omega (arith, here.1)))
ascending-in room place (Some b ∷ table) inside =
    let here = inside 0 b refl in
    All-cons (λ (b : ℕ × ℕ). (room.first ≤ b.0) × (b.0 ≤ room.last)) (place, b) (ascending (place + 1) table)
    (omega (arith, here.0), omega (arith, here.1))
    (ascending-in room (place + 1) table (λ i b h. let here = inside (suc i) b h in (omega (arith, here.0), omega (arith, here.1))))

-- bytes from a place on ascend
ascending-from : (place low : ℕ) (table : List (Option ℕ)) → low < place → All (λ b. low < b.0) (ascending place table)
ascending-from place low [] under = All-nil (λ (b : ℕ × ℕ). low < b.0)
ascending-from place low (None ∷ table) under = ascending-from (place + 1) low table (omega arith)
ascending-from place low (Some b ∷ table) under =
    All-cons (λ (b : ℕ × ℕ). low < b.0) (place, b) (ascending (place + 1) table) under
    (ascending-from (place + 1) low table (omega arith))

pub ascending_ascends : (place : ℕ) (table : List (Option ℕ)) → Ascends (ascending place table)
ascending_ascends place [] = λ i j d lower within. absurd (omega arith)
ascending_ascends place (None ∷ table) = ascending_ascends (place + 1) table
ascending_ascends place (Some b ∷ table) =
    AllPairs-cons (λ (b c : ℕ × ℕ). b.0 < c.0) (place, b) (ascending (place + 1) table)
    (ascending-from (place + 1) place table (omega arith)) (ascending_ascends (place + 1) table)

pub image_lies_in : (text : List ℕ) (room : Room) (picture : Picture) → image_of text room ≡ Ok picture → LiesIn room picture.bytes
unfolding image_of image_in
image_lies_in text room picture h =
    read-ok (LiesIn room picture.bytes) (read_lines no_reading (lines text)) _ picture h (λ read at_read h.
    read-ok (LiesIn room picture.bytes) (place_lines room (no_layout 65536) read.lines) _ picture h (λ laid at_laid h.
    read-ok (LiesIn room picture.bytes) (emit_lines laid.names (no_bytes 65536) laid.placed) _ picture h (λ table at_table h.
    let e : ascending 0 table ≡ picture.bytes = cc h in
    let placed = all-placed room (no_layout 65536) read.lines laid at_laid (All-nil (IsPlaced room)) in
    let inside = all-in room laid.names (no_bytes 65536) laid.placed table at_table placed (none-in room 65536) in
    subst (λ (bytes : List (ℕ × ℕ)). LiesIn room bytes) e
    (ascending-in room 0 table (λ i b at_i. let here = inside.at i b at_i in (omega (arith, here.0), omega (arith, here.1)))))))
