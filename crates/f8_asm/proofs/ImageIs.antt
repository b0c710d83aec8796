-- The image that three passes give is the image of the text.
use Rattle.std.proofs.Common.{◌≡◌, ℕ, ◌+◌, ◌<◌, ◌≤◌, ℤ, pos, Bool, true, false, List, [], ◌∷◌, ◌++◌, length, get_or}
use Rattle.std.proofs.Common.{Option, Some, None, is_some, Result, Ok, Err, refl, sym, ap, ◌∙◌, subst, arith}
use Rattle.std.proofs.Common.{append_assoc, append-nil}
use Rattle.std.specs.Prelude.{if◌then◌else◌, bytes_eq}
use Rattle.std.proofs.lemmas.List.{length-replicate, nil_from_length}
use Rattle.asm_text.specs.Tokens.{tokens_of}
use Rattle.asm_text.specs.declared.answers.Token.{Token}
use Rattle.asm_text.specs.declared.answers.TokenFault.{TokenFault}
use Rattle.f8_asm.specs.declared.answers.AsmFault.{AsmFault}
use Rattle.f8_asm.specs.declared.answers.Room.{Room}
use Rattle.f8_asm.specs.declared.faults.LineFault.{LineFault}
use Rattle.f8_asm.specs.declared.operands.Effect.{Effect}
use Rattle.f8_asm.specs.declared.operands.Effect.TheVariants.{Names, Moves, Fills}
use Rattle.f8_asm.specs.declared.operands.Statement.{Statement}
use Rattle.f8_asm.specs.declared.values.Outcome.{Outcome}
use Rattle.f8_asm.specs.Evaluation.{values}
use Rattle.f8_asm.specs.Grammar.{column_of}
use Rattle.f8_asm.specs.Image.{Picture, ascending, bytes_from, image_in, image_of}
use Rattle.f8_asm.specs.ImageLaw.{Standing, label_name, IsNew, statement_at, LineStands, equ, org, filling, LinesStand, no_line}
use Rattle.f8_asm.specs.ImageLaw.{one_line, standing_bytes, byte_at, Apart, IsImage}
use Rattle.f8_asm.specs.Judging.{operand_value, unsigned_value}
use Rattle.text_lines.specs.Lines.{lines}
use Rattle.f8_asm.specs.Marks.{no_marks, marks_with, is_free}
use Rattle.f8_asm.specs.Names.{value_of, with_name}
use Rattle.f8_asm.specs.PassOne.{in_line, tokens_in, line_tokens, statement_checked, check_with, check, Reading, read_line, read_lines}
use Rattle.f8_asm.specs.PassOne.{no_reading}
use Rattle.f8_asm.specs.PassTwo.{Layout, no_layout, is_inside, with_label, moved_to, layout_filled as filled_from, fits}
use Rattle.f8_asm.specs.PassTwo.{layout_after, settle, with_placed, place, place_lines}
use Rattle.f8_asm.specs.PassThree.{no_bytes, table_with, line_bytes, emit, emit_lines}
use Rattle.f8_asm.specs.Statements.{statement, label_of, behind_label, effect_of}
use Rattle.f8_asm.specs.Steps.{steps}
use Rattle.f8_asm.specs.TokenLines.{Line, PlacedLine}
use Rattle.f8_asm.proofs.Alike.{read-ok}
use Rattle.f8_asm.proofs.StatementsAlike.{layout_filled, statement_fills, bytes_of-length}
use Rattle.f8_asm.proofs.ImageRooms.{in_line-ok, fits-inside, layout_after-inside, inside-at, blank}
use Rattle.f8_asm.proofs.ImageBytes.{first, byte_at-append, outside, ascending_at, all_written, Below, all_written_at}
use Rattle.f8_asm.proofs.ImageBytes.{free_at, marks_with-length, marked_keeps, marked_at}

-- ---- names

-- a new name stands behind the others
given_by : (t : Bool) (e : List ℕ × ℤ) (es : List (List ℕ × ℤ)) (name : List ℕ) (v : ℤ)
    → (value_of es name ≡ None → with_name es name v ≡ es ++ (name, v) ∷ []) → (if t then Some e.1 else value_of es name) ≡ None
    → (if t then (e.0, v) ∷ es else e ∷ with_name es name v) ≡ e ∷ (es ++ (name, v) ∷ [])
given_by true e es name v goes new = cc new
given_by false e es name v goes new = ap (λ r. e ∷ r) (goes new)

given : (es : List (List ℕ × ℤ)) (name : List ℕ) (v : ℤ) → value_of es name ≡ None → with_name es name v ≡ es ++ (name, v) ∷ []
given [] name v new = refl
given (e ∷ es) name v new = given_by (bytes_eq name e.0) e es name v (λ h. given es name v h) new

label_given : (label : Option (List ℕ)) (v : ℤ) (s : Layout PlacedLine) → IsNew s.names label → (with_label label v s).names ≡ s.names ++ label_name label v
label_given None v s new = sym (append-nil s.names)
label_given (Some name) v s new = given s.names name v new

-- the same names in the same order, whatever their values
abbrev SameNames : List (List ℕ × ℤ) → List (List ℕ × ℤ) → Type 0
SameNames [] [] = Unit {0}
SameNames [] (y ∷ ys) = ⊥
SameNames (x ∷ xs) [] = ⊥
SameNames (x ∷ xs) (y ∷ ys) = (x.0 ≡ y.0) × SameNames xs ys

same_more : (label : Option (List ℕ)) (v w : ℤ) (xs ys : List (List ℕ × ℤ)) → SameNames xs ys
    → SameNames (xs ++ label_name label v) (ys ++ label_name label w)
same_more None v w [] [] same = tt
same_more (Some name) v w [] [] same = (refl, tt)
same_more label v w [] (y ∷ ys) same = absurd same
same_more label v w (x ∷ xs) [] same = absurd same
same_more label v w (x ∷ xs) (y ∷ ys) same = (same.0, same_more label v w xs ys same.1)

still_none : (t : Bool) (v w : ℤ) (o p : Option ℤ) → (o ≡ None → p ≡ None) → (if t then Some v else o) ≡ None
    → (if t then Some w else p) ≡ None
still_none true v w o p goes h = cc h
still_none false v w o p goes h = goes h

same_new : (name : List ℕ) (xs ys : List (List ℕ × ℤ)) → SameNames xs ys → value_of xs name ≡ None → value_of ys name ≡ None
same_new name [] [] same new = refl
same_new name [] (y ∷ ys) same new = absurd same
same_new name (x ∷ xs) [] same new = absurd same
same_new name (x ∷ xs) (y ∷ ys) same new = still_none (bytes_eq name y.0) x.1 y.1 (value_of xs name) (value_of ys name)
    (λ h. same_new name xs ys same.1 h) (rw same.0 at new)

label_new : (label : Option (List ℕ)) (xs ys : List (List ℕ × ℤ)) → SameNames xs ys → IsNew xs label → IsNew ys label
label_new None xs ys same new = tt
label_new (Some name) xs ys same new = same_new name xs ys same new

-- ---- the first pass

-- lines have these tokens, and no label is given twice; these names are given before them
data ReadOf : List (List ℕ × ℤ) → List (List ℕ) → List Line → Type 0 where
  read_none : {earlier : List (List ℕ × ℤ)} → ReadOf earlier [] []
  read_one : {earlier : List (List ℕ × ℤ)} {l : List ℕ} {ls : List (List ℕ)} {line : Line} {rest : List Line}
      → tokens_of l ≡ Ok line.tokens → IsNew earlier (label_of line.tokens)
      → ReadOf (earlier ++ label_name (label_of line.tokens) (pos 0)) ls rest → ReadOf earlier (l ∷ ls) (line ∷ rest)

tokens_from : (number : ℕ) (t : Bool) (r : Result (List Token) TokenFault) (e : AsmFault) (ts : List Token)
    → (if t then tokens_in number r else Err e) ≡ Ok ts → r ≡ Ok ts
tokens_from number true (Ok us) e ts h = cc h
tokens_from number true (Err f) e ts h = cc h
tokens_from number false r e ts h = cc h

line_tokens-ok : (number : ℕ) (l : List ℕ) (ts : List Token) → line_tokens number l ≡ Ok ts → tokens_of l ≡ Ok ts
unfolding line_tokens
line_tokens-ok number l ts h = tokens_from number _ (tokens_of l) _ ts h

-- what the check of a line gives
record Checked (earlier names : List (List ℕ × ℤ)) (label : Option (List ℕ)) : Type 0 where
  new : IsNew earlier label
  names_are : names ≡ earlier ++ label_name label (pos 0)

none_some : (o : Option ℤ) (f : LineFault) (r : Result (List (List ℕ × ℤ)) LineFault) (names : List (List ℕ × ℤ))
    → (if is_some o then Err f else r) ≡ Ok names → (o ≡ None) × (r ≡ Ok names)
none_some None f r names h = (refl, h)
none_some (Some v) f r names h = cc h

checked_with : (earlier : List (List ℕ × ℤ)) (ts : List Token) (label : Option (List ℕ)) (names : List (List ℕ × ℤ))
    → check_with earlier ts label ≡ Ok names → Checked earlier names label
checked_with earlier ts None names h =
    read-ok (Checked earlier names None) (statement_checked earlier false ts) _ names h (λ u at_u e.
    let same : earlier ≡ names = cc e in
    record { new = tt; names_are = sym same ∙ sym (append-nil earlier) })
checked_with earlier ts (Some name) names h =
    let both = none_some (value_of earlier name) _ _ names h in
    read-ok (Checked earlier names (Some name)) (statement_checked earlier true (behind_label ts)) _ names both.1 (λ u at_u e.
    let same : with_name earlier name (pos 0) ≡ names = cc e in
    record { new = both.0; names_are = sym same ∙ given earlier name (pos 0) both.0 })

-- the lines that the first pass reads
record ReadAs (s t : Reading) (ls : List (List ℕ)) : Type 0 where
  read : List Line
  behind : t.lines ≡ s.lines ++ read
  are : ReadOf s.names ls read

read_as : (s : Reading) (ls : List (List ℕ)) (t : Reading) → read_lines s ls ≡ Ok t → ReadAs s t ls
unfolding steps read_line
read_as s [] t h =
    let same : s ≡ t = cc h in
    record { read = []; behind = ap (λ (r : Reading). r.lines) (sym same) ∙ sym (append-nil s.lines); are = read_none }
read_as s (l ∷ ls) t h =
    let number : ℕ = length s.lines + 1 in
    read-ok (ReadAs s t (l ∷ ls)) (read_line s l) _ t h (λ u at_u h.
    read-ok (ReadAs s t (l ∷ ls)) (line_tokens number l) _ u at_u (λ ts at_ts at_u.
    read-ok (ReadAs s t (l ∷ ls)) (in_line number ts (check s.names ts)) _ u at_u (λ names at_names e.
    let line : Line = record { number = number; tokens = ts } in
    let value_held = checked_with s.names ts (label_of ts) names (in_line-ok number ts (check s.names ts) names at_names) in
    let others = read_as u ls t h in
    let is : record { names = names; lines = s.lines ++ line ∷ [] } ≡ u = cc e in
    let lines_are : s.lines ++ line ∷ [] ≡ u.lines = ap (λ (r : Reading). r.lines) is in
    let names_are : names ≡ u.names = ap (λ (r : Reading). r.names) is in
    record {
      read = line ∷ others.read;
      behind = others.behind ∙ ap (λ r. r ++ others.read) (sym lines_are) ∙ append_assoc s.lines (line ∷ []) others.read;
      are = read_one (line_tokens-ok number l ts at_ts) value_held.new
          (subst (λ n. ReadOf n ls others.read) (sym names_are ∙ value_held.names_are) others.are);
    })))

-- ---- a line of the second and the third pass

label_here : (label : Option (List ℕ)) (v : ℤ) (s : Layout PlacedLine) → (with_label label v s).here ≡ s.here
label_here None v s = refl
label_here (Some name) v s = refl

label_filled : (label : Option (List ℕ)) (v : ℤ) (s : Layout PlacedLine) → (with_label label v s).filled ≡ s.filled
label_filled None v s = refl
label_filled (Some name) v s = refl

-- what a line with these bytes does to the layout before it
record Stepped (room : Room) (names : List (List ℕ × ℤ)) (s u : Layout PlacedLine) (ts : List Token) (bs : List ℕ) : Type 0 where
  stands : LineStands names s.names s.here ts bs u.here u.names
  value : ℤ
  names_are : u.names ≡ s.names ++ label_name (label_of ts) value
  filled : u.filled ≡ marks_with s.filled s.here (length bs)
  free : (k : ℕ) → k < length bs → get_or s.filled (s.here + k) false ≡ false
  within : (k : ℕ) → k < length bs → s.here + k ≤ room.last

other_words : {names earlier : List (List ℕ × ℤ)} {at : ℕ} {ts : List Token} {bs cs : List ℕ} {n m : ℕ} {later behind : List
    (List ℕ × ℤ)} → bs ≡ cs → n ≡ m → later ≡ behind → LineStands names earlier at ts bs n later
    → LineStands names earlier at ts cs m behind
other_words {names} {earlier} {at} {ts} {bs} {cs} {n} {m} {later} {behind} e f g stands =
    subst (λ r. LineStands names earlier at ts cs m r) g
    (subst (λ r. LineStands names earlier at ts cs r later) f (subst (λ r. LineStands names earlier at ts r n later) e stands))

both_free : (inside free : Bool) (e f : LineFault) (x : Unit {0}) → (if inside then (if free then Ok x else Err e) else Err f) ≡ Ok x
    → free ≡ true
both_free true true e f x h = refl
both_free true false e f x h = cc h
both_free false free e f x h = cc h

module _ (room : Room) (names : List (List ℕ × ℤ)) (s u : Layout PlacedLine) (ts : List Token) (st : Statement Outcome) (bs : List ℕ) where
  by_effect : (e : Effect) → statement_at s.names s.here ts ≡ Ok st → effect_of st ≡ e → length bs ≡ layout_filled e → IsNew s.names (label_of ts)
      → line_bytes names s.here ts ≡ Ok bs → layout_after room (label_of ts) (column_of (behind_label ts)) s e ≡ Ok u
      → Stepped room names s u ts bs
  by_effect (Names o) at_st is size new code h =
      read-ok (Stepped room names s u ts bs) (operand_value o) _ u h (λ v at_v h.
      let same : with_label (label_of ts) v s ≡ u = cc h in
      let none : bs ≡ [] = nil_from_length bs size in
      subst (λ (r : Layout PlacedLine). Stepped room names s r ts bs) same (record {
        stands = other_words (sym none) (sym (label_here (label_of ts) v s)) (sym (label_given (label_of ts) v s new)) (equ at_st is at_v);
        value = v;
        names_are = label_given (label_of ts) v s new;
        filled = label_filled (label_of ts) v s ∙ ap (λ n. marks_with s.filled s.here n) (sym size);
        free = λ k below. absurd (omega (arith, size, below));
        within = λ k below. absurd (omega (arith, size, below));
      }))
  by_effect (Moves o) at_st is size new code h =
      read-ok (Stepped room names s u ts bs) (unsigned_value 65535 o) _ u h (λ a at_a h.
      let same : moved_to a (with_label (label_of ts) (pos s.here) s) ≡ u = cc h in
      let none : bs ≡ [] = nil_from_length bs size in
      subst (λ (r : Layout PlacedLine). Stepped room names s r ts bs) same (record {
        stands = other_words (sym none) refl (sym (label_given (label_of ts) (pos s.here) s new)) (org at_st is at_a);
        value = pos s.here;
        names_are = label_given (label_of ts) (pos s.here) s new;
        filled = label_filled (label_of ts) (pos s.here) s ∙ ap (λ n. marks_with s.filled s.here n) (sym size);
        free = λ k below. absurd (omega (arith, size, below));
        within = λ k below. absurd (omega (arith, size, below));
      }))
  by_effect (Fills n) at_st is size new code h =
      read-ok (Stepped room names s u ts bs) (fits room (column_of (behind_label ts)) n s) _ u h (λ x at_x h.
      let label : Layout PlacedLine = with_label (label_of ts) (pos s.here) s in
      let same : filled_from n label ≡ u = cc h in
      let here : label.here ≡ s.here = label_here (label_of ts) (pos s.here) s in
      let marks : label.filled ≡ s.filled = label_filled (label_of ts) (pos s.here) s in
      let inside = fits-inside room (column_of (behind_label ts)) n s at_x in
      let free = both_free (is_inside room s.here n) (is_free s.filled s.here n) _ _ tt at_x in
      subst (λ (r : Layout PlacedLine). Stepped room names s r ts bs) same (record {
        stands = other_words refl (ap (λ k. s.here + k) size ∙ ap (λ k. k + n) (sym here))
            (sym (label_given (label_of ts) (pos s.here) s new)) (filling at_st (is ∙ ap Fills (sym size)) code);
        value = pos s.here;
        names_are = label_given (label_of ts) (pos s.here) s new;
        filled = ap (λ f. marks_with f label.here n) marks ∙ ap (λ k. marks_with s.filled k n) here ∙ ap (λ k. marks_with s.filled s.here k) (sym size);
        free = λ k below. free_at s.filled s.here n k free (omega (arith, size, below));
        within = λ k below. (inside-at room s.here n k inside (omega (arith, size, below))).1;
      }))

  -- the bytes of a line are as many as it fills
  line_size : statement_at s.names s.here ts ≡ Ok st → line_bytes names s.here ts ≡ Ok bs → length bs ≡ layout_filled (effect_of st)
  unfolding line_bytes
  line_size at_st code =
      read-ok (length bs ≡ layout_filled (effect_of st)) (statement (values names s.here) (is_some (label_of ts)) (behind_label ts)) _ bs code
      (λ other at_other at_bytes.
      let same = statement_fills (values s.names s.here) (values names s.here) (is_some (label_of ts)) (behind_label ts) st other at_st at_other in
      bytes_of-length s.here other bs at_bytes ∙ sym same)

-- ---- the second pass

-- lines are placed one behind the other
data Laid : Room → Layout PlacedLine → List Line → List PlacedLine → Layout PlacedLine → Type 0 where
  laid_none : {room : Room} {s : Layout PlacedLine} → Laid room s [] [] s
  laid_one : {room : Room} {s u t : Layout PlacedLine} {l : Line} {after : List Line} {ps : List PlacedLine} {st : Statement Outcome}
      → statement_at s.names s.here l.tokens ≡ Ok st
      → layout_after room (label_of l.tokens) (column_of (behind_label l.tokens)) s (effect_of st) ≡ Ok u
      → Laid room (with_placed (record { address = s.here; line = l }) u) after ps t
      → Laid room s (l ∷ after) (record { address = s.here; line = l } ∷ ps) t

record LaidAs (room : Room) (s t : Layout PlacedLine) (ls : List Line) : Type 0 where
  ps : List PlacedLine
  behind : t.placed ≡ s.placed ++ ps
  laid : Laid room s ls ps t

laid_as : (room : Room) (s : Layout PlacedLine) (ls : List Line) (t : Layout PlacedLine) → place_lines room s ls ≡ Ok t → LaidAs room s t ls
unfolding steps place settle
laid_as room s [] t h =
    let same : s ≡ t = cc h in
    subst (λ (r : Layout PlacedLine). LaidAs room s r []) same (record { ps = []; behind = sym (append-nil s.placed); laid = laid_none })
laid_as room s (l ∷ ls) t h =
    let p : PlacedLine = record { address = s.here; line = l } in
    read-ok (LaidAs room s t (l ∷ ls)) (place room s l) _ t h (λ w at_w h.
    read-ok (LaidAs room s t (l ∷ ls)) (in_line l.number l.tokens (settle room s l.tokens)) _ w at_w (λ u at_u e.
    read-ok (LaidAs room s t (l ∷ ls)) (statement (values s.names s.here) (is_some (label_of l.tokens)) (behind_label l.tokens)) _ u
    (in_line-ok l.number l.tokens (settle room s l.tokens) u at_u) (λ st at_st at_settled.
    let did = layout_after-inside room (label_of l.tokens) (column_of (behind_label l.tokens)) s u (effect_of st) at_settled in
    let is : with_placed p u ≡ w = cc e in
    let others = laid_as room (with_placed p u) ls t (subst (λ (r : Layout PlacedLine). place_lines room r ls ≡ Ok t) (sym is) h) in
    record {
      ps = p ∷ others.ps;
      behind = others.behind ∙ append_assoc u.placed (p ∷ []) others.ps ∙ ap (λ r. r ++ p ∷ others.ps) did.placed;
      laid = laid_one at_st at_settled others.laid;
    })))

-- ---- all lines

-- lines stand from a layout on, and their bytes are put in a table
record Standings (names : List (List ℕ × ℤ)) (s : Layout PlacedLine) (ls : List (List ℕ)) (before behind : List (Option ℕ)) : Type 0 where
  ss : List Standing
  stand : LinesStand names s.names s.here ls ss
  clear : (a : ℕ) → get_or s.filled a false ≡ true → byte_at (standing_bytes ss) a ≡ None
  apart : Apart ss
  below : Below 65536 ss
  put : all_written before ss ≡ behind

neither : (p q : Option ℕ) → p ≡ None → q ≡ None → first p q ≡ None
neither p q e f = rw (e, f) refl

standings : {room : Room} {s t : Layout PlacedLine} {lines : List Line} {ps : List PlacedLine} {earlier : List (List ℕ × ℤ)} {ls : List (List ℕ)}
    → Laid room s lines ps t → ReadOf earlier ls lines → (names : List (List ℕ × ℤ)) (before behind : List (Option ℕ)) → names ≡ t.names
    → SameNames earlier s.names
    → emit_lines names before ps ≡ Ok behind → room.last ≤ 65535 → length s.filled ≡ 65536
    → Standings names s ls before behind
unfolding steps emit
standings laid_none read_none names before behind all same h last size =
    let put : before ≡ behind = cc h in
    record { ss = []; stand = rw all no_line; clear = λ a marks_with. refl; apart = tt; below = tt; put = put }
standings (laid_one {room} {s} {u} {t} {l} {after} {ps} {st} at_st at_settled laid)
    (read_one {earlier} {l = text} {ls} tokens new read) names before behind all same h last size =
    let ts : List Token = l.tokens in
    read-ok (Standings names s (text ∷ ls) before behind) (emit names before (record { address = s.here; line = l })) _ behind h
    (λ w at_w h.
    read-ok (Standings names s (text ∷ ls) before behind) (in_line l.number ts (line_bytes names s.here ts)) _ w at_w (λ bs at_bs e.
    let is : table_with before s.here bs ≡ w = cc e in
    let code = in_line-ok l.number ts (line_bytes names s.here ts) bs at_bs in
    let fresh = label_new (label_of ts) earlier s.names same new in
    let step = by_effect room names s u ts st bs (effect_of st) at_st refl
    (line_size room names s u ts st bs at_st code) fresh code at_settled in
    let more : SameNames (earlier ++ label_name (label_of ts) (pos 0)) u.names = subst
    (λ r. SameNames (earlier ++ label_name (label_of ts) (pos 0)) r) (sym step.names_are)
    (same_more (label_of ts) (pos 0) step.value earlier s.names same) in
    let wide : length u.filled ≡ 65536 = ap length step.filled ∙ marks_with-length s.filled s.here (length bs) ∙ size in
    let others = standings laid read names (table_with before s.here bs) behind all more
    (subst (λ (r : List (Option ℕ)). emit_lines names r ps ≡ Ok behind) (sym is) h) last wide in
    record {
      ss = record { address = s.here; bytes = bs } ∷ others.ss;
      stand = one_line tokens fresh step.stands others.stand;
      clear = λ a is_marked.
          let gone = outside s.here bs a (λ k below at_a.
          let free = step.free k below in
          let clash : get_or s.filled a false ≡ false = rw at_a at free in cc (is_marked, clash)) in
          let kept : get_or u.filled a false ≡ true = rw step.filled (marked_keeps s.filled s.here (length bs) a is_marked) in
          byte_at-append (bytes_from s.here bs) (standing_bytes others.ss) a ∙ neither _ _ gone (others.clear a kept);
      apart = (
        λ k below. others.clear (s.here + k)
            (let within = step.within k below in rw step.filled
            (marked_at s.filled s.here (length bs) k below (omega (arith, within, last, size)))),
        others.apart,
      );
      below = (λ k below. let within = step.within k below in omega (arith, within, last), others.below);
      put = others.put;
    }))

-- ---- the image

marks_length : (n : ℕ) → length (no_marks n) ≡ n
unfolding no_marks
marks_length n = length-replicate n false

bytes_length : (n : ℕ) → length (no_bytes n) ≡ n
unfolding no_bytes
bytes_length n = length-replicate n None

no_byte : (n a : ℕ) → get_or (no_bytes n) a None ≡ None
unfolding no_bytes
no_byte n a = blank n a

first_alone : (o : Option ℕ) → first o None ≡ o
first_alone None = refl
first_alone (Some b) = refl

bytes_are : (ss : List Standing) (n a : ℕ) (table : List (Option ℕ)) → all_written (no_bytes n) ss ≡ table → Apart ss → Below n ss
    → byte_at (ascending 0 table) a ≡ byte_at (standing_bytes ss) a
bytes_are ss n a table put apart below =
    let from_zero : 0 + a ≡ a = omega arith in
    let there = rw from_zero at (ascending_at 0 a table) in
    there ∙ ap (λ r. get_or r a None) (sym put) ∙ all_written_at ss n (no_bytes n) a (sym (bytes_length n)) apart below
    ∙ ap (λ o. first (byte_at (standing_bytes ss) a) o) (no_byte n a) ∙ first_alone (byte_at (standing_bytes ss) a)

pub image_is : (text : List ℕ) (room : Room) (picture : Picture) → room.last ≤ 65535 → image_of text room ≡ Ok picture
    → IsImage text picture
unfolding image_of image_in no_reading
image_is text room picture last h =
    read-ok (IsImage text picture) (read_lines no_reading (lines text)) _ picture h (λ read at_read h.
    read-ok (IsImage text picture) (place_lines room (no_layout 65536) read.lines) _ picture h (λ laid at_laid h.
    read-ok (IsImage text picture) (emit_lines laid.names (no_bytes 65536) laid.placed) _ picture h (λ table at_table h.
    let e : record { bytes = ascending 0 table; symbols = laid.names } ≡ picture = cc h in
    let were = read_as no_reading (lines text) read at_read in
    let placed = laid_as room (no_layout 65536) were.read laid
    (subst (λ r. place_lines room (no_layout 65536) r ≡ Ok laid) were.behind at_laid) in
    let emitted : emit_lines laid.names (no_bytes 65536) placed.ps ≡ Ok table = subst
    (λ r. emit_lines laid.names (no_bytes 65536) r ≡ Ok table) placed.behind at_table in
    let all = standings placed.laid were.are laid.names (no_bytes 65536) table refl tt emitted last (marks_length 65536) in
    subst (λ (p : Picture). IsImage text p) e (record {
      standing = all.ss;
      stand = all.stand;
      apart = all.apart;
      bytes = λ a. bytes_are all.ss 65536 a table all.put all.apart all.below;
    }))))
