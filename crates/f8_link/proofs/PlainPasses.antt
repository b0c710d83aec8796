-- The assembler's three passes over a text, and those of the one source over its lines where names are spelled as they stand.
use Rattle.std.proofs.Common.{◌≡◌, ℕ, ℤ, pos, ◌+◌, Bool, true, false, List, [], ◌∷◌, ◌++◌, length, Option, Some, None, Result, Ok, Err}
use Rattle.std.proofs.Common.{refl, sym, ap, subst, arith, append_assoc, append-nil, length-append}
use Rattle.std.specs.Prelude.{is_some, option_map, if◌then◌else◌}
use Rattle.asm_text.specs.declared.answers.Token.{Token}
use Rattle.f8_asm.specs.Answers.{◌>>=◌}
use Rattle.f8_asm.specs.Evaluation.{values}
use Rattle.f8_asm.specs.Grammar.{column_of}
use Rattle.f8_asm.specs.Image.{Picture, everywhere, ascending, image_in, image_of}
use Rattle.f8_asm.specs.Judging.{operand_value, unsigned_value}
use Rattle.f8_asm.specs.Names.{value_of, with_name}
use Rattle.f8_asm.specs.PassOne as one
use Rattle.f8_asm.specs.PassOne.{in_line, line_tokens, statement_checked, check_with, check, read_line, no_reading}
use Rattle.f8_asm.specs.PassThree.{no_bytes, line_bytes, emit}
use Rattle.f8_asm.specs.PassTwo.{Layout, no_layout, fits, layout_after, settle, place}
use Rattle.f8_asm.specs.Statements.{statement, label_of, behind_label, effect_of, twice}
use Rattle.f8_asm.specs.Steps.{steps}
use Rattle.f8_asm.specs.TokenLines.{Line, PlacedLine}
use Rattle.f8_asm.specs.declared.answers.AsmFault.{AsmFault}
use Rattle.f8_asm.specs.declared.faults.LineFault.{LineFault}
use Rattle.f8_asm.specs.declared.operands.Effect.{Effect}
use Rattle.f8_asm.specs.declared.operands.Effect.TheVariants.{Names, Moves, Fills}
use Rattle.f8_asm.proofs.Alike.{Alike, alike_ok, alike_err, alike_then, alike_same, AllAlike, none_alike, more_alike, alike_push}
use Rattle.f8_asm.proofs.Steps.{steps_alike}
use Rattle.f8_link.specs.OneSource.{SourceLine, PlacedSource, numbered, label_read, statement_read, source_read, source_settled}
use Rattle.f8_link.specs.OneSource.{source_placed}
use Rattle.f8_link.specs.OneSource.{source_emitted, source_image_in, source_image}
use Rattle.text_lines.specs.Lines.{lines}

-- a line with no number yet, whose names are spelled as they stand
abbrev pub plain_line : List Token → SourceLine
plain_line ts = record { rename = λ x. x; number = 0; tokens = ts }

-- each line of a text has these tokens
pub data TextLines : List (List ℕ) → List SourceLine → Type 0 where
  no_lines : TextLines [] []
  more_lines : {line : List ℕ} {ts : List Token} {ls : List (List ℕ)} {ms : List SourceLine} → ((number : ℕ) → line_tokens number line ≡ Ok ts)
      → TextLines ls ms → TextLines (line ∷ ls) (plain_line ts ∷ ms)

-- ---- lines of both kinds

data SameLine : Line → SourceLine → Type 0 where
  same_line : {number : ℕ} {ts : List Token} → SameLine (record { number = number; tokens = ts })
      (record { rename = λ x. x; number = number; tokens = ts })

data SamePlaced : PlacedLine → PlacedSource → Type 0 where
  same_placed : {address : ℕ} {l : Line} {m : SourceLine} → SameLine l m → SamePlaced (record { address = address; line = l })
      (record { address = address; line = m })

-- what follows one reading
alike_behind : {A B C E : Type 0} {R : B → C → Type 0} (r : Result A E) {f : A → Result B E} {g : A → Result C E} → ((x : A) → Alike R (f x) (g x))
    → Alike R (r >>= f) (r >>= g)
alike_behind (Ok x) goes = goes x
alike_behind (Err e) goes = alike_err

in_line_alike : {A B : Type 0} {R : A → B → Type 0} (number : ℕ) (ts : List Token) (r : Result A LineFault) (s : Result B LineFault) → Alike R r s
    → Alike R (in_line number ts r) (in_line number ts s)
in_line_alike number ts (Ok x) (Ok y) on = record { is = on.is }
in_line_alike number ts (Ok x) (Err f) on = absurd on.is
in_line_alike number ts (Err e) (Ok y) on = absurd on.is
in_line_alike number ts (Err e) (Err f) on = record { is = ap (one.fault_by number (one.end_of ts)) on.is }

-- ---- the first pass

-- what the first pass makes of a line
abbrev names_read : List (List ℕ × ℤ) → List Token → Result (List (List ℕ × ℤ)) LineFault
names_read names ts = label_read (λ x. x) names ts (label_of ts) >>= λ after. statement_read (λ x. x) names ts >>= λ _. Ok after

check_by : (names : List (List ℕ × ℤ)) (ts : List Token) (label : Option (List ℕ)) → label_of ts ≡ label
    → check_with names ts label ≡ (label_read (λ x. x) names ts label >>= λ after. statement_read (λ x. x) names ts >>= λ _. Ok after)
check_by names ts None is = rw is refl
check_by names ts (Some name) is = by (is_some (value_of names name))
  where
    by : (known : Bool) → (if known then Err (twice (column_of ts))
        else (statement_checked names true (behind_label ts) >>= λ _. Ok (with_name names name (pos 0))))
        ≡ ((if known then Err (twice (column_of ts)) else Ok (with_name names name (pos 0)))
        >>= λ after. statement_read (λ x. x) names ts >>= λ _. Ok after)
    by true = refl
    by false = rw is refl

check_same : (names : List (List ℕ × ℤ)) (ts : List Token) → check names ts ≡ names_read names ts
check_same names ts = check_by names ts (label_of ts) refl

-- a reading with these lines
data SameReading (ms : List SourceLine) : one.Reading → List (List ℕ × ℤ) → Type 0 where
  same_reading : {names : List (List ℕ × ℤ)} {ls : List Line} → AllAlike SameLine ls ms → SameReading ms (record { names = names; lines = ls }) names

abbrev reading : List (List ℕ × ℤ) → List Line → one.Reading
reading names ls = record { names = names; lines = ls }

abbrev line_at : ℕ → List Token → Line
line_at number ts = record { number = number; tokens = ts }

one_read : (names : List (List ℕ × ℤ)) (done : List Line) (line : List ℕ) (ts : List Token) → ((number : ℕ) → line_tokens number line ≡ Ok ts)
    → read_line (reading names done) line ≡ (in_line (length done + 1) ts (names_read names ts)
    >>= λ after. Ok (reading after (done ++ line_at (length done + 1) ts ∷ [])))
unfolding read_line
one_read names done line ts read = rw (read (length done + 1), check_same names ts) refl

one_source_read : (names : List (List ℕ × ℤ)) (number : ℕ) (ts : List Token)
    → source_read names (record { rename = λ x. x; number = number; tokens = ts }) ≡ in_line number ts (names_read names ts)
unfolding source_read
one_source_read names number ts = refl

alike_read : {R : one.Reading → List (List ℕ × ℤ) → Type 0} (r : Result (List (List ℕ × ℤ)) AsmFault) (f : List (List ℕ × ℤ) → one.Reading)
    (g : one.Reading → Result one.Reading AsmFault) (h : List (List ℕ × ℤ) → Result (List (List ℕ × ℤ)) AsmFault)
    → ((after : List (List ℕ × ℤ)) → Alike R (g (f after)) (h after)) → Alike R ((r >>= λ after. Ok (f after)) >>= g) (r >>= h)
alike_read (Ok after) f g h goes = goes after
alike_read (Err e) f g h goes = alike_err

read_alike : {ls : List (List ℕ)} {ms : List SourceLine} → TextLines ls ms → (names : List (List ℕ × ℤ)) (done : List Line) (over : List SourceLine)
    → AllAlike SameLine done over → (number : ℕ) → length done + 1 ≡ number
    → Alike (SameReading (over ++ numbered number ms)) (steps read_line (reading names done) ls) (steps source_read names (numbered number ms))
unfolding steps numbered
read_alike no_lines names done over so_far number is = alike_ok (same_reading (subst (AllAlike SameLine done) (sym (append-nil over)) so_far))
read_alike (more_lines {line} {ts} {ls} {ms} read rest) names done over so_far number is =
    let m : SourceLine = record { rename = λ x. x; number = number; tokens = ts } in
    let regrouped : (over ++ m ∷ []) ++ numbered (number + 1) ms ≡ over ++ m ∷ numbered (number + 1) ms =
    append_assoc over (m ∷ []) (numbered (number + 1) ms) in
    let count : length (done ++ line_at number ts ∷ []) + 1 ≡ number + 1 = omega (arith, length-append done (line_at number ts ∷ [])) in
    rw (one_read names done line ts read, is, one_source_read names number ts)
    (alike_read (in_line number ts (names_read names ts)) _ _ _
    (λ after. subst (λ ns. Alike (SameReading ns) (steps read_line (reading after (done ++ line_at number ts ∷ [])) ls)
    (steps source_read after (numbered (number + 1) ms))) regrouped
    (read_alike rest after (done ++ line_at number ts ∷ []) (over ++ m ∷ []) (alike_push so_far same_line) (number + 1) count)))

-- ---- the second pass

abbrev layout : {P : Type 0} → ℕ → List (List ℕ × ℤ) → List Bool → List P → Layout P
layout here names filled placed = record { here = here; names = names; filled = filled; placed = placed }

data SameLayout : Layout PlacedLine → Layout PlacedSource → Type 0 where
  same_layout : {here : ℕ} {names : List (List ℕ × ℤ)} {filled : List Bool} {ps : List PlacedLine} {qs : List PlacedSource} → AllAlike SamePlaced ps qs
      → SameLayout (layout here names filled ps) (layout here names filled qs)

renamed_label : (label : Option (List ℕ)) → option_map (λ (x : List ℕ). x) label ≡ label
renamed_label None = refl
renamed_label (Some name) = refl

module _ (here : ℕ) (names : List (List ℕ × ℤ)) (filled : List Bool) {ps : List PlacedLine} {qs : List PlacedSource} (same : AllAlike SamePlaced ps qs) where
  effect_alike : (label : Option (List ℕ)) (column : Option ℕ) (e : Effect)
      → Alike SameLayout (layout_after everywhere label column (layout here names filled ps) e)
      (layout_after everywhere label column (layout here names filled qs) e)
  effect_alike None column (Names o) = alike_behind (operand_value o) (λ v. alike_ok (same_layout same))
  effect_alike (Some name) column (Names o) = alike_behind (operand_value o) (λ v. alike_ok (same_layout same))
  effect_alike None column (Moves o) = alike_behind (unsigned_value 65535 o) (λ v. alike_ok (same_layout same))
  effect_alike (Some name) column (Moves o) = alike_behind (unsigned_value 65535 o) (λ v. alike_ok (same_layout same))
  effect_alike None column (Fills size) = alike_behind (fits everywhere column size (layout here names filled ps)) (λ v. alike_ok (same_layout same))
  effect_alike (Some name) column (Fills size) =
      alike_behind (fits everywhere column size (layout here names filled ps)) (λ v. alike_ok (same_layout same))

  settle_alike : (number : ℕ) (ts : List Token) → Alike SameLayout (settle everywhere (layout here names filled ps) ts)
      (source_settled (record { rename = λ x. x; number = number; tokens = ts }) (layout here names filled qs))
  unfolding settle
  settle_alike number ts = rw (renamed_label (label_of ts)) (alike_behind (statement (values names here) (is_some (label_of ts)) (behind_label ts))
      (λ st. effect_alike (label_of ts) (column_of (behind_label ts)) (effect_of st)))

placed_alike : (here : ℕ) {l : Line} {m : SourceLine} (s : Layout PlacedLine) (t : Layout PlacedSource) → SameLine l m → SameLayout s t
    → Alike {E = AsmFault} SameLayout (Ok (layout s.here s.names s.filled (s.placed ++ (record { address = here; line = l }) ∷ [])))
    (Ok (layout t.here t.names t.filled (t.placed ++ (record { address = here; line = m }) ∷ [])))
placed_alike here s t line (same_layout same) = alike_ok (same_layout (alike_push same (same_placed line)))

place_alike : (s : Layout PlacedLine) (t : Layout PlacedSource) (l : Line) (m : SourceLine) → SameLayout s t → SameLine l m
    → Alike SameLayout (place everywhere s l) (source_placed t m)
unfolding place source_placed
place_alike s t l m (same_layout {here} {names} {filled} {ps} {qs} same) (same_line {number} {ts}) =
    alike_then (in_line_alike number ts _ _ (settle_alike here names filled same number ts)) (λ u v now. placed_alike here u v same_line now)

-- ---- the third pass

emit_same : (names : List (List ℕ × ℤ)) (table : List (Option ℕ)) (p : PlacedLine) (q : PlacedSource) → SamePlaced p q
    → emit names table p ≡ source_emitted names table q
unfolding emit line_bytes source_emitted
emit_same names table p q (same_placed same_line) = refl

emits_same : (names : List (List ℕ × ℤ)) {ps : List PlacedLine} {qs : List PlacedSource} → AllAlike SamePlaced ps qs → (table : List (Option ℕ))
    → steps (emit names) table ps ≡ steps (source_emitted names) table qs
unfolding steps
emits_same names none_alike table = refl
emits_same names (more_alike {x} {y} first rest) table = rw (emit_same names table x y first) (by (source_emitted names table y) (emits_same names rest))
  where
    by : {f g : List (Option ℕ) → Result (List (Option ℕ)) AsmFault} (r : Result (List (Option ℕ)) AsmFault) → ((t : List (Option ℕ)) → f t ≡ g t)
        → (r >>= f) ≡ (r >>= g)
    by (Ok t) same = same t
    by (Err e) same = refl

-- ---- all three

picture_alike : (size : ℕ) (s : Layout PlacedLine) (t : Layout PlacedSource) → SameLayout s t
    → Alike (λ (p q : Picture). p ≡ q)
    (steps (emit s.names) (no_bytes size) s.placed >>= λ table. Ok (record { bytes = ascending 0 table; symbols = s.names }))
    (steps (source_emitted t.names) (no_bytes size) t.placed >>= λ table. Ok (record { bytes = ascending 0 table; symbols = t.names }))
picture_alike size s t (same_layout {names} {ps} {qs} same) =
    rw (emits_same names same (no_bytes size)) (alike_behind (steps (source_emitted names) (no_bytes size) qs) (λ table. alike_ok refl))

module _ (size : ℕ) where
  laid_alike : (ms : List SourceLine) (read : one.Reading) (names : List (List ℕ × ℤ)) → SameReading ms read names
      → Alike (λ (p q : Picture). p ≡ q)
      (steps (place everywhere) (no_layout size) read.lines >>= λ laid. steps (emit laid.names) (no_bytes size) laid.placed
      >>= λ table. Ok (record { bytes = ascending 0 table; symbols = laid.names }))
      (steps source_placed (no_layout size) ms >>= λ laid. steps (source_emitted laid.names) (no_bytes size) laid.placed
      >>= λ table. Ok (record { bytes = ascending 0 table; symbols = laid.names }))
  laid_alike ms read names (same_reading same) =
      alike_then (steps_alike SameLayout SameLine (place everywhere) source_placed place_alike same (no_layout size) (no_layout size)
      (same_layout none_alike)) (picture_alike size)

  image_in_same : (text : List ℕ) (ms : List SourceLine) → TextLines (lines text) ms → image_in size text everywhere ≡ source_image_in size (numbered 1 ms)
  unfolding image_in source_image_in no_reading
  image_in_same text ms read = alike_same (alike_then (read_alike read [] [] [] none_alike 1 refl) (laid_alike (numbered 1 ms)))

-- the image of a text is that of its lines
pub image_same : (text : List ℕ) (ms : List SourceLine) → TextLines (lines text) ms → image_of text everywhere ≡ source_image (numbered 1 ms)
unfolding image_of source_image
image_same text ms read = image_in_same 65536 text ms read
