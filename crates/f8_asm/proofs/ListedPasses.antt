-- The three passes over a listing.
use Rattle.std.proofs.Common.{◌≡◌, ℕ, zero, suc, ◌+◌, ◌-◌, ◌≤◌, Bool, true, false, List, [], ◌∷◌, ◌++◌, length, map}
use Rattle.std.proofs.Common.{drop, take, set, replicate, Option, Some, None, Ok, refl, sym, ◌∙◌, ap, arith, add-zero}
use Rattle.std.proofs.Common.{append_assoc, append-nil, length-append, lit<}
use Rattle.text_lines.specs.Printable.{is_printable}
use Rattle.std.specs.List.{list_all, list_any}
use Rattle.std.specs.Str.{IsAscii}
use Rattle.std.proofs.Math.Seq.{drop-nil}
use Rattle.std.proofs.lemmas.List.{drop-set-lt}
use Rattle.std.proofs.lemmas.Str.{IsUtf8-from_ascii}
use Rattle.std.proofs.lemmas.Bool.Decides.{nat_tests}
use Rattle.std.proofs.lemmas.Grind.{common_steps}
use Rattle.asm_text.specs.declared.answers.Token.{Token}
use Rattle.f8_asm.specs.declared.spelling.Entry.{Entry}
use Rattle.f8_asm.specs.PassOne.{read_line, read_lines, Reading}
use Rattle.f8_asm.specs.PassTwo.{Layout, is_inside, place, place_lines, settle}
use Rattle.f8_asm.specs.Image.{ascending, bytes_from, everywhere}
use Rattle.f8_asm.specs.Marks.{marks_with, is_free}
use Rattle.f8_asm.specs.PassThree.{table_with, line_bytes, emit, emit_lines}
use Rattle.f8_asm.specs.Steps.{steps}
use Rattle.f8_asm.specs.TokenLines.{Line, PlacedLine}
use Rattle.f8_asm.proofs.LineTokens.{some_utf8}
use Rattle.f8_asm.proofs.ListedLines.{line_of, Gives, Says}
use Rattle.f8_asm.proofs.ListedPieces.{Coded, coded_none, coded_more}

-- printable bytes are UTF-8
pub printable_ascii : (l : List ℕ) → list_all is_printable l ≡ true → IsAscii l
printable_ascii [] all i = lit< tt
printable_ascii (b ∷ bs) all zero = grind (arith, common_steps, nat_tests)
printable_ascii (b ∷ bs) all (suc i) = printable_ascii bs (grind (arith, common_steps)) i

-- ---- the first pass

-- lines give these bytes from this address on
pub data Reads : ℕ → List Line → List ℕ → Type 0 where
  reads_none : {at : ℕ} → Reads at [] []
  reads_more : {at : ℕ} {l : Line} {ls : List Line} {front rest : List ℕ} → Gives at l.tokens front →
      Reads (at + length front) ls rest → Reads at (l ∷ ls) (front ++ rest)

abbrev pub reading : List Line → Reading
reading ls = record { names = []; lines = ls }

abbrev pub numbered : ℕ → List Token → Line
numbered n ts = record { number = n; tokens = ts }

one_read : {at : ℕ} {line front : List ℕ} (says : Says at line front) (done : List Line) →
    read_line (reading done) line ≡ Ok (reading (done ++ numbered (length done + 1) says.ts ∷ []))
unfolding read_line
one_read says done = rw (
  some_utf8 (length done + 1) _ (IsUtf8-from_ascii _ (printable_ascii _ says.printable)),
  says.read,
  says.gives.behind_label,
  says.gives.statement_at 0,
) refl

-- the first pass reads lines that give these bytes
pub record ReadAs (done : List Line) (lines : List (List ℕ)) (at : ℕ) (bytes : List ℕ) : Type 0 where
  pub ls : List Line
  pub is : read_lines (reading done) lines ≡ Ok (reading (done ++ ls))
  pub reads : Reads at ls bytes

pub read_all : {at : ℕ} {es : List Entry} {bytes : List ℕ} → Coded at es bytes → (done : List Line) → ReadAs done (map line_of es) at bytes
unfolding steps
read_all coded_none done = record { ls = []; is = ap (λ r. Ok (reading r)) (sym (append-nil done)); reads = reads_none }
read_all (coded_more {at} {e} {es} {front} {rest} says behind) done =
    let line = numbered (length done + 1) says.ts in
    let others = read_all behind (done ++ line ∷ []) in
    record {
      ls = line ∷ others.ls;
      is = rw (one_read says done) (others.is ∙ ap (λ r. Ok (reading r)) (append_assoc done (line ∷ []) others.ls));
      reads = reads_more says.gives others.reads;
    }

-- ---- the third pass

-- lines at their addresses, one behind the other, give these bytes
pub data Emits : ℕ → List PlacedLine → List ℕ → Type 0 where
  emits_none : {at : ℕ} → Emits at [] []
  emits_more : {at : ℕ} {l : Line} {ps : List PlacedLine} {front rest : List ℕ} → Gives at l.tokens front →
      Emits (at + length front) ps rest → Emits at (record { address = at; line = l } ∷ ps) (front ++ rest)

-- bytes in two parts
written_more : (table : List (Option ℕ)) (at : ℕ) (front rest : List ℕ) →
    table_with table at (front ++ rest) ≡ table_with (table_with table at front) (at + length front) rest
written_more table at [] rest = rw (add-zero at) refl
written_more table at (b ∷ bs) rest =
    let next : at + 1 + length bs ≡ at + suc (length bs) = omega arith in
    written_more (set table at (Some b)) (at + 1) bs rest ∙ ap (λ a. table_with (table_with (set table at (Some b)) (at + 1) bs) a rest) next

one_emitted : {at : ℕ} (l : Line) {front : List ℕ} → Gives at l.tokens front → (table : List (Option ℕ)) →
    emit [] table (record { address = at; line = l }) ≡ Ok (table_with table at front)
unfolding emit line_bytes
one_emitted {at} l gives table = rw (gives.behind_label, gives.statement_at at, gives.instruction_of) refl

pub emit_all : {at : ℕ} {ps : List PlacedLine} {bytes : List ℕ} → Emits at ps bytes → (table : List (Option ℕ)) →
    emit_lines [] table ps ≡ Ok (table_with table at bytes)
unfolding steps
emit_all emits_none table = refl
emit_all (emits_more {at} {l} {ps} {front} {rest} gives behind) table =
    rw (one_emitted l gives table) (emit_all behind (table_with table at front)
    ∙ ap Ok (sym (written_more table at front rest)))

-- ---- the second pass

-- no address from this one on is filled
pub record FreeFrom (marks : List Bool) (at : ℕ) : Type 0 where
  pub is : list_any (λ m. m) (drop at marks) ≡ false

any_take : (n : ℕ) (xs : List Bool) → list_any (λ m. m) xs ≡ false → list_any (λ m. m) (take n xs) ≡ false
any_take zero xs none = refl
any_take (suc n) [] none = refl
any_take (suc n) (true ∷ xs) none = cc
any_take (suc n) (false ∷ xs) none = any_take n xs none

any_drop : (n : ℕ) (xs : List Bool) → list_any (λ m. m) xs ≡ false → list_any (λ m. m) (drop n xs) ≡ false
any_drop zero xs none = none
any_drop (suc n) [] none = refl
any_drop (suc n) (true ∷ xs) none = cc
any_drop (suc n) (false ∷ xs) none = any_drop n xs none

free_here : (marks : List Bool) (at n : ℕ) → FreeFrom marks at → is_free marks at n ≡ true
free_here marks at n free = rw (any_take (at + n - at) (drop at marks) free.is) refl

drop_more : (k j : ℕ) (xs : List Bool) → drop (k + j) xs ≡ drop j (drop k xs)
drop_more zero j xs = let e : 0 + j ≡ j = omega arith in rw e refl
drop_more (suc k) j [] = rw (drop-nil (suc k + j), drop-nil (suc k), drop-nil j) refl
drop_more (suc k) j (x ∷ xs) = let e : suc k + j ≡ suc (k + j) = omega arith in rw e (drop_more k j xs)

drop_marked : (marks : List Bool) (at n k : ℕ) → at + n ≤ k → drop k (marks_with marks at n) ≡ drop k marks
drop_marked marks at zero k within = refl
drop_marked marks at (suc n) k within = drop-set-lt k (marks_with marks at n) (at + n) true (omega arith) ∙ drop_marked marks at n k (omega arith)

free_behind : (marks : List Bool) (at n : ℕ) → FreeFrom marks at → FreeFrom (marks_with marks at n) (at + n)
free_behind marks at n free = record { is = rw (drop_marked marks at n (at + n) (omega arith), drop_more at n marks) (any_drop n (drop at marks) free.is) }

inside : (at n : ℕ) → at + n ≤ 65536 → is_inside everywhere at n ≡ true
inside at n fits = grind (arith, nat_tests)

abbrev pub layout : ℕ → List Bool → List PlacedLine → Layout PlacedLine
layout at filled placed = record { here = at; names = []; filled = filled; placed = placed }

one_placed : {at : ℕ} (l : Line) {front : List ℕ} → Gives at l.tokens front →
    (filled : List Bool) (placed : List PlacedLine) → FreeFrom filled at → at + length front ≤ 65536 →
    place everywhere (layout at filled placed) l
    ≡ Ok (layout (at + length front) (marks_with filled at (length front))
    (placed ++ (record { address = at; line = l }) ∷ []))
unfolding place settle
one_placed {at} l {front} gives filled placed free fits =
    rw (
      gives.behind_label,
      gives.statement_at at,
      gives.fills,
      inside at (length front) fits,
      free_here filled at (length front) free,
    ) refl

-- the second pass places lines that give these bytes, and knows no name
pub record PlacedAs (s : Layout PlacedLine) (ls : List Line) (at : ℕ) (bytes : List ℕ) : Type 0 where
  pub t : Layout PlacedLine
  pub ps : List PlacedLine
  pub is : place_lines everywhere s ls ≡ Ok t
  pub names : t.names ≡ []
  pub placed : t.placed ≡ s.placed ++ ps
  pub emits : Emits at ps bytes

pub place_all : {at : ℕ} {ls : List Line} {bytes : List ℕ} → Reads at ls bytes →
    (filled : List Bool) (placed : List PlacedLine) → FreeFrom filled at → at + length bytes ≤ 65536 →
    PlacedAs (layout at filled placed) ls at bytes
unfolding steps
place_all {at} reads_none filled placed free fits =
    record {
      t = layout at filled placed;
      ps = [];
      is = refl;
      names = refl;
      placed = sym (append-nil placed);
      emits = emits_none;
    }
place_all (reads_more {at} {l} {ls} {front} {rest} gives behind) filled placed free fits =
    let total = length-append front rest in
    let here = one_placed l gives filled placed free (omega arith) in
    let others = place_all behind (marks_with filled at (length front)) (placed ++ (record { address = at; line = l }) ∷ [])
    (free_behind filled at (length front) free) (omega arith) in
    record {
      t = others.t;
      ps = (record { address = at; line = l }) ∷ others.ps;
      is = rw here others.is;
      names = others.names;
      placed = others.placed ∙ append_assoc placed ((record { address = at; line = l }) ∷ []) others.ps;
      emits = emits_more gives others.emits;
    }

-- ---- the bytes of the image

pub ascending_none : (at n : ℕ) → ascending at (replicate n None) ≡ []
ascending_none at zero = refl
ascending_none at (suc n) = ascending_none (at + 1) n

-- a byte more put at the front of free slots, behind others
put_one : (done slots : List (Option ℕ)) (b : ℕ) → set (done ++ None ∷ slots) (length done) (Some b) ≡ (done ++ Some b ∷ []) ++ slots
put_one [] slots b = refl
put_one (o ∷ os) slots b = ap (λ r. o ∷ r) (put_one os slots b)

-- bytes put at the front of free slots, behind others
put : (done : List (Option ℕ)) (n : ℕ) (bytes : List ℕ) (at : ℕ) → at ≡ length done → length bytes ≤ n →
    table_with (done ++ replicate n None) at bytes ≡ (done ++ map (λ b. Some b) bytes) ++ replicate (n - length bytes) None
put done n [] at here fits = let same : n - 0 ≡ n = omega arith in rw (same, append-nil done) refl
put done zero (b ∷ bs) at here fits = absurd (omega arith)
put done (suc n) (b ∷ bs) at here fits =
    let less : suc n - suc (length bs) ≡ n - length bs = omega arith in
    rw (here, put_one done (replicate n None) b, less)
    (put (done ++ Some b ∷ []) n bs (length done + 1) (sym (length-append done (Some b ∷ []))) (omega arith)
    ∙ ap (λ r. r ++ replicate (n - length bs) None) (append_assoc done (Some b ∷ []) (map (λ c. Some c) bs)))

ascending_all : (at n : ℕ) (bytes : List ℕ) → ascending at (map (λ b. Some b) bytes ++ replicate n None) ≡ bytes_from at bytes
ascending_all at n [] = ascending_none at n
ascending_all at n (b ∷ bs) = ap (λ r. (at, b) ∷ r) (ascending_all (at + 1) n bs)

-- the image of bytes written from address 0000 on
pub image_bytes : (n : ℕ) (bytes : List ℕ) → length bytes ≤ n → ascending 0 (table_with (replicate n None) 0 bytes) ≡ bytes_from 0 bytes
image_bytes n bytes fits = ap (ascending 0) (put [] n bytes 0 refl fits) ∙ ascending_all 0 (n - length bytes) bytes
