-- The lines of bytes, one after the other: each takes the entries that follow its address, up to 16.
use Rattle.std.proofs.Common.{◌≡◌, ℕ, zero, suc, ◌+◌, ◌/◌, ◌<◌, ◌≤◌, min, Bool, true, false, cond, List, [], ◌∷◌, ◌++◌}
use Rattle.std.proofs.Common.{length, map, take, drop, refl, sym, ap, ◌∙◌, subst, arith, zero-add, eq-eqb, length-drop}
use Rattle.std.proofs.Common.{inl, inr}
use Rattle.std.specs.Prelude.{nat_eq, flat_map}
use Rattle.std.proofs.lemmas.Bool.{eqb-true, cases_lt}
use Rattle.std.proofs.lemmas.Bool.Decides.{eqb_tells}
use Rattle.std.proofs.lemmas.List.{take_all, take-take, take-map, drop-take, drop-drop, length-take-le, length-map}
use Rattle.std.specs.List.{drop-map}
use Rattle.console_spec.specs.RunText.{text_of}
use Rattle.report.proofs.TextLaws.{text_of-cons, text_of-nil}
use Rattle.asm_lines.specs.ImageLines.{Run, before_runs, runs_of, pieces_of, byte_line, byte_lines}
use Rattle.asm_lines.specs.Rows.{following}

-- the bytes of entries
abbrev pub bytes_of : List (ℕ × ℕ) → List ℕ
bytes_of es = map (λ e. e.1) es

-- bytes from an address on
abbrev pub piece : ℕ → List ℕ → Run
piece at bytes = record { first = at; bytes = bytes }

-- ---- how far entries go on

pub following_on : (at : ℕ) (e : ℕ × ℕ) (es : List (ℕ × ℕ)) → e.0 ≡ at →
    following at (e ∷ es) ≡ suc (following (at + 1) es)
following_on at e es here = rw (eq-eqb e.0 at here) refl

following_choice : (b : Bool) (n all : ℕ) → n ≤ all → cond b (suc n) 0 ≤ suc all
following_choice true n all fits = omega arith
following_choice false n all fits = omega arith

pub following_fits : (at : ℕ) (es : List (ℕ × ℕ)) → following at es ≤ length es
following_fits at [] = omega arith
following_fits at (e ∷ es) =
    following_choice (nat_eq e.0 at) (following (at + 1) es) (length es) (following_fits (at + 1) es)

-- past the first of them it is so many less
pub following_past : (k at : ℕ) (es : List (ℕ × ℕ)) → k ≤ following at es →
    following at es ≡ k + following (at + k) (drop k es)
following_past zero at es fits =
    let same : at ≡ at + 0 = omega arith in
    ap (λ (a : ℕ). following a es) same ∙ sym (zero-add (following (at + 0) es))
following_past (suc k) at [] fits = absurd (omega arith)
following_past (suc k) at (e ∷ es) fits = elim (eqb_tells e.0 at) [
  | inl here ↦
      let within : suc k ≤ suc (following (at + 1) es) = rw (following_on at e es here.1) at fits in
      let rest : following (at + 1) es ≡ k + following (at + 1 + k) (drop k es) =
      following_past k (at + 1) es (omega arith) in
      let same : at + 1 + k ≡ at + suc k = omega arith in
      let there : following (at + 1 + k) (drop k es) ≡ following (at + suc k) (drop k es) =
      ap (λ (a : ℕ). following a (drop k es)) same in
      rw (following_on at e es here.1) (omega arith)
  | inr away ↦
      let none : suc k ≤ 0 = rw away.0 at fits in
      absurd (omega arith)
]

-- ---- runs

joined : (b : Bool) (e f : ℕ × ℕ) (es : List (ℕ × ℕ)) (m n : ℕ) → (b ≡ true → m ≡ n) →
    runs_of (f ∷ es) ≡ piece f.0 (f.1 ∷ bytes_of (take m es)) ∷ runs_of (drop m es) →
    cond b (piece e.0 (e.1 ∷ f.1 ∷ bytes_of (take m es)) ∷ runs_of (drop m es))
    (piece e.0 (e.1 ∷ []) ∷ piece f.0 (f.1 ∷ bytes_of (take m es)) ∷ runs_of (drop m es))
    ≡ piece e.0 (e.1 ∷ bytes_of (take (cond b (suc n) 0) (f ∷ es))) ∷ runs_of (drop (cond b (suc n) 0) (f ∷ es))
joined true e f es m n same rest = rw (same refl) refl
joined false e f es m n same rest = ap (λ (runs : List Run). piece e.0 (e.1 ∷ []) ∷ runs) (sym rest)

first_run : (e : ℕ × ℕ) (es : List (ℕ × ℕ)) →
    runs_of (e ∷ es) ≡ piece e.0 (e.1 ∷ bytes_of (take (following (e.0 + 1) es) es)) ∷ runs_of
    (drop (following (e.0 + 1) es) es)
first_run e [] = refl
first_run e (f ∷ es) =
    ap (before_runs e) (first_run f es)
    ∙ joined (nat_eq f.0 (e.0 + 1)) e f es (following (f.0 + 1) es) (following (e.0 + 1 + 1) es)
    (λ same. ap (λ (at : ℕ). following (at + 1) es) (eqb-true f.0 (e.0 + 1) same)) (first_run f es)

-- a run is the entries that follow its first address
run_at : (at : ℕ) (es : List (ℕ × ℕ)) → 0 < following at es →
    runs_of es ≡ piece at (bytes_of (take (following at es) es)) ∷ runs_of (drop (following at es) es)
run_at at [] some = absurd (omega arith)
run_at at (e ∷ es) some = elim (eqb_tells e.0 at) [
  | inl here ↦
      let taken : ℕ → List (ℕ × ℕ) = λ a. take (following (a + 1) es) es in
      let left : ℕ → List (ℕ × ℕ) = λ a. drop (following (a + 1) es) es in
      rw (following_on at e es here.1)
      (subst (λ (a : ℕ). runs_of (e ∷ es) ≡ piece a (e.1 ∷ bytes_of (taken a)) ∷ runs_of (left a)) here.1 (first_run e es))
  | inr away ↦
      let none : 0 < 0 = rw away.0 at some in
      absurd (omega arith)
]

-- ---- pieces

pieces_short : (at : ℕ) (bs : List ℕ) → 0 < length bs → length bs ≤ 16 → pieces_of (piece at bs) ≡ piece at bs ∷ []
pieces_short at bs some short =
    let one : (length bs + 15) / 16 ≡ suc zero = omega arith in
    rw one (rw (take_all 16 bs short) refl)

pieces_long : (at : ℕ) (bs : List ℕ) → 16 < length bs →
    pieces_of (piece at bs) ≡ piece at (take 16 bs) ∷ pieces_of (piece (at + 16) (drop 16 bs))
pieces_long at bs long =
    let more : (length bs + 15) / 16 ≡ suc ((length (drop 16 bs) + 15) / 16) = omega (arith, length-drop 16 bs) in
    rw more refl

-- ---- rows

abbrev pub run_lines : Run → List (List ℕ)
run_lines run = map byte_line (pieces_of run)

bytes_of-length : (n : ℕ) (es : List (ℕ × ℕ)) → n ≤ length es → length (bytes_of (take n es)) ≡ n
bytes_of-length n es fits = rw length-map (length-take-le n es fits)

row_short : (at n : ℕ) (es : List (ℕ × ℕ)) → 0 < n → n ≤ 16 → n ≤ length es →
    runs_of es ≡ piece at (bytes_of (take n es)) ∷ runs_of (drop n es) →
    flat_map run_lines (runs_of es)
    ≡ byte_line (piece at (bytes_of (take n es))) ∷ flat_map run_lines (runs_of (drop n es))
row_short at n es some short fits run =
    let size = bytes_of-length n es fits in
    ap (flat_map run_lines) run
    ∙ ap (λ (runs : List Run). map byte_line runs ++ flat_map run_lines (runs_of (drop n es)))
    (pieces_short at (bytes_of (take n es)) (omega arith) (omega arith))

row_long : (at m : ℕ) (es : List (ℕ × ℕ)) → 0 < m → 16 + m ≤ length es →
    runs_of es ≡ piece at (bytes_of (take (16 + m) es)) ∷ runs_of (drop (16 + m) es) →
    runs_of (drop 16 es) ≡ piece (at + 16) (bytes_of (take m (drop 16 es))) ∷ runs_of (drop m (drop 16 es)) →
    flat_map run_lines (runs_of es)
    ≡ byte_line (piece at (bytes_of (take 16 es))) ∷ flat_map run_lines (runs_of (drop 16 es))
row_long at m es some fits run rest =
    let size = bytes_of-length (16 + m) es fits in
    let all : List ℕ = bytes_of (take (16 + m) es) in
    let front : List ℕ = bytes_of (take 16 es) in
    let back : List ℕ = bytes_of (take m (drop 16 es)) in
    let behind : List (List ℕ) = flat_map run_lines (runs_of (drop (16 + m) es)) in
    let begins : take 16 all ≡ front =
    take-map (λ (e : ℕ × ℕ). e.1) 16 (take (16 + m) es) ∙ ap bytes_of (take-take 16 (16 + m) es (omega arith)) in
    let goes_on : drop 16 all ≡ back =
    drop-map (λ (e : ℕ × ℕ). e.1) 16 (take (16 + m) es) ∙ ap bytes_of (drop-take 16 m es) in
    ap (flat_map run_lines) run
    ∙ ap (λ (runs : List Run). map byte_line runs ++ behind) (pieces_long at all (omega arith))
    ∙ ap (λ (bs : List ℕ). byte_line (piece at bs) ∷ run_lines (piece (at + 16) (drop 16 all)) ++ behind) begins
    ∙ ap (λ (bs : List ℕ). byte_line (piece at front) ∷ run_lines (piece (at + 16) bs) ++ behind) goes_on
    ∙ ap (λ (es' : List (ℕ × ℕ)).
    byte_line (piece at front) ∷ run_lines (piece (at + 16) back) ++ flat_map run_lines (runs_of es'))
    (sym (drop-drop m 16 es))
    ∙ ap (λ (runs : List Run). byte_line (piece at front) ∷ flat_map run_lines runs) (sym rest)

-- the first line, and the lines of the entries behind it
first_row : (at : ℕ) (es : List (ℕ × ℕ)) → 0 < following at es →
    byte_lines es
    ≡ byte_line (piece at (bytes_of (take (min 16 (following at es)) es)))
    ∷ byte_lines (drop (min 16 (following at es)) es)
unfolding byte_lines
first_row at es some = elim (cases_lt 16 (following at es)) [
  | inl long ↦
      let past = following_past 16 at es (omega arith) in
      let all = following_fits at es in
      let size : min 16 (following at es) ≡ 16 = omega arith in
      rw size
      (row_long at (following (at + 16) (drop 16 es)) es (omega arith) (omega arith) (rw past at (run_at at es some))
      (run_at (at + 16) (drop 16 es) (omega arith)))
  | inr short ↦
      let size : min 16 (following at es) ≡ following at es = omega arith in
      rw size (row_short at (following at es) es some short (following_fits at es) (run_at at es some))
]

-- the first entry lies at its own address
some_follow : (e : ℕ × ℕ) (others es : List (ℕ × ℕ)) → es ≡ e ∷ others → 0 < following e.0 es
some_follow e others es begins =
    let on = following_on e.0 e others refl in
    rw begins (rw on (omega arith))

-- the same as a text
pub text_row : (e : ℕ × ℕ) (others es : List (ℕ × ℕ)) (n : ℕ) → es ≡ e ∷ others → n ≡ min 16 (following e.0 es) →
    text_of (byte_lines es) ≡ byte_line (piece e.0 (bytes_of (take n es))) ++ text_of (byte_lines (drop n es))
text_row e others es n begins size =
    rw size (ap text_of (first_row e.0 es (some_follow e others es begins)) ∙ text_of-cons _ _)

pub text_no_row : text_of (byte_lines []) ≡ []
unfolding byte_lines
text_no_row = text_of-nil
