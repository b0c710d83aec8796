-- What is shown after some writes, and after one more.
use Rattle.std.proofs.Common.{◌≡◌, ◌≢◌, ℕ, ◌+◌, ◌<◌, ◌≤◌, true, false, List, [], ◌∷◌, ◌++◌, get_or, set, map, refl}
use Rattle.std.proofs.Common.{sym, ap, ◌∙◌, arith, eq-eqb, lit<}
use Rattle.std.specs.Prelude.{Bool, ◌&&◌, ◌==◌, if◌then◌else◌, codes}
use Rattle.std.specs.List.{range_with_len}
use Rattle.std.proofs.lemmas.Simd.{map-map}
use Rattle.std.proofs.lemmas.Grind.{common_steps}
use Rattle.std.proofs.lemmas.List.FromFn.{get_or-map-range_with_len}
use Rattle.console_spec.specs.Writes.{latch_of}
use Rattle.console_spec.specs.declared.PortWrite.{PortWrite}
use Rattle.console_spec.specs.Display.{is_raised, is_rise, pixel_of, palette_of}
use Rattle.console_spec.specs.RunText.{picture_row}
use Rattle.video.specs.ScreenState.{Latches, Shown, rows_of, latches_of, screen_after, row_in, pixel_in, palette_in, digits_in}
use Rattle.video.specs.ScreenState.{colour_drawn, x_drawn, y_drawn, drawn, after_write}
use Rattle.video.specs.Planes.{plane_of}
use Rattle.video.proofs.DisplayLaws.{pixel_of-next}
use Rattle.video.proofs.IndexedLists.{map-same, set-made}
use Rattle.video.proofs.PlaneLaws.{plane_of-same}

-- ---- rows made of colours

row_in-rows_of : (p : ℕ → ℕ → ℕ) (y : ℕ) → y < 64 → row_in (rows_of p) y ≡ map (λ x. p x y) (range_with_len 0 128)
unfolding rows_of
row_in-rows_of p y h = get_or-map-range_with_len (λ k. map (λ x. p x k) (range_with_len 0 128)) 0 64 y y [] h (omega arith)

pub pixel_in-rows_of : (p : ℕ → ℕ → ℕ) (x y : ℕ) → x < 128 → y < 64 → pixel_in (rows_of p) x y ≡ p x y
pixel_in-rows_of p x y inside below =
    ap (λ row. get_or row x 0) (row_in-rows_of p y below) ∙ get_or-map-range_with_len (λ k. p k y) 0 128 x x 0 inside (omega arith)

pub rows_of-same : (p q : ℕ → ℕ → ℕ) → ((x y : ℕ) → x < 128 → y < 64 → p x y ≡ q x y) → rows_of p ≡ rows_of q
unfolding rows_of
rows_of-same p q same =
    map-same (λ y. map (λ x. p x y) (range_with_len 0 128)) (λ y. map (λ x. q x y) (range_with_len 0 128)) 64 []
    (λ y below. map-same (λ x. p x y) (λ x. q x y) 128 0 (λ x inside. same x y inside below))

abbrev is_drawn_at : ℕ → ℕ → Latches → Bool
is_drawn_at x y l = (x_drawn l == x) && (y_drawn l == y)

-- the colours with one more pixel
abbrev with_pixel : Latches → (ℕ → ℕ → ℕ) → ℕ → ℕ → ℕ
with_pixel l p x y = if is_drawn_at x y l then colour_drawn l else p x y

with_pixel-here : (l : Latches) (p : ℕ → ℕ → ℕ) → with_pixel l p (x_drawn l) (y_drawn l) ≡ colour_drawn l
with_pixel-here l p = rw (eq-eqb (x_drawn l) (x_drawn l) refl, eq-eqb (y_drawn l) (y_drawn l) refl) refl

with_pixel-beside : (l : Latches) (p : ℕ → ℕ → ℕ) (x y : ℕ) → x ≢ x_drawn l → with_pixel l p x y ≡ p x y
with_pixel-beside l p x y differs = grind (arith, common_steps)

with_pixel-off : (l : Latches) (p : ℕ → ℕ → ℕ) (x y : ℕ) → y ≢ y_drawn l → with_pixel l p x y ≡ p x y
with_pixel-off l p x y differs = grind (arith, common_steps)

drawn-rows_of : (l : Latches) (p : ℕ → ℕ → ℕ) → drawn l (rows_of p) ≡ rows_of (with_pixel l p)
unfolding rows_of
drawn-rows_of l p =
    let inside : x_drawn l < 128 = omega arith in
    let below : y_drawn l < 64 = omega arith in
    ap (λ row. set (rows_of p) (y_drawn l) (set row (x_drawn l) (colour_drawn l))) (row_in-rows_of p (y_drawn l) below)
    ∙ ap (λ row. set (rows_of p) (y_drawn l) row)
    (set-made (λ x. p x (y_drawn l)) (λ x. with_pixel l p x (y_drawn l)) 128 (x_drawn l) (colour_drawn l) inside (with_pixel-here l p)
    (λ x h differs. with_pixel-beside l p x (y_drawn l) differs))
    ∙ set-made (λ y. map (λ x. p x y) (range_with_len 0 128)) (λ y. map (λ x. with_pixel l p x y) (range_with_len 0 128)) 64 (y_drawn l)
    (map (λ x. with_pixel l p x (y_drawn l)) (range_with_len 0 128)) below refl
    (λ y h differs. map-same (λ x. with_pixel l p x y) (λ x. p x y) 128 0 (λ x k. with_pixel-off l p x y differs))

-- ---- one more write

abbrev pixels_of : List PortWrite → ℕ → ℕ → ℕ
pixels_of ws x y = pixel_of x y ws

rows-next : (w : PortWrite) (ws : List PortWrite) →
    (if is_rise w ws then drawn (latches_of ws) (rows_of (pixels_of ws)) else rows_of (pixels_of ws)) ≡ rows_of (pixels_of (w ∷ ws))
rows-next w ws =
    elim (is_rise w ws) as (λ b. (if b then drawn (latches_of ws) (rows_of (pixels_of ws)) else rows_of (pixels_of ws))
    ≡ rows_of (λ x y. if b then with_pixel (latches_of ws) (pixels_of ws) x y else pixels_of ws x y)) [
      | true ↦ drawn-rows_of (latches_of ws) (pixels_of ws)
      | false ↦ refl
    ]
    ∙ rows_of-same _ (pixels_of (w ∷ ws)) (λ x y h k. sym (pixel_of-next w ws x y))

strobe-next : (w : PortWrite) (ws : List PortWrite) → (if w.port == 0 then is_raised w.byte else is_raised (latch_of 0 ws)) ≡ is_raised (latch_of 0 (w ∷ ws))
strobe-next w ws =
    elim (w.port == 0) as (λ b. (if b then is_raised w.byte else is_raised (latch_of 0 ws)) ≡ is_raised (if b then w.byte else latch_of 0 ws)) [
      | true ↦ refl
      | false ↦ refl
    ]

-- what is shown after one more write is by what was shown before
pub after_write-screen_after : (w : PortWrite) (ws : List PortWrite) → after_write w.port w.byte (screen_after ws) ≡ screen_after (w ∷ ws)
unfolding after_write
after_write-screen_after w ws =
    let strobe : (if w.port == 0 then is_raised w.byte else is_raised (latch_of 0 ws)) ≡ is_raised (latch_of 0 (w ∷ ws)) = strobe-next w ws in
    let rows : (if is_rise w ws then drawn (latches_of ws) (rows_of (pixels_of ws)) else rows_of (pixels_of ws))
    ≡ rows_of (pixels_of (w ∷ ws)) = rows-next w ws in
    ap (λ b. record { latches = latches_of (w ∷ ws); strobe = b; rows = (after_write w.port w.byte (screen_after ws)).rows }) strobe
    ∙ ap (λ r. record { latches = latches_of (w ∷ ws); strobe = is_raised (latch_of 0 (w ∷ ws)); rows = r }) rows

pub goes_on : (now after : Shown) (w : PortWrite) (ws : List PortWrite) → after ≡ after_write w.port w.byte now →
    now ≡ screen_after ws → after ≡ screen_after (w ∷ ws)
goes_on now after w ws next before = next ∙ ap (after_write w.port w.byte) before ∙ after_write-screen_after w ws

-- ---- what is told of it

pub shown_pixel : (s : Shown) (ws : List PortWrite) (x y : ℕ) → s ≡ screen_after ws → x < 128 → y < 64 → pixel_in s.rows x y ≡ pixel_of x y ws
shown_pixel s ws x y e inside below = ap (λ t. pixel_in t.rows x y) e ∙ pixel_in-rows_of (pixels_of ws) x y inside below

pub shown_palette : (s : Shown) (ws : List PortWrite) (y : ℕ) → s ≡ screen_after ws → y < 64 → palette_in (pixel_in s.rows) y ≡ palette_of y ws
shown_palette s ws y e below =
    let first : pixel_in s.rows 125 y ≡ pixel_of 125 y ws = shown_pixel s ws 125 y e (lit< tt) below in
    let second : pixel_in s.rows 126 y ≡ pixel_of 126 y ws = shown_pixel s ws 126 y e (lit< tt) below in
    cc

-- past the last row nothing is drawn
pixel_of-past : (ws : List PortWrite) (x y : ℕ) → 64 ≤ y → pixel_of x y ws ≡ 0
pixel_of-past [] x y past = refl
pixel_of-past (w ∷ ws) x y past = pixel_of-next w ws x y ∙ by (is_rise w ws) (pixel_of-past ws x y past)
  where
    off : y ≢ y_drawn (latches_of ws)
    off = λ e. omega (arith, e, past)

    by : (rise : Bool) → pixel_of x y ws ≡ 0 → (if rise then with_pixel (latches_of ws) (pixels_of ws) x y else pixel_of x y ws) ≡ 0
    by true before = with_pixel-off (latches_of ws) (pixels_of ws) x y off ∙ before
    by false before = before

pub palette_of-past : (ws : List PortWrite) (y : ℕ) → 64 ≤ y → palette_of y ws ≡ 0
palette_of-past ws y past = rw (pixel_of-past ws 125 y past, pixel_of-past ws 126 y past) refl

pub shown_plane : (s : Shown) (ws : List PortWrite) (y bit : ℕ) → s ≡ screen_after ws → y < 64 →
    plane_of (λ x. pixel_in s.rows x y) bit ≡ plane_of (λ x. pixel_of x y ws) bit
shown_plane s ws y bit e below = plane_of-same (λ x. pixel_in s.rows x y) (λ x. pixel_of x y ws) bit (λ x h. shown_pixel s ws x y e h below)

digits_in-row : (ws : List PortWrite) (y : ℕ) → digits_in (pixels_of ws) y ++ codes "\n" ≡ picture_row y ws
unfolding digits_in picture_row
digits_in-row ws y =
    ap (λ ds. ((48 + palette_of y ws) ∷ 32 ∷ ds) ++ codes "\n") (sym (map-map (λ colour. 48 + colour) (λ x. pixel_of x y ws) (range_with_len 0 128)))

digits_in-same : (p q : ℕ → ℕ → ℕ) (y : ℕ) → ((x : ℕ) → x < 128 → p x y ≡ q x y) → digits_in p y ≡ digits_in q y
unfolding digits_in
digits_in-same p q y same =
    let first : p 125 y ≡ q 125 y = same 125 (lit< tt) in
    let second : p 126 y ≡ q 126 y = same 126 (lit< tt) in
    let pixels : map (λ x. 48 + p x y) (range_with_len 0 128) ≡ map (λ x. 48 + q x y) (range_with_len 0 128) =
    map-same (λ x. 48 + p x y) (λ x. 48 + q x y) 128 0 (λ x h. ap (λ k. 48 + k) (same x h)) in
    cc

-- a row's text with a line feed is its line
pub shown_digits : (s : Shown) (ws : List PortWrite) (y : ℕ) (text : List ℕ) →
    s ≡ screen_after ws → y < 64 → text ≡ digits_in (pixel_in s.rows) y → text ++ codes "\n" ≡ picture_row y ws
shown_digits s ws y text e below told =
    ap (λ t. t ++ codes "\n") (told ∙ digits_in-same (pixel_in s.rows) (pixels_of ws) y (λ x h. shown_pixel s ws x y e h below)) ∙ digits_in-row ws y
