-- A text of 130 bytes is that of a row where its bytes are, and is written digit by digit.
use Rattle.std.proofs.Common.{◌≡◌, ◌≢◌, ℕ, ◌+◌, ◌<◌, ◌≤◌, suc, List, [], ◌∷◌, length, get_or, set, map, sym, ap, ◌∙◌, arith, below_more}
use Rattle.std.specs.List.{range_with_len}
use Rattle.std.proofs.lemmas.List.{length-set, get_or-set_same, get_or-set_other}
use Rattle.std.proofs.lemmas.List.FromFn.{fill_by_all}
use Rattle.video.specs.ScreenState.{palette_in, digits_in, in_each_row}

-- two bytes, and then one for each index
headed : (text : List ℕ) (n a b : ℕ) (f : ℕ → ℕ) → length text ≡ n + 2 → get_or text 0 0 ≡ a → get_or text 1 0 ≡ b →
    ((k : ℕ) → k < n → get_or text (k + 2) 0 ≡ f k) → text ≡ a ∷ b ∷ map f (range_with_len 0 n)
headed [] n a b f long first second rest = absurd (omega arith)
headed (u ∷ []) n a b f long first second rest = absurd (omega arith)
headed (u ∷ v ∷ text) n a b f long first second rest =
    let tail_long : length text ≡ n = omega arith in
    let each : (k : ℕ) → k < n → get_or text k 0 ≡ f k = λ k h. let two : k + 2 ≡ suc (suc k) = omega arith in
    ap (λ i. get_or (u ∷ v ∷ text) i 0) (sym two) ∙ rest k h in
    let tail : text ≡ map f (range_with_len 0 n) = fill_by_all f text n 0 tail_long each in
    cc

-- the text of a row as far as the digits of its first n pixels
pub record WrittenBelow (row : List ℕ) (n : ℕ) (text : List ℕ) : Type 0 where
  pub long : length text ≡ 130
  pub palette : get_or text 0 0 ≡ 48 + palette_in (in_each_row row) 0
  pub blank : get_or text 1 0 ≡ 32
  pub digits : (k : ℕ) → k < n → get_or text (k + 2) 0 ≡ 48 + get_or row k 0

pub written-fewer : (row text : List ℕ) (n m : ℕ) → m ≤ n → WrittenBelow row n text → WrittenBelow row m text
written-fewer row text n m fewer w = record {
  long = w.long;
  palette = w.palette;
  blank = w.blank;
  digits = λ k h. let below : k < n = omega arith in w.digits k below;
}

pub written-more : (row text : List ℕ) (n place digit : ℕ) → n < 128 → place ≡ n + 2 → digit ≡ 48 + get_or row n 0 →
    WrittenBelow row n text → WrittenBelow row (n + 1) (set text place digit)
written-more row text n place digit inside here told w =
    let within : place < length text = omega (arith, w.long) in record {
      long = length-set text place digit ∙ w.long;
      palette = get_or-set_other text place 0 digit 0 (omega arith) ∙ w.palette;
      blank = get_or-set_other text place 1 digit 0 (omega arith) ∙ w.blank;
      digits = below_more (λ k. get_or (set text place digit) (k + 2) 0 ≡ 48 + get_or row k 0) n
          (λ k h. let apart : k + 2 ≢ place = omega arith in get_or-set_other text place (k + 2) digit 0 apart ∙ w.digits k h)
          (ap (λ i. get_or (set text place digit) i 0) (sym here) ∙ get_or-set_same text place digit 0 within ∙ told);
    }

pub written-whole : (row text : List ℕ) → WrittenBelow row 128 text → text ≡ digits_in (in_each_row row) 0
unfolding digits_in
written-whole row text w = headed text 128 (48 + palette_in (in_each_row row) 0) 32 (λ x. 48 + get_or row x 0) w.long w.palette w.blank w.digits
