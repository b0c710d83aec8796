-- The text of what is told, piece by piece.
use Rattle.std.proofs.Common.{◌≡◌, ◌≢◌, ℕ, Bool, true, false, List, [], ◌∷◌, ◌++◌, refl, ap, ◌∙◌}
use Rattle.std.specs.Prelude.{flat_map, if◌then◌else◌}
use Rattle.std.proofs.lemmas.List.{append-nil}
use Rattle.std.proofs.lemmas.Grind.{flat_map-append}
use Rattle.console_spec.specs.RunText.{lines_of, text_of}
use Rattle.console_spec.specs.Telling.{Told, Moment, told_in}
use Rattle.report.proofs.TextLaws.{text_of-append}
use Rattle.rack_run.specs.Texts.{is_told, is_traced, text_told, text_in}
use Rattle.rack_run.specs.declared.detail.Detail.{Detail}
use Rattle.rack_run.specs.declared.detail.Detail.TheVariants.{Nothing, Writes, Steps}

pub text_told-nil : text_told [] ≡ []
unfolding text_told text_of
text_told-nil = refl

pub text_told-append : (xs ys : List Told) → text_told (xs ++ ys) ≡ text_told xs ++ text_told ys
unfolding text_told
text_told-append xs ys =
    ap text_of (flat_map-append lines_of xs ys) ∙ text_of-append (flat_map lines_of xs) (flat_map lines_of ys)

-- one thing told, by its lines
pub text_told-one : (x : Told) → text_told (x ∷ []) ≡ text_of (lines_of x)
unfolding text_told
text_told-one x = ap text_of (append-nil (lines_of x))

pub text_told-cons : (x : Told) (xs : List Told) → text_told (x ∷ xs) ≡ text_of (lines_of x) ++ text_told xs
text_told-cons x xs = text_told-append (x ∷ []) xs ∙ ap (λ (text : List ℕ). text ++ text_told xs) (text_told-one x)

-- told, or not told, as a detail has it
pub told_if : (b : Bool) → b ≡ true → (text : List ℕ) → (if b then text else []) ≡ text
told_if true is text = refl
told_if false is text = cc

text_if-nil : (b : Bool) → (if b then text_told [] else []) ≡ []
text_if-nil true = text_told-nil
text_if-nil false = refl

pub text_in-nil : (detail : Detail) → text_in detail [] ≡ []
text_in-nil detail = text_if-nil (is_told detail)

text_if-append : (b : Bool) (xs ys : List Told) →
    (if b then text_told (xs ++ ys) else []) ≡ (if b then text_told xs else []) ++ (if b then text_told ys else [])
text_if-append true xs ys = text_told-append xs ys
text_if-append false xs ys = refl

pub text_in-append : (detail : Detail) (xs ys : List Told) →
    text_in detail (xs ++ ys) ≡ text_in detail xs ++ text_in detail ys
text_in-append detail xs ys = text_if-append (is_told detail) xs ys

-- steps are told where writes are
pub traced_told : (detail : Detail) → is_traced detail ≡ true → is_told detail ≡ true
traced_told Nothing is = cc
traced_told Writes is = cc
traced_told Steps is = refl

-- ---- moments

pub told_in-append : (ms ns : List Moment) → told_in (ms ++ ns) ≡ told_in ms ++ told_in ns
told_in-append ms ns = flat_map-append (λ (m : Moment). m.told) ms ns

pub told_in-one : (m : Moment) → told_in (m ∷ []) ≡ m.told
told_in-one m = append-nil m.told

-- ---- texts that are not empty

pub some_first : (x y : List ℕ) → x ≢ [] → x ++ y ≢ []
some_first [] y some e = some refl
some_first (b ∷ x) y some e = cc

pub some_behind : (x y : List ℕ) → y ≢ [] → x ++ y ≢ []
some_behind [] y some e = some e
some_behind (b ∷ x) y some e = cc
