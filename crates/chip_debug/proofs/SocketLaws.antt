-- The chips of a rack socket by socket.
use Rattle.std.proofs.Common.{◌≡◌, ℕ, zero, suc, ◌+◌, ◌*◌, ◌<◌, ◌≤◌, Bool, true, false, List, [], ◌∷◌, ◌++◌, length, drop, refl}
use Rattle.std.proofs.Common.{sym, ap, ◌∙◌, arith, add-one, zero-add}
use Rattle.std.specs.Prelude.{◌==◌, filter_map, is_some, option_map, slice_get, Option, Some, None}
use Rattle.std.specs.List.{enumerate_from, filter, list_any}
use Rattle.std.proofs.lemmas.List.{length-map}
use Rattle.std.proofs.lemmas.Option.{slice_get-map}
use Rattle.std.proofs.lemmas.List.FromFn.{length-enumerate_from}
use Rattle.f8_spec.specs.ChipState.{ChipView, ChipState, held_byte}
use Rattle.f8_spec.specs.declared.bus.Counters.{Counters}
use Rattle.data_bus.specs.Racks.{views}
use Rattle.console_spec.specs.RunText.{text_of}
use Rattle.report.proofs.TextLaws.{text_of-nil, text_of-cons}
use Rattle.chip_debug.specs.Breaks.{own_counters, is_parted, are_apart}
use Rattle.chip_debug.specs.Carried.{fitted_lines, sole}
use Rattle.chip_debug.specs.DebugText.{chip_line}
use Rattle.chip_debug.proofs.ChainLaws.{passes, any_named}

-- a chip sits in a socket of the rack
pub seated : (states : List ChipState) (socket : ℕ) → socket < length states →
    (s : ChipState) × (slice_get states socket ≡ Some s)
seated [] socket within = absurd (omega (arith, within))
seated (s ∷ states) zero within = (s, refl)
seated (s ∷ states) (suc socket) within = seated states socket (omega (arith, within))

-- and on a rack that stayed it is that one
pub still_seated : (olds nows : List ChipState) (socket : ℕ) (s : ChipState) → nows ≡ olds →
    slice_get olds socket ≡ Some s → slice_get nows socket ≡ Some s
still_seated olds nows socket s same here = ap (λ (states : List ChipState). slice_get states socket) same ∙ here

-- ---- questions

-- one chip more was asked
pub asked_once : (p q r s n : ℕ) → q ≤ p + n → r ≤ q + 1 → s ≡ r → s ≤ p + (n + 1)
asked_once p q r s n before once same = omega arith

-- or not
pub asked_not : (p q s n : ℕ) → q ≤ p + n → s ≡ q → s ≤ p + (n + 1)
asked_not p q s n before same = omega arith

-- each chip was asked once more
pub asked_each : (p q r n chips size : ℕ) → q ≤ p + n * size → r ≤ q + chips → chips ≡ size → r ≤ p + (n + 1) * size
asked_each p q r n chips size before each same = omega arith

-- ---- from a socket on

abbrev pub named_from : ℕ → List ChipState → List (ℕ × ChipView)
named_from socket states = drop socket (enumerate_from 0 (views states))

named_next : (n socket : ℕ) (states : List ChipState) (s : ChipState) → slice_get states socket ≡ Some s →
    drop socket (enumerate_from n (views states))
    ≡ (n + socket, s.view) ∷ drop (suc socket) (enumerate_from n (views states))
named_next n socket [] s here = cc
named_next n zero (t ∷ states) s here =
    let same : t ≡ s = cc in
    let from : n + 0 ≡ n = omega arith in
    rw (from, same) refl
named_next n (suc socket) (t ∷ states) s here =
    let on : n + suc socket ≡ n + 1 + socket = omega arith in
    rw on (named_next (n + 1) socket states s here)

pub named_more : (socket : ℕ) (states : List ChipState) (s : ChipState) → slice_get states socket ≡ Some s →
    named_from socket states ≡ (socket, s.view) ∷ named_from (socket + 1) states
named_more socket states s here =
    named_next 0 socket states s here
    ∙ ap (λ n. (n, s.view) ∷ drop (suc socket) (enumerate_from 0 (views states))) (zero-add socket)
    ∙ ap (λ n. (socket, s.view) ∷ drop n (enumerate_from 0 (views states))) (sym (add-one socket))

drop_past : {A : Type 0} → (n : ℕ) (xs : List A) → length xs ≤ n → drop n xs ≡ []
drop_past zero [] past = refl
drop_past zero (x ∷ xs) past = absurd (omega (arith, past))
drop_past (suc n) [] past = refl
drop_past (suc n) (x ∷ xs) past = drop_past n xs (omega (arith, past))

pub named_none : (socket : ℕ) (states : List ChipState) → length states ≤ socket → named_from socket states ≡ []
named_none socket states past =
    drop_past socket (enumerate_from 0 (views states))
    (omega (arith, past, length-enumerate_from 0 (views states), length-map states (λ (s : ChipState). s.view)))

-- ---- the chips described

abbrev is_in : List ℕ → ℕ × ChipView → Bool
is_in chain x = list_any (λ held. held == x.0) chain

abbrev pub fitted_from : List ℕ → ℕ → List ChipState → List (ℕ × ChipView)
fitted_from chain socket states = filter (is_in chain) (named_from socket states)

filter_here : (chain : List ℕ) (x : ℕ × ChipView) (xs : List (ℕ × ChipView)) → is_in chain x ≡ true →
    filter (is_in chain) (x ∷ xs) ≡ x ∷ filter (is_in chain) xs
filter_here chain x xs here = rw here refl

filter_not : (chain : List ℕ) (x : ℕ × ChipView) (xs : List (ℕ × ChipView)) → is_in chain x ≡ false →
    filter (is_in chain) (x ∷ xs) ≡ filter (is_in chain) xs
filter_not chain x xs here = rw here refl

pub fitted_here : (chain : List ℕ) (socket : ℕ) (states : List ChipState) (s : ChipState) →
    slice_get states socket ≡ Some s → list_any (λ held. held == socket) chain ≡ true →
    fitted_from chain socket states ≡ (socket, s.view) ∷ fitted_from chain (socket + 1) states
fitted_here chain socket states s here is =
    ap (filter (is_in chain)) (named_more socket states s here)
    ∙ filter_here chain (socket, s.view) (named_from (socket + 1) states) is

pub fitted_not : (chain : List ℕ) (socket : ℕ) (states : List ChipState) → socket < length states →
    list_any (λ held. held == socket) chain ≡ false →
    fitted_from chain socket states ≡ fitted_from chain (socket + 1) states
fitted_not chain socket states within is =
    let s = seated states socket within in
    ap (filter (is_in chain)) (named_more socket states s.0 s.1)
    ∙ filter_not chain (socket, s.0.view) (named_from (socket + 1) states) is

pub fitted_none : (chain : List ℕ) (socket : ℕ) (states : List ChipState) → length states ≤ socket →
    fitted_from chain socket states ≡ []
fitted_none chain socket states past = ap (filter (is_in chain)) (named_none socket states past)

-- ---- counters that part

-- the chip in a socket parts, if one sits there
abbrev pub parts_in : Counters → List ChipState → ℕ → Bool
parts_in reference states socket =
    passes (λ v. is_parted reference (own_counters v)) (slice_get (views states) socket)

-- the chips of the chain decide
pub apart_by_chain : (reference : Counters) (chain : List ℕ) (states : List ChipState) →
    are_apart reference chain (views states) ≡ list_any (parts_in reference states) chain
apart_by_chain reference chain states = any_named (λ v. is_parted reference (own_counters v)) chain (views states)

pub parts_seated : (b : Bool) (reference : Counters) (states : List ChipState) (socket : ℕ) (s : ChipState) →
    slice_get states socket ≡ Some s → is_parted reference (own_counters s.view) ≡ b → parts_in reference states socket ≡ b
parts_seated b reference states socket s here is =
    ap (passes (λ v. is_parted reference (own_counters v)))
    (slice_get-map (λ (t : ChipState). t.view) states socket
    ∙ ap (λ (o : Option ChipState). option_map (λ (t : ChipState). t.view) o) here)
    ∙ is

nothing_past : {A : Type 0} → (xs : List A) (place : ℕ) → length xs ≤ place → slice_get xs place ≡ None
nothing_past [] place past = refl
nothing_past (x ∷ xs) zero past = absurd (omega (arith, past))
nothing_past (x ∷ xs) (suc place) past = nothing_past xs place (omega (arith, past))

pub parts_past : (reference : Counters) (states : List ChipState) (socket : ℕ) → length states ≤ socket →
    parts_in reference states socket ≡ false
parts_past reference states socket past =
    ap (passes (λ v. is_parted reference (own_counters v)))
    (nothing_past (views states) socket (omega (arith, past, length-map states (λ (s : ChipState). s.view))))

-- ---- their lines

abbrev pub lines_from : List ℕ → ℕ → List ChipState → List ℕ
lines_from chain socket states = text_of (fitted_lines (fitted_from chain socket states))

pub lines_here : (chain : List ℕ) (socket : ℕ) (states : List ChipState) (s : ChipState) →
    slice_get states socket ≡ Some s → list_any (λ held. held == socket) chain ≡ true →
    lines_from chain socket states
    ≡ chip_line socket s.view.kind (own_counters s.view) ++ lines_from chain (socket + 1) states
lines_here chain socket states s here is =
    ap (λ xs. text_of (fitted_lines xs)) (fitted_here chain socket states s here is)
    ∙ text_of-cons (chip_line socket s.view.kind (own_counters s.view))
    (fitted_lines (fitted_from chain (socket + 1) states))

pub lines_not : (chain : List ℕ) (socket : ℕ) (states : List ChipState) → socket < length states →
    list_any (λ held. held == socket) chain ≡ false →
    lines_from chain socket states ≡ lines_from chain (socket + 1) states
lines_not chain socket states within is = ap (λ xs. text_of (fitted_lines xs)) (fitted_not chain socket states within is)

pub lines_none : (chain : List ℕ) (socket : ℕ) (states : List ChipState) → length states ≤ socket →
    lines_from chain socket states ≡ []
lines_none chain socket states past =
    ap (λ xs. text_of (fitted_lines xs)) (fitted_none chain socket states past) ∙ text_of-nil

-- ---- the bytes at an address

abbrev pub held_from : ℕ → ℕ → List ChipState → List ℕ
held_from at socket states = filter_map (λ v. held_byte v at) (drop socket (views states))

abbrev pub listed : Option ℕ → List ℕ
listed None = []
listed (Some byte) = byte ∷ []

views_next : (socket : ℕ) (states : List ChipState) (s : ChipState) → slice_get states socket ≡ Some s →
    drop socket (views states) ≡ s.view ∷ drop (suc socket) (views states)
views_next socket [] s here = cc
views_next zero (t ∷ states) s here = let same : t ≡ s = cc in rw same refl
views_next (suc socket) (t ∷ states) s here = views_next socket states s here

held_first : (at : ℕ) (v : ChipView) (vs : List ChipView) (byte : Option ℕ) → held_byte v at ≡ byte →
    filter_map (λ w. held_byte w at) (v ∷ vs) ≡ listed byte ++ filter_map (λ w. held_byte w at) vs
held_first at v vs None is = rw is refl
held_first at v vs (Some byte) is = rw is refl

pub held_more : (at socket : ℕ) (states : List ChipState) (s : ChipState) (byte : Option ℕ) →
    slice_get states socket ≡ Some s → held_byte s.view at ≡ byte →
    held_from at socket states ≡ listed byte ++ held_from at (socket + 1) states
held_more at socket states s byte here is =
    ap (filter_map (λ v. held_byte v at)) (views_next socket states s here)
    ∙ held_first at s.view (drop (suc socket) (views states)) byte is
    ∙ ap (λ n. listed byte ++ filter_map (λ v. held_byte v at) (drop n (views states))) (sym (add-one socket))

pub held_none : (at socket : ℕ) (states : List ChipState) → length states ≤ socket → held_from at socket states ≡ []
held_none at socket states past =
    ap (filter_map (λ v. held_byte v at))
    (drop_past socket (views states) (omega (arith, past, length-map states (λ (s : ChipState). s.view))))

pub sole_of : (held : Option ℕ) (rest : List ℕ) → rest ≡ [] → sole (listed held ++ rest) ≡ held
sole_of None rest none = rw none refl
sole_of (Some byte) rest none = rw none refl

-- a second byte
pub sole_second : (held : Option ℕ) (byte : ℕ) (all rest : List ℕ) → is_some held ≡ true →
    all ≡ listed held ++ (listed (Some byte) ++ rest) → sole all ≡ None
sole_second None byte all rest some is = cc
sole_second (Some first) byte all rest some is = rw is refl

-- the first byte
pub held_first_byte : (held : Option ℕ) (all byte rest : List ℕ) → is_some held ≡ false → all ≡ listed held ++ (byte ++ rest) →
    all ≡ byte ++ rest
held_first_byte None all byte rest none is = is
held_first_byte (Some first) all byte rest none is = cc
