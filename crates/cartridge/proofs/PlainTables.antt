-- A described table nests at most three deep, and holds no date.
use Rattle.std.proofs.Common.{◌≡◌, ℕ, ◌+◌, ◌≤◌, Bool, true, false, ◌||◌, List, [], ◌∷◌, Some, ℤ, is_eq, refl, sym, ap, ◌∙◌, arith}
use Rattle.std.specs.Prelude.{not, is_some, bytes_eq}
use Rattle.std.proofs.lemmas.Bool.{and_parts}
use Rattle.std.proofs.lemmas.Slice.Eq.{bytes_eq-Decides}
use Rattle.toml.specs.Data.{Data, string, integer, boolean, array, table, Items, no_items, item, Members, no_members, member}
use Rattle.toml.specs.Data.{as_integer, as_str, as_bool, as_array, get_member, depth, items_depth, members_depth}
use Rattle.toml.specs.Data.{has_valid_dates, items_have_valid_dates, members_have_valid_dates}
use Rattle.cartridge.specs.declared.keys.Key.{Key}
use Rattle.cartridge.specs.Keys.{key_word, value_at, is_spelled, are_known}
use Rattle.cartridge.specs.DistinctKeys.{are_distinct}
use Rattle.cartridge.proofs.MemberLookups.{compared, tied-same, found_here, found_behind}

-- no deeper than so many levels, and without a date that no text can write
pub record IsPlain (n : ℕ) (d : Data) : Type 0 where
  pub shallow : depth d ≤ n
  pub dated : has_valid_dates d ≡ true

abbrev pub AllPlain : ℕ → Members → Type 0
AllPlain n no_members = Unit {0}
AllPlain n (member name d rest) = IsPlain n d × AllPlain n rest

abbrev pub ItemsPlain : ℕ → Items → Type 0
ItemsPlain n no_items = Unit {0}
ItemsPlain n (item d ds) = IsPlain n d × ItemsPlain n ds

pub members_plain : (n : ℕ) (ms : Members) → AllPlain n ms → (members_depth ms ≤ n) × (members_have_valid_dates ms ≡ true)
members_plain n no_members plain = (omega arith, refl)
members_plain n (member name d rest) plain =
    let more = members_plain n rest plain.1 in
    let here = plain.0.shallow in
    (omega arith, rw (plain.0.dated, more.1))

items_plain : (n : ℕ) (ds : Items) → ItemsPlain n ds → (items_depth ds ≤ n) × (items_have_valid_dates ds ≡ true)
items_plain n no_items plain = (omega arith, refl)
items_plain n (item d ds) plain =
    let more = items_plain n ds plain.1 in
    let here = plain.0.shallow in
    (omega arith, rw (plain.0.dated, more.1))

pub table_plain : (n : ℕ) (ms : Members) → AllPlain n ms → IsPlain (n + 1) (table ms)
table_plain n ms plain = let (low, good) = members_plain n ms plain in record { shallow = omega arith; dated = good }

pub array_plain : (n : ℕ) (ds : Items) → ItemsPlain n ds → IsPlain (n + 1) (array ds)
array_plain n ds plain = let (low, good) = items_plain n ds plain in record { shallow = omega arith; dated = good }

-- ---- by its type

pub integer_plain : (n : ℕ) (d : Data) (z : ℤ) → as_integer d ≡ Some z → IsPlain n d
integer_plain n (integer y) z h = record { shallow = omega arith; dated = refl }
integer_plain n _ z h = cc h

pub text_plain : (n : ℕ) (d : Data) (s : List ℕ) → as_str d ≡ Some s → IsPlain n d
text_plain n (string t) s h = record { shallow = omega arith; dated = refl }
text_plain n _ s h = cc h

pub truth_plain : (n : ℕ) (d : Data) (b : Bool) → as_bool d ≡ Some b → IsPlain n d
truth_plain n (boolean c) b h = record { shallow = omega arith; dated = refl }
truth_plain n _ b h = cc h

pub list_plain : (n : ℕ) (d : Data) (ds : Items) → as_array d ≡ Some ds → ItemsPlain n ds → IsPlain (n + 1) d
list_plain n (array es) ds h plain = let same : es ≡ ds = cc h in rw same (array_plain n ds plain)
list_plain n _ ds h plain = cc h

-- ---- a table is plain that is plain at each key that it may have

abbrev pub PlainAt : ℕ → Members → Key → Type 0
PlainAt n ms key = (d : Data) → value_at key ms ≡ Some d → IsPlain n d

abbrev pub PlainAtKeys : ℕ → Members → List Key → Type 0
PlainAtKeys n ms [] = Unit {0}
PlainAtKeys n ms (key ∷ keys) = PlainAt n ms key × PlainAtKeys n ms keys

here_at : (t : Bool) (n : ℕ) (key : Key) (keys : List Key) (name : List ℕ) (d : Data) (rest : Members) → bytes_eq name (key_word key) ≡ t
    → (t || is_spelled keys name) ≡ true → PlainAtKeys n (member name d rest) (key ∷ keys)
    → (is_spelled keys name ≡ true → IsPlain n d) → IsPlain n d
here_at true n key keys name d rest is spelled plain more =
    let same : name ≡ key_word key = (bytes_eq-Decides name (key_word key)).0 is in
    plain.0 d (found_here (key_word key) name d rest (sym same))
here_at false n key keys name d rest is spelled plain more = more spelled

plain_here : (n : ℕ) (keys : List Key) (name : List ℕ) (d : Data) (rest : Members) → is_spelled keys name ≡ true
    → PlainAtKeys n (member name d rest) keys → IsPlain n d
plain_here n [] name d rest spelled plain = cc spelled
plain_here n (key ∷ keys) name d rest spelled plain =
    here_at (bytes_eq name (key_word key)) n key keys name d rest refl spelled plain
    (λ more. plain_here n keys name d rest more plain.1)

-- a key that is found behind a member isn't the member's
behind_at : (t : Bool) (k name : List ℕ) (d e : Data) (rest : Members) → is_eq (compared k name) ≡ t → not (is_some (get_member name rest)) ≡ true
    → get_member k rest ≡ Some e → get_member k (member name d rest) ≡ Some e
behind_at false k name d e rest is absent there = found_behind k name d rest is ∙ there
behind_at true k name d e rest is absent there =
    let same : k ≡ name = tied-same k name is in
    let found : get_member name rest ≡ Some e = ap (λ (l : List ℕ). get_member l rest) (sym same) ∙ there in
    let none : not (is_some (Some e)) ≡ true = rw found at absent in
    cc none

plain_behind : (n : ℕ) (keys : List Key) (name : List ℕ) (d : Data) (rest : Members) → not (is_some (get_member name rest)) ≡ true
    → PlainAtKeys n (member name d rest) keys → PlainAtKeys n rest keys
plain_behind n [] name d rest absent plain = tt
plain_behind n (key ∷ keys) name d rest absent plain = (
  λ e there. plain.0 e (behind_at (is_eq (compared (key_word key) name)) (key_word key) name d e rest refl absent there),
  plain_behind n keys name d rest absent plain.1,
)

pub plain_all : (n : ℕ) (keys : List Key) (ms : Members) → are_known keys ms ≡ true → are_distinct ms ≡ true → PlainAtKeys n ms keys → AllPlain n ms
plain_all n keys no_members known distinct plain = tt
plain_all n keys (member name d rest) known distinct plain =
    let (spelled, more) = and_parts (is_spelled keys name) (are_known keys rest) known in
    let (absent, others) = and_parts (not (is_some (get_member name rest))) (are_distinct rest) distinct in (
      plain_here n keys name d rest spelled plain,
      plain_all n keys rest more others (plain_behind n keys name d rest absent plain),
    )
