-- What members have at a key, where a value is put at one, and where some keys are taken out. Keys needn't ascend.
use Rattle.std.proofs.Common.{◌≡◌, ℕ, Bool, true, false, List, Ordering, Less, Equal, Greater, Option, Some, nat_cmp, is_eq, refl, sym, ap}
use Rattle.std.proofs.Common.{◌∙◌}
use Rattle.std.specs.Prelude.{if◌then◌else◌}
use Rattle.std.specs.Ordering.{match_ordering}
use Rattle.std.specs.Cmp.{tied_itself}
use Rattle.std.specs.Cmp.Lexicographic.{slice_cmp}
use Rattle.std.proofs.lemmas.Bool.{and_parts, false≢true}
use Rattle.std.proofs.lemmas.Cmp.{nat_list_cmp_total}
use Rattle.std.proofs.lemmas.Map.Text.{is_eq-slice_cmp}
use Rattle.std.proofs.lemmas.Slice.Eq.{bytes_eq-Decides}
use Rattle.toml.specs.Data.{Data, Members, no_members, member, get_member}
use Rattle.cartridge.specs.declared.keys.Key.{Key}
use Rattle.cartridge.specs.Keys.{is_spelled, are_known}
use Rattle.cartridge.specs.Migrated.{with_value, without_keys}

abbrev pub compared : List ℕ → List ℕ → Ordering
compared j k = slice_cmp nat_cmp j k

pub tied-same : (j k : List ℕ) → is_eq (compared j k) ≡ true → j ≡ k
tied-same j k tied = (bytes_eq-Decides j k).0 (sym (is_eq-slice_cmp j k) ∙ tied)

equal-same : (j k : List ℕ) → compared j k ≡ Equal → j ≡ k
equal-same j k e = tied-same j k (ap is_eq e)

pub same-equal : (k : List ℕ) → compared k k ≡ Equal
same-equal k = tied_itself nat_list_cmp_total k

-- ---- at a member

pub found_here : (k name : List ℕ) (d : Data) (rest : Members) → k ≡ name → get_member k (member name d rest) ≡ Some d
found_here k name d rest same = rw (same, same-equal name)

passed : (o : Ordering) (found rest : Option Data) → is_eq o ≡ false → match_ordering o rest found rest ≡ rest
passed Less found rest other = refl
passed Equal found rest other = cc
passed Greater found rest other = refl

pub found_behind : (k name : List ℕ) (d : Data) (rest : Members) → is_eq (compared k name) ≡ false → get_member k (member name d rest) ≡ get_member k rest
found_behind k name d rest other = passed (compared k name) (Some d) (get_member k rest) other

-- ---- where a value is put at a key

put_found_at : (o : Ordering) (k name : List ℕ) (v old : Data) (rest : Members) → compared k name ≡ o → get_member k (with_value k v rest) ≡ Some v
    → get_member k (match_ordering o (member k v (member name old rest)) (member name v rest) (member name old (with_value k v rest))) ≡ Some v
put_found_at Less k name v old rest is more = found_here k k v (member name old rest) refl
put_found_at Equal k name v old rest is more = found_here k name v rest (equal-same k name is)
put_found_at Greater k name v old rest is more = found_behind k name old (with_value k v rest) (ap is_eq is) ∙ more

pub put_found : (k : List ℕ) (v : Data) (ms : Members) → get_member k (with_value k v ms) ≡ Some v
put_found k v no_members = found_here k k v no_members refl
put_found k v (member name old rest) = put_found_at (compared k name) k name v old rest refl (put_found k v rest)

-- another key than the one that it is put at
put_other_at : (o : Ordering) (j k name : List ℕ) (v old : Data) (rest : Members) → is_eq (compared j k) ≡ false → compared k name ≡ o
    → get_member j (with_value k v rest) ≡ get_member j rest
    → get_member j (match_ordering o (member k v (member name old rest)) (member name v rest) (member name old (with_value k v rest)))
    ≡ get_member j (member name old rest)
put_other_at Less j k name v old rest other is more = found_behind j k v (member name old rest) other
put_other_at Equal j k name v old rest other is more =
    let apart : is_eq (compared j name) ≡ false = rw (← equal-same k name is) other in
    found_behind j name v rest apart ∙ sym (found_behind j name old rest apart)
put_other_at Greater j k name v old rest other is more =
    ap (λ (o : Option Data). match_ordering (compared j name) o (Some old) o) more

pub put_other : (j k : List ℕ) (v : Data) (ms : Members) → is_eq (compared j k) ≡ false → get_member j (with_value k v ms) ≡ get_member j ms
put_other j k v no_members other = found_behind j k v no_members other
put_other j k v (member name old rest) other = put_other_at (compared k name) j k name v old rest other refl (put_other j k v rest other)

-- ---- where some keys are taken out

unspelled : (keys : List Key) (k name : List ℕ) (t : Bool) → is_spelled keys k ≡ false → is_spelled keys name ≡ true → is_eq (compared k name) ≡ t → t ≡ false
unspelled keys k name false hidden spelled is = refl
unspelled keys k name true hidden spelled is =
    let same : k ≡ name = tied-same k name is in
    absurd (false≢true (sym hidden ∙ rw same spelled))

left_at : (t : Bool) (keys : List Key) (k name : List ℕ) (d : Data) (rest : Members) → is_spelled keys k ≡ false → is_spelled keys name ≡ t
    → get_member k (without_keys keys rest) ≡ get_member k rest
    → get_member k (if t then without_keys keys rest else member name d (without_keys keys rest)) ≡ get_member k (member name d rest)
left_at true keys k name d rest hidden is more = more ∙ sym (found_behind k name d rest (unspelled keys k name _ hidden is refl))
left_at false keys k name d rest hidden is more = ap (λ (o : Option Data). match_ordering (compared k name) o (Some d) o) more

pub left_other : (keys : List Key) (k : List ℕ) (ms : Members) → is_spelled keys k ≡ false → get_member k (without_keys keys ms) ≡ get_member k ms
left_other keys k no_members hidden = refl
left_other keys k (member name d rest) hidden = left_at (is_spelled keys name) keys k name d rest hidden refl (left_other keys k rest hidden)

-- ---- which keys they have

known_put_at : (o : Ordering) (keys : List Key) (k name : List ℕ) (v old : Data) (rest : Members) → is_spelled keys k ≡ true
    → is_spelled keys name ≡ true → are_known keys rest ≡ true → are_known keys (with_value k v rest) ≡ true
    → are_known keys (match_ordering o (member k v (member name old rest)) (member name v rest) (member name old (with_value k v rest))) ≡ true
known_put_at Less keys k name v old rest new here more put = rw (new, here, more)
known_put_at Equal keys k name v old rest new here more put = rw (here, more)
known_put_at Greater keys k name v old rest new here more put = rw (here, put)

pub known_put : (keys : List Key) (k : List ℕ) (v : Data) (ms : Members) → is_spelled keys k ≡ true → are_known keys ms ≡ true
    → are_known keys (with_value k v ms) ≡ true
known_put keys k v no_members new all = rw new
known_put keys k v (member name old rest) new all =
    let (here, more) = and_parts (is_spelled keys name) (are_known keys rest) all in
    known_put_at (compared k name) keys k name v old rest new here more (known_put keys k v rest new more)

known_left_at : (t : Bool) (keys gone left : List Key) (name : List ℕ) (d : Data) (rest : Members) → is_spelled gone name ≡ t
    → (t ≡ false → is_spelled left name ≡ true) → are_known left (without_keys gone rest) ≡ true
    → are_known left (if t then without_keys gone rest else member name d (without_keys gone rest)) ≡ true
known_left_at true keys gone left name d rest is here more = more
known_left_at false keys gone left name d rest is here more = rw (here refl, more)

-- what is known is known among fewer keys, where they are left out
pub known_left : (keys gone left : List Key) (ms : Members)
    → ((name : List ℕ) → is_spelled keys name ≡ true → is_spelled gone name ≡ false → is_spelled left name ≡ true)
    → are_known keys ms ≡ true → are_known left (without_keys gone ms) ≡ true
known_left keys gone left no_members fewer all = refl
known_left keys gone left (member name d rest) fewer all =
    let (here, more) = and_parts (is_spelled keys name) (are_known keys rest) all in
    known_left_at (is_spelled gone name) keys gone left name d rest refl (fewer name here) (known_left keys gone left rest fewer more)

-- what is known is known among more keys
pub known_more : (keys more : List Key) (ms : Members) → ((name : List ℕ) → is_spelled keys name ≡ true → is_spelled more name ≡ true)
    → are_known keys ms ≡ true → are_known more ms ≡ true
known_more keys more no_members wider all = refl
known_more keys more (member name d rest) wider all =
    let (here, others) = and_parts (is_spelled keys name) (are_known keys rest) all in
    rw (wider name here, known_more keys more rest wider others)
