-- What a module's first pass tells of its lines, its labels and its imports.
use Rattle.std.proofs.Common.{◌≡◌, ℕ, ℤ, pos, Bool, true, false, ◌||◌, List, [], ◌∷◌, ◌++◌, length, Option, Some, None, is_some}
use Rattle.std.proofs.Common.{Result, Ok, Err, refl, sym, ap, ◌∙◌, subst, suc}
use Rattle.std.specs.Prelude.{if◌then◌else◌, bytes_eq, slice_get}
use Rattle.std.specs.Str.{is_utf8}
use Rattle.std.proofs.lemmas.List.{map-append}
use Rattle.asm_text.specs.Tokens.{tokens_of}
use Rattle.asm_text.specs.declared.answers.Token.{Token}
use Rattle.asm_text.specs.declared.answers.TokenFault.{TokenFault}
use Rattle.f8_asm.specs.Names.{value_of}
use Rattle.f8_asm.specs.PassOne.{line_tokens}
use Rattle.f8_asm.specs.PassOne as plain
use Rattle.f8_asm.specs.declared.answers.AsmFault.{AsmFault}
use Rattle.f8_link.specs.FirstPass.{Reading, no_reading}
use Rattle.f8_link.specs.OneSource.{has, tokens_read, tokens_in}
use Rattle.f8_link.proofs.NameFacts.{names_of, same_name, not_true, not_both, value_in_front, value_behind, none_from}
use Rattle.f8_link.proofs.NameFacts.{some_from, some_none, slice_get_front, slice_get_last}

-- ---- the tokens of a line don't hang on its number

first_tokens : (number : ℕ) (t : Bool) (r : Result (List Token) TokenFault) (e f : AsmFault) (ts : List Token)
    → (if t then plain.tokens_in number r else Err e) ≡ Ok ts → tokens_read (if t then plain.tokens_in 1 r else Err f) ≡ ts
first_tokens number true (Ok us) e f ts h = cc h
first_tokens number true (Err g) e f ts h = cc h
first_tokens number false r e f ts h = cc h

pub same_tokens : (number : ℕ) (l : List ℕ) (ts : List Token) → line_tokens number l ≡ Ok ts → tokens_in l ≡ ts
unfolding line_tokens
same_tokens number l ts h = first_tokens number (is_utf8 l) (tokens_of l) _ _ ts h

-- ---- what is known

-- the labels seen and the imports are known, no import is a label, and an import has the number of its place
pub record Known (seen : List (List ℕ)) (s : Reading) : Type 0 where
  pub label : (x : List ℕ) → has seen x ≡ true → is_some (value_of s.known x) ≡ true
  pub imported : (x : List ℕ) → is_some (value_of s.imports x) ≡ true → is_some (value_of s.known x) ≡ true
  pub apart : (x : List ℕ) → has seen x ≡ true → value_of s.imports x ≡ None
  pub numbered : (x : List ℕ) (i : ℕ) → value_of s.imports x ≡ Some i → slice_get (names_of s.imports) i ≡ Some x

pub nothing_known : Known [] no_reading
unfolding no_reading
nothing_known = record {
  label = λ x h. absurd (not_both true refl (sym h));
  imported = λ x h. h;
  apart = λ x h. refl;
  numbered = λ x i h. cc h;
}

names_length : {A : Type 0} (es : List (List ℕ × A)) → length (names_of es) ≡ length es
names_length [] = refl
names_length (e ∷ es) = ap suc (names_length es)

-- a name that isn't known
module _ {seen : List (List ℕ)} {s : Reading} (so : Known seen s) (name : List ℕ) (new : value_of s.known name ≡ None) where
  pub not_imported : value_of s.imports name ≡ None
  not_imported = none_from (value_of s.imports name)
      (not_true (is_some (value_of s.imports name)) (λ is. some_none (value_of s.known name) (so.imported name is) new))

  pub not_seen : has seen name ≡ false
  not_seen = not_true (has seen name) (λ is. some_none (value_of s.known name) (so.label name is) new)

  known_before : (x : List ℕ) → is_some (value_of s.known x) ≡ true → is_some (value_of (s.known ++ (name, pos 0) ∷ []) x) ≡ true
  known_before x is = let found = some_from (value_of s.known x) is in rw (value_in_front s.known ((name, pos 0) ∷ []) x found.0 found.1) refl

  known_now : (x : List ℕ) → bytes_eq x name ≡ true → is_some (value_of (s.known ++ (name, pos 0) ∷ []) x) ≡ true
  known_now x is = by (value_of s.known x) refl
    where
      by : (o : Option ℤ) → value_of s.known x ≡ o → is_some (value_of (s.known ++ (name, pos 0) ∷ []) x) ≡ true
      by (Some v) found = rw (value_in_front s.known ((name, pos 0) ∷ []) x v found) refl
      by None found = rw (value_behind s.known ((name, pos 0) ∷ []) x found, is) refl

  -- it is a label
  label_seen : (t : Bool) (x : List ℕ) → bytes_eq x name ≡ t → (t || has seen x) ≡ true → is_some (value_of (s.known ++ (name, pos 0) ∷ []) x) ≡ true
  label_seen true x is h = known_now x is
  label_seen false x is h = known_before x (so.label x h)

  label_apart : (t : Bool) (x : List ℕ) → bytes_eq x name ≡ t → (t || has seen x) ≡ true → value_of s.imports x ≡ None
  label_apart true x is h = rw (same_name x name is) not_imported
  label_apart false x is h = so.apart x h

  pub label_more : (t : Reading) → t.known ≡ s.known ++ (name, pos 0) ∷ [] → t.imports ≡ s.imports → Known (name ∷ seen) t
  label_more t known imports = record {
    label = λ x h. rw known (label_seen (bytes_eq x name) x refl h);
    imported = λ x h. rw known (known_before x (so.imported x (rw imports at h)));
    apart = λ x h. rw imports (label_apart (bytes_eq x name) x refl h);
    numbered = λ x i h. rw imports (so.numbered x i (rw imports at h));
  }

  -- it is an import
  abbrev more : List (List ℕ × ℕ)
  more = s.imports ++ (name, length s.imports) ∷ []

  import_known : (x : List ℕ) → is_some (value_of more x) ≡ true → is_some (value_of (s.known ++ (name, pos 0) ∷ []) x) ≡ true
  import_known x h = by (value_of s.imports x) refl (bytes_eq x name) refl
    where
      by : (o : Option ℕ) → value_of s.imports x ≡ o → (t : Bool) → bytes_eq x name ≡ t → is_some (value_of (s.known ++ (name, pos 0) ∷ []) x) ≡ true
      by (Some i) found t is = known_before x (so.imported x (ap is_some found))
      by None found true is = known_now x is
      by None found false is =
          let none : value_of more x ≡ None = value_behind s.imports ((name, length s.imports) ∷ []) x found ∙ rw is refl in
          some_none (value_of more x) h none

  import_apart : (x : List ℕ) → has seen x ≡ true → value_of more x ≡ None
  import_apart x h =
      let other = not_true (bytes_eq x name) (λ is. not_both (has seen name) (subst (λ y. has seen y ≡ true) (same_name x name is) h) not_seen) in
      value_behind s.imports ((name, length s.imports) ∷ []) x (so.apart x h) ∙ rw other refl

  names_more : names_of more ≡ names_of s.imports ++ name ∷ []
  names_more = map-append (λ (e : List ℕ × ℕ). e.0) s.imports ((name, length s.imports) ∷ [])

  import_numbered : (x : List ℕ) (i : ℕ) → value_of more x ≡ Some i → slice_get (names_of more) i ≡ Some x
  import_numbered x i h = by (value_of s.imports x) refl (bytes_eq x name) refl
    where
      by : (o : Option ℕ) → value_of s.imports x ≡ o → (t : Bool) → bytes_eq x name ≡ t → slice_get (names_of more) i ≡ Some x
      by (Some j) found t is =
          let same : Some j ≡ Some i = sym (value_in_front s.imports ((name, length s.imports) ∷ []) x j found) ∙ h in
          rw names_more (slice_get_front (names_of s.imports) (name ∷ []) i x (so.numbered x i (found ∙ same)))
      by None found true is =
          let last : value_of more x ≡ Some (length s.imports) = value_behind s.imports ((name, length s.imports) ∷ []) x found ∙ rw is refl in
          let at : Some (length s.imports) ≡ Some i = sym last ∙ h in
          let size : length (names_of s.imports) ≡ length s.imports = names_length s.imports in
          let place : length (names_of s.imports) ≡ i = size ∙ cc at in
          rw (names_more, ← place, same_name x name is) (slice_get_last (names_of s.imports) name)
      by None found false is =
          let none : value_of more x ≡ None = value_behind s.imports ((name, length s.imports) ∷ []) x found ∙ rw is refl in
          cc (sym none ∙ h)

  pub import_more : (t : Reading) → t.known ≡ s.known ++ (name, pos 0) ∷ [] → t.imports ≡ more → Known seen t
  import_more t known imports = record {
    label = λ x h. rw known (known_before x (so.label x h));
    imported = λ x h. rw known (import_known x (rw imports at h));
    apart = λ x h. rw imports (import_apart x h);
    numbered = λ x i h. rw imports (import_numbered x i (rw imports at h));
  }
