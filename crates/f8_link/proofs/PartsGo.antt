-- The second pass over all modules, one behind the other, in the one source.
use Rattle.std.proofs.Common.{◌≡◌, ℕ, ◌+◌, ◌≤◌, ℤ, Bool, true, false, List, [], ◌∷◌, ◌++◌, length, Option, Some, None, Result, Ok, Err}
use Rattle.std.proofs.Common.{refl, sym, ap, ◌∙◌, subst, arith, append_assoc, append-nil}
use Rattle.std.specs.Prelude.{if◌then◌else◌, bytes_eq, option_map}
use Rattle.asm_text.specs.declared.answers.Token.{Token}
use Rattle.f8_asm.specs.Answers.{◌>>=◌}
use Rattle.f8_asm.specs.Image.{everywhere}
use Rattle.f8_asm.specs.Marks.{no_marks, marks_with, is_free}
use Rattle.f8_asm.specs.Names.{value_of}
use Rattle.f8_asm.specs.PassTwo.{Layout as SourceLayout, no_layout as no_source, moved_to, with_placed as source_with, is_inside}
use Rattle.f8_asm.specs.Steps.{steps}
use Rattle.f8_asm.proofs.Steps.{steps_end, steps_more}
use Rattle.f8_link.specs.Linking.{named_value}
use Rattle.f8_link.specs.OneSource.{SourceLine, PlacedSource, source_placed}
use Rattle.f8_link.specs.SecondPass.{Layout, no_layout, place_lines}
use Rattle.f8_link.specs.declared.lines.LineTask.{LineTask}
use Rattle.f8_link.specs.declared.values.Named.{Named}
use Rattle.f8_link.proofs.EquGoes.{OwnNamesGo, EquGoes}
use Rattle.f8_link.proofs.LineTogether.{Site}
use Rattle.f8_link.proofs.ModuleLines.{LinesPair, LabelsNew}
use Rattle.f8_link.proofs.ModulePlaced.{lines_with, NoStray, PlacesPair, module_goes}
use Rattle.f8_link.proofs.OriginLine.{origin_source, origin_place, origin_placed}
use Rattle.f8_link.proofs.PlacedNames.{placed_names, KeepsApart, LabelsFresh, value_behind, value_placed}

-- ---- modules

-- A module as linking places it: where it begins, how the one source spells its names, its imports, its lines and the tokens of its statements,
-- and what its second pass gave.
pub record Placing : Type 0 where
  pub first : ℕ
  pub rename : List ℕ → List ℕ
  pub imports : List (List ℕ × ℕ)
  pub lines : List LineTask
  pub tokens : List (List Token)
  pub laid : Layout

-- the names of a module in the one source
abbrev pub own_names : Placing → List (List ℕ × ℤ)
own_names p = placed_names p.rename p.first p.laid.names

-- the addresses of its bytes marked
abbrev pub own_marks : List Bool → Placing → List Bool
own_marks marks p = marks_with marks p.first p.laid.here

-- what is known of a module behind these names and marks
pub record PlacingIs (names : List (List ℕ × ℤ)) (marks : List Bool) (p : Placing) : Type 0 where
  pub low : p.first ≤ 65535
  pub pairs : LinesPair p.lines p.tokens
  pub new : LabelsNew [] p.tokens
  pub plain : NoStray p.tokens
  pub apart : KeepsApart p.rename
  pub fresh : LabelsFresh p.rename names p.tokens
  pub laid_is : place_lines p.imports no_layout p.lines ≡ Ok p.laid
  pub inside : is_inside everywhere p.first p.laid.here ≡ true
  pub free : is_free marks p.first p.laid.here ≡ true
  pub equ : EquGoes p.first p.rename

-- all modules, each behind the names and marks of those before it
pub data Placings : List (List ℕ × ℤ) → List Bool → List Placing → Type 0 where
  no_module : {names : List (List ℕ × ℤ)} {marks : List Bool} → Placings names marks []
  one_module : {names : List (List ℕ × ℤ)} {marks : List Bool} {p : Placing} {ps : List Placing} → PlacingIs names marks p
      → Placings (names ++ own_names p) (own_marks marks p) ps → Placings names marks (p ∷ ps)

-- the names of all modules, and their marks
abbrev pub all_names : List Placing → List (List ℕ × ℤ)
all_names [] = []
all_names (p ∷ ps) = own_names p ++ all_names ps

abbrev pub all_marks : List Bool → List Placing → List Bool
all_marks marks [] = marks
all_marks marks (p ∷ ps) = all_marks (own_marks marks p) ps

-- the lines of all modules, each behind its ORG; the first has this number
abbrev pub parts_lines : ℕ → List Placing → List SourceLine
parts_lines number [] = []
parts_lines number (p ∷ ps) =
    origin_source number p.first ∷ (lines_with p.rename (number + 1) p.tokens ++ parts_lines (number + 1 + length p.tokens) ps)

-- Modules and the placed lines of the one source, where all names have these values: an ORG goes before the lines of each, and the names of each
-- have their values.
pub data PartsPair (all : List (List ℕ × ℤ)) : List Placing → List PlacedSource → Type 0 where
  no_part : PartsPair all [] []
  one_part : {number here : ℕ} {p : Placing} {ps : List Placing} {qs rest : List PlacedSource} → PlacesPair p.first p.rename 0 p.laid.placed qs
      → OwnNamesGo p.first p.rename p.laid.names all → PartsPair all ps rest
      → PartsPair all (p ∷ ps) (origin_place number p.first here ∷ (qs ++ rest))

-- ---- one module

abbrev site_of : {names : List (List ℕ × ℤ)} {marks : List Bool} {p : Placing} → PlacingIs names marks p → Site
site_of {names} {marks} {p} is = record {
  first = p.first;
  rename = p.rename;
  before = names;
  marks = marks;
  total = p.laid.here;
  apart = is.apart;
  inside = is.inside;
  free = is.free;
  equ = is.equ;
}

found_in_front : {A : Type 0} (es fs : List (List ℕ × A)) (x : List ℕ) (v : A) → value_of es x ≡ Some v → value_of (es ++ fs) x ≡ Some v
found_in_front [] fs x v found = cc found
found_in_front {A} (e ∷ es) fs x v found = by (bytes_eq x e.0) (value_of es x) (value_of (es ++ fs) x) (λ h. found_in_front es fs x v h) found
  where
    by : (t : Bool) (o q : Option A) → (o ≡ Some v → q ≡ Some v) → (if t then Some e.1 else o) ≡ Some v → (if t then Some e.1 else q) ≡ Some v
    by true o q goes h = h
    by false o q goes h = goes h

-- the module's names among all, whatever stands behind
own_go : (rename : List ℕ → List ℕ) (first : ℕ) (before behind : List (List ℕ × ℤ)) (names : List (List ℕ × Named)) → KeepsApart rename
    → ((x : List ℕ) (v : Named) → value_of names x ≡ Some v → value_of before (rename x) ≡ None)
    → OwnNamesGo first rename names ((before ++ placed_names rename first names) ++ behind)
own_go rename first before behind names apart fresh = record {
  is = λ x v found.
      let ours = placed_names rename first names in
      let here : value_of (before ++ ours) (rename x) ≡ Some (named_value first v) =
      value_behind before ours (rename x) (fresh x v found) ∙ value_placed rename first names x apart
      ∙ ap (λ o. option_map (named_value first) o) found in
      found_in_front (before ++ ours) behind (rename x) (named_value first v) here;
}

-- ---- all modules

steps_joined : {S X E : Type 0} (step : S → X → Result S E) (s t : S) (xs ys : List X) → steps step s xs ≡ Ok t → steps step s (xs ++ ys) ≡ steps step t ys
unfolding steps
steps_joined step s t [] ys h = let same : s ≡ t = cc h in rw same refl
steps_joined {S} {X} {E} step s t (x ∷ xs) ys h = by (λ u h. steps_joined step u t xs ys h) (step s x) h
  where
    by : ((u : S) → steps step u xs ≡ Ok t → steps step u (xs ++ ys) ≡ steps step t ys) → (r : Result S E)
        → (r >>= λ u. steps step u xs) ≡ Ok t → (r >>= λ u. steps step u (xs ++ ys)) ≡ steps step t ys
    by goes (Ok u) h = goes u h
    by goes (Err e) h = cc h

-- what the one source's second pass makes of all modules
pub record PartsGo (number : ℕ) (ps : List Placing) (s : SourceLayout PlacedSource) : Type 0 where
  pub u : SourceLayout PlacedSource
  pub is : steps source_placed s (parts_lines number ps) ≡ Ok u
  pub names : u.names ≡ s.names ++ all_names ps
  pub filled : u.filled ≡ all_marks s.filled ps
  pub qs : List PlacedSource
  pub source_are : u.placed ≡ s.placed ++ qs
  pub pair : PartsPair u.names ps qs

pub parts_go : {names : List (List ℕ × ℤ)} {marks : List Bool} {ps : List Placing} → Placings names marks ps → (number : ℕ)
    (s : SourceLayout PlacedSource) → s.names ≡ names → s.filled ≡ marks → PartsGo number ps s
parts_go no_module number s names_are marks_are = record {
  u = s;
  is = steps_end source_placed s;
  names = sym (append-nil s.names);
  filled = refl;
  qs = [];
  source_are = sym (append-nil s.placed);
  pair = no_part;
}
parts_go (one_module {names} {marks} {p} {ps} is rest) number s names_are marks_are =
    let origin : SourceLine = origin_source number p.first in
    let place : PlacedSource = origin_place number p.first s.here in
    let at : SourceLayout PlacedSource = source_with place (moved_to p.first s) in
    let first = origin_placed number p.first s is.low in
    let own = module_goes (site_of is) p.imports p.lines p.tokens (number + 1) p.laid at is.pairs is.new is.fresh is.plain refl names_are marks_are
    is.laid_is (omega arith) in
    let others = parts_go rest (number + 1 + length p.tokens) own.u own.names own.filled in
    let ours : List SourceLine = lines_with p.rename (number + 1) p.tokens in
    let theirs : List SourceLine = parts_lines (number + 1 + length p.tokens) ps in
    let all : others.u.names ≡ (names ++ own_names p) ++ all_names ps = others.names ∙ ap (λ ns. ns ++ all_names ps) own.names in
    record {
      u = others.u;
      is = sym (steps_more source_placed s at origin (ours ++ theirs) first) ∙ steps_joined source_placed at own.u ours theirs own.is ∙ others.is;
      names = all ∙ append_assoc names (own_names p) (all_names ps) ∙ ap (λ ns. ns ++ (own_names p ++ all_names ps)) (sym names_are);
      filled = others.filled ∙ ap (λ m. all_marks m ps) own.filled ∙ ap (λ m. all_marks (own_marks m p) ps) (sym marks_are);
      qs = place ∷ (own.qs ++ others.qs);
      source_are =
          others.source_are ∙ ap (λ r. r ++ others.qs) own.source_are ∙ append_assoc (s.placed ++ place ∷ []) own.qs others.qs
          ∙ append_assoc s.placed (place ∷ []) (own.qs ++ others.qs);
      pair = one_part own.pair
          (subst (λ ns. OwnNamesGo p.first p.rename p.laid.names ns) (sym all)
          (own_go p.rename p.first names (all_names ps) p.laid.names is.apart own.own))
          others.pair;
    }

-- from the beginning
pub all_parts_go : {ps : List Placing} (size number : ℕ) → Placings [] (no_marks size) ps → PartsGo number ps (no_source size)
all_parts_go size number all = parts_go all number (no_source size) refl refl
