-- What a writer took, one write after another.
use Rattle.std.proofs.Common.{◌≡◌, ℕ, List, [], ◌++◌, Option, take, drop, refl, sym, ap, ◌∙◌, append_assoc}
use Rattle.std.proofs.Common.{take-append-drop, subst}
use Rattle.std.proofs.lemmas.List.{append-nil}
use Rattle.std.specs.Io.KnownBytes.{Appends, Keeps}
use Rattle.std.proofs.KnownBytes.{Appends-nil, Appends-trans, Appends-kept}
use Rattle.outside.specs.Writing.{AppendsPart}

-- What was taken so far is a first part of all, and the rest is left.
pub record WrittenSoFar (old new : Option (List ℕ)) (all rest : List ℕ) : Type 0 where
  pub first : List ℕ
  pub whole : all ≡ first ++ rest
  pub appended : Appends old new first

pub written_none : (told : Option (List ℕ)) (all : List ℕ) → WrittenSoFar told told all all
written_none told all = record { first = []; whole = refl; appended = Appends-nil told }

-- a write took the first n bytes of what was left
pub written_more : (a b c : Option (List ℕ)) (all rest : List ℕ) (n : ℕ) → WrittenSoFar a b all rest →
    Appends b c (take n rest) → WrittenSoFar a c all (drop n rest)
written_more a b c all rest n written appended = record {
  first = written.first ++ take n rest;
  whole =
      written.whole
      ∙ ap (λ (bytes : List ℕ). written.first ++ bytes) (sym (take-append-drop n rest))
      ∙ sym (append_assoc written.first (take n rest) (drop n rest));
  appended = Appends-trans a b c written.first (take n rest) written.appended appended;
}

pub written_all : (a b : Option (List ℕ)) (all : List ℕ) → WrittenSoFar a b all [] → Appends a b all
written_all a b all written =
    subst (Appends a b) (sym (written.whole ∙ append-nil written.first)) written.appended

pub written_part : (a b c : Option (List ℕ)) (all rest : List ℕ) → WrittenSoFar a b all rest → Keeps b c →
    AppendsPart a c all
written_part a b c all rest written kept = record {
  part = written.first;
  rest = rest;
  whole = written.whole;
  appended = Appends-kept a b c written.first written.appended kept;
}
