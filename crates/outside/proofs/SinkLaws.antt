-- What a sink gained piece by piece.
use Rattle.std.proofs.Common.{◌≡◌, ℕ, List, [], ◌++◌, refl, sym, ap, ◌∙◌, append_assoc, subst, ◌≤◌}
use Rattle.std.proofs.lemmas.List.{append-nil}
use Rattle.outside.specs.Counts.{Rose}
use Rattle.outside.specs.SinkRules.{Output, untold_output, Adds, AddsPart}

-- nothing was put
pub adds_none : (a : Output) → Adds a a []
adds_none a = record { told = λ now e. (now, e, sym (append-nil now)); count = refl }

-- a sink that tells nothing has failed, whose count stood before
pub untold_failed : (a b c : ℕ) (bytes : List ℕ) → b ≡ a → b ≤ c → Rose b c →
    AddsPart (untold_output a) (untold_output c) bytes
untold_failed a b c bytes same later rose = record {
  told = λ now e. cc;
  later = subst (λ (n : ℕ). n ≤ c) same later;
  rose = subst (λ (n : ℕ). Rose n c) same rose;
}

-- one piece after another
pub adds_then : (a b c : Output) (x y : List ℕ) → Adds a b x → Adds b c y → Adds a c (x ++ y)
adds_then a b c x y first second = record {
  told = λ now e.
      let s = second.told now e in
      let f = first.told s.0 s.1 in
      (f.0, f.1, s.2 ∙ ap (λ (bytes : List ℕ). bytes ++ y) f.2 ∙ append_assoc f.0 x y);
  count = second.count ∙ first.count;
}

-- a whole piece, and then a first part of another
pub adds_part_behind : (a b c : Output) (x y : List ℕ) → Adds a b x → AddsPart b c y → AddsPart a c (x ++ y)
adds_part_behind a b c x y first second = record {
  told = λ now e.
      let s = second.told now e in
      let f = first.told s.0 s.3 in (
        f.0,
        x ++ s.1,
        s.2,
        f.1,
        ap (λ (bytes : List ℕ). x ++ bytes) s.4 ∙ sym (append_assoc x s.1 s.2),
        s.5 ∙ ap (λ (bytes : List ℕ). bytes ++ s.1) f.2 ∙ append_assoc f.0 x s.1,
      );
  later = subst (λ (n : ℕ). n ≤ c.faults) first.count second.later;
  rose = subst (λ (n : ℕ). Rose n c.faults) first.count second.rose;
}

-- a first part of one piece, with nothing of another
pub adds_part_first : (a b : Output) (x y : List ℕ) → AddsPart a b x → AddsPart a b (x ++ y)
adds_part_first a b x y first = record {
  told = λ now e.
      let f = first.told now e in
      (f.0, f.1, f.2 ++ y, f.3, ap (λ (bytes : List ℕ). bytes ++ y) f.4 ∙ append_assoc f.1 f.2 y, f.5);
  later = first.later;
  rose = first.rose;
}

-- one piece, and then a first part of the next, with nothing of a third
pub adds_part_then : (a b c : Output) (x y z : List ℕ) → Adds a b x → AddsPart b c y → AddsPart a c (x ++ (y ++ z))
adds_part_then a b c x y z first second = adds_part_behind a b c x (y ++ z) first (adds_part_first b c y z second)

-- What was put so far is a first part of all, and the rest is left.
pub record PutSoFar (old new : Output) (all rest : List ℕ) : Type 0 where
  pub first : List ℕ
  pub whole : all ≡ first ++ rest
  pub adds : Adds old new first

pub put_so_far_none : (a : Output) (all : List ℕ) → PutSoFar a a all all
put_so_far_none a all = record { first = []; whole = refl; adds = adds_none a }

pub put_so_far_more : (a b c : Output) (all piece rest : List ℕ) → PutSoFar a b all (piece ++ rest) → Adds b c piece →
    PutSoFar a c all rest
put_so_far_more a b c all piece rest so_far adds = record {
  first = so_far.first ++ piece;
  whole = so_far.whole ∙ sym (append_assoc so_far.first piece rest);
  adds = adds_then a b c so_far.first piece so_far.adds adds;
}

pub put_so_far_all : (a b : Output) (all : List ℕ) → PutSoFar a b all [] → Adds a b all
put_so_far_all a b all so_far =
    subst (λ (bytes : List ℕ). Adds a b bytes) (sym (so_far.whole ∙ append-nil so_far.first)) so_far.adds

pub put_so_far_part : (a b c : Output) (all piece rest : List ℕ) → PutSoFar a b all (piece ++ rest) →
    AddsPart b c piece →
    AddsPart a c all
put_so_far_part a b c all piece rest so_far part =
    rw so_far.whole (adds_part_then a b c so_far.first piece rest so_far.adds part)
