-- The fault that is read is the first one of the lines.
use Rattle.std.proofs.Common.{◌≡◌, ℕ, ◌+◌, List, [], ◌∷◌, ◌++◌, length, length-append, append_assoc, Option, Some, None}
use Rattle.std.proofs.Common.{Result, Ok, Err, refl, sym, ap, subst, ◌∙◌, arith}
use Rattle.std.specs.Prelude.{IsOk}
use Rattle.std.specs.List.{All}
use Rattle.std.proofs.lemmas.List.{append-nil}
use Rattle.std.proofs.lemmas.List.Elements.{All-nil, All-cons, All-append}
use Rattle.text_lines.specs.Steps.{◌>>=◌}
use Rattle.line_words.specs.declared.text_fault.TextFault.{TextFault}
use Rattle.line_words.specs.Drafts.{after_lines, at_line, draft_by, said_in, statements_by, IsShortAt}
use Rattle.line_words.specs.FirstFault.{HasNoFault, IsFirstFault, IsLineFault, TakesMemory}

pub same_value : {A E : Type 0} (x y : A) → ◌≡◌ {A = Result A E} (Ok x) (Ok y) → x ≡ y
same_value x y is = cc

pub same_cause : {A E : Type 0} (x y : E) → ◌≡◌ {A = Result A E} (Err x) (Err y) → x ≡ y
same_cause x y is = cc

-- what one line more says comes behind what was said
statements-more : {S C : Type 0} (line_of : List ℕ → Result (Option S) C) (ls : List (List ℕ)) (l : List ℕ) →
    statements_by line_of (ls ++ l ∷ []) ≡ statements_by line_of ls ++ said_in (line_of l)
statements-more line_of [] l = append-nil (said_in (line_of l))
statements-more line_of (first ∷ ls) l =
    ap (λ ss. said_in (line_of first) ++ ss) (statements-more line_of ls l)
    ∙ sym (append_assoc (said_in (line_of first)) (statements_by line_of ls) (said_in (line_of l)))

module _ {D S C : Type 0} (line_of : List ℕ → Result (Option S) C) (Together : List S → Type 0)
    (CantStand : List S → S → C → Type 0) (Stands : List S → D → Type 0) where
  -- lines without a fault lead to a draft that has what they say
  pub record Stood (ls : List (List ℕ)) (draft : D) : Type 0 where
    pub each : All (λ l. IsOk (line_of l)) ls
    pub stands : Stands (statements_by line_of ls) draft

  abbrev pub Found : List (List ℕ) → Result D (TextFault C) → Type 0
  Found ls (Ok draft) = Stood ls draft
  Found ls (Err fault) = IsFirstFault line_of Together CantStand ls fault

  module _ (said_with : D → S → Result D C) (after_line : D → List ℕ → Result D C)
      (by : (draft : D) (l : List ℕ) → after_line draft l ≡ draft_by said_with draft (line_of l))
      (together : (ss : List S) (draft : D) → Stands ss draft → Together ss)
      (goes_on : (ss : List S) (draft next : D) (s : S) → Stands ss draft → said_with draft s ≡ Ok next →
      Stands (ss ++ s ∷ []) next)
      (cant_stand : (ss : List S) (draft : D) (s : S) (cause : C) → Stands ss draft → said_with draft s ≡ Err cause →
      CantStand ss s cause) where
    clean : (ls : List (List ℕ)) (draft : D) → Stood ls draft → HasNoFault line_of Together ls
    clean ls draft stood = record { each = stood.each; together = together _ draft stood.stands }

    module _ (ls : List (List ℕ)) (draft : D) (l : List ℕ) (stood : Stood ls draft) where
      stands_more : (next : D) (line : Result (Option S) C) → draft_by said_with draft line ≡ Ok next →
          Stands (statements_by line_of ls ++ said_in line) next
      stands_more next (Err cause) step = absurd cc
      stands_more next (Ok None) step =
          subst (λ (ss : List S). Stands ss next) (sym (append-nil (statements_by line_of ls)))
          (subst (λ (d : D). Stands (statements_by line_of ls) d) (same_value draft next step) stood.stands)
      stands_more next (Ok (Some s)) step = goes_on _ draft next s stood.stands step

      is_ok : (next : D) (line : Result (Option S) C) → draft_by said_with draft line ≡ Ok next → IsOk line
      is_ok next (Err cause) step = absurd cc
      is_ok next (Ok said) step = refl

      stood_more : (next : D) → after_line draft l ≡ Ok next → Stood (ls ++ l ∷ []) next
      stood_more next step =
          let said : draft_by said_with draft (line_of l) ≡ Ok next = sym (by draft l) ∙ step in
          record {
            each = All-append (λ l. IsOk (line_of l)) ls (l ∷ []) stood.each
                (All-cons (λ l. IsOk (line_of l)) l [] (is_ok next (line_of l) said) (All-nil (λ l. IsOk (line_of l))));
            stands = subst (λ (ss : List S). Stands ss next) (sym (statements-more line_of ls l))
                (stands_more next (line_of l) said);
          }

      fault_said : (cause : C) (line : Result (Option S) C) → draft_by said_with draft line ≡ Err cause →
          IsLineFault CantStand (statements_by line_of ls) line cause
      fault_said cause (Err own) step = sym (same_cause own cause step)
      fault_said cause (Ok None) step = absurd cc
      fault_said cause (Ok (Some s)) step = cant_stand _ draft s cause stood.stands step

      found_line : (number : ℕ) (behind : List (List ℕ)) → number ≡ length ls + 1 → (step : Result D C) →
          after_line draft l ≡ step →
          ((next : D) → Stood (ls ++ l ∷ []) next →
          Found (ls ++ l ∷ behind) (after_lines after_line (number + 1) next behind)) →
          Found (ls ++ l ∷ behind) (at_line number step >>= (λ next. after_lines after_line (number + 1) next behind))
      found_line number behind counted (Ok next) is rest = rest next (stood_more next is)
      found_line number behind counted (Err cause) is rest = record {
        before = ls;
        line = l;
        behind = behind;
        parts = refl;
        clean = clean ls draft stood;
        counted = counted;
        own = fault_said cause (line_of l) (sym (by draft l) ∙ is);
      }

    found_from : (behind ls : List (List ℕ)) (draft : D) (number : ℕ) → Stood ls draft → number ≡ length ls + 1 →
        Found (ls ++ behind) (after_lines after_line number draft behind)
    unfolding after_lines
    found_from [] ls draft number stood counted =
        subst (λ (all : List (List ℕ)). Stood all draft) (sym (append-nil ls)) stood
    found_from (l ∷ behind) ls draft number stood counted =
        let size = length-append ls (l ∷ []) in
        found_line ls draft l stood number behind counted (after_line draft l) refl
        (λ next more.
        subst (λ (all : List (List ℕ)). Found all (after_lines after_line (number + 1) next behind))
        (append_assoc ls (l ∷ []) behind)
        (found_from behind (ls ++ l ∷ []) next (number + 1) more (omega (arith, counted, size))))

    -- lines that are read
    pub found_lines : (ls : List (List ℕ)) (first : D) → Stands [] first →
        Found ls (after_lines after_line 1 first ls)
    found_lines ls first stands =
        found_from ls [] first 1 (record { each = All-nil (λ l. IsOk (line_of l)); stands = stands }) refl

    -- lines up to one at which memory is missing
    pub short_lines : (Takes : List ℕ → Type 0) (ls : List (List ℕ)) (first : D) → Stands [] first →
        IsShortAt after_line Takes first ls → TakesMemory line_of Together Takes ls
    short_lines Takes ls first stands short = record {
      before = short.before;
      line = short.line;
      behind = short.behind;
      parts = short.parts;
      clean = clean short.before short.reached
          (subst (λ (said : Result D (TextFault C)). Found short.before said) short.reaches
          (found_lines short.before first stands));
      takes = short.takes;
    }
