-- A text of which some lines are read.
use Rattle.std.proofs.Common.{◌≡◌, ℕ, ◌+◌, List, [], ◌∷◌, ◌++◌, length, length-append, append_assoc, Ok, Err, Result}
use Rattle.std.proofs.Common.{refl, sym, ap, ◌∙◌, arith}
use Rattle.std.proofs.lemmas.List.{append-nil}
use Rattle.text_lines.specs.Lines.{lines}
use Rattle.line_words.specs.Drafts.{after_lines, IsShortAt}

module _ {D C : Type 0} (after_line : D → List ℕ → Result D C) where
  -- the lines of a text but for the rest are so many, and lead to a draft
  pub record Reads (text rest : List ℕ) (count : ℕ) (first draft : D) : Type 0 where
    pub before : List (List ℕ)
    pub parts : lines text ≡ before ++ lines rest
    pub counted : count ≡ length before
    pub reaches : (ls : List (List ℕ)) →
        after_lines after_line 1 first (before ++ ls) ≡ after_lines after_line (count + 1) draft ls

  pub reads_none : (text : List ℕ) (first : D) → Reads text text 0 first first
  reads_none text first = record { before = []; parts = refl; counted = refl; reaches = λ ls. refl }

  step_ok : (count : ℕ) (draft next : D) (l : List ℕ) (ls : List (List ℕ)) → after_line draft l ≡ Ok next →
      after_lines after_line (count + 1) draft (l ∷ ls) ≡ after_lines after_line (count + 1 + 1) next ls
  unfolding after_lines
  step_ok count draft next l ls step = rw step refl

  step_fault : (count : ℕ) (draft : D) (l : List ℕ) (ls : List (List ℕ)) (cause : C) → after_line draft l ≡ Err cause →
      after_lines after_line (count + 1) draft (l ∷ ls) ≡ Err (record { line = count + 1; cause = cause })
  unfolding after_lines
  step_fault count draft l ls cause step = rw step refl

  at_end : (count : ℕ) (draft : D) → after_lines after_line count draft [] ≡ Ok draft
  unfolding after_lines
  at_end count draft = refl

  module _ (text rest : List ℕ) (count : ℕ) (first draft : D) (reads : Reads text rest count first draft) where
    -- what is left says what the text says
    whole : after_lines after_line 1 first (lines text) ≡ after_lines after_line (count + 1) draft (lines rest)
    whole = ap (after_lines after_line 1 first) reads.parts ∙ reads.reaches (lines rest)

    -- one line more is read
    pub reads_more : (behind l : List ℕ) (next : D) → lines rest ≡ l ∷ lines behind → after_line draft l ≡ Ok next →
        Reads text behind (count + 1) first next
    reads_more behind l next split step =
        let counted = reads.counted in
        let size = length-append reads.before (l ∷ []) in
        record {
          before = reads.before ++ l ∷ [];
          parts =
              reads.parts
              ∙ ap (λ (ls : List (List ℕ)). reads.before ++ ls) split
              ∙ sym (append_assoc reads.before (l ∷ []) (lines behind));
          counted = omega (arith, counted, size);
          reaches = λ ls.
              ap (after_lines after_line 1 first) (append_assoc reads.before (l ∷ []) ls)
              ∙ reads.reaches (l ∷ ls)
              ∙ step_ok count draft next l ls step;
        }

    -- a line is at fault
    pub reads_fault : (behind l : List ℕ) (cause : C) → lines rest ≡ l ∷ lines behind → after_line draft l ≡ Err cause →
        after_lines after_line 1 first (lines text) ≡ Err (record { line = count + 1; cause = cause })
    reads_fault behind l cause split step =
        whole ∙ ap (after_lines after_line (count + 1) draft) split ∙ step_fault count draft l (lines behind) cause step

    -- memory is wanting at a line
    pub reads_short : (Takes : List ℕ → Type 0) (behind l : List ℕ) → lines rest ≡ l ∷ lines behind → Takes l →
        IsShortAt after_line Takes first (lines text)
    reads_short Takes behind l split takes = record {
      before = reads.before;
      line = l;
      behind = lines behind;
      reached = draft;
      parts = reads.parts ∙ ap (λ (ls : List (List ℕ)). reads.before ++ ls) split;
      reaches =
          ap (after_lines after_line 1 first) (sym (append-nil reads.before))
          ∙ reads.reaches []
          ∙ at_end (count + 1) draft;
      takes = takes;
    }

    -- the text ends
    pub reads_all : rest ≡ [] → after_lines after_line 1 first (lines text) ≡ Ok draft
    reads_all none =
        whole ∙ ap (λ (r : List ℕ). after_lines after_line (count + 1) draft (lines r)) none ∙ at_end (count + 1) draft

    pub reads_count : rest ≡ [] → count ≡ length (lines text)
    reads_count none =
        reads.counted
        ∙ ap length
        (sym (reads.parts ∙ ap (λ (r : List ℕ). reads.before ++ lines r) none ∙ append-nil reads.before))
