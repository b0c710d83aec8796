-- A text of which some lines are read.
use Rattle.std.proofs.Common.{◌≡◌, ℕ, ◌+◌, List, [], ◌∷◌, ◌++◌, length, length-append, append_assoc, Option, Some, None}
use Rattle.std.proofs.Common.{Ok, Err, Result, refl, sym, ap, subst, ◌∙◌, arith}
use Rattle.std.specs.List.{All}
use Rattle.std.proofs.lemmas.List.{append-nil}
use Rattle.std.proofs.lemmas.List.Elements.{All-nil, All-cons, All-append}
use Rattle.text_lines.specs.Lines.{lines}
use Rattle.text_lines.specs.Steps.{◌>>=◌}
use Rattle.text_lines.specs.declared.read_error.ReadError.{ReadError}
use Rattle.text_lines.specs.declared.read_error.ReadError.TheVariants as answer
use Rattle.text_lines.specs.ReadErrors.{OnMemory, Says, StepsTo}
use Rattle.line_words.proofs.FirstFault.{same_value, same_cause}
use Rattle.bus_audit.specs.declared.read.TraceFault.{TraceFault}
use Rattle.bus_audit.specs.declared.step.TraceStep.{TraceStep}
use Rattle.bus_audit.specs.declared.trace.ToldLine.{ToldLine}
use Rattle.bus_audit.specs.Answers.{Trace}
use Rattle.bus_audit.specs.TraceText.{no_line, read_in, told_by, told_from, trace_of, with_none, with_read, with_step}
use Rattle.bus_audit.specs.TraceFaults.{IsFaultless, IsFirstFault, TakesMemory, TellsFault, TellsStep}

-- the lines that tell of steps behind those of a trace
abbrev behind_told : Trace → Result (List ToldLine) TraceFault → Result (List ToldLine) TraceFault
behind_told trace later = later >>= (λ told. Ok (trace.told ++ told))

-- the lines of a text but for the rest are in a trace
pub record Reads (text rest : List ℕ) (trace : Trace) : Type 0 where
  pub before : List (List ℕ)
  pub parts : lines text ≡ before ++ lines rest
  pub clean : All IsFaultless before
  pub counted : trace.after ≡ length before + 1
  pub told : (ls : List (List ℕ)) → told_from 1 (before ++ ls) ≡ behind_told trace (told_from trace.after ls)

behind_none : (later : Result (List ToldLine) TraceFault) → later ≡ behind_told no_line later
behind_none (Ok told) = refl
behind_none (Err fault) = refl

pub reads_none : (text : List ℕ) → Reads text text no_line
reads_none text = record {
  before = [];
  parts = refl;
  clean = All-nil IsFaultless;
  counted = refl;
  told = λ ls. behind_none (told_from 1 ls);
}

behind_step : (trace : Trace) (step : TraceStep) (later : Result (List ToldLine) TraceFault) →
    behind_told trace (later >>= (λ told. Ok (record { line = trace.after; step = step } ∷ told)))
    ≡ behind_told (with_step trace step) later
behind_step trace step (Ok told) =
    ap Ok (sym (append_assoc trace.told (record { line = trace.after; step = step } ∷ []) told))
behind_step trace step (Err fault) = refl

step_by : (trace next : Trace) (said : Option (Option TraceStep)) (later : ℕ → Result (List ToldLine) TraceFault) →
    with_read trace said ≡ Ok next →
    behind_told trace (told_by trace.after said (later (trace.after + 1))) ≡ behind_told next (later next.after)
step_by trace next None later is =
    subst (λ (t : Trace). behind_told trace (later (trace.after + 1)) ≡ behind_told t (later t.after))
    (same_value (with_none trace) next is) refl
step_by trace next (Some None) later is = absurd cc
step_by trace next (Some (Some step)) later is =
    subst
    (λ (t : Trace). behind_told trace (told_by trace.after (Some (Some step)) (later (trace.after + 1)))
    ≡ behind_told t (later t.after))
    (same_value (with_step trace step) next is) (behind_step trace step (later (trace.after + 1)))

pub counts_on : (trace next : Trace) (said : Option (Option TraceStep)) → with_read trace said ≡ Ok next →
    next.after ≡ trace.after + 1
counts_on trace next None is = ap (λ (t : Trace). t.after) (sym (same_value (with_none trace) next is))
counts_on trace next (Some None) is = absurd cc
counts_on trace next (Some (Some step)) is = ap (λ (t : Trace). t.after) (sym (same_value (with_step trace step) next is))

faultless_by : (trace next : Trace) (said : Option (Option TraceStep)) → with_read trace said ≡ Ok next → said ≡ Some None → ⊥
faultless_by trace next None is fault = absurd cc
faultless_by trace next (Some None) is fault = absurd cc
faultless_by trace next (Some (Some step)) is fault = absurd cc

fault_by : (trace : Trace) (fault : TraceFault) (said : Option (Option TraceStep))
    (later : Result (List ToldLine) TraceFault) → with_read trace said ≡ Err fault →
    (said ≡ Some None) × (fault.line ≡ trace.after) × (behind_told trace (told_by trace.after said later) ≡ Err fault)
fault_by trace fault None later is = absurd cc
fault_by trace fault (Some None) later is =
    let same = same_cause (record { line = trace.after }) fault is in
    (refl, ap (λ (f : TraceFault). f.line) (sym same), ap Err same)
fault_by trace fault (Some (Some step)) later is = absurd cc

module _ (text rest : List ℕ) (trace : Trace) (reads : Reads text rest trace) where
  -- one line more is read
  pub reads_more : (behind l : List ℕ) (next : Trace) → lines rest ≡ l ∷ lines behind →
      with_read trace (read_in l) ≡ Ok next → Reads text behind next
  reads_more behind l next split step =
      let counted = reads.counted in
      let more = counts_on trace next (read_in l) step in
      let size = length-append reads.before (l ∷ []) in
      record {
        before = reads.before ++ l ∷ [];
        parts =
            reads.parts
            ∙ ap (λ (ls : List (List ℕ)). reads.before ++ ls) split
            ∙ sym (append_assoc reads.before (l ∷ []) (lines behind));
        clean = All-append IsFaultless reads.before (l ∷ []) reads.clean
            (All-cons IsFaultless l [] (faultless_by trace next (read_in l) step) (All-nil IsFaultless));
        counted = omega (arith, counted, more, size);
        told = λ ls.
            ap (told_from 1) (append_assoc reads.before (l ∷ []) ls)
            ∙ reads.told (l ∷ ls)
            ∙ step_by trace next (read_in l) (λ number. told_from number ls) step;
      }

  here : (behind l : List ℕ) → lines rest ≡ l ∷ lines behind → lines text ≡ reads.before ++ l ∷ lines behind
  here behind l split = reads.parts ∙ ap (λ (ls : List (List ℕ)). reads.before ++ ls) split

  -- a line is at fault
  reads_fault : (behind l : List ℕ) (fault : TraceFault) → lines rest ≡ l ∷ lines behind →
      with_read trace (read_in l) ≡ Err fault → trace_of text ≡ Err fault
  unfolding trace_of
  reads_fault behind l fault split step =
      let by = fault_by trace fault (read_in l) (told_from (trace.after + 1) (lines behind)) step in
      let told : told_from 1 (lines text) ≡ Err fault =
      ap (told_from 1) (here behind l split) ∙ reads.told (l ∷ lines behind) ∙ by.2 in
      ap (λ (said : Result (List ToldLine) TraceFault).
      said >>= (λ told. Ok (record { told = told; after = length (lines text) + 1 }))) told

  first_fault : (behind l : List ℕ) (fault : TraceFault) → lines rest ≡ l ∷ lines behind →
      with_read trace (read_in l) ≡ Err fault → IsFirstFault (lines text) fault
  first_fault behind l fault split step =
      let by = fault_by trace fault (read_in l) (told_from (trace.after + 1) (lines behind)) step in
      record {
        before = reads.before;
        line = l;
        behind = lines behind;
        parts = here behind l split;
        clean = reads.clean;
        counted = by.1 ∙ reads.counted;
        own = by.0;
      }

  -- memory is wanting at a line
  takes_memory : (behind l : List ℕ) → lines rest ≡ l ∷ lines behind → TellsStep l → TakesMemory (lines text)
  takes_memory behind l split tells = record {
    before = reads.before;
    line = l;
    behind = lines behind;
    parts = here behind l split;
    clean = reads.clean;
    tells = tells;
  }

  -- a line stops the call
  pub stop_says : (behind l : List ℕ) (next : Trace) (e : ReadError TraceFault) → lines rest ≡ l ∷ lines behind →
      StepsTo (Err e) next (with_read trace (read_in l)) → Says {A = Trace} (Err e) (trace_of text)
  stop_says behind l next (answer.Fault fault) split step = reads_fault behind l fault split step
  stop_says behind l next answer.Memory split step = tt

  pub stop_tells : (behind l : List ℕ) (next : Trace) (e : ReadError TraceFault) → lines rest ≡ l ∷ lines behind →
      StepsTo (Err e) next (with_read trace (read_in l)) → TellsFault {A = Trace} (Err e) (lines text)
  stop_tells behind l next (answer.Fault fault) split step = first_fault behind l fault split step
  stop_tells behind l next answer.Memory split step = tt

  pub stop_takes : (behind l : List ℕ) (e : ReadError TraceFault) → lines rest ≡ l ∷ lines behind →
      OnMemory {A = Unit {0}} (Err e) (TellsStep l) → OnMemory {A = Trace} (Err e) (TakesMemory (lines text))
  stop_takes behind l (answer.Fault fault) split tells = tt
  stop_takes behind l answer.Memory split tells = takes_memory behind l split tells

  -- the text ends
  whole : rest ≡ [] → lines text ≡ reads.before
  whole none = reads.parts ∙ ap (λ (r : List ℕ). reads.before ++ lines r) none ∙ append-nil reads.before

  pub reads_all : rest ≡ [] → trace_of text ≡ Ok trace
  unfolding trace_of
  reads_all none =
      let told : told_from 1 (lines text) ≡ Ok trace.told =
      ap (told_from 1) (whole none ∙ sym (append-nil reads.before))
      ∙ reads.told []
      ∙ ap Ok (append-nil trace.told) in
      let after : length (lines text) + 1 ≡ trace.after = ap (λ (ls : List (List ℕ)). length ls + 1) (whole none) ∙ sym reads.counted in
      rw (told, after) refl

  pub all_faultless : rest ≡ [] → All IsFaultless (lines text)
  all_faultless none = subst (λ (ls : List (List ℕ)). All IsFaultless ls) (sym (whole none)) reads.clean
