-- Runs that are judged one after another.
use Rattle.std.proofs.Common.{◌≡◌, ℕ, ◌+◌, ◌<◌, List, [], ◌∷◌, ◌++◌, length, take, drop, get_or, Result, Ok, Err, refl, sym, ap, ◌∙◌, arith}
use Rattle.std.proofs.lemmas.List.{at_drop_more, at_drop_all, take_more, take_all}
use Rattle.cartridge.specs.declared.page_run.PageRun.{PageRun}
use Rattle.cartridge.specs.declared.refusal.CartCause.{CartCause}
use Rattle.cartridge.specs.Faults.{◌>>=◌}
use Rattle.cartridge.specs.Pages.{run_apart}
use Rattle.cartridge.specs.PageTexts.{runs_apart}

-- what is said of the runs goes by those from the place i on
abbrev pub JudgedTo : List PageRun → ℕ → Type 0
JudgedTo runs i = runs_apart [] runs ≡ runs_apart (take i runs) (drop i runs)

pub judged_none : (runs : List PageRun) → JudgedTo runs 0
judged_none runs = refl

abbrev then_rest : List PageRun → PageRun → List PageRun → Result PageRun CartCause → Result (List PageRun) CartCause
then_rest earlier run rest placed = placed >>= λ _. runs_apart (earlier ++ run ∷ []) rest

next : (runs : List PageRun) (i : ℕ) (d : PageRun) → i < length runs
    → runs_apart (take i runs) (drop i runs) ≡ then_rest (take i runs) (get_or runs i d) (drop (i + 1) runs) (run_apart (take i runs) (get_or runs i d))
next runs i d within = at_drop_more (runs_apart (take i runs)) runs i d within

pub judged_more : (runs : List PageRun) (i : ℕ) (d placed : PageRun) → i < length runs → run_apart (take i runs) (get_or runs i d) ≡ Ok placed
    → JudgedTo runs i → JudgedTo runs (i + 1)
judged_more runs i d placed within is held =
    held ∙ next runs i d within ∙ ap (then_rest (take i runs) (get_or runs i d) (drop (i + 1) runs)) is
    ∙ ap (λ (earlier : List PageRun). runs_apart earlier (drop (i + 1) runs)) (sym (take_more runs i d within))

pub judged_bad : (runs : List PageRun) (i : ℕ) (d : PageRun) (cause : CartCause) → i < length runs
    → run_apart (take i runs) (get_or runs i d) ≡ Err cause → JudgedTo runs i → runs_apart [] runs ≡ Err cause
judged_bad runs i d cause within is held =
    held ∙ next runs i d within ∙ ap (then_rest (take i runs) (get_or runs i d) (drop (i + 1) runs)) is

pub judged_all : (runs : List PageRun) (i : ℕ) → i ≡ length runs → JudgedTo runs i → runs_apart [] runs ≡ Ok runs
judged_all runs i at held =
    held ∙ at_drop_all (runs_apart (take i runs)) runs i (omega arith) ∙ ap Ok (take_all i runs (omega arith))
