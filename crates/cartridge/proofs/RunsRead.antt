-- The runs of texts, one text after another.
use Rattle.std.proofs.Common.{◌≡◌, ℕ, ◌+◌, ◌<◌, List, [], ◌∷◌, ◌++◌, length, drop, get_or, map, Option, Some, None, sym, ap, ◌∙◌}
use Rattle.std.proofs.Common.{append-nil, arith}
use Rattle.std.specs.Prelude.{option_and_then, option_map}
use Rattle.std.proofs.lemmas.List.{at_drop_more, at_drop_all}
use Rattle.cartridge.specs.declared.page_run.PageRun.{PageRun}
use Rattle.cartridge.specs.PageTexts.{run_of_text, each_run}
use Rattle.cartridge.specs.Plans.{str_seen}
use Rattle.cartridge.proofs.ListsRead.{behind, behind_none, behind_nested}
use Rattle.cartridge.proofs.TextsRead.{TextRef}

abbrev runs_in_all : List TextRef → Option (List PageRun)
runs_in_all ts = each_run (map str_seen ts)

-- the runs of the first i texts, and behind them those of the others
abbrev pub HasRuns : List TextRef → ℕ → List PageRun → Type 0
HasRuns ts i rs = runs_in_all ts ≡ behind rs (runs_in_all (drop i ts))

pub runs_none : (ts : List TextRef) → HasRuns ts 0 []
runs_none ts = behind_none (runs_in_all ts)

abbrev first_then : Option PageRun → Option (List PageRun) → Option (List PageRun)
first_then run rest = option_and_then (λ r. option_map (λ rs. r ∷ rs) rest) run

next : (ts : List TextRef) (i : ℕ) (t : TextRef) → i < length ts → get_or ts i t ≡ t
    → runs_in_all (drop i ts) ≡ first_then (run_of_text t.now) (runs_in_all (drop (i + 1) ts))
next ts i t within at =
    at_drop_more runs_in_all ts i t within ∙ ap (λ (u : TextRef). runs_in_all (u ∷ drop (i + 1) ts)) at

pub runs_more : (ts : List TextRef) (i : ℕ) (t : TextRef) (r : PageRun) (rs : List PageRun) → i < length ts → get_or ts i t ≡ t
    → run_of_text t.now ≡ Some r → HasRuns ts i rs → HasRuns ts (i + 1) (rs ++ r ∷ [])
runs_more ts i t r rs within at is held =
    held
    ∙ ap (behind rs) (next ts i t within at ∙ ap (λ (run : Option PageRun). first_then run (runs_in_all (drop (i + 1) ts))) is)
    ∙ behind_nested rs r (runs_in_all (drop (i + 1) ts))

pub runs_bad : (ts : List TextRef) (i : ℕ) (t : TextRef) (rs : List PageRun) → i < length ts → get_or ts i t ≡ t
    → run_of_text t.now ≡ None → HasRuns ts i rs → None ≡ each_run (map str_seen ts)
runs_bad ts i t rs within at is held =
    sym (held
    ∙ ap (behind rs) (next ts i t within at ∙ ap (λ (run : Option PageRun). first_then run (runs_in_all (drop (i + 1) ts))) is))

pub runs_all : (ts : List TextRef) (i : ℕ) (rs : List PageRun) → i ≡ length ts → HasRuns ts i rs → Some rs ≡ each_run (map str_seen ts)
runs_all ts i rs at held =
    sym (held ∙ at_drop_all (λ (us : List TextRef). behind rs (runs_in_all us)) ts i (omega arith) ∙ ap Some (append-nil rs))
