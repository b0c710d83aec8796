-- The texts of runs of pages, one after another.
use Rattle.std.proofs.Common.{◌≡◌, ℕ, ◌+◌, ◌<◌, ◌≤◌, ◌==◌, Bool, true, false, List, [], ◌∷◌, ◌++◌, length, take, get_or, String, Global}
use Rattle.std.proofs.Common.{string_bytes, refl, ap, ◌∙◌, arith}
use Rattle.std.specs.Prelude.{if◌then◌else◌}
use Rattle.std.proofs.lemmas.Bool.Decides.{nat_tests}
use Rattle.std.proofs.lemmas.List.{take_more}
use Rattle.toml.specs.Data.{Items, item, string, push_item}
use Rattle.toml.specs.View.{view, items_view}
use Rattle.toml.proofs.Views.{items_view-push, view-String}
use Rattle.toml.specs.declared.value.Value.{Value, String as StringValue}
use Rattle.cartridge.specs.declared.page_run.PageRun.{PageRun}
use Rattle.cartridge.specs.Migrated.{run_text, run_texts}

-- the texts so far, and that of one run more
abbrev pub texts_then : Items → PageRun → Items
texts_then texts run = if run.count == 0 then texts else push_item texts (string (run_text run))

pushed : (t u : Bool) (text last : List ℕ) (texts : Items)
    → (if t then (if u then texts else push_item texts (string last)) else item (string text) (if u then texts else push_item texts (string last)))
    ≡ (if u then (if t then texts else item (string text) texts) else push_item (if t then texts else item (string text) texts) (string last))
pushed true true text last texts = refl
pushed true false text last texts = refl
pushed false true text last texts = refl
pushed false false text last texts = refl

run_texts-last : (runs : List PageRun) (run : PageRun) → run_texts (runs ++ run ∷ []) ≡ texts_then (run_texts runs) run
run_texts-last [] run = refl
run_texts-last (x ∷ runs) run = rw (run_texts-last runs run) (pushed (x.count == 0) (run.count == 0) (run_text x) (run_text run) (run_texts runs))

run_texts-more : (runs : List PageRun) (i : ℕ) (d : PageRun) → i < length runs
    → run_texts (take (i + 1) runs) ≡ texts_then (run_texts (take i runs)) (get_or runs i d)
run_texts-more runs i d within = rw (take_more runs i d within) (run_texts-last (take i runs) (get_or runs i d))

pub no_count : (n : ℕ) → n ≤ 0 → (n == 0) ≡ true
no_count n none = grind (arith, nat_tests)

pub some_count : (n : ℕ) → 0 < n → (n == 0) ≡ false
some_count n some = grind (arith, nat_tests)

-- a run without pages adds none
pub text_left_out : (runs : List PageRun) (i : ℕ) (d : PageRun) (vs ws : List Value) → i < length runs → items_view vs ≡ run_texts (take i runs)
    → (get_or runs i d).count ≤ 0 → ws ≡ vs → items_view ws ≡ run_texts (take (i + 1) runs)
text_left_out runs i d vs ws within held none same =
    rw (same, held, run_texts-more runs i d within) (rw (no_count (get_or runs i d).count none))

-- a run with a page adds its text
pub text_added : (runs : List PageRun) (i : ℕ) (d : PageRun) (vs ws : List Value) (v : Value) → i < length runs → items_view vs ≡ run_texts (take i runs)
    → 0 < (get_or runs i d).count → view v ≡ string (run_text (get_or runs i d)) → ws ≡ vs ++ v ∷ [] → items_view ws ≡ run_texts (take (i + 1) runs)
text_added runs i d vs ws v within held some seen same =
    rw (same, items_view-push vs v, held, seen, run_texts-more runs i d within)
    (rw (some_count (get_or runs i d).count some))

-- the text of a string
pub text_seen : (s : String Global) (text : List ℕ) → string_bytes s ≡ text → view (StringValue s) ≡ string text
text_seen s text e = view-String s ∙ ap string e
