-- The words of a printable line are printable, and what is printable is UTF-8.
use Rattle.std.proofs.Common.{◌≡◌, ℕ, ◌+◌, ◌<◌, lit<, Bool, true, false, cond, List, [], ◌∷◌, ◌++◌, length, map, suc, zero, Ok, Err, refl}
use Rattle.std.proofs.Common.{sym, ap, ◌∙◌, arith, IsUtf8}
use Rattle.std.specs.Prelude.{◌==◌, IsTrue}
use Rattle.std.specs.List.{list_all}
use Rattle.std.specs.Str.{IsAscii}
use Rattle.std.proofs.lemmas.Bool.Decides.{nat_tests}
use Rattle.std.proofs.lemmas.Grind.{common_steps}
use Rattle.std.proofs.lemmas.List.{map-append}
use Rattle.std.proofs.lemmas.Str.{IsUtf8-from_ascii, IsUtf8-nil}
use Rattle.line_words.specs.Drafts.{after_lines}
use Rattle.line_words.specs.Words.{words}
use Rattle.line_words.specs.declared.text_fault.TextFault.{TextFault}
use Rattle.f8_link.specs.Plans.{PlannedModule, no_lines, module_seen, plan_at, plan_of, read_line, said_with}
use Rattle.f8_link.specs.declared.plan.PlanCause.{PlanCause}
use Rattle.f8_link.specs.declared.plan.PlanCause.TheVariants.{NoModule, TooMany}
use Rattle.f8_link.specs.declared.plan.ModuleLine.{ModuleLine}
use Rattle.f8_asm.specs.declared.answers.Room.{Room}
use Rattle.text_lines.specs.declared.read_error.ReadError.{ReadError}
use Rattle.text_lines.specs.declared.read_error.ReadError.TheVariants as answer
use Rattle.text_lines.specs.ReadErrors.{SaysSeen}
use Rattle.text_lines.specs.Lines.{lines, with_first}
use Rattle.text_lines.specs.Printable.{is_printable}

abbrev pub printable : List ℕ → Bool
printable w = list_all is_printable w

abbrev all_printable : List (List ℕ) → Bool
all_printable ws = list_all printable ws

with_printable : (b : ℕ) (ws : List (List ℕ)) → is_printable b ≡ true → all_printable ws ≡ true → all_printable (with_first b ws) ≡ true
with_printable b [] one all = grind (arith, common_steps)
with_printable b (w ∷ ws) one all = grind (arith, common_steps)

more : (test : Bool) (b : ℕ) (ws : List (List ℕ)) → is_printable b ≡ true → all_printable ws ≡ true
    → all_printable (cond test ([] ∷ ws) (with_first b ws)) ≡ true
more true b ws one all = all
more false b ws one all = with_printable b ws one all

first_of : (b : ℕ) (bs : List ℕ) → printable (b ∷ bs) ≡ true → is_printable b ≡ true
first_of b bs all = grind (arith, common_steps)

rest_of : (b : ℕ) (bs : List ℕ) → printable (b ∷ bs) ≡ true → printable bs ≡ true
rest_of b bs all = grind (arith, common_steps)

pub words_printable : (line : List ℕ) → printable line ≡ true → all_printable (words line) ≡ true
words_printable [] all = refl
words_printable (b ∷ bs) all = more (b == 32) b (words bs) (first_of b bs all) (words_printable bs (rest_of b bs all))

-- the second word of a printable line
pub second_printable : (line name file : List ℕ) (ws : List (List ℕ)) → printable line ≡ true → words line ≡ name ∷ (file ∷ ws)
    → IsTrue (printable file)
second_printable line name file ws all are =
    let each : all_printable (name ∷ (file ∷ ws)) ≡ true = rw are at (words_printable line all) in grind (arith, common_steps)

printable_ascii : (b : ℕ) → is_printable b ≡ true → b < 128
printable_ascii b one = grind (arith, nat_tests)

ascii_bytes : (bytes : List ℕ) → printable bytes ≡ true → IsAscii bytes
ascii_bytes [] all i = lit< tt
ascii_bytes (b ∷ bs) all zero = printable_ascii b (first_of b bs all)
ascii_bytes (b ∷ bs) all (suc i) = ascii_bytes bs (rest_of b bs all) i

pub printable_text : (bytes : List ℕ) → printable bytes ≡ true → IsUtf8 bytes
printable_text [] all = IsUtf8-nil
printable_text (b ∷ bs) all = IsUtf8-from_ascii (b ∷ bs) (ascii_bytes (b ∷ bs) all)

-- ---- the text ends

pub plan_ends : (text : List ℕ) (plan : List PlannedModule) → after_lines read_line 1 no_lines (lines text) ≡ Ok plan
    → plan_of text ≡ plan_at (length (lines text) + 1) plan
unfolding plan_of
plan_ends text plan is = rw is refl

pub plan_stops : (text : List ℕ) (fault : TextFault PlanCause) → after_lines read_line 1 no_lines (lines text) ≡ Err fault
    → plan_of text ≡ Err fault
unfolding plan_of
plan_stops text fault is = rw is refl

pub no_module : (number : ℕ) (plan : List PlannedModule) → length plan ≡ 0 → plan_at number plan ≡ Err (record { line = number; cause = NoModule })
no_module number [] none = refl
no_module number (m ∷ ms) none = absurd (omega (arith, none))

pub some_module : (number : ℕ) (plan : List PlannedModule) → 0 < length plan → plan_at number plan ≡ Ok plan
some_module number [] some = absurd (omega (arith, some))
some_module number (m ∷ ms) some = refl

-- ---- one module more

listed : (full : Bool) (plan next : List PlannedModule) → full ≡ false → cond full (Err TooMany) (Ok next) ≡ Ok next
listed full plan next not_full = rw not_full refl

pub one_more : (ms : List ModuleLine) (m : ModuleLine) (file : List ℕ) (room : Room) → (length (map module_seen ms) == 64) ≡ false
    → module_seen m ≡ record { file = file; room = room }
    → said_with (map module_seen ms) (record { file = file; room = room }) ≡ Ok (map module_seen (ms ++ m ∷ []))
one_more ms m file room not_full is =
    listed (length (map module_seen ms) == 64) (map module_seen ms) _ not_full
    ∙ ap Ok (ap (λ s. map module_seen ms ++ s ∷ []) (sym is) ∙ sym (map-append module_seen ms (m ∷ [])))

-- a line stops the call
pub plan_told : {A B : Type 0} (text : List ℕ) (e : ReadError (TextFault PlanCause)) (seen : A → List PlannedModule) (other : B → List PlannedModule)
    → SaysSeen seen (Err e) (after_lines read_line 1 no_lines (lines text)) → SaysSeen other (Err e) (plan_of text)
plan_told text (answer.Fault fault) seen other says = plan_stops text fault says
plan_told text answer.Memory seen other says = tt
