-- The commands of a text are told by its lines, and so is the fault of a text that is none.
use Rattle.std.proofs.Common.{◌≡◌, ℕ, ◌+◌, Bool, true, false, cond, List, [], ◌∷◌, ◌++◌, Result, Ok, Err, refl, sym, ap, ◌∙◌}
use Rattle.std.proofs.Common.{subst, arith}
use Rattle.std.specs.Prelude.{nat_le}
use Rattle.std.proofs.lemmas.Bool.Decides.{nat_tests}
use Rattle.std.proofs.lemmas.List.Sums.{sum_by_push}
use Rattle.text_lines.specs.declared.read_error.ReadError.{ReadError}
use Rattle.text_lines.specs.declared.read_error.ReadError.TheVariants as answer
use Rattle.text_lines.specs.ReadErrors.{OnMemory, SaysSeen}
use Rattle.line_words.specs.Drafts.{draft_by, IsShortAt}
use Rattle.line_words.proofs.FirstFault.{Found, Stood, found_lines, same_cause, same_value, short_lines}
use Rattle.chip_debug.specs.declared.answers.DebugCause.{DebugCause}
use Rattle.chip_debug.specs.declared.answers.DebugCause.TheVariants.{Total}
use Rattle.chip_debug.specs.declared.command.Command.{Command}
use Rattle.chip_debug.specs.Answers.{DebugFault}
use Rattle.chip_debug.specs.Commands.{line_of}
use Rattle.chip_debug.specs.FirstFault.{AreFew, HasCommand, IsTooMuch, TellsLines}
use Rattle.chip_debug.specs.Limits.{count_of, most_instructions, total_of}
use Rattle.chip_debug.specs.Reading.{commands, commands_by, read_line, said_with}

-- a draft is what is said, which asks for so many instructions at most
record Stands (ss : List Command) (said : List Command) : Type 0 where
  is : said ≡ ss
  few : AreFew said

by_line : (said : List Command) (l : List ℕ) → read_line said l ≡ draft_by said_with said (line_of l)
unfolding read_line
by_line said l = refl

few : (ss said : List Command) → Stands ss said → AreFew ss
few ss said stands = subst AreFew stands.is stands.few

more_said : (said next : List Command) (c : Command) (fits : Bool) →
    nat_le (total_of said + count_of c) most_instructions ≡ fits →
    cond fits (Ok (said ++ c ∷ [])) (Err Total) ≡ Ok next → (said ++ c ∷ [] ≡ next) × AreFew (said ++ c ∷ [])
more_said said next c true test step = (same_value _ next step, grind (arith, nat_tests, sum_by_push count_of said c))
more_said said next c false test step = absurd cc

goes_on : (ss said next : List Command) (c : Command) → Stands ss said → said_with said c ≡ Ok next →
    Stands (ss ++ c ∷ []) next
goes_on ss said next c stands step =
    let more = more_said said next c _ refl step in
    record { is = sym more.0 ∙ ap (λ cs. cs ++ c ∷ []) stands.is; few = subst AreFew more.0 more.1 }

too_many : (said : List Command) (c : Command) (cause : DebugCause) (fits : Bool) →
    nat_le (total_of said + count_of c) most_instructions ≡ fits →
    cond fits (Ok (said ++ c ∷ [])) (Err Total) ≡ Err cause → IsTooMuch said c cause
too_many said c cause true test step = absurd cc
too_many said c cause false test step = (grind (arith, nat_tests), sym (same_cause Total cause step))

cant_stand : (ss said : List Command) (c : Command) (cause : DebugCause) → Stands ss said →
    said_with said c ≡ Err cause → IsTooMuch ss c cause
cant_stand ss said c cause stands step =
    subst (λ (cs : List Command). IsTooMuch cs c cause) stands.is (too_many said c cause _ refl step)

-- ---- all lines

abbrev IsFound : List (List ℕ) → Result (List Command) DebugFault → Type 0
IsFound ls said = Found line_of AreFew IsTooMuch Stands ls said

found : (ls : List (List ℕ)) → IsFound ls (commands_by ls)
found ls =
    found_lines line_of AreFew IsTooMuch Stands said_with read_line by_line few goes_on cant_stand ls []
    (record { is = refl; few = omega arith })

-- a line stops the call
pub stop_tells : (ls : List (List ℕ)) (e : ReadError DebugFault) (seen : ℕ → List Command) →
    SaysSeen seen (Err e) (commands_by ls) → OnMemory {A = ℕ} (Err e) (IsShortAt read_line HasCommand [] ls) →
    TellsLines (Err e) ls
stop_tells ls (answer.Fault fault) seen says memory = subst (λ said. IsFound ls said) says (found ls)
stop_tells ls answer.Memory seen says memory =
    short_lines line_of AreFew IsTooMuch Stands said_with read_line by_line few goes_on cant_stand HasCommand ls []
    (record { is = refl; few = omega arith }) memory

-- the text ends
pub end_tells : (ls : List (List ℕ)) (said : List Command) → commands_by ls ≡ Ok said → TellsLines (Ok said) ls
end_tells ls said is =
    let stood : Stood line_of AreFew IsTooMuch Stands ls said = subst (λ answer. IsFound ls answer) is (found ls) in
    (record { each = stood.each; together = few (commands ls) said stood.stands }, stood.stands.is)
