-- A script is told by its lines, and so is the fault of a text that is none.
use Rattle.std.proofs.Common.{◌≡◌, ℕ, ◌+◌, List, [], length, Option, Some, None, Result, Ok, Err, refl, sym, ap, ◌∙◌, subst}
use Rattle.std.specs.Prelude.{option_map, unwrap_or}
use Rattle.text_lines.specs.declared.read_error.ReadError.{ReadError}
use Rattle.text_lines.specs.declared.read_error.ReadError.TheVariants as answer
use Rattle.text_lines.specs.ReadErrors.{OnMemory, SaysSeen}
use Rattle.console_spec.specs.declared.End.{End}
use Rattle.line_words.specs.Drafts.{after_lines, IsShortAt}
use Rattle.line_words.specs.FirstFault.{HasNoFault}
use Rattle.line_words.proofs.FirstFault.{Found, Stood, found_lines, short_lines}
use Rattle.pad_script.specs.declared.answers.ScriptCause.TheVariants.{NoEnd}
use Rattle.pad_script.specs.declared.statement.Statement.{Statement}
use Rattle.pad_script.specs.Answers.{ScriptFault}
use Rattle.pad_script.specs.FirstFault.{AreFew, AtLine, BehindLast, IsCounted, IsScriptFault, IsTooMuch, TellsFault}
use Rattle.pad_script.specs.Reading.{Draft, Script, no_draft, read_line, said_with, script_in}
use Rattle.pad_script.specs.Statements.{line_of}
use Rattle.pad_script.specs.Telling.{IsPower, IsTold, statements}
use Rattle.pad_script.proofs.Drafts.{Stands, by_line, cant_stand, few, goes_on, one_of, stands_first}

abbrev read : List (List ℕ) → Result Draft ScriptFault
read ls = after_lines read_line 1 no_draft ls

abbrev IsFound : List (List ℕ) → Result Draft ScriptFault → Type 0
IsFound ls said = Found line_of AreFew IsTooMuch Stands ls said

found : (ls : List (List ℕ)) → IsFound ls (read ls)
found ls =
    found_lines line_of AreFew IsTooMuch Stands said_with read_line by_line few goes_on cant_stand ls no_draft stands_first

-- a line stops the call
pub stop_tells : (ls : List (List ℕ)) (e : ReadError ScriptFault) (seen : ℕ → Draft) → SaysSeen seen (Err e) (read ls) →
    OnMemory {A = ℕ} (Err e) (IsShortAt read_line IsCounted no_draft ls) → TellsFault (Err e) ls
stop_tells ls (answer.Fault fault) seen says memory = AtLine (subst (λ said. IsFound ls said) says (found ls))
stop_tells ls answer.Memory seen says memory =
    short_lines line_of AreFew IsTooMuch Stands said_with read_line by_line few goes_on cant_stand IsCounted ls no_draft
    stands_first memory

-- ---- the text ends

is_power : (power : Option ℕ) → IsPower (one_of power) (unwrap_or power 0)
is_power None = refl
is_power (Some byte) = refl

told_with : (ss : List Statement) (d : Draft) (script : Script) (end : Option End) → Stands ss d → d.end ≡ end →
    Some script ≡ option_map (λ (end : End). record {
      power = unwrap_or d.power 0;
      end = end;
      events = d.events;
      shows = d.shows;
    }) end →
    IsTold ss script
told_with ss d script None stands is said = absurd cc
told_with ss d script (Some end) stands is said =
    let same : record { power = unwrap_or d.power 0; end = end; events = d.events; shows = d.shows } ≡ script = cc in
    subst (λ (s : Script). IsTold ss s) same (record {
      power = subst (λ bytes. IsPower bytes (unwrap_or d.power 0)) (sym stands.powers) (is_power d.power);
      end = stands.ends ∙ ap one_of is;
      events = sym stands.events;
      shows = sym stands.shows;
    })

no_end : {S : Type 0} (script : End → S) (end : Option End) → None ≡ option_map script end → one_of end ≡ []
no_end script None none = refl
no_end script (Some end) none = absurd cc

module _ (ls : List (List ℕ)) (d : Draft) (is : read ls ≡ Ok d) where
  stood : Stood line_of AreFew IsTooMuch Stands ls d
  stood = subst (λ said. IsFound ls said) is (found ls)

  pub faultless : HasNoFault line_of AreFew ls
  faultless = record { each = stood.each; together = few (statements ls) d stood.stands }

  pub told_script : (script : Script) → Some script ≡ script_in d → IsTold (statements ls) script
  unfolding script_in
  told_script script said = told_with (statements ls) d script d.end stood.stands refl said

  pub end_fault : (count : ℕ) → count ≡ length ls → None ≡ script_in d →
      IsScriptFault ls (record { line = count + 1; cause = NoEnd })
  unfolding script_in
  end_fault count counted none =
      BehindLast faultless (stood.stands.ends ∙ no_end _ d.end none) (ap (λ n. n + 1) counted) refl
