-- What the parser made of the words of a run.
use Rattle.std.proofs.Common.{◌≡◌, ◌∙◌, ◌⊎◌, rules, List, Bool, true, false, codes, Option, Some, None, map, drop}
use Rattle.std.proofs.Common.{string_bytes, option_map, ap, ap₂, sym, subst}
use Rattle.std.specs.Option.{option_zip}
use Rattle.clap.specs.Simple.{app_of, is_simple, matches_of, with_rule}
use Rattle.clap.specs.Faults.{fault_of, is_simple_and_free}
use Rattle.clap.specs.Kinds.{HasKind}
use Rattle.clap.specs.Matches.{found_of}
use Rattle.clap.specs.Values.{kind_of}
use Rattle.clap.specs.declared.error.kind.ErrorKind.TheVariants.{OutOfMemory}
use Rattle.clap.proofs.TakesLemmas.{passed_up}
use Rattle.clap.proofs.WalkLemmas.{first_value-rows, one_text-rows}
use Rattle.command_line.specs.CommandLine.{Play, Run, play_of, run_of}
use Rattle.command_line.specs.Seen.{seen_command}
use Rattle.std.specs.Borrow.{Bor}
use Rattle.clap.specs.Walk.{Row, Text, first_of, one_of, rows_of}
use Rattle.command_line.proofs.WordSorts.{trace}
use Rattle.command_line.proofs.Parsed.{flag_is, given_is, refused_is, words_utf8}
use Rattle.command_line.proofs.PlayRun.{RunRow, run_given, run_row, play_app, play_free, play_read, play_simple}
use Rattle.command_line.proofs.play.play.Goals as goal

-- what the flag and the files come to, where they are those of a run
files_are : (run : Run) (read : Bool) (cart script : Option (Bor Text)) → option_map (λ s. s.now) cart ≡ Some run.cart
    → option_map (λ s. s.now) script ≡ Some run.script → read ≡ run.traced
    → option_map (λ files. Play files.0.now files.1.now read) (option_zip cart script) ≡ Some (play_of run)
files_are run read None script e f g = cc
files_are run read (Some a) None e f g = cc
files_are run read (Some a) (Some b) e f g =
    let cart_is : a.now ≡ run.cart = cc in
    let script_is : b.now ≡ run.script = cc in
    λ i. Some (Play (cart_is i) (script_is i) (g i))

run_is : (asked : Option Run) (read : Bool) (cart script : Option (Bor Text)) (rows : List Row) →
    option_map run_given asked ≡ Some (run_row rows)
    → (one_of trace rows ≡ Some (codes "true") → read ≡ true) →
    (one_of trace rows ≡ Some (codes "false") → read ≡ false)
    → option_map (λ s. s.now) cart ≡ first_of (codes "cart") rows →
    option_map (λ s. s.now) script ≡ first_of (codes "script") rows
    → option_map (λ files. Play files.0.now files.1.now read) (option_zip cart script) ≡ option_map play_of asked
run_is None read cart script rows e on off f g = cc
run_is (Some run) read cart script rows e on off f g =
    let found : run_row rows ≡ run_given run = cc in
    files_are run read cart script (f ∙ ap (λ (row : RunRow). row.1) found) (g ∙ ap (λ (row : RunRow). row.2) found)
    (flag_is read (one_of trace rows) run.traced (ap (λ (row : RunRow). row.0) found) on off)

pub returns-in_err-matches-clause-refused : goal.returns-in_err-matches-clause-refused
returns-in_err-matches-clause-refused c =
    let name = c.as_str.result.now in
    let words = map string_bytes c.args.words.now in
    let flagged =
    c.in_ok-arg.ensures.shape c.flag.ensures.local ∙ ap₂ with_rule c.bare_command.ensures c.flag.ensures.rule in
    let first =
    c.in_ok-arg-2.ensures.shape c.wanted_word.ensures.local ∙ ap₂ with_rule flagged c.wanted_word.ensures.rule in
    let app_is : app_of c.in_ok-command.command ≡ play_app name =
    c.in_ok-command.ensures.shape c.wanted_word-2.ensures.local ∙ ap₂ with_rule first c.wanted_word-2.ensures.rule in
    let kinds = subst (λ a. HasKind (fault_of a words) c.in_err-matches.field-0.0) app_is
    (c.in_err-matches.ensures.kinds (ap is_simple_and_free app_is ∙ play_free name)) in
    passed_up c.from_residual-in_err-matches.result c.in_err-matches.field-0.0
    (λ e. (kind_of e ≡ OutOfMemory) ⊎ (run_of (drop 1 words) ≡ None))
    c.from_residual-in_err-matches.ensures.1
    (refused_is run_row run_given (fault_of (play_app name) words) (matches_of (play_app name) words) (run_of (drop 1 words))
    (play_read name words (words_utf8 c.args.words.now)) c.in_err-matches.field-0.0 kinds)

pub returns-clause-run : goal.returns-clause-run
returns-clause-run c =
    let name = c.as_str.result.now in
    let words = map string_bytes c.args.words.now in
    let flagged =
    c.in_ok-arg.ensures.shape c.flag.ensures.local ∙ ap₂ with_rule c.bare_command.ensures c.flag.ensures.rule in
    let first =
    c.in_ok-arg-2.ensures.shape c.wanted_word.ensures.local ∙ ap₂ with_rule flagged c.wanted_word.ensures.rule in
    let app_is : app_of c.in_ok-command.command ≡ play_app name =
    c.in_ok-command.ensures.shape c.wanted_word-2.ensures.local ∙ ap₂ with_rule first c.wanted_word-2.ensures.rule in
    let none =
    ap (λ a. fault_of a words) (sym app_is)
    ∙ c.in_ok-matches.ensures.kinds (ap is_simple_and_free app_is ∙ play_free name) in
    let rows =
    (c.in_ok-matches.ensures.matches (ap is_simple app_is ∙ play_simple name)).0
    ∙ ap (λ a. matches_of a words) app_is in
    let found = found_of c.in_ok-matches.matches in
    let flag = one_text-rows found trace in
    let asked = run_of (drop 1 words) in
    let given = given_is run_row run_given (fault_of (play_app name) words) (matches_of (play_app name) words) asked
    (play_read name words (words_utf8 c.args.words.now)) none in
    let seen : option_map seen_command c.map.result
    ≡ option_map (λ files. Play files.0.now files.1.now c.get_flag-traced.result) c.zip-files.result = search rules in
    seen ∙ ap (option_map (λ files. Play files.0.now files.1.now c.get_flag-traced.result)) c.zip-files.ensures
    ∙ run_is asked c.get_flag-traced.result c.get_str.result c.get_str-2.result (rows_of found)
    (given ∙ ap Some (ap run_row (sym rows)))
    (λ on. c.get_flag-traced.ensures.value (flag ∙ on)) (λ off. c.get_flag-traced.ensures.other (flag ∙ off))
    (c.get_str.ensures ∙ first_value-rows found _) (c.get_str-2.ensures ∙ first_value-rows found _)
