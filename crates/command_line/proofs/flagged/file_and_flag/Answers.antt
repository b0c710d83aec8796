-- What the parser made of the words behind the first.
use Rattle.std.proofs.Common.{◌≡◌, ◌∙◌, ◌⊎◌, List, Bool, true, false, codes, Option, Some, None, map, drop}
use Rattle.std.proofs.Common.{arith, string_bytes, option_map, ap, ap₂, sym, subst}
use Rattle.std.specs.Borrow.{Bor}
use Rattle.std.proofs.lemmas.Grind.{common_steps}
use Rattle.clap.specs.Simple.{app_of, is_simple, matches_of, with_rule}
use Rattle.clap.specs.Faults.{fault_of, is_simple_and_free}
use Rattle.clap.specs.Kinds.{HasKind}
use Rattle.clap.specs.Matches.{found_of}
use Rattle.clap.specs.Values.{kind_of}
use Rattle.clap.specs.Walk.{Row, Text, first_of, one_of, rows_of}
use Rattle.clap.specs.declared.error.kind.ErrorKind.TheVariants.{OutOfMemory}
use Rattle.clap.proofs.TakesLemmas.{passed_up}
use Rattle.clap.proofs.WalkLemmas.{first_value-rows, one_text-rows}
use Rattle.command_line.specs.CommandLine.{Flagged, dashed, flagged_of}
use Rattle.command_line.specs.Seen.{seen_flagged}
use Rattle.command_line.proofs.Parsed.{flag_is, given_is, refused_is, words_utf8}
use Rattle.command_line.proofs.FlaggedRun.{FlaggedRow, flagged_app, flagged_free, flagged_given, flagged_read, flagged_row}
use Rattle.command_line.proofs.FlaggedRun.{flagged_simple, known}
use Rattle.command_line.proofs.flagged.file_and_flag.Goals as goal

-- what the flag and the file come to, where they are those that are asked for
file_is : (asked : Flagged) (read : Bool) (cart : Option (Bor Text)) → option_map (λ s. s.now) cart ≡ Some asked.file
    → read ≡ asked.flagged → option_map (λ file. seen_flagged (file, read)) cart ≡ Some asked
file_is asked read None e g = cc
file_is asked read (Some a) e g =
    let cart_is : a.now ≡ asked.file = cc in
    λ i. Some (record { file = cart_is i; flagged = g i })

asked_is : (name : Text) (asked : Option Flagged) (read : Bool) (cart : Option (Bor Text)) (rows : List Row) →
    option_map flagged_given asked ≡ Some (flagged_row name rows)
    → (one_of name rows ≡ Some (codes "true") → read ≡ true) → (one_of name rows ≡ Some (codes "false") → read ≡ false)
    → option_map (λ s. s.now) cart ≡ first_of (codes "cart") rows
    → option_map (λ file. seen_flagged (file, read)) cart ≡ asked
asked_is name None read cart rows e on off f = cc
asked_is name (Some asked) read cart rows e on off f =
    let found : flagged_row name rows ≡ flagged_given asked = cc in
    file_is asked read cart (f ∙ ap (λ (row : FlaggedRow). row.1) found)
    (flag_is read (one_of name rows) asked.flagged (ap (λ (row : FlaggedRow). row.0) found) on off)

pub returns-in_err-matches-clause-refused : goal.returns-in_err-matches-clause-refused
returns-in_err-matches-clause-refused c =
    let first = c.as_str.result.now in
    let name = c.args.name.now in
    let k = known name c.requires in
    let words = map string_bytes c.args.words.now in
    let flagged =
    c.in_ok-arg.ensures.shape c.flag.ensures.local ∙ ap₂ with_rule c.bare_command.ensures c.flag.ensures.rule in
    let app_is : app_of c.in_ok-command.command ≡ flagged_app first name =
    c.in_ok-command.ensures.shape c.wanted_word.ensures.local ∙ ap₂ with_rule flagged c.wanted_word.ensures.rule in
    let kinds = subst (λ a. HasKind (fault_of a words) c.in_err-matches.field-0.0) app_is
    (c.in_err-matches.ensures.kinds (ap is_simple_and_free app_is ∙ flagged_free first name k)) in
    passed_up c.from_residual-in_err-matches.result c.in_err-matches.field-0.0
    (λ e. (kind_of e ≡ OutOfMemory) ⊎ (flagged_of (dashed name) (drop 1 words) ≡ None))
    c.from_residual-in_err-matches.ensures.1
    (refused_is (flagged_row name) flagged_given (fault_of (flagged_app first name) words) (matches_of (flagged_app first name) words)
    (flagged_of (dashed name) (drop 1 words))
    (flagged_read first name k words (words_utf8 c.args.words.now)) c.in_err-matches.field-0.0 kinds)

pub returns-clause-asked : goal.returns-clause-asked
returns-clause-asked c =
    let first = c.as_str.result.now in
    let name = c.args.name.now in
    let k = known name c.requires in
    let words = map string_bytes c.args.words.now in
    let flagged =
    c.in_ok-arg.ensures.shape c.flag.ensures.local ∙ ap₂ with_rule c.bare_command.ensures c.flag.ensures.rule in
    let app_is : app_of c.in_ok-command.command ≡ flagged_app first name =
    c.in_ok-command.ensures.shape c.wanted_word.ensures.local ∙ ap₂ with_rule flagged c.wanted_word.ensures.rule in
    let none =
    ap (λ a. fault_of a words) (sym app_is)
    ∙ c.in_ok-matches.ensures.kinds (ap is_simple_and_free app_is ∙ flagged_free first name k) in
    let rows =
    (c.in_ok-matches.ensures.matches (ap is_simple app_is ∙ flagged_simple first name k)).0
    ∙ ap (λ a. matches_of a words) app_is in
    let found = found_of c.in_ok-matches.matches in
    let flag = one_text-rows found name in
    let asked = flagged_of (dashed name) (drop 1 words) in
    let given = given_is (flagged_row name) flagged_given (fault_of (flagged_app first name) words)
    (matches_of (flagged_app first name) words) asked (flagged_read first name k words (words_utf8 c.args.words.now)) none in
    let read = c.get_flag-flagged.result in
    let seen : option_map seen_flagged c.map.result
    ≡ option_map (λ (file : Bor Text). seen_flagged (file, read)) c.get_str-cart.result = grind (arith, common_steps) in
    seen
    ∙ asked_is name asked read c.get_str-cart.result (rows_of found)
    (given ∙ ap Some (ap (flagged_row name) (sym rows)))
    (λ on. c.get_flag-flagged.ensures.value (flag ∙ on)) (λ off. c.get_flag-flagged.ensures.other (flag ∙ off))
    (c.get_str-cart.ensures ∙ first_value-rows found _)
