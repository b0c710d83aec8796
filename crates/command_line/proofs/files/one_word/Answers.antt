-- What the parser made of one word.
use Rattle.std.proofs.Common.{◌≡◌, ◌∙◌, ◌⊎◌, Option, Some, None, map, drop, string_bytes, option_map, ap, ap₂, sym}
use Rattle.std.proofs.Common.{subst}
use Rattle.clap.specs.Simple.{app_of, is_simple, matches_of, with_rule}
use Rattle.clap.specs.Faults.{fault_of, is_simple_and_free}
use Rattle.clap.specs.Kinds.{HasKind}
use Rattle.clap.specs.Matches.{found_of}
use Rattle.clap.specs.Values.{kind_of}
use Rattle.clap.specs.declared.error.kind.ErrorKind.TheVariants.{OutOfMemory}
use Rattle.clap.proofs.TakesLemmas.{passed_up}
use Rattle.clap.proofs.WalkLemmas.{first_value-rows}
use Rattle.command_line.specs.CommandLine.{one_of}
use Rattle.command_line.proofs.OneWord.{one_word_free, one_word_read, one_word_simple, word_app, word_row}
use Rattle.command_line.proofs.Parsed.{given_is, refused_is, words_utf8}
use Rattle.command_line.proofs.files.one_word.Goals as goal

some_is : {A : Type 0} (x : Option A) (y : Option A) → option_map Some y ≡ Some x → x ≡ y
some_is x None e = cc
some_is x (Some y) e = cc

pub returns-in_err-matches-clause-refused : goal.returns-in_err-matches-clause-refused
returns-in_err-matches-clause-refused c =
    let name = c.as_str.result.now in
    let words = map string_bytes c.args.words.now in
    let app_is : app_of c.in_ok-command.command ≡ word_app name =
    c.in_ok-command.ensures.shape c.wanted_word.ensures.local
    ∙ ap₂ with_rule c.bare_command.ensures c.wanted_word.ensures.rule in
    let kinds =
    subst (λ a. HasKind (fault_of a words) c.in_err-matches.field-0.0) app_is
    (c.in_err-matches.ensures.kinds (ap is_simple_and_free app_is ∙ one_word_free name)) in
    passed_up c.from_residual-in_err-matches.result c.in_err-matches.field-0.0
    (λ e. (kind_of e ≡ OutOfMemory) ⊎ (one_of (drop 1 words) ≡ None))
    c.from_residual-in_err-matches.ensures.1
    (refused_is word_row Some (fault_of (word_app name) words) (matches_of (word_app name) words) (one_of (drop 1 words))
    (one_word_read name words (words_utf8 c.args.words.now)) c.in_err-matches.field-0.0 kinds)

pub returns-clause-word : goal.returns-clause-word
returns-clause-word c =
    let name = c.as_str.result.now in
    let words = map string_bytes c.args.words.now in
    let app_is : app_of c.in_ok-command.command ≡ word_app name =
    c.in_ok-command.ensures.shape c.wanted_word.ensures.local
    ∙ ap₂ with_rule c.bare_command.ensures c.wanted_word.ensures.rule in
    let none =
    ap (λ a. fault_of a words) (sym app_is)
    ∙ c.in_ok-matches.ensures.kinds (ap is_simple_and_free app_is ∙ one_word_free name) in
    let rows =
    (c.in_ok-matches.ensures.matches (ap is_simple app_is ∙ one_word_simple name)).0
    ∙ ap (λ a. matches_of a words) app_is in
    c.get_str.ensures ∙ (first_value-rows (found_of c.in_ok-matches.matches) _ ∙ (ap word_row rows
    ∙ some_is _ _
    (given_is word_row Some (fault_of (word_app name) words) (matches_of (word_app name) words) (one_of (drop 1 words))
    (one_word_read name words (words_utf8 c.args.words.now)) none)))
