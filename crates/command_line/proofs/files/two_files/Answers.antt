-- What the parser made of two words.
use Rattle.std.proofs.Common.{◌≡◌, ◌∙◌, ◌⊎◌, Option, Some, None, map, drop, string_bytes, option_map, ap, ap₂, sym}
use Rattle.std.proofs.Common.{subst}
use Rattle.std.specs.Borrow.{Bor}
use Rattle.std.specs.Option.{option_zip}
use Rattle.clap.specs.Walk.{Text}
use Rattle.clap.specs.Simple.{app_of, is_simple, matches_of, with_rule}
use Rattle.clap.specs.Faults.{fault_of, is_simple_and_free}
use Rattle.clap.specs.Kinds.{HasKind}
use Rattle.clap.specs.Matches.{found_of}
use Rattle.clap.specs.Values.{kind_of}
use Rattle.clap.specs.declared.error.kind.ErrorKind.TheVariants.{OutOfMemory}
use Rattle.clap.proofs.TakesLemmas.{passed_up}
use Rattle.clap.proofs.WalkLemmas.{first_value-rows}
use Rattle.command_line.specs.CommandLine.{two_of}
use Rattle.command_line.specs.Seen.{seen_files}
use Rattle.command_line.proofs.TwoFiles.{both_files, both_given, files_app, two_files_free, two_files_read}
use Rattle.command_line.proofs.TwoFiles.{two_files_simple}
use Rattle.command_line.proofs.Parsed.{given_is, refused_is, words_utf8}
use Rattle.command_line.proofs.files.two_files.Goals as goal

zip_is : (x y : Option (Bor Text)) (asked : Option (Text × Text)) (first second : Option Text) →
    option_map both_given asked ≡ Some (first, second)
    → option_map (λ s. s.now) x ≡ first → option_map (λ s. s.now) y ≡ second →
    option_map seen_files (option_zip x y) ≡ asked
zip_is x y None first second e f g = cc
zip_is x y (Some files) first second e f g =
    let pair : (first, second) ≡ both_given files = cc in
    go x y (f ∙ ap (λ (p : Option Text × Option Text). p.0) pair) (g ∙ ap (λ (p : Option Text × Option Text). p.1) pair)
  where
    go : (x y : Option (Bor Text)) → option_map (λ s. s.now) x ≡ Some files.0 →
        option_map (λ s. s.now) y ≡ Some files.1 → option_map seen_files (option_zip x y) ≡ Some files
    go None y f g = cc
    go (Some a) None f g = cc
    go (Some a) (Some b) f g =
        let first_is : a.now ≡ files.0 = cc in
        let second_is : b.now ≡ files.1 = cc in
        ap₂ (λ (s t : Text). Some (s, t)) first_is second_is

pub returns-in_err-matches-clause-refused : goal.returns-in_err-matches-clause-refused
returns-in_err-matches-clause-refused c =
    let name = c.as_str.result.now in
    let words = map string_bytes c.args.words.now in
    let app_is : app_of c.in_ok-command.command ≡ files_app name =
    c.in_ok-command.ensures.shape c.wanted_word-2.ensures.local
    ∙ ap₂ with_rule
    (c.in_ok-arg.ensures.shape c.wanted_word.ensures.local ∙ ap₂ with_rule c.bare_command.ensures c.wanted_word.ensures.rule)
    c.wanted_word-2.ensures.rule in
    let kinds =
    subst (λ a. HasKind (fault_of a words) c.in_err-matches.field-0.0) app_is
    (c.in_err-matches.ensures.kinds (ap is_simple_and_free app_is ∙ two_files_free name)) in
    passed_up c.from_residual-in_err-matches.result c.in_err-matches.field-0.0
    (λ e. (kind_of e ≡ OutOfMemory) ⊎ (two_of (drop 1 words) ≡ None))
    c.from_residual-in_err-matches.ensures.1
    (refused_is both_files both_given (fault_of (files_app name) words) (matches_of (files_app name) words)
    (two_of (drop 1 words)) (two_files_read name words (words_utf8 c.args.words.now)) c.in_err-matches.field-0.0 kinds)

pub returns-clause-files : goal.returns-clause-files
returns-clause-files c =
    let name = c.as_str.result.now in
    let words = map string_bytes c.args.words.now in
    let app_is : app_of c.in_ok-command.command ≡ files_app name =
    c.in_ok-command.ensures.shape c.wanted_word-2.ensures.local
    ∙ ap₂ with_rule
    (c.in_ok-arg.ensures.shape c.wanted_word.ensures.local ∙ ap₂ with_rule c.bare_command.ensures c.wanted_word.ensures.rule)
    c.wanted_word-2.ensures.rule in
    let none =
    ap (λ a. fault_of a words) (sym app_is)
    ∙ c.in_ok-matches.ensures.kinds (ap is_simple_and_free app_is ∙ two_files_free name) in
    let rows =
    (c.in_ok-matches.ensures.matches (ap is_simple app_is ∙ two_files_simple name)).0
    ∙ ap (λ a. matches_of a words) app_is in
    let cart = c.get_str.ensures ∙ first_value-rows (found_of c.in_ok-matches.matches) _ in
    let script = c.get_str-2.ensures ∙ first_value-rows (found_of c.in_ok-matches.matches) _ in
    let both =
    given_is both_files both_given (fault_of (files_app name) words) (matches_of (files_app name) words)
    (two_of (drop 1 words)) (two_files_read name words (words_utf8 c.args.words.now)) none in
    ap (option_map seen_files) c.zip.ensures
    ∙ zip_is c.get_str.result c.get_str-2.result (two_of (drop 1 words)) _ _
    (both ∙ ap Some (ap both_files (sym rows))) cart script
