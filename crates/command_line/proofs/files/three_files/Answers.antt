-- What the parser made of three words.
use Rattle.std.proofs.Common.{◌≡◌, ◌∙◌, ◌⊎◌, rules, Option, Some, None, map, drop, string_bytes, option_map, ap, ap₂, sym}
use Rattle.std.proofs.Common.{subst}
use Rattle.std.specs.Borrow.{Bor}
use Rattle.std.specs.Option.{option_zip}
use Rattle.clap.specs.Walk.{Text}
use Rattle.clap.specs.Simple.{app_of, is_simple, matches_of, with_rule}
use Rattle.clap.specs.Faults.{fault_of, is_simple_and_free}
use Rattle.clap.specs.Kinds.{HasKind}
use Rattle.clap.specs.Matches.{found_of}
use Rattle.clap.specs.Values.{kind_of}
use Rattle.clap.specs.declared.error.kind.ErrorKind.TheVariants.{OutOfMemory}
use Rattle.clap.proofs.TakesLemmas.{passed_up}
use Rattle.clap.proofs.WalkLemmas.{first_value-rows}
use Rattle.command_line.specs.CommandLine.{three_of}
use Rattle.command_line.specs.Seen.{seen_three_files}
use Rattle.command_line.proofs.ThreeFiles.{all_files, all_given, three_files_app, three_files_free, three_files_read}
use Rattle.command_line.proofs.ThreeFiles.{three_files_simple}
use Rattle.command_line.proofs.Parsed.{given_is, refused_is, words_utf8}
use Rattle.command_line.proofs.files.three_files.Goals as goal

abbrev Name : Type 0
Name = Bor Text

abbrev side_by_side : (Name × Name) × Name → Name × Name × Name
side_by_side files = (files.0.0, files.0.1, files.1)

zip_is : (x y z : Option Name) (asked : Option (Text × Text × Text)) (first second third : Option Text) →
    option_map all_given asked ≡ Some (first, second, third)
    → option_map (λ s. s.now) x ≡ first → option_map (λ s. s.now) y ≡ second → option_map (λ s. s.now) z ≡ third →
    option_map seen_three_files (option_map side_by_side (option_zip (option_zip x y) z)) ≡ asked
zip_is x y z None first second third e f g h = cc
zip_is x y z (Some files) first second third e f g h =
    let all : (first, second, third) ≡ all_given files = cc in
    go x y z (f ∙ ap (λ (p : Option Text × Option Text × Option Text). p.0) all)
    (g ∙ ap (λ (p : Option Text × Option Text × Option Text). p.1) all)
    (h ∙ ap (λ (p : Option Text × Option Text × Option Text). p.2) all)
  where
    go : (x y z : Option Name) → option_map (λ s. s.now) x ≡ Some files.0 → option_map (λ s. s.now) y ≡ Some files.1 →
        option_map (λ s. s.now) z ≡ Some files.2 →
        option_map seen_three_files (option_map side_by_side (option_zip (option_zip x y) z)) ≡ Some files
    go None y z f g h = cc
    go (Some a) None z f g h = cc
    go (Some a) (Some b) None f g h = cc
    go (Some a) (Some b) (Some c) f g h =
        let first_is : a.now ≡ files.0 = cc in
        let second_is : b.now ≡ files.1 = cc in
        let third_is : c.now ≡ files.2 = cc in
        λ i. Some (first_is i, second_is i, third_is i)

pub returns-in_err-matches-clause-refused : goal.returns-in_err-matches-clause-refused
returns-in_err-matches-clause-refused c =
    let name = c.as_str.result.now in
    let words = map string_bytes c.args.words.now in
    let first = c.in_ok-arg.ensures.shape c.wanted_word.ensures.local
    ∙ ap₂ with_rule c.bare_command.ensures c.wanted_word.ensures.rule in
    let second = c.in_ok-arg-2.ensures.shape c.wanted_word-2.ensures.local ∙ ap₂ with_rule first c.wanted_word-2.ensures.rule in
    let app_is : app_of c.in_ok-command.command ≡ three_files_app name =
    c.in_ok-command.ensures.shape c.wanted_word-3.ensures.local ∙ ap₂ with_rule second c.wanted_word-3.ensures.rule in
    let kinds =
    subst (λ a. HasKind (fault_of a words) c.in_err-matches.field-0.0) app_is
    (c.in_err-matches.ensures.kinds (ap is_simple_and_free app_is ∙ three_files_free name)) in
    passed_up c.from_residual-in_err-matches.result c.in_err-matches.field-0.0
    (λ e. (kind_of e ≡ OutOfMemory) ⊎ (three_of (drop 1 words) ≡ None))
    c.from_residual-in_err-matches.ensures.1
    (refused_is all_files all_given (fault_of (three_files_app name) words) (matches_of (three_files_app name) words)
    (three_of (drop 1 words)) (three_files_read name words (words_utf8 c.args.words.now)) c.in_err-matches.field-0.0 kinds)

pub returns-clause-files : goal.returns-clause-files
returns-clause-files c =
    let name = c.as_str.result.now in
    let words = map string_bytes c.args.words.now in
    let first = c.in_ok-arg.ensures.shape c.wanted_word.ensures.local
    ∙ ap₂ with_rule c.bare_command.ensures c.wanted_word.ensures.rule in
    let second = c.in_ok-arg-2.ensures.shape c.wanted_word-2.ensures.local ∙ ap₂ with_rule first c.wanted_word-2.ensures.rule in
    let app_is : app_of c.in_ok-command.command ≡ three_files_app name =
    c.in_ok-command.ensures.shape c.wanted_word-3.ensures.local ∙ ap₂ with_rule second c.wanted_word-3.ensures.rule in
    let none =
    ap (λ a. fault_of a words) (sym app_is)
    ∙ c.in_ok-matches.ensures.kinds (ap is_simple_and_free app_is ∙ three_files_free name) in
    let rows =
    (c.in_ok-matches.ensures.matches (ap is_simple app_is ∙ three_files_simple name)).0
    ∙ ap (λ a. matches_of a words) app_is in
    let found = found_of c.in_ok-matches.matches in
    let given =
    given_is all_files all_given (fault_of (three_files_app name) words) (matches_of (three_files_app name) words)
    (three_of (drop 1 words)) (three_files_read name words (words_utf8 c.args.words.now)) none in
    let laid : option_map seen_three_files c.map.result
    ≡ option_map seen_three_files (option_map side_by_side c.zip-files.result) = search rules in
    let zipped = c.zip-files.ensures ∙ ap (λ p. option_zip p c.get_str-3.result) c.zip-pair.ensures in
    laid ∙ ap (λ files. option_map seen_three_files (option_map side_by_side files)) zipped
    ∙ zip_is c.get_str.result c.get_str-2.result c.get_str-3.result (three_of (drop 1 words)) _ _ _
    (given ∙ ap Some (ap all_files (sym rows))) (c.get_str.ensures ∙ first_value-rows found _)
    (c.get_str-2.ensures ∙ first_value-rows found _) (c.get_str-3.ensures ∙ first_value-rows found _)
