-- Words with what they ask for, each worked out from the rules by hand and computed from the definitions.
use Rattle.std.proofs.Common.{◌≡◌, true, false, [], ◌∷◌, Some, None, codes, refl}
use Rattle.command_line.specs.CommandLine.{Play, Ref, Debug, Audit, Check, Verify, Prove, Confirm, Migrate, Asm, Dis, Gen, command_of}

pub two_words : command_of (codes "play" ∷ (codes "game.toml" ∷ (codes "run.txt" ∷ []))) ≡ Some (Play (codes "game.toml") (codes "run.txt") false)
two_words = refl

pub hyphen_and_empty : command_of (codes "ref" ∷ (codes "-" ∷ (codes "" ∷ []))) ≡ Some (Ref (codes "-") (codes ""))
hyphen_and_empty = refl

pub plain_behind_dashes : command_of (codes "play" ∷ (codes "--" ∷ (codes "a" ∷ (codes "-b" ∷ [])))) ≡ Some (Play (codes "a") (codes "-b") false)
plain_behind_dashes = refl

pub flag_first : command_of (codes "play" ∷ (codes "--trace" ∷ (codes "a" ∷ (codes "b" ∷ [])))) ≡ Some (Play (codes "a") (codes "b") true)
flag_first = refl

pub flag_between : command_of (codes "play" ∷ (codes "a" ∷ (codes "--trace" ∷ (codes "b" ∷ [])))) ≡ Some (Play (codes "a") (codes "b") true)
flag_between = refl

pub flag_last : command_of (codes "play" ∷ (codes "a" ∷ (codes "b" ∷ (codes "--trace" ∷ [])))) ≡ Some (Play (codes "a") (codes "b") true)
flag_last = refl

pub flag_before_dashes : command_of (codes "play" ∷ (codes "--trace" ∷ (codes "--" ∷ (codes "-a" ∷ (codes "--trace" ∷ [])))))
    ≡ Some (Play (codes "-a") (codes "--trace") true)
flag_before_dashes = refl

pub flag_behind_dashes : command_of (codes "play" ∷ (codes "a" ∷ (codes "--" ∷ (codes "--trace" ∷ [])))) ≡ Some (Play (codes "a") (codes "--trace") false)
flag_behind_dashes = refl

pub flag_twice : command_of (codes "play" ∷ (codes "--trace" ∷ (codes "a" ∷ (codes "b" ∷ (codes "--trace" ∷ []))))) ≡ None
flag_twice = refl

pub flag_of_another : command_of (codes "ref" ∷ (codes "a" ∷ (codes "b" ∷ (codes "--trace" ∷ [])))) ≡ None
flag_of_another = refl

pub flag_with_value : command_of (codes "play" ∷ (codes "a" ∷ (codes "b" ∷ (codes "--trace=x" ∷ [])))) ≡ None
flag_with_value = refl

pub flag_cut_short : command_of (codes "play" ∷ (codes "a" ∷ (codes "b" ∷ (codes "--trac" ∷ [])))) ≡ None
flag_cut_short = refl

pub debugged_cart : command_of (codes "debug" ∷ (codes "game.toml" ∷ (codes "walk.txt" ∷ []))) ≡ Some (Debug (codes "game.toml") (codes "walk.txt"))
debugged_cart = refl

pub debug_without_flags : command_of (codes "debug" ∷ (codes "a" ∷ (codes "b" ∷ (codes "--trace" ∷ [])))) ≡ None
debug_without_flags = refl

pub audited_trace : command_of (codes "audit" ∷ (codes "game.toml" ∷ (codes "run.txt" ∷ (codes "steps.txt" ∷ []))))
    ≡ Some (Audit (codes "game.toml") (codes "run.txt") (codes "steps.txt"))
audited_trace = refl

pub audit_without_trace : command_of (codes "audit" ∷ (codes "game.toml" ∷ (codes "run.txt" ∷ []))) ≡ None
audit_without_trace = refl

pub audit_without_flags : command_of (codes "audit" ∷ (codes "--trace" ∷ (codes "a" ∷ (codes "b" ∷ (codes "c" ∷ []))))) ≡ None
audit_without_flags = refl

pub checked_cart : command_of (codes "check" ∷ (codes "game.toml" ∷ [])) ≡ Some (Check (codes "game.toml") false)
checked_cart = refl

pub cert_before : command_of (codes "check" ∷ (codes "--cert" ∷ (codes "game.toml" ∷ []))) ≡ Some (Check (codes "game.toml") true)
cert_before = refl

pub cert_behind : command_of (codes "check" ∷ (codes "game.toml" ∷ (codes "--cert" ∷ []))) ≡ Some (Check (codes "game.toml") true)
cert_behind = refl

pub cert_behind_dashes : command_of (codes "check" ∷ (codes "--" ∷ (codes "--cert" ∷ []))) ≡ Some (Check (codes "--cert") false)
cert_behind_dashes = refl

pub cert_twice : command_of (codes "check" ∷ (codes "--cert" ∷ (codes "a" ∷ (codes "--cert" ∷ [])))) ≡ None
cert_twice = refl

pub check_not_traced : command_of (codes "check" ∷ (codes "--trace" ∷ (codes "game.toml" ∷ []))) ≡ None
check_not_traced = refl

pub play_without_cert : command_of (codes "play" ∷ (codes "a" ∷ (codes "b" ∷ (codes "--cert" ∷ [])))) ≡ None
play_without_cert = refl

pub verified_cart : command_of (codes "verify" ∷ (codes "a" ∷ (codes "b" ∷ []))) ≡ Some (Verify (codes "a") (codes "b"))
verified_cart = refl

pub verify_without_cert : command_of (codes "verify" ∷ (codes "a" ∷ (codes "--cert" ∷ []))) ≡ None
verify_without_cert = refl

pub check_without_cases : command_of (codes "check" ∷ (codes "--cases" ∷ (codes "a" ∷ []))) ≡ None
check_without_cases = refl

pub proved_cart : command_of (codes "prove" ∷ (codes "game.toml" ∷ [])) ≡ Some (Prove (codes "game.toml") false)
proved_cart = refl

pub cases_before : command_of (codes "prove" ∷ (codes "--cases" ∷ (codes "game.toml" ∷ []))) ≡ Some (Prove (codes "game.toml") true)
cases_before = refl

pub cases_behind : command_of (codes "prove" ∷ (codes "game.toml" ∷ (codes "--cases" ∷ []))) ≡ Some (Prove (codes "game.toml") true)
cases_behind = refl

pub cases_twice : command_of (codes "prove" ∷ (codes "--cases" ∷ (codes "a" ∷ (codes "--cases" ∷ [])))) ≡ None
cases_twice = refl

pub prove_without_cert : command_of (codes "prove" ∷ (codes "--cert" ∷ (codes "a" ∷ []))) ≡ None
prove_without_cert = refl

pub confirmed_cart : command_of (codes "confirm" ∷ (codes "game.toml" ∷ (codes "game.cases" ∷ []))) ≡ Some (Confirm (codes "game.toml") (codes "game.cases"))
confirmed_cart = refl

pub confirm_without_cases : command_of (codes "confirm" ∷ (codes "game.toml" ∷ [])) ≡ None
confirm_without_cases = refl

pub migrated_cart : command_of (codes "migrate" ∷ (codes "game.toml" ∷ [])) ≡ Some (Migrate (codes "game.toml"))
migrated_cart = refl

pub migrate_without_flags : command_of (codes "migrate" ∷ (codes "a" ∷ (codes "--cert" ∷ []))) ≡ None
migrate_without_flags = refl

pub first_dashes_part : command_of (codes "asm" ∷ (codes "--" ∷ (codes "--" ∷ []))) ≡ Some (Asm (codes "--"))
first_dashes_part = refl

pub dashes_last : command_of (codes "dis" ∷ (codes "a" ∷ (codes "--" ∷ []))) ≡ Some (Dis (codes "a"))
dashes_last = refl

pub one_too_few : command_of (codes "play" ∷ (codes "a" ∷ [])) ≡ None
one_too_few = refl

pub one_too_many : command_of (codes "asm" ∷ (codes "a" ∷ (codes "b" ∷ []))) ≡ None
one_too_many = refl

pub help_refused : command_of (codes "dis" ∷ (codes "--help" ∷ [])) ≡ None
help_refused = refl

pub leading_zeros : command_of (codes "gen" ∷ (codes "0000000001" ∷ [])) ≡ Some (Gen 1)
leading_zeros = refl

pub largest_seed : command_of (codes "gen" ∷ (codes "4294967295" ∷ [])) ≡ Some (Gen 4294967295)
largest_seed = refl

pub seed_too_large : command_of (codes "gen" ∷ (codes "4294967296" ∷ [])) ≡ None
seed_too_large = refl

pub eleven_digits : command_of (codes "gen" ∷ (codes "00000000001" ∷ [])) ≡ None
eleven_digits = refl

pub signed_seed : command_of (codes "gen" ∷ (codes "+1" ∷ [])) ≡ None
signed_seed = refl

pub empty_seed : command_of (codes "gen" ∷ (codes "" ∷ [])) ≡ None
empty_seed = refl

pub no_words : command_of [] ≡ None
no_words = refl

pub dashes_first : command_of (codes "--" ∷ (codes "asm" ∷ (codes "a" ∷ []))) ≡ None
dashes_first = refl

pub unknown_command : command_of (codes "help" ∷ []) ≡ None
unknown_command = refl
