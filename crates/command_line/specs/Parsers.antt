-- The simple commands that read the words behind each command, as clap's definitions see them.
use Rattle.std.specs.Prelude.{Bool, true, Some, ◌&&◌, not, bytes_eq, codes}
use Rattle.clap.specs.Lexer.{has_byte}
use Rattle.clap.specs.Walk.{Rule, Text, is_empty}
use Rattle.clap.specs.Simple.{App, new_app, new_rule, on_top}
use Rattle.clap.specs.declared.builder.action.ArgAction.TheVariants.{Set, SetTrue}

-- a positional that has to be there, once
abbrev pub wanted_word : Text → Rule
wanted_word id = record (new_rule id) { action = Some Set; required = true }

-- a flag by its name, which takes no value
abbrev pub flag : Text → Rule
flag name = record (new_rule name) { long = Some name; action = Some SetTrue }

-- a name that a flag beside the word called `cart` can have: it isn't empty, has no `=` (61), and isn't `cart`
abbrev pub is_flag_name : Text → Bool
is_flag_name name = not (is_empty name) && (not (has_byte 61 name) && not (bytes_eq name (codes "cart")))

-- a command without help and version
abbrev pub bare_command : Text → App
bare_command name = on_top (λ s. record s { disable_help_flag = true; disable_version_flag = true }) (new_app name)
