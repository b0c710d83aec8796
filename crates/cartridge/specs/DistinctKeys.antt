-- No key stands twice in a table: it is a map.
use Rattle.std.specs.Prelude.{Bool, true, ◌&&◌, not, Option, Some, None, is_some}
use Rattle.toml.specs.Data.{Data, array, table, Items, no_items, item, Members, no_members, member, get_member}

abbrev pub are_distinct : Members → Bool
are_distinct no_members = true
are_distinct (member name value rest) = not (is_some (get_member name rest)) && are_distinct rest

-- nor in a table among the entries of a list
abbrev pub entry_is_distinct : Data → Bool
entry_is_distinct (table members) = are_distinct members
entry_is_distinct _ = true

abbrev pub entries_are_distinct : Items → Bool
entries_are_distinct no_items = true
entries_are_distinct (item d ds) = entry_is_distinct d && entries_are_distinct ds

abbrev pub list_is_distinct : Data → Bool
list_is_distinct (array entries) = entries_are_distinct entries
list_is_distinct _ = true

-- nor in a table of the list of chips, where there is one
abbrev pub chips_are_distinct : Option Data → Bool
chips_are_distinct None = true
chips_are_distinct (Some chips) = list_is_distinct chips
