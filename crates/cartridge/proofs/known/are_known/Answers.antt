use Rattle.std.proofs.Common.{◌≡◌, Bool, List, [], ◌∷◌, ◌&&◌, Global, String, string_bytes, ap, refl, ◌∙◌, rules, tests}
use Rattle.std.specs.List.{list_all}
use Rattle.std.specs.Map.{keys_of}
use Rattle.std.proofs.lemmas.Iterator.Consumers.{YieldsList-from_rest}
use Rattle.std.proofs.lemmas.Iterator.Search.{all_from_yields_List}
use Rattle.toml.specs.View.{members_view}
use Rattle.toml.specs.declared.value.Value.{Value}
use Rattle.cartridge.specs.declared.keys.Key.{Key}
use Rattle.cartridge.specs.Keys.{is_spelled, are_known}
use Rattle.cartridge.proofs.known.are_known.Goals as goal

over-keys : (keys : List Key) (entries : List (String Global × Value))
    → list_all (λ name. is_spelled keys (string_bytes name)) (keys_of entries) ≡ are_known keys (members_view entries)
over-keys keys [] = refl
over-keys keys (e ∷ entries) = ap (λ (rest : Bool). is_spelled keys (string_bytes e.0) && rest) (over-keys keys entries)

pub returns : goal.returns
returns c =
    all_from_yields_List (λ name. is_spelled c.args.keys.now (string_bytes name)) _ _ _ c.all.ensures.ran
    (YieldsList-from_rest (keys_of c.args.table.now.entries) cc) (λ x b q k. search (rules, tests))
    ∙ over-keys c.args.keys.now c.args.table.now.entries
