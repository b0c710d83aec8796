-- What the program holds of a run, of a claim, of a cartridge with a list of entries, and of an audit.
use Rattle.loader.specs.declared.games.Game.{Game}
use Rattle.pad_script.specs.Reading.{seen}
use Rattle.loader.specs.declared.claims.Claim.{Claim}
use Rattle.loader.specs.declared.claims.Confirming.{Confirming}
use Rattle.loader.specs.declared.games.Auditing.{Auditing}
use Rattle.loader.specs.Games.{Game as AskedGame, Claim as AskedClaim, Confirming as AskedConfirming, Auditing as AskedAuditing}

abbrev pub seen_game : Game → AskedGame
seen_game game = record { script = seen game.script; cart = game.cart }

abbrev pub seen_claim : Claim → AskedClaim
seen_claim claim = record { cart = claim.cart; notes = claim.notes }

abbrev pub seen_confirming : Confirming → AskedConfirming
seen_confirming asked = record { cart = asked.cart; list = asked.list }

abbrev pub seen_auditing : Auditing → AskedAuditing
seen_auditing asked = record { game = seen_game asked.game; trace = asked.trace }
