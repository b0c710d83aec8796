-- The bytes that a map tells, and the law of the analysis of a cartridge.
use Rattle.std.proofs.Common.{◌≡◌, ℕ, ◌<◌, arith}
use Rattle.std.specs.Prelude.{Some}
use Rattle.console_spec.specs.FlatMemory.{fixed_byte_by}
use Rattle.console_spec.specs.FreeRuns.{AreBytes}
use Rattle.console_spec.specs.declared.Sort.{Sort}
use Rattle.console_spec.specs.declared.Sort.TheVariants.{Rom, Ram, Void, Nothing, Shared}
use Rattle.memory_map.specs.MapOf.{MapTable, mapped_byte, sort_by, entry_at}
use Rattle.abs_step.specs.CartridgeAnalysis.{TellsBytes, AnalysisLaw}
use Rattle.abs_step.specs.MapView.{view_of}
use Rattle.abs_step.proofs.CartridgeLaws.{cartridge_laws}

byte_is : (sort : Sort) (at byte : ℕ) → at < 256 → fixed_byte_by sort (Some at) ≡ Some byte → byte < 256
byte_is Rom at byte small e = let same : at ≡ byte = cc in omega arith
byte_is Ram at byte small e = absurd (cc)
byte_is Void at byte small e = let same : at ≡ byte = cc in omega arith
byte_is Nothing at byte small e = absurd (cc)
byte_is Shared at byte small e = absurd (cc)

map_tells : (m : MapTable) → AreBytes m.bytes → TellsBytes (view_of m)
unfolding mapped_byte
map_tells m bytes at byte e = byte_is (sort_by (entry_at m at)) _ byte (bytes at) e

pub analysis_law : AnalysisLaw
analysis_law = record { laws = cartridge_laws; bytes = map_tells }
