-- What each command wants of its files. A file is read before the next one is asked for.
use Rattle.std.specs.Prelude.{ℕ, zero, suc, List, [], ◌∷◌, ◌++◌, length, map, slice_get, Option, Some, None}
use Rattle.abs_domain.specs.AbstractState.{AbstractState}
use Rattle.abs_domain.specs.declared.points.Point.{Point}
use Rattle.chip_face.specs.declared.sizes.TheConstants.{MOST_CHIPS}
use Rattle.cartridge.specs.Carts.{specification_of}
use Rattle.cartridge.specs.ChipTables.{DescribedSource}
use Rattle.cartridge.specs.Filling.{Planned, source_at, filled_plan}
use Rattle.cart_data.specs.declared.cart.Cart.{Cart}
use Rattle.case_step.specs.Entries.{EntryView}
use Rattle.toml.specs.Data.{Members}
use Rattle.f8_asm.specs.declared.answers.Room.{Room}
use Rattle.f8_asm.specs.Image.{Picture, everywhere}
use Rattle.console_spec.specs.Scripts.{Script as RunScript}
use Rattle.f8_link.specs.Objects.{Object}
use Rattle.f8_link.specs.Plans.{PlannedModule}
use Rattle.f8_link.specs.declared.parts.Part.{Part}
use Rattle.bus_audit.specs.Answers.{Trace}
use Rattle.loader.specs.declared.purposes.Purpose.TheVariants.{Cart as CartFile, Script, Cert, Cases, Commands, Trace as TraceFile, File}
use Rattle.loader.specs.declared.purposes.Purpose.TheVariants.{Source, Plan, Module}
use Rattle.chip_debug.specs.declared.command.Command.{Command}
use Rattle.loader.specs.declared.games.Debugging.{Debugging}
use Rattle.loader.specs.Readings.{description_of, described_table, image_in, script_in, notes_in, list_in, commands_in, trace_in, bytes_in}
use Rattle.loader.specs.Readings.{modules_in, object_in, linked_in}
use Rattle.loader.specs.Work.{Work, gives, reads, ask, ◌>>=◌}

-- ---- a cartridge

-- the image of a chip's source, by its name, which may have the addresses of a room
unfoldable pub image_for : ℕ → List ℕ → Room → Work Picture
image_for chip name room =
    ask (Source chip) name 262144 >>= λ text. reads (image_in (Some chip) room text)

-- the image of its source is put into the chip with this number
abbrev pub filled_from : ℕ → Planned → Option DescribedSource → Work Planned
filled_from chip plan None = gives plan
filled_from chip plan (Some source) =
    image_for chip source.name source.room >>= λ picture. gives (filled_plan plan chip picture.bytes)

unfoldable pub filled_at : ℕ → Planned → Work Planned
filled_at chip plan = filled_from chip plan (source_at plan chip)

-- the same for so many chips, one after another
unfoldable pub filled_up_to : ℕ → Planned → Work Planned
filled_up_to zero plan = gives plan
filled_up_to (suc chip) plan = filled_up_to chip plan >>= filled_at chip

-- the cartridge of a plan, all of whose sources have their images
abbrev pub finished : Planned → Cart
finished plan = record { split = plan.split; chips = map specification_of plan.chips; powers = plan.powers }

-- the cartridge of a plan of at most `MOST_CHIPS` chips, with the images of its sources
unfoldable pub planned_cart : Planned → Work Cart
planned_cart plan = filled_up_to MOST_CHIPS plan >>= λ filled. gives (finished filled)

-- the cartridge of the description with this name
unfoldable pub cart_of : List ℕ → Work Cart
cart_of name = ask CartFile name 65536 >>= λ bytes. reads (description_of bytes) >>= planned_cart

-- the table of the description with this name, without its sources
unfoldable pub table_by : List ℕ → Work Members
table_by name = ask CartFile name 65536 >>= λ bytes. reads (described_table bytes)

-- ---- a run

-- the script with this name
unfoldable pub script_by : List ℕ → Work RunScript
script_by script = ask Script script 65536 >>= λ text. reads (script_in text)

-- the cartridge, and what the run is given
pub record Game : Type 0 where
  pub script : RunScript
  pub cart : Cart

unfoldable pub game_of : List ℕ → List ℕ → Work Game
game_of cart script =
    cart_of cart >>= λ cartridge. script_by script >>= λ run. gives (record { script = run; cart = cartridge })

-- ---- what a certificate claims

-- the invariant map of the certificate with this name, where some registers are tracked
unfoldable pub notes_by : List ℕ → List ℕ → Work (List (Point × AbstractState))
notes_by tracked cert = ask Cert cert 16777216 >>= λ text. reads (notes_in tracked text)

-- the cartridge, and what is claimed of it
pub record Claim : Type 0 where
  pub cart : Cart
  pub notes : List (Point × AbstractState)

unfoldable pub claim_of : List ℕ → List ℕ → Work Claim
claim_of cart cert =
    cart_of cart >>= λ cartridge. notes_by cartridge.split cert >>= λ notes. gives (record { cart = cartridge; notes = notes })

-- ---- a list of entries

-- the list of entries with this name
unfoldable pub list_by : List ℕ → Work (List EntryView)
list_by name = ask Cases name 67108864 >>= λ text. reads (list_in text)

-- the cartridge, and a list of entries of it
pub record Confirming : Type 0 where
  pub cart : Cart
  pub list : List EntryView

unfoldable pub confirming_of : List ℕ → List ℕ → Work Confirming
confirming_of cart cases =
    cart_of cart >>= λ cartridge. list_by cases >>= λ list. gives (record { cart = cartridge; list = list })

-- ---- a session of the debugger

-- the commands with this name
unfoldable pub commands_by : List ℕ → Work (List Command)
commands_by name = ask Commands name 65536 >>= λ text. reads (commands_in text)

-- the cartridge, and then the commands
unfoldable pub debugging_of : List ℕ → List ℕ → Work Debugging
debugging_of cart commands =
    cart_of cart >>= λ cartridge. commands_by commands >>= λ said. gives (record { cart = cartridge; commands = said })

-- ---- an audit

-- the trace with this name
unfoldable pub trace_by : List ℕ → Work Trace
trace_by name = ask TraceFile name 16777216 >>= λ text. reads (trace_in text)

-- what the trace is to come from, and the trace
pub record Auditing : Type 0 where
  pub game : Game
  pub trace : Trace

unfoldable pub auditing_of : List ℕ → List ℕ → List ℕ → Work Auditing
auditing_of cart script trace =
    game_of cart script >>= λ game. trace_by trace >>= λ told. gives (record { game = game; trace = told })

-- ---- one file

-- the image of an assembly file, which may have all addresses
unfoldable pub image_by : List ℕ → Work Picture
image_by file = ask File file 262144 >>= λ text. reads (image_in None everywhere text)

-- the bytes of a file of digits
unfoldable pub bytes_by : List ℕ → Work (List ℕ)
bytes_by file = ask File file 262144 >>= λ text. reads (bytes_in text)

-- ---- modules

-- the object of a module's text, by its name
unfoldable pub module_for : ℕ → List ℕ → Work Object
module_for number name = ask (Module number) name 262144 >>= λ text. reads (object_in number text)

-- a module in its room, behind those before it
unfoldable pub part_added : ℕ → List Part → PlannedModule → Work (List Part)
part_added number parts m =
    module_for number m.file >>= λ object. gives (parts ++ (record { object = object; room = m.room }) ∷ [])

abbrev pub part_at : ℕ → List Part → Option PlannedModule → Work (List Part)
part_at number parts None = gives parts
part_at number parts (Some m) = part_added number parts m

-- so many modules of a plan, one after another
unfoldable pub parts_up_to : ℕ → List PlannedModule → Work (List Part)
parts_up_to zero modules = gives []
parts_up_to (suc number) modules = parts_up_to number modules >>= λ parts. part_at number parts (slice_get modules number)

-- all modules of a plan
unfoldable pub parts_of : List PlannedModule → Work (List Part)
parts_of modules = parts_up_to (length modules) modules

-- the picture of the modules that the plan with this name has
unfoldable pub linked_by : List ℕ → Work Picture
linked_by plan =
    ask Plan plan 65536 >>= λ text. reads (modules_in text) >>= λ modules. parts_of modules >>= λ parts. reads (linked_in parts)
