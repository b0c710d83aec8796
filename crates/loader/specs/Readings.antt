-- What is read of the bytes of a file, or why it is refused.
use Rattle.std.specs.Prelude.{◌≡◌, ℕ, if◌then◌else◌, List, Option, Some, None, Result, Ok, Err}
use Rattle.std.specs.Str.{is_utf8}
use Rattle.toml.specs.Data.{Members}
use Rattle.toml.specs.Parse.{parse_document}
use Rattle.abs_domain.specs.AbstractState.{AbstractState}
use Rattle.abs_domain.specs.declared.points.Point.{Point}
use Rattle.certificate.specs.CertificateText.{certificate_of}
use Rattle.certificate.specs.declared.answers.CertFault.{CertFault}
use Rattle.case_step.specs.Entries.{EntryView}
use Rattle.case_text.specs.CasesText.{cases_of}
use Rattle.case_text.specs.declared.cause.CasesFault.{CasesFault}
use Rattle.cartridge.specs.declared.refusal.CartFault.{CartFault}
use Rattle.cartridge.specs.Filling.{Planned, plan_of}
use Rattle.chip_debug.specs.Reading.{commands_of}
use Rattle.chip_debug.specs.Answers.{DebugFault}
use Rattle.chip_debug.specs.declared.command.Command.{Command}
use Rattle.f8_asm.specs.declared.answers.AsmFault.{AsmFault}
use Rattle.f8_asm.specs.declared.answers.Room.{Room}
use Rattle.f8_asm.specs.Image.{Picture, image_of}
use Rattle.f8_link.specs.Linking.{linked_of}
use Rattle.f8_link.specs.Objects.{Object}
use Rattle.f8_link.specs.Plans.{PlanFault, PlannedModule, plan_of as plan_of_modules}
use Rattle.f8_link.specs.ThirdPass.{compiled}
use Rattle.f8_link.specs.declared.answers.LinkFault.{LinkFault}
use Rattle.f8_link.specs.declared.answers.ModFault.{ModFault}
use Rattle.f8_link.specs.declared.parts.Part.{Part}
use Rattle.pad_script.specs.Answers.{ScriptFault}
use Rattle.console_spec.specs.Scripts.{Script}
use Rattle.pad_script.specs.Reading.{script_of}
use Rattle.bus_audit.specs.Answers.{Trace}
use Rattle.bus_audit.specs.TraceText.{trace_of}
use Rattle.bus_audit.specs.declared.read.TraceFault.{TraceFault}
use Rattle.hex_file.specs.DigitText.{HexFault, bytes_of_text}
use Rattle.hex_file.specs.DigitText as hex
use Rattle.loader.specs.declared.purposes.Purpose.TheVariants.{File}
use Rattle.loader.specs.declared.refusals.Refusal.{Refusal}
use Rattle.loader.specs.declared.refusals.Stop.{Stop}
use Rattle.loader.specs.declared.refusals.Stop.TheVariants.{Refused, Store, Memory}
use Rattle.loader.specs.declared.refusals.Refusal.TheVariants.{Document, Cart, Assembly, Script as AtScript, Cert as AtCert}
use Rattle.loader.specs.declared.refusals.Refusal.TheVariants.{Cases as AtCases, Commands as AtCommands, Trace as AtTrace}
use Rattle.loader.specs.declared.refusals.Refusal.TheVariants.{Plan as AtPlan, Module as AtModule, Link as AtLink}
use Rattle.loader.specs.declared.refusals.Refusal.TheVariants.{Digits, Long}

-- an answer, as it is seen, is what is read of bytes; want of memory says nothing of them
abbrev pub Says : {A B : Type 0} → (A → B) → Result A Stop → Result B Refusal → Type 0
Says seen (Ok x) read = read ≡ Ok (seen x)
Says seen (Err (Refused refusal)) read = read ≡ Err refusal
Says seen (Err (Store purpose)) read = ⊥
Says seen (Err Memory) read = Unit {0}

-- what follows where something was read
infixl 1 ◌&>=◌
abbrev pub ◌&>=◌ : {A B : Type 0} → Result A Refusal → (A → Result B Refusal) → Result B Refusal
Ok x &>= f = f x
Err refusal &>= f = Err refusal

-- ---- descriptions

abbrev pub table_told : Option Members → Result Members Refusal
table_told None = Err Document
table_told (Some table) = Ok table

-- the table of a TOML document, which is UTF-8
unfoldable pub table_of : List ℕ → Result Members Refusal
table_of bytes = if is_utf8 bytes then table_told (parse_document bytes) else Err Document

abbrev pub plan_told : Result Planned CartFault → Result Planned Refusal
plan_told (Ok plan) = Ok plan
plan_told (Err fault) = Err (Cart fault)

-- the plan of a description
unfoldable pub description_of : List ℕ → Result Planned Refusal
description_of bytes = table_of bytes &>= λ table. plan_told (plan_of table)

-- the table of a description, which is refused as its plan is
unfoldable pub described_table : List ℕ → Result Members Refusal
described_table bytes = table_of bytes &>= λ table. plan_told (plan_of table) &>= λ plan. Ok table

-- ---- assembly texts

abbrev pub image_told : Option ℕ → Result Picture AsmFault → Result Picture Refusal
image_told source (Ok picture) = Ok picture
image_told source (Err fault) = Err (Assembly source fault)

-- the image of an assembly text: that of a chip, or the one file of a command
unfoldable pub image_in : Option ℕ → Room → List ℕ → Result Picture Refusal
image_in source room text = image_told source (image_of text room)

-- ---- modules

abbrev pub modules_told : Result (List PlannedModule) PlanFault → Result (List PlannedModule) Refusal
modules_told (Ok modules) = Ok modules
modules_told (Err fault) = Err (AtPlan fault)

-- the modules of a plan
unfoldable pub modules_in : List ℕ → Result (List PlannedModule) Refusal
modules_in text = modules_told (plan_of_modules text)

abbrev pub object_told : ℕ → Result Object ModFault → Result Object Refusal
object_told number (Ok object) = Ok object
object_told number (Err fault) = Err (AtModule number fault)

-- the object of a module's text
unfoldable pub object_in : ℕ → List ℕ → Result Object Refusal
object_in number text = object_told number (compiled text)

abbrev pub linked_told : Result Picture LinkFault → Result Picture Refusal
linked_told (Ok picture) = Ok picture
linked_told (Err fault) = Err (AtLink fault)

-- the picture of some modules
unfoldable pub linked_in : List Part → Result Picture Refusal
linked_in parts = linked_told (linked_of parts)

-- ---- scripts

abbrev pub script_told : Result Script ScriptFault → Result Script Refusal
script_told (Ok script) = Ok script
script_told (Err fault) = Err (AtScript fault)

-- the script of a text
unfoldable pub script_in : List ℕ → Result Script Refusal
script_in text = script_told (script_of text)

-- ---- certificates

abbrev pub notes_told : Result (List (Point × AbstractState)) CertFault → Result (List (Point × AbstractState)) Refusal
notes_told (Ok notes) = Ok notes
notes_told (Err fault) = Err (AtCert fault)

-- the invariant map of a text, where some registers are tracked
unfoldable pub notes_in : List ℕ → List ℕ → Result (List (Point × AbstractState)) Refusal
notes_in tracked text = notes_told (certificate_of tracked text)

-- ---- lists of entries

abbrev pub list_told : Result (List EntryView) CasesFault → Result (List EntryView) Refusal
list_told (Ok list) = Ok list
list_told (Err fault) = Err (AtCases fault)

-- the list of entries of a text
unfoldable pub list_in : List ℕ → Result (List EntryView) Refusal
list_in text = list_told (cases_of text)

-- ---- the debugger's commands

abbrev pub commands_told : Result (List Command) DebugFault → Result (List Command) Refusal
commands_told (Ok commands) = Ok commands
commands_told (Err fault) = Err (AtCommands fault)

-- the commands of a text
unfoldable pub commands_in : List ℕ → Result (List Command) Refusal
commands_in text = commands_told (commands_of text)

-- ---- traces

abbrev pub trace_told : Result Trace TraceFault → Result Trace Refusal
trace_told (Ok trace) = Ok trace
trace_told (Err fault) = Err (AtTrace fault)

-- the trace of a text
unfoldable pub trace_in : List ℕ → Result Trace Refusal
trace_in text = trace_told (trace_of text)

-- ---- digits

abbrev pub bytes_told : Result (List ℕ) HexFault → Result (List ℕ) Refusal
bytes_told (Ok bytes) = Ok bytes
bytes_told (Err hex.Digits) = Err Digits
bytes_told (Err hex.Long) = Err (Long File)

-- the bytes of a file of digits
unfoldable pub bytes_in : List ℕ → Result (List ℕ) Refusal
bytes_in text = bytes_told (bytes_of_text text)
