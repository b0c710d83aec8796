-- The `error` lines of files: what is wrong with one, and that one was not had.
use Rattle.std.specs.Prelude.{ℕ, List, codes, Option, Some, None}
use Rattle.cartridge.specs.Faults.{cause_number as cart_cause}
use Rattle.cartridge.specs.Keys.{key_word}
use Rattle.case_text.specs.CasesText.{cause_number as cases_cause}
use Rattle.certificate.specs.Answers.{cause_number as cert_cause}
use Rattle.f8_asm.specs.Answers.{cause_number as asm_cause}
use Rattle.f8_link.specs.Answers.{module_cause_number, link_cause_number}
use Rattle.f8_link.specs.Plans.{cause_number as plan_cause}
use Rattle.pad_script.specs.Answers.{cause_number as script_cause}
use Rattle.chip_debug.specs.Answers.{cause_number as debug_cause}
use Rattle.report.specs.declared.error_lines.Reader.TheVariants as reader
use Rattle.report.specs.ErrorLines.{toml_line, cart_line, asm_line, module_line, link_line, reader_line, hex_line, long_line, store_line}
use Rattle.channel_f.specs.AuditLines.{trace_line}
use Rattle.channel_f.specs.CaseLines.{cases_line}
use Rattle.loader.specs.declared.purposes.Purpose.{Purpose}
use Rattle.loader.specs.declared.purposes.Purpose.TheVariants as purpose
use Rattle.loader.specs.declared.refusals.Refusal.{Refusal}
use Rattle.loader.specs.declared.refusals.Refusal.TheVariants as refusal

-- what a file is for, as a word and, for a chip's source and for a module, a number behind it
abbrev pub purpose_word : Purpose → List ℕ
purpose_word purpose.Cart = codes "cart"
purpose_word purpose.Script = codes "script"
purpose_word purpose.Cert = codes "cert"
purpose_word purpose.Cases = codes "cases"
purpose_word purpose.Commands = codes "commands"
purpose_word purpose.Trace = codes "trace"
purpose_word purpose.File = codes "file"
purpose_word (purpose.Source chip) = codes "source"
purpose_word purpose.Plan = codes "plan"
purpose_word (purpose.Module number) = codes "module"

abbrev pub purpose_number : Purpose → Option ℕ
purpose_number purpose.Cart = None
purpose_number purpose.Script = None
purpose_number purpose.Cert = None
purpose_number purpose.Cases = None
purpose_number purpose.Commands = None
purpose_number purpose.Trace = None
purpose_number purpose.File = None
purpose_number (purpose.Source chip) = Some chip
purpose_number purpose.Plan = None
purpose_number (purpose.Module number) = Some number

abbrev pub refusal_line : Refusal → List ℕ
refusal_line refusal.Document = toml_line
refusal_line (refusal.Cart fault) = cart_line fault.chip (key_word fault.key) (cart_cause fault.cause)
refusal_line (refusal.Assembly source fault) = asm_line source fault.line fault.column (asm_cause fault.cause)
refusal_line (refusal.Script fault) = reader_line reader.Script fault.line (script_cause fault.cause)
refusal_line (refusal.Cert fault) = reader_line reader.Cert fault.line (cert_cause fault.cause)
refusal_line (refusal.Cases fault) = cases_line fault.line (cases_cause fault.cause)
refusal_line (refusal.Commands fault) = reader_line reader.Debug fault.line (debug_cause fault.cause)
refusal_line (refusal.Trace fault) = trace_line fault.line
refusal_line (refusal.Plan fault) = reader_line reader.Plan fault.line (plan_cause fault.cause)
refusal_line (refusal.Module number fault) = module_line number fault.line fault.column (module_cause_number fault.cause)
refusal_line (refusal.Link fault) = link_line fault.«module» (link_cause_number fault.cause)
refusal_line refusal.Digits = hex_line
refusal_line (refusal.Long p) = long_line (purpose_word p) (purpose_number p)

-- the store did not give the file
abbrev pub missing_line : Purpose → List ℕ
missing_line p = store_line (purpose_word p) (purpose_number p)
