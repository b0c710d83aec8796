-- Linking: the names that modules share, the room of each, and the bytes that linking puts.
use Rattle.std.specs.Prelude.{ℕ, ℤ, pos, negsuc, ◌≤◌, ◌+◌, ◌-ℤ◌, int_le, Bool, ◌&&◌, List, [], ◌∷◌, ◌++◌, length, slice_get, slice_set}
use Rattle.std.specs.Prelude.{Option, Some, None, is_some, option_map, Result, Ok, Err, if◌then◌else◌}
use Rattle.std.specs.List.{list_all}
use Rattle.f8_asm.specs.Answers.{◌>>=◌}
use Rattle.f8_asm.specs.Bytes.{word_bytes}
use Rattle.f8_asm.specs.Fields.{small, octet}
use Rattle.f8_asm.specs.Image.{Picture, ascending}
use Rattle.f8_asm.specs.Marks.{no_marks, marks_with, is_free}
use Rattle.f8_asm.specs.Names.{value_of, with_name}
use Rattle.f8_asm.specs.PassThree.{no_bytes, table_with}
use Rattle.f8_asm.specs.PassTwo.{is_inside}
use Rattle.f8_asm.specs.Steps.{steps}
use Rattle.f8_asm.specs.Values.{operator_value, prefix_value}
use Rattle.f8_asm.specs.declared.values.Operator.TheVariants.{Plus}
use Rattle.f8_asm.specs.declared.values.Outcome.{Outcome}
use Rattle.f8_asm.specs.declared.values.Outcome.TheVariants.{Value, OutOfRange, Undefined}
use Rattle.f8_asm.specs.declared.values.Prefix.TheVariants.{LowByte, HighByte}
use Rattle.f8_link.specs.declared.answers.LinkCause.{LinkCause}
use Rattle.f8_link.specs.declared.answers.LinkCause.TheVariants.{Twice, Missing, Outside, Overlap, Reach}
use Rattle.f8_link.specs.declared.answers.LinkFault.{LinkFault}
use Rattle.f8_link.specs.declared.fixes.Filling.{Filling}
use Rattle.f8_link.specs.declared.fixes.Filling.TheVariants as fix
use Rattle.f8_link.specs.declared.objects.Fixup.{Fixup}
use Rattle.f8_link.specs.declared.objects.FixupKind.{FixupKind}
use Rattle.f8_link.specs.declared.objects.FixupKind.TheVariants as kind
use Rattle.f8_link.specs.declared.parts.Part.{Part}
use Rattle.f8_link.specs.declared.values.Base.{Base}
use Rattle.f8_link.specs.declared.values.Base.TheVariants.{Module, Import}
use Rattle.f8_link.specs.declared.values.Named.{Named}
use Rattle.f8_link.specs.declared.values.Named.TheVariants as named
use Rattle.text_lines.specs.declared.read_error.ReadError.{ReadError}
use Rattle.text_lines.specs.declared.read_error.ReadError.TheVariants as stop

-- ---- one module after the other, with its number

abbrev pub at_module : {A : Type 0} → ℕ → Result A LinkCause → Result A LinkFault
at_module number (Ok x) = Ok x
at_module number (Err cause) = Err (record { «module» = number; cause = cause })

unfoldable pub each_part : {S : Type 0} → (ℕ → S → Part → Result S LinkCause) → ℕ → S → List Part → Result S LinkFault
each_part step number s [] = Ok s
each_part step number s (p ∷ ps) = at_module number (step number s p) >>= λ t. each_part step (number + 1) t ps

-- ---- names

-- the value of a module's name, where the module begins at this address
abbrev pub named_value : ℕ → Named → ℤ
named_value first (named.Constant v) = v
named_value first (named.Offset offset) = pos (first + offset)

-- a name may be exported once in all
abbrev pub export_given : ℕ → List (List ℕ × ℤ) → (List ℕ × Named) → Result (List (List ℕ × ℤ)) LinkCause
export_given first names e = if is_some (value_of names e.0) then Err Twice else Ok (with_name names e.0 (named_value first e.1))

unfoldable pub exports_given : List (List ℕ × ℤ) → Part → Result (List (List ℕ × ℤ)) LinkCause
exports_given names p = steps (export_given p.room.first) names p.object.exports

-- the value of an import
abbrev pub import_found : List ℤ → Option ℤ → Result (List ℤ) LinkCause
import_found values (Some v) = Ok (values ++ v ∷ [])
import_found values None = Err Missing

abbrev pub import_given : List (List ℕ × ℤ) → List ℤ → List ℕ → Result (List ℤ) LinkCause
import_given names values name = import_found values (value_of names name)

-- the values of a module's imports in their order
unfoldable pub imports_given : List (List ℕ × ℤ) → Part → Result (List ℤ) LinkCause
imports_given names p = steps (import_given names) [] p.object.imports

-- and behind those of the modules before it
abbrev pub imports_added : List (List ℕ × ℤ) → List (List ℤ) → Part → Result (List (List ℤ)) LinkCause
imports_added names all p = imports_given names p >>= λ values. Ok (all ++ values ∷ [])

-- ---- rooms

abbrev pub size_of : Part → ℕ
size_of p = length p.object.bytes

-- a room's addresses are below 65,536, as their type tells
abbrev pub IsLow : Part → Type 0
IsLow p = (p.room.first ≤ 65535) × (p.room.last ≤ 65535)

-- the module's bytes lie in its room
unfoldable pub inside : Unit {0} → Part → Result (Unit {0}) LinkCause
inside u p = if is_inside p.room p.room.first (size_of p) then Ok u else Err Outside

-- they lie where no earlier module's do
unfoldable pub marked : List Bool → Part → Result (List Bool) LinkCause
marked marks p =
    if is_free marks p.room.first (size_of p) then Ok (marks_with marks p.room.first (size_of p)) else Err Overlap

-- ---- what linking puts

-- the value of a base: none is 0, the module is where it begins, and an import is what it was found to be
abbrev pub or_zero : Option ℤ → ℤ
or_zero (Some v) = v
or_zero None = pos 0

abbrev pub base_value : ℕ → List ℤ → Option Base → ℤ
base_value first values None = pos 0
base_value first values (Some Module) = pos first
base_value first values (Some (Import i)) = or_zero (slice_get values i)

-- the one byte of a half
abbrev pub half_byte : Outcome → Option (List ℕ)
half_byte (Value (pos b)) = Some (b ∷ [])
half_byte (Value (negsuc b)) = None
half_byte OutOfRange = None
half_byte (Undefined column) = None

abbrev pub one_byte : ℕ → List ℕ
one_byte b = b ∷ []

-- the bytes of a value that fits its place, at an address
abbrev pub fixed_value : FixupKind → ℕ → ℤ → Option (List ℕ)
fixed_value kind.Word address v = option_map word_bytes (small 65535 v)
fixed_value kind.Byte address v = option_map one_byte (octet 255 v)
fixed_value kind.Low address v = half_byte (prefix_value LowByte v)
fixed_value kind.High address v = half_byte (prefix_value HighByte v)
fixed_value kind.Branch address v = option_map one_byte (octet 127 (v -ℤ pos address))

abbrev pub fixed : FixupKind → ℕ → Outcome → Option (List ℕ)
fixed what address (Value v) = fixed_value what address v
fixed what address OutOfRange = None
fixed what address (Undefined column) = None

-- what is put, as bytes
abbrev pub bytes_of_filling : Filling → List ℕ
bytes_of_filling (fix.Byte b) = b ∷ []
bytes_of_filling (fix.Word w) = word_bytes w

abbrev pub fixed_bytes : Option Filling → Option (List ℕ)
fixed_bytes what = option_map bytes_of_filling what

-- bytes put in place of others
abbrev pub put : List ℕ → ℕ → List ℕ → List ℕ
put bytes offset [] = bytes
put bytes offset (b ∷ bs) = put (slice_set bytes offset b) (offset + 1) bs

abbrev pub written : List ℕ → ℕ → Option (List ℕ) → Result (List ℕ) LinkCause
written bytes offset (Some bs) = Ok (put bytes offset bs)
written bytes offset None = Err Reach

-- one thing that linking puts into the bytes of a module that begins at this address
unfoldable pub fixup_put : ℕ → List ℤ → List ℕ → Fixup → Result (List ℕ) LinkCause
fixup_put first values bytes f =
    written bytes f.offset (fixed f.kind (first + f.offset) (operator_value Plus (base_value first values f.base) f.k))

-- what is left behind a step that has gone so
abbrev pub caused : {S : Type 0} → Result (Unit {0}) LinkCause → S → Result S LinkCause
caused (Ok u) new = Ok new
caused (Err cause) new = Err cause

-- an import so far from 0 that no sum of the one source leaves the values that an expression may have
abbrev pub in_reach : ℤ → Bool
in_reach v = int_le (negsuc 2147418112) v && int_le v (pos 4294901760)

abbrev pub all_in_reach : List ℤ → Result (Unit {0}) LinkCause
all_in_reach values = if list_all in_reach values then Ok tt else Err Reach

-- a module's bytes as linking leaves them
abbrev pub bytes_fixed : List ℤ → Part → Result (List ℕ) LinkCause
bytes_fixed values p = all_in_reach values >>= λ _. steps (fixup_put p.room.first values) p.object.bytes p.object.fixups

abbrev pub values_of : Option (List ℤ) → List ℤ
values_of (Some values) = values
values_of None = []

unfoldable pub part_written : List ℤ → List (Option ℕ) → Part → Result (List (Option ℕ)) LinkCause
part_written values table p = bytes_fixed values p >>= λ bytes. Ok (table_with table p.room.first bytes)

-- ---- modules linked

abbrev pub all_exports : List Part → Result (List (List ℕ × ℤ)) LinkFault
all_exports parts = each_part (λ number. exports_given) 0 [] parts

abbrev pub all_imports : List (List ℕ × ℤ) → List Part → Result (List (List ℤ)) LinkFault
all_imports names parts = each_part (λ number. imports_added names) 0 [] parts

abbrev pub all_inside : List Part → Result (Unit {0}) LinkFault
all_inside parts = each_part (λ number. inside) 0 tt parts

abbrev pub all_marked : ℕ → List Part → Result (List Bool) LinkFault
all_marked size parts = each_part (λ number. marked) 0 (no_marks size) parts

abbrev pub all_written : ℕ → List (List ℤ) → List Part → Result (List (Option ℕ)) LinkFault
all_written size values parts = each_part (λ number. part_written (values_of (slice_get values number))) 0 (no_bytes size) parts

-- Each cause is tried over all modules before the next: exports, imports, rooms, overlaps, and what linking puts.
unfoldable pub linked_in : ℕ → List Part → Result Picture LinkFault
linked_in size parts =
    all_exports parts >>= λ names. all_imports names parts >>= λ values. all_inside parts >>= λ _. all_marked size parts
    >>= λ _. all_written size values parts >>= λ table. Ok (record { bytes = ascending 0 table; symbols = names })

-- among all addresses
unfoldable pub linked_of : List Part → Result Picture LinkFault
linked_of parts = linked_in 65536 parts

-- why modules aren't linked, where one of them isn't
abbrev pub stop_in : ℕ → ReadError LinkCause → ReadError LinkFault
stop_in number (stop.Fault cause) = stop.Fault (record { «module» = number; cause = cause })
stop_in number stop.Memory = stop.Memory
