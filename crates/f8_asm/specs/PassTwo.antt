-- The second pass: the address of each line, the values of names, and which addresses are filled.
use Rattle.std.specs.Prelude.{ℕ, ℤ, pos, ◌+◌, Bool, ◌||◌, ◌&&◌, ◌==◌, nat_le, List, [], ◌∷◌, ◌++◌, Option, Some, None, is_some, Result, Ok}
use Rattle.std.specs.Prelude.{Err, if◌then◌else◌}
use Rattle.asm_text.specs.declared.answers.Token.{Token}
use Rattle.f8_asm.specs.declared.answers.AsmCause.TheVariants as cause
use Rattle.f8_asm.specs.declared.answers.AsmFault.{AsmFault}
use Rattle.f8_asm.specs.declared.answers.Room.{Room}
use Rattle.f8_asm.specs.declared.faults.LineFault.{LineFault}
use Rattle.f8_asm.specs.declared.operands.Effect.{Effect}
use Rattle.f8_asm.specs.declared.operands.Effect.TheVariants.{Names, Moves, Fills}
use Rattle.f8_asm.specs.Answers.{◌>>=◌}
use Rattle.f8_asm.specs.Evaluation.{values}
use Rattle.f8_asm.specs.Grammar.{column_of}
use Rattle.f8_asm.specs.Judging.{operand_value, unsigned_value}
use Rattle.f8_asm.specs.Marks.{no_marks, marks_with, is_free}
use Rattle.f8_asm.specs.Names.{with_name}
use Rattle.f8_asm.specs.PassOne.{in_line}
use Rattle.f8_asm.specs.Statements.{statement, label_of, behind_label, effect_of}
use Rattle.f8_asm.specs.Steps.{steps}
use Rattle.f8_asm.specs.TokenLines.{Line, PlacedLine}

-- what is known after some lines: the next address, the names so far, the filled addresses, and the lines with
-- their addresses
pub record Layout (P : Type 0) : Type 0 where
  pub here : ℕ
  pub names : List (List ℕ × ℤ)
  pub filled : List Bool
  pub placed : List P

-- before the first line, among so many addresses
abbrev pub no_layout : {P : Type 0} → ℕ → Layout P
no_layout size = record { here = 0; names = []; filled = no_marks size; placed = [] }

-- all of so many bytes lie in the room
abbrev pub is_inside : Room → ℕ → ℕ → Bool
is_inside room here size = (size == 0) || (nat_le room.first here && nat_le (here + size) (room.last + 1))

-- a label's name has this value
abbrev pub with_label : {P : Type 0} → Option (List ℕ) → ℤ → Layout P → Layout P
with_label None v s = s
with_label (Some name) v s = record { here = s.here; names = with_name s.names name v; filled = s.filled; placed = s.placed }

abbrev pub moved_to : {P : Type 0} → ℕ → Layout P → Layout P
moved_to address s = record { here = address; names = s.names; filled = s.filled; placed = s.placed }

abbrev pub layout_filled : {P : Type 0} → ℕ → Layout P → Layout P
layout_filled size s = record { here = s.here + size; names = s.names; filled = marks_with s.filled s.here size; placed = s.placed }

-- bytes in the room, and on addresses that are free
abbrev pub fits : {P : Type 0} → Room → Option ℕ → ℕ → Layout P → Result (Unit {0}) LineFault
fits room column size s =
    if is_inside room s.here size
    then (if is_free s.filled s.here size then Ok tt else Err (record { column = column; cause = cause.Overlap }))
    else Err (record { column = column; cause = cause.Outside })

-- what a statement does: EQU names a value, ORG moves, and all else fills; a label before ORG has the address before it
abbrev pub layout_after : {P : Type 0} → Room → Option (List ℕ) → Option ℕ → Layout P → Effect → Result (Layout P) LineFault
layout_after room label column s (Names o) = operand_value o >>= λ v. Ok (with_label label v s)
layout_after room label column s (Moves o) = unsigned_value 65535 o >>= λ address. Ok (moved_to address (with_label label (pos s.here) s))
layout_after room label column s (Fills size) = fits room column size s >>= λ _. Ok (layout_filled size (with_label label (pos s.here) s))

-- the tokens of a line
unfoldable pub settle : Room → Layout PlacedLine → List Token → Result (Layout PlacedLine) LineFault
settle room s ts = statement (values s.names s.here) (is_some (label_of ts)) (behind_label ts) >>= λ st. layout_after room
    (label_of ts) (column_of (behind_label ts)) s (effect_of st)

abbrev pub with_placed : {P : Type 0} → P → Layout P → Layout P
with_placed p s = record { here = s.here; names = s.names; filled = s.filled; placed = s.placed ++ p ∷ [] }

unfoldable pub place : Room → Layout PlacedLine → Line → Result (Layout PlacedLine) AsmFault
place room s l = in_line l.number l.tokens (settle room s l.tokens) >>= λ t. Ok (with_placed (record { address = s.here; line = l }) t)

abbrev pub place_lines : Room → Layout PlacedLine → List Line → Result (Layout PlacedLine) AsmFault
place_lines room s ls = steps (place room) s ls
