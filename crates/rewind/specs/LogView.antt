-- How a log keeps its entries: a mark for each event, with the number of instructions before it, and the instructions as numbers alone.
use Rattle.std.specs.Prelude.{ℕ, ◌-◌, ◌<◌, ◌≤◌, List, [], ◌∷◌, ◌++◌, length, take, drop, replicate, vec_capacity}
use Rattle.rewind.specs.LogEntries.{LogState}
use Rattle.rewind.specs.declared.entry.Entry.{Entry}
use Rattle.rewind.specs.declared.entry.Entry.TheVariants.{Happens, Instruction}
use Rattle.rewind.specs.declared.log.Mark.{Mark}
use Rattle.rewind.specs.declared.log.Log.TheInside.{Inside}

-- the entries from a number of instructions on and up to another, with these marks among them
abbrev pub entries : List Mark → ℕ → ℕ → List Entry
entries [] from to = replicate (to - from) Instruction
entries (m ∷ ms) from to = replicate (m.after - from) Instruction ++ Happens m.event ∷ entries ms m.after to

-- the marks lie between the two numbers, each not before the one that comes before it
abbrev pub AreInOrder : List Mark → ℕ → ℕ → Type 0
AreInOrder [] from to = from ≤ to
AreInOrder (m ∷ ms) from to = (from ≤ m.after) × AreInOrder ms m.after to

abbrev pub log_state : Inside → LogState
log_state l = record {
  played = entries (take l.next l.marks.items) 0 l.place;
  left = entries (drop l.next l.marks.items) l.place l.total;
  spare = l.room - length l.marks.items;
}

-- the room was taken and is not passed, the marks are in order, and the instructions are few enough to be counted
pub record IsKept (l : Inside) : Type 0 where
  pub reserved : l.room ≤ vec_capacity l.marks
  pub within : length l.marks.items ≤ l.room
  pub next : l.next ≤ length l.marks.items
  pub before : AreInOrder (take l.next l.marks.items) 0 l.place
  pub behind : AreInOrder (drop l.next l.marks.items) l.place l.total
  pub few : l.total < 4294967296
