-- What a session has come to, and what each command makes of it.
use Rattle.std.specs.Prelude.{ℕ, zero, suc, ◌+◌, ◌&&◌, Bool, true, false, if◌then◌else◌, List, [], ◌∷◌, ◌++◌, is_some}
use Rattle.f8_spec.specs.ChipState.{ChipView}
use Rattle.f8_spec.specs.declared.chips.PowerOn.{PowerOn}
use Rattle.console_spec.specs.declared.Event.{Event}
use Rattle.probe.specs.ProbeState.{probe_counters}
use Rattle.rewind.specs.LogEntries.{instructions_in}
use Rattle.rewind.specs.Reached.{Reached, next_steps, reached_by, started, turned}
use Rattle.rewind.specs.declared.entry.Entry.{Entry}
use Rattle.rewind.specs.declared.entry.Entry.TheVariants.{Happens, Instruction}
use Rattle.chip_debug.specs.declared.breaks.Breaks.{Breaks}
use Rattle.chip_debug.specs.Breaks.{are_met}

-- The chips as they were at first, with the chain of those described; the byte of the last power-on, and what is said of the power-on of
-- each chip described; the events and the instructions that are done since, in their order; whether the instruction behind them stopped the
-- session; and its breaks.
pub record Scene : Type 0 where
  pub first : List ChipView
  pub chain : List ℕ
  pub fill : ℕ
  pub powers : List PowerOn
  pub entries : List Entry
  pub stopped : Bool
  pub breaks : Breaks

-- ---- where the machine and its chips are

-- power-on and reset
abbrev pub begun : Scene → Reached
begun s = started s.fill s.chain s.powers s.first

-- and the entries
abbrev pub entered : Scene → Reached
entered s = reached_by s.entries (begun s)

-- and the instruction that stopped the session, if one did
abbrev pub reached : Scene → Reached
reached s = if s.stopped then turned (entered s) else entered s

-- reset or an instruction has stopped the session
abbrev pub has_stopped : Scene → Bool
has_stopped s = is_some (reached s).stop

-- the instructions that are done
abbrev pub done_in : Scene → ℕ
done_in s = instructions_in s.entries

-- ---- events

-- an event comes, unless the session has stopped
abbrev pub happened : Event → Scene → Scene
happened event s = if has_stopped s then s else record s { entries = s.entries ++ Happens event ∷ [] }

-- ---- instructions

-- the next instruction stops the session
abbrev pub stops : Scene → Bool
stops s = is_some (turned (reached s)).stop

-- the next instruction is done, or it stops the session
abbrev pub stepped : Scene → Scene
stepped s = if stops s then record s { stopped = true } else record s { entries = s.entries ++ Instruction ∷ [] }

-- the instruction that comes next meets a break, with the chain of the chips described
abbrev pub meets_break : Breaks → List ℕ → Reached → Bool
meets_break breaks chain r =
    are_met breaks (next_steps r) (turned r).position.flat.state.flow.p (probe_counters (turned r).probe) chain (turned r).chips

abbrev pub is_met : Scene → Bool
is_met s = meets_break s.breaks s.chain (reached s)

-- where some instructions led, how many were done, and whether the last of them met a break that was heeded
pub record Going : Type 0 where
  pub scene : Scene
  pub ran : ℕ
  pub broke : Bool

abbrev pub went : Scene → ℕ → Bool → Going
went s ran broke = record { scene = s; ran = ran; broke = broke }

abbrev pub and_before : ℕ → Going → Going
and_before ran g = record g { ran = ran + g.ran }

-- So many instructions at most. Nothing is done where the session has stopped. An instruction that stops it ends them, and so does one
-- that meets a break, where breaks are heeded.
unfoldable pub going : Bool → ℕ → Scene → Going
going heeds zero s = went s 0 false
going heeds (suc n) s =
    if has_stopped s then went s 0 false else
    if stops s then went (stepped s) 0 false else
    if heeds && is_met s then went (stepped s) 1 true else
    and_before 1 (going heeds n (stepped s))
