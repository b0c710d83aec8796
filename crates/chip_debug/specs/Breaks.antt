-- The breaks of a session, and which of them an instruction meets (this project's own).
use Rattle.std.specs.Prelude.{ℕ, ◌==◌, ◌||◌, ◌&&◌, not, Bool, true, false, if◌then◌else◌, List, Option, Some, None}
use Rattle.std.specs.List.{list_any, filter, enumerate_from}
use Rattle.f8_spec.specs.ChipState.{ChipView, has_counters, told_counters}
use Rattle.f8_spec.specs.declared.bus.Counters.{Counters}
use Rattle.f8_machine.specs.Rounds.{is_socket}
use Rattle.f8_machine.specs.declared.heard.Heard.{Heard}
use Rattle.chip_debug.specs.declared.breaks.Breaks.{Breaks}
use Rattle.chip_debug.specs.declared.command.Command.{Command}
use Rattle.chip_debug.specs.declared.command.Command.TheVariants.{Power, Keys, Pulse, Step, Run, BreakAt, BreakRomc}
use Rattle.chip_debug.specs.declared.command.Command.TheVariants.{BreakChip, BreakApart, Clear, ShowRegs, ShowChips, Mem}
use Rattle.chip_debug.specs.declared.command.Command.TheVariants.{Back, BackRun, Stored}

abbrev pub no_breaks : Breaks
no_breaks = record { at = None; romc = None; chip = None; apart = false }

-- A second break of one kind takes the place of the first.
abbrev pub breaks_after : Command → Breaks → Breaks
breaks_after (BreakAt at) breaks = record breaks { at = Some at }
breaks_after (BreakRomc romc) breaks = record breaks { romc = Some romc }
breaks_after (BreakChip socket) breaks = record breaks { chip = Some socket }
breaks_after BreakApart breaks = record breaks { apart = true }
breaks_after Clear breaks = no_breaks
breaks_after (Power fill) breaks = breaks
breaks_after (Keys port byte) breaks = breaks
breaks_after (Pulse chip) breaks = breaks
breaks_after (Step count) breaks = breaks
breaks_after (Run count) breaks = breaks
breaks_after ShowRegs breaks = breaks
breaks_after ShowChips breaks = breaks
breaks_after (Mem at count) breaks = breaks
breaks_after (Back count) breaks = breaks
breaks_after (BackRun count) breaks = breaks
breaks_after (Stored at) breaks = breaks

-- ---- addresses, codes and sockets

-- a number is the one that is looked for, if one is
abbrev pub is_wanted : Option ℕ → ℕ → Bool
is_wanted None n = false
is_wanted (Some wanted) n = n == wanted

abbrev pub is_taker : ℕ → Option ℕ → Bool
is_taker socket None = false
is_taker socket (Some taker) = taker == socket

-- the chip in the socket, if one is looked for, drives the byte of a bus step or takes it
abbrev pub takes_part : Option ℕ → Heard → Bool
takes_part None step = false
takes_part (Some socket) step = is_socket socket step.who || is_taker socket step.taker

-- a bus step has the code, or the chip takes part in it
abbrev pub meets_step : Breaks → Heard → Bool
meets_step breaks step = is_wanted breaks.romc step.romc || takes_part breaks.chip step

-- ---- counters that part

-- the chips described, by the sockets in which they sit, ascending; sockets that are left over are not among them
abbrev pub fitted : List ℕ → List ChipView → List (ℕ × ChipView)
fitted chain vs = filter (λ x. list_any (λ held. held == x.0) chain) (enumerate_from 0 vs)

-- two second data counters are apart, where there are two
abbrev pub seconds_differ : Option ℕ → Option ℕ → Bool
seconds_differ None reference = false
seconds_differ (Some dc1) None = false
seconds_differ (Some dc1) (Some reference) = not (dc1 == reference)

-- the counters that a chip tells, where it has any
abbrev pub own_counters : ChipView → Option Counters
own_counters v = if has_counters v.kind then Some (told_counters v) else None

-- one of the counters that a chip tells is not the probe's; a chip without counters never parts
abbrev pub is_parted : Counters → Option Counters → Bool
is_parted reference None = false
is_parted reference (Some c) =
    not (c.pc0 == reference.pc0) || not (c.pc1 == reference.pc1) || not (c.dc0 == reference.dc0)
    || seconds_differ c.dc1 reference.dc1

-- and so it is with a chip of the description
abbrev pub are_apart : Counters → List ℕ → List ChipView → Bool
are_apart reference chain vs = list_any (λ x. is_parted reference (own_counters x.1)) (fitted chain vs)

-- ---- an instruction that is done

-- it meets a break by where it leads: by the address that comes next, or by the counters
abbrev pub meets_behind : Breaks → ℕ → Counters → List ℕ → List ChipView → Bool
meets_behind breaks at reference chain vs = is_wanted breaks.at at || (breaks.apart && are_apart reference chain vs)

-- it meets a break, by one of its bus steps or by where it leads
abbrev pub are_met : Breaks → List Heard → ℕ → Counters → List ℕ → List ChipView → Bool
are_met breaks steps at reference chain vs =
    list_any (meets_step breaks) steps || meets_behind breaks at reference chain vs
