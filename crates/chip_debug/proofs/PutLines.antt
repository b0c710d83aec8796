-- Lines that are put, one after another.
use Rattle.std.proofs.Common.{◌≡◌, ◌≢◌, ℕ, ◌+◌, ◌<◌, ◌≤◌, List, [], ◌∷◌, ◌++◌, length, drop, get_or, sym, subst, arith}
use Rattle.std.specs.Prelude.{Option, option_map, Result, Ok, Err, OnOk, OnErr}
use Rattle.f8_spec.specs.ChipState.{ChipState}
use Rattle.rack_run.specs.Endings.{stop_of}
use Rattle.chip_debug.specs.Scenes.{Scene, reached}
use Rattle.chip_debug.specs.Standing.{SessionState, IsAt}
use Rattle.std.proofs.lemmas.List.FromFn.{length-map-range_with_len, get_or-map-range_with_len}
use Rattle.f8_spec.specs.declared.bus.Counters.{Counters}
use Rattle.f8_spec.specs.declared.chips.ChipKind.{ChipKind}
use Rattle.console_spec.specs.Run.{Stop, Done, Unserved, Reserved}
use Rattle.console_spec.specs.RunText.{text_of, fault_line, regs_line, scratch_line, stop_line, total_line}
use Rattle.console_spec.specs.Services.{Conflict, Undriven, Astray}
use Rattle.console_spec.specs.declared.Regs.{Regs}
use Rattle.outside.specs.SinkRules.{Output, Adds, AddsPart}
use Rattle.report.proofs.TextLaws.{text_of-nil, text_of-cons, text_of-append, text_of-drop, text_of-drop_all}
use Rattle.rack_run.proofs.PutLaws.{puts_none, puts_then, puts_first, puts_line}
use Rattle.rack_run.proofs.TellingTexts.{text_of-one}
use Rattle.rack_run.specs.Texts.{Puts}
use Rattle.chip_debug.specs.Carried.{scratchpad_lines, start_lines}
use Rattle.chip_debug.specs.DebugText.{at_line, break_line, chip_line, mem_line, probe_line, ran_line, ready_line, stored_line}

-- ---- lines are not empty

pub ready_some : ready_line ≢ []
unfolding ready_line
ready_some e = cc

pub ran_some : (ran : ℕ) → ran_line ran ≢ []
unfolding ran_line
ran_some ran e = cc

pub break_some : break_line ≢ []
unfolding break_line
break_some e = cc

pub at_some : (place : ℕ) → at_line place ≢ []
unfolding at_line
at_some place e = cc

pub stored_some : (place : Option ℕ) → stored_line place ≢ []
unfolding stored_line
stored_some place e = cc

pub chip_some : (socket : ℕ) (kind : ChipKind) (counters : Option Counters) → chip_line socket kind counters ≢ []
unfolding chip_line
chip_some socket kind counters e = cc

pub probe_some : (counters : Counters) → probe_line counters ≢ []
unfolding probe_line
probe_some counters e = cc

pub mem_some : (at : ℕ) (bytes : List (Option ℕ)) → mem_line at bytes ≢ []
unfolding mem_line
mem_some at bytes e = cc

pub regs_some : (regs : Regs) → regs_line regs ≢ []
unfolding regs_line
regs_some regs e = cc

pub scratch_some : (regs : Regs) (row : ℕ) → scratch_line regs row ≢ []
unfolding scratch_line
scratch_some regs row e = cc

pub total_some : (count phi : ℕ) → total_line count phi ≢ []
unfolding total_line
total_some count phi e = cc

pub stop_some : (stop : Stop) → stop_line stop ≢ []
unfolding stop_line fault_line
stop_some Done e = cc
stop_some (Unserved (Conflict romc parties)) e = cc
stop_some (Unserved (Undriven romc at)) e = cc
stop_some (Unserved (Astray romc socket at reference)) e = cc
stop_some (Reserved at code) e = cc

-- ---- a put of one line

pub puts_nothing : {T : Type 0} {E : Type 0} (v : T) (a : Output) → Puts {T = T} {E = E} (Ok v) a a (text_of [])
puts_nothing v a = rw text_of-nil (puts_none v a)

pub puts_one : {T : Type 0} {E : Type 0} (r : Result T E) (a b : Output) (bytes line : List ℕ) → bytes ≡ line →
    line ≢ [] → OnOk r (Adds a b bytes) → OnErr r (AddsPart a b bytes) → Puts r a b (text_of (line ∷ []))
puts_one r a b bytes line is some ok err =
    rw (text_of-one line) (puts_line r a b line some (rw is at ok) (rw is at err))

-- some lines that are others
pub puts_told : {T : Type 0} {E : Type 0} (r : Result T E) (a b : Output) (lines told : List (List ℕ)) → lines ≡ told →
    Puts r a b (text_of lines) → Puts r a b (text_of told)
puts_told r a b lines told same puts = subst (λ (ls : List (List ℕ)). Puts r a b (text_of ls)) same puts

-- ---- several lines

-- a whole line, and then others
pub puts_behind : {T : Type 0} {E : Type 0} (r : Result T E) (a b c : Output) (bytes line : List ℕ)
    (lines : List (List ℕ)) → bytes ≡ line → Adds a b bytes → Puts r b c (text_of lines) →
    Puts r a c (text_of (line ∷ lines))
puts_behind {T = T} {E = E} r a b c bytes line lines is adds puts =
    let first : Puts {T = Unit {0}} {E = E} (Ok tt) a b line = record { ok = rw is at adds; err = tt; some = tt } in
    rw (text_of-cons line lines) (puts_then {S = Unit {0}} {F = E} tt r a b c line (text_of lines) first puts)

-- the sink fails at the first of several lines
pub puts_cut : {T : Type 0} {E : Type 0} (e : E) (a b : Output) (bytes line : List ℕ) (lines : List (List ℕ)) →
    bytes ≡ line → line ≢ [] → AddsPart a b bytes → Puts {T = T} {E = E} (Err e) a b (text_of (line ∷ lines))
puts_cut {T = T} {E = E} e a b bytes line lines is some part =
    let first : Puts {T = T} {E = E} (Err e) a b line = record { ok = tt; err = rw is at part; some = some } in
    rw (text_of-cons line lines) (puts_first {T = T} {F = E} e e a b line (text_of lines) first)

-- some lines, and then others
pub puts_both : {S : Type 0} {T : Type 0} {E : Type 0} {F : Type 0} (v : S) (r : Result T E) (a b c : Output)
    (first later : List (List ℕ)) → Puts {T = S} {E = F} (Ok v) a b (text_of first) → Puts r b c (text_of later) →
    Puts r a c (text_of (first ++ later))
puts_both {F = F} v r a b c first later puts puts_later =
    rw (text_of-append first later) (puts_then {F = F} v r a b c (text_of first) (text_of later) puts puts_later)

-- the sink fails at one of the first lines
pub puts_short : {S : Type 0} {T : Type 0} {E : Type 0} {F : Type 0} (e : E) (f : F) (a b : Output)
    (first later : List (List ℕ)) → Puts {T = S} {E = E} (Err e) a b (text_of first) →
    Puts {T = T} {E = F} (Err f) a b (text_of (first ++ later))
puts_short {S = S} {T = T} e f a b first later puts =
    rw (text_of-append first later) (puts_first {T = T} e f a b (text_of first) (text_of later) puts)

-- ---- the scratchpad's rows

pub rows_more : (regs : Regs) (row : ℕ) → row < 4 → text_of (drop row (scratchpad_lines regs))
    ≡ scratch_line regs row ++ text_of (drop (row + 1) (scratchpad_lines regs))
rows_more regs row within =
    let long : length (scratchpad_lines regs) ≡ 4 = length-map-range_with_len (λ (k : ℕ). scratch_line regs k) 0 4 in
    let from_none : 0 + row ≡ row = omega arith in
    let here : get_or (scratchpad_lines regs) row (scratch_line regs row) ≡ scratch_line regs row =
    get_or-map-range_with_len (λ (k : ℕ). scratch_line regs k) 0 4 row row (scratch_line regs row) within from_none in
    text_of-drop (scratchpad_lines regs) row (scratch_line regs row) (omega (arith, within, long)) (sym here)

pub rows_all : (regs : Regs) (row : ℕ) → 4 ≤ row → text_of (drop row (scratchpad_lines regs)) ≡ []
rows_all regs row past =
    let long : length (scratchpad_lines regs) ≡ 4 = length-map-range_with_len (λ (k : ℕ). scratch_line regs k) 0 4 in
    text_of-drop_all (scratchpad_lines regs) row (omega (arith, past, long))

-- ---- power-on and reset

-- what a session tells of its start is what its scene says
pub puts_start : {T : Type 0} {E : Type 0} (r : Result T E) (a b : Output) (s : SessionState) (states : List ChipState)
    (scene : Scene) → IsAt s states scene → Puts r a b (text_of (start_lines (option_map stop_of s.halt))) →
    Puts r a b (text_of (start_lines (reached scene).stop))
puts_start r a b s states scene at puts =
    subst (λ (stop : Option Stop). Puts r a b (text_of (start_lines stop))) at.stop puts
