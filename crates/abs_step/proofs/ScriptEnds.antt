-- How runs by scripts end, where something is shown of all runs with free inputs, as a closed and safe invariant map shows it.
use Rattle.std.proofs.Common.{◌≡◌, ℕ, zero, suc, Bool, true, false, List, [], map, refl, ap, sym, subst, inl, inr}
use Rattle.std.specs.Prelude.{Option, Some, None, if◌then◌else◌}
use Rattle.std.specs.List.{AllByRecursion}
use Rattle.f8_spec.specs.Instructions.{decoded}
use Rattle.f8_spec.specs.ChipState.{ChipView}
use Rattle.f8_spec.specs.Powers.{ArePowers}
use Rattle.f8_spec.specs.declared.chips.PowerOn.{PowerOn}
use Rattle.f8_spec.specs.BusArbitration.{Seat, seat_of}
use Rattle.f8_spec.specs.declared.instructions.Op.{Op}
use Rattle.console_spec.specs.Services.{Fault}
use Rattle.console_spec.specs.Run.{Position, Turn, Goes, Done, Ending, opcode_at, instruction_fault, position_after, next}
use Rattle.console_spec.specs.Run.{decided, goes_unless, position_after_reset, reset_fault}
use Rattle.console_spec.specs.Scripts.{Script, events_at, most_instructions}
use Rattle.console_spec.specs.Telling.{Telling, Moment, with_events, is_over, fallen}
use Rattle.console_spec.specs.Telling.{events_fallen, events_behind, moment_of, telling_on, telling}
use Rattle.console_spec.specs.Telling.{on_rack, begun, telling_behind, played_by}
use Rattle.console_spec.specs.declared.At.{At}
use Rattle.console_spec.specs.declared.Event.{Event}
use Rattle.console_spec.specs.FreeRuns.{HasByte, IsFreeStart, IsReached}
use Rattle.abs_step.specs.Soundness.{OnlyUndriven, GoesOn}
use Rattle.abs_step.specs.ScriptRuns.{IsScriptFor, EndsBy, FreeRunLaw, ScriptRunLaw}
use Rattle.abs_step.proofs.SoundRuns.{soundness}
use Rattle.abs_step.proofs.ScriptStarts.{events_small, begun_free, reset_free}

-- the events behind a turn have bytes
fallen_small : (script : Script) (o : Option ℕ) (y : Position) → AllByRecursion (λ (a : At). HasByte a.event) script.events →
    AllByRecursion HasByte (events_fallen script o y)
fallen_small script None y h = tt
fallen_small script (Some frame) y h = by (is_over script y)
  where
    by : (b : Bool) → AllByRecursion HasByte (if b then [] else events_at frame script.events)
    by true = tt
    by false = events_small frame script.events h

-- over a claim that holds at every position that is reached
module _ (bytes : ℕ → Option ℕ) (seats : List Seat) (claim : Position → Option Fault → Type 0)
    (each : (n : ℕ) (here : Position) → IsReached bytes seats n here → GoesOn (claim here) here)
    (traced : Bool) (script : Script) (events : AllByRecursion (λ (a : At). HasByte a.event) script.events) where
  -- a turn by the fault of its instruction
  turn_ends : (x : Position) (moment : Moment) (rest : Position → Telling) (op : Op) (f : Option Fault) → claim x f →
      ((es : List Event) → AllByRecursion HasByte es → f ≡ None → EndsBy claim (rest (with_events es (position_after op x))).ending) →
      EndsBy claim (telling_on script x moment rest (goes_unless f (position_after op x))).ending
  turn_ends x moment rest op None h later =
      later (events_behind script x (Goes (position_after op x)))
      (fallen_small script (fallen x.flat.state (position_after op x).flat.state) (position_after op x) events) refl
  turn_ends x moment rest op (Some fault) h later = inr (fault, refl, h)

  next_is : (x : Position) (op : Op) → decoded (opcode_at x) ≡ Some op → next x ≡ goes_unless (instruction_fault op x) (position_after op x)
  next_is x op is = ap (decided (λ o. goes_unless (instruction_fault o x) (position_after o x)) x.flat.state.flow.p (opcode_at x)) is

  -- a turn where the script isn't over
  goes_ends : (x : Position) (moment : Moment) (rest : Position → Telling) → (g : GoesOn (claim x) x) →
      ((es : List Event) → AllByRecursion HasByte es → instruction_fault g.op x ≡ None →
      EndsBy claim (rest (with_events es (position_after g.op x))).ending) →
      EndsBy claim (telling_on script x moment rest (next x)).ending
  goes_ends x moment rest g later =
      subst (λ (t : Turn). EndsBy claim (telling_on script x moment rest t).ending) (sym (next_is x g.op g.is))
      (turn_ends x moment rest g.op (instruction_fault g.op x) g.fault later)

  pub telling_ends : (n k : ℕ) (x : Position) → IsReached bytes seats k x → EndsBy claim (telling (on_rack traced) script n x).ending
  unfolding telling
  telling_ends zero k x h = inl refl
  telling_ends (suc n) k x h =
      let g = each k x h in
      by (is_over script x) (goes_ends x (moment_of (on_rack traced) script x (next x)) (λ z. telling (on_rack traced) script n z) g
      (λ es small none. telling_ends n (suc k) (with_events es (position_after g.op x)) (x, g.op, es, h, g.is, none, small, refl)))
    where
      by : (b : Bool) →
          EndsBy claim
          (telling_on script x (moment_of (on_rack traced) script x (next x)) (λ z. telling (on_rack traced) script n z) (next x)).ending →
          EndsBy claim (if b then record { moments = []; ending = record { position = x; stop = Done } }
          else telling_on script x (moment_of (on_rack traced) script x (next x)) (λ z. telling (on_rack traced) script n z)
          (next x)).ending
      by true later = inl refl
      by false later = later

-- ---- whole runs

module _ (bytes : ℕ → Option ℕ) (vs : List ChipView) (chain : List ℕ) (powers : List PowerOn) (traced : Bool) (script : Script)
    (are : ArePowers powers) (for : IsScriptFor bytes vs script)
    (served : (here : Position) → IsFreeStart bytes (map seat_of vs) here → reset_fault here ≡ None) where
  reset_goes : reset_fault (begun vs chain powers script) ≡ None
  reset_goes = served (begun vs chain powers script) (begun_free bytes vs chain powers script are for)

  whole_ends : (claim : Position → Option Fault → Type 0) →
      ((n : ℕ) (here : Position) → IsReached bytes (map seat_of vs) n here → GoesOn (claim here) here) →
      EndsBy claim (played_by vs chain powers traced script).ending
  unfolding played_by
  whole_ends claim each =
      let x : Position = begun vs chain powers script in
      let rest : Position → Telling = telling (on_rack traced) script (most_instructions script.end) in
      let later : EndsBy claim (rest (position_after_reset x)).ending =
      telling_ends bytes (map seat_of vs) claim each traced script for.events (most_instructions script.end) 0 (position_after_reset x)
      (reset_free bytes (map seat_of vs) x (begun_free bytes vs chain powers script are for)) in
      subst (λ (f : Option Fault). EndsBy claim (telling_behind x rest (goes_unless f (position_after_reset x))).ending) (sym reset_goes)
      later

done_of : (e : Ending) → EndsBy (λ here fault. fault ≡ None) e → e.stop ≡ Done
done_of e (inl is_done) = is_done
done_of e (inr (fault, is, none)) = absurd (cc)

pub free_runs : FreeRunLaw
free_runs = record {
  sound = λ bytes vs chain powers traced script are script_for served each.
      whole_ends bytes vs chain powers traced script are script_for served (λ here fault. OnlyUndriven here.flat.state.flow.d0 fault) each;
  fault_free = λ bytes vs chain powers traced script are script_for served each.
      done_of (played_by vs chain powers traced script).ending
      (whole_ends bytes vs chain powers traced script are script_for served (λ here fault. fault ≡ None) each);
}

-- over a closed and safe map
pub script_runs : ScriptRunLaw
script_runs = record {
  start = λ bytes vs chain powers script are script_for.
      reset_free bytes (map seat_of vs) (begun vs chain powers script) (begun_free bytes vs chain powers script are script_for);
  sound = λ m tracked notes vs chain powers traced script safe are script_for.
      free_runs.sound m.byte vs chain powers traced script are script_for (soundness.reset m (map seat_of vs) tracked notes safe)
      (soundness.sound m (map seat_of vs) tracked notes safe);
  fault_free = λ m tracked notes vs chain powers traced script safe free are script_for.
      free_runs.fault_free m.byte vs chain powers traced script are script_for (soundness.reset m (map seat_of vs) tracked notes safe)
      (soundness.fault_free m (map seat_of vs) tracked notes safe free);
}
