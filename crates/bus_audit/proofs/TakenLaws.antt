-- The inputs that come in the moments of an audit: those that are read off the trace, and key bytes of ports 0 and 1.
use Rattle.std.proofs.Common.{◌≡◌, ℕ, ◌+◌, ◌≤◌, Bool, true, false, List, [], ◌∷◌, ◌++◌, length, map, drop, filter, refl, ◌∙◌, ap, sym, subst}
use Rattle.std.proofs.Common.{Option, Some, None, arith, length-append}
use Rattle.std.specs.Prelude.{nat_lt, not, if◌then◌else◌}
use Rattle.console_spec.specs.BusTrace.{TracedStep}
use Rattle.console_spec.specs.Scripts.{Script, events_at}
use Rattle.console_spec.specs.Telling.{Moment}
use Rattle.console_spec.specs.declared.Event.{Event}
use Rattle.console_spec.specs.declared.Event.TheVariants.{Keys}
use Rattle.bus_audit.specs.Audits.{heard_steps, is_outer, TakeRead, TakeFromPower}
use Rattle.bus_audit.specs.Choices.{first_byte, second_byte, interrupting_socket, place_in_chain, pulse_to}
use Rattle.bus_audit.specs.FreeRuns.{is_own_key, own_fallen}
use Rattle.bus_audit.specs.PlainSteps.{plain}
use Rattle.bus_audit.specs.ReadInputs.{second_code, reads_port, key_of, read_key, from_end, pulse_of, read_pulse, read_inputs}
use Rattle.bus_audit.specs.declared.step.TraceStep.{TraceStep}
use Rattle.bus_audit.proofs.AuditLaws.{drop_more}

-- ---- which inputs a chip may take

outer_if : (outer : Bool) (e : Event) (es fs : List Event) →
    (if outer then e ∷ (es ++ fs) else es ++ fs) ≡ (if outer then e ∷ es else es) ++ fs
outer_if true e es fs = refl
outer_if false e es fs = refl

outer-append : (es fs : List Event) → filter is_outer (es ++ fs) ≡ filter is_outer es ++ filter is_outer fs
outer-append [] fs = refl
outer-append (e ∷ es) fs =
    ap (λ (l : List Event). if is_outer e then e ∷ l else l) (outer-append es fs)
    ∙ outer_if (is_outer e) e (filter is_outer es) (filter is_outer fs)

-- a key byte of port 0 or 1 is none of them
pub outer_own : (es : List Event) → filter is_outer (filter is_own_key es) ≡ []
outer_own [] = refl
outer_own (e ∷ es) = by (is_own_key e) refl (outer_own es)
  where
    by : (own : Bool) → is_own_key e ≡ own → filter is_outer (filter is_own_key es) ≡ [] →
        filter is_outer (if own then e ∷ filter is_own_key es else filter is_own_key es) ≡ []
    by true is none =
        ap (λ (own : Bool). if not own then e ∷ filter is_outer (filter is_own_key es) else filter is_outer (filter is_own_key es)) is ∙ none
    by false is none = none

pub outer_fallen : (script : Script) (frame : Option ℕ) → filter is_outer (own_fallen script frame) ≡ []
outer_fallen script None = refl
outer_fallen script (Some frame) = outer_own (events_at frame script.events)

-- and what is read is one

key_of_outer : (port byte : Option ℕ) → filter is_outer (key_of port byte) ≡ key_of port byte
key_of_outer None byte = refl
key_of_outer (Some port) None = refl
key_of_outer (Some port) (Some byte) = by (nat_lt port 2) refl
  where
    by : (own : Bool) → nat_lt port 2 ≡ own →
        filter is_outer (if own then [] else Keys port byte ∷ []) ≡ (if own then [] else Keys port byte ∷ [])
    by true e = refl
    by false e = ap (λ (own : Bool). if not own then Keys port byte ∷ [] else []) e

pub outer_key : (trace : List TraceStep) → filter is_outer (read_key trace) ≡ read_key trace
outer_key trace = by (reads_port (second_code trace))
  where
    by : (reads : Bool) → filter is_outer (if reads then key_of (first_byte trace) (second_byte trace) else [])
        ≡ (if reads then key_of (first_byte trace) (second_byte trace) else [])
    by true = key_of_outer (first_byte trace) (second_byte trace)
    by false = refl

pulse_to_outer : (place : Option ℕ) → filter is_outer (pulse_to place) ≡ pulse_to place
pulse_to_outer None = refl
pulse_to_outer (Some place) = refl

pulse_of_outer : (chain : List ℕ) (told : Option ℕ) → filter is_outer (pulse_of chain told) ≡ pulse_of chain told
pulse_of_outer chain None = refl
pulse_of_outer chain (Some socket) = pulse_to_outer (place_in_chain socket chain)

pub outer_read : (chain : List ℕ) (trace : List TraceStep) → filter is_outer (read_inputs chain trace) ≡ read_inputs chain trace
outer_read chain trace =
    outer-append (read_key trace) (read_pulse chain trace)
    ∙ ap (λ (l : List Event). l ++ filter is_outer (read_pulse chain trace)) (outer_key trace)
    ∙ ap (λ (l : List Event). read_key trace ++ l) (pulse_of_outer chain (interrupting_socket (from_end trace)))

-- what is read, behind key bytes of ports 0 and 1
pub outer_behind : (own read : List Event) → filter is_outer own ≡ [] → filter is_outer read ≡ read → filter is_outer (own ++ read) ≡ read
outer_behind own read none all = outer-append own read ∙ ap (λ (l : List Event). l ++ filter is_outer read) none ∙ all

-- ---- a moment more

drop_told : (steps : List TracedStep) (rest : List TraceStep) → drop (length steps) (map plain steps ++ rest) ≡ rest
drop_told [] rest = refl
drop_told (s ∷ steps) rest = drop_told steps rest

pub rest_behind : (steps : List TracedStep) (rest trace : List TraceStep) → map plain steps ++ rest ≡ trace → drop (length steps) trace ≡ rest
rest_behind steps rest trace is = subst (λ (l : List TraceStep). drop (length steps) l ≡ rest) is (drop_told steps rest)

module _ (chain : List ℕ) (m : Moment) (rest : List TraceStep) where
  take_more : (ms : List Moment) (trace : List TraceStep) → drop (length (heard_steps ms)) trace ≡ rest → TakeRead chain ms trace →
      filter is_outer m.events ≡ read_inputs chain (drop (length m.heard) rest) → TakeRead chain (ms ++ m ∷ []) trace
  take_more [] trace same taken is =
      (subst (λ (l : List TraceStep). filter is_outer m.events ≡ read_inputs chain (drop (length m.heard) l)) (sym same) is, tt)
  take_more (k ∷ ms) trace same taken is = (
    taken.0,
    take_more ms (drop (length k.heard) trace)
        (drop_more (length k.heard) (length (heard_steps ms)) trace
        ∙ ap (λ (n : ℕ). drop n trace) (sym (length-append k.heard (heard_steps ms))) ∙ same) taken.1 is,
  )

  -- an instruction
  pub taken_more : (ms : List Moment) (trace : List TraceStep) → 2 ≤ length ms → drop (length (heard_steps ms)) trace ≡ rest →
      TakeFromPower chain ms trace → filter is_outer m.events ≡ read_inputs chain (drop (length m.heard) rest) →
      TakeFromPower chain (ms ++ m ∷ []) trace
  taken_more [] trace two same taken is = absurd (omega arith)
  taken_more (p ∷ []) trace two same taken is = absurd (omega arith)
  taken_more (p ∷ r ∷ ms) trace two same taken is =
      let whole = length-append p.heard (r.heard ++ heard_steps ms) in
      let part = length-append r.heard (heard_steps ms) in
      let none : length p.heard ≡ 0 = ap (λ (steps : List TracedStep). length steps) taken.0 in
      let size : length r.heard + length (heard_steps ms) ≡ length (heard_steps (p ∷ r ∷ ms)) = omega (arith, whole, part, none) in
      let later : TakeRead chain (ms ++ m ∷ []) (drop (length r.heard) trace) =
      take_more ms (drop (length r.heard) trace)
      (drop_more (length r.heard) (length (heard_steps ms)) trace ∙ ap (λ (n : ℕ). drop n trace) size ∙ same) taken.2.1 is in
      (taken.0, taken.1, (taken.2.0, later))

-- reset
pub taken_reset : (chain : List ℕ) (m : Moment) (ms : List Moment) (trace : List TraceStep) → length ms ≡ 1 → TakeFromPower chain ms trace →
    m.events ≡ [] → TakeFromPower chain (ms ++ m ∷ []) trace
taken_reset chain m [] trace one taken none = absurd (omega arith)
taken_reset chain m (p ∷ []) trace one taken none = (taken.0, taken.1, (none, tt))
taken_reset chain m (p ∷ r ∷ ms) trace one taken none = absurd (omega arith)
