-- The trace of an audit, behind the cartridge and the script that it is to come from.
use Rattle.std.proofs.Common.{◌≡◌, ℕ, List, Result, Ok, Err, arith, ◌≤◌}
use Rattle.outside.specs.StoreRules.{Input}
use Rattle.bus_audit.specs.Answers.{Trace}
use Rattle.bus_audit.specs.TraceText.{trace_of}
use Rattle.bus_audit.specs.declared.read.TraceFault.{TraceFault}
use Rattle.loader.specs.declared.purposes.Purpose.TheVariants.{Script, Trace as TraceFile}
use Rattle.loader.specs.declared.refusals.Refusal.{Refusal}
use Rattle.loader.specs.declared.refusals.Refusal.TheVariants as refusal
use Rattle.loader.specs.declared.refusals.Stop.{Stop}
use Rattle.loader.specs.declared.refusals.Stop.TheVariants.{Refused, Store, Memory}
use Rattle.loader.specs.Readings.{Says, trace_told, trace_in}
use Rattle.loader.specs.Games.{Auditing, Game, auditing_of, game_of, trace_by}
use Rattle.loader.specs.Work.{Work, ask, gives, reads, ◌>>=◌}
use Rattle.loader.specs.Works.{order_of, file_of, RefusesFrom, outcome_as, Works}
use Rattle.loader.proofs.GamesLoaded.{ordered_game}
use Rattle.loader.proofs.WorkLaws.{works_stop, works_text, works_then, works_done, ordered_more}

-- the trace is what is refused
trace_order_of : (read : Result Trace TraceFault) (r : Refusal) → trace_told read ≡ Err r →
    order_of TraceFile ≤ order_of (file_of r)
trace_order_of (Ok trace) r e = cc e
trace_order_of (Err fault) r e = let same : refusal.Trace fault ≡ r = cc e in rw (← same) (omega arith)

pub trace_order : {A : Type 0} (text : List ℕ) (seen : A → Trace) (outcome : Result A Stop) →
    Says seen outcome (trace_in text) → RefusesFrom (order_of TraceFile) outcome
unfolding trace_in
trace_order text seen (Ok x) says = tt
trace_order text seen (Err (Refused r)) says = trace_order_of (trace_of text) r says
trace_order text seen (Err (Store p)) says = absurd says
trace_order text seen (Err Memory) says = tt

pub trace_read : {A : Type 0} (a b : Input) (name text : List ℕ) (seen : A → Trace) (outcome : Result A Stop) →
    Works a b (ask TraceFile name 16777216) (Ok text) → Says seen outcome (trace_in text) →
    Works a b (trace_by name) (outcome_as seen outcome)
unfolding trace_by
trace_read a b name text seen outcome first says =
    works_text a b TraceFile name text 16777216 seen trace_in outcome first says (trace_order text seen outcome says)

pub trace_stop : (a b : Input) (name : List ℕ) (stop : Stop) → Works a b (ask TraceFile name 16777216) (Err stop) →
    Works a b (trace_by name) (Err stop)
unfolding trace_by
trace_stop a b name stop first = works_stop a b (ask TraceFile name 16777216) (λ text. reads (trace_in text)) stop first

-- ---- an audit

-- the trace behind what it is to come from
abbrev with_trace : List ℕ → Game → Work Auditing
with_trace trace game = trace_by trace >>= λ told. gives (record { game = game; trace = told })

pub audit_loaded : (a b c : Input) (name script trace : List ℕ) (game : Game) (told : Trace) →
    Works a b (game_of name script) (Ok game) → Works b c (trace_by trace) (Ok told) →
    Works a c (auditing_of name script trace) (Ok (record { game = game; trace = told }))
unfolding auditing_of
audit_loaded a b c name script trace game told first second =
    works_then a b c (game_of name script) game (with_trace trace) (Ok (record { game = game; trace = told })) (order_of Script)
    (ordered_game name script) tt first
    (works_done b c (trace_by trace) told (λ told. record { game = game; trace = told }) second)

pub audit_without_game : (a b : Input) (name script trace : List ℕ) (stop : Stop) → Works a b (game_of name script) (Err stop) →
    Works a b (auditing_of name script trace) (Err stop)
unfolding auditing_of
audit_without_game a b name script trace stop works = works_stop a b (game_of name script) (with_trace trace) stop works

pub audit_without_trace : (a b c : Input) (name script trace : List ℕ) (game : Game) (stop : Stop) →
    Works a b (game_of name script) (Ok game) → Works b c (trace_by trace) (Err stop) →
    RefusesFrom {A = Trace} (order_of TraceFile) (Err stop) → Works a c (auditing_of name script trace) (Err stop)
unfolding auditing_of
audit_without_trace a b c name script trace game stop first second from =
    works_then a b c (game_of name script) game (with_trace trace) (Err stop) (order_of TraceFile)
    (ordered_more (order_of Script) (order_of TraceFile) (game_of name script) (omega arith) (ordered_game name script)) from first
    (works_stop b c (trace_by trace) (λ told. gives (record { game = game; trace = told })) stop second)
