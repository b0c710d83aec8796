-- What stands behind some steps in a trace.
use Rattle.std.proofs.Common.{◌≡◌, ℕ, ◌==◌, ◌&&◌, Bool, true, false, List, [], ◌∷◌, ◌++◌, Some, None, refl, ◌∙◌, ap, sym}
use Rattle.std.proofs.Common.{eq-eqb}
use Rattle.std.proofs.lemmas.Bool.{and_parts, and_from, eqb-true}
use Rattle.std.specs.Prelude.{if◌then◌else◌}
use Rattle.console_spec.specs.declared.Who.{Who}
use Rattle.console_spec.specs.declared.Who.TheVariants.{Cpu, Socket, Nobody}
use Rattle.bus_audit.specs.PlainSteps.{HaveBytes, same_who, same_what, same_length, same_step, behind}
use Rattle.bus_audit.specs.declared.step.TraceStep.{TraceStep}
use Rattle.bus_audit.specs.declared.step.TraceWhat.{TraceWhat}
use Rattle.bus_audit.specs.declared.step.TraceWhat.TheVariants.{Byte, Fault as Faulted}

-- ---- one step

who_itself : (who : Who) → same_who who who ≡ true
who_itself Cpu = refl
who_itself (Socket socket) = eq-eqb socket socket refl
who_itself Nobody = refl

length_itself : (long : Bool) → same_length long long ≡ true
length_itself true = refl
length_itself false = refl

what_itself : (what : TraceWhat) → same_what what what ≡ true
what_itself (Byte byte who) = and_from (byte == byte) (same_who who who) (eq-eqb byte byte refl) (who_itself who)
what_itself Faulted = refl

step_itself : (s : TraceStep) → same_step s s ≡ true
step_itself s =
    and_from ((s.romc == s.romc) && same_length s.long s.long) (same_what s.what s.what)
    (and_from (s.romc == s.romc) (same_length s.long s.long) (eq-eqb s.romc s.romc refl) (length_itself s.long)) (what_itself s.what)

who_is : (who other : Who) → same_who who other ≡ true → who ≡ other
who_is Cpu Cpu same = refl
who_is Cpu (Socket socket) same = absurd (cc)
who_is Cpu Nobody same = absurd (cc)
who_is (Socket socket) Cpu same = absurd (cc)
who_is (Socket socket) (Socket other) same = ap (λ (n : ℕ). Socket n) (eqb-true socket other same)
who_is (Socket socket) Nobody same = absurd (cc)
who_is Nobody Cpu same = absurd (cc)
who_is Nobody (Socket socket) same = absurd (cc)
who_is Nobody Nobody same = refl

length_is : (long other : Bool) → same_length long other ≡ true → long ≡ other
length_is true true same = refl
length_is true false same = absurd (cc)
length_is false true same = absurd (cc)
length_is false false same = refl

what_is : (what other : TraceWhat) → same_what what other ≡ true → what ≡ other
what_is (Byte byte who) (Byte other driver) same =
    let parts = and_parts (byte == other) (same_who who driver) same in
    ap (λ (n : ℕ). Byte n who) (eqb-true byte other parts.0) ∙ ap (Byte other) (who_is who driver parts.1)
what_is (Byte byte who) Faulted same = absurd (cc)
what_is Faulted (Byte byte who) same = absurd (cc)
what_is Faulted Faulted same = refl

abbrev step_of : ℕ → Bool → TraceWhat → TraceStep
step_of romc long what = record { romc = romc; long = long; what = what }

step_is : (s t : TraceStep) → same_step s t ≡ true → s ≡ t
step_is s t same =
    let parts = and_parts ((s.romc == t.romc) && same_length s.long t.long) (same_what s.what t.what) same in
    let first = and_parts (s.romc == t.romc) (same_length s.long t.long) parts.0 in
    ap (λ (romc : ℕ). step_of romc s.long s.what) (eqb-true s.romc t.romc first.0)
    ∙ ap (λ (long : Bool). step_of t.romc long s.what) (length_is s.long t.long first.1)
    ∙ ap (step_of t.romc t.long) (what_is s.what t.what parts.1)

-- ---- some steps

pub behind-append : (steps rest : List TraceStep) → behind steps (steps ++ rest) ≡ Some rest
behind-append [] rest = refl
behind-append (s ∷ steps) rest =
    ap (λ (same : Bool). if same then behind steps (steps ++ rest) else None) (step_itself s) ∙ behind-append steps rest

pub behind_is : (steps trace rest : List TraceStep) → behind steps trace ≡ Some rest → trace ≡ steps ++ rest
behind_is [] trace rest is = some_is is
  where
    some_is : Some trace ≡ Some rest → trace ≡ rest
    some_is e = cc
behind_is (s ∷ steps) [] rest is = absurd (cc)
behind_is (s ∷ steps) (t ∷ trace) rest is = by (same_step s t) refl is (behind_is steps trace rest)
  where
    by : (same : Bool) → same_step s t ≡ same → (if same then behind steps trace else None) ≡ Some rest →
        (behind steps trace ≡ Some rest → trace ≡ steps ++ rest) → (t ∷ trace) ≡ (s ∷ steps) ++ rest
    by true e here later =
        ap (λ (u : TraceStep). u ∷ trace) (sym (step_is s t e)) ∙ ap (λ (us : List TraceStep). s ∷ us) (later here)
    by false e here later = absurd (cc)

pub bytes_behind : (steps rest : List TraceStep) → HaveBytes (steps ++ rest) → HaveBytes rest
bytes_behind [] rest have = have
bytes_behind (s ∷ steps) rest have = bytes_behind steps rest have.1
