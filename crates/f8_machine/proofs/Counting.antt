-- The questions of bus steps are counted, one step after another.
use Rattle.std.proofs.Common.{◌≡◌, ℕ, ◌+◌, ◌≤◌, List, [], ◌∷◌, ◌++◌, refl, sym, ap, ◌∙◌, arith}
use Rattle.std.proofs.lemmas.List.{map-append}
use Rattle.std.specs.Prelude.{Result, Ok, Err, IfOk, OnErr}
use Rattle.f8_spec.specs.ChipState.{ChipState}
use Rattle.f8_spec.specs.BusArbitration.{Ruling, Served as ServedBy, Conflict, Undriven, Astray}
use Rattle.probe.specs.ProbeState.{ProbeState}
use Rattle.data_bus.specs.Steps.{answered, step_answer}
use Rattle.data_bus.specs.declared.cycle.Cycle.{Cycle}
use Rattle.data_bus.specs.PageIndex.{allowance, followed}
use Rattle.data_bus.specs.declared.fault.BusFault.{BusFault}
use Rattle.data_bus.specs.declared.index.Index.{Index}
use Rattle.f8_machine.specs.Questions.{Asking, Counted, CountsOn, CountsOnTried, allowances, code_of, codes_of, followed_all}
use Rattle.f8_machine.specs.declared.heard.Heard.{Heard}

followed_all-more : (codes : List ℕ) (romc : ℕ) (index : Index) →
    followed_all (codes ++ romc ∷ []) index ≡ followed romc (followed_all codes index)
followed_all-more [] romc index = refl
followed_all-more (c ∷ codes) romc index = followed_all-more codes romc (followed c index)

allowances-more : (chips : ℕ) (codes : List ℕ) (romc : ℕ) (index : Index) →
    allowances chips index (codes ++ romc ∷ []) ≡ allowances chips index codes + allowance romc (followed_all codes index) chips
allowances-more chips [] romc index = omega arith
allowances-more chips (c ∷ codes) romc index =
    let later = allowances-more chips codes romc (followed c index) in
    omega (arith, later)

codes-more : (steps : List Heard) (h : Heard) → codes_of (steps ++ h ∷ []) ≡ codes_of steps ++ h.romc ∷ []
codes-more steps h = map-append (λ (x : Heard). x.romc) steps (h ∷ [])

-- the step that is next goes on with what is counted
allowance_next : (chips size romc : ℕ) (first known : Index) (codes : List ℕ) → chips ≡ size → known ≡ followed_all codes first →
    allowances chips first (codes ++ romc ∷ []) ≡ allowances chips first codes + allowance romc known size
allowance_next chips size romc first known codes same marks =
    allowances-more chips codes romc first
    ∙ ap (λ (i : Index). allowances chips first codes + allowance romc i chips) (sym marks)
    ∙ ap (λ (n : ℕ). allowances chips first codes + allowance romc known n) same

-- a step that is served
pub counts_by : (size : ℕ) (h : Heard) (known after : Index) (asked more : ℕ) (earlier now : List Heard) →
    after ≡ followed h.romc known → more ≤ asked + allowance h.romc known size → now ≡ earlier ++ h ∷ [] →
    CountsOn size (record { index = known; questions = asked; steps = earlier })
    (record { index = after; questions = more; steps = now })
counts_by size h known after asked more earlier now follows few told = record {
  on = λ chips first before same counted.
      let codes : codes_of now ≡ codes_of earlier ++ h.romc ∷ [] = ap codes_of told ∙ codes-more earlier h in
      let sum : allowances chips first (codes_of now) ≡ allowances chips first (codes_of earlier) + allowance h.romc known size =
      ap (allowances chips first) codes ∙ allowance_next chips size h.romc first known (codes_of earlier) same counted.marks in
      let so_far = counted.asked in
      record {
        marks = follows ∙ ap (followed h.romc) counted.marks ∙ sym (followed_all-more (codes_of earlier) h.romc first)
            ∙ ap (λ codes. followed_all codes first) (sym codes);
        asked = omega (arith, sum, so_far, few);
      };
}

-- the code of a fault is that of its step
answered_code : (romc byte : ℕ) (v : Ruling) (fault : BusFault) → Err fault ≡ answered romc byte v → code_of fault ≡ romc
answered_code romc byte (ServedBy socket) fault e = cc
answered_code romc byte (Conflict parties) fault e = let same : fault ≡ BusFault.Conflict romc parties = cc in ap code_of same
answered_code romc byte (Undriven at) fault e = let same : fault ≡ BusFault.Undriven romc at = cc in ap code_of same
answered_code romc byte (Astray socket at reference) fault e =
    let same : fault ≡ BusFault.Astray romc socket at reference = cc in ap code_of same

-- and one that is not
pub tried_by : (size : ℕ) (cycle : Cycle) (probe : ProbeState) (states : List ChipState) (fault : BusFault) (known after : Index)
    (asked more : ℕ) (earlier now : List Heard) → Err fault ≡ step_answer cycle probe states → after ≡ known →
    more ≤ asked + allowance cycle.romc known size → now ≡ earlier →
    CountsOnTried size fault (record { index = known; questions = asked; steps = earlier })
    (record { index = after; questions = more; steps = now })
tried_by size cycle probe states fault known after asked more earlier now answer stays few told = record {
  on = λ chips first before same counted.
      let code : code_of fault ≡ cycle.romc = answered_code cycle.romc _ _ fault answer in
      let sum : allowances chips first (codes_of now ++ code_of fault ∷ [])
      ≡ allowances chips first (codes_of earlier) + allowance cycle.romc known size =
      ap (λ (steps : List Heard). allowances chips first (codes_of steps ++ code_of fault ∷ [])) told
      ∙ ap (λ (c : ℕ). allowances chips first (codes_of earlier ++ c ∷ [])) code
      ∙ allowance_next chips size cycle.romc first known (codes_of earlier) same counted.marks in
      let so_far = counted.asked in
      record {
        marks = stays ∙ counted.marks ∙ ap (λ (steps : List Heard). followed_all (codes_of steps) first) (sym told);
        asked = omega (arith, sum, so_far, few);
      };
}

-- ---- several steps

pub counts_none : (size : ℕ) (now : Asking) → CountsOn size now now
counts_none size now = record { on = λ chips first before same counted. counted }

pub counts_both : (size mid : ℕ) (old between new : Asking) → mid ≡ size → CountsOn size old between → CountsOn mid between new → CountsOn size old new
counts_both size mid old between new alike one two = record {
  on = λ chips first before same counted. two.on chips first before (same ∙ sym alike) (one.on chips first before same counted);
}

pub counts_then_tried : (size mid : ℕ) (fault : BusFault) (old between new : Asking) → mid ≡ size → CountsOn size old between →
    CountsOnTried mid fault between new → CountsOnTried size fault old new
counts_then_tried size mid fault old between new alike one two = record {
  on = λ chips first before same counted. two.on chips first before (same ∙ sym alike) (one.on chips first before same counted);
}

-- after what is counted, a step with an answer
pub counts_if_ok : {A E : Type 0} (r : Result A E) (size mid : ℕ) (old between new : Asking) → mid ≡ size → CountsOn size old between →
    IfOk r (λ a. CountsOn mid between new) → IfOk r (λ a. CountsOn size old new)
counts_if_ok (Ok a) size mid old between new alike one two = counts_both size mid old between new alike one two
counts_if_ok (Err e) size mid old between new alike one two = two

pub tried_on_err : {A E : Type 0} (fault : BusFault) (r : Result A E) (size mid : ℕ) (old between new : Asking) → mid ≡ size →
    CountsOn size old between → OnErr r (CountsOnTried mid fault between new) → OnErr r (CountsOnTried size fault old new)
tried_on_err fault (Ok a) size mid old between new alike one two = two
tried_on_err fault (Err e) size mid old between new alike one two = counts_then_tried size mid fault old between new alike one two

-- at the beginning nothing is counted
pub counted_none : (chips : ℕ) (index : Index) (questions : ℕ) (steps : List Heard) → steps ≡ [] →
    Counted chips index questions (record { index = index; questions = questions; steps = steps })
counted_none chips index questions steps none = record {
  marks = ap (λ (l : List Heard). followed_all (codes_of l) index) (sym none);
  asked = rw none (omega arith);
}
