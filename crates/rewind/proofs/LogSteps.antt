-- What the calls of a log do to the entries that its marks stand for.
use Rattle.std.proofs.Common.{◌≡◌, ℕ, zero, suc, ◌+◌, ◌-◌, ◌<◌, ◌≤◌, List, [], ◌∷◌, ◌++◌, length, take, drop}
use Rattle.std.proofs.Common.{append-nil, add-one, refl, sym, ap, ◌∙◌, subst, arith}
use Rattle.std.specs.Prelude.{Some, None, replicate, slice_get}
use Rattle.std.proofs.lemmas.List.{length-drop, take_all}
use Rattle.console_spec.specs.declared.Event.{Event}
use Rattle.rewind.specs.LogView.{AreInOrder, entries}
use Rattle.rewind.specs.declared.entry.Entry.{Entry}
use Rattle.rewind.specs.declared.entry.Entry.TheVariants.{Happens, Instruction}
use Rattle.rewind.specs.declared.log.Mark.{Mark}
use Rattle.rewind.proofs.Entries.{entries-append, order-append, order_least}

-- ---- what comes next

-- no mark comes next
abbrev pub IsBetween : List Mark → ℕ → Type 0
IsBetween [] place = Unit {0}
IsBetween (m ∷ ms) place = m.after ≡ place → ⊥

-- a mark comes next
pub record ComesNext (ms : List Mark) (place : ℕ) (event : Event) : Type 0 where
  pub mark : Mark
  pub later : List Mark
  pub is : ms ≡ mark ∷ later
  pub now : mark.after ≡ place
  pub event_is : mark.event ≡ event

-- an instruction comes next
pub record IsInstructionNext (ms : List Mark) (place total : ℕ) : Type 0 where
  pub between : IsBetween ms place
  pub fewer : place < total

first_event : (m : Mark) (ms : List Mark) (place total : ℕ) → m.after ≡ place →
    entries (m ∷ ms) place total ≡ Happens m.event ∷ entries ms place total
first_event m ms place total now =
    let none : m.after - place ≡ 0 = omega arith in
    rw none (ap (λ (k : ℕ). Happens m.event ∷ entries ms k total) now)

first_instruction : (ms : List Mark) (place total : ℕ) → AreInOrder ms place total → IsInstructionNext ms place total →
    entries ms place total ≡ Instruction ∷ entries ms (place + 1) total
first_instruction [] place total order next =
    let fewer : place < total = next.fewer in
    let one : total - place ≡ suc (total - (place + 1)) = omega arith in
    rw one refl
first_instruction (m ∷ ms) place total order next =
    let between : m.after ≡ place → ⊥ = next.between in
    let least : place ≤ m.after = order.0 in
    let one : m.after - place ≡ suc (m.after - (place + 1)) = omega arith in
    rw one refl

order_next : (ms : List Mark) (place total : ℕ) → AreInOrder ms place total → IsInstructionNext ms place total →
    AreInOrder ms (place + 1) total
order_next [] place total order next = let fewer : place < total = next.fewer in omega arith
order_next (m ∷ ms) place total order next =
    let between : m.after ≡ place → ⊥ = next.between in
    let least : place ≤ m.after = order.0 in
    (omega arith, order.1)

-- what the log tells is what comes next
pub event_next : (ms : List Mark) (place total : ℕ) (event : Event) → AreInOrder ms place total →
    slice_get (entries ms place total) 0 ≡ Some (Happens event) → ComesNext ms place event
event_next [] place total event order is = by (total - place) is
  where
    by : (n : ℕ) → slice_get (replicate n Instruction) 0 ≡ Some (Happens event) → ComesNext [] place event
    by zero is = cc
    by (suc n) is = cc
event_next (m ∷ ms) place total event order is = by (m.after - place) refl is
  where
    by : (n : ℕ) → m.after - place ≡ n →
        slice_get (replicate n Instruction ++ Happens m.event ∷ entries ms m.after total) 0 ≡ Some (Happens event) →
        ComesNext (m ∷ ms) place event
    by zero none is =
        let least : place ≤ m.after = order.0 in
        record { mark = m; later = ms; is = refl; now = omega arith; event_is = cc }
    by (suc n) some is = cc

pub instruction_next : (ms : List Mark) (place total : ℕ) → AreInOrder ms place total →
    slice_get (entries ms place total) 0 ≡ Some Instruction → IsInstructionNext ms place total
instruction_next [] place total order is = by (total - place) refl is
  where
    by : (n : ℕ) → total - place ≡ n → slice_get (replicate n Instruction) 0 ≡ Some Instruction → IsInstructionNext [] place total
    by zero none is = cc
    by (suc n) some is = record { between = tt; fewer = omega arith }
instruction_next (m ∷ ms) place total order is = by (m.after - place) refl is
  where
    by : (n : ℕ) → m.after - place ≡ n →
        slice_get (replicate n Instruction ++ Happens m.event ∷ entries ms m.after total) 0 ≡ Some Instruction →
        IsInstructionNext (m ∷ ms) place total
    by zero none is = cc
    by (suc n) some is =
        let most : m.after ≤ total = order_least ms m.after total order.1 in
        record { between = λ now. omega arith; fewer = omega arith }

-- ---- what is told of the next entry

pub tells_event : (ms : List Mark) (place total : ℕ) (m : Mark) → slice_get ms 0 ≡ Some m → m.after ≡ place →
    slice_get (entries ms place total) 0 ≡ Some (Happens m.event)
tells_event [] place total m lies now = cc
tells_event (x ∷ ms) place total m lies now =
    let same : x ≡ m = cc in
    let here : x.after ≡ place = ap (λ (y : Mark). y.after) same ∙ now in
    ap (λ (es : List Entry). slice_get es 0) (first_event x ms place total here) ∙ ap (λ (y : Mark). Some (Happens y.event)) same

pub tells_instruction : (ms : List Mark) (place total : ℕ) → AreInOrder ms place total → IsBetween ms place → place < total →
    slice_get (entries ms place total) 0 ≡ Some Instruction
tells_instruction ms place total order between fewer =
    ap (λ (es : List Entry). slice_get es 0)
    (first_instruction ms place total order (record { between = between; fewer = fewer }))

pub tells_none : (ms : List Mark) (place total : ℕ) → AreInOrder ms place total → IsBetween ms place → total ≤ place →
    slice_get (entries ms place total) 0 ≡ None
tells_none [] place total order between all = let none : total - place ≡ 0 = omega arith in rw none refl
tells_none (m ∷ ms) place total order between all =
    let least : place ≤ m.after = order.0 in
    let most : m.after ≤ total = order_least ms m.after total order.1 in
    absurd (between (omega arith))

pub between_by : (ms : List Mark) (place : ℕ) → ((m : Mark) → slice_get ms 0 ≡ Some m → m.after ≡ place → ⊥) → IsBetween ms place
between_by [] place apart = tt
between_by (m ∷ ms) place apart = λ now. apart m refl now

pub first_of_drop : (ms : List Mark) (n : ℕ) → slice_get (drop n ms) 0 ≡ slice_get ms n
first_of_drop [] zero = refl
first_of_drop [] (suc n) = refl
first_of_drop (m ∷ ms) zero = refl
first_of_drop (m ∷ ms) (suc n) = first_of_drop ms n

-- ---- an entry is played

take_split : (n : ℕ) (ms : List Mark) (m : Mark) (later : List Mark) → drop n ms ≡ m ∷ later → take (suc n) ms ≡ take n ms ++ m ∷ []
take_split zero [] m later is = cc
take_split zero (x ∷ ms) m later is = let same : x ≡ m = cc in ap (λ (y : Mark). y ∷ []) same
take_split (suc n) [] m later is = cc
take_split (suc n) (x ∷ ms) m later is = ap (λ (xs : List Mark). x ∷ xs) (take_split n ms m later is)

drop_split : (n : ℕ) (ms : List Mark) (m : Mark) (later : List Mark) → drop n ms ≡ m ∷ later → drop (suc n) ms ≡ later
drop_split zero [] m later is = cc
drop_split zero (x ∷ ms) m later is = cc
drop_split (suc n) [] m later is = cc
drop_split (suc n) (x ∷ ms) m later is = drop_split n ms m later is

few_split : (n : ℕ) (ms : List Mark) (m : Mark) (later : List Mark) → drop n ms ≡ m ∷ later → n + 1 ≤ length ms
few_split zero [] m later is = cc
few_split zero (x ∷ ms) m later is = omega arith
few_split (suc n) [] m later is = cc
few_split (suc n) (x ∷ ms) m later is = let rest = few_split n ms m later is in omega arith

-- the marks and the instructions that were played, with an entry more
pub record OnePlayed (ms : List Mark) (next place after_next after_place total : ℕ) (entry : Entry) : Type 0 where
  pub few : after_next ≤ length ms
  pub before : AreInOrder (take after_next ms) 0 after_place
  pub behind : AreInOrder (drop after_next ms) after_place total
  pub played : entries (take after_next ms) 0 after_place ≡ entries (take next ms) 0 place ++ entry ∷ []
  pub left : entries (drop next ms) place total ≡ entry ∷ entries (drop after_next ms) after_place total

pub one_mark : (m : Mark) (place : ℕ) → m.after ≡ place → AreInOrder (m ∷ []) place place
one_mark m place now = (omega arith, omega arith)

pub one_entry : (m : Mark) (place : ℕ) → m.after ≡ place → entries (m ∷ []) place place ≡ Happens m.event ∷ []
one_entry m place now = first_event m [] place place now ∙ (let none : place - place ≡ 0 = omega arith in rw none refl)

pub event_played : (ms : List Mark) (next place total : ℕ) (event : Event) → AreInOrder (take next ms) 0 place →
    AreInOrder (drop next ms) place total → ComesNext (drop next ms) place event →
    OnePlayed ms next place (next + 1) place total (Happens event)
event_played ms next place total event before behind comes =
    let m : Mark = comes.mark in
    let same : Happens m.event ≡ Happens event = ap Happens comes.event_is in
    let earlier : take (next + 1) ms ≡ take next ms ++ m ∷ [] = rw add-one (take_split next ms m comes.later comes.is) in
    let rest : drop (next + 1) ms ≡ comes.later = rw add-one (drop_split next ms m comes.later comes.is) in
    let order : AreInOrder (m ∷ comes.later) place total = subst (λ (xs : List Mark). AreInOrder xs place total) comes.is behind in
    let later : AreInOrder comes.later place total = subst (λ (k : ℕ). AreInOrder comes.later k total) comes.now order.1 in
    record {
      few = few_split next ms m comes.later comes.is;
      before = subst (λ (xs : List Mark). AreInOrder xs 0 place) (sym earlier)
          (order-append (take next ms) (m ∷ []) 0 place place before (one_mark m place comes.now));
      behind = subst (λ (xs : List Mark). AreInOrder xs place total) (sym rest) later;
      played = ap (λ (xs : List Mark). entries xs 0 place) earlier
          ∙ entries-append (take next ms) (m ∷ []) 0 place place before (one_mark m place comes.now)
          ∙ ap (λ (es : List Entry). entries (take next ms) 0 place ++ es) (one_entry m place comes.now)
          ∙ ap (λ (e : Entry). entries (take next ms) 0 place ++ e ∷ []) same;
      left = ap (λ (xs : List Mark). entries xs place total) comes.is ∙ first_event m comes.later place total comes.now
          ∙ ap (λ (xs : List Mark). Happens m.event ∷ entries xs place total) (sym rest)
          ∙ ap (λ (e : Entry). e ∷ entries (drop (next + 1) ms) place total) same;
    }

-- one more instruction behind marks in order
pub order_more : (ms : List Mark) (place : ℕ) → AreInOrder ms 0 place → AreInOrder ms 0 (place + 1)
order_more ms place order =
    subst (λ (xs : List Mark). AreInOrder xs 0 (place + 1)) (append-nil ms) (order-append ms [] 0 place (place + 1) order (omega arith))

pub more_played : (ms : List Mark) (place : ℕ) → AreInOrder ms 0 place → entries ms 0 (place + 1) ≡ entries ms 0 place ++ Instruction ∷ []
more_played ms place order =
    ap (λ (xs : List Mark). entries xs 0 (place + 1)) (sym (append-nil ms))
    ∙ entries-append ms [] 0 place (place + 1) order (omega arith)
    ∙ (let one : (place + 1) - place ≡ 1 = omega arith in
    ap (λ (k : ℕ). entries ms 0 place ++ replicate k Instruction) one)

pub instruction_played : (ms : List Mark) (next place total : ℕ) → next ≤ length ms → AreInOrder (take next ms) 0 place →
    AreInOrder (drop next ms) place total → IsInstructionNext (drop next ms) place total →
    OnePlayed ms next place next (place + 1) total Instruction
instruction_played ms next place total few before behind comes = record {
  few = few;
  before = order_more (take next ms) place before;
  behind = order_next (drop next ms) place total behind comes;
  played = more_played (take next ms) place before;
  left = first_instruction (drop next ms) place total behind comes;
}

-- ---- all were played

pub record AllPlayed (ms : List Mark) (next place total : ℕ) : Type 0 where
  pub marks : next ≡ length ms
  pub taken : take next ms ≡ ms
  pub instructions : place ≡ total

nothing_left : (ms : List Mark) (place total : ℕ) → AreInOrder ms place total → entries ms place total ≡ [] → ms ≡ []
nothing_left [] place total order none = refl
nothing_left (m ∷ ms) place total order none = by (m.after - place) none
  where
    by : (n : ℕ) → replicate n Instruction ++ Happens m.event ∷ entries ms m.after total ≡ [] → m ∷ ms ≡ []
    by zero none = cc
    by (suc n) none = cc

no_instruction_left : (ms : List Mark) (place total : ℕ) → AreInOrder ms place total → entries ms place total ≡ [] → place ≡ total
no_instruction_left [] place total order none = by (total - place) refl none
  where
    by : (n : ℕ) → total - place ≡ n → replicate n Instruction ≡ [] → place ≡ total
    by zero is none = omega arith
    by (suc n) is none = cc
no_instruction_left (m ∷ ms) place total order none =
    let impossible : m ∷ ms ≡ [] = nothing_left (m ∷ ms) place total order none in cc

pub all_played : (ms : List Mark) (next place total : ℕ) → next ≤ length ms → AreInOrder (drop next ms) place total →
    entries (drop next ms) place total ≡ [] → AllPlayed ms next place total
all_played ms next place total few behind none =
    let empty : drop next ms ≡ [] = nothing_left (drop next ms) place total behind none in
    let size : length ms - next ≡ 0 = sym (length-drop next ms) ∙ ap length empty in
    record {
      marks = omega arith;
      taken = take_all next ms (omega arith);
      instructions = no_instruction_left (drop next ms) place total behind none;
    }
