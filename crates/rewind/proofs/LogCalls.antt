-- What the calls of a log do to what contracts see of it.
use Rattle.std.proofs.Common.{◌≡◌, ℕ, ◌+◌, ◌-◌, ◌<◌, ◌≤◌, List, [], ◌∷◌, ◌++◌, length, take, drop, refl, sym, ap, ap₂, ◌∙◌, subst, arith}
use Rattle.std.specs.Prelude.{Option, Some, None, Result, Ok, Err, IsOk, is_ok, if◌then◌else◌, slice_get, vec_capacity, vec_len}
use Rattle.std.proofs.lemmas.List.{take-append-drop, length-drop, length-take-le, length_push, take_all}
use Rattle.std.proofs.Math.Seq.{drop-length}
use Rattle.console_spec.specs.declared.Event.{Event}
use Rattle.rewind.specs.LogEntries.{IsAtEnd, LogState, Plays, events_in, instructions_in}
use Rattle.rewind.specs.LogView.{AreInOrder, IsKept, entries, log_state}
use Rattle.rewind.specs.declared.entry.Entry.{Entry}
use Rattle.rewind.specs.declared.entry.Entry.TheVariants.{Happens, Instruction}
use Rattle.rewind.specs.declared.log.Log.TheInside.{Inside}
use Rattle.rewind.specs.declared.log.Mark.{Mark}
use Rattle.rewind.proofs.Entries.{entries-append, events-entries, instructions-entries, order-append}
use Rattle.rewind.proofs.LogSteps.{AllPlayed, IsBetween, IsInstructionNext, OnePlayed, all_played, between_by, event_next, event_played}
use Rattle.rewind.proofs.LogSteps.{first_of_drop, instruction_next, instruction_played, more_played, one_entry, one_mark, order_more}
use Rattle.rewind.proofs.LogSteps.{tells_event, tells_instruction, tells_none}

-- ---- counts

pub place_is : (l : Inside) → IsKept l → l.place ≡ instructions_in (log_state l).played
place_is l kept = let counted = instructions-entries (take l.next l.marks.items) 0 l.place kept.before in omega arith

pub length_is : (l : Inside) → IsKept l → l.total ≡ instructions_in (log_state l).played + instructions_in (log_state l).left
length_is l kept =
    let played = instructions-entries (take l.next l.marks.items) 0 l.place kept.before in
    let left = instructions-entries (drop l.next l.marks.items) l.place l.total kept.behind in
    omega arith

-- the events that are left are the marks behind those that were played
pub events_left : (l : Inside) → events_in (log_state l).left ≡ length l.marks.items - l.next
events_left l = events-entries (drop l.next l.marks.items) l.place l.total ∙ length-drop l.next l.marks.items

-- ---- rewinding

pub order_whole : (l : Inside) → IsKept l → AreInOrder l.marks.items 0 l.total
order_whole l kept = subst (λ (ms : List Mark). AreInOrder ms 0 l.total) (take-append-drop l.next l.marks.items)
    (order-append (take l.next l.marks.items) (drop l.next l.marks.items) 0 l.place l.total kept.before kept.behind)

pub entries_whole : (l : Inside) → IsKept l → entries l.marks.items 0 l.total ≡ (log_state l).played ++ (log_state l).left
entries_whole l kept = ap (λ (ms : List Mark). entries ms 0 l.total) (sym (take-append-drop l.next l.marks.items))
    ∙ entries-append (take l.next l.marks.items) (drop l.next l.marks.items) 0 l.place l.total kept.before kept.behind

-- ---- cutting

-- no marks and no instructions
none_left : (ms : List Mark) (place : ℕ) → length ms ≡ 0 → entries ms place place ≡ []
none_left [] place none = let nothing : place - place ≡ 0 = omega arith in rw nothing refl
none_left (m ∷ ms) place none = absurd (omega arith)

abbrev pub state : List Entry → List Entry → ℕ → LogState
state played left spare = record { played = played; left = left; spare = spare }

same_state : (p q : List Entry) (a b : List Entry) (m n : ℕ) → p ≡ q → a ≡ b → m ≡ n → state p a m ≡ state q b n
same_state p q a b m n played left spare =
    ap (λ (es : List Entry). state es a m) played ∙ ap₂ (λ (es : List Entry) (k : ℕ). state q es k) left spare

-- where the marks that were played are all that is kept
pub cut_is : (l : Inside) → IsKept l → (ms : List Mark) → ms ≡ take l.next l.marks.items →
    state (entries (take l.next ms) 0 l.place) (entries (drop l.next ms) l.place l.place) (l.room - length ms)
    ≡ state (log_state l).played [] ((log_state l).spare + events_in (log_state l).left)
cut_is l kept ms is =
    let size : length ms ≡ l.next = ap length is ∙ length-take-le l.next l.marks.items kept.next in
    let all : take l.next ms ≡ ms = take_all l.next ms (omega arith) in
    let rest : length (drop l.next ms) ≡ 0 = length-drop l.next ms ∙ (omega arith) in
    let events = events_left l in
    let next : l.next ≤ length l.marks.items = kept.next in
    let within : length l.marks.items ≤ l.room = kept.within in
    same_state (entries (take l.next ms) 0 l.place) (log_state l).played (entries (drop l.next ms) l.place l.place) []
    (l.room - length ms) ((log_state l).spare + events_in (log_state l).left)
    (ap (λ (xs : List Mark). entries xs 0 l.place) (all ∙ is)) (none_left (drop l.next ms) l.place rest) (omega arith)

-- ---- adding

rest_none : (ms : List Mark) (n : ℕ) → n ≡ length ms → drop n ms ≡ []
rest_none ms n all = ap (λ (k : ℕ). drop k ms) all ∙ drop-length ms

-- an instruction behind all entries
pub record InstructionAdded (l : Inside) : Type 0 where
  pub before : AreInOrder (take l.next l.marks.items) 0 (l.place + 1)
  pub behind : AreInOrder (drop l.next l.marks.items) (l.place + 1) (l.total + 1)
  pub state_is : state (entries (take l.next l.marks.items) 0 (l.place + 1))
      (entries (drop l.next l.marks.items) (l.place + 1) (l.total + 1)) (log_state l).spare
      ≡ state ((log_state l).played ++ Instruction ∷ []) (log_state l).left (log_state l).spare

-- what contracts see as ended is
pub seen_ended : (l : Inside) (s : LogState) → log_state l ≡ s → s.left ≡ [] → (log_state l).left ≡ []
seen_ended l s view none = ap (λ (t : LogState). t.left) view ∙ none

ended : (l : Inside) → IsKept l → (log_state l).left ≡ [] → AllPlayed l.marks.items l.next l.place l.total
ended l kept none = all_played l.marks.items l.next l.place l.total kept.next kept.behind none

-- then there are as many as were played
pub total_is : (l : Inside) → IsKept l → (log_state l).left ≡ [] → l.total ≡ instructions_in (log_state l).played
total_is l kept none = sym (ended l kept none).instructions ∙ place_is l kept

pub instruction_added : (l : Inside) → IsKept l → (log_state l).left ≡ [] → InstructionAdded l
instruction_added l kept none =
    let all : AllPlayed l.marks.items l.next l.place l.total = ended l kept none in
    let empty : drop l.next l.marks.items ≡ [] = rest_none l.marks.items l.next all.marks in
    let same : l.place ≡ l.total = all.instructions in
    record {
      before = order_more (take l.next l.marks.items) l.place kept.before;
      behind = subst (λ (ms : List Mark). AreInOrder ms (l.place + 1) (l.total + 1)) (sym empty) (omega arith);
      state_is = same_state (entries (take l.next l.marks.items) 0 (l.place + 1)) ((log_state l).played ++ Instruction ∷ [])
          (entries (drop l.next l.marks.items) (l.place + 1) (l.total + 1)) (log_state l).left (log_state l).spare (log_state l).spare
          (more_played (take l.next l.marks.items) l.place kept.before)
          (ap (λ (n : ℕ). entries (drop l.next l.marks.items) (l.place + 1) (n + 1)) (sym same)
          ∙ none_left (drop l.next l.marks.items) (l.place + 1) (ap length empty) ∙ sym none)
          refl;
    }

-- an event behind all entries
pub record EventAdded (l : Inside) (ms : List Mark) (event : Event) : Type 0 where
  pub within : length ms ≤ l.room
  pub few : l.next + 1 ≤ length ms
  pub before : AreInOrder (take (l.next + 1) ms) 0 l.place
  pub behind : AreInOrder (drop (l.next + 1) ms) l.place l.total
  pub played : entries (take (l.next + 1) ms) 0 l.place ≡ (log_state l).played ++ Happens event ∷ []
  pub left : entries (drop (l.next + 1) ms) l.place l.total ≡ []

event_added : (l : Inside) → IsKept l → (log_state l).left ≡ [] → length l.marks.items < l.room → (event : Event) (ms : List Mark) →
    ms ≡ l.marks.items ++ record { after = l.place; event = event } ∷ [] → EventAdded l ms event
event_added l kept none room event ms is =
    let m : Mark = record { after = l.place; event = event } in
    let all : AllPlayed l.marks.items l.next l.place l.total = ended l kept none in
    let same : l.place ≡ l.total = all.instructions in
    let marks : l.next ≡ length l.marks.items = all.marks in
    let size : length ms ≡ length l.marks.items + 1 = ap length is ∙ length_push l.marks.items m in
    let whole : take (l.next + 1) ms ≡ take l.next l.marks.items ++ m ∷ [] =
    take_all (l.next + 1) ms (omega arith) ∙ is ∙ ap (λ (xs : List Mark). xs ++ m ∷ []) (sym all.taken) in
    let empty : drop (l.next + 1) ms ≡ [] = rest_none ms (l.next + 1) (omega arith) in
    record {
      within = omega arith;
      few = omega arith;
      before = subst (λ (xs : List Mark). AreInOrder xs 0 l.place) (sym whole)
          (order-append (take l.next l.marks.items) (m ∷ []) 0 l.place l.place kept.before (one_mark m l.place refl));
      behind = subst (λ (xs : List Mark). AreInOrder xs l.place l.total) (sym empty) (omega arith);
      played = ap (λ (xs : List Mark). entries xs 0 l.place) whole
          ∙ entries-append (take l.next l.marks.items) (m ∷ []) 0 l.place l.place kept.before (one_mark m l.place refl)
          ∙ ap (λ (es : List Entry). (log_state l).played ++ es) (one_entry m l.place refl);
      left = ap (λ (n : ℕ). entries (drop (l.next + 1) ms) l.place n) (sym same)
          ∙ none_left (drop (l.next + 1) ms) l.place (ap length empty);
    }

-- a push that succeeds where there is room
pushed : {A B : Type 0} (r : Result A B) (xs ys zs : List Mark) → IsOk r → zs ≡ (if is_ok r then xs else ys) → zs ≡ xs
pushed (Ok a) xs ys zs ok is = is
pushed (Err b) xs ys zs ok is = cc

pub event_pushed : {A B : Type 0} (l : Inside) → IsKept l → (seen : LogState) → log_state l ≡ seen → seen.left ≡ [] → 0 < seen.spare →
    (event : Event) (ms : List Mark) (r : Result A B) → (vec_len l.marks < vec_capacity l.marks → IsOk r) →
    ms ≡ (if is_ok r then l.marks.items ++ record { after = l.place; event = event } ∷ [] else l.marks.items) → EventAdded l ms event
event_pushed l kept seen view none some event ms r succeeds is =
    let room : (log_state l).spare ≡ seen.spare = ap (λ (s : LogState). s.spare) view in
    let within : length l.marks.items ≤ l.room = kept.within in
    let reserved : l.room ≤ vec_capacity l.marks = kept.reserved in
    let fits : vec_len l.marks < vec_capacity l.marks = omega arith in
    event_added l kept (seen_ended l seen view none) (omega arith) event ms
    (pushed r (l.marks.items ++ record { after = l.place; event = event } ∷ []) l.marks.items ms (succeeds fits) is)

-- ---- what comes next

-- the mark that was looked up, if there is one, doesn't come next
module _ (l : Inside) (kept : IsKept l) (seen : LogState) (view : log_state l ≡ seen) (found : Option Mark)
    (looked : found ≡ slice_get l.marks.items l.next) (apart : (m : Mark) → found ≡ Some m → m.after ≡ l.place → ⊥) where
  between : IsBetween (drop l.next l.marks.items) l.place
  between = between_by (drop l.next l.marks.items) l.place
      (λ m lies. apart m (looked ∙ sym (first_of_drop l.marks.items l.next) ∙ lies))

  pub told_instruction : l.place < l.total → Some Instruction ≡ slice_get seen.left 0
  told_instruction fewer =
      sym (tells_instruction (drop l.next l.marks.items) l.place l.total kept.behind between fewer)
      ∙ ap (λ (s : LogState). slice_get s.left 0) view

  pub told_none : l.total ≤ l.place → None ≡ slice_get seen.left 0
  told_none all =
      sym (tells_none (drop l.next l.marks.items) l.place l.total kept.behind between all)
      ∙ ap (λ (s : LogState). slice_get s.left 0) view

pub told_event : (l : Inside) (seen : LogState) → log_state l ≡ seen → (m : Mark) → slice_get l.marks.items l.next ≡ Some m →
    m.after ≡ l.place → Some (Happens m.event) ≡ slice_get seen.left 0
told_event l seen view m lies now =
    sym (tells_event (drop l.next l.marks.items) l.place l.total m (first_of_drop l.marks.items l.next ∙ lies) now)
    ∙ ap (λ (s : LogState). slice_get s.left 0) view

-- ---- playing

-- an entry was played, of a log as contracts saw it
pub record IsPlayed (l : Inside) (seen : LogState) (after_next after_place : ℕ) (entry : Entry) : Type 0 where
  pub one : OnePlayed l.marks.items l.next l.place after_next after_place l.total entry
  pub plays : Plays entry seen (state (entries (take after_next l.marks.items) 0 after_place)
      (entries (drop after_next l.marks.items) after_place l.total) (l.room - length l.marks.items))

is_played : (l : Inside) (seen : LogState) → log_state l ≡ seen → (after_next after_place : ℕ) (entry : Entry) →
    OnePlayed l.marks.items l.next l.place after_next after_place l.total entry → IsPlayed l seen after_next after_place entry
is_played l seen view after_next after_place entry one = record {
  one = one;
  plays = record {
    left = ap (λ (s : LogState). s.left) (sym view) ∙ one.left;
    played = one.played ∙ ap (λ (s : LogState). s.played ++ entry ∷ []) view;
    spare = ap (λ (s : LogState). s.spare) view;
  };
}

pub plays_event : (l : Inside) → IsKept l → (seen : LogState) → log_state l ≡ seen → (event : Event) →
    slice_get seen.left 0 ≡ Some (Happens event) → IsPlayed l seen (l.next + 1) l.place (Happens event)
plays_event l kept seen view event tells =
    is_played l seen view (l.next + 1) l.place (Happens event)
    (event_played l.marks.items l.next l.place l.total event kept.before kept.behind
    (event_next (drop l.next l.marks.items) l.place l.total event kept.behind
    (ap (λ (s : LogState). slice_get s.left 0) view ∙ tells)))

-- an instruction, of which there was one more
pub record InstructionPlayed (l : Inside) (seen : LogState) : Type 0 where
  pub played : IsPlayed l seen l.next (l.place + 1) Instruction
  pub fewer : l.place < l.total

pub plays_instruction : (l : Inside) → IsKept l → (seen : LogState) → log_state l ≡ seen →
    slice_get seen.left 0 ≡ Some Instruction → InstructionPlayed l seen
plays_instruction l kept seen view tells =
    let comes : IsInstructionNext (drop l.next l.marks.items) l.place l.total =
    instruction_next (drop l.next l.marks.items) l.place l.total kept.behind (ap (λ (s : LogState). slice_get s.left 0) view ∙ tells) in
    record {
      played = is_played l seen view l.next (l.place + 1) Instruction
          (instruction_played l.marks.items l.next l.place l.total kept.next kept.before kept.behind comes);
      fewer = comes.fewer;
    }

pub at_end : (seen : LogState) → slice_get seen.left 0 ≡ None → IsAtEnd seen seen
at_end seen none = record { left = by seen.left none; stays = refl }
  where
    by : (es : List Entry) → slice_get es 0 ≡ None → es ≡ []
    by [] is = refl
    by (e ∷ es) is = cc
