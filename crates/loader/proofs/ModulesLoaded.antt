-- The modules of a plan, one after another, and what they are linked to.
use Rattle.std.proofs.Common.{◌≡◌, ℕ, zero, suc, ◌+◌, ◌-◌, ◌<◌, ◌≤◌, List, [], ◌∷◌, ◌++◌, length, Option, Some, None, Result, Ok, Err}
use Rattle.std.proofs.Common.{refl, sym, ap, subst, arith, map, get_or}
use Rattle.std.proofs.lemmas.List.{length-map}
use Rattle.std.specs.Prelude.{slice_get}
use Rattle.outside.specs.StoreRules.{Input}
use Rattle.f8_asm.specs.Image.{Picture}
use Rattle.f8_link.specs.Linking.{linked_of}
use Rattle.f8_link.specs.Objects.{Object}
use Rattle.f8_link.specs.Plans.{PlannedModule, module_seen}
use Rattle.f8_link.specs.ThirdPass.{compiled}
use Rattle.f8_link.specs.declared.answers.LinkFault.{LinkFault}
use Rattle.f8_link.specs.declared.answers.ModFault.{ModFault}
use Rattle.f8_link.specs.declared.parts.Part.{Part}
use Rattle.f8_link.specs.declared.plan.ModuleLine.{ModuleLine}
use Rattle.loader.specs.declared.purposes.Purpose.TheVariants.{Plan, Module}
use Rattle.loader.specs.declared.refusals.Refusal.{Refusal}
use Rattle.loader.specs.declared.refusals.Refusal.TheVariants as refusal
use Rattle.loader.specs.declared.refusals.Stop.{Stop}
use Rattle.loader.specs.declared.refusals.Stop.TheVariants.{Refused, Store, Memory}
use Rattle.loader.specs.Games.{module_for, part_added, part_at, parts_up_to, parts_of, linked_by}
use Rattle.loader.specs.Readings.{Says, object_told, object_in, modules_in, linked_told, linked_in}
use Rattle.loader.specs.Work.{Work, ask, gives, reads, ◌>>=◌}
use Rattle.loader.specs.Works.{order_of, file_of, RefusesFrom, Works, outcome_as}
use Rattle.loader.proofs.WorkLaws.{works_gives, works_read, works_unsaid, works_memory, works_then, works_done, works_stop, works_text}
use Rattle.loader.proofs.WorkLaws.{works_seen}
use Rattle.loader.proofs.WorkLaws.{from_first, IsOrdered, ordered_gives, ordered_reads, ordered_ask, ordered_more, ordered_then}

-- ---- one module

module_order_of : (number : ℕ) (object : Result Object ModFault) (r : Refusal) → object_told number object ≡ Err r →
    number + 1 ≤ order_of (file_of r)
module_order_of number (Ok object) r e = cc e
module_order_of number (Err fault) r e = let same : refusal.Module number fault ≡ r = cc e in rw (← same) (omega arith)

pub module_order : {A : Type 0} (number : ℕ) (text : List ℕ) (seen : A → Object) (outcome : Result A Stop) →
    Says seen outcome (object_in number text) → RefusesFrom (number + 1) outcome
unfolding object_in
module_order number text seen (Ok x) says = tt
module_order number text seen (Err (Refused r)) says = module_order_of number (compiled text) r says
module_order number text seen (Err (Store p)) says = absurd says
module_order number text seen (Err Memory) says = tt

pub module_read : (a b : Input) (number : ℕ) (name text : List ℕ) (outcome : Result Object Stop) →
    Works a b (ask (Module number) name 262144) (Ok text) → Says (λ object. object) outcome (object_in number text) →
    Works a b (module_for number name) outcome
unfolding module_for
module_read a b number name text outcome first says =
    works_seen a b (ask (Module number) name 262144 >>= λ text. reads (object_in number text)) outcome
    (works_text a b (Module number) name text 262144 (λ object. object) (object_in number) outcome first says
    (module_order number text (λ object. object) outcome says))

pub module_stop : (a b : Input) (number : ℕ) (name : List ℕ) (stop : Stop) →
    Works a b (ask (Module number) name 262144) (Err stop) → Works a b (module_for number name) (Err stop)
unfolding module_for
module_stop a b number name stop first =
    works_stop a b (ask (Module number) name 262144) (λ text. reads (object_in number text)) stop first

-- behind those before it
abbrev behind : List Part → PlannedModule → Object → List Part
behind parts m object = parts ++ (record { object = object; room = m.room }) ∷ []

pub added : (a b : Input) (number : ℕ) (parts : List Part) (m : PlannedModule) (object : Object) →
    Works a b (module_for number m.file) (Ok object) →
    Works a b (part_added number parts m) (Ok (parts ++ (record { object = object; room = m.room }) ∷ []))
unfolding part_added
added a b number parts m object works = works_done a b (module_for number m.file) object (behind parts m) works

pub added_stop : (a b : Input) (number : ℕ) (parts : List Part) (m : PlannedModule) (stop : Stop) →
    Works a b (module_for number m.file) (Err stop) → Works a b (part_added number parts m) (Err stop)
unfolding part_added
added_stop a b number parts m stop works =
    works_stop a b (module_for number m.file) (λ object. gives (behind parts m object)) stop works

-- ---- the order of modules

ordered_module : (number : ℕ) (name : List ℕ) → IsOrdered (number + 1) (module_for number name)
unfolding module_for
ordered_module number name =
    ordered_then (number + 1) (ask (Module number) name 262144) (λ text. reads (object_in number text))
    (ordered_ask (number + 1) (Module number) name 262144 (omega arith))
    (λ text. ordered_reads (number + 1) (object_in number text))

pub added_short : (a b : Input) (number : ℕ) (parts : List Part) (m : PlannedModule) (object : Object) →
    Works a b (module_for number m.file) (Ok object) → Works a b (part_added number parts m) (Err Memory)
unfolding part_added
added_short a b number parts m object works =
    works_then a b b (module_for number m.file) object (λ object. gives (behind parts m object)) (Err Memory) (number + 1)
    (ordered_module number m.file) tt works (works_memory b (gives (behind parts m object)))

ordered_part : (number : ℕ) (parts : List Part) (m : Option PlannedModule) → IsOrdered (number + 1) (part_at number parts m)
unfolding part_added
ordered_part number parts None = ordered_gives (number + 1) parts
ordered_part number parts (Some m) =
    ordered_then (number + 1) (module_for number m.file) (λ object. gives (behind parts m object))
    (ordered_module number m.file) (λ object. ordered_gives (number + 1) (behind parts m object))

ordered_up_to : (number : ℕ) (modules : List PlannedModule) → IsOrdered number (parts_up_to number modules)
unfolding parts_up_to
ordered_up_to zero modules = ordered_gives 0 []
ordered_up_to (suc number) modules =
    let e : number + 1 ≡ suc number = omega arith in
    subst (λ (last : ℕ). IsOrdered last (parts_up_to number modules >>= λ parts. part_at number parts (slice_get modules number))) e
    (ordered_then (number + 1) (parts_up_to number modules) (λ parts. part_at number parts (slice_get modules number))
    (ordered_more number (number + 1) (parts_up_to number modules) (omega arith) (ordered_up_to number modules))
    (λ parts. ordered_part number parts (slice_get modules number)))

-- ---- modules one after another

pub no_part : (now : Input) (modules : List PlannedModule) → Works now now (parts_up_to 0 modules) (Ok [])
unfolding parts_up_to
no_part now modules = works_gives now []

one_more : (a b c : Input) (number : ℕ) (modules : List PlannedModule) (m : PlannedModule) (parts : List Part) (outcome : Result (List Part) Stop) →
    slice_get modules number ≡ Some m → Works a b (parts_up_to number modules) (Ok parts) →
    Works b c (part_added number parts m) outcome → RefusesFrom (number + 1) outcome → Works a c (parts_up_to (suc number) modules) outcome
unfolding parts_up_to
one_more a b c number modules m parts outcome here first second from =
    works_then a b c (parts_up_to number modules) parts (λ parts. part_at number parts (slice_get modules number)) outcome (number + 1)
    (ordered_more number (number + 1) (parts_up_to number modules) (omega arith) (ordered_up_to number modules)) from first
    (rw here second)

pub next_part : (a b c : Input) (number : ℕ) (modules : List PlannedModule) (m : PlannedModule) (parts next : List Part) →
    slice_get modules number ≡ Some m → Works a b (parts_up_to number modules) (Ok parts) →
    Works b c (part_added number parts m) (Ok next) → Works a c (parts_up_to (number + 1) modules) (Ok next)
next_part a b c number modules m parts next here first second =
    let e : suc number ≡ number + 1 = omega arith in
    subst (λ (n : ℕ). Works a c (parts_up_to n modules) (Ok next)) e
    (one_more a b c number modules m parts (Ok next) here first second tt)

-- what stops at a module stops for more of them, too
stops_once : (a b : Input) (number : ℕ) (modules : List PlannedModule) (stop : Stop) → Works a b (parts_up_to number modules) (Err stop) →
    Works a b (parts_up_to (suc number) modules) (Err stop)
unfolding parts_up_to
stops_once a b number modules stop works =
    works_stop a b (parts_up_to number modules) (λ parts. part_at number parts (slice_get modules number)) stop works

stops_behind : (a b : Input) (more number : ℕ) (modules : List PlannedModule) (stop : Stop) →
    Works a b (parts_up_to number modules) (Err stop) → Works a b (parts_up_to (more + number) modules) (Err stop)
stops_behind a b zero number modules stop works =
    let e : number ≡ 0 + number = omega arith in
    subst (λ (n : ℕ). Works a b (parts_up_to n modules) (Err stop)) e works
stops_behind a b (suc more) number modules stop works =
    let e : suc (more + number) ≡ suc more + number = omega arith in
    subst (λ (n : ℕ). Works a b (parts_up_to n modules) (Err stop)) e
    (stops_once a b (more + number) modules stop (stops_behind a b more number modules stop works))

pub parts_stop : (a b c : Input) (number : ℕ) (modules : List PlannedModule) (m : PlannedModule) (parts : List Part) (stop : Stop) →
    number < length modules → slice_get modules number ≡ Some m → Works a b (parts_up_to number modules) (Ok parts) →
    Works b c (part_added number parts m) (Err stop) → RefusesFrom {A = List Part} (number + 1) (Err stop) →
    Works a c (parts_of modules) (Err stop)
unfolding parts_of
parts_stop a b c number modules m parts stop below here first second from =
    let e : (length modules - suc number) + suc number ≡ length modules = omega (arith, below) in
    subst (λ (n : ℕ). Works a c (parts_up_to n modules) (Err stop)) e
    (stops_behind a c (length modules - suc number) (suc number) modules stop
    (one_more a b c number modules m parts (Err stop) here first second from))

pub all_parts : (a b : Input) (number : ℕ) (modules : List PlannedModule) (parts : List Part) → number ≡ length modules →
    Works a b (parts_up_to number modules) (Ok parts) → Works a b (parts_of modules) (Ok parts)
unfolding parts_of
all_parts a b number modules parts all works = subst (λ (n : ℕ). Works a b (parts_up_to n modules) (Ok parts)) all works

-- ---- linked

abbrev linked_behind : List Part → Work Picture
linked_behind parts = reads (linked_in parts)

abbrev modules_behind : List PlannedModule → Work Picture
modules_behind modules = parts_of modules >>= linked_behind

abbrev plan_behind : List ℕ → Work Picture
plan_behind text = reads (modules_in text) >>= modules_behind

pub linked_without_plan : (a b : Input) (plan : List ℕ) (stop : Stop) → Works a b (ask Plan plan 65536) (Err stop) →
    Works a b (linked_by plan) (Err stop)
unfolding linked_by
linked_without_plan a b plan stop works = works_stop a b (ask Plan plan 65536) plan_behind stop works

read_behind : (a b c : Input) (plan text : List ℕ) (outcome : Result Picture Stop) → Works a b (ask Plan plan 65536) (Ok text) →
    Works b c (plan_behind text) outcome → Works a c (linked_by plan) outcome
unfolding linked_by
read_behind a b c plan text outcome first second =
    works_then a b c (ask Plan plan 65536) text plan_behind outcome 0
    (ordered_ask 0 Plan plan 65536 (omega arith)) (from_first outcome) first second

pub linked_unread : {A : Type 0} (a b : Input) (plan text : List ℕ) (seen : A → List PlannedModule) (stop : Stop) →
    Works a b (ask Plan plan 65536) (Ok text) → Says seen (Err stop) (modules_in text) → Works a b (linked_by plan) (Err stop)
linked_unread a b plan text seen stop first says =
    read_behind a b b plan text (Err stop) first
    (works_stop b b (reads (modules_in text)) modules_behind stop (works_unsaid b seen (modules_in text) stop says))

-- the plan is read
module _ (a b : Input) (plan text : List ℕ) (modules : List PlannedModule) (first : Works a b (ask Plan plan 65536) (Ok text))
    (read : modules_in text ≡ Ok modules) where
  with_modules : (c : Input) (outcome : Result Picture Stop) → Works b c (modules_behind modules) outcome → Works a c (linked_by plan) outcome
  with_modules c outcome second =
      read_behind a b c plan text outcome first
      (works_then b b c (reads (modules_in text)) modules modules_behind outcome 0
      (ordered_reads 0 (modules_in text)) (from_first outcome) (works_read b (modules_in text) modules read) second)

  pub linked_without_parts : (c : Input) (stop : Stop) → Works b c (parts_of modules) (Err stop) → Works a c (linked_by plan) (Err stop)
  linked_without_parts c stop second = with_modules c (Err stop) (works_stop b c (parts_of modules) linked_behind stop second)

  few_ordered : length modules ≤ 64 → IsOrdered 64 (parts_of modules)
  unfolding parts_of
  few_ordered few = ordered_more (length modules) 64 (parts_up_to (length modules) modules) few (ordered_up_to (length modules) modules)

  link_order_of : (picture : Result Picture LinkFault) (r : Refusal) → linked_told picture ≡ Err r → 64 ≤ order_of (file_of r)
  link_order_of (Ok picture) r e = cc e
  link_order_of (Err fault) r e = let same : refusal.Link fault ≡ r = cc e in rw (← same) (omega arith)

  link_order : {A : Type 0} (parts : List Part) (seen : A → Picture) (outcome : Result A Stop) → Says seen outcome (linked_in parts) →
      RefusesFrom 64 outcome
  unfolding linked_in
  link_order parts seen (Ok x) says = tt
  link_order parts seen (Err (Refused r)) says = link_order_of (linked_of parts) r says
  link_order parts seen (Err (Store p)) says = absurd says
  link_order parts seen (Err Memory) says = tt

  said : (c : Input) (parts : List Part) (outcome : Result Picture Stop) → Says (λ picture. picture) outcome (linked_in parts) →
      Works c c (linked_behind parts) outcome
  said c parts (Ok picture) says = works_read c (linked_in parts) picture says
  said c parts (Err stop) says = works_unsaid c (λ picture. picture) (linked_in parts) stop says

  pub linked_loaded : (c : Input) (parts : List Part) (outcome : Result Picture Stop) → length modules ≤ 64 →
      Works b c (parts_of modules) (Ok parts) → Says (λ picture. picture) outcome (linked_in parts) → Works a c (linked_by plan) outcome
  linked_loaded c parts outcome few second says =
      with_modules c outcome
      (works_then b c c (parts_of modules) parts linked_behind outcome 64 (few_ordered few)
      (link_order parts (λ picture. picture) outcome says) second (said c parts outcome says))

-- ---- a module of the plan, as the loop has it

got : (ms : List ModuleLine) (i : ℕ) (m : ModuleLine) → i < length ms → m ≡ get_or ms i m → slice_get (map module_seen ms) i ≡ Some (module_seen m)
got [] i m within is = absurd (omega (arith, within))
got (x ∷ xs) zero m within is = ap (λ q. Some (module_seen q)) (sym is)
got (x ∷ xs) (suc i) m within is = got xs i m (omega (arith, within)) is

pub planned_at : (ms : List ModuleLine) (modules : List PlannedModule) (i : ℕ) (m : ModuleLine) → map module_seen ms ≡ modules → i < length ms
    → m ≡ get_or ms i m → slice_get modules i ≡ Some (module_seen m)
planned_at ms modules i m are within is = rw (← are) (got ms i m within is)

pub as_many : (ms : List ModuleLine) (modules : List PlannedModule) → map module_seen ms ≡ modules → length modules ≡ length ms
as_many ms modules are = rw (← are) (length-map ms module_seen)
