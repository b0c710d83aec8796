-- Works one after another.
use Rattle.std.proofs.Common.{◌≡◌, ℕ, zero, suc, ◌+◌, ◌<◌, ◌≤◌, ◌⊎◌, inl, inr, List, [], ◌∷◌, ◌++◌, length, slice_get}
use Rattle.std.proofs.Common.{Option, Some, None, Result, Ok, Err, true, false, refl, sym, ap, ◌∙◌, subst, arith}
use Rattle.std.proofs.lemmas.List.{append_assoc}
use Rattle.std.proofs.lemmas.Bool.{le-leb}
use Rattle.std.proofs.lemmas.Bool.Decides.{leb_tells}
use Rattle.std.specs.Prelude.{nat_le, if◌then◌else◌, IsSome}
use Rattle.outside.specs.Counts.{Rose}
use Rattle.outside.specs.StoreRules.{NamedBytes, Asked, asked_for, Input, CountsFault, Fetches, IsFile, IsLong, WhereLong, bytes_of}
use Rattle.outside.specs.declared.store.FetchFault.{FetchFault}
use Rattle.outside.specs.declared.store.FetchFault.TheVariants as fetch
use Rattle.loader.specs.declared.purposes.Purpose.{Purpose}
use Rattle.loader.specs.declared.refusals.Refusal.{Refusal}
use Rattle.loader.specs.declared.refusals.Refusal.TheVariants.{Long}
use Rattle.loader.specs.declared.refusals.Stop.{Stop}
use Rattle.loader.specs.declared.refusals.Stop.TheVariants.{Refused, Store, Memory}
use Rattle.loader.specs.Work.{Ask, End, Gives, Refuses, Lacks, Course, Work, gives, reads, end_of, end_for, ask}
use Rattle.loader.specs.Work.{course_behind, ◌>>=◌}
use Rattle.loader.specs.Works.{after_asking, AsksAll, IsOutcomeOf, StoreFails, order_of, file_of, RefusesFrom, Misses}
use Rattle.loader.specs.Works.{RefusesBy}
use Rattle.loader.specs.Works.{HasFiles, Works, outcome_as}
use Rattle.loader.specs.Readings.{Says}

-- ---- counts

asked_behind : (asked : Asked) (asks later : List Ask) →
    after_asking later (after_asking asks asked) ≡ after_asking (asks ++ later) asked
asked_behind asked [] later = refl
asked_behind asked (ask ∷ asks) later = asked_behind (asked_for ask.limit asked) asks later

-- ---- without a file

pub works_gives : {A : Type 0} (now : Input) (x : A) → Works now now (gives x) (Ok x)
works_gives now x = record {
  same = λ files e. e;
  follows = λ files e. (refl, refl);
  telling = λ files e has. e;
  refused = λ files e. tt;
  fails = refl;
}

pub works_read : {A : Type 0} (now : Input) (read : Result A Refusal) (x : A) → read ≡ Ok x →
    Works now now (reads read) (Ok x)
works_read now read x e = rw e (works_gives now x)

works_unread : {A : Type 0} (now : Input) (read : Result A Refusal) (r : Refusal) → read ≡ Err r →
    Works now now (reads read) (Err (Refused r))
works_unread now read r e = record {
  same = λ files told. told;
  follows = λ files told. (ap end_of e, refl);
  telling = λ files told has. told;
  refused = λ files told. inl (ap end_of e);
  fails = refl;
}

pub works_memory : {A : Type 0} (now : Input) (work : Work A) → Works now now work (Err Memory)
works_memory now work = record {
  same = λ files e. e;
  follows = λ files e. record { first = []; rest = (work files).asks; are = refl; fetches = refl };
  telling = λ files e has. e;
  refused = λ files e. tt;
  fails = refl;
}

-- what can't be read, or not for want of memory
pub works_unsaid : {A B : Type 0} (now : Input) (seen : A → B) (read : Result B Refusal) (stop : Stop) →
    Says seen (Err stop) read → Works now now (reads read) (Err stop)
works_unsaid now seen read (Refused r) says = works_unread now read r says
works_unsaid now seen read (Store p) says = absurd says
works_unsaid now seen read Memory says = works_memory now (reads read)

-- ---- one file

-- a fetch of a file, as a work sees it
module _ (old new : Input) (purpose : Purpose) (name : List ℕ) (limit : ℕ) where
  found_has : (file : Option (List ℕ)) → HasFiles (end_for purpose limit file) → IsSome file
  found_has (Some bytes) has = refl
  found_has None has = absurd has

  within_limit : (bytes : List ℕ) → length bytes ≤ limit → end_for purpose limit (Some bytes) ≡ Gives bytes
  within_limit bytes within = rw (le-leb (length bytes) limit within) refl

  past_limit : (bytes : List ℕ) → limit < length bytes → end_for purpose limit (Some bytes) ≡ Refuses (Long purpose)
  past_limit bytes past = rw (past_leb (leb_tells (length bytes) limit)) refl
    where
      past_leb : ((nat_le (length bytes) limit ≡ true) × (length bytes ≤ limit)) ⊎
          ((nat_le (length bytes) limit ≡ false) × (limit < length bytes)) → nat_le (length bytes) limit ≡ false
      past_leb (inl both) = let within = both.1 in absurd (omega (arith, within, past))
      past_leb (inr both) = both.0

  abbrev asked : Ask
  asked = record { purpose = purpose; name = name; limit = limit }

  telling : {T : Type 0} (outcome : Result T FetchFault) → Fetches old new name limit outcome → (files : List NamedBytes) →
      old.files ≡ Some files → HasFiles (ask purpose name limit files).end → new.files ≡ Some files
  telling outcome fetches files e has = fetches.here files e (found_has (bytes_of files name) has)

  pub ask_ok : {T : Type 0} (outcome : Result T FetchFault) (bytes : List ℕ) → Fetches old new name limit outcome →
      new.faults ≡ old.faults → IsFile new.files name bytes → length bytes ≤ limit →
      Works old new (ask purpose name limit) (Ok bytes)
  ask_ok outcome bytes fetches faults file within = record {
    same = fetches.same;
    follows = λ files e.
        let here = subst (λ (told : Option (List NamedBytes)). IsFile told name bytes) e file in
        (ap (end_for purpose limit) here ∙ within_limit bytes within, fetches.counted);
    telling = telling outcome fetches;
    refused = λ files e. tt;
    fails = faults;
  }

  pub ask_failed : {T : Type 0} (outcome : Result T FetchFault) → Fetches old new name limit outcome →
      Rose old.faults new.faults →
      Works old new (ask purpose name limit) (Err (Store purpose))
  ask_failed outcome fetches rose = record {
    same = fetches.same;
    follows = λ files e.
        record { before = []; ask = asked; rest = []; are = refl; said = refl; fetches = fetches.counted };
    telling = telling outcome fetches;
    refused = λ files e. tt;
    fails = rose;
  }

  pub ask_memory : {T : Type 0} (outcome : Result T FetchFault) → Fetches old new name limit outcome →
      new.faults ≡ old.faults →
      Works old new (ask purpose name limit) (Err Memory)
  ask_memory outcome fetches faults = record {
    same = fetches.same;
    follows = λ files e. record { first = asked ∷ []; rest = []; are = refl; fetches = fetches.counted };
    telling = telling outcome fetches;
    refused = λ files e. tt;
    fails = faults;
  }

  refused_long : (files : List NamedBytes) → IsLong new.files name limit → new.files ≡ Some files →
      (ask purpose name limit files).end ≡ Refuses (Long purpose)
  refused_long files long e =
      let here = subst (λ (told : Option (List NamedBytes)). IsLong told name limit) e long in
      ap (end_for purpose limit) here.1 ∙ past_limit here.0 here.2

  refused_here : (files : List NamedBytes) (file : Option (List ℕ)) → bytes_of files name ≡ file →
      (IsSome (bytes_of files name) → (ask purpose name limit files).end ≡ Refuses (Long purpose)) →
      RefusesBy files (ask purpose name limit files) (Err (Refused (Long purpose)))
  refused_here files (Some bytes) is long = inl (long (rw is refl))
  refused_here files None is long =
      inr (record { place = 0; ask = asked; here = refl; early = omega arith; missing = is })

  pub ask_long : {T : Type 0} (outcome : Result T FetchFault) → Fetches old new name limit outcome → new.faults ≡ old.faults →
      IsLong new.files name limit → Works old new (ask purpose name limit) (Err (Refused (Long purpose)))
  ask_long outcome fetches faults long = record {
    same = fetches.same;
    follows = λ files e. (refused_long files long e, fetches.counted);
    telling = telling outcome fetches;
    refused = λ files e.
        refused_here files (bytes_of files name) refl (λ has. refused_long files long (fetches.here files e has));
    fails = faults;
  }

-- what a failed fetch says, one of a file that is too long, and one for which memory was wanting
pub failed_rose : {T : Type 0} (before now : ℕ) (outcome : Result T FetchFault) → outcome ≡ Err fetch.Failed →
    CountsFault before now outcome → Rose before now
failed_rose {T = T} before now outcome e counts = subst (λ (o : Result T FetchFault). CountsFault before now o) e counts

pub long_stays : {T : Type 0} (before now : ℕ) (outcome : Result T FetchFault) → outcome ≡ Err fetch.TooLong →
    CountsFault before now outcome → now ≡ before
long_stays {T = T} before now outcome e counts = subst (λ (o : Result T FetchFault). CountsFault before now o) e counts

pub memory_stays : {T : Type 0} (before now : ℕ) (outcome : Result T FetchFault) → outcome ≡ Err fetch.Memory →
    CountsFault before now outcome → now ≡ before
memory_stays {T = T} before now outcome e counts = subst (λ (o : Result T FetchFault). CountsFault before now o) e counts

pub long_said : {T : Type 0} (outcome : Result T FetchFault) (Said : Type 0) → outcome ≡ Err fetch.TooLong →
    WhereLong outcome Said → Said
long_said {T = T} outcome Said e where_long = subst (λ (o : Result T FetchFault). WhereLong o Said) e where_long

-- ---- places in lists

get_behind : {A : Type 0} (xs ys : List A) (i : ℕ) → slice_get (xs ++ ys) (length xs + i) ≡ slice_get ys i
get_behind [] ys i = let e : 0 + i ≡ i = omega arith in ap (slice_get ys) e
get_behind (x ∷ xs) ys i =
    let e : length (x ∷ xs) + i ≡ suc (length xs + i) = omega arith in
    ap (slice_get (x ∷ (xs ++ ys))) e ∙ get_behind xs ys i

get_before : {A : Type 0} (xs ys : List A) (i : ℕ) (x : A) → slice_get xs i ≡ Some x → slice_get (xs ++ ys) i ≡ Some x
get_before [] ys i x e = cc e
get_before (y ∷ xs) ys zero x e = e
get_before (y ∷ xs) ys (suc i) x e = get_before xs ys i x e

-- a place in two lists is in the one or the other
in_either : {A : Type 0} (P : A → Type 0) (xs ys : List A) → ((i : ℕ) (x : A) → slice_get xs i ≡ Some x → P x) →
    ((i : ℕ) (y : A) → slice_get ys i ≡ Some y → P y) → (i : ℕ) (z : A) → slice_get (xs ++ ys) i ≡ Some z → P z
in_either P [] ys first second i z here = second i z here
in_either P (x ∷ xs) ys first second zero z here = first zero z here
in_either P (x ∷ xs) ys first second (suc i) z here =
    in_either P xs ys (λ j y there. first (suc j) y there) second i z here

misses_before : (files : List NamedBytes) (asks later : List Ask) (order : ℕ) → Misses files asks order →
    Misses files (asks ++ later) order
misses_before files asks later order misses = record {
  place = misses.place;
  ask = misses.ask;
  here = get_before asks later misses.place misses.ask misses.here;
  early = misses.early;
  missing = misses.missing;
}

misses_behind : (files : List NamedBytes) (earlier asks : List Ask) (order : ℕ) → Misses files asks order →
    Misses files (earlier ++ asks) order
misses_behind files earlier asks order misses = record {
  place = length earlier + misses.place;
  ask = misses.ask;
  here = get_behind earlier asks misses.place ∙ misses.here;
  early = misses.early;
  missing = misses.missing;
}

-- ---- works in the order of their files

pub from_first : {A : Type 0} (outcome : Result A Stop) → RefusesFrom 0 outcome
from_first (Ok x) = tt
from_first (Err (Refused r)) = omega arith
from_first (Err (Store p)) = tt
from_first (Err Memory) = tt

-- A work asks for files at most so far in the order, and ends for want of a file only where one of them is missing.
pub record IsOrdered {A : Type 0} (last : ℕ) (work : Work A) : Type 0 where
  pub within : (files : List NamedBytes) (place : ℕ) (ask : Ask) → slice_get (work files).asks place ≡ Some ask →
      order_of ask.purpose ≤ last
  pub lacks : (files : List NamedBytes) → (work files).end ≡ Lacks → Misses files (work files).asks last

pub ordered_gives : {A : Type 0} (last : ℕ) (x : A) → IsOrdered last (gives x)
ordered_gives last x = record { within = λ files place ask here. cc here; lacks = λ files e. cc e }

pub ordered_reads : {A : Type 0} (last : ℕ) (read : Result A Refusal) → IsOrdered last (reads read)
ordered_reads last read = record { within = λ files place ask here. cc here; lacks = λ files e. never read e }
  where
    never : {A : Type 0} {P : Type 0} (read : Result A Refusal) → end_of read ≡ Lacks → P
    never (Ok x) e = cc e
    never (Err r) e = cc e

pub ordered_ask : (last : ℕ) (purpose : Purpose) (name : List ℕ) (limit : ℕ) → order_of purpose ≤ last →
    IsOrdered last (ask purpose name limit)
ordered_ask last purpose name limit early = record {
  within = λ files place ask here. only place ask here;
  lacks = λ files e. missed files (bytes_of files name) refl e;
}
  where
    only : (place : ℕ) (other : Ask) →
        slice_get (record { purpose = purpose; name = name; limit = limit } ∷ []) place ≡ Some other →
        order_of other.purpose ≤ last
    only zero other here =
        let same : record { purpose = purpose; name = name; limit = limit } ≡ other = cc here in
        rw (← same) early
    only (suc place) other here = cc here

    missed : (files : List NamedBytes) (file : Option (List ℕ)) → bytes_of files name ≡ file →
        end_for purpose limit (bytes_of files name) ≡ Lacks →
        Misses files (record { purpose = purpose; name = name; limit = limit } ∷ []) last
    missed files None is e = record {
      place = 0;
      ask = record { purpose = purpose; name = name; limit = limit };
      here = refl;
      early = early;
      missing = is;
    }
    missed files (Some bytes) is e = never (nat_le (length bytes) limit) (rw is at e)
      where
        never : {P : Type 0} (b : _) → (if b then Gives bytes else Refuses (Long purpose)) ≡ Lacks → P
        never true e = cc e
        never false e = cc e

pub ordered_more : {A : Type 0} (less more : ℕ) (work : Work A) → less ≤ more → IsOrdered less work →
    IsOrdered more work
ordered_more less more work far ordered = record {
  within = λ files place ask here. let early = ordered.within files place ask here in omega (arith, early, far);
  lacks = λ files e. farther files (work files).asks (ordered.lacks files e);
}
  where
    farther : (files : List NamedBytes) (asks : List Ask) → Misses files asks less → Misses files asks more
    farther files asks misses = let early = misses.early in record {
      place = misses.place;
      ask = misses.ask;
      here = misses.here;
      early = omega (arith, early, far);
      missing = misses.missing;
    }

pub ordered_then : {A B : Type 0} (last : ℕ) (work : Work A) (f : A → Work B) → IsOrdered last work →
    ((x : A) → IsOrdered last (f x)) → IsOrdered last (work >>= f)
ordered_then {A = A} {B = B} last work f first second = record {
  within = λ files. within files (work files).asks (work files).end (first.within files);
  lacks = λ files. lacks files (work files).asks (work files).end (first.lacks files);
}
  where
    within : (files : List NamedBytes) (asks : List Ask) (end : End A) →
        ((place : ℕ) (ask : Ask) → slice_get asks place ≡ Some ask → order_of ask.purpose ≤ last) →
        (place : ℕ) (ask : Ask) → slice_get (course_behind asks end (λ x. f x files)).asks place ≡ Some ask →
        order_of ask.purpose ≤ last
    within files asks (Gives x) early place ask here =
        in_either (λ (a : Ask). order_of a.purpose ≤ last) asks (f x files).asks early ((second x).within files) place
        ask here
    within files asks (Refuses r) early place ask here = early place ask here
    within files asks Lacks early place ask here = early place ask here

    lacks : (files : List NamedBytes) (asks : List Ask) (end : End A) → (end ≡ Lacks → Misses files asks last) →
        (course_behind asks end (λ x. f x files)).end ≡ Lacks →
        Misses files (course_behind asks end (λ x. f x files)).asks last
    lacks files asks (Gives x) missed e = misses_behind files asks (f x files).asks last ((second x).lacks files e)
    lacks files asks (Refuses r) missed e = cc e
    lacks files asks Lacks missed e = missed refl

-- ---- one after another

all_behind : (a b c : Input) (asks later : List Ask) → AsksAll a b asks → AsksAll b c later → AsksAll a c (asks ++ later)
all_behind a b c asks later first second =
    second
    ∙ ap (λ (asked : Asked). after_asking later asked) first
    ∙ asked_behind a.asked asks later

-- a list that is split stays so behind another one, and before it
split_behind : (asks later first rest : List Ask) → later ≡ first ++ rest → asks ++ later ≡ (asks ++ first) ++ rest
split_behind asks later first rest are = ap (λ (l : List Ask). asks ++ l) are ∙ sym (append_assoc asks first rest)

split_before : (asks later first rest : List Ask) → asks ≡ first ++ rest → asks ++ later ≡ first ++ (rest ++ later)
split_before asks later first rest are = ap (λ (l : List Ask). l ++ later) are ∙ append_assoc first rest later

follows_behind : {B : Type 0} (a b c : Input) (asks : List Ask) (course : Course B) (outcome : Result B Stop) →
    AsksAll a b asks → IsOutcomeOf b c course outcome →
    IsOutcomeOf a c (record { asks = asks ++ course.asks; end = course.end }) outcome
follows_behind a b c asks course (Ok x) first follows = (follows.0, all_behind a b c asks course.asks first follows.1)
follows_behind a b c asks course (Err (Refused refusal)) first follows =
    (follows.0, all_behind a b c asks course.asks first follows.1)
follows_behind a b c asks course (Err (Store purpose)) first follows = record {
  before = asks ++ follows.before;
  ask = follows.ask;
  rest = follows.rest;
  are = split_behind asks course.asks follows.before (follows.ask ∷ follows.rest) follows.are;
  said = follows.said;
  fetches =
      all_behind a b c asks (follows.before ++ follows.ask ∷ []) first follows.fetches
      ∙ ap (λ (l : List Ask). after_asking l a.asked) (sym (append_assoc asks follows.before (follows.ask ∷ [])));
}
follows_behind a b c asks course (Err Memory) first follows = record {
  first = asks ++ follows.first;
  rest = follows.rest;
  are = split_behind asks course.asks follows.first follows.rest follows.are;
  fetches = all_behind a b c asks follows.first first follows.fetches;
}

has_first : {A B : Type 0} (asks : List Ask) (end : End A) (f : A → Course B) →
    HasFiles (course_behind asks end f).end →
    HasFiles end
has_first asks (Gives x) f has = tt
has_first asks (Refuses refusal) f has = tt
has_first asks Lacks f has = has

-- a first work that gives something, and then another
module _ {A B : Type 0} (a b c : Input) (work : Work A) (x : A) (f : A → Work B) (outcome : Result B Stop) where
  joined : Works a b work (Ok x) → Works b c (f x) outcome →
      ((files : List NamedBytes) → a.files ≡ Some files → RefusesBy files ((work >>= f) files) outcome) →
      Works a c (work >>= f) outcome
  joined first second refused = record {
    same = λ files e. first.same files (second.same files e);
    follows = λ files e.
        let done = first.follows files (second.same files e) in
        rw done.0 (follows_behind a b c (work files).asks (f x files) outcome done.1 (second.follows files e));
    telling = λ files e has.
        let told = first.telling files e (has_first (work files).asks (work files).end (λ y. f y files) has) in
        let done = first.follows files told in
        let given = λ (end : End A). HasFiles (course_behind (work files).asks end (λ y. f y files)).end in
        second.telling files told (subst given done.0 has);
    refused = refused;
    fails = fails_behind outcome second.fails;
  }
    where
      fails_behind : (outcome : Result B Stop) → StoreFails b c outcome → StoreFails a c outcome
      fails_behind (Ok y) fails = fails ∙ first.fails
      fails_behind (Err (Refused r)) fails = fails ∙ first.fails
      fails_behind (Err (Store p)) fails = subst (λ (n : ℕ). Rose n c.faults) first.fails fails
      fails_behind (Err Memory) fails = fails ∙ first.fails

  -- its refusals are those of files that come behind the first work's
  module _ (last : ℕ) (ordered : IsOrdered last work) (first : Works a b work (Ok x)) (files : List NamedBytes) where
    refused_by_end : (r : Refusal) (end : End A) → (work files).end ≡ end → last ≤ order_of (file_of r) →
        a.files ≡ Some files → (b.files ≡ Some files → RefusesBy {A = B} files (f x files) (Err (Refused r))) →
        RefusesBy {A = B} files ((work >>= f) files) (Err (Refused r))
    refused_by_end r (Gives y) is late e second =
        let told = first.telling files e (rw is tt) in
        let done = first.follows files told in
        rw done.0 (behind (second told))
      where
        behind : ((f x files).end ≡ Refuses r) ⊎ Misses files (f x files).asks (order_of (file_of r)) →
            ((f x files).end ≡ Refuses r) ⊎ Misses files ((work files).asks ++ (f x files).asks) (order_of (file_of r))
        behind (inl is) = inl is
        behind (inr misses) =
            inr (misses_behind files (work files).asks (f x files).asks (order_of (file_of r)) misses)
    refused_by_end r (Refuses q) is late e second =
        let told = first.telling files e (rw is tt) in
        let done = first.follows files told in
        never (sym is ∙ done.0)
      where
        never : {P : Type 0} → Refuses q ≡ Gives x → P
        never e = cc e
    refused_by_end r Lacks is late e second =
        let misses = ordered.lacks files is in
        let early = misses.early in
        rw is (inr (record {
          place = misses.place;
          ask = misses.ask;
          here = misses.here;
          early = omega (arith, early, late);
          missing = misses.missing;
        }))

  refused_behind : (outcome : Result B Stop) (last : ℕ) → IsOrdered last work → RefusesFrom last outcome →
      Works a b work (Ok x) →
      ((files : List NamedBytes) → b.files ≡ Some files → RefusesBy files (f x files) outcome) →
      (files : List NamedBytes) → a.files ≡ Some files → RefusesBy files ((work >>= f) files) outcome
  refused_behind (Ok y) last ordered from first second files e = tt
  refused_behind (Err (Refused r)) last ordered from first second files e =
      refused_by_end last ordered first files r (work files).end refl from e (second files)
  refused_behind (Err (Store p)) last ordered from first second files e = tt
  refused_behind (Err Memory) last ordered from first second files e = tt

  pub works_then : (last : ℕ) → IsOrdered last work → RefusesFrom last outcome → Works a b work (Ok x) →
      Works b c (f x) outcome → Works a c (work >>= f) outcome
  works_then last ordered from first second =
      joined first second (refused_behind outcome last ordered from first second.refused)

-- what a work gives is made into something
pub works_done : {A B : Type 0} (a b : Input) (work : Work A) (x : A) (f : A → B) → Works a b work (Ok x) →
    Works a b (work >>= λ y. gives (f y)) (Ok (f x))
works_done a b work x f first =
    joined a b b work x (λ y. gives (f y)) (Ok (f x)) first (works_gives b (f x)) (λ files e. tt)

-- a first work that stops
stops_first : {A B : Type 0} (old new : Input) (asks : List Ask) (end : End A) (f : A → Course B) (stop : Stop) →
    IsOutcomeOf old new (record { asks = asks; end = end }) (Err stop) →
    IsOutcomeOf old new (course_behind asks end f) (Err stop)
stops_first old new asks end f (Refused refusal) follows = rw follows.0 (refl, follows.1)
stops_first old new asks (Gives x) f (Store purpose) follows = record {
  before = follows.before;
  ask = follows.ask;
  rest = follows.rest ++ (f x).asks;
  are = split_before asks (f x).asks follows.before (follows.ask ∷ follows.rest) follows.are;
  said = follows.said;
  fetches = follows.fetches;
}
stops_first old new asks (Refuses refusal) f (Store purpose) follows = follows
stops_first old new asks Lacks f (Store purpose) follows = follows
stops_first old new asks (Gives x) f Memory follows = record {
  first = follows.first;
  rest = follows.rest ++ (f x).asks;
  are = split_before asks (f x).asks follows.first follows.rest follows.are;
  fetches = follows.fetches;
}
stops_first old new asks (Refuses refusal) f Memory follows = follows
stops_first old new asks Lacks f Memory follows = follows

refuses_first : {A B : Type 0} (files : List NamedBytes) (asks : List Ask) (end : End A) (f : A → Course B)
    (stop : Stop) →
    RefusesBy files (record { asks = asks; end = end }) (Err stop) →
    RefusesBy files (course_behind asks end f) (Err stop)
refuses_first files asks end f (Refused r) (inl is) = rw is (inl refl)
refuses_first files asks (Gives x) f (Refused r) (inr misses) =
    inr (misses_before files asks (f x).asks (order_of (file_of r)) misses)
refuses_first files asks (Refuses q) f (Refused r) (inr misses) = inr misses
refuses_first files asks Lacks f (Refused r) (inr misses) = inr misses
refuses_first files asks end f (Store purpose) refuses = tt
refuses_first files asks end f Memory refuses = tt

pub works_stop : {A B : Type 0} (a b : Input) (work : Work A) (f : A → Work B) (stop : Stop) →
    Works a b work (Err stop) →
    Works a b (work >>= f) (Err stop)
works_stop {A = A} {B = B} a b work f stop first = record {
  same = first.same;
  follows = λ files e. stops_first a b (work files).asks (work files).end (λ x. f x files) stop (first.follows files e);
  telling = λ files e has. first.telling files e (has_first (work files).asks (work files).end (λ x. f x files) has);
  refused = λ files e.
      refuses_first files (work files).asks (work files).end (λ x. f x files) stop (first.refused files e);
  fails = fails_again stop first.fails;
}
  where
    fails_again : (stop : Stop) → StoreFails {A = A} a b (Err stop) → StoreFails {A = B} a b (Err stop)
    fails_again (Refused r) fails = fails
    fails_again (Store p) fails = fails
    fails_again Memory fails = fails

-- ---- a file, and what is read of it

-- an answer, as it is seen, is what is read of bytes
pub works_text : {A B : Type 0} (a b : Input) (purpose : Purpose) (name text : List ℕ) (limit : ℕ) (seen : A → B)
    (read : List ℕ → Result B Refusal) (outcome : Result A Stop) → Works a b (ask purpose name limit) (Ok text) →
    Says seen outcome (read text) → RefusesFrom (order_of purpose) outcome →
    Works a b (ask purpose name limit >>= λ text. reads (read text)) (outcome_as seen outcome)
works_text a b purpose name text limit seen read (Ok x) first says from =
    works_then a b b (ask purpose name limit) text (λ text. reads (read text)) (Ok (seen x)) (order_of purpose)
    (ordered_ask (order_of purpose) purpose name limit (omega arith)) tt first (works_read b (read text) (seen x) says)
works_text a b purpose name text limit seen read (Err (Refused r)) first says from =
    works_then a b b (ask purpose name limit) text (λ text. reads (read text)) (Err (Refused r)) (order_of purpose)
    (ordered_ask (order_of purpose) purpose name limit (omega arith)) from first (works_unread b (read text) r says)
works_text a b purpose name text limit seen read (Err (Store p)) first says from = absurd says
works_text a b purpose name text limit seen read (Err Memory) first says from =
    works_then a b b (ask purpose name limit) text (λ text. reads (read text)) (Err Memory) (order_of purpose)
    (ordered_ask (order_of purpose) purpose name limit (omega arith)) tt first (works_memory b (reads (read text)))

-- an answer that is seen as it is
pub works_seen : {A : Type 0} (a b : Input) (work : Work A) (outcome : Result A Stop) →
    Works a b work (outcome_as (λ x. x) outcome) → Works a b work outcome
works_seen a b work (Ok x) works = works
works_seen a b work (Err stop) works = works
