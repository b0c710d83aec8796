-- The images of sources are put into a plan.
use Rattle.std.proofs.Common.{◌≡◌, ℕ, zero, suc, ◌+◌, ◌<◌, ◌≤◌, true, false, List, [], ◌∷◌, length, slice_get, Option}
use Rattle.std.proofs.Common.{Some, None}
use Rattle.std.proofs.Common.{Result, Ok, Err, refl, sym, ap, arith, inl, inr}
use Rattle.std.specs.Prelude.{◌⊎◌, nat_le, nat_lt, option_map, option_and_then, position}
use Rattle.std.specs.List.{position_or_len}
use Rattle.std.proofs.lemmas.Bool.Decides.{leb_tells}
use Rattle.std.proofs.lemmas.Option.{slice_get_within}
use Rattle.outside.specs.StoreRules.{Input}
use Rattle.cartridge.specs.Carts.{wants_image}
use Rattle.cartridge.specs.ChipTables.{DescribedSource}
use Rattle.cartridge.specs.Filling.{PlannedSource, PlannedChip, Planned, source_at, HasRoomFor, filled_source}
use Rattle.cartridge.specs.Filling.{filled_chip, filled_plan, with_change_at}
use Rattle.cartridge.specs.Rooms.{LiesIn}
use Rattle.f8_asm.specs.declared.answers.AsmFault.{AsmFault}
use Rattle.f8_asm.specs.declared.answers.Room.{Room}
use Rattle.f8_asm.specs.Image.{Picture, image_of}
use Rattle.loader.specs.declared.purposes.Purpose.TheVariants.{Source}
use Rattle.loader.specs.declared.refusals.Refusal.{Refusal}
use Rattle.loader.specs.declared.refusals.Refusal.TheVariants.{Assembly}
use Rattle.loader.specs.declared.refusals.Stop.{Stop}
use Rattle.loader.specs.declared.refusals.Stop.TheVariants.{Refused, Store, Memory}
use Rattle.loader.specs.Games.{image_for, filled_from, filled_at}
use Rattle.loader.specs.Readings.{Says, image_told, image_in}
use Rattle.loader.specs.Work.{ask, gives, reads, ◌>>=◌}
use Rattle.loader.specs.Works.{order_of, file_of, RefusesFrom, Works}
use Rattle.loader.proofs.WorkLaws.{works_gives, works_done, works_stop, works_text, works_seen}

-- ---- one chip

-- the text of a chip's source is what is refused
assembly_order : (chip : ℕ) (image : Result Picture AsmFault) (r : Refusal) → image_told (Some chip) image ≡ Err r →
    chip + 1 ≤ order_of (file_of r)
assembly_order chip (Ok picture) r e = cc e
assembly_order chip (Err fault) r e = let same : Assembly (Some chip) fault ≡ r = cc e in rw (← same) (omega arith)

pub image_order : {A : Type 0} (chip : ℕ) (room : Room) (text : List ℕ) (seen : A → Picture) (outcome : Result A Stop) →
    Says seen outcome (image_in (Some chip) room text) → RefusesFrom (chip + 1) outcome
unfolding image_in
image_order chip room text seen (Ok x) says = tt
image_order chip room text seen (Err (Refused r)) says = assembly_order chip (image_of text room) r says
image_order chip room text seen (Err (Store p)) says = absurd says
image_order chip room text seen (Err Memory) says = tt

-- a chip without a source is as it was
changed_same : (bytes : List (ℕ × ℕ)) (place : ℕ) (chips : List PlannedChip) →
    None ≡ option_and_then (λ c. option_map (λ s. s.source) c.source) (slice_get chips place) →
    with_change_at (filled_chip bytes) place chips ≡ chips
changed_same bytes place [] none = refl
changed_same bytes zero (chip ∷ chips) none = by_source chip.source none
  where
    by_source : (source : Option PlannedSource) → None ≡ option_map (λ s. s.source) source →
        (record { spec = chip.spec; source = option_map (filled_source bytes) source } ∷ chips) ≡
        (record { spec = chip.spec; source = source } ∷ chips)
    by_source None e = refl
    by_source (Some s) e = cc e
changed_same bytes (suc place) (chip ∷ chips) none =
    ap (λ (rest : List PlannedChip). chip ∷ rest) (changed_same bytes place chips none)

none_named : {A B : Type 0} (f : A → B) (o : Option A) → None ≡ option_map f o → None ≡ o
none_named f None e = refl
none_named f (Some x) e = cc e

pub same_without : (chip : ℕ) (plan : Planned) → None ≡ option_map (λ s. s.name) (source_at plan chip) →
    (bytes : List (ℕ × ℕ)) × (plan ≡ filled_plan plan chip bytes)
same_without chip plan none =
    let same = changed_same [] chip plan.chips (none_named (λ s. s.name) (source_at plan chip) none) in
    ([], ap (λ (chips : List PlannedChip). record plan { chips = chips }) (sym same))

-- a source by its name and its room
record IsSource (source : Option DescribedSource) (name : List ℕ) (room : Room) : Type 0 where
  known : DescribedSource
  is : source ≡ Some known
  named : known.name ≡ name
  placed : known.room ≡ room

is_source : (source : Option DescribedSource) (name : List ℕ) (room : Room) →
    Some name ≡ option_map (λ s. s.name) source →
    Some room ≡ option_map (λ s. s.room) source → IsSource source name room
is_source None name room n r = cc n
is_source (Some s) name room n r =
    record { known = s; is = refl; named = sym (some_same n); placed = sym (some_same r) }
  where
    some_same : {A : Type 0} {x y : A} → Some x ≡ Some y → x ≡ y
    some_same e = cc e

pub filled_none : (now : Input) (chip : ℕ) (plan : Planned) → None ≡ option_map (λ s. s.name) (source_at plan chip) →
    Works now now (filled_at chip plan) (Ok plan)
unfolding filled_at
filled_none now chip plan none = by_source (source_at plan chip) none
  where
    by_source : (source : Option DescribedSource) → None ≡ option_map (λ s. s.name) source →
        Works now now (filled_from chip plan source) (Ok plan)
    by_source None e = works_gives now plan
    by_source (Some s) e = cc e

-- a source that has no room is none
placeless : (source : Option DescribedSource) → None ≡ option_map (λ s. s.room) source →
    None ≡ option_map (λ s. s.name) source
placeless None e = refl
placeless (Some s) e = cc e

pub filled_placeless : (now : Input) (chip : ℕ) (plan : Planned) →
    None ≡ option_map (λ s. s.room) (source_at plan chip) → Works now now (filled_at chip plan) (Ok plan)
filled_placeless now chip plan none = filled_none now chip plan (placeless (source_at plan chip) none)

pub same_placeless : (chip : ℕ) (plan : Planned) → None ≡ option_map (λ s. s.room) (source_at plan chip) →
    (bytes : List (ℕ × ℕ)) × (plan ≡ filled_plan plan chip bytes)
same_placeless chip plan none = same_without chip plan (placeless (source_at plan chip) none)

pub image_read : (a b : Input) (chip : ℕ) (name text : List ℕ) (room : Room) (outcome : Result Picture Stop) →
    Works a b (ask (Source chip) name 262144) (Ok text) →
    Says (λ picture. picture) outcome (image_in (Some chip) room text) → Works a b (image_for chip name room) outcome
unfolding image_for
image_read a b chip name text room outcome first says =
    works_seen a b (ask (Source chip) name 262144 >>= λ text. reads (image_in (Some chip) room text)) outcome
    (works_text a b (Source chip) name text 262144 (λ picture. picture) (image_in (Some chip) room) outcome first says
    (image_order chip room text (λ picture. picture) outcome says))

pub image_stop : (a b : Input) (chip : ℕ) (name : List ℕ) (room : Room) (stop : Stop) →
    Works a b (ask (Source chip) name 262144) (Err stop) → Works a b (image_for chip name room) (Err stop)
unfolding image_for
image_stop a b chip name room stop first =
    works_stop a b (ask (Source chip) name 262144) (λ text. reads (image_in (Some chip) room text)) stop first

-- a chip that has a source
module _ (a b : Input) (chip : ℕ) (plan : Planned) (name : List ℕ) (room : Room)
    (named : Some name ≡ option_map (λ s. s.name) (source_at plan chip))
    (placed : Some room ≡ option_map (λ s. s.room) (source_at plan chip)) where
  pub filled_some : (picture : Picture) → Works a b (image_for chip name room) (Ok picture) →
      Works a b (filled_at chip plan) (Ok (filled_plan plan chip picture.bytes))
  unfolding filled_at
  filled_some picture works =
      let s = is_source (source_at plan chip) name room named placed in
      rw (s.is, s.named, s.placed)
      (works_done a b (image_for chip name room) picture (λ p. filled_plan plan chip p.bytes) works)

  pub filled_stop : (stop : Stop) → Works a b (image_for chip name room) (Err stop) →
      Works a b (filled_at chip plan) (Err stop)
  unfolding filled_at
  filled_stop stop works =
      let s = is_source (source_at plan chip) name room named placed in
      rw (s.is, s.named, s.placed)
      (works_stop a b (image_for chip name room) (λ p. gives (filled_plan plan chip p.bytes)) stop works)

pub has_room : (chip : ℕ) (plan : Planned) (name : List ℕ) (room : Room) (bytes : List (ℕ × ℕ)) →
    Some name ≡ option_map (λ s. s.name) (source_at plan chip) →
    Some room ≡ option_map (λ s. s.room) (source_at plan chip) → LiesIn room bytes → HasRoomFor plan chip bytes
has_room chip plan name room bytes n r lies =
    let s = is_source (source_at plan chip) name room n r in
    rw (s.is, s.placed) lies

-- ---- all chips

-- no chip below a number wants an image
abbrev pub NoneWants : ℕ → List PlannedChip → Type 0
NoneWants n chips = (k : ℕ) (chip : PlannedChip) → k < n → slice_get chips k ≡ Some chip → wants_image chip ≡ false

pub none_wants_first : (chips : List PlannedChip) → NoneWants 0 chips
none_wants_first chips k chip below here = absurd (omega (arith, below))

filled_wants_none : (bytes : List (ℕ × ℕ)) (chip : PlannedChip) → wants_image (filled_chip bytes chip) ≡ false
filled_wants_none bytes chip = by_source chip.source
  where
    by_source : (source : Option PlannedSource) →
        wants_image (record { spec = chip.spec; source = option_map (filled_source bytes) source }) ≡ false
    by_source None = refl
    by_source (Some s) = refl

-- one more chip doesn't
wants_less : (bytes : List (ℕ × ℕ)) (place k : ℕ) (chips : List PlannedChip) (chip : PlannedChip) →
    slice_get (with_change_at (filled_chip bytes) place chips) k ≡ Some chip →
    ((j : ℕ) (c : PlannedChip) → j < place → slice_get chips j ≡ Some c → wants_image c ≡ false) → k < place + 1 →
    wants_image chip ≡ false
wants_less bytes place k [] chip here none below = cc here
wants_less bytes zero zero (c ∷ chips) chip here none below =
    let e : filled_chip bytes c ≡ chip = cc here in
    rw (← e) (filled_wants_none bytes c)
wants_less bytes zero (suc k) (c ∷ chips) chip here none below = absurd (omega (arith, below))
wants_less bytes (suc place) zero (c ∷ chips) chip here none below = none 0 chip (omega arith) here
wants_less bytes (suc place) (suc k) (c ∷ chips) chip here none below =
    wants_less bytes place k chips chip here (λ j d less there. none (suc j) d (omega (arith, less)) there)
    (omega (arith, below))

pub none_wants_more : (n : ℕ) (bytes : List (ℕ × ℕ)) (plan filled : Planned) → filled ≡ filled_plan plan n bytes →
    NoneWants n plan.chips → NoneWants (n + 1) filled.chips
none_wants_more n bytes plan filled e none =
    rw e (λ k chip below here. wants_less bytes n k plan.chips chip here none below)

lt_self : (n : ℕ) → nat_lt n n ≡ false
lt_self n = by_test (leb_tells (suc n) n)
  where
    by_test : ((nat_le (suc n) n ≡ true) × (suc n ≤ n)) ⊎ ((nat_le (suc n) n ≡ false) × (n < suc n)) →
        nat_le (suc n) n ≡ false
    by_test (inl both) = let past = both.1 in absurd (omega (arith, past))
    by_test (inr both) = both.0

none_passes : (chips : List PlannedChip) →
    ((k : ℕ) (chip : PlannedChip) → slice_get chips k ≡ Some chip → wants_image chip ≡ false) →
    position_or_len wants_image chips ≡ length chips
none_passes [] none = refl
none_passes (chip ∷ chips) none =
    let first = none 0 chip refl in
    let rest = none_passes chips (λ k c here. none (suc k) c here) in
    let e : 1 + position_or_len wants_image chips ≡ suc (length chips) = omega (arith, rest) in
    rw first e

pub none_wants_all : (n : ℕ) (chips : List PlannedChip) → length chips ≤ n → NoneWants n chips →
    position wants_image chips ≡ None
none_wants_all n chips few none =
    let all = none_passes chips (λ k chip here.
    let within = slice_get_within chips k chip here in
    none k chip (omega (arith, few, within)) here) in
    rw (all, lt_self (length chips)) refl

changed_length : {A : Type 0} (f : A → A) (place : ℕ) (xs : List A) → length (with_change_at f place xs) ≡ length xs
changed_length f place [] = refl
changed_length f zero (x ∷ xs) = refl
changed_length f (suc place) (x ∷ xs) = ap suc (changed_length f place xs)

pub filled_length : (n : ℕ) (bytes : List (ℕ × ℕ)) (plan filled : Planned) → filled ≡ filled_plan plan n bytes →
    length filled.chips ≡ length plan.chips
filled_length n bytes plan filled e = rw e (changed_length (filled_chip bytes) n plan.chips)
