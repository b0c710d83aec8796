-- A cartridge and what a script says, one after the other.
use Rattle.std.proofs.Common.{◌≡◌, ℕ, zero, suc, ◌+◌, ◌-◌, ◌<◌, List, Option, Some, None, Result, Ok, Err}
use Rattle.std.proofs.Common.{subst, arith}
use Rattle.std.specs.Prelude.{position}
use Rattle.outside.specs.StoreRules.{Input}
use Rattle.chip_face.specs.declared.sizes.TheConstants.{MOST_CHIPS}
use Rattle.cart_data.specs.declared.cart.Cart.{Cart}
use Rattle.cartridge.specs.declared.finish.Unfilled.{Unfilled}
use Rattle.cartridge.specs.Carts.{wants_image, cart_without}
use Rattle.cartridge.specs.Carts.{cart_of as cart_of_plan}
use Rattle.cartridge.specs.ChipTables.{DescribedSource}
use Rattle.cartridge.specs.Filling.{Planned, filled_plan, source_at}
use Rattle.console_spec.specs.Scripts.{Script as RunScript}
use Rattle.f8_asm.specs.declared.answers.Room.{Room}
use Rattle.loader.specs.declared.purposes.Purpose.TheVariants.{Cart as CartFile, Script, Source}
use Rattle.loader.specs.declared.refusals.Stop.{Stop}
use Rattle.loader.specs.Readings.{Says, image_in, description_of, script_in}
use Rattle.loader.specs.Games.{Game, image_for, filled_from, filled_at, filled_up_to, finished, planned_cart, cart_of}
use Rattle.loader.specs.Games.{script_by, game_of}
use Rattle.loader.specs.Work.{Work, gives, reads, ask, ◌>>=◌}
use Rattle.loader.specs.Works.{order_of, RefusesFrom, Works}
use Rattle.loader.proofs.WorkLaws.{works_gives, works_read, works_unsaid, works_then, works_done, works_stop}
use Rattle.loader.proofs.WorkLaws.{from_first}
use Rattle.loader.proofs.WorkLaws.{IsOrdered, ordered_gives, ordered_reads, ordered_ask, ordered_more, ordered_then}

-- ---- the order of sources

ordered_image : (chip : ℕ) (name : List ℕ) (room : Room) → IsOrdered (chip + 1) (image_for chip name room)
unfolding image_for
ordered_image chip name room =
    ordered_then (chip + 1) (ask (Source chip) name 262144) (λ text. reads (image_in (Some chip) room text))
    (ordered_ask (chip + 1) (Source chip) name 262144 (omega arith))
    (λ text. ordered_reads (chip + 1) (image_in (Some chip) room text))

ordered_from : (chip : ℕ) (plan : Planned) (source : Option DescribedSource) →
    IsOrdered (chip + 1) (filled_from chip plan source)
ordered_from chip plan None = ordered_gives (chip + 1) plan
ordered_from chip plan (Some source) =
    ordered_then (chip + 1) (image_for chip source.name source.room)
    (λ picture. gives (filled_plan plan chip picture.bytes))
    (ordered_image chip source.name source.room)
    (λ picture. ordered_gives (chip + 1) (filled_plan plan chip picture.bytes))

ordered_at : (chip : ℕ) (plan : Planned) → IsOrdered (chip + 1) (filled_at chip plan)
unfolding filled_at
ordered_at chip plan = ordered_from chip plan (source_at plan chip)

ordered_up_to : (chips : ℕ) (plan : Planned) → IsOrdered chips (filled_up_to chips plan)
unfolding filled_up_to
ordered_up_to zero plan = ordered_gives 0 plan
ordered_up_to (suc chip) plan =
    let e : chip + 1 ≡ suc chip = omega arith in
    subst (λ (last : ℕ). IsOrdered last (filled_up_to chip plan >>= filled_at chip)) e
    (ordered_then (chip + 1) (filled_up_to chip plan) (filled_at chip)
    (ordered_more chip (chip + 1) (filled_up_to chip plan) (omega arith) (ordered_up_to chip plan)) (ordered_at chip))

ordered_planned : (plan : Planned) → IsOrdered MOST_CHIPS (planned_cart plan)
unfolding planned_cart
ordered_planned plan =
    ordered_then MOST_CHIPS (filled_up_to MOST_CHIPS plan) (λ filled. gives (finished filled))
    (ordered_up_to MOST_CHIPS plan) (λ filled. ordered_gives MOST_CHIPS (finished filled))

pub ordered_cart : (name : List ℕ) → IsOrdered MOST_CHIPS (cart_of name)
unfolding cart_of
ordered_cart name =
    ordered_then MOST_CHIPS (ask CartFile name 65536) (λ bytes. reads (description_of bytes) >>= planned_cart)
    (ordered_ask MOST_CHIPS CartFile name 65536 (omega arith))
    (λ bytes. ordered_then MOST_CHIPS (reads (description_of bytes)) planned_cart
    (ordered_reads MOST_CHIPS (description_of bytes)) ordered_planned)

-- ---- sources

pub filled_start : (now : Input) (plan : Planned) → Works now now (filled_up_to 0 plan) (Ok plan)
unfolding filled_up_to
filled_start now plan = works_gives now plan

filled_one_more : (a b c : Input) (chip : ℕ) (plan filled : Planned) (outcome : Result Planned Stop) →
    Works a b (filled_up_to chip plan) (Ok filled) → Works b c (filled_at chip filled) outcome →
    RefusesFrom (chip + 1) outcome → Works a c (filled_up_to (suc chip) plan) outcome
unfolding filled_up_to
filled_one_more a b c chip plan filled outcome first second from =
    works_then a b c (filled_up_to chip plan) filled (filled_at chip) outcome (chip + 1)
    (ordered_more chip (chip + 1) (filled_up_to chip plan) (omega arith) (ordered_up_to chip plan)) from first second

pub filled_next : (a b c : Input) (chip : ℕ) (plan filled next : Planned) →
    Works a b (filled_up_to chip plan) (Ok filled) → Works b c (filled_at chip filled) (Ok next) →
    Works a c (filled_up_to (chip + 1) plan) (Ok next)
filled_next a b c chip plan filled next first second =
    let e : suc chip ≡ chip + 1 = omega arith in
    subst (λ (n : ℕ). Works a c (filled_up_to n plan) (Ok next)) e
    (filled_one_more a b c chip plan filled (Ok next) first second tt)

-- what stops at a chip's source stops for more chips, too
stops_once : (a b : Input) (chip : ℕ) (plan : Planned) (stop : Stop) → Works a b (filled_up_to chip plan) (Err stop) →
    Works a b (filled_up_to (suc chip) plan) (Err stop)
unfolding filled_up_to
stops_once a b chip plan stop works = works_stop a b (filled_up_to chip plan) (filled_at chip) stop works

stops_behind : (a b : Input) (more chip : ℕ) (plan : Planned) (stop : Stop) →
    Works a b (filled_up_to chip plan) (Err stop) → Works a b (filled_up_to (more + chip) plan) (Err stop)
stops_behind a b zero chip plan stop works =
    let e : chip ≡ 0 + chip = omega arith in
    subst (λ (n : ℕ). Works a b (filled_up_to n plan) (Err stop)) e works
stops_behind a b (suc more) chip plan stop works =
    let e : suc (more + chip) ≡ suc more + chip = omega arith in
    subst (λ (n : ℕ). Works a b (filled_up_to n plan) (Err stop)) e
    (stops_once a b (more + chip) plan stop (stops_behind a b more chip plan stop works))

pub filled_stops : (a b c : Input) (chip : ℕ) (plan filled : Planned) (stop : Stop) →
    Works a b (filled_up_to chip plan) (Ok filled) → Works b c (filled_at chip filled) (Err stop) →
    RefusesFrom {A = Planned} (chip + 1) (Err stop) → chip < MOST_CHIPS →
    Works a c (filled_up_to MOST_CHIPS plan) (Err stop)
filled_stops a b c chip plan filled stop first second from below =
    let e : (15 - chip) + suc chip ≡ MOST_CHIPS = omega (arith, below) in
    subst (λ (n : ℕ). Works a c (filled_up_to n plan) (Err stop)) e
    (stops_behind a c (15 - chip) (suc chip) plan stop (filled_one_more a b c chip plan filled (Err stop) first second from))

pub planned_stops : (a b : Input) (plan : Planned) (stop : Stop) →
    Works a b (filled_up_to MOST_CHIPS plan) (Err stop) → Works a b (planned_cart plan) (Err stop)
unfolding planned_cart
planned_stops a b plan stop works =
    works_stop a b (filled_up_to MOST_CHIPS plan) (λ filled. gives (finished filled)) stop works

pub planned_loaded : (a b : Input) (plan filled : Planned) → Works a b (filled_up_to MOST_CHIPS plan) (Ok filled) →
    Works a b (planned_cart plan) (Ok (finished filled))
unfolding planned_cart
planned_loaded a b plan filled works =
    works_done a b (filled_up_to MOST_CHIPS plan) filled finished works

-- a plan in which every source has its image gives a cartridge
pub cart_is : (plan : Planned) (cart : Cart) → position wants_image plan.chips ≡ None → Ok cart ≡ cart_of_plan plan →
    cart ≡ finished plan
cart_is plan cart none e = let is : Ok cart ≡ cart_without None plan = rw none at e in given is
  where
    given : Ok cart ≡ cart_without None plan → cart ≡ finished plan
    given e = cc e

pub cart_there : (plan : Planned) (unfilled : Unfilled) → position wants_image plan.chips ≡ None →
    Err unfilled ≡ cart_of_plan plan → ⊥
cart_there plan unfilled none e = let is : Err unfilled ≡ cart_without None plan = rw none at e in never is
  where
    never : Err unfilled ≡ cart_without None plan → ⊥
    never e = cc e

-- ---- a game

pub cart_stop : (a b : Input) (name : List ℕ) (stop : Stop) → Works a b (ask CartFile name 65536) (Err stop) →
    Works a b (cart_of name) (Err stop)
unfolding cart_of
cart_stop a b name stop works =
    works_stop a b (ask CartFile name 65536) (λ bytes. reads (description_of bytes) >>= planned_cart) stop works

pub cart_read : (a b c : Input) (name bytes : List ℕ) (outcome : Result Cart Stop) →
    Works a b (ask CartFile name 65536) (Ok bytes) →
    Works b c (reads (description_of bytes) >>= planned_cart) outcome →
    Works a c (cart_of name) outcome
unfolding cart_of
cart_read a b c name bytes outcome first second =
    works_then a b c (ask CartFile name 65536) bytes (λ bytes. reads (description_of bytes) >>= planned_cart) outcome 0
    (ordered_ask 0 CartFile name 65536 (omega arith)) (from_first outcome) first second

pub cart_unread : {A : Type 0} (a b : Input) (name bytes : List ℕ) (seen : A → Planned) (stop : Stop) →
    Works a b (ask CartFile name 65536) (Ok bytes) → Says seen (Err stop) (description_of bytes) →
    Works a b (cart_of name) (Err stop)
cart_unread a b name bytes seen stop first says =
    cart_read a b b name bytes (Err stop) first
    (works_stop b b (reads (description_of bytes)) planned_cart stop (works_unsaid b seen (description_of bytes) stop says))

pub cart_loaded : (a b c : Input) (name bytes : List ℕ) (plan : Planned) (outcome : Result Cart Stop) →
    Works a b (ask CartFile name 65536) (Ok bytes) → description_of bytes ≡ Ok plan →
    Works b c (planned_cart plan) outcome → Works a c (cart_of name) outcome
cart_loaded a b c name bytes plan outcome first read second =
    cart_read a b c name bytes outcome first
    (works_then b b c (reads (description_of bytes)) plan planned_cart outcome 0
    (ordered_reads 0 (description_of bytes)) (from_first outcome) (works_read b (description_of bytes) plan read)
    second)

-- a run behind its cartridge
abbrev with_script : List ℕ → Cart → Work Game
with_script script cart = script_by script >>= λ run. gives (record { script = run; cart = cart })

ordered_script : (name : List ℕ) → IsOrdered (order_of Script) (script_by name)
unfolding script_by
ordered_script name =
    ordered_then (order_of Script) (ask Script name 65536) (λ text. reads (script_in text))
    (ordered_ask (order_of Script) Script name 65536 (omega arith)) (λ text. ordered_reads (order_of Script) (script_in text))

pub ordered_game : (name script : List ℕ) → IsOrdered (order_of Script) (game_of name script)
unfolding game_of
ordered_game name script =
    ordered_then (order_of Script) (cart_of name) (with_script script)
    (ordered_more MOST_CHIPS (order_of Script) (cart_of name) (omega arith) (ordered_cart name))
    (λ cart. ordered_then (order_of Script) (script_by script) (λ run. gives (record { script = run; cart = cart })) (ordered_script script)
    (λ run. ordered_gives (order_of Script) (record { script = run; cart = cart })))

pub game_loaded : (a b c : Input) (name script : List ℕ) (cart : Cart) (run : RunScript) →
    Works a b (cart_of name) (Ok cart) → Works b c (script_by script) (Ok run) →
    Works a c (game_of name script) (Ok (record { script = run; cart = cart }))
unfolding game_of
game_loaded a b c name script cart run first second =
    works_then a b c (cart_of name) cart (with_script script) (Ok (record { script = run; cart = cart })) MOST_CHIPS
    (ordered_cart name) tt first
    (works_done b c (script_by script) run (λ run. record { script = run; cart = cart }) second)

pub game_without_cart : (a b : Input) (name script : List ℕ) (stop : Stop) → Works a b (cart_of name) (Err stop) →
    Works a b (game_of name script) (Err stop)
unfolding game_of
game_without_cart a b name script stop works = works_stop a b (cart_of name) (with_script script) stop works

pub game_without_script : (a b c : Input) (name script : List ℕ) (cart : Cart) (stop : Stop) →
    Works a b (cart_of name) (Ok cart) → Works b c (script_by script) (Err stop) →
    RefusesFrom {A = RunScript} (order_of Script) (Err stop) → Works a c (game_of name script) (Err stop)
unfolding game_of
game_without_script a b c name script cart stop first second from =
    works_then a b c (cart_of name) cart (with_script script) (Err stop) (order_of Script)
    (ordered_more MOST_CHIPS (order_of Script) (cart_of name) (omega arith) (ordered_cart name)) from first
    (works_stop b c (script_by script) (λ run. gives (record { script = run; cart = cart })) stop second)
