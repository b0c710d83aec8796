-- A list of entries of a cartridge: first the cartridge, and then the list.
use Rattle.std.proofs.Common.{◌≡◌, ℕ, List, Result, Ok, Err, arith, ◌≤◌}
use Rattle.outside.specs.StoreRules.{Input}
use Rattle.chip_face.specs.declared.sizes.TheConstants.{MOST_CHIPS}
use Rattle.cart_data.specs.declared.cart.Cart.{Cart}
use Rattle.case_step.specs.Entries.{EntryView}
use Rattle.case_text.specs.CasesText.{cases_of}
use Rattle.case_text.specs.declared.cause.CasesFault.{CasesFault}
use Rattle.loader.specs.declared.purposes.Purpose.TheVariants.{Cases}
use Rattle.loader.specs.declared.refusals.Refusal.{Refusal}
use Rattle.loader.specs.declared.refusals.Refusal.TheVariants as refusal
use Rattle.loader.specs.declared.refusals.Stop.{Stop}
use Rattle.loader.specs.declared.refusals.Stop.TheVariants.{Refused, Store, Memory}
use Rattle.loader.specs.Readings.{Says, list_told, list_in}
use Rattle.loader.specs.Games.{Confirming, cart_of, list_by, confirming_of}
use Rattle.loader.specs.Work.{Work, gives, ask, reads, ◌>>=◌}
use Rattle.loader.specs.Works.{order_of, file_of, RefusesFrom, outcome_as, Works}
use Rattle.loader.proofs.WorkLaws.{works_stop, works_text, works_then, works_done, ordered_more}
use Rattle.loader.proofs.GamesLoaded.{ordered_cart}

-- the list is what is refused
list_order_of : (read : Result (List EntryView) CasesFault) (r : Refusal) → list_told read ≡ Err r → order_of Cases ≤ order_of (file_of r)
list_order_of (Ok list) r e = cc e
list_order_of (Err fault) r e = let same : refusal.Cases fault ≡ r = cc e in rw (← same) (omega arith)

pub list_order : {A : Type 0} (text : List ℕ) (seen : A → List EntryView) (outcome : Result A Stop) →
    Says seen outcome (list_in text) → RefusesFrom (order_of Cases) outcome
unfolding list_in
list_order text seen (Ok x) says = tt
list_order text seen (Err (Refused r)) says = list_order_of (cases_of text) r says
list_order text seen (Err (Store p)) says = absurd says
list_order text seen (Err Memory) says = tt

pub list_read : {A : Type 0} (a b : Input) (name text : List ℕ) (seen : A → List EntryView) (outcome : Result A Stop) →
    Works a b (ask Cases name 67108864) (Ok text) → Says seen outcome (list_in text) →
    Works a b (list_by name) (outcome_as seen outcome)
unfolding list_by
list_read a b name text seen outcome first says =
    works_text a b Cases name text 67108864 seen list_in outcome first says (list_order text seen outcome says)

pub list_stop : (a b : Input) (name : List ℕ) (stop : Stop) → Works a b (ask Cases name 67108864) (Err stop) →
    Works a b (list_by name) (Err stop)
unfolding list_by
list_stop a b name stop first = works_stop a b (ask Cases name 67108864) (λ text. reads (list_in text)) stop first

-- ---- both

-- the list behind its cartridge
abbrev with_list : List ℕ → Cart → Work Confirming
with_list name cart = list_by name >>= λ list. gives (record { cart = cart; list = list })

pub confirming_loaded : (a b c : Input) (name cases : List ℕ) (cart : Cart) (list : List EntryView) →
    Works a b (cart_of name) (Ok cart) → Works b c (list_by cases) (Ok list) →
    Works a c (confirming_of name cases) (Ok (record { cart = cart; list = list }))
unfolding confirming_of
confirming_loaded a b c name cases cart list first second =
    works_then a b c (cart_of name) cart (with_list cases) (Ok (record { cart = cart; list = list })) MOST_CHIPS (ordered_cart name) tt first
    (works_done b c (list_by cases) list (λ list. record { cart = cart; list = list }) second)

pub confirming_without_cart : (a b : Input) (name cases : List ℕ) (stop : Stop) → Works a b (cart_of name) (Err stop) →
    Works a b (confirming_of name cases) (Err stop)
unfolding confirming_of
confirming_without_cart a b name cases stop works = works_stop a b (cart_of name) (with_list cases) stop works

pub confirming_without_list : (a b c : Input) (name cases : List ℕ) (cart : Cart) (stop : Stop) → Works a b (cart_of name) (Ok cart) →
    Works b c (list_by cases) (Err stop) → RefusesFrom {A = List EntryView} (order_of Cases) (Err stop) →
    Works a c (confirming_of name cases) (Err stop)
unfolding confirming_of
confirming_without_list a b c name cases cart stop first second from =
    works_then a b c (cart_of name) cart (with_list cases) (Err stop) (order_of Cases)
    (ordered_more MOST_CHIPS (order_of Cases) (cart_of name) (omega arith) (ordered_cart name)) from first
    (works_stop b c (list_by cases) (λ list. gives (record { cart = cart; list = list })) stop second)
