-- What a certificate claims of a cartridge: first the cartridge, and then the certificate.
use Rattle.std.proofs.Common.{◌≡◌, ℕ, List, Result, Ok, Err, arith, ◌≤◌}
use Rattle.outside.specs.StoreRules.{Input}
use Rattle.chip_face.specs.declared.sizes.TheConstants.{MOST_CHIPS}
use Rattle.cart_data.specs.declared.cart.Cart.{Cart}
use Rattle.abs_domain.specs.AbstractState.{AbstractState}
use Rattle.abs_domain.specs.declared.points.Point.{Point}
use Rattle.certificate.specs.CertificateText.{certificate_of}
use Rattle.certificate.specs.declared.answers.CertFault.{CertFault}
use Rattle.loader.specs.declared.purposes.Purpose.TheVariants.{Cert}
use Rattle.loader.specs.declared.refusals.Refusal.{Refusal}
use Rattle.loader.specs.declared.refusals.Refusal.TheVariants as refusal
use Rattle.loader.specs.declared.refusals.Stop.{Stop}
use Rattle.loader.specs.declared.refusals.Stop.TheVariants.{Refused, Store, Memory}
use Rattle.loader.specs.Readings.{Says, notes_told, notes_in}
use Rattle.loader.specs.Games.{Claim, cart_of, notes_by, claim_of}
use Rattle.loader.specs.Work.{Work, gives, ask, reads, ◌>>=◌}
use Rattle.loader.specs.Works.{order_of, file_of, RefusesFrom, outcome_as, Works}
use Rattle.loader.proofs.WorkLaws.{works_stop, works_text, works_then, works_done, ordered_more}
use Rattle.loader.proofs.GamesLoaded.{ordered_cart}

abbrev Notes : Type 0
Notes = List (Point × AbstractState)

-- the certificate is what is refused
notes_order_of : (read : Result Notes CertFault) (r : Refusal) → notes_told read ≡ Err r → order_of Cert ≤ order_of (file_of r)
notes_order_of (Ok notes) r e = cc e
notes_order_of (Err fault) r e = let same : refusal.Cert fault ≡ r = cc e in rw (← same) (omega arith)

pub notes_order : {A : Type 0} (tracked text : List ℕ) (seen : A → Notes) (outcome : Result A Stop) →
    Says seen outcome (notes_in tracked text) → RefusesFrom (order_of Cert) outcome
unfolding notes_in
notes_order tracked text seen (Ok x) says = tt
notes_order tracked text seen (Err (Refused r)) says = notes_order_of (certificate_of tracked text) r says
notes_order tracked text seen (Err (Store p)) says = absurd says
notes_order tracked text seen (Err Memory) says = tt

pub notes_read : {A : Type 0} (a b : Input) (tracked name text : List ℕ) (seen : A → Notes) (outcome : Result A Stop) →
    Works a b (ask Cert name 16777216) (Ok text) → Says seen outcome (notes_in tracked text) →
    Works a b (notes_by tracked name) (outcome_as seen outcome)
unfolding notes_by
notes_read a b tracked name text seen outcome first says =
    works_text a b Cert name text 16777216 seen (notes_in tracked) outcome first says (notes_order tracked text seen outcome says)

pub notes_stop : (a b : Input) (tracked name : List ℕ) (stop : Stop) → Works a b (ask Cert name 16777216) (Err stop) →
    Works a b (notes_by tracked name) (Err stop)
unfolding notes_by
notes_stop a b tracked name stop first = works_stop a b (ask Cert name 16777216) (λ text. reads (notes_in tracked text)) stop first

-- ---- both

abbrev with_notes : List ℕ → Cart → Work Claim
with_notes cert cart = notes_by cart.split cert >>= λ notes. gives (record { cart = cart; notes = notes })

pub claim_loaded : (a b c : Input) (name cert : List ℕ) (cart : Cart) (notes : Notes) → Works a b (cart_of name) (Ok cart) →
    Works b c (notes_by cart.split cert) (Ok notes) → Works a c (claim_of name cert) (Ok (record { cart = cart; notes = notes }))
unfolding claim_of
claim_loaded a b c name cert cart notes first second =
    works_then a b c (cart_of name) cart (with_notes cert) (Ok (record { cart = cart; notes = notes })) MOST_CHIPS (ordered_cart name) tt first
    (works_done b c (notes_by cart.split cert) notes (λ notes. record { cart = cart; notes = notes }) second)

pub claim_without_cart : (a b : Input) (name cert : List ℕ) (stop : Stop) → Works a b (cart_of name) (Err stop) →
    Works a b (claim_of name cert) (Err stop)
unfolding claim_of
claim_without_cart a b name cert stop works = works_stop a b (cart_of name) (with_notes cert) stop works

pub claim_without_notes : (a b c : Input) (name cert : List ℕ) (cart : Cart) (stop : Stop) → Works a b (cart_of name) (Ok cart) →
    Works b c (notes_by cart.split cert) (Err stop) → RefusesFrom {A = Notes} (order_of Cert) (Err stop) →
    Works a c (claim_of name cert) (Err stop)
unfolding claim_of
claim_without_notes a b c name cert cart stop first second from =
    works_then a b c (cart_of name) cart (with_notes cert) (Err stop) (order_of Cert)
    (ordered_more MOST_CHIPS (order_of Cert) (cart_of name) (omega arith) (ordered_cart name)) from first
    (works_stop b c (notes_by cart.split cert) (λ notes. gives (record { cart = cart; notes = notes })) stop second)
