-- The commands of the debugger, and a session with its cartridge.
use Rattle.std.proofs.Common.{◌≡◌, ℕ, List, Result, Ok, Err, arith, ◌≤◌}
use Rattle.chip_face.specs.declared.sizes.TheConstants.{MOST_CHIPS}
use Rattle.outside.specs.StoreRules.{Input}
use Rattle.cart_data.specs.declared.cart.Cart.{Cart}
use Rattle.chip_debug.specs.Reading.{commands_of}
use Rattle.chip_debug.specs.Answers.{DebugFault}
use Rattle.chip_debug.specs.declared.command.Command.{Command}
use Rattle.loader.specs.declared.games.Debugging.{Debugging}
use Rattle.loader.specs.declared.purposes.Purpose.TheVariants.{Commands}
use Rattle.loader.specs.declared.refusals.Refusal.{Refusal}
use Rattle.loader.specs.declared.refusals.Refusal.TheVariants as refusal
use Rattle.loader.specs.declared.refusals.Stop.{Stop}
use Rattle.loader.specs.declared.refusals.Stop.TheVariants.{Refused, Store, Memory}
use Rattle.loader.specs.Readings.{Says, commands_told, commands_in}
use Rattle.loader.specs.Games.{cart_of, commands_by, debugging_of}
use Rattle.loader.specs.Work.{Work, ask, gives, reads, ◌>>=◌}
use Rattle.loader.specs.Works.{order_of, file_of, RefusesFrom, outcome_as, Works}
use Rattle.loader.proofs.GamesLoaded.{ordered_cart}
use Rattle.loader.proofs.WorkLaws.{works_stop, works_text, works_then, works_done, ordered_more}

-- the commands are what is refused
commands_order_of : (read : Result (List Command) DebugFault) (r : Refusal) → commands_told read ≡ Err r →
    order_of Commands ≤ order_of (file_of r)
commands_order_of (Ok commands) r e = cc e
commands_order_of (Err fault) r e = let same : refusal.Commands fault ≡ r = cc e in rw (← same) (omega arith)

pub commands_order : {A : Type 0} (text : List ℕ) (seen : A → List Command) (outcome : Result A Stop) →
    Says seen outcome (commands_in text) → RefusesFrom (order_of Commands) outcome
unfolding commands_in
commands_order text seen (Ok x) says = tt
commands_order text seen (Err (Refused r)) says = commands_order_of (commands_of text) r says
commands_order text seen (Err (Store p)) says = absurd says
commands_order text seen (Err Memory) says = tt

pub commands_read : {A : Type 0} (a b : Input) (name text : List ℕ) (seen : A → List Command) (outcome : Result A Stop) →
    Works a b (ask Commands name 65536) (Ok text) → Says seen outcome (commands_in text) →
    Works a b (commands_by name) (outcome_as seen outcome)
unfolding commands_by
commands_read a b name text seen outcome first says =
    works_text a b Commands name text 65536 seen commands_in outcome first says (commands_order text seen outcome says)

pub commands_stop : (a b : Input) (name : List ℕ) (stop : Stop) → Works a b (ask Commands name 65536) (Err stop) →
    Works a b (commands_by name) (Err stop)
unfolding commands_by
commands_stop a b name stop first = works_stop a b (ask Commands name 65536) (λ text. reads (commands_in text)) stop first

-- ---- a session

-- the commands behind their cartridge
abbrev with_commands : List ℕ → Cart → Work Debugging
with_commands name cart = commands_by name >>= λ said. gives (record { cart = cart; commands = said })

pub debugging_loaded : (a b c : Input) (name commands : List ℕ) (cart : Cart) (said : List Command) →
    Works a b (cart_of name) (Ok cart) → Works b c (commands_by commands) (Ok said) →
    Works a c (debugging_of name commands) (Ok (record { cart = cart; commands = said }))
unfolding debugging_of
debugging_loaded a b c name commands cart said first second =
    works_then a b c (cart_of name) cart (with_commands commands) (Ok (record { cart = cart; commands = said })) MOST_CHIPS
    (ordered_cart name) tt first
    (works_done b c (commands_by commands) said (λ said. record { cart = cart; commands = said }) second)

pub debugging_without_cart : (a b : Input) (name commands : List ℕ) (stop : Stop) → Works a b (cart_of name) (Err stop) →
    Works a b (debugging_of name commands) (Err stop)
unfolding debugging_of
debugging_without_cart a b name commands stop works = works_stop a b (cart_of name) (with_commands commands) stop works

pub debugging_without_commands : (a b c : Input) (name commands : List ℕ) (cart : Cart) (stop : Stop) →
    Works a b (cart_of name) (Ok cart) → Works b c (commands_by commands) (Err stop) →
    RefusesFrom {A = List Command} (order_of Commands) (Err stop) → Works a c (debugging_of name commands) (Err stop)
unfolding debugging_of
debugging_without_commands a b c name commands cart stop first second from =
    works_then a b c (cart_of name) cart (with_commands commands) (Err stop) (order_of Commands)
    (ordered_more MOST_CHIPS (order_of Commands) (cart_of name) (omega arith) (ordered_cart name)) from first
    (works_stop b c (commands_by commands) (λ said. gives (record { cart = cart; commands = said })) stop second)
