-- The script of a run, the table of a description, and the one file of a command.
use Rattle.std.proofs.Common.{◌≡◌, ℕ, List, None, Result, Ok, Err, arith, ◌≤◌}
use Rattle.outside.specs.StoreRules.{Input}
use Rattle.console_spec.specs.Scripts.{Script as RunScript}
use Rattle.f8_asm.specs.Image.{Picture, everywhere}
use Rattle.pad_script.specs.Answers.{ScriptFault}
use Rattle.pad_script.specs.Reading.{script_of}
use Rattle.toml.specs.Data.{Members}
use Rattle.loader.specs.declared.purposes.Purpose.TheVariants.{Cart as CartFile, Script, File}
use Rattle.loader.specs.declared.refusals.Refusal.{Refusal}
use Rattle.loader.specs.declared.refusals.Refusal.TheVariants as refusal
use Rattle.loader.specs.declared.refusals.Stop.{Stop}
use Rattle.loader.specs.declared.refusals.Stop.TheVariants.{Refused, Store, Memory}
use Rattle.loader.specs.Readings.{Says, described_table, script_told, script_in, image_in, bytes_in}
use Rattle.loader.specs.Games.{table_by, script_by, image_by, bytes_by}
use Rattle.loader.specs.Work.{ask, reads, ◌>>=◌}
use Rattle.loader.specs.Works.{order_of, file_of, RefusesFrom, outcome_as, Works}
use Rattle.loader.proofs.WorkLaws.{works_stop, works_text, works_seen, from_first}

-- the script is what is refused
script_order_of : (read : Result RunScript ScriptFault) (r : Refusal) → script_told read ≡ Err r →
    order_of Script ≤ order_of (file_of r)
script_order_of (Ok script) r e = cc e
script_order_of (Err fault) r e = let same : refusal.Script fault ≡ r = cc e in rw (← same) (omega arith)

pub script_order : {A : Type 0} (text : List ℕ) (seen : A → RunScript) (outcome : Result A Stop) →
    Says seen outcome (script_in text) → RefusesFrom (order_of Script) outcome
unfolding script_in
script_order text seen (Ok x) says = tt
script_order text seen (Err (Refused r)) says = script_order_of (script_of text) r says
script_order text seen (Err (Store p)) says = absurd says
script_order text seen (Err Memory) says = tt

pub script_read : {A : Type 0} (a b : Input) (name text : List ℕ) (seen : A → RunScript) (outcome : Result A Stop) →
    Works a b (ask Script name 65536) (Ok text) → Says seen outcome (script_in text) →
    Works a b (script_by name) (outcome_as seen outcome)
unfolding script_by
script_read a b name text seen outcome first says =
    works_text a b Script name text 65536 seen script_in outcome first says (script_order text seen outcome says)

pub script_stop : (a b : Input) (name : List ℕ) (stop : Stop) → Works a b (ask Script name 65536) (Err stop) →
    Works a b (script_by name) (Err stop)
unfolding script_by
script_stop a b name stop first = works_stop a b (ask Script name 65536) (λ text. reads (script_in text)) stop first

-- ---- one file

pub table_read : {A : Type 0} (a b : Input) (name bytes : List ℕ) (seen : A → Members) (outcome : Result A Stop) →
    Works a b (ask CartFile name 65536) (Ok bytes) → Says seen outcome (described_table bytes) →
    Works a b (table_by name) (outcome_as seen outcome)
unfolding table_by
table_read a b name bytes seen outcome first says =
    works_text a b CartFile name bytes 65536 seen described_table outcome first says (from_first outcome)

pub table_stop : (a b : Input) (name : List ℕ) (stop : Stop) → Works a b (ask CartFile name 65536) (Err stop) →
    Works a b (table_by name) (Err stop)
unfolding table_by
table_stop a b name stop first =
    works_stop a b (ask CartFile name 65536) (λ bytes. reads (described_table bytes)) stop first

pub picture_read : (a b : Input) (name text : List ℕ) (outcome : Result Picture Stop) →
    Works a b (ask File name 262144) (Ok text) → Says (λ picture. picture) outcome (image_in None everywhere text) →
    Works a b (image_by name) outcome
unfolding image_by
picture_read a b name text outcome first says =
    works_seen a b (ask File name 262144 >>= λ text. reads (image_in None everywhere text)) outcome
    (works_text a b File name text 262144 (λ picture. picture) (image_in None everywhere) outcome first says
    (from_first outcome))

pub picture_stop : (a b : Input) (name : List ℕ) (stop : Stop) → Works a b (ask File name 262144) (Err stop) →
    Works a b (image_by name) (Err stop)
unfolding image_by
picture_stop a b name stop first =
    works_stop a b (ask File name 262144) (λ text. reads (image_in None everywhere text)) stop first

pub bytes_read : {A : Type 0} (a b : Input) (name text : List ℕ) (seen : A → List ℕ) (outcome : Result A Stop) →
    Works a b (ask File name 262144) (Ok text) → Says seen outcome (bytes_in text) →
    Works a b (bytes_by name) (outcome_as seen outcome)
unfolding bytes_by
bytes_read a b name text seen outcome first says =
    works_text a b File name text 262144 seen bytes_in outcome first says (from_first outcome)

pub bytes_stop : (a b : Input) (name : List ℕ) (stop : Stop) → Works a b (ask File name 262144) (Err stop) →
    Works a b (bytes_by name) (Err stop)
unfolding bytes_by
bytes_stop a b name stop first = works_stop a b (ask File name 262144) (λ text. reads (bytes_in text)) stop first
