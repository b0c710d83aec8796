-- What stands before an answer of some steps.
use Rattle.std.proofs.Common.{◌≡◌, Bool, true, false, Option, Some, None, Result, Ok, Err, refl}
use Rattle.std.specs.Prelude.{if◌then◌else◌}
use Rattle.toml.specs.Data.{Data, Members}
use Rattle.cartridge.specs.declared.keys.Key.{Key}
use Rattle.cartridge.specs.declared.refusal.CartCause.{CartCause}
use Rattle.cartridge.specs.Faults.{◌>>=◌, at_key}
use Rattle.cartridge.specs.Keys.{value_at}
use Rattle.cartridge.specs.Values.{required_value, optional, value_needed, usually}

pub bind-ok : {A B E : Type 0} (P : Type 0) (r : Result A E) (f : A → Result B E) (y : B) → (r >>= f) ≡ Ok y → ((x : A) → r ≡ Ok x → f x ≡ Ok y → P) → P
bind-ok P (Ok x) f y h k = k x refl h
bind-ok P (Err e) f y h k = cc h

pub if-ok : {A E : Type 0} (t : Bool) (x y : A) (e : E) → (if t then Ok x else Err e) ≡ Ok y → (t ≡ true) × (x ≡ y)
if-ok true x y e h = (refl, cc h)
if-ok false x y e h = cc h

pub at_key-ok : {A : Type 0} (key : Key) (r : Result A CartCause) (x : A) → at_key key r ≡ Ok x → r ≡ Ok x
at_key-ok key (Ok y) x h = cc h
at_key-ok key (Err cause) x h = cc h

judged_needed : {A : Type 0} (judge : Data → Result A CartCause) (o : Option Data) (x : A) (d : Data) → required_value judge o ≡ Ok x → o ≡ Some d
    → judge d ≡ Ok x
judged_needed judge None x d h there = cc h
judged_needed judge (Some e) x d h there = let same : e ≡ d = cc there in rw (← same) h

judged_usual : {A : Type 0} (usual : A) (judge : Data → Result A CartCause) (o : Option Data) (x : A) (d : Data) → optional usual judge o ≡ Ok x → o ≡ Some d
    → judge d ≡ Ok x
judged_usual usual judge None x d h there = cc there
judged_usual usual judge (Some e) x d h there = let same : e ≡ d = cc there in rw (← same) h

-- the value that is at a key was judged
pub needed-judged : {A : Type 0} (key : Key) (judge : Data → Result A CartCause) (table : Members) (x : A) (d : Data)
    → value_needed key judge table ≡ Ok x → value_at key table ≡ Some d → judge d ≡ Ok x
needed-judged key judge table x d h there =
    judged_needed judge (value_at key table) x d (at_key-ok key (required_value judge (value_at key table)) x h) there

pub usually-judged : {A : Type 0} (key : Key) (usual : A) (judge : Data → Result A CartCause) (table : Members) (x : A) (d : Data)
    → usually key usual judge table ≡ Ok x → value_at key table ≡ Some d → judge d ≡ Ok x
usually-judged key usual judge table x d h there =
    judged_usual usual judge (value_at key table) x d (at_key-ok key (optional usual judge (value_at key table)) x h) there
