-- Statuses by their numbers: no two have the same one.
use Rattle.std.proofs.Common.{◌≡◌, ◌≢◌, ℕ, ◌==◌, refl, sym, ap, ◌∙◌}
use Rattle.std.specs.Prelude.{if◌then◌else◌}
use Rattle.channel_f.specs.Statuses.{exit_code, HasStatus}
use Rattle.channel_f.specs.declared.status.Status.{Status}
use Rattle.channel_f.specs.declared.status.Status.TheVariants.{Done, Words, Input, Fault, Store, Sink, Memory, NoVerdict, Reserved}
use Rattle.channel_f.specs.declared.status.Status.TheVariants.{NoWords}

-- the status of a number
abbrev status_by : ℕ → Status
status_by code =
    if code == 0 then Done else (if code == 1 then Words else (if code == 2 then Input else (if code == 3 then Fault
    else (if code == 4 then Store else (if code == 5 then Sink else (if code == 6 then Memory else (if code == 7 then NoVerdict
    else (if code == 8 then Reserved else NoWords))))))))

back : (s : Status) → status_by (exit_code s) ≡ s
back Done = refl
back Words = refl
back Input = refl
back Fault = refl
back Store = refl
back Sink = refl
back Memory = refl
back NoVerdict = refl
back Reserved = refl
back NoWords = refl

pub same_status : (s t : Status) → exit_code s ≡ exit_code t → s ≡ t
same_status s t same = sym (back s) ∙ ap status_by same ∙ back t

-- a status that is never said has its number never
pub never_code : (code : ℕ) (s : Status) (Says : Status → Type 0) → HasStatus code Says →
    ((said : Status) → Says said → said ≢ s) → code ≢ exit_code s
never_code code s Says has never e = never has.status has.says (same_status has.status s (sym has.is ∙ e))
