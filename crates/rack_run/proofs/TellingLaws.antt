-- How a run by a script goes on from one instruction to the next.
use Rattle.std.proofs.Common.{◌≡◌, ℕ, zero, suc, ◌+◌, ◌-◌, ◌<◌, ◌≤◌, Bool, true, false, List, [], ◌∷◌, refl, ap, ◌∙◌, arith}
use Rattle.std.specs.Prelude.{if◌then◌else◌}
use Rattle.console_spec.specs.Run.{Position, Turn, Stop, Goes, Stops, Done}
use Rattle.console_spec.specs.Scripts.{Script}
use Rattle.console_spec.specs.Telling.{Way, Moment, Telling, is_over, moment_of, telling, telling_on}
use Rattle.rack_run.specs.Asking.{last_codes}
use Rattle.rack_run.specs.Turns.{position_behind}

-- a run that is over where it stands
abbrev pub over_at : Position → Telling
over_at x = record { moments = []; ending = record { position = x; stop = Done } }

-- an instruction, and what comes behind it
abbrev pub then_on : Way → Script → Position → Telling → Telling
then_on way script x later =
    record { moments = moment_of way script x (way.step x) ∷ later.moments; ending = later.ending }

left_over : (n i : ℕ) → i < n → n - i ≡ suc (n - (i + 1))
left_over n i h = omega arith

pub telling-over : (way : Way) (script : Script) (n : ℕ) (x : Position) → is_over script x ≡ true →
    telling way script n x ≡ over_at x
unfolding telling
telling-over way script zero x over = refl
telling-over way script (suc n) x over = rw over refl

pub telling-none : (way : Way) (script : Script) (n i : ℕ) (x : Position) → n ≤ i →
    telling way script (n - i) x ≡ over_at x
unfolding telling
telling-none way script n i x past = let none : n - i ≡ 0 = omega arith in ap (λ k. telling way script k x) none

telling-more : (way : Way) (script : Script) (n : ℕ) (x : Position) → is_over script x ≡ false →
    telling way script (suc n) x ≡ telling_on script x (moment_of way script x (way.step x))
    (λ z. telling way script n z) (way.step x)
unfolding telling
telling-more way script n x on = rw on refl

pub telling-goes : (way : Way) (script : Script) (n i : ℕ) (x y : Position) → i < n → is_over script x ≡ false →
    way.step x ≡ Goes y →
    telling way script (n - i) x ≡ then_on way script x (telling way script (n - (i + 1)) (position_behind script x y))
telling-goes way script n i x y more on goes =
    ap (λ k. telling way script k x) (left_over n i more)
    ∙ telling-more way script (n - (i + 1)) x on
    ∙ ap
    (λ (turn : Turn). telling_on script x (moment_of way script x (way.step x)) (λ z. telling way script (n - (i + 1)) z) turn)
    goes

pub telling-stops : (way : Way) (script : Script) (n i : ℕ) (x : Position) (stop : Stop) → i < n →
    is_over script x ≡ false →
    way.step x ≡ Stops stop →
    telling way script (n - i) x ≡ then_on way script x
    (record {
      moments = [];
      ending = record { position = x; stop = stop };
    })
telling-stops way script n i x stop more on stops =
    ap (λ k. telling way script k x) (left_over n i more)
    ∙ telling-more way script (n - (i + 1)) x on
    ∙ ap
    (λ (turn : Turn). telling_on script x (moment_of way script x (way.step x)) (λ z. telling way script (n - (i + 1)) z) turn)
    stops

-- ---- a run with no moment stops at no bus step

abbrev pub last_of : Telling → List ℕ
last_of run = last_codes run.moments run.ending.stop

turned_last : (script : Script) (x : Position) (moment : Moment) (rest : Position → Telling) (turn : Turn) →
    last_of (telling_on script x moment rest turn) ≡ []
turned_last script x moment rest (Goes y) = refl
turned_last script x moment rest (Stops stop) = refl

either_last : (b : Bool) (s t : Telling) → last_of s ≡ [] → last_of t ≡ [] → last_of (if b then s else t) ≡ []
either_last true s t one other = one
either_last false s t one other = other

pub telling-last : (way : Way) (script : Script) (n : ℕ) (x : Position) → last_of (telling way script n x) ≡ []
unfolding telling
telling-last way script zero x = refl
telling-last way script (suc n) x =
    let moment = moment_of way script x (way.step x) in
    let rest : Position → Telling = λ z. telling way script n z in
    either_last (is_over script x) (over_at x) (telling_on script x moment rest (way.step x)) refl
    (turned_last script x moment rest (way.step x))
