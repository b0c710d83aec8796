-- What a whole run on a rack asks: at power-on, nothing by the events of frame 0, at reset, and behind it.
use Rattle.std.proofs.Common.{◌≡◌, ℕ, ◌+◌, ◌*◌, ◌≤◌, Bool, List, [], ◌++◌, length, ap, ◌∙◌, subst, arith}
use Rattle.std.specs.Prelude.{Result, Ok, Err, OnOk}
use Rattle.std.specs.List.{list_any}
use Rattle.f8_spec.specs.ChipState.{ChipState}
use Rattle.data_bus.specs.KnownAgreement.{no_marks, parts}
use Rattle.data_bus.specs.PageIndex.{seats}
use Rattle.data_bus.specs.declared.index.Index.{Index}
use Rattle.data_bus.specs.declared.marks.Marks.{Marks}
use Rattle.f8_machine.specs.Questions.{allowances, allowed}
use Rattle.rack_run.specs.Asking.{AsksOn, AsksWithin, run_allowed}
use Rattle.rack_run.proofs.AskingLaws.{asks_last}

-- by an index that knows nothing of the counters
unknown_allowed : (chips : ℕ) (states : List ChipState) (index : Index) (codes : List ℕ) → chips ≡ length states →
    index.marks ≡ no_marks → index.is_parted ≡ list_any parts (seats states) →
    allowances chips index codes ≡ allowed (length states) (list_any parts (seats states)) no_marks codes
unknown_allowed chips states index codes size marks parted =
    ap (λ (n : ℕ). allowed n index.is_parted index.marks codes) size
    ∙ ap (λ (b : Bool). allowed (length states) b index.marks codes) parted
    ∙ ap (λ (m : Marks). allowed (length states) (list_any parts (seats states)) m codes) marks

-- a rack of n chips that are fitted, counted again behind power-on and behind the events
module _ (states : List ChipState) (n powered_n begun_n p q r : ℕ) (first begun : Index) (size : n ≡ length states)
    (powered_size : powered_n ≡ n) (begun_size : begun_n ≡ powered_n) (marks : first.marks ≡ no_marks)
    (parted : first.is_parted ≡ list_any parts (seats states)) (power : q ≤ p + 512 * n)
    (events : AsksOn (λ l. allowances powered_n first l) (λ l. allowances powered_n begun l) q r []) where
  -- up to reset
  pub play_first : (s : ℕ) (codes : List ℕ) → AsksWithin (λ l. allowances begun_n begun l) r s codes →
      AsksWithin (run_allowed states) p s codes
  play_first s codes reset =
      let both : AsksWithin (λ l. allowances powered_n first l) q s codes =
      asks_last (λ k l. allowances k first l) (λ k l. allowances k begun l) (λ k l. 0) powered_n begun_n q r s begun_size [] codes
      events reset in
      let alike = unknown_allowed powered_n states first codes (powered_size ∙ size) marks parted in
      let rooms : 512 * n ≡ 512 * length states = ap (λ (k : ℕ). 512 * k) size in
      omega (arith, power, both, alike, rooms)

  -- and behind it
  pub play_then : (s t behind_n : ℕ) (behind : Index) (codes more : List ℕ) → behind_n ≡ begun_n →
      AsksOn (λ l. allowances begun_n begun l) (λ l. allowances begun_n behind l) r s codes →
      AsksWithin (λ l. allowances behind_n behind l) s t more → AsksWithin (run_allowed states) p t (codes ++ more)
  play_then s t behind_n behind codes more same reset rest =
      play_first t (codes ++ more)
      (asks_last (λ k l. allowances k begun l) (λ k l. allowances k behind l) (λ k l. 0) begun_n behind_n r s t same codes more
      reset rest)

pub asked_ok : {T E : Type 0} (result : Result T E) (Asks Within : List ℕ → Type 0) (codes all : List ℕ) (first : List ℕ) →
    first ++ codes ≡ all → ((l : List ℕ) → Within l → Asks (first ++ l)) → OnOk result (Within codes) → OnOk result (Asks all)
asked_ok (Ok x) Asks Within codes all first same asks within = subst Asks same (asks codes within)
asked_ok (Err e) Asks Within codes all first same asks within = tt
