-- An index stands for its rack and its probe: from the first, and on.
use Rattle.std.proofs.Common.{◌≡◌, ℕ, ◌<◌, Bool, List, [], ◌∷◌, sym, subst, ◌∙◌}
use Rattle.std.specs.Prelude.{Option}
use Rattle.f8_spec.specs.BusCodes.{Count}
use Rattle.f8_spec.specs.ChipState.{ChipState, ChipView}
use Rattle.f8_spec.specs.BusArbitration.{Seat}
use Rattle.probe.specs.ProbeState.{ProbeState, probe_after}
use Rattle.data_bus.specs.KnownAgreement.{AllAddresses, AllAgree, no_marks}
use Rattle.data_bus.specs.PageIndex.{IsIndexOf, StandsFor, followed, seats}
use Rattle.data_bus.specs.Racks.{RackSettles, views}
use Rattle.data_bus.specs.declared.index.Index.{Index}
use Rattle.data_bus.specs.declared.marks.Marks.{Marks}
use Rattle.data_bus.proofs.SteppedRacks.{seats_stay, agreement_kept, addresses_kept}

-- where nothing is marked, nothing is said
unmarked_agree : (reference : Count) (vs : List ChipView) → AllAgree no_marks reference vs
unmarked_agree reference [] = tt
unmarked_agree reference (v ∷ vs) = (
  λ held. record {
    pc0 = record { low = λ e. cc; high = λ e. cc };
    pc1 = record { low = λ e. cc; high = λ e. cc };
    dc0 = record { low = λ e. cc; high = λ e. cc };
    dc1 = λ second. record { low = λ e. cc; high = λ e. cc };
  },
  unmarked_agree reference vs,
)

-- the lists of a rack with nothing marked, whatever the probe
pub stands-unmarked : (index : Index) (probe : ProbeState) (olds news : List ChipState) → news ≡ olds → IsIndexOf index (seats olds) →
    index.marks ≡ no_marks → AllAddresses (views olds) → StandsFor index probe news
stands-unmarked index probe olds news same lists unmarked small =
    subst (λ (states : List ChipState). StandsFor index probe states) (sym same) (record {
      lists = lists;
      marks = subst (λ (marks : Marks). AllAgree marks probe.count (views olds)) (sym unmarked) (unmarked_agree probe.count (views olds));
      addresses = small;
    })

-- the lists of an index over another's marks
lists-followed : (romc : ℕ) (index : Index) (these : List Seat) → IsIndexOf index these → IsIndexOf (followed romc index) these
lists-followed romc index these lists = record { holders = lists.holders; takers = lists.takers; parted = lists.parted }

-- after a served step
pub stands-after : (romc : ℕ) (long : Bool) (first : Option ℕ) (byte : ℕ) (before after : Index) (probe heard : ProbeState)
    (olds mids news : List ChipState) → byte < 256 → mids ≡ olds → RackSettles romc long first byte mids news →
    heard ≡ probe_after romc byte probe → after ≡ followed romc before → StandsFor before probe olds → StandsFor after heard news
stands-after romc long first byte before after probe heard olds mids news small same settled hears follows stands =
    let ran : RackSettles romc long first byte olds news =
    subst (λ (l : List ChipState). RackSettles romc long first byte l news) same settled in
    let stay : seats news ≡ seats olds = seats_stay romc long first byte 0 olds news ran in
    let at : StandsFor (followed romc before) (probe_after romc byte probe) news = record {
      lists = subst (λ these. IsIndexOf (followed romc before) these) (sym stay) (lists-followed romc before (seats olds) stands.lists);
      marks = agreement_kept before.is_parted romc long first byte before.marks probe olds news
          (λ some. stands.lists.parted ∙ some) ran stands.addresses stands.marks;
      addresses = addresses_kept romc long first byte olds news small ran stands.addresses;
    } in
    subst (λ (index : Index). StandsFor index heard news) (sym follows)
    (subst (λ (p : ProbeState). StandsFor (followed romc before) p news) (sym hears) at)
