-- What happens to the chips of a rack, each in its socket: what becomes of their views, and that they stay ready.
use Rattle.std.proofs.Common.{◌≡◌, ℕ, List, map, subst, sym, arith}
use Rattle.std.specs.Prelude.{Some, slice_get}
use Rattle.std.specs.List.{enumerate_from}
use Rattle.f8_spec.specs.BusArbitration.{Seat, seat_of}
use Rattle.f8_spec.specs.ChipState.{ChipView, ChipState, IsWhole}
use Rattle.cpu3850.specs.OwnWrites.{LeaveOwnPorts}
use Rattle.data_bus.specs.Racks.{NumberedZip, views}
use Rattle.data_bus.proofs.Zipped.{Paired, paired, zip_alike, zip_numbered}
use Rattle.f8_machine.specs.Refinement.{AreWhole}
use Rattle.rewind.specs.Standing.{IsReady}
use Rattle.rewind.proofs.KeptChips.{Keeps}

module _ (R : ℕ → ChipState → ChipState → Type 0) where
  -- each chip becomes what a function of its socket and its view says
  pub views_by : (f : ℕ → ChipView → ChipView) → ((k : ℕ) (a b : ChipState) → R k a b → b.view ≡ f k a.view) → (n : ℕ)
      (olds news : List ChipState) → NumberedZip R n olds news →
      views news ≡ map (λ x. f x.0 x.1) (enumerate_from n (views olds))
  views_by f each n olds news all = zip_numbered R (λ (s : ChipState). s.view) (λ (s : ChipState). s.view) f each n olds news all

  module _ (each : (k : ℕ) (a b : ChipState) → R k a b → Keeps a.view b.view) where
    whole_stay : (olds news : List ChipState) → NumberedZip R 0 olds news → AreWhole olds → (place : ℕ) (s : ChipState) →
        slice_get news place ≡ Some s → IsWhole s.view
    whole_stay olds news all are place s here =
        let pair : Paired R olds place place s = paired R 0 place place olds news s (omega arith) all here in
        (each place pair.from s pair.related).whole (are place pair.from pair.is)

    pub ready_stays : (olds news : List ChipState) → NumberedZip R 0 olds news → IsReady olds → IsReady news
    ready_stays olds news all ready = record {
      whole = λ place s here. whole_stay olds news all ready.whole place s here;
      free = subst (λ (seats : List Seat). LeaveOwnPorts seats) (sym (zip_alike R (λ (s : ChipState). s.view) (λ (s : ChipState). s.view)
          seat_of seat_of (λ k a b one. (each k a b one).seat) 0 olds news all)) ready.free;
    }
