-- What a pass over the chips of a rack finds comes by ascending sockets.
use Rattle.std.proofs.Common.{◌≡◌, ℕ, ◌+◌, ◌≤◌, Bool, true, false, List, [], ◌∷◌, Option, refl, arith}
use Rattle.std.specs.Prelude.{◌&&◌, not, filter_map}
use Rattle.std.specs.List.{enumerate_from}
use Rattle.f8_spec.specs.BusArbitration.{PlacedSeat, answers, would_answer, party_if}
use Rattle.f8_spec.specs.declared.bus.Party.{Party}
use Rattle.data_bus.specs.SocketsLaw.{AscendFrom, SocketsLaw}

lower : (m n : ℕ) (qs : List Party) → m ≤ n → AscendFrom n qs → AscendFrom m qs
lower m n [] below ascend = tt
lower m n (q ∷ qs) below ascend = (omega (arith, below, ascend.0), ascend.1)

-- a chip that is found where a test says so, by its socket
module _ (test : PlacedSeat → Bool) where
  abbrev found : ℕ × PlacedSeat → Option Party
  found x = party_if (test x.1) x.0 x.1.at

  one_more : (n : ℕ) (x : PlacedSeat) (xs : List PlacedSeat) (answer : Bool) → test x ≡ answer →
      AscendFrom (n + 1) (filter_map found (enumerate_from (n + 1) xs)) →
      AscendFrom n (filter_map found (enumerate_from n (x ∷ xs)))
  one_more n x xs true same later = rw same (omega arith, later)
  one_more n x xs false same later = rw same (lower n (n + 1) (filter_map found (enumerate_from (n + 1) xs)) (omega arith) later)

  ascend : (n : ℕ) (xs : List PlacedSeat) → AscendFrom n (filter_map found (enumerate_from n xs))
  ascend n [] = tt
  ascend n (x ∷ xs) = one_more n x xs (test x) refl (ascend (n + 1) xs)

pub sockets_law : SocketsLaw
sockets_law = record {
  taking_part = λ rule seats. ascend (answers rule) 0 seats;
  standing_by = λ rule reference seats. ascend (λ x. not (answers rule x) && would_answer rule x.seat reference) 0 seats;
}
