use Rattle.std.proofs.Common.{ℕ, List, [], ◌∷◌, get_or, suc, Fits, w8, arith}
use Rattle.f8_asm.proofs.ListedPieces.{AreBytes}
use Rattle.f8_asm.proofs.ListingIs.{listing_is}
use Rattle.f8_asm.proofs.RoundTrip.{round_trip, listing_short}
use Rattle.f8_asm.proofs.listing.disassemble.Goals as goal

are_bytes : (bytes : List ℕ) → ((i : ℕ) → Fits w8 (get_or bytes i 0)) → AreBytes bytes
are_bytes [] fit = tt
are_bytes (b ∷ bs) fit = (let first = fit 0 in omega (arith, first), are_bytes bs (λ i. fit (suc i)))

pub returns-in-Ok-clause-law : goal.returns-in-Ok-clause-law
returns-in-Ok-clause-law c =
    rw c.in-Ok.ensures (listing_is c.args.bytes.now (are_bytes c.args.bytes.now c.type_inv.bytes) c.requires)

pub returns-in-Ok-clause-round_trip : goal.returns-in-Ok-clause-round_trip
returns-in-Ok-clause-round_trip c =
    rw c.in-Ok.ensures (round_trip c.args.bytes.now (are_bytes c.args.bytes.now c.type_inv.bytes) c.requires)

pub returns-in-Ok-clause-size : goal.returns-in-Ok-clause-size
returns-in-Ok-clause-size c =
    rw c.in-Ok.ensures (listing_short c.args.bytes.now (are_bytes c.args.bytes.now c.type_inv.bytes) c.requires)
