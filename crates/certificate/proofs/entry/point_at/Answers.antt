-- The values that are read stand before unset places.
use Rattle.std.proofs.Common.{◌≡◌, ℕ, length, take, replicate, refl}
use Rattle.std.specs.Prelude.{Option, Some, None}
use Rattle.std.proofs.lemmas.List.{drop-replicate, length-take-le}
use Rattle.certificate.specs.Parts.{values_at}
use Rattle.certificate.specs.Entries.{point_at}
use Rattle.certificate.proofs.entry.point_at.Goals as goal

pub returns : goal.returns
unfolding point_at
returns c =
    let n = c.args.tracked in
    let sized : length {A = Option ℕ} (take n (replicate 8 None)) ≡ n = length-take-le n (replicate 8 None) c.requires in
    let read : values_at n c.in_ok-field-2.field-0.now ≡ Some (c.values_at.new.values, c.in_ok-rest.rest.now) =
    rw sized at c.in_ok-rest.ensures in
    rw (drop-replicate {X = Option ℕ} n 8 None, c.in_ok-at.ensures, c.in_ok-field.ensures, c.in_ok-ret.ensures, c.in_ok-field-2.ensures, read) refl
