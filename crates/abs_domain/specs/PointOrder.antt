-- The order of points: by address, then by return, then by the values of tracked registers, with what is unset first.
use Rattle.std.specs.declared.cmp.Ordering.{Ordering}
use Rattle.std.specs.Ordering.{nat_cmp, ordering_then}
use Rattle.std.specs.Option.{option_cmp}
use Rattle.std.specs.Cmp.Lexicographic.{slice_cmp}
use Rattle.abs_domain.specs.declared.points.Point.{Point}

abbrev pub point_cmp : Point → Point → Ordering
point_cmp p q = ordering_then (nat_cmp p.at q.at)
    (ordering_then (option_cmp nat_cmp p.ret q.ret) (slice_cmp (option_cmp nat_cmp) p.split q.split))
