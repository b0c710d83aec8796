-- The flags of two sockets, and of one more above several.
use Rattle.std.proofs.Common.{[], ◌∷◌, refl, arith, length-append}
use Rattle.data_bus.specs.PageIndex.{flagged}
use Rattle.data_bus.proofs.Flags.{two_set, one_more_set, are_several}
use Rattle.data_bus.proofs.page_sockets.Sockets.with.Goals as goal

pub returns-in-One-clause-listed : goal.returns-in-One-clause-listed
returns-in-One-clause-listed c =
    let above = rw c.in-One.is at c.requires.above in
    rw c.in-One.is ((two_set c.in-One.first c.args.socket _ _ c.requires.below above.0 c.with_flag.ensures c.with_flag-in-One.ensures).all)

pub returns-in-One-clause-several : goal.returns-in-One-clause-several
returns-in-One-clause-several c =
    let above = rw c.in-One.is at c.requires.above in
    are_several _ _ (two_set c.in-One.first c.args.socket _ _ c.requires.below above.0 c.with_flag.ensures c.with_flag-in-One.ensures)
    (omega arith)

pub returns-in-Several-clause-listed : goal.returns-in-Several-clause-listed
returns-in-Several-clause-listed c =
    let above = rw c.in-Several.is at c.requires.above in
    let several = rw c.in-Several.is at c.requires.several in
    rw c.in-Several.is ((one_more_set c.in-Several.flags _ c.args.socket _ (record { long = several.0; all = refl }) c.requires.below above
    c.with_flag-in-Several.ensures).all)

pub returns-in-Several-clause-several : goal.returns-in-Several-clause-several
returns-in-Several-clause-several c =
    let above = rw c.in-Several.is at c.requires.above in
    let several = rw c.in-Several.is at c.requires.several in
    let two = several.1 in
    are_several _ _ (one_more_set c.in-Several.flags _ c.args.socket (flagged 0 c.in-Several.flags)
    (record { long = several.0; all = refl }) c.requires.below above
    c.with_flag-in-Several.ensures)
    (omega (arith, two, length-append (flagged 0 c.in-Several.flags) (c.args.socket ∷ [])))
