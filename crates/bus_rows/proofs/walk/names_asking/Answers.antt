-- The chip that was found in the named socket is that of the list.
use Rattle.std.proofs.Common.{rules, sym, ◌∙◌}
use Rattle.bus_rows.proofs.Named.{names_asking}
use Rattle.bus_rows.proofs.walk.names_asking.Goals as goal

pub returns-in-Some-get : goal.returns-in-Some-get
returns-in-Some-get g c = λ t.
    let found = rw (c.deref.ensures.value, c.from.ensures) at c.in-Some-get.ensures.lookup.1 in
    names_asking (λ b. (goal.Chip-dyn g (b.vtable, b.value)).state b.value) c.args.rack.now.items c.args.first c.in-Some.socket
    c.in-Some-get.chip.now c.in-Some.is (search rules) found (sym c.asks.ensures ∙ t)
