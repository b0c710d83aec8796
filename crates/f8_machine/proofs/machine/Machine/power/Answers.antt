-- Power-on makes the position of power-on.
use Rattle.std.proofs.Common.{◌<◌, rules}
use Rattle.f8_machine.proofs.FitMachines.{powered_addresses, power_parted}
use Rattle.f8_machine.proofs.PowerPositions.{powers_pair}
use Rattle.f8_machine.proofs.machine.Machine.power.Goals as goal

pub returns-clause-pair : goal.returns-clause-pair
returns-clause-pair g c = λ whole free.
    let small : c.args.fill < 256 = search rules in
    rw (c.new.ensures, c.power.ensures, c.zero.ensures)
    (powers_pair c.args.fill c.args.chain c.args.powers.now c.of-index.result _ _ small
    (rw c.as_slice-2.ensures.value at c.as_slice-2.ensures.limits) whole free
    (rw (c.of-index.ensures.stays, ← c.as_slice.ensures.value, ← c.as_slice-2.ensures.value) c.power_all.ensures.powered))

pub returns-clause-fits : goal.returns-clause-fits
returns-clause-fits g c =
    c.of-index.ensures.stands _ (powered_addresses c.args.fill c.as_slice.result.now c.as_slice-2.result.now _ _
    c.as_slice-2.ensures.limits c.power_all.ensures.powered)

pub returns-clause-parted : goal.returns-clause-parted
returns-clause-parted g c =
    power_parted c.args.fill c.as_slice.result.now c.as_slice-2.result.now c.of-index.result _ _ c.of-index.ensures.lists
    c.power_all.ensures.powered
