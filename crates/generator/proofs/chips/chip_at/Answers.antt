-- The ROM is the 1,024 bytes from the base on.
use Rattle.std.proofs.Common.{◌≡◌, ◌+◌, ◌-◌, ◌*◌, refl, arith}
use Rattle.generator.proofs.chips.chip_at.Goals as goal

pub returns : goal.returns
returns c =
    let rom = c.in_ok-rom.ensures.items_if_clones_equal (λ x y same. same) in
    let many : 1024 * c.from-start.result + 1024 - 1024 * c.from-start.result ≡ 1024 = omega arith in
    rw (c.from_vec.ensures, rom, many, c.from-start.ensures) refl
