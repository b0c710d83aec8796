-- The byte that fills the RAM of a chip and the address at which its counters stand are a byte and an address, where what is said is.
use Rattle.std.proofs.Common.{◌≡◌, ℕ, ◌<◌, List, refl, arith}
use Rattle.std.specs.Prelude.{◌==◌, Option, Some, None, option_map, position, slice_get, unwrap_or}
use Rattle.f8_spec.specs.Powers.{ArePowers, IsPower, said_of, usual_power}
use Rattle.f8_spec.specs.declared.chips.PowerOn.{PowerOn}
use Rattle.console_spec.specs.Powering.{fill_in, power_in, power_start, start_in}

usual_is : IsPower usual_power
usual_is = record { fill = λ byte e. cc; start = λ at e. cc }

said_is : (powers : List PowerOn) → ArePowers powers → (place : Option ℕ) →
    IsPower (unwrap_or (option_map (said_of powers) place) usual_power)
said_is powers are None = usual_is
said_is powers are (Some k) = by (slice_get powers k) refl
  where
    by : (found : Option PowerOn) → slice_get powers k ≡ found → IsPower (unwrap_or found usual_power)
    by None e = usual_is
    by (Some p) e = are k p e

power_is : (chain : List ℕ) (powers : List PowerOn) → ArePowers powers → (socket : ℕ) → IsPower (power_in chain powers socket)
power_is chain powers are socket = said_is powers are (position (λ s. s == socket) chain)

-- what is said, or else the usual number, is below a limit
within : (limit usual : ℕ) (said : Option ℕ) → ((n : ℕ) → said ≡ Some n → n < limit) → usual < limit → unwrap_or said usual < limit
within limit usual None is small = small
within limit usual (Some n) is small = is n refl

pub fill_small : (fill : ℕ) (chain : List ℕ) (powers : List PowerOn) → fill < 256 → ArePowers powers → (socket : ℕ) →
    fill_in fill chain powers socket < 256
fill_small fill chain powers small are socket =
    within 256 fill (power_in chain powers socket).fill (power_is chain powers are socket).fill small

pub start_small : (fill : ℕ) (chain : List ℕ) (powers : List PowerOn) → ArePowers powers → (socket : ℕ) →
    start_in fill chain powers socket < 65536
start_small fill chain powers are socket =
    within 65536 (power_start fill socket) (power_in chain powers socket).start (power_is chain powers are socket).start (omega arith)
