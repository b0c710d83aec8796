-- Bus steps worked out by hand, computed from the definitions.
use Rattle.std.proofs.Common.{◌≡◌, ℕ, ◌+◌, [], ◌∷◌, refl}
use Rattle.std.specs.Prelude.{false, None, Some}
use Rattle.f8_spec.specs.BusArbitration.{PlacedSeat, Served, Conflict, Undriven, Astray, ruling}
use Rattle.f8_spec.specs.declared.chips.ChipKind.TheVariants.{Psu, Smi}
use Rattle.f8_spec.specs.declared.chips.PageSort.{PageSort}
use Rattle.f8_spec.specs.declared.chips.PageSort.TheVariants.{Rom, Ram}
use Rattle.f8_spec.specs.declared.chips.Page.{Page}

page : PageSort → ℕ → Page
page sort number = record { number = number; sort = sort }

-- a 3851 with its first page and its first port, at its own place
psu : ℕ → ℕ → ℕ → PlacedSeat
psu first ports at = record {
  seat = record {
    kind = Psu;
    pages = page Rom first ∷ (page Rom (first + 1) ∷ (page Rom (first + 2) ∷ (page Rom (first + 3) ∷ [])));
    ports = Some ports;
    wired = false;
    vector = 0;
  };
  at = at;
}

-- a 3853 with one page of RAM, at its own place
smi : ℕ → ℕ → PlacedSeat
smi ram at = record {
  seat = record { kind = Smi; pages = page Ram ram ∷ []; ports = Some 0x0C; wired = false; vector = 0 };
  at = at;
}

-- a chip that holds nothing and has no port
blank : ℕ → PlacedSeat
blank at = record { seat = record { kind = Psu; pages = []; ports = None; wired = false; vector = 0 }; at = at }

-- two 3851s at one address fetch one opcode: the bytes do not matter
same_address : ruling 0x00 None 0x0000 ((0, psu 0x00 4 0x0000) ∷ ((1, psu 0x00 8 0x0000) ∷ []))
    ≡ Conflict (record { socket = 0; at = 0x0000 } ∷ (record { socket = 1; at = 0x0000 } ∷ []))
unfolding psu page
same_address = refl

-- 3851s at 0000 and at 0400, whose copies power-on set a place apart: the first drives
at_zero : ruling 0x00 None 0x0000 ((0, psu 0x00 4 0x0000) ∷ ((1, psu 0x04 8 0x0001) ∷ [])) ≡ Served (Some 0)
unfolding psu page
at_zero = refl

-- the second drives at an address of its own, away from the probe
away : ruling 0x00 None 0x0000 ((0, psu 0x00 4 0x0404) ∷ ((1, psu 0x04 8 0x0405) ∷ [])) ≡ Astray 1 0x0405 0x0000
unfolding psu page
away = refl

-- neither drives
nobody : ruling 0x00 None 0x0000 ((0, psu 0x00 4 0x1212) ∷ ((1, psu 0x04 8 0x1213) ∷ [])) ≡ Undriven 0x0000
unfolding psu page
nobody = refl

-- a read of data where the probe has exchanged its data counters, and a 3851 has not
data_away : ruling 0x02 None 0x0000 ((0, psu 0x00 4 0x0005) ∷ []) ≡ Astray 0 0x0005 0x0000
unfolding psu page
data_away = refl

-- a 3851 and a 3853, each at a data counter of its own
two_counters : ruling 0x02 None 0x2800 ((0, psu 0x00 4 0x0010) ∷ ((12, smi 0x28 0x2800) ∷ []))
    ≡ Conflict (record { socket = 0; at = 0x0010 } ∷ (record { socket = 12; at = 0x2800 } ∷ []))
unfolding psu smi page
two_counters = refl

-- the same, where the 3851 does not hold its own
read_ram : ruling 0x02 None 0x2800 ((0, psu 0x00 4 0x2801) ∷ ((12, smi 0x28 0x2800) ∷ [])) ≡ Served (Some 12)
unfolding psu smi page
read_ram = refl

-- the second operand byte of a jump behind the last byte of a 3851
past_the_end : ruling 0x0C None 0x0400 ((0, psu 0x00 4 0x0400) ∷ []) ≡ Undriven 0x0400
unfolding psu page
past_the_end = refl

-- a chip drives at the probe's address, and another one holds that address without driving
overlooked : ruling 0x03 None 0x0010 ((0, psu 0x00 4 0x0010) ∷ ((1, psu 0x00 8 0x9000) ∷ [])) ≡ Astray 1 0x9000 0x0010
unfolding psu page
overlooked = refl

-- a store: taken, lost, taken away from the probe, taken twice, and missed by the chip that has RAM there
stored : ruling 0x05 None 0x2800 ((0, psu 0x00 4 0x0010) ∷ ((1, smi 0x28 0x2800) ∷ [])) ≡ Served (Some 1)
unfolding psu smi page
stored = refl

store_lost : ruling 0x05 None 0x0010 ((0, psu 0x00 4 0x0010) ∷ ((1, smi 0x28 0x2900) ∷ [])) ≡ Served None
unfolding psu smi page
store_lost = refl

store_away : ruling 0x05 None 0x0010 ((0, psu 0x00 4 0x0010) ∷ ((1, smi 0x28 0x2801) ∷ [])) ≡ Astray 1 0x2801 0x0010
unfolding psu smi page
store_away = refl

store_twice : ruling 0x05 None 0x2800 ((0, smi 0x28 0x2800) ∷ ((1, smi 0x30 0x3000) ∷ []))
    ≡ Conflict (record { socket = 0; at = 0x2800 } ∷ (record { socket = 1; at = 0x3000 } ∷ []))
unfolding smi page
store_twice = refl

store_missed : ruling 0x05 None 0x2800 ((0, smi 0x28 0x0000) ∷ ((1, blank 0x2800) ∷ [])) ≡ Astray 0 0x0000 0x2800
unfolding smi page blank
store_missed = refl

-- data ports: of one chip, of none (the port of the timer is no data port), and of two
port_read : ruling 0x1B None 0x09 ((0, psu 0x00 4 0x09) ∷ ((1, psu 0x04 8 0x09) ∷ [])) ≡ Served (Some 1)
unfolding psu page
port_read = refl

port_undriven : ruling 0x1B None 0x0F ((0, psu 0x00 4 0x0F) ∷ ((1, smi 0x28 0x0F) ∷ [])) ≡ Undriven 0x0F
unfolding psu smi page
port_undriven = refl

port_read_twice : ruling 0x1B None 0x04 ((0, psu 0x00 4 0x04) ∷ ((1, psu 0x04 4 0x04) ∷ []))
    ≡ Conflict (record { socket = 0; at = 0x04 } ∷ (record { socket = 1; at = 0x04 } ∷ []))
unfolding psu page
port_read_twice = refl

-- port writes: taken by one chip, lost, and taken by two, of which only one has the port as a data port
port_write : ruling 0x1A None 0x0F ((0, psu 0x00 4 0x0F) ∷ ((1, smi 0x28 0x0F) ∷ [])) ≡ Served (Some 1)
unfolding psu smi page
port_write = refl

port_write_lost : ruling 0x1A None 0x20 ((0, psu 0x00 4 0x20) ∷ []) ≡ Served None
unfolding psu page
port_write_lost = refl

port_write_twice : ruling 0x1A None 0x0C ((0, psu 0x00 0x0C 0x0C) ∷ ((1, smi 0x28 0x0C) ∷ []))
    ≡ Conflict (record { socket = 0; at = 0x0C } ∷ (record { socket = 1; at = 0x0C } ∷ []))
unfolding psu smi page
port_write_twice = refl

-- the acknowledged chip drives its vector, and nobody drives where the counters move alone
acknowledged : ruling 0x13 (Some 1) 0x0000 ((0, psu 0x00 4 0x0000) ∷ ((1, psu 0x00 8 0x0000) ∷ [])) ≡ Served (Some 1)
unfolding psu page
acknowledged = refl

exchanged : ruling 0x1D (Some 1) 0x0000 ((0, psu 0x00 4 0x0000) ∷ ((1, psu 0x00 8 0x0000) ∷ [])) ≡ Served None
unfolding psu page
exchanged = refl

-- codes that no instruction issues: the halves of the program counter
told_counter : ruling 0x1E None 0x0400 ((0, psu 0x00 4 0x0400) ∷ ((1, psu 0x04 8 0x0400) ∷ [])) ≡ Served (Some 1)
unfolding psu page
told_counter = refl
