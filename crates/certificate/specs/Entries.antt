-- A line of a certificate, both ways: a point with the state that holds there.
use Rattle.std.specs.Prelude.{ℕ, ◌-◌, ◌==◌, if◌then◌else◌, List, ◌++◌, length, take, replicate, codes, Option, Some, None}
use Rattle.abs_domain.specs.AbstractState.{KnownStatus, KnownCounters, AbstractState}
use Rattle.abs_domain.specs.declared.points.Point.{Point}
use Rattle.f8_spec.specs.Spelling.{hex4}
use Rattle.certificate.specs.Parts.{◌>>=◌, behind, address_at, bit_at, known_byte_at, known_address_at, known_octal_at, known_bit_at}
use Rattle.certificate.specs.Parts.{bytes_at, values_at, bit_text, known_byte_text, known_address_text, known_octal_text, known_bit_text}
use Rattle.certificate.specs.Parts.{bytes_text, values_text}

-- the scratchpad has 64 registers, and a point places for eight tracked ones
abbrev pub registers : ℕ
registers = 64

abbrev pub places : ℕ
places = 8

-- ---- reading

-- a field that one blank parts from what is before it
abbrev pub field : {A : Type 0} → (List ℕ → Option A) → List ℕ → Option A
field read text = behind (codes " ") text >>= read

-- address, return, and as many bytes as registers are tracked
unfoldable pub point_at : ℕ → List ℕ → Option (Point × List ℕ)
point_at tracked text = do
  at ← address_at text
  ret ← field known_address_at at.1
  values ← field (values_at tracked) ret.1
  Some (record { at = at.0; ret = ret.0; split = values.0 ++ replicate (places - tracked) None }, values.1)

-- the two digits of ISAR, the high one first
unfoldable pub isar_at : List ℕ → Option ((Option ℕ × Option ℕ) × List ℕ)
isar_at text = do
  high ← known_octal_at text
  low ← known_octal_at high.1
  Some ((high.0, low.0), low.1)

-- the five bits of the status word, from bit 0 on
unfoldable pub status_at : List ℕ → Option (KnownStatus × List ℕ)
status_at text = do
  sign ← known_bit_at text
  carry ← known_bit_at sign.1
  nought ← known_bit_at carry.1
  overflow ← known_bit_at nought.1
  icb ← known_bit_at overflow.1
  Some (record { sign = sign.0; carry = carry.0; zero = nought.0; overflow = overflow.0; icb = icb.0 }, icb.1)

-- D0, D1, the DC0 of every 3851, and the four facts
unfoldable pub counters_at : List ℕ → Option (KnownCounters × List ℕ)
counters_at text = do
  d0 ← known_address_at text
  d1 ← field known_address_at d0.1
  c ← field known_address_at d1.1
  s0 ← field bit_at c.1
  s1 ← bit_at s0.1
  p0 ← bit_at s1.1
  p1 ← bit_at p0.1
  Some (record { d0 = d0.0; d1 = d1.0; c = c.0; s0 = s0.0; s1 = s1.0; p0 = p0.0; p1 = p1.0 }, p1.1)

-- a value with nothing behind it
abbrev pub ended : {A : Type 0} → A → List ℕ → Option A
ended x rest = if length rest == 0 then Some x else None

-- the point and the state of a line without its end
unfoldable pub entry_of : ℕ → List ℕ → Option (Point × AbstractState)
entry_of tracked line = do
  point ← point_at tracked line
  accumulator ← field known_byte_at point.1
  isar ← field isar_at accumulator.1
  status ← field status_at isar.1
  counters ← field counters_at status.1
  scratchpad ← field (bytes_at (codes "") registers) counters.1
  ended (
    point.0,
    record {
      registers = record {
        accumulator = accumulator.0;
        high = isar.0.0;
        low = isar.0.1;
        status = status.0;
        scratchpad = scratchpad.0;
      };
      counters = counters.0;
    },
  ) scratchpad.1

-- ---- writing

unfoldable pub point_text : ℕ → Point → List ℕ
point_text tracked point =
    hex4 point.at ++ (codes " " ++ (known_address_text point.ret ++ (codes " " ++ values_text (take tracked point.split))))

unfoldable pub status_text : KnownStatus → List ℕ
status_text status =
    known_bit_text status.sign ++ (known_bit_text status.carry ++ (known_bit_text status.zero
    ++ (known_bit_text status.overflow ++ known_bit_text status.icb)))

unfoldable pub counters_text : KnownCounters → List ℕ
counters_text counters =
    known_address_text counters.d0 ++ (codes " " ++ (known_address_text counters.d1 ++ (codes " "
    ++ (known_address_text counters.c ++ (codes " "
    ++ (bit_text counters.s0 ++ (bit_text counters.s1 ++ (bit_text counters.p0 ++ bit_text counters.p1))))))))

-- a line without its end
unfoldable pub entry_text : ℕ → Point × AbstractState → List ℕ
entry_text tracked e =
    let known = e.1.registers in
    point_text tracked e.0 ++ (codes " " ++ (known_byte_text known.accumulator ++ (codes " "
    ++ (known_octal_text known.high ++ (known_octal_text known.low ++ (codes " " ++ (status_text known.status ++ (codes " "
    ++ (counters_text e.1.counters ++ (codes " " ++ bytes_text (codes "") known.scratchpad))))))))))
