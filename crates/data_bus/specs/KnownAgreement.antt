-- Known agreement, which is this project's own: marks that tell of each half of a counter, a byte, that every chip that holds a page has
-- it as the probe has it. What a mark means, what a served step makes of the marks, and that the counters of chips are addresses.
use Rattle.std.specs.Prelude.{ℕ, ◌/◌, ◌%◌, ◌≡◌, ◌<◌, ◌==◌, nat_lt, Bool, true, false, not, ◌&&◌, ◌||◌, if◌then◌else◌, List}
use Rattle.std.specs.List.{AllByRecursion, list_any}
use Rattle.f8_spec.specs.BusCodes.{Count}
use Rattle.f8_spec.specs.ChipState.{ChipView, IsOfItsKind, has_second_counter}
use Rattle.f8_spec.specs.BusArbitration.{Seat}
use Rattle.f8_spec.specs.declared.bus.Counter.{Counter}
use Rattle.f8_spec.specs.declared.bus.Counter.TheVariants.{Pc0, Pc1, Dc0, NoCounter}
use Rattle.f8_spec.specs.declared.chips.Page.{Page}
use Rattle.data_bus.specs.declared.marks.Halves.{Halves}
use Rattle.data_bus.specs.declared.marks.Marks.{Marks}

-- ---- marks

-- neither half of a counter is known
abbrev pub no_halves : Halves
no_halves = record { low = false; high = false }

-- both halves are known
abbrev pub both_halves : Halves
both_halves = record { low = true; high = true }

-- the whole address is known
abbrev pub is_known : Halves → Bool
is_known halves = halves.low && halves.high

-- nothing is known, as at power-on
abbrev pub no_marks : Marks
no_marks = record { pc0 = no_halves; pc1 = no_halves; dc0 = no_halves; dc1 = no_halves }

-- both halves of a step's counter are known
abbrev pub knows : Counter → Marks → Bool
knows Pc0 marks = is_known marks.pc0
knows Pc1 marks = is_known marks.pc1
knows Dc0 marks = is_known marks.dc0
knows NoCounter marks = false

-- ---- what a served step makes of them

-- After the same number was added everywhere: the low half stays known, and the high one only where both were, since a carry comes from the
-- low half.
abbrev pub carried : Halves → Halves
carried halves = record { low = halves.low; high = is_known halves }

-- The marks after a served step, for each code that moves counters. A half that the byte on the bus sets is known, since all hear that byte;
-- a counter that takes another's address takes its marks; reset makes the program counter 0 everywhere.
--
-- The flag says that some chip that holds a page has no second data counter. At an exchange of the data counters such a chip keeps its
-- first one, where the probe's becomes the second, so nothing is known of the first from then on.
abbrev pub marks_after : Bool → ℕ → Marks → Marks
marks_after is_parted romc marks =
    if romc == 0x00 || romc == 0x03 then record marks { pc0 = carried marks.pc0 } else
    if romc == 0x01 then record marks { pc0 = carried marks.pc0 } else
    if romc == 0x02 || romc == 0x05 then record marks { dc0 = carried marks.dc0 } else
    if romc == 0x04 then record marks { pc0 = marks.pc1 } else
    if romc == 0x08 then record marks { pc0 = both_halves; pc1 = marks.pc0 } else
    if romc == 0x0A then record marks { dc0 = carried marks.dc0 } else
    if romc == 0x0C || romc == 0x17 then record marks { pc0 = record marks.pc0 { low = true } } else
    if romc == 0x0D then record marks { pc1 = carried marks.pc0 } else
    if romc == 0x0E || romc == 0x19 then record marks { dc0 = record marks.dc0 { low = true } } else
    if romc == 0x0F || romc == 0x12 then record marks { pc0 = record marks.pc0 { low = true }; pc1 = marks.pc0 } else
    if romc == 0x11 || romc == 0x16 then record marks { dc0 = record marks.dc0 { high = true } } else
    if romc == 0x13 || romc == 0x14 then record marks { pc0 = record marks.pc0 { high = true } } else
    if romc == 0x15 then record marks { pc1 = record marks.pc1 { high = true } } else
    if romc == 0x18 then record marks { pc1 = record marks.pc1 { low = true } } else
    if romc == 0x1D then record marks { dc0 = if is_parted then no_halves else marks.dc1; dc1 = marks.dc0 } else
    marks

-- ---- what they mean

-- the halves of an address that are marked are those of the reference
pub record HalvesAgree (halves : Halves) (reference own : ℕ) : Type 0 where
  pub low : halves.low ≡ true → own % 256 ≡ reference % 256
  pub high : halves.high ≡ true → own / 256 ≡ reference / 256

-- so it is with each of a chip's own counters, with the second data counter where the chip has one
pub record CountAgrees (marks : Marks) (reference : Count) (has_second : Bool) (own : Count) : Type 0 where
  pub pc0 : HalvesAgree marks.pc0 reference.pc0 own.pc0
  pub pc1 : HalvesAgree marks.pc1 reference.pc1 own.pc1
  pub dc0 : HalvesAgree marks.dc0 reference.dc0 own.dc0
  pub dc1 : has_second ≡ true → HalvesAgree marks.dc1 reference.dc1 own.dc1

-- there is a page that an address can lie in: its number is a byte
abbrev pub has_page : List Page → Bool
has_page pages = list_any (λ page. nat_lt page.number 256) pages

-- the chip parts from the probe at an exchange of the data counters: it holds a page, and has no second data counter
abbrev pub parts : Seat → Bool
parts seat = has_page seat.pages && not (has_second_counter seat.kind)

-- the marks are true of a chip; of one that holds no page they say nothing
abbrev pub ChipAgrees : Marks → Count → ChipView → Type 0
ChipAgrees marks reference v = has_page v.pages ≡ true → CountAgrees marks reference (has_second_counter v.kind) v.counters

-- the marks are true of every chip
abbrev pub AllAgree : Marks → Count → List ChipView → Type 0
AllAgree marks reference views = AllByRecursion (ChipAgrees marks reference) views

-- four counters hold addresses
pub record AreAddresses (count : Count) : Type 0 where
  pub pc0 : count.pc0 < 65536
  pub pc1 : count.pc1 < 65536
  pub dc0 : count.dc0 < 65536
  pub dc1 : count.dc1 < 65536

-- so do those of a chip, which holds no page where it has no counters
pub record IsCounted (v : ChipView) : Type 0 where
  pub addresses : AreAddresses v.counters
  pub of_its_kind : IsOfItsKind v

-- and so it is with every chip
abbrev pub AllAddresses : List ChipView → Type 0
AllAddresses views = AllByRecursion IsCounted views
