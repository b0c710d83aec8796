-- Marks after worked steps, computed from the definitions.
use Rattle.std.proofs.Common.{◌≡◌, true, false, refl}
use Rattle.data_bus.specs.declared.marks.Halves.{Halves}
use Rattle.data_bus.specs.declared.marks.Marks.{Marks}
use Rattle.data_bus.specs.KnownAgreement.{no_halves, both_halves, no_marks, marks_after}

low_half : Halves
low_half = record { low = true; high = false }

high_half : Halves
high_half = record { low = false; high = true }

-- reset: the program counter is known, and of the stack register what was known of the program counter
after_reset : marks_after false 0x08 no_marks ≡ record { pc0 = both_halves; pc1 = no_halves; dc0 = no_halves; dc1 = no_halves }
after_reset = refl

after_second_reset : marks_after false 0x08 (marks_after false 0x08 no_marks)
    ≡ record { pc0 = both_halves; pc1 = both_halves; dc0 = no_halves; dc1 = no_halves }
after_second_reset = refl

-- a fetch and a branch keep a known program counter
after_fetch : marks_after false 0x00 (marks_after false 0x08 no_marks) ≡ marks_after false 0x08 no_marks
after_fetch = refl

after_branch : marks_after false 0x01 (marks_after false 0x08 no_marks) ≡ marks_after false 0x08 no_marks
after_branch = refl

-- of a program counter of which the high half alone is known a fetch leaves nothing, and a low byte from the bus makes it whole
fetch_of_high : marks_after false 0x00 (record no_marks { pc0 = high_half }) ≡ no_marks
unfolding high_half
fetch_of_high = refl

jump_of_high : marks_after false 0x0C (record no_marks { pc0 = high_half }) ≡ record no_marks { pc0 = both_halves }
unfolding high_half
jump_of_high = refl

-- the address after the program counter goes to the stack register: by halves, and whole
saved_of_high : marks_after false 0x0D (record no_marks { pc0 = high_half }) ≡ record no_marks { pc0 = high_half }
unfolding high_half
saved_of_high = refl

saved_of_low : marks_after false 0x0D (record no_marks { pc0 = low_half; pc1 = high_half }) ≡ record no_marks { pc0 = low_half; pc1 = low_half }
unfolding low_half high_half
saved_of_low = refl

saved_of_both : marks_after false 0x0D (record no_marks { pc0 = both_halves })
    ≡ record { pc0 = both_halves; pc1 = both_halves; dc0 = no_halves; dc1 = no_halves }
saved_of_both = refl

-- a call: the stack register takes what is known of the program counter, of which the low half comes from the bus
called_of_high : marks_after false 0x12 (record no_marks { pc0 = high_half }) ≡ record no_marks { pc0 = both_halves; pc1 = high_half }
unfolding high_half
called_of_high = refl

-- the data counter is loaded by halves, the high one first
data_loaded : marks_after true 0x0E (marks_after true 0x11 no_marks) ≡ record no_marks { dc0 = both_halves }
data_loaded = refl

-- an exchange of the data counters: where each chip that holds a page has two, and where one has not
exchanged_by_all : marks_after false 0x1D (record no_marks { dc0 = both_halves; dc1 = low_half }) ≡ record no_marks { dc0 = low_half; dc1 = both_halves }
unfolding low_half
exchanged_by_all = refl

exchanged_by_some : marks_after true 0x1D (record no_marks { dc0 = both_halves; dc1 = low_half }) ≡ record no_marks { dc1 = both_halves }
unfolding low_half
exchanged_by_some = refl

-- the codes that move no counter change nothing
acknowledged : (known : Marks) → marks_after true 0x10 known ≡ known
acknowledged known = refl
