-- The numbers of the registers of the scratchpad that have a name, and of the fields by which an instruction names a register that is not
-- the one with the field's number (Fairchild F8 User's Guide).
use Rattle.std.specs.Prelude.{ℕ}

-- J, which keeps the status word
abbrev pub register_j : ℕ
register_j = 9

-- H, K and Q, each a high byte with the low one behind it
abbrev pub register_hu : ℕ
register_hu = 10

abbrev pub register_hl : ℕ
register_hl = 11

abbrev pub register_ku : ℕ
register_ku = 12

abbrev pub register_kl : ℕ
register_kl = 13

abbrev pub register_qu : ℕ
register_qu = 14

abbrev pub register_ql : ℕ
register_ql = 15

-- the field from which on a field names the register that ISAR points to, and those that also step ISAR up and down
abbrev pub pointed_field : ℕ
pointed_field = 12

abbrev pub up_field : ℕ
up_field = 13

abbrev pub down_field : ℕ
down_field = 14
