-- `error` lines worked out by hand, computed from the definitions.
use Rattle.std.proofs.Common.{◌≡◌, Some, None, refl}
use Rattle.std.specs.Prelude.{codes}
use Rattle.std.specs.Fmt.{digits}
use Rattle.f8_spec.specs.declared.chips.ChipKind.TheVariants.{Psu, Smi, Pio}
use Rattle.report.specs.ErrorLines.{asm_line, cart_line, long_line, reader_line, sockets_line, store_line}
use Rattle.report.specs.declared.error_lines.Reader.TheVariants.{Script}

base_off_its_boundary : cart_line (Some 0) (codes "base") 5 ≡ codes "error cart chip 0 key base cause 5\n"
unfolding cart_line digits
base_off_its_boundary = refl

no_format : cart_line None (codes "format") 1 ≡ codes "error cart key format cause 1\n"
unfolding cart_line digits
no_format = refl

power_of_one_digit : reader_line Script 1 2 ≡ codes "error script line 1 cause 2\n"
unfolding reader_line digits
power_of_one_digit = refl

byte_too_large : asm_line None 1 5 6 ≡ codes "error asm file line 1 column 5 cause 6\n"
unfolding asm_line digits
byte_too_large = refl

branch_too_far : asm_line (Some 0) 1 7 7 ≡ codes "error asm source 0 line 1 column 7 cause 7\n"
unfolding asm_line digits
branch_too_far = refl

empty_rack : sockets_line Psu 1 0 ≡ codes "error sockets 3851 need 1 have 0\n"
unfolding sockets_line digits
empty_rack = refl

three_smis : sockets_line Smi 3 2 ≡ codes "error sockets 3853 need 3 have 2\n"
unfolding sockets_line digits
three_smis = refl

one_pio : sockets_line Pio 1 0 ≡ codes "error sockets 3861 need 1 have 0\n"
unfolding sockets_line digits
one_pio = refl

no_script : store_line (codes "script") None ≡ codes "error store script\n"
unfolding store_line
no_script = refl

long_script : long_line (codes "script") None ≡ codes "error long script\n"
unfolding long_line
long_script = refl
