-- Texts of lists worked out by hand, computed from the definitions.
use Rattle.std.proofs.Common.{◌≡◌, ℕ, true, false, List, [], ◌∷◌, ◌++◌, replicate, set, refl}
use Rattle.std.specs.Prelude.{codes, flat_map, Some, None, Result, Ok, Err}
use Rattle.hex.specs.Hex.{decode_pairs}
use Rattle.line_words.specs.Numbers.{decimal_on}
use Rattle.line_words.specs.Words.{words}
use Rattle.certificate.specs.CertificateText.{first_line}
use Rattle.certificate.specs.Entries.{status_text}
use Rattle.certificate.specs.Parts.{behind}
use Rattle.case_step.specs.Entries.{EntryView, start_entry}
use Rattle.case_text.specs.EntryWords.{entry_of, registers_of}
use Rattle.case_text.specs.CasesText.{cases_of, count_of, entries_at, entry_in, header_at}
use Rattle.case_text.specs.WrittenCases.{entry_text}
use Rattle.case_text.specs.declared.cause.CasesCause.{CasesCause}
use Rattle.case_text.specs.declared.cause.CasesCause.TheVariants.{Header, Count, Field, Order, End}

-- ---- two entries: the start, and one of which each part is known in another way

abbrev later : EntryView
later = record start_entry {
  at = 0x12;
  ret = Some 0x0123;
  accumulator = Some (0x03 ∷ 0x1A ∷ []);
  isar = 3 ∷ 29 ∷ [];
  status = record { sign = Some true; carry = None; zero = Some false; overflow = None; icb = Some true };
  d0 = Some (0x0200 ∷ 0x10FF ∷ []);
  d1 = None;
  s0 = true;
  p0 = true;
  same = Some 10;
  scratchpad = set (replicate 64 None) 63 (Some (0xC5 ∷ []));
}

abbrev blanks : ℕ → List ℕ
blanks count = flat_map (λ word. codes " " ++ word) (replicate count (codes "--"))

abbrev start_line : List ℕ
start_line = codes "0000 ---- -- -- 00000 0000 0000 ---- 0000 --" ++ blanks 64

-- registers 3 and 29 as 03 and 35, and 10 as 12
abbrev later_line : List ℕ
later_line = codes "0012 0123 031A 0335 1-0-1 020010FF ---- ---- 1010 12" ++ blanks 63 ++ codes " C5"

start_written : entry_text start_entry ≡ start_line
unfolding entry_text status_text
start_written = refl

later_written : entry_text later ≡ later_line
unfolding entry_text status_text
later_written = refl

start_read : entry_of (words start_line) ≡ Some start_entry
unfolding entry_of registers_of decode_pairs
start_read = refl

later_read : entry_of (words later_line) ≡ Some later
unfolding entry_of registers_of decode_pairs
later_read = refl

-- ---- whole texts

abbrev text : List ℕ → List (List ℕ) → List ℕ
text first lines = first ++ flat_map (λ line. line ++ codes "\n") lines

both_read : cases_of (text (codes "F8CASES 1 2\n") (start_line ∷ later_line ∷ [])) ≡ Ok (start_entry ∷ later ∷ [])
unfolding behind first_line decimal_on decode_pairs entry_of registers_of count_of header_at entry_in entries_at cases_of
both_read = refl

abbrev Refuses : List ℕ → List (List ℕ) → ℕ → CasesCause → Type 0
Refuses first lines number cause = cases_of (text first lines) ≡ Err (record { line = number; cause = cause })

first_line_faults :
    Refuses [] [] 1 End
    × Refuses (codes "F8CERT 1 1\n") (start_line ∷ []) 1 Header
    × Refuses (codes "F8CASES 1 0\n") [] 1 Count
    × Refuses (codes "F8CASES 1 65537\n") [] 1 Count
unfolding behind first_line decimal_on decode_pairs entry_of registers_of count_of header_at entry_in entries_at cases_of
first_line_faults = (refl, refl, refl, refl)

-- a list that descends, one of no word, and a register too few
line_faults :
    Refuses (codes "F8CASES 1 1\n") ((codes "0000 ---- 1A03 -- 00000 0000 0000 ---- 0000 --" ++ blanks 64) ∷ []) 2 Field
    × Refuses (codes "F8CASES 1 1\n") ((codes "0000 ---- --  -- 00000 0000 0000 ---- 0000 --" ++ blanks 64) ∷ []) 2 Field
    × Refuses (codes "F8CASES 1 1\n") ((codes "0000 ---- -- -- 00000 0000 0000 ---- 0000 --" ++ blanks 63) ∷ []) 2 Field
unfolding behind first_line decimal_on decode_pairs entry_of registers_of count_of header_at entry_in entries_at cases_of
line_faults = (refl, refl, refl)

-- the lower address behind the higher one, a line twice, one that is missing, and one that is over
order_faults :
    Refuses (codes "F8CASES 1 2\n") (later_line ∷ start_line ∷ []) 3 Order
    × Refuses (codes "F8CASES 1 2\n") (start_line ∷ start_line ∷ []) 3 Order
    × Refuses (codes "F8CASES 1 2\n") (start_line ∷ []) 3 End
    × Refuses (codes "F8CASES 1 1\n") (start_line ∷ later_line ∷ []) 3 End
unfolding behind first_line decimal_on decode_pairs entry_of registers_of count_of header_at entry_in entries_at cases_of
order_faults = (refl, refl, refl, refl)
