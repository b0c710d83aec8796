-- A line that is put part by part is its text behind what was there.
use Rattle.std.proofs.Common.{◌≡◌, ℕ, List, ◌++◌, append_assoc}
use Rattle.std.specs.Prelude.{codes, flat_map}
use Rattle.f8_spec.specs.Spelling.{hex4}
use Rattle.certificate.specs.Parts.{known_address_text}
use Rattle.certificate.specs.Entries.{status_text}
use Rattle.case_step.specs.Entries.{EntryView}
use Rattle.case_text.specs.WrittenCases.{byte_set_text, word_set_text, numbers_text, same_text, facts_text, behind_blank, entry_text}

module _ (e : EntryView) (first at b1 ret b2 a b3 isar b4 w b5 d0 b6 d1 b7 c b8 facts b9 same end : List ℕ) where
  pub line_put :
      at ≡ first ++ hex4 e.at →
      b1 ≡ at ++ codes " " →
      ret ≡ b1 ++ known_address_text e.ret →
      b2 ≡ ret ++ codes " " →
      a ≡ b2 ++ byte_set_text e.accumulator →
      b3 ≡ a ++ codes " " →
      isar ≡ b3 ++ numbers_text e.isar →
      b4 ≡ isar ++ codes " " →
      w ≡ b4 ++ status_text e.status →
      b5 ≡ w ++ codes " " →
      d0 ≡ b5 ++ word_set_text e.d0 →
      b6 ≡ d0 ++ codes " " →
      d1 ≡ b6 ++ word_set_text e.d1 →
      b7 ≡ d1 ++ codes " " →
      c ≡ b7 ++ word_set_text e.c →
      b8 ≡ c ++ codes " " →
      facts ≡ b8 ++ facts_text e →
      b9 ≡ facts ++ codes " " →
      same ≡ b9 ++ same_text e.same →
      end ≡ same ++ flat_map (λ set. behind_blank (byte_set_text set)) e.scratchpad →
      end ≡ first ++ entry_text e
  unfolding entry_text
  line_put e1 e2 e3 e4 e5 e6 e7 e8 e9 e10 e11 e12 e13 e14 e15 e16 e17 e18 e19 e20 =
      rw (e20, e19, e18, e17, e16, e15, e14, e13, e12, e11, e10, e9, e8, e7, e6, e5, e4, e3, e2, e1) (simp append_assoc)
