-- A line that is put field by field is its text behind what was there.
use Rattle.std.proofs.Common.{◌≡◌, ℕ, List, ◌++◌, append_assoc}
use Rattle.std.specs.Prelude.{codes}
use Rattle.abs_domain.specs.AbstractState.{AbstractState}
use Rattle.abs_domain.specs.declared.points.Point.{Point}
use Rattle.certificate.specs.Parts.{known_byte_text, known_octal_text, bytes_text}
use Rattle.certificate.specs.Entries.{point_text, status_text, counters_text, entry_text}

module _ (tracked : ℕ) (p : Point) (s : AbstractState) (first point a b isar high low c d e f g end : List ℕ) where
  pub entry_put :
      point ≡ first ++ point_text tracked p →
      a ≡ point ++ codes " " →
      b ≡ a ++ known_byte_text s.registers.accumulator →
      isar ≡ b ++ codes " " →
      high ≡ isar ++ known_octal_text s.registers.high →
      low ≡ high ++ known_octal_text s.registers.low →
      c ≡ low ++ codes " " →
      d ≡ c ++ status_text s.registers.status →
      e ≡ d ++ codes " " →
      f ≡ e ++ counters_text s.counters →
      g ≡ f ++ codes " " →
      end ≡ g ++ bytes_text (codes "") s.registers.scratchpad →
      end ≡ first ++ entry_text tracked (p, s)
  unfolding entry_text
  entry_put e1 e2 e3 e4 e5 e6 e7 e8 e9 e10 e11 e12 = rw (e12, e11, e10, e9, e8, e7, e6, e5, e4, e3, e2, e1) (simp append_assoc)
