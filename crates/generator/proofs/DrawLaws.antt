-- How drawn opcodes go on, and how many bytes are generated.
use Rattle.std.proofs.Common.{◌≡◌, ℕ, zero, suc, ◌+◌, ◌-◌, ◌<◌, [], ◌∷◌, length, length-append, refl, ap, ◌∙◌, arith}
use Rattle.console_spec.specs.Generator.{next_draw, drawn_opcode, opcodes_from, generated}

-- after so many of them there is one more
pub opcodes_from-more : (done all x : ℕ) → done < all →
    opcodes_from (all - done) x ≡ drawn_opcode (next_draw x) ∷ opcodes_from (all - (done + 1)) (next_draw x)
unfolding opcodes_from
opcodes_from-more done all x within =
    let more : all - done ≡ suc (all - (done + 1)) = omega arith in
    rw more refl

-- and after all of them there is none
pub opcodes_from-end : (left x : ℕ) → left ≡ 0 → opcodes_from left x ≡ []
unfolding opcodes_from
opcodes_from-end left x none = rw none refl

length-opcodes_from : (n x : ℕ) → length (opcodes_from n x) ≡ n
unfolding opcodes_from
length-opcodes_from zero x = refl
length-opcodes_from (suc n) x = ap suc (length-opcodes_from n (next_draw x))

pub length-generated : (seed : ℕ) → length (generated seed) ≡ 12288
unfolding generated
length-generated seed =
    length-append (opcodes_from 12285 seed) (0x29 ∷ 0x00 ∷ 0x00 ∷ []) ∙ ap (λ n. n + 3) (length-opcodes_from 12285 seed)
