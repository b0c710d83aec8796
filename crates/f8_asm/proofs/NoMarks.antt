-- The marks of addresses before any is filled. The list is long, so it's never written out.
use Rattle.std.proofs.Common.{◌≡◌, ℕ, Bool, false, List, length, replicate, ◌∙◌, ap}
use Rattle.std.proofs.lemmas.List.{length-replicate}
use Rattle.f8_asm.specs.Marks.{no_marks}

pub are_no_marks : (n : ℕ) (marks : List Bool) → n ≡ 65536 → marks ≡ replicate n false → marks ≡ no_marks 65536
unfolding no_marks
are_no_marks n marks same is = is ∙ ap (λ k. replicate k false) same

pub all_addresses : (n : ℕ) (marks : List Bool) → n ≡ 65536 → marks ≡ replicate n false → length marks ≡ 65536
all_addresses n marks same is = ap length is ∙ length-replicate n false ∙ same
