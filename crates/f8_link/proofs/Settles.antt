-- Bytes that linking completes: what they are when all is put, wherever they stand among others.
use Rattle.std.proofs.Common.{◌≡◌, ℕ, ℤ, ◌+◌, List, [], ◌∷◌, ◌++◌, length, Option, Some, None, Result, Ok, Err}
use Rattle.std.proofs.Common.{refl, sym, ap, ◌∙◌, subst, arith, append_assoc, length-append}
use Rattle.std.proofs.lemmas.List.{set_at}
use Rattle.f8_asm.specs.Answers.{◌>>=◌}
use Rattle.f8_asm.specs.Steps.{steps}
use Rattle.f8_asm.specs.Values.{operator_value}
use Rattle.f8_asm.specs.declared.values.Operator.TheVariants.{Plus}
use Rattle.f8_link.specs.declared.answers.LinkCause.{LinkCause}
use Rattle.f8_link.specs.declared.faults.ModuleLineFault.{ModuleLineFault}
use Rattle.f8_link.specs.declared.objects.FixupKind.{FixupKind}
use Rattle.f8_link.specs.declared.values.Base.{Base}
use Rattle.f8_link.specs.Linking.{base_value, fixed, put, written, fixup_put}
use Rattle.f8_link.specs.Pieces.{Piece, whole, open_at, behind, joined}

-- ---- steps over two lists

module _ {S X E : Type 0} (step : S → X → Result S E) where
  then_split : (r : Result S E) (f g : S → Result S E) (back : S → Result S E) → ((t : S) → f t ≡ (g t >>= back)) → (r >>= f) ≡ ((r >>= g) >>= back)
  then_split (Ok t) f g back each = each t
  then_split (Err e) f g back each = refl

  pub steps_split : (s : S) (xs ys : List X) → steps step s (xs ++ ys) ≡ (steps step s xs >>= λ t. steps step t ys)
  unfolding steps
  steps_split s [] ys = refl
  steps_split s (x ∷ xs) ys =
      then_split (step s x) (λ t. steps step t (xs ++ ys)) (λ t. steps step t xs) (λ t. steps step t ys) (λ t. steps_split t xs ys)

  pub steps_one : (s : S) (x : X) → steps step s (x ∷ []) ≡ step s x
  unfolding steps
  steps_one s x = by (step s x)
    where
      by : (r : Result S E) → (r >>= λ t. Ok t) ≡ r
      by (Ok t) = refl
      by (Err e) = refl

  pub steps_none : (s : S) → steps step s [] ≡ Ok s
  unfolding steps
  steps_none s = refl

-- ---- bytes in place of others

pub put_all : (xs olds ys bs : List ℕ) (n : ℕ) → length xs ≡ n → length bs ≡ length olds → put (xs ++ (olds ++ ys)) n bs ≡ xs ++ (bs ++ ys)
put_all xs [] ys [] n at size = refl
put_all xs [] ys (b ∷ bs) n at size = absurd (omega (arith, size))
put_all xs (o ∷ olds) ys [] n at size = absurd (omega (arith, size))
put_all xs (o ∷ olds) ys (b ∷ bs) n at size =
    let here = set_at xs o (olds ++ ys) b n at in
    let next : xs ++ (b ∷ (olds ++ ys)) ≡ (xs ++ (b ∷ [])) ++ (olds ++ ys) = sym (append_assoc xs (b ∷ []) (olds ++ ys)) in
    let behind : (xs ++ (b ∷ [])) ++ (bs ++ ys) ≡ xs ++ (b ∷ (bs ++ ys)) = append_assoc xs (b ∷ []) (bs ++ ys) in
    let longer = length-append xs (b ∷ []) in
    ap (λ (r : List ℕ). put r (n + 1) bs) (here ∙ next) ∙ put_all (xs ++ (b ∷ [])) olds ys bs (n + 1) (omega (arith, longer, at)) (omega (arith, size))
    ∙ behind

-- ---- a piece among others

-- the bytes that stand there when all is put
pub record Settled (Q : List ℕ → Type 0) (size : ℕ) (xs ys z : List ℕ) : Type 0 where
  pub bytes : List ℕ
  pub said : Q bytes
  pub size_is : length bytes ≡ size
  pub is : z ≡ xs ++ (bytes ++ ys)

abbrev piece_told : Piece → Result Piece ModuleLineFault
piece_told p = Ok p

module _ (first : ℕ) (values : List ℤ) where
  -- Of the bytes that a piece comes to this holds. It begins at an offset, behind as many bytes.
  pub record Settles (offset : ℕ) (p : Piece) (Q : List ℕ → Type 0) : Type 0 where
    pub is : (xs ys z : List ℕ) → length xs ≡ offset → steps (fixup_put first values) (xs ++ (p.bytes ++ ys)) p.fixups ≡ Ok z
        → Settled Q (length p.bytes) xs ys z

  pub settles_same : (offset : ℕ) (p piece : Piece) (Q : List ℕ → Type 0) → piece_told p ≡ Ok piece → Settles offset p Q → Settles offset piece Q
  settles_same offset p piece Q is so = let same : p ≡ piece = cc is in subst (λ (q : Piece). Settles offset q Q) same so

  pub settles_so : (offset : ℕ) (p : Piece) (Q R : List ℕ → Type 0) → ((bs : List ℕ) → Q bs → R bs) → Settles offset p Q → Settles offset p R
  settles_so offset p Q R so on = record {
    is = λ xs ys z at all.
        let s = on.is xs ys z at all in
        record { bytes = s.bytes; said = so s.bytes s.said; size_is = s.size_is; is = s.is };
  }

  -- they are as many as linking found
  pub settles_sized : (offset : ℕ) (p : Piece) (Q : List ℕ → Type 0) → Settles offset p Q → Settles offset p (λ bs. Q bs × (length bs ≡ length p.bytes))
  settles_sized offset p Q on = record {
    is = λ xs ys z at all.
        let s = on.is xs ys z at all in
        record { bytes = s.bytes; said = (s.said, s.size_is); size_is = s.size_is; is = s.is };
  }

  -- bytes that are known
  pub settles_whole : (offset : ℕ) (bs : List ℕ) (Q : List ℕ → Type 0) → Q bs → Settles offset (whole bs) Q
  settles_whole offset bs Q so = record {
    is = λ xs ys z at all.
        let same : Ok (xs ++ (bs ++ ys)) ≡ Ok z = sym (steps_none (fixup_put first values) (xs ++ (bs ++ ys))) ∙ all in
        record { bytes = bs; said = so; size_is = refl; is = (let is : xs ++ (bs ++ ys) ≡ z = cc same in sym is) };
  }

  -- one thing is put, in place of as many bytes
  put_of : (olds : List ℕ) (offset : ℕ) (Q : List ℕ → Type 0) (xs ys z : List ℕ) → length xs ≡ offset → (what : Option (List ℕ))
      → ((bs : List ℕ) → what ≡ Some bs → Q bs × (length bs ≡ length olds)) → written (xs ++ (olds ++ ys)) offset what ≡ Ok z
      → Settled Q (length olds) xs ys z
  put_of olds offset Q xs ys z at None so is = cc is
  put_of olds offset Q xs ys z at (Some bs) so is =
      let put : put (xs ++ (olds ++ ys)) offset bs ≡ z = cc is in
      record { bytes = bs; said = (so bs refl).0; size_is = (so bs refl).1; is = sym put ∙ put_all xs olds ys bs offset at (so bs refl).1 }

  pub settles_open : (olds : List ℕ) (offset : ℕ) (what : FixupKind) (base : Option Base) (k : ℤ) (Q : List ℕ → Type 0)
      → ((bs : List ℕ) → fixed what (first + offset) (operator_value Plus (base_value first values base) k) ≡ Some bs → Q bs × (length bs ≡ length olds))
      → Settles offset (open_at olds offset what base k) Q
  unfolding fixup_put
  settles_open olds offset what base k Q so = record {
    is = λ xs ys z at all.
        put_of olds offset Q xs ys z at (fixed what (first + offset) (operator_value Plus (base_value first values base) k)) so
        (sym (steps_one (fixup_put first values) (xs ++ (olds ++ ys)) (record { offset = offset; kind = what; base = base; k = k })) ∙ all);
  }

  -- a byte stands before
  pub settles_behind : (code offset : ℕ) (p : Piece) (Q R : List ℕ → Type 0) → ((bs : List ℕ) → Q bs → R (code ∷ bs)) → Settles (offset + 1) p Q
      → Settles offset (behind code p) R
  settles_behind code offset p Q R so on = record {
    is = λ xs ys z at all.
        let longer = length-append xs (code ∷ []) in
        let same : (xs ++ (code ∷ [])) ++ (p.bytes ++ ys) ≡ xs ++ (code ∷ (p.bytes ++ ys)) = append_assoc xs (code ∷ []) (p.bytes ++ ys) in
        let s = on.is (xs ++ (code ∷ [])) ys z (omega (arith, longer, at))
        (ap (λ (r : List ℕ). steps (fixup_put first values) r p.fixups) same ∙ all) in
        record {
          bytes = code ∷ s.bytes;
          said = so s.bytes s.said;
          size_is = (let size = s.size_is in omega (arith, size));
          is = s.is ∙ append_assoc xs (code ∷ []) (s.bytes ++ ys);
        };
  }

  -- one piece behind another
  joined_by : (offset : ℕ) (p q : Piece) (Q R S : List ℕ → Type 0) → ((bs cs : List ℕ) → Q bs → R cs → S (bs ++ cs)) → Settles offset p Q
      → Settles (offset + length p.bytes) q R → (xs ys z : List ℕ) → length xs ≡ offset → (r : Result (List ℕ) LinkCause)
      → steps (fixup_put first values) (xs ++ (p.bytes ++ (q.bytes ++ ys))) p.fixups ≡ r → (r >>= λ t. steps (fixup_put first values) t q.fixups) ≡ Ok z
      → Settled S (length (p.bytes ++ q.bytes)) xs ys z
  joined_by offset p q Q R S so one other xs ys z at (Err e) front all = cc all
  joined_by offset p q Q R S so one other xs ys z at (Ok t) front all =
      let f = one.is xs (q.bytes ++ ys) t at front in
      let there : t ≡ (xs ++ f.bytes) ++ (q.bytes ++ ys) = f.is ∙ sym (append_assoc xs f.bytes (q.bytes ++ ys)) in
      let longer = length-append xs f.bytes in
      let size = f.size_is in
      let g = other.is (xs ++ f.bytes) ys z (omega (arith, longer, size, at))
      (ap (λ (r : List ℕ). steps (fixup_put first values) r q.fixups) (sym there) ∙ all) in
      let more = g.size_is in
      let sum = length-append f.bytes g.bytes in
      let whole = length-append p.bytes q.bytes in
      record {
        bytes = f.bytes ++ g.bytes;
        said = so f.bytes g.bytes f.said g.said;
        size_is = omega (arith, size, more, sum, whole);
        is = g.is ∙ append_assoc xs f.bytes (g.bytes ++ ys) ∙ ap (λ (r : List ℕ). xs ++ r) (sym (append_assoc f.bytes g.bytes ys));
      }

  pub settles_joined : (offset : ℕ) (p q : Piece) (Q R S : List ℕ → Type 0) → ((bs cs : List ℕ) → Q bs → R cs → S (bs ++ cs)) → Settles offset p Q
      → Settles (offset + length p.bytes) q R → Settles offset (joined p q) S
  settles_joined offset p q Q R S so one other = record {
    is = λ xs ys z at all.
        let same : xs ++ ((p.bytes ++ q.bytes) ++ ys) ≡ xs ++ (p.bytes ++ (q.bytes ++ ys)) =
        ap (λ (r : List ℕ). xs ++ r) (append_assoc p.bytes q.bytes ys) in
        joined_by offset p q Q R S so one other xs ys z at
        (steps (fixup_put first values) (xs ++ (p.bytes ++ (q.bytes ++ ys))) p.fixups) refl
        (sym (steps_split (fixup_put first values) (xs ++ (p.bytes ++ (q.bytes ++ ys))) p.fixups q.fixups)
        ∙ ap (λ (r : List ℕ). steps (fixup_put first values) r (p.fixups ++ q.fixups)) (sym same) ∙ all);
  }
