-- Modules that lie in their rooms end by address 65,536.
use Rattle.std.proofs.Common.{◌≡◌, ℕ, zero, suc, ◌+◌, ◌<◌, ◌≤◌, Bool, true, false, List, length, get_or, drop, Ok, Err, Result, refl, arith}
use Rattle.std.specs.Prelude.{◌==◌, nat_le, if◌then◌else◌}
use Rattle.std.proofs.lemmas.Bool.{and_parts, leb-true}
use Rattle.std.proofs.lemmas.Bool.Decides.{nat_tests}
use Rattle.f8_asm.specs.declared.answers.Room.{Room}
use Rattle.f8_asm.specs.PassTwo.{is_inside}
use Rattle.f8_link.specs.declared.answers.LinkCause.{LinkCause}
use Rattle.f8_link.specs.declared.answers.LinkCause.TheVariants.{Outside}
use Rattle.f8_link.specs.declared.parts.Part.{Part}
use Rattle.f8_link.specs.Linking.{inside}
use Rattle.f8_link.proofs.EachPart.{EachOn, one_more, stopped}

-- bytes that lie in a room end behind its last address at most
pub end_inside : (room : Room) (size : ℕ) → room.first ≤ 65535 → room.last ≤ 65535 → is_inside room room.first size ≡ true → room.first + size ≤ 65536
end_inside room zero first last is = omega (arith, first)
end_inside room (suc n) first last is =
    let some : (suc n == 0) ≡ false = grind (arith, nat_tests) in
    let both = and_parts (nat_le room.first room.first) (nat_le (room.first + suc n) (room.last + 1)) (rw some at is) in
    let end = leb-true (room.first + suc n) (room.last + 1) both.1 in
    omega (arith, end, last)

was_inside : (test : Bool) (u : Unit {0}) → (if test then Ok u else Err Outside) ≡ Ok u → test ≡ true
was_inside true u is = refl
was_inside false u is = cc is

-- what linking asks of a module is that its bytes lie in its room
pub part_inside : (p : Part) → inside tt p ≡ Ok tt → is_inside p.room p.room.first (length p.object.bytes) ≡ true
unfolding inside
part_inside p is = was_inside (is_inside p.room p.room.first (length p.object.bytes)) tt is

-- where all that are left lie in their rooms, so does the next, and so do those behind it
pub record NextInside (ps : List Part) (number : ℕ) (p : Part) : Type 0 where
  pub here : inside tt p ≡ Ok tt
  pub behind : EachOn (λ number. inside) (number + 1) tt (drop (number + 1) ps) (Ok tt)

pub next_inside : (ps : List Part) (number : ℕ) (on : EachOn (λ number. inside) number tt (drop number ps) (Ok tt)) (p : Part) → number < length ps
    → p ≡ get_or ps number p → NextInside ps number p
next_inside ps number on p within is = by (inside tt p) refl
  where
    by : (r : Result (Unit {0}) LinkCause) → inside tt p ≡ r → NextInside ps number p
    by (Ok u) told = record { here = told; behind = one_more (λ number. inside) ps number on p within is tt told }
    by (Err cause) told = let never = stopped (λ number. inside) ps number on p within is cause told in cc never
