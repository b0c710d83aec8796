-- What linking's tests of rooms tell of each module.
use Rattle.std.proofs.Common.{◌≡◌, ℕ, ◌+◌, ◌≤◌, Bool, true, false, List, [], ◌∷◌, Result, Ok, Err, refl, arith}
use Rattle.std.specs.Prelude.{if◌then◌else◌}
use Rattle.std.proofs.lemmas.Bool.Decides.{nat_tests}
use Rattle.f8_asm.specs.Image.{everywhere}
use Rattle.f8_asm.specs.Marks.{no_marks, marks_with, is_free}
use Rattle.f8_asm.specs.PassTwo.{is_inside}
use Rattle.f8_asm.specs.declared.answers.Room.{Room}
use Rattle.f8_asm.proofs.Alike.{read-ok}
use Rattle.f8_link.specs.declared.answers.LinkCause.{LinkCause}
use Rattle.f8_link.specs.declared.parts.Part.{Part}
use Rattle.f8_link.specs.Linking.{at_module, each_part, size_of, inside, marked, all_inside, all_marked}

-- each module is inside its room, and where no module before it has a byte
pub data RoomsGo : List Bool → List Part → Type 0 where
  no_room : {marks : List Bool} → RoomsGo marks []
  one_room : {marks : List Bool} {p : Part} {ps : List Part} → is_inside p.room p.room.first (size_of p) ≡ true
      → is_free marks p.room.first (size_of p) ≡ true → RoomsGo (marks_with marks p.room.first (size_of p)) ps → RoomsGo marks (p ∷ ps)

module_read : {A : Type 0} (number : ℕ) (r : Result A LinkCause) (x : A) → at_module number r ≡ Ok x → r ≡ Ok x
module_read number (Ok y) x h = cc h
module_read number (Err cause) x h = cc h

when_true : {A : Type 0} (t : Bool) (y x : A) (e : LinkCause) → (if t then Ok y else Err e) ≡ Ok x → (t ≡ true) × (y ≡ x)
when_true true y x e h = (refl, cc h)
when_true false y x e h = cc h

rooms_from : (ps : List Part) (number : ℕ) (u v : Unit {0}) (marks last : List Bool) → each_part (λ number. inside) number u ps ≡ Ok v
    → each_part (λ number. marked) number marks ps ≡ Ok last → RoomsGo marks ps
unfolding each_part inside marked
rooms_from [] number u v marks last within apart = no_room
rooms_from (p ∷ ps) number u v marks last within apart =
    read-ok (RoomsGo marks (p ∷ ps)) (at_module number (inside u p)) _ v within (λ w at_w within.
    read-ok (RoomsGo marks (p ∷ ps)) (at_module number (marked marks p)) _ last apart (λ now at_now apart.
    let lies = when_true (is_inside p.room p.room.first (size_of p)) u w _ (module_read number (inside u p) w at_w) in
    let free = when_true (is_free marks p.room.first (size_of p)) (marks_with marks p.room.first (size_of p)) now _
    (module_read number (marked marks p) now at_now) in
    let rest : RoomsGo now ps = rooms_from ps (number + 1) w v now last within apart in
    one_room lies.0 free.0 (rw free.1 rest)))

pub rooms_go : (size : ℕ) (ps : List Part) (u : Unit {0}) (marks : List Bool) → all_inside ps ≡ Ok u → all_marked size ps ≡ Ok marks
    → RoomsGo (no_marks size) ps
rooms_go size ps u marks within apart = rooms_from ps 0 tt u (no_marks size) marks within apart

-- what lies in a room lies among all addresses
pub inside_everywhere : (room : Room) (at size : ℕ) → room.last ≤ 65535 → is_inside room at size ≡ true → is_inside everywhere at size ≡ true
inside_everywhere room at size low is = grind (arith, nat_tests)
