-- The image of a source has a place in its chip.
use Rattle.std.proofs.Common.{◌≡◌, ℕ, List, Option, Some, None, Ok, subst}
use Rattle.std.specs.Prelude.{option_map, IsSomeAnd}
use Rattle.f8_asm.specs.declared.answers.Room.{Room}
use Rattle.f8_asm.specs.Image.{Picture, image_of, LiesIn}
use Rattle.f8_asm.proofs.ImageRooms.{image_lies_in}
use Rattle.cartridge.specs.ChipTables.{DescribedSource}
use Rattle.cartridge.specs.Filling.{Planned, source_at, HasRoomFor}

-- the image of a text, in the room that a plan tells, can be put there
pub room_for_image : (plan : Planned) (chip : ℕ) (text : List ℕ) (room : Room) (picture : Picture) → Some room ≡ option_map (λ s. s.room) (source_at plan chip)
    → image_of text room ≡ Ok picture → HasRoomFor plan chip picture.bytes
room_for_image plan chip text room picture told is = goes (source_at plan chip) told
  where
    goes : (source : Option DescribedSource) → Some room ≡ option_map (λ s. s.room) source → IsSomeAnd source (λ s. LiesIn s.room picture.bytes)
    goes None h = cc h
    goes (Some s) h =
        let same : room ≡ s.room = cc h in
        subst (λ (r : Room). LiesIn r picture.bytes) same (image_lies_in text room picture is)
