-- The lines of the verdict on a cartridge and on a certificate, as bytes. Every line ends with a line feed, and numbers are decimal.
use Rattle.std.specs.Prelude.{ℕ, List, [], ◌∷◌, ◌++◌, codes, decimal, flat_map, length, take, Option, Some, None, option_map}
use Rattle.std.specs.Borrow.{Bor}
use Rattle.f8_spec.specs.Spelling.{hex2, hex4}
use Rattle.abs_domain.specs.Reasons.{reason_number}
use Rattle.abs_domain.specs.declared.points.Point.{Point}
use Rattle.abs_domain.specs.declared.reason.Reason.{Reason}

-- ---- points

-- a return, or dashes where it is unset
abbrev pub return_text : Option ℕ → List ℕ
return_text None = codes "----"
return_text (Some at) = hex4 at

-- the byte in a tracked register, or dashes where it is unset
abbrev pub value_text : Option ℕ → List ℕ
value_text None = codes "--"
value_text (Some byte) = hex2 byte

abbrev pub next_value : Option ℕ → List ℕ
next_value value = codes "," ++ value_text value

-- the bytes of all tracked registers, with commas between, or a full stop where none is tracked
abbrev pub values_text : List (Option ℕ) → List ℕ
values_text [] = codes "."
values_text (value ∷ values) = value_text value ++ flat_map next_value values

-- a point by its address, its return and the bytes of the registers that the description tracks
unfoldable pub point_text : List ℕ → Point → List ℕ
point_text tracked point =
    hex4 point.at ++ codes " " ++ return_text point.ret ++ codes " " ++ values_text (take (length tracked) point.split)

-- ---- lines

-- the verdict is whole, and so many points have a state
unfoldable pub whole_line : ℕ → List ℕ
whole_line points = codes "whole " ++ decimal points ++ codes "\n"

-- the same where it is agreed
unfoldable pub agreed_line : ℕ → List ℕ
agreed_line points = codes "agreed " ++ decimal points ++ codes "\n"

-- a state at a point is not safe, for a reason, which is told by its number
unfoldable pub refused_line : List ℕ → Point → Reason → List ℕ
refused_line tracked point reason =
    codes "refused " ++ point_text tracked point ++ codes " " ++ decimal (reason_number reason) ++ codes "\n"

-- too many points have a state
unfoldable pub toomany_line : List ℕ
toomany_line = codes "toomany\n"

-- ---- what an examined map lacks

-- the point that is lent, if there is one
abbrev pub point_in : Option (Bor Point) → Option Point
point_in point = option_map (λ (p : Bor Point). p.now) point

-- where states come from: a point, or the start of a run
abbrev pub origin_text : List ℕ → Option Point → List ℕ
origin_text tracked None = codes "start"
origin_text tracked (Some point) = point_text tracked point

-- what holds at a point, by where it comes from, isn't covered
unfoldable pub notclosed_line : List ℕ → Option Point → Point → List ℕ
notclosed_line tracked from to =
    codes "notclosed " ++ origin_text tracked from ++ codes " to " ++ point_text tracked to ++ codes "\n"

-- a state at a point is not safe, for a reason, which is told by its number
unfoldable pub unsafe_line : List ℕ → Point → Reason → List ℕ
unsafe_line tracked point reason = codes "unsafe " ++ point_text tracked point ++ codes " " ++ decimal (reason_number reason) ++ codes "\n"
