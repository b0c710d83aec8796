-- Lines of verdicts worked out by hand, computed from the definitions.
use Rattle.std.proofs.Common.{◌≡◌, ℕ, Some, None, List, [], ◌∷◌, ◌++◌, replicate, refl}
use Rattle.std.specs.Prelude.{codes, Option}
use Rattle.std.specs.Fmt.{digits}
use Rattle.abs_domain.specs.declared.points.Point.{Point}
use Rattle.abs_domain.specs.declared.reason.Reason.TheVariants.{ReservedOpcode, UnknownJump, DataCountersApart, TrackedRegisterBlurred}
use Rattle.report.specs.CheckLines.{point_text, whole_line, agreed_line, refused_line, toomany_line, notclosed_line, unsafe_line}

-- a point with these bytes of tracked registers, and nothing in the places past them
abbrev point : ℕ → Option ℕ → List (Option ℕ) → ℕ → Point
point at ret split rest = record { at = at; ret = ret; split = split ++ replicate rest None }

abbrev untracked : ℕ → Option ℕ → Point
untracked at ret = point at ret [] 8

three_points : whole_line 3 ≡ codes "whole 3\n"
unfolding whole_line digits
three_points = refl

most_points : whole_line 65536 ≡ codes "whole 65536\n"
unfolding whole_line digits
most_points = refl

three_agreed : agreed_line 3 ≡ codes "agreed 3\n"
unfolding agreed_line digits
three_agreed = refl

one_too_many : toomany_line ≡ codes "toomany\n"
unfolding toomany_line
one_too_many = refl

read_after_exchange : refused_line [] (untracked 4 None) DataCountersApart ≡ codes "refused 0004 ---- . 7\n"
unfolding refused_line point_text digits
read_after_exchange = refl

-- a return is set
call_by_unknown_k : refused_line [] (untracked 0x14 (Some 0x14)) UnknownJump ≡ codes "refused 0014 0014 . 4\n"
unfolding refused_line point_text digits
call_by_unknown_k = refl

-- three registers are tracked, the byte of the second isn't known; a reason has two digits
tracked_bytes : refused_line (9 ∷ 0 ∷ 63 ∷ []) (point 0xABCD None (Some 0 ∷ None ∷ Some 0xFE ∷ []) 5) TrackedRegisterBlurred
    ≡ codes "refused ABCD ---- 00,--,FE 12\n"
unfolding refused_line point_text digits
tracked_bytes = refl

start_open : notclosed_line [] None (untracked 0 None) ≡ codes "notclosed start to 0000 ---- .\n"
unfolding notclosed_line point_text
start_open = refl

second_open : notclosed_line [] (Some (untracked 0 None)) (untracked 1 None) ≡ codes "notclosed 0000 ---- . to 0001 ---- .\n"
unfolding notclosed_line point_text
second_open = refl

reserved_at_start : unsafe_line [] (untracked 0 None) ReservedOpcode ≡ codes "unsafe 0000 ---- . 3\n"
unfolding unsafe_line point_text digits
reserved_at_start = refl
