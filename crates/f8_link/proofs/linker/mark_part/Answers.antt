use Rattle.std.proofs.Common.{◌≡◌, length, ◌∙◌, arith, rules}
use Rattle.f8_link.proofs.LinkSteps.{put_back}
use Rattle.f8_link.proofs.PartsInside.{end_inside}
use Rattle.f8_link.proofs.linker.mark_part.Goals as goal

pub is_free-requires : goal.is_free-requires
is_free-requires c =
    let ends = end_inside c.args.room c.args.size (omega arith) (omega arith) c.requires.inside in
    rw (c.from-first.ensures, c.as_slice.ensures.value, c.requires.addresses) ends

pub mark-requires : goal.mark-requires
mark-requires c =
    let ends = end_inside c.args.room c.args.size (omega arith) (omega arith) c.requires.inside in
    rw (c.from-first.ensures, c.as_mut_slice.ensures.value, c.requires.addresses) ends

pub returns : goal.returns
returns c =
    let same : length c.mark.new.marks ≡ length c.args.marks.now.items = search rules in
    let all : c.args.marks.now.len ≡ length c.args.marks.now.items = search rules in
    rw (put_back c.mark.new.marks c.args.marks.now.items c.args.marks.now.len same all)
    record { marked = search rules; addresses = same ∙ c.requires.addresses }
