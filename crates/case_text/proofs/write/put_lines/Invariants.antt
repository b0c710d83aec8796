-- What is told so far, and the lines that are left, are all of them.
use Rattle.std.proofs.Common.{◌≡◌, ◌++◌, flat_map, map}
use Rattle.certificate.specs.CertificateText.{line_text}
use Rattle.case_text.proofs.write.put_lines.Given as goal

abbrev pub invariant-loop-line : goal.invariant-loop-line
invariant-loop-line l =
    l.out.items ++ flat_map line_text (map (λ line. line.items) l.line-iterator)
    ≡ l.initial.out.items ++ flat_map line_text (map (λ line. line.items) l.lines.keys)
