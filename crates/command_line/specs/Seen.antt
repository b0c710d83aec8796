-- What the words ask for, as the program holds it, in the words of the definitions.
use Rattle.std.specs.Prelude.{ℕ, Bool, List}
use Rattle.std.specs.Borrow.{Bor}
use Rattle.command_line.specs.CommandLine as line
use Rattle.command_line.specs.declared.asked.Command.{Command}
use Rattle.command_line.specs.declared.asked.Command.TheVariants.{Play, Ref, Debug, Audit, Check, Verify, Prove, Confirm, Migrate}
use Rattle.command_line.specs.declared.asked.Command.TheVariants.{Asm, Link, Dis, Gen}

abbrev pub seen_command : Command → line.Command
seen_command (Play cart script traced) = line.Play cart.now script.now traced
seen_command (Ref cart script) = line.Ref cart.now script.now
seen_command (Debug cart commands) = line.Debug cart.now commands.now
seen_command (Audit cart script trace) = line.Audit cart.now script.now trace.now
seen_command (Check cart certified) = line.Check cart.now certified
seen_command (Verify cart cert) = line.Verify cart.now cert.now
seen_command (Prove cart listed) = line.Prove cart.now listed
seen_command (Confirm cart cases) = line.Confirm cart.now cases.now
seen_command (Migrate cart) = line.Migrate cart.now
seen_command (Asm file) = line.Asm file.now
seen_command (Link plan) = line.Link plan.now
seen_command (Dis file) = line.Dis file.now
seen_command (Gen seed) = line.Gen seed

-- the texts of two names
abbrev pub seen_files : Bor (List ℕ) × Bor (List ℕ) → List ℕ × List ℕ
seen_files files = (files.0.now, files.1.now)

-- and of three
abbrev pub seen_three_files : Bor (List ℕ) × Bor (List ℕ) × Bor (List ℕ) → List ℕ × List ℕ × List ℕ
seen_three_files files = (files.0.now, files.1.now, files.2.now)

-- the text of a name beside a flag
abbrev pub seen_flagged : Bor (List ℕ) × Bool → line.Flagged
seen_flagged asked = record { file = asked.0.now; flagged = asked.1 }
