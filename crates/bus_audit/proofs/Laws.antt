-- The law of determinacy.
use Rattle.std.proofs.Common.{◌≡◌, ℕ, List, ◌++◌, map, sym, subst}
use Rattle.console_spec.specs.BusTrace.{TracedStep}
use Rattle.console_spec.specs.Run.{Position}
use Rattle.bus_audit.specs.PlainSteps.{HaveBytes, plain}
use Rattle.bus_audit.specs.declared.step.TraceStep.{TraceStep}
use Rattle.bus_audit.specs.FreeRuns.{Setup, IsFreelyAt}
use Rattle.bus_audit.specs.Choices.{with_choice}
use Rattle.bus_audit.specs.DictatedRuns.{IsDictatedAt}
use Rattle.bus_audit.specs.Determinacy.{with_free, DiffersInInputs, DeterminacyLaw}
use Rattle.bus_audit.proofs.Behind.{bytes_behind}
use Rattle.bus_audit.proofs.Beside.{Beside, beside, differs}
use Rattle.bus_audit.proofs.Agreement.{agrees}
use Rattle.bus_audit.proofs.Exact.{sound, complete}

determines : (setup : Setup) (n : ℕ) (y : Position) (steps : List TracedStep) (trace rest : List TraceStep) → HaveBytes trace →
    IsFreelyAt setup n y steps → map plain steps ++ rest ≡ trace →
    (z : Position) × IsDictatedAt setup trace n z rest × DiffersInInputs y z
determines setup n y steps trace rest small at is =
    let b : Beside setup trace n y rest = beside setup trace small n y steps rest at is in (
      with_choice rest (with_free b.keys b.pulses y),
      b.dictated,
      differs y b.keys b.pulses rest b.shadow (bytes_behind (map plain steps) rest (subst HaveBytes (sym is) small)),
    )

pub determinacy : DeterminacyLaw
determinacy = record {
  determined = λ setup n y steps trace rest small at is. determines setup n y steps trace rest small at is;
  agrees = λ y z differs. agrees y z differs;
  exact = λ setup n s later small. (λ ends. sound setup n s later small ends, λ is_record. complete setup is_record small);
}
