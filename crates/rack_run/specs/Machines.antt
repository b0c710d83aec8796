-- What the two players of a run tell of themselves: a machine on its rack, and the flat instruction set alone. Each tells the state of the
-- position that it stands at.
use Rattle.std.specs.Prelude.{◌≡◌, ℕ, List, []}
use Rattle.std.proofs.Common.{sym, ap, ◌∙◌}
use Rattle.f8_spec.specs.ChipState.{ChipState}
use Rattle.console_spec.specs.FlatMachine.{FlatState}
use Rattle.console_spec.specs.Processor.{Flow, Registers}
use Rattle.console_spec.specs.Run.{Position, position_after_reset}
use Rattle.f8_isa.specs.IsaState.{IsaState, StandsAt}
use Rattle.f8_machine.specs.MachineState.{MachineState}
use Rattle.f8_machine.specs.Refinement.{Represents}
use Rattle.rack_run.specs.Turns.{Readout, readout_of}

abbrev pub machine_readout : MachineState → Readout
machine_readout m = record { flow = m.flow; registers = m.cpu.registers; phi = m.phi }

pub machine_reads : (m : MachineState) (states : List ChipState) (x : Position) → Represents m states x →
    machine_readout m ≡ readout_of x.flat.state
machine_reads m states x r =
    let with_flow : Flow → Readout = λ flow. record { flow = flow; registers = m.cpu.registers; phi = m.phi } in
    let with_registers : Registers → Readout =
    λ registers. record { flow = x.flat.state.flow; registers = registers; phi = m.phi } in
    let with_phi : ℕ → Readout =
    λ phi. record { flow = x.flat.state.flow; registers = x.flat.state.registers; phi = phi } in
    ap with_flow r.stands.flow ∙ ap with_registers r.stands.holds.registers ∙ ap with_phi r.stands.phi

abbrev pub flat_readout : IsaState → Readout
flat_readout isa = record { flow = isa.flow; registers = isa.registers; phi = isa.phi }

-- Before reset no port has been written, so that no chip lets a pulse in. The flat instruction set stands where reset leads.
pub record BeginsAt (isa : IsaState) (x : Position) : Type 0 where
  pub unwritten : x.flat.state.writes ≡ []
  pub stands : StandsAt isa 0 (position_after_reset x)

pub flat_reads : (isa : IsaState) (states : List ChipState) (x : Position) → StandsAt isa x.flat.state.count x →
    flat_readout isa ≡ readout_of x.flat.state
flat_reads isa states x stands = sym (ap (λ (f : FlatState). readout_of f.state) stands.flat)
