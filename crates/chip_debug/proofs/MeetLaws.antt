-- What is seen of an instruction that is done tells whether it met a break.
use Rattle.std.proofs.Common.{◌≡◌, ℕ, List, ap, ◌∙◌}
use Rattle.std.specs.Prelude.{Bool, None}
use Rattle.f8_spec.specs.ChipState.{ChipView, ChipState}
use Rattle.console_spec.specs.Processor.{Flow}
use Rattle.probe.specs.ProbeState.{ProbeState, probe_counters}
use Rattle.data_bus.specs.Racks.{views}
use Rattle.f8_machine.specs.MachineState.{MachineState}
use Rattle.f8_machine.specs.Refinement.{Represents}
use Rattle.f8_machine.specs.declared.heard.Heard.{Heard}
use Rattle.rewind.specs.Reached.{Reached, next_steps, turned}
use Rattle.rewind.specs.Standing.{HasReached}
use Rattle.rewind.proofs.ReachedLaws.{represents_at}
use Rattle.chip_debug.specs.declared.breaks.Breaks.{Breaks}
use Rattle.chip_debug.specs.Breaks.{are_met}
use Rattle.chip_debug.specs.Scenes.{meets_break}

-- the machine and its rack are where the instruction led, and its bus steps are these
pub meets_is : (breaks : Breaks) (chain : List ℕ) (r : Reached) (steps : List Heard) (m : MachineState) (states : List ChipState) →
    HasReached m states (turned r) → (turned r).stop ≡ None → m.chain ≡ chain → steps ≡ next_steps r →
    are_met breaks steps m.flow.p (probe_counters m.probe) m.chain (views states) ≡ meets_break breaks chain r
meets_is breaks chain r steps m states at running same are =
    let met : List Heard → ℕ → ProbeState → List ℕ → List ChipView → Bool =
    λ hs p probe l vs. are_met breaks hs p (probe_counters probe) l vs in
    let here : Represents m states (turned r).position = represents_at m states (turned r) at running in
    ap (λ (hs : List Heard). met hs m.flow.p m.probe m.chain (views states)) are
    ∙ ap (λ (c : Flow). met (next_steps r) c.p m.probe m.chain (views states)) here.stands.flow
    ∙ ap (λ (p : ProbeState). met (next_steps r) (turned r).position.flat.state.flow.p p m.chain (views states)) at.probe
    ∙ ap (λ (l : List ℕ). met (next_steps r) (turned r).position.flat.state.flow.p (turned r).probe l (views states)) same
    ∙ ap (λ (vs : List ChipView). met (next_steps r) (turned r).position.flat.state.flow.p (turned r).probe chain vs) at.chips
