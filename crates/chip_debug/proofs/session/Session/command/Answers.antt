-- What a command makes of the session and tells.
use Rattle.std.proofs.Common.{◌∙◌, ◌≡◌, ap, inl, inr, map, refl, sym, List}
use Rattle.std.proofs.lemmas.List.{length-map}
use Rattle.f8_spec.specs.ChipState.{ChipView}
use Rattle.rack_run.proofs.AskingLaws.{none_asked}
use Rattle.rewind.proofs.ReachedLaws.{chips_at}
use Rattle.chip_debug.proofs.SceneLaws.{none_put}
use Rattle.chip_debug.specs.Carried.{bytes_held}
use Rattle.chip_debug.specs.Scenes.{reached}
use Rattle.chip_debug.specs.Standing.{SessionState}
use Rattle.chip_debug.specs.Breaks.{breaks_after}
use Rattle.chip_debug.specs.DebugText.{mem_line, stored_line}
use Rattle.chip_debug.proofs.PutLines.{mem_some, puts_nothing, puts_one, puts_start, puts_told, stored_some}
use Rattle.chip_debug.proofs.Placing.{breaks_set, count_is, reads_at, regs_told}
use Rattle.chip_debug.proofs.session.Session.command.Goals as goal

pub returns-in-Power-clause-told : goal.returns-in-Power-clause-told
returns-in-Power-clause-told g c = λ scene stands.
    let again = c.restart.ensures.at scene stands in
    let halt : c.self.inside.halt ≡ c.restart.new.self.halt = ap (λ (s : SessionState). s.halt) c.self.view_is in
    rw c.in-Power.is (puts_start c.put_start.result _ _ _ _ _ again (rw halt at c.put_start.ensures))

pub returns-in-BreakAt-clause-told : goal.returns-in-BreakAt-clause-told
returns-in-BreakAt-clause-told g c = λ scene stands.
    elim c.in-BreakAt.is [
      | inl at ↦ rw at.1 (puts_nothing _ _)
      | inr others ↦ elim others [
        | inl romc ↦ rw romc.1 (puts_nothing _ _)
        | inr others ↦ elim others [
          | inl chip ↦ rw chip.1 (puts_nothing _ _)
          | inr others ↦ elim others [
            | inl apart ↦ rw apart (puts_nothing _ _)
            | inr clear ↦ rw clear (puts_nothing _ _)
          ]
        ]
      ]
    ]

pub returns-in-Keys-clause-told : goal.returns-in-Keys-clause-told
returns-in-Keys-clause-told g c = λ scene stands. rw c.in-Keys.is (puts_nothing _ _)

pub returns-in-Pulse-clause-told : goal.returns-in-Pulse-clause-told
returns-in-Pulse-clause-told g c = λ scene stands. rw c.in-Pulse.is (puts_nothing _ _)

pub returns-in-Mem-clause-told : goal.returns-in-Mem-clause-told
returns-in-Mem-clause-told g c = λ scene stands.
    rw c.in-Mem.is
    (puts_one c.put.result _ _ _ _
    (c.as_bytes.ensures.value
    ∙ c.mem_line.ensures.line
    ∙ ap (λ (vs : List ChipView). mem_line c.in-Mem.at (bytes_held vs c.in-Mem.at c.in-Mem.count)) stands.there.chips)
    (mem_some _ _) c.put.ensures.ok c.put.ensures.err)

pub returns-in-Power-clause-asked : goal.returns-in-Power-clause-asked
returns-in-Power-clause-asked g c = λ scene stands. rw c.in-Power.is (c.restart.ensures.asked scene stands)

pub returns-in-Keys-clause-asked : goal.returns-in-Keys-clause-asked
returns-in-Keys-clause-asked g c = λ scene stands.
    rw c.in-Keys.is
    (none_put _ _
    (none_asked (λ b. (goal.Chip-dyn g (b.vtable, b.value)).queries b.value) c.args.rack.now.items c.happen.new.rack.items
    c.happen.ensures.asked))

pub returns-in-Pulse-clause-asked : goal.returns-in-Pulse-clause-asked
returns-in-Pulse-clause-asked g c = λ scene stands.
    rw c.in-Pulse.is
    (none_put _ _
    (none_asked (λ b. (goal.Chip-dyn g (b.vtable, b.value)).queries b.value) c.args.rack.now.items c.happen-in-Pulse.new.rack.items
    c.happen-in-Pulse.ensures.asked))

pub returns-in-ShowChips-clause-asked : goal.returns-in-ShowChips-clause-asked
returns-in-ShowChips-clause-asked g c = λ scene stands.
    let states = map (λ b. (goal.Chip-dyn g (b.vtable, b.value)).state b.value) c.args.rack.now.items in
    let size = chips_at _ states (reached scene) stands.there
    (length-map c.args.rack.now.items (λ b. (goal.Chip-dyn g (b.vtable, b.value)).state b.value)) in
    rw (c.in-ShowChips.is, size) c.put_chips.ensures.asked

pub returns-in-Mem-clause-asked : goal.returns-in-Mem-clause-asked
returns-in-Mem-clause-asked g c = λ scene stands.
    let states = map (λ b. (goal.Chip-dyn g (b.vtable, b.value)).state b.value) c.args.rack.now.items in
    let size = chips_at _ states (reached scene) stands.there
    (length-map c.args.rack.now.items (λ b. (goal.Chip-dyn g (b.vtable, b.value)).state b.value)) in
    rw (c.in-Mem.is, size) c.mem_line.ensures.asked

pub returns-in-BreakAt-clause-asked : goal.returns-in-BreakAt-clause-asked
returns-in-BreakAt-clause-asked g c = λ scene stands.
    elim c.in-BreakAt.is [
      | inl at ↦ rw at.1 (none_put _ _ refl)
      | inr others ↦ elim others [
        | inl romc ↦ rw romc.1 (none_put _ _ refl)
        | inr others ↦ elim others [
          | inl chip ↦ rw chip.1 (none_put _ _ refl)
          | inr others ↦ elim others [
            | inl apart ↦ rw apart (none_put _ _ refl)
            | inr clear ↦ rw clear (none_put _ _ refl)
          ]
        ]
      ]
    ]

pub returns-in-BreakAt-clause-carried : goal.returns-in-BreakAt-clause-carried
returns-in-BreakAt-clause-carried g c = λ scene stands.
    let there = rw (← c.self-in-BreakAt.view_is) at stands in
    let set : c.after-self-inside.result ≡ breaks_after c.args.command.now scene.breaks =
    c.after-self-inside.ensures ∙ ap (breaks_after c.args.command.now) there.breaks in
    elim c.in-BreakAt.is [
      | inl at ↦ rw at.1 (breaks_set _ _ scene there _ _ (rw at.1 at set))
      | inr others ↦ elim others [
        | inl romc ↦ rw romc.1 (breaks_set _ _ scene there _ _ (rw romc.1 at set))
        | inr others ↦ elim others [
          | inl chip ↦ rw chip.1 (breaks_set _ _ scene there _ _ (rw chip.1 at set))
          | inr others ↦ elim others [
            | inl apart ↦ rw apart (breaks_set _ _ scene there _ _ (rw apart at set))
            | inr clear ↦ rw clear (breaks_set _ _ scene there _ _ (rw clear at set))
          ]
        ]
      ]
    ]

pub returns-in-ShowRegs-clause-told : goal.returns-in-ShowRegs-clause-told
returns-in-ShowRegs-clause-told g c = λ scene stands.
    let there = rw (← c.self-in-ShowRegs.view_is) at stands in
    let tape = c.self-in-ShowRegs.inside.tape in
    let told = regs_told (reached scene).position.flat.state tape.machine c.regs.result c.place.result c.phi.result
    (rw c.machine.ensures at c.regs.ensures.regs) (reads_at tape.machine _ (reached scene) there.there)
    (c.place.ensures ∙ sym (count_is _ _ scene there)) (rw c.machine-in-ShowRegs.ensures at c.phi.ensures) in
    rw c.in-ShowRegs.is
    (puts_told c.put_regs.result _ _ _ _ told c.put_regs.ensures)

pub returns-in-Stored-clause-told : goal.returns-in-Stored-clause-told
returns-in-Stored-clause-told g c = λ scene stands.
    rw c.in-Stored.is
    (puts_one c.put-in-Stored.result _ _ _ _
    (c.as_bytes-in-Stored.ensures.value ∙ c.stored_line.ensures ∙ ap stored_line (c.stored.ensures.place scene stands))
    (stored_some _) c.put-in-Stored.ensures.ok c.put-in-Stored.ensures.err)
