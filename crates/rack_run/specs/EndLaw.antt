-- A run ends as its script asks: where no fault and no reserved opcode stops it, so many frames have fallen, or so many instructions are
-- done. The bound on instructions, which a definition of a run needs, cuts none short.
use Rattle.std.specs.Prelude.{◌≡◌, ℕ, true, Bool, List}
use Rattle.f8_spec.specs.ChipState.{ChipView}
use Rattle.f8_spec.specs.declared.chips.PowerOn.{PowerOn}
use Rattle.console_spec.specs.Run.{Done, Ending}
use Rattle.console_spec.specs.Scripts.{Script}
use Rattle.console_spec.specs.Telling.{is_over, played_by, referred_by}

abbrev pub EndsAsAsked : Script → Ending → Type 0
EndsAsAsked script ending = ending.stop ≡ Done → is_over script ending.position ≡ true

abbrev pub EndLaw : Type 0
EndLaw = (vs : List ChipView) (chain : List ℕ) (powers : List PowerOn) (traced : Bool) (script : Script) →
    EndsAsAsked script (played_by vs chain powers traced script).ending × EndsAsAsked script (referred_by vs powers script).ending
