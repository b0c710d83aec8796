-- Power-on again, of chips that have lived since the tape was made; and where a tape stands before its entries, or without those left.
use Rattle.std.proofs.Common.{◌≡◌, ◌≤◌, ℕ, ◌+◌, List, [], ◌∷◌, ◌++◌, refl, sym, ap, ap₂, subst, ◌∙◌}
use Rattle.std.proofs.lemmas.List.{append-nil}
use Rattle.std.specs.Prelude.{Option, None, is_some}
use Rattle.f8_spec.specs.ChipState.{ChipView, ChipState}
use Rattle.f8_spec.specs.declared.chips.PowerOn.{PowerOn}
use Rattle.console_spec.specs.Powering.{fill_in, start_in}
use Rattle.console_spec.specs.Run.{Position, Stop}
use Rattle.data_bus.specs.Racks.{views}
use Rattle.probe.specs.ProbeState.{new_probe}
use Rattle.f8_machine.specs.MachineState.{MachineState}
use Rattle.f8_machine.specs.declared.outcome.Outcome.{Outcome}
use Rattle.f8_machine.specs.declared.outcome.Outcome.TheVariants.{Done, Fault, Reserved}
use Rattle.rewind.specs.Asking.{allowed_since_power}
use Rattle.rewind.specs.LogEntries.{LogState}
use Rattle.rewind.specs.PowerAlike.{PowerAlike}
use Rattle.rewind.specs.Reached.{Reached, reached_by, reset_of, started}
use Rattle.rewind.specs.Standing.{HasReached}
use Rattle.rewind.specs.Tape.{AreDone, IsStartOf, IsTaped, TapeState}
use Rattle.rewind.specs.Tape.{begin, come, come_by, entries_of, mode_begun, mode_rewound}
use Rattle.rewind.specs.declared.entry.Entry.{Entry}
use Rattle.rewind.specs.declared.tape_mode.TapeMode.{TapeMode}
use Rattle.rewind.specs.declared.tape_mode.TapeMode.TheVariants.{Going, Unbegun, Faulted}
use Rattle.rewind.proofs.EntriesReached.{on_the_way}
use Rattle.rewind.proofs.Laws.{position_same}
use Rattle.rewind.proofs.Memories.{powered_same}

-- ---- power-on again

-- power-on and reset lead where they led from the chips as they were at first
pub started_alike : (now first : List ChipView) → PowerAlike now first → (fill : ℕ) (chain : List ℕ) (powers : List PowerOn) →
    started fill chain powers now ≡ started fill chain powers first
started_alike now first alike fill chain powers =
    ap₂ (λ (x : Position) (vs : List ChipView).
    reset_of (record { position = x; chips = vs; probe = new_probe; heard = []; stop = None }))
    (position_same now first alike chain powers fill)
    (powered_same (fill_in fill chain powers) (start_in fill chain powers) now first alike.alike)

-- and so does a machine with that chain
module _ (fill : ℕ) (chain : List ℕ) (powers : List PowerOn) (now first : List ChipView) (m : MachineState) (alike : PowerAlike now first)
    (kept : m.chain ≡ chain) where
  same : started fill chain powers now ≡ started fill m.chain powers first
  same = started_alike now first alike fill chain powers ∙ ap (λ (l : List ℕ). started fill l powers first) (sym kept)

  pub there_again : (news : List ChipState) → HasReached m news (started fill chain powers now) →
      HasReached m news (started fill m.chain powers first)
  there_again news there = subst (λ (r : Reached). HasReached m news r) same there

  pub outcome_again : (outcome : Outcome) → IsStartOf outcome (started fill chain powers now) →
      IsStartOf outcome (started fill m.chain powers first)
  outcome_again outcome is = subst (λ (r : Reached). IsStartOf outcome r) same is

  pub asked_again : (p q : ℕ) → q ≤ p + allowed_since_power (started fill chain powers now) →
      q ≤ p + allowed_since_power (started fill m.chain powers first)
  asked_again p q few = subst (λ (r : Reached). q ≤ p + allowed_since_power r) same few

-- ---- before all entries

-- the entries of a log that has played none
all_left : (log : LogState) (es : List Entry) → log.played ≡ [] → log.left ≡ es → entries_of log ≡ es
all_left log es none left = ap₂ (λ (a b : List Entry). a ++ b) none left

-- after reset, done or not
come_begun : (outcome : Outcome) (r : Reached) → come_by (mode_begun outcome) r ≡ r
come_begun (Done wrote steps) r = refl
come_begun (Fault fault long steps) r = refl
come_begun (Reserved at code) r = refl

done_begun : (outcome : Outcome) (log : LogState) (r : Reached) → entries_of log ≡ [] → IsStartOf outcome r →
    AreDone (mode_begun outcome) log r
done_begun (Done wrote steps) log r none is = ap (λ (es : List Entry). (reached_by es r).stop) none ∙ sym is.stop
done_begun (Fault fault long steps) log r none is =
    record { stops = ap (λ (o : Option Stop). is_some o) (sym is.stop); none = none }
done_begun (Reserved at code) log r none is =
    record { stops = ap (λ (o : Option Stop). is_some o) (sym is.stop); none = none }

-- where a fault stopped the machine behind all entries, it goes on up to there
goes_all : (played left : List Entry) (begun : Reached) → left ≡ [] → (reached_by played begun).stop ≡ None →
    (reached_by (played ++ left) begun).stop ≡ None
goes_all played left begun ended goes =
    ap (λ (l : List Entry). (reached_by (played ++ l) begun).stop) ended
    ∙ ap (λ (l : List Entry). (reached_by l begun).stop) (append-nil played) ∙ goes

-- and rewound
come_rewound : (mode : TapeMode) (r : Reached) → come_by (mode_rewound mode) r ≡ r
come_rewound Going r = refl
come_rewound Unbegun r = refl
come_rewound Faulted r = refl

done_rewound : (mode : TapeMode) (old new : LogState) (begun : Reached) → entries_of new ≡ entries_of old → AreDone mode old begun →
    AreDone (mode_rewound mode) new begun
done_rewound Going old new begun all done = ap (λ (es : List Entry). (reached_by es begun).stop) all ∙ done
done_rewound Unbegun old new begun all done = record { stops = done.stops; none = all ∙ done.none }
done_rewound Faulted old new begun all done =
    ap (λ (es : List Entry). (reached_by es begun).stop) all ∙ goes_all old.played old.left begun done.ended done.goes

-- power-on and reset of a tape whose entries are none, or all left
module _ (t : TapeState) (news : List ChipState) (first : List ChipView) (none : t.log.played ≡ [])
    (there : HasReached t.machine news (begin t first)) (alike : PowerAlike (views news) first) where
  taped_before : (mode : TapeMode) → t.mode ≡ mode → come_by mode (begin t first) ≡ begin t first →
      AreDone mode t.log (begin t first) → IsTaped t news first
  taped_before mode same still done =
      let back : come t first ≡ begin t first =
      ap₂ (λ (m : TapeMode) (es : List Entry). come_by m (reached_by es (begin t first))) same none ∙ still in
      record {
        at = subst (λ (r : Reached). HasReached t.machine news r) (sym back) there;
        entries = subst (λ (m : TapeMode). AreDone m t.log (begin t first)) (sym same) done;
        alike = alike;
      }

  -- a tape without entries, which is as far as reset
  pub fresh : (outcome : Outcome) → t.mode ≡ mode_begun outcome → t.log.left ≡ [] → IsStartOf outcome (begin t first) →
      IsTaped t news first
  fresh outcome mode ended is =
      taped_before (mode_begun outcome) mode (come_begun outcome (begin t first))
      (done_begun outcome t.log (begin t first) (all_left t.log [] none ended) is)

  -- a tape that is rewound, of the same rack
  pub rewound : (old : TapeState) (olds : List ChipState) → begin t first ≡ begin old first → t.mode ≡ mode_rewound old.mode →
      t.log.left ≡ entries_of old.log → IsTaped old olds first → IsTaped t news first
  rewound old olds begins mode left taped =
      taped_before (mode_rewound old.mode) mode (come_rewound old.mode (begin t first))
      (done_rewound old.mode old.log t.log (begin t first) (all_left t.log (entries_of old.log) none left)
      (subst (λ (r : Reached). AreDone old.mode old.log r) (sym begins) taped.entries))

-- ---- where tapes begin

-- those with the same power byte, chain and chips said begin at the same place
pub begins_same : (old new : TapeState) (first : List ChipView) → new.fill ≡ old.fill → new.machine.chain ≡ old.machine.chain →
    new.powers ≡ old.powers → begin new first ≡ begin old first
begins_same old new first fill chain powers =
    ap₂ (λ (byte : ℕ) (l : List ℕ). started byte l new.powers first) fill chain
    ∙ ap (λ (said : List PowerOn). started old.fill old.machine.chain said first) powers

-- what is said of one such place is said of the other
pub there_as : (t like : TapeState) (news : List ChipState) (first : List ChipView) → t ≡ like →
    HasReached like.machine news (begin like first) → HasReached t.machine news (begin t first)
there_as t like news first same there = subst (λ (u : TapeState). HasReached u.machine news (begin u first)) (sym same) there

pub outcome_as : (outcome : Outcome) (r like : Reached) → r ≡ like → IsStartOf outcome like → IsStartOf outcome r
outcome_as outcome r like same is = subst (λ (x : Reached). IsStartOf outcome x) (sym same) is

pub asked_as : (p q : ℕ) (r like : Reached) → r ≡ like → q ≤ p + allowed_since_power like → q ≤ p + allowed_since_power r
asked_as p q r like same few = subst (λ (x : Reached). q ≤ p + allowed_since_power x) (sym same) few

-- ---- without the entries left

none_played : (played left : List Entry) → played ++ left ≡ [] → played ++ [] ≡ []
none_played [] left none = refl
none_played (entry ∷ played) left none = cc

done_cut : (mode : TapeMode) (log : LogState) (spare : ℕ) (begun : Reached) → AreDone mode log begun →
    AreDone mode (record { played = log.played; left = []; spare = spare }) begun
done_cut Going log spare begun done =
    goes_all log.played [] begun refl (on_the_way log.played log.left begun done)
done_cut Unbegun log spare begun done = record { stops = done.stops; none = none_played log.played log.left done.none }
done_cut Faulted log spare begun done = record { goes = done.goes; stops = done.stops; ended = refl }

-- a tape that is cut stands where it stood
pub taped_cut : (t : TapeState) (spare : ℕ) (states : List ChipState) (first : List ChipView) → IsTaped t states first →
    IsTaped (record t { log = record { played = t.log.played; left = []; spare = spare } }) states first
taped_cut t spare states first taped = record {
  at = taped.at;
  entries = done_cut t.mode t.log spare (begin t first) taped.entries;
  alike = taped.alike;
}
