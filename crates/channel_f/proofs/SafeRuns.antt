-- No run of a script stops on a rack in which chips sit whose verdict is whole.
use Rattle.std.proofs.Common.{◌≡◌, ℕ, ◌<◌, Bool, List, [], ◌∷◌, map, refl, ap, sym, ◌∙◌}
use Rattle.std.specs.Prelude.{Option, None, filter_map}
use Rattle.std.specs.List.{AllByRecursion}
use Rattle.std.proofs.lemmas.Bool.{lt-ltb}
use Rattle.f8_spec.specs.ChipState.{ChipView, ChipState, held_byte}
use Rattle.f8_spec.specs.Powers.{ArePowers}
use Rattle.f8_spec.specs.BusArbitration.{seat_of}
use Rattle.f8_spec.specs.declared.chips.ChipKind.{ChipKind}
use Rattle.f8_spec.specs.declared.chips.PowerOn.{PowerOn}
use Rattle.console_spec.specs.FlatMemory.{sort_of, fixed_byte, fixed_byte_by, only_of}
use Rattle.console_spec.specs.Run.{Done}
use Rattle.console_spec.specs.Scripts.{Script}
use Rattle.console_spec.specs.Telling.{played_by}
use Rattle.console_spec.specs.declared.Sort.{Sort}
use Rattle.chip_face.specs.Fitting.{fitted}
use Rattle.chip_face.specs.declared.specification.ChipSpec.{ChipSpec}
use Rattle.memory_map.specs.MapOf.{views_of, seats_of}
use Rattle.rack_run.specs.Seating.{kinds_of, seat_at, no_sockets, counted, seated_from, fitted_as, fitted_views}
use Rattle.rack_run.specs.Sockets.{shortage_of}
use Rattle.abs_step.specs.CartridgeAnalysis.{analysis}
use Rattle.abs_step.specs.MapView.{IsViewOf, chips_view, MapViewLaw}
use Rattle.abs_step.specs.RackSeats.{SeatedViewLaw}
use Rattle.abs_step.specs.ReachedStates.{SomeIsSafe, SomeIsFaultFree}
use Rattle.abs_step.specs.ScriptRuns.{IsScriptFor, EndsBy, ScriptRunLaw}
use Rattle.abs_step.specs.Soundness.{IsSafeMap, OnlyUndriven}
use Rattle.channel_f.specs.SafeRuns.{HasNoPatches, IsAsDescribed, SafeRunLaw}
use Rattle.channel_f.proofs.SeatedBytes.{same_only}
use Rattle.channel_f.proofs.SeatedChips.{both_same, chips_sit, seated_law}

-- ---- the premises

-- where no chip has a patch, none shows
unpatched : (states : List ChipState) (chips : List ChipSpec) (before : ChipKind → ℕ) →
    AllByRecursion (λ (s : ChipState). s.patch ≡ None) states →
    fitted_as states (seated_from chips before (kinds_of states)) ≡ views_of (seated_from chips before (kinds_of states))
unpatched [] chips before none = refl
unpatched (s ∷ states) chips before none =
    both_same (ap (λ (o : Option (ℕ × ℕ)). fitted o (seat_at chips s.view.kind (before s.view.kind))) none.0)
    (unpatched states chips (counted s.view.kind before) none.1)

pub no_patches : (chips : List ChipSpec) (states : List ChipState) → AllByRecursion (λ (s : ChipState). s.patch ≡ None) states →
    HasNoPatches chips states
no_patches chips states none = unpatched states chips no_sockets none

-- ---- the bytes that stay

-- the byte that is known of an address of the chips described
known_byte : (chips : List ChipSpec) (at : ℕ) → at < 65536 → (chips_view chips).byte at ≡ fixed_byte (views_of chips) at
unfolding chips_view
known_byte chips at small = rw (lt-ltb at 65536 small) refl

same_byte : (chips : List ChipSpec) (states : List ChipState) (at : ℕ) → shortage_of chips (kinds_of states) ≡ None → HasNoPatches chips states →
    only_of (filter_map (λ (v : ChipView). held_byte v at) (fitted_views chips states))
    ≡ only_of (filter_map (λ (v : ChipView). held_byte v at) (views_of chips))
same_byte chips states at enough patches =
    ap (λ (vs : List ChipView). only_of (filter_map (λ (v : ChipView). held_byte v at) vs)) patches
    ∙ same_only at (chips_sit chips (kinds_of states) enough)

module _ (maps : MapViewLaw) (seats : SeatedViewLaw) (chips : List ChipSpec) (states : List ChipState)
    (enough : shortage_of chips (kinds_of states) ≡ None) where
  -- what is known of the chips described is right of the rack
  view_is : IsViewOf (chips_view chips) (map seat_of (fitted_views chips states))
  view_is = seats.view (chips_view chips) (seats_of chips) (map seat_of (fitted_views chips states)) (seated_law chips states enough) (maps.right chips)

  same_sort : (at : ℕ) → at < 65536 → sort_of (map seat_of (fitted_views chips states)) at ≡ sort_of (seats_of chips) at
  same_sort at small = sym (view_is.sort at small) ∙ (maps.right chips).sort at small

  -- the same bytes stay in it
  same_fixed : (at : ℕ) → at < 65536 → HasNoPatches chips states → fixed_byte (fitted_views chips states) at ≡ fixed_byte (views_of chips) at
  same_fixed at small patches =
      ap (λ (s : Sort). fixed_byte_by s (only_of (filter_map (λ (v : ChipView). held_byte v at) (fitted_views chips states)))) (same_sort at small)
      ∙ ap (λ (o : Option ℕ). fixed_byte_by (sort_of (seats_of chips) at) o) (same_byte chips states at enough patches)

-- ---- the law

module _ (runs : ScriptRunLaw) (maps : MapViewLaw) (seats : SeatedViewLaw) where
  script_for : (chips : List ChipSpec) (states : List ChipState) (script : Script) → IsAsDescribed chips states script →
      IsScriptFor (chips_view chips).byte (fitted_views chips states) script
  script_for chips states script h = record {
    fixed = λ at byte small is. same_fixed maps seats chips states h.enough at small h.patches ∙ sym (known_byte chips at small) ∙ is;
    held = λ at byte small is.
        h.bytes at byte (known_byte chips at small ∙ sym (same_fixed maps seats chips states h.enough at small h.patches) ∙ is);
    power = h.script_bytes.power;
    events = h.script_bytes.events;
  }

  safe_map : (chips : List ChipSpec) (tracked : List ℕ) (states : List ChipState) (script : Script) → IsAsDescribed chips states script →
      (some : SomeIsSafe (analysis (chips_view chips) tracked)) →
      IsSafeMap (chips_view chips) (map seat_of (fitted_views chips states)) tracked some.0
  safe_map chips tracked states script h some =
      record { view = view_is maps seats chips states h.enough; closed = some.1.closed; safe = some.1.safe }

  is_done : (chips : List ChipSpec) (tracked : List ℕ) (states : List ChipState) (chain : List ℕ) (powers : List PowerOn)
      (traced : Bool) (script : Script) → IsAsDescribed chips states script → ArePowers powers → SomeIsFaultFree (analysis (chips_view chips) tracked) →
      (played_by (fitted_views chips states) chain powers traced script).ending.stop ≡ Done
  is_done chips tracked states chain powers traced script h are some =
      runs.fault_free (chips_view chips) tracked some.0 (fitted_views chips states) chain powers traced script
      (safe_map chips tracked states script h (some.0, some.1)) some.2 are (script_for chips states script h)

  ends_undriven : (chips : List ChipSpec) (tracked : List ℕ) (states : List ChipState) (chain : List ℕ) (powers : List PowerOn)
      (traced : Bool) (script : Script) → IsAsDescribed chips states script → ArePowers powers → SomeIsSafe (analysis (chips_view chips) tracked) →
      EndsBy (λ here fault. OnlyUndriven here.flat.state.flow.d0 fault) (played_by (fitted_views chips states) chain powers traced script).ending
  ends_undriven chips tracked states chain powers traced script h are some =
      runs.sound (chips_view chips) tracked some.0 (fitted_views chips states) chain powers traced script
      (safe_map chips tracked states script h some) are (script_for chips states script h)

  pub safe_runs : SafeRunLaw
  safe_runs = record { done = is_done; undriven = ends_undriven }
