-- What a run keeps beside its machine goes along with the state of the flat machine.
use Rattle.std.proofs.Common.{◌≡◌, ℕ, zero, suc, ◌+◌, true, false, List, ◌∷◌, ◌++◌, length, add-one, arith, eq-eqb}
use Rattle.std.proofs.Common.{refl, sym, ap, ◌∙◌}
use Rattle.std.specs.Prelude.{Option, Some, None, nat_eq}
use Rattle.std.proofs.Math.Dec.{eqb-suc-suc}
use Rattle.std.proofs.lemmas.List.Sums.{sum_by-cons}
use Rattle.console_spec.specs.declared.PortWrite.{PortWrite}
use Rattle.console_spec.specs.Processor.{State, with_write}
use Rattle.console_spec.specs.Run.{Position, Goes}
use Rattle.console_spec.specs.Scripts.{Script}
use Rattle.console_spec.specs.Telling.{Told, fallen, is_over_at, told_write, told_frame, told_turn}
use Rattle.console_spec.specs.declared.End.{End}
use Rattle.console_spec.specs.declared.End.TheVariants.{Frames, Steps}
use Rattle.video.specs.ScreenState.{screen_after}
use Rattle.video.proofs.ShownLaws.{after_write-screen_after}
use Rattle.rack_run.specs.Endings.{bytes_written}
use Rattle.rack_run.specs.Progressing.{ProgressState, Keeps, screen_with, writes_with, byte_sum_with, progress_with}
use Rattle.rack_run.specs.Progressing.{frame_at, ends_at}
use Rattle.rack_run.specs.Texts.{write_told, frame_told}

-- ---- one more instruction

screen_more : (wrote : Option PortWrite) (ws : List PortWrite) →
    screen_with wrote (screen_after ws) ≡ screen_after (with_write wrote ws)
screen_more None ws = refl
screen_more (Some w) ws = after_write-screen_after w ws

writes_more : (wrote : Option PortWrite) (ws : List PortWrite) →
    writes_with wrote (length ws) ≡ length (with_write wrote ws)
writes_more None ws = refl
writes_more (Some w) ws = add-one (length ws)

bytes_more : (wrote : Option PortWrite) (ws : List PortWrite) →
    byte_sum_with wrote (bytes_written ws) ≡ bytes_written (with_write wrote ws)
bytes_more None ws = refl
bytes_more (Some w) ws =
    let more : bytes_written (w ∷ ws) ≡ w.byte + bytes_written ws = sum_by-cons (λ (v : PortWrite). v.byte) w ws in
    omega (arith, more)

pub keeps_more : (wrote : Option PortWrite) (p : ProgressState) (s t : State) → Keeps p s →
    t.writes ≡ with_write wrote s.writes → t.count ≡ s.count + 1 →
    Keeps (progress_with wrote t.phi p) t
keeps_more wrote p s t keeps writes count = record {
  screen = ap (screen_with wrote) keeps.screen ∙ screen_more wrote s.writes ∙ ap screen_after (sym writes);
  phi = refl;
  count = ap (λ (n : ℕ). n + 1) keeps.count ∙ sym count;
  writes = ap (writes_with wrote) keeps.writes ∙ writes_more wrote s.writes ∙ ap length (sym writes);
  bytes = ap (byte_sum_with wrote) keeps.bytes ∙ bytes_more wrote s.writes ∙ ap bytes_written (sym writes);
}

-- the frame that falls
pub frame_falls : (p : ProgressState) (s t : State) (phi : ℕ) → Keeps p s → phi ≡ t.phi → frame_at p phi ≡ fallen s t
frame_falls p s t phi keeps same = rw (same, keeps.phi) refl

-- it is over
pub over_is : (end : End) (p : ProgressState) (s : State) → Keeps p s → ends_at end p ≡ is_over_at end s
over_is (Steps n) p s keeps = rw keeps.count refl
over_is (Frames n) p s keeps = rw keeps.phi refl

-- ---- what is told of it

not_one_more : (n : ℕ) → nat_eq (suc n) n ≡ false
not_one_more zero = refl
not_one_more (suc n) = eqb-suc-suc (suc n) n ∙ not_one_more n

same_number : (n : ℕ) → nat_eq n n ≡ true
same_number n = eq-eqb n n refl

write_is : (wrote : Option PortWrite) (s t : State) → t.writes ≡ with_write wrote s.writes →
    told_write s t ≡ write_told wrote
write_is None s t writes = rw (writes, same_number (length s.writes)) refl
write_is (Some w) s t writes = rw (writes, not_one_more (length s.writes)) refl

frame_is : (script : Script) (t : State) (frame : Option ℕ) →
    told_frame script t frame ≡ frame_told script.shows frame t.phi t.writes
frame_is script t None = refl
frame_is script t (Some frame) = refl

pub told_is : (script : Script) (wrote : Option PortWrite) (x y : Position) →
    y.flat.state.writes ≡ with_write wrote x.flat.state.writes →
    write_told wrote ++ frame_told script.shows (fallen x.flat.state y.flat.state) y.flat.state.phi y.flat.state.writes
    ≡ told_turn script x (Goes y)
told_is script wrote x y writes =
    ap
    (λ (told : List Told). told ++ frame_told script.shows (fallen x.flat.state y.flat.state) y.flat.state.phi y.flat.state.writes)
    (sym (write_is wrote x.flat.state y.flat.state writes))
    ∙ ap (λ (told : List Told). told_write x.flat.state y.flat.state ++ told)
    (sym (frame_is script y.flat.state (fallen x.flat.state y.flat.state)))
