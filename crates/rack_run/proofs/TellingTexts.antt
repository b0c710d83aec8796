-- The lines that are told on the way, one by one, and the calls that put them.
use Rattle.std.proofs.Common.{◌≡◌, ◌≢◌, ℕ, ◌+◌, ◌<◌, ◌≤◌, Bool, true, false, List, [], ◌∷◌, ◌++◌, length, drop, get_or}
use Rattle.std.proofs.Common.{map, refl, sym, ap, ◌∙◌, arith}
use Rattle.std.specs.Prelude.{⊤, ◌==◌, Option, Some, Result, Ok, Err, OnOk, OnErr}
use Rattle.std.specs.List.{list_any}
use Rattle.std.proofs.lemmas.List.{append-nil, at_drop_more, at_drop_all}
use Rattle.std.proofs.lemmas.List.FromFn.{length-map-range_with_len, get_or-map-range_with_len}
use Rattle.outside.specs.SinkRules.{Output, Adds, AddsPart}
use Rattle.console_spec.specs.declared.PortWrite.{PortWrite}
use Rattle.console_spec.specs.Processor.{with_write}
use Rattle.console_spec.specs.Run.{Position, Goes}
use Rattle.console_spec.specs.RunText.{text_of, bus_line, bus_fault_line, out_line, frame_line, frame_lines}
use Rattle.console_spec.specs.RunText.{picture_row}
use Rattle.console_spec.specs.Display.{tone_of}
use Rattle.console_spec.specs.Scripts.{Script}
use Rattle.console_spec.specs.Telling.{Told, Traced, TracedFault, Wrote, Shown, fallen, told_turn}
use Rattle.f8_machine.specs.declared.heard.Heard.{Heard}
use Rattle.report.proofs.TextLaws.{text_of-cons, text_of-drop, text_of-drop_all}
use Rattle.video.specs.ScreenState.{Shown as ShownScreen, screen_after}
use Rattle.rack_run.specs.Progressing.{ProgressState, Keeps, screen_with, frame_at}
use Rattle.f8_machine.specs.HeardSteps.{step_of}
use Rattle.rack_run.specs.Texts.{Puts, text_told, text_in, rows_told, write_told, frame_told}
use Rattle.rack_run.specs.declared.detail.Detail.{Detail}
use Rattle.rack_run.proofs.Progressed.{keeps_more, frame_falls, told_is}
use Rattle.rack_run.proofs.PutLaws.{puts_line, puts_then, puts_first}
use Rattle.rack_run.proofs.ToldTexts.{text_told-nil, text_told-one, text_told-cons}

-- ---- one line

pub text_of-one : (line : List ℕ) → text_of (line ∷ []) ≡ line
unfolding text_of
text_of-one line = append-nil line

pub fault_text : (romc : ℕ) (long : Bool) → text_told (TracedFault romc long ∷ []) ≡ bus_fault_line romc long
fault_text romc long = text_told-one (TracedFault romc long) ∙ text_of-one (bus_fault_line romc long)

pub write_text : (w : PortWrite) → text_told (Wrote w ∷ []) ≡ out_line w
write_text w = text_told-one (Wrote w) ∙ text_of-one (out_line w)

-- ---- pieces that are put

-- a piece that is a whole line
pub puts_piece : {T : Type 0} {E : Type 0} (r : Result T E) (a b : Output) (piece text : List ℕ) → piece ≡ text →
    text ≢ [] →
    OnOk r (Adds a b piece) → OnErr r (AddsPart a b piece) → Puts r a b text
puts_piece r a b piece text same some ok err = puts_line r a b text some (rw same at ok) (rw same at err)

-- a piece that is put before another text
pub puts_ahead : {T : Type 0} {E : Type 0} (r : Result T E) (a b c : Output) (piece x y : List ℕ) → piece ≡ x →
    Adds a b piece →
    Puts r b c y → Puts r a c (x ++ y)
puts_ahead {E = E} r a b c piece x y same adds later =
    let first : Puts {T = ⊤} {E = E} (Ok tt) a b x = record { ok = rw same at adds; err = tt; some = tt } in
    puts_then tt r a b c x y first later

-- a piece that fails before another text
pub puts_cut : {T : Type 0} {F : Type 0} (f : F) (a b : Output) (piece x y : List ℕ) → piece ≡ x → x ≢ [] →
    AddsPart a b piece →
    Puts {T = T} {E = F} (Err f) a b (x ++ y)
puts_cut {T = T} {F = F} f a b piece x y same some part =
    let first : Puts {T = T} {E = F} (Err f) a b x = record { ok = tt; err = rw same at part; some = some } in
    puts_first f f a b x y first

-- the same told by another value, or by another error
pub puts_as : {S : Type 0} {T : Type 0} {E : Type 0} {F : Type 0} (u : S) (v : T) (a b : Output) (text : List ℕ) →
    Puts {T = S} {E = F} (Ok u) a b text → Puts {T = T} {E = E} (Ok v) a b text
puts_as u v a b text puts = record { ok = puts.ok; err = tt; some = tt }

pub puts_failed : {S : Type 0} {T : Type 0} {E : Type 0} {F : Type 0} (e : E) (f : F) (a b : Output) (text : List ℕ) →
    Puts {T = S} {E = E} (Err e) a b text → Puts {T = T} {E = F} (Err f) a b text
puts_failed e f a b text puts = record { ok = tt; err = puts.err; some = puts.some }

-- ---- served steps

pub steps_more : (steps : List Heard) (i : ℕ) (h : Heard) → i < length steps → h ≡ get_or steps i h →
    text_told (map (λ (k : Heard). Traced (step_of k)) (drop i steps))
    ≡ bus_line (step_of h) ++ text_told (map (λ (k : Heard). Traced (step_of k)) (drop (i + 1) steps))
steps_more steps i h within here =
    at_drop_more (λ (hs : List Heard). text_told (map (λ (k : Heard). Traced (step_of k)) hs)) steps i h within
    ∙ ap
    (λ (first : Heard). text_told (Traced (step_of first) ∷ map (λ (k : Heard). Traced (step_of k)) (drop (i + 1) steps)))
    (sym here)
    ∙ text_told-cons (Traced (step_of h)) (map (λ (k : Heard). Traced (step_of k)) (drop (i + 1) steps))
    ∙ ap (λ (first : List ℕ). first ++ text_told (map (λ (k : Heard). Traced (step_of k)) (drop (i + 1) steps)))
    (text_of-one (bus_line (step_of h)))

pub steps_all : (steps : List Heard) (i : ℕ) → length steps ≤ i →
    text_told (map (λ (k : Heard). Traced (step_of k)) (drop i steps)) ≡ []
steps_all steps i past =
    at_drop_all (λ (hs : List Heard). text_told (map (λ (k : Heard). Traced (step_of k)) hs)) steps i past
    ∙ text_told-nil

-- ---- the rows of a picture

pub rows_more : (ws : List PortWrite) (y : ℕ) → y < 64 →
    text_of (drop y (rows_told ws)) ≡ picture_row y ws ++ text_of (drop (y + 1) (rows_told ws))
rows_more ws y within =
    let long : length (rows_told ws) ≡ 64 = length-map-range_with_len (λ (k : ℕ). picture_row k ws) 0 64 in
    let from_none : 0 + y ≡ y = omega arith in
    let here : get_or (rows_told ws) y (picture_row y ws) ≡ picture_row y ws =
    get_or-map-range_with_len (λ (k : ℕ). picture_row k ws) 0 64 y y (picture_row y ws) within from_none in
    text_of-drop (rows_told ws) y (picture_row y ws) (omega (arith, within, long)) (sym here)

pub rows_all : (ws : List PortWrite) (y : ℕ) → 64 ≤ y → text_of (drop y (rows_told ws)) ≡ []
rows_all ws y past =
    let long : length (rows_told ws) ≡ 64 = length-map-range_with_len (λ (k : ℕ). picture_row k ws) 0 64 in
    text_of-drop_all (rows_told ws) y (omega (arith, past, long))

-- ---- frames

pub frame_text : (frame phi : ℕ) (ws : List PortWrite) →
    frame_line frame phi (tone_of ws) ++ text_of (rows_told ws) ≡ text_of (frame_lines frame phi ws)
frame_text frame phi ws = sym (text_of-cons (frame_line frame phi (tone_of ws)) (rows_told ws))

pub frame_unshown : (shows : List ℕ) (frame phi : ℕ) (ws : List PortWrite) → list_any (λ f. f == frame) shows ≡ false →
    frame_told shows (Some frame) phi ws ≡ []
frame_unshown shows frame phi ws off = rw off refl

pub frame_shown : (shows : List ℕ) (frame phi : ℕ) (ws : List PortWrite) → list_any (λ f. f == frame) shows ≡ true →
    text_of (frame_lines frame phi ws) ≡ text_told (frame_told shows (Some frame) phi ws)
frame_shown shows frame phi ws on = rw on (sym (text_told-one (Shown frame phi ws)))

-- ---- the end of an instruction

pub end_screen : (screen : ShownScreen) (wrote : Option PortWrite) (p : ProgressState) (x y : Position) →
    screen ≡ screen_with wrote p.screen → Keeps p x.flat.state →
    y.flat.state.writes ≡ with_write wrote x.flat.state.writes → screen ≡ screen_after y.flat.state.writes
end_screen screen wrote p x y is keeps writes =
    is
    ∙ (keeps_more wrote p x.flat.state (record y.flat.state { count = x.flat.state.count + 1 }) keeps writes refl).screen

pub end_told : (detail : Detail) (script : Script) (shows : List ℕ) (wrote : Option PortWrite) (frame : Option ℕ)
    (phi : ℕ)
    (p : ProgressState)
    (x y : Position) → Keeps p x.flat.state → y.flat.state.phi ≡ phi →
    y.flat.state.writes ≡ with_write wrote x.flat.state.writes → frame ≡ frame_at p phi → shows ≡ script.shows →
    text_in detail (write_told wrote ++ frame_told shows frame phi y.flat.state.writes) ≡ text_in detail
    (told_turn script x (Goes y))
end_told detail script shows wrote frame phi p x y keeps clocks writes falls same =
    let fell : frame ≡ fallen x.flat.state y.flat.state =
    falls ∙ frame_falls p x.flat.state y.flat.state phi keeps (sym clocks) in
    ap (λ (told : List Told). text_in detail told) (
    ap (λ (frames : List ℕ). write_told wrote ++ frame_told frames frame phi y.flat.state.writes) same
    ∙ ap (λ (f : Option ℕ). write_told wrote ++ frame_told script.shows f phi y.flat.state.writes) fell
    ∙ ap
    (λ (n : ℕ). write_told wrote ++ frame_told script.shows (fallen x.flat.state y.flat.state) n y.flat.state.writes)
    (sym clocks)
    ∙ told_is script wrote x y writes)
