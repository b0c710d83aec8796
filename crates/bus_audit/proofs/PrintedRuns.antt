-- The text of a run is a trace of the steps that it tells.
use Rattle.std.proofs.Common.{◌≡◌, ℕ, ◌+◌, ◌*◌, Bool, true, false, List, [], ◌∷◌, ◌++◌, length, take, drop, append_assoc, cond}
use Rattle.std.proofs.Common.{Some, None, Result, Ok, refl, sym, ap, subst, ◌∙◌}
use Rattle.std.specs.Prelude.{codes, decimal, ◌==◌, ◌&&◌, flat_map, map, option_map}
use Rattle.std.specs.List.{AllByRecursion, range_with_len}
use Rattle.std.proofs.lemmas.List.{append-nil}
use Rattle.f8_spec.specs.Spelling.{hex2, hex4, octal2}
use Rattle.f8_spec.specs.declared.bus.Party.{Party}
use Rattle.text_lines.specs.Lines.{lines}
use Rattle.text_lines.specs.Steps.{◌>>=◌}
use Rattle.line_words.specs.Words.{words}
use Rattle.console_spec.specs.BusTrace.{TracedStep}
use Rattle.console_spec.specs.Display.{palette_of, row_of_pixels, tone_of}
use Rattle.console_spec.specs.Processor.{told_regs}
use Rattle.console_spec.specs.Run.{Stop, Done, Unserved, Reserved, Ending}
use Rattle.console_spec.specs.RunText.{blank_hex2, bus_line, ending_lines, fault_line, frame_line, frame_lines, length_text}
use Rattle.console_spec.specs.RunText.{lines_of, out_line, party_text, picture_row, regs_line, scratch_line, stop_line, telling_lines}
use Rattle.console_spec.specs.RunText.{text_of, total_line, verdict_line}
use Rattle.console_spec.specs.Services.{Fault as ServiceFault, Conflict, Undriven, Astray}
use Rattle.console_spec.specs.Telling.{Told, Traced, TracedFault, Wrote, Shown, Telling, told_in}
use Rattle.console_spec.specs.declared.PortWrite.{PortWrite}
use Rattle.console_spec.specs.declared.Regs.{Regs}
use Rattle.console_spec.specs.declared.VerdictWord.{VerdictWord}
use Rattle.console_spec.specs.declared.VerdictWord.TheVariants.{Whole, Agreed, NoVerdict}
use Rattle.console_spec.specs.declared.Who.TheVariants.{Cpu, Socket, Nobody}
use Rattle.bus_audit.specs.declared.read.TraceFault.{TraceFault}
use Rattle.bus_audit.specs.declared.step.TraceStep.{TraceStep}
use Rattle.bus_audit.specs.declared.step.TraceWhat.{TraceWhat}
use Rattle.bus_audit.specs.declared.step.TraceWhat.TheVariants.{Byte, Fault}
use Rattle.bus_audit.specs.declared.trace.ToldLine.{ToldLine}
use Rattle.bus_audit.specs.Answers.{steps_of}
use Rattle.bus_audit.specs.PlainSteps.{plain}
use Rattle.bus_audit.specs.TraceText.{step_of, told_from, trace_of}
use Rattle.bus_audit.specs.PrintedTraces.{FitsStep, IsTraceOf, PrintedLaw, printed, steps_in, told_steps}
use Rattle.bus_audit.proofs.PrintedSteps.{byte_text, driver_text, exact, front, front_read, printed_front, text_by, traced}
use Rattle.bus_audit.proofs.PrintedText.{Plain, Tells, all_plain, decimal_plain, from_48, hex2_plain, hex4_plain, joined, known}
use Rattle.bus_audit.proofs.PrintedText.{lines_joined, map_lines, map_plain, no_lines, none_line, octal2_plain, one_byte, step_line}

-- ---- the lines of steps

length_plain : (long : Bool) → Plain (length_text long)
length_plain true = record { is = refl }
length_plain false = record { is = refl }

byte_plain : (what : TraceWhat) → Plain (byte_text what)
unfolding byte_text
byte_plain (Byte byte who) = hex2_plain byte
byte_plain Fault = record { is = refl }

driver_plain : (what : TraceWhat) → Plain (driver_text what)
unfolding driver_text
driver_plain (Byte byte Cpu) = record { is = refl }
driver_plain (Byte byte (Socket socket)) = decimal_plain socket
driver_plain (Byte byte Nobody) = record { is = refl }
driver_plain Fault = record { is = refl }

front_plain : (s : TraceStep) → Plain (front s)
unfolding front text_by
front_plain s =
    joined {xs = codes "bus "} (record { is = refl })
    (joined (hex2_plain s.romc) (one_byte 32 refl (joined (length_plain s.long) (one_byte 32 refl
    (joined (byte_plain s.what) (one_byte 32 refl (driver_plain s.what)))))))

step_tells : (s : TraceStep) → FitsStep s → Tells (printed s ∷ []) (s ∷ [])
step_tells s fits = step_line (printed s) (front s) s (sym (printed_front s)) (front_plain s) (front_read s fits)

traced_tells : (s : TracedStep) → FitsStep (plain s) → Tells (bus_line s ∷ []) (plain s ∷ [])
traced_tells s fits = subst (λ l. Tells (l ∷ []) (plain s ∷ [])) (sym (traced s)) (step_tells (plain s) fits)

-- ---- other lines

verdict_tells : (verdict : VerdictWord) → Tells (verdict_line verdict ∷ []) []
unfolding verdict_line
verdict_tells Whole = none_line _ (codes "verdict whole") refl (known _ refl) refl
verdict_tells Agreed = none_line _ (codes "verdict agreed") refl (known _ refl) refl
verdict_tells NoVerdict = none_line _ (codes "verdict none") refl (known _ refl) refl

out_tells : (w : PortWrite) → Tells (out_line w ∷ []) []
unfolding out_line
out_tells w =
    none_line (out_line w) (codes "out " ++ decimal w.phi ++ codes " " ++ hex2 w.port ++ codes " " ++ hex2 w.byte) refl
    (joined (joined (joined (joined (joined (known (codes "out ") refl) (decimal_plain w.phi)) (known (codes " ") refl))
    (hex2_plain w.port)) (known (codes " ") refl)) (hex2_plain w.byte))
    refl

frame_tells : (frame phi tone : ℕ) → Tells (frame_line frame phi tone ∷ []) []
unfolding frame_line
frame_tells frame phi tone =
    none_line (frame_line frame phi tone)
    (codes "frame " ++ decimal frame ++ codes " phi " ++ decimal phi ++ codes " tone " ++ decimal tone) refl
    (joined (joined (joined (joined (joined (known (codes "frame ") refl) (decimal_plain frame)) (known (codes " phi ") refl))
    (decimal_plain phi)) (known (codes " tone ") refl)) (decimal_plain tone))
    refl

-- a line whose second byte is a blank
no_bus_by : (b : Bool) (text : List ℕ) → option_map (λ text. step_of (words text)) (cond (b && false) (Some text) None) ≡ None
no_bus_by true text = refl
no_bus_by false text = refl

row_tells : (y : ℕ) (writes : List PortWrite) → Tells (picture_row y writes ∷ []) []
unfolding picture_row
row_tells y writes =
    let pixels : List ℕ = map (λ colour. 48 + colour) (row_of_pixels y writes) in
    none_line (picture_row y writes) ((48 + palette_of y writes) ∷ 32 ∷ pixels) refl
    (one_byte (48 + palette_of y writes) (from_48 (palette_of y writes)) (one_byte 32 refl
    (map_plain (λ colour. 48 + colour) from_48 (row_of_pixels y writes))))
    (no_bus_by ((48 + palette_of y writes) == 98) (drop 4 ((48 + palette_of y writes) ∷ 32 ∷ pixels)))

shown_tells : (frame phi : ℕ) (writes : List PortWrite) → Tells (frame_lines frame phi writes) []
shown_tells frame phi writes =
    lines_joined (frame_tells frame phi (tone_of writes))
    (map_lines (λ y. picture_row y writes) (λ y. row_tells y writes) (range_with_len 0 64))

-- ---- the lines at the end

party_plain : (p : Party) → Plain (party_text p)
party_plain p =
    joined (joined (joined (known (codes " socket ") refl) (decimal_plain p.socket)) (known (codes " at ") refl)) (hex4_plain p.at)

fault_tells : (fault : ServiceFault) → Tells (fault_line fault ∷ []) []
unfolding fault_line
fault_tells (Conflict romc parties) =
    none_line (fault_line (Conflict romc parties)) (codes "stop conflict romc " ++ hex2 romc ++ flat_map party_text parties) refl
    (joined (joined (known (codes "stop conflict romc ") refl) (hex2_plain romc)) (all_plain party_text party_plain parties))
    refl
fault_tells (Undriven romc at) =
    none_line (fault_line (Undriven romc at)) (codes "stop undriven romc " ++ hex2 romc ++ codes " at " ++ hex4 at) refl
    (joined (joined (joined (known (codes "stop undriven romc ") refl) (hex2_plain romc)) (known (codes " at ") refl)) (hex4_plain at))
    refl
fault_tells (Astray romc socket at reference) =
    none_line (fault_line (Astray romc socket at reference))
    (codes "stop astray romc " ++ hex2 romc ++ codes " socket " ++ decimal socket ++ codes " at " ++ hex4 at
    ++ codes " reference " ++ hex4 reference) refl
    (joined (joined (joined (joined (joined (joined (joined (known (codes "stop astray romc ") refl) (hex2_plain romc))
    (known (codes " socket ") refl)) (decimal_plain socket)) (known (codes " at ") refl)) (hex4_plain at))
    (known (codes " reference ") refl)) (hex4_plain reference))
    refl

stop_tells : (stop : Stop) → Tells (stop_line stop ∷ []) []
unfolding stop_line
stop_tells Done = none_line _ (codes "stop done") refl (known _ refl) refl
stop_tells (Unserved fault) = fault_tells fault
stop_tells (Reserved at code) =
    none_line (stop_line (Reserved at code)) (codes "stop reserved " ++ hex2 code ++ codes " at " ++ hex4 at) refl
    (joined (joined (joined (known (codes "stop reserved ") refl) (hex2_plain code)) (known (codes " at ") refl)) (hex4_plain at))
    refl

regs_tells : (r : Regs) → Tells (regs_line r ∷ []) []
unfolding regs_line
regs_tells r =
    none_line (regs_line r)
    (codes "regs P=" ++ hex4 r.p ++ codes " P1=" ++ hex4 r.p1 ++ codes " D0=" ++ hex4 r.d0 ++ codes " D1=" ++ hex4 r.d1
    ++ codes " A=" ++ hex2 r.a ++ codes " IS=" ++ octal2 r.isar ++ codes " W=" ++ hex2 r.w) refl
    (joined (joined (joined (joined (joined (joined (joined (joined (joined (joined (joined (joined (joined
    (known (codes "regs P=") refl) (hex4_plain r.p)) (known (codes " P1=") refl)) (hex4_plain r.p1)) (known (codes " D0=") refl))
    (hex4_plain r.d0)) (known (codes " D1=") refl)) (hex4_plain r.d1)) (known (codes " A=") refl)) (hex2_plain r.a))
    (known (codes " IS=") refl)) (octal2_plain r.isar)) (known (codes " W=") refl)) (hex2_plain r.w))
    refl

blank_hex2_plain : (byte : ℕ) → Plain (blank_hex2 byte)
blank_hex2_plain byte = one_byte 32 refl (hex2_plain byte)

scratch_tells : (r : Regs) (row : ℕ) → Tells (scratch_line r row ∷ []) []
unfolding scratch_line
scratch_tells r row =
    let bytes : List ℕ = take 16 (drop (16 * row) r.scratch) in
    none_line (scratch_line r row) (codes "s" ++ (48 + row) ∷ codes "0" ++ flat_map blank_hex2 bytes) refl
    (joined (joined (known (codes "s") refl) (one_byte (48 + row) (from_48 row) (known (codes "0") refl)))
    (all_plain blank_hex2 blank_hex2_plain bytes))
    refl

total_tells : (count phi : ℕ) → Tells (total_line count phi ∷ []) []
unfolding total_line
total_tells count phi =
    let first : List ℕ = codes "total " ++ decimal count ++ codes " instructions " ++ decimal phi in
    none_line (total_line count phi) (first ++ codes " phi") (sym (append_assoc first (codes " phi") (codes "\n")))
    (joined (joined (joined (joined (known (codes "total ") refl) (decimal_plain count)) (known (codes " instructions ") refl))
    (decimal_plain phi)) (known (codes " phi") refl))
    refl

ending_tells : (e : Ending) → Tells (ending_lines e) []
ending_tells e =
    let state = e.position.flat.state in
    let regs = told_regs state in
    lines_joined (stop_tells e.stop)
    (lines_joined (regs_tells regs)
    (lines_joined (scratch_tells regs 0)
    (lines_joined (scratch_tells regs 1)
    (lines_joined (scratch_tells regs 2)
    (lines_joined (scratch_tells regs 3) (total_tells state.count state.phi))))))

-- ---- the whole text

told_tells : (told : List Told) → AllByRecursion FitsStep (flat_map steps_in told) →
    Tells (flat_map lines_of told) (flat_map steps_in told)
told_tells [] fits = no_lines
told_tells (Traced s ∷ later) fits = lines_joined (traced_tells s fits.0) (told_tells later fits.1)
told_tells (TracedFault romc long ∷ later) fits =
    lines_joined (step_tells (record { romc = romc; long = long; what = Fault }) fits.0) (told_tells later fits.1)
told_tells (Wrote w ∷ later) fits = lines_joined (out_tells w) (told_tells later fits)
told_tells (Shown frame phi writes ∷ later) fits = lines_joined (shown_tells frame phi writes) (told_tells later fits)

trace_of_lines : (ls : List (List ℕ)) (steps : List TraceStep) → Tells ls steps → IsTraceOf steps (trace_of (text_of ls))
unfolding trace_of
trace_of_lines ls steps tells =
    let text : List ℕ = text_of ls in
    let added = tells.added 1 [] in
    let told : told_from 1 (lines text) ≡ Ok (added.told ++ []) =
    ap (λ t. told_from 1 (lines t)) (sym (append-nil text)) ∙ added.adds in
    subst (λ (r : Result (List ToldLine) TraceFault).
    IsTraceOf steps (r >>= (λ told. Ok (record { told = told; after = length (lines text) + 1 })))) (sym told)
    (ap steps_of (append-nil added.told) ∙ added.steps_are)

whole : (verdict : VerdictWord) (t : Telling) → AllByRecursion FitsStep (told_steps t) →
    IsTraceOf (told_steps t) (trace_of (text_of (telling_lines verdict t)))
whole verdict t fits =
    subst (λ steps. IsTraceOf steps (trace_of (text_of (telling_lines verdict t)))) (append-nil (told_steps t))
    (trace_of_lines (telling_lines verdict t) (told_steps t ++ [])
    (lines_joined (verdict_tells verdict) (lines_joined (told_tells (told_in t.moments) fits) (ending_tells t.ending))))

pub printed_law : PrintedLaw
printed_law = record { exact = exact; traced = traced; whole = whole }
