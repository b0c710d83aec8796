-- A line that is printed of a step is read as that step, and no other line is.
use Rattle.std.proofs.Common.{◌≡◌, ℕ, ◌+◌, ◌-◌, ◌*◌, ◌/◌, ◌%◌, ◌<◌, ◌≤◌, Bool, true, false, List, [], ◌∷◌, ◌++◌, take, drop}
use Rattle.std.proofs.Common.{Option, Some, None, refl, sym, ap, subst, ◌∙◌, arith, take-append-drop, cond}
use Rattle.std.specs.Prelude.{codes, bytes_eq, decimal, option_map, nat_lt, ◌==◌, ◌&&◌, ◌↔◌}
use Rattle.std.proofs.lemmas.Fmt.{decimal_digit, decimal_step}
use Rattle.std.specs.List.{list_all}
use Rattle.std.proofs.lemmas.Bool.Decides.{nat_tests}
use Rattle.std.proofs.lemmas.List.{append_cancel_right}
use Rattle.std.proofs.lemmas.Option.{same_Some}
use Rattle.std.proofs.lemmas.Slice.Eq.{bytes_eq-Decides}
use Rattle.f8_spec.specs.Spelling.{hex_digit, hex2}
use Rattle.text_lines.specs.Lines.{with_first}
use Rattle.line_words.specs.Words.{words}
use Rattle.line_words.proofs.WordLaws.{a_word, no_blank, words_alone, words_at_blank}
use Rattle.console_spec.specs.BusTrace.{TracedStep}
use Rattle.console_spec.specs.RunText.{bus_line, bus_fault_line, length_text, who_text}
use Rattle.console_spec.specs.declared.Who.{Who}
use Rattle.console_spec.specs.declared.Who.TheVariants.{Cpu, Socket, Nobody}
use Rattle.bus_audit.specs.declared.step.TraceStep.{TraceStep}
use Rattle.bus_audit.specs.declared.step.TraceWhat.{TraceWhat}
use Rattle.bus_audit.specs.declared.step.TraceWhat.TheVariants.{Byte, Fault}
use Rattle.bus_audit.specs.PlainSteps.{plain}
use Rattle.bus_audit.specs.TraceText.{below_32, byte_of, code_of, digit_of, is_long, read_in, served, socket_of, step_of}
use Rattle.bus_audit.specs.TraceText.{two_digits, what_of, who_of}
use Rattle.bus_audit.specs.PrintedTraces.{FitsStep, FitsWhat, FitsWho, printed, printed_by}
use Rattle.bus_audit.proofs.TraceSizes.{spelled, read_by}

-- ---- digits and bytes

digit_again : (d : ℕ) → d < 16 → digit_of (hex_digit d) ≡ Some d
digit_again d small = grind (arith, nat_tests)

digit_is : (c d : ℕ) → digit_of c ≡ Some d → (c ≡ hex_digit d) × (d < 16)
digit_is c d is = (grind (arith, nat_tests), grind (arith, nat_tests))

digit_no_blank : (d : ℕ) → no_blank (hex_digit d) ≡ true
digit_no_blank d = grind (arith, nat_tests)

digit_no_dash : (d : ℕ) → (hex_digit d == 45) ≡ false
digit_no_dash d = grind (arith, nat_tests)

byte_again : (b : ℕ) → b < 256 → byte_of (hex2 b) ≡ Some b
unfolding byte_of
byte_again b small =
    let whole : 16 * (b / 16) + b % 16 ≡ b = omega arith in
    rw (digit_again (b / 16) (omega arith), digit_again (b % 16) (omega arith), whole) refl

byte_by : (high low b : ℕ) (first second : Option ℕ) → digit_of high ≡ first → digit_of low ≡ second → two_digits first second ≡ Some b →
    (high ∷ low ∷ [] ≡ hex2 b) × (b < 256)
byte_by high low b (Some h) (Some l) one two is =
    let same = same_Some (16 * h + l) b is in
    let front = digit_is high h one in
    let back = digit_is low l two in
    let h_is : h ≡ b / 16 = omega (arith, same, front.1, back.1) in
    let l_is : l ≡ b % 16 = omega (arith, same, front.1, back.1) in (
      ap (λ c. c ∷ low ∷ []) (front.0 ∙ ap hex_digit h_is) ∙ ap (λ c. hex_digit (b / 16) ∷ c ∷ []) (back.0 ∙ ap hex_digit l_is),
      omega (arith, same, front.1, back.1),
    )
byte_by high low b None second one two is = absurd cc
byte_by high low b (Some h) None one two is = absurd cc

byte_is : (word : List ℕ) (b : ℕ) → byte_of word ≡ Some b → (word ≡ hex2 b) × (b < 256)
unfolding byte_of
byte_is [] b is = absurd cc
byte_is (high ∷ []) b is = absurd cc
byte_is (high ∷ low ∷ []) b is = byte_by high low b (digit_of high) (digit_of low) refl refl is
byte_is (high ∷ low ∷ c ∷ cs) b is = absurd cc

code_again : (n : ℕ) → n < 32 → code_of (hex2 n) ≡ Some n
unfolding code_of
code_again n small = rw (byte_again n (omega arith)) (grind (arith, nat_tests))

code_by : (word : List ℕ) (n : ℕ) (byte : Option ℕ) → byte_of word ≡ byte → below_32 byte ≡ Some n → (word ≡ hex2 n) × (n < 32)
code_by word n (Some b) one is =
    let small : b < 32 = grind (arith, nat_tests) in
    let same : b ≡ n = grind (arith, nat_tests) in
    ((byte_is word b one).0 ∙ ap hex2 same, omega (arith, small, same))
code_by word n None one is = absurd cc

code_is : (word : List ℕ) (n : ℕ) → code_of word ≡ Some n → (word ≡ hex2 n) × (n < 32)
unfolding code_of
code_is word n is = code_by word n (byte_of word) refl is

-- ---- lengths

length_again : (long : Bool) → is_long (length_text long) ≡ Some long
unfolding is_long
length_again true = refl
length_again false = refl

length_by : (word : List ℕ) (l s long : Bool) → bytes_eq word (codes "L") ≡ l → bytes_eq word (codes "S") ≡ s →
    cond l (Some true) (cond s (Some false) None) ≡ Some long → word ≡ length_text long
length_by word true s long one two is =
    (bytes_eq-Decides word (codes "L")).0 one ∙ ap length_text (same_Some true long is)
length_by word false true long one two is =
    (bytes_eq-Decides word (codes "S")).0 two ∙ ap length_text (same_Some false long is)
length_by word false false long one two is = absurd cc

length_is : (word : List ℕ) (long : Bool) → is_long word ≡ Some long → word ≡ length_text long
unfolding is_long
length_is word long is = length_by word (bytes_eq word (codes "L")) (bytes_eq word (codes "S")) long refl refl is

-- ---- drivers

from_ten : (n : ℕ) → n < 6 → decimal (10 + n) ≡ 49 ∷ (48 + n) ∷ []
from_ten n small =
    let ten : (10 + n) / 10 ≡ 1 = omega arith in
    let one : (10 + n) % 10 ≡ n = omega arith in
    rw (decimal_step (10 + n) (omega arith) (omega arith), ten, one, decimal_digit 1 (omega arith)) refl

low_again : (n : ℕ) → n < 10 → who_of ((48 + n) ∷ []) ≡ Some (Socket n)
unfolding who_of
low_again n small = grind (arith, nat_tests)

high_again : (n : ℕ) → n < 6 → who_of (49 ∷ (48 + n) ∷ []) ≡ Some (Socket (10 + n))
unfolding who_of
high_again n small = grind (arith, nat_tests)

socket_by : (socket : ℕ) (low : Bool) → nat_lt socket 10 ≡ low → socket < 16 → who_of (decimal socket) ≡ Some (Socket socket)
socket_by socket true is small =
    let below : socket < 10 = grind (arith, nat_tests) in
    rw (decimal_digit socket below) (low_again socket below)
socket_by socket false is small =
    let above : 10 ≤ socket = grind (arith, nat_tests) in
    let parts : socket ≡ 10 + (socket - 10) = omega arith in
    let below : socket - 10 < 6 = omega (arith, above, small) in
    subst (λ n. who_of (decimal n) ≡ Some (Socket n)) (sym parts) (rw (from_ten (socket - 10) below) (high_again (socket - 10) below))

socket_again : (socket : ℕ) → socket < 16 → who_of (decimal socket) ≡ Some (Socket socket)
socket_again socket small = socket_by socket (nat_lt socket 10) refl small

who_again : (who : Who) → FitsWho who → who_of (who_text who) ≡ Some who
unfolding who_of
who_again Cpu fits = refl
who_again (Socket socket) fits = socket_again socket fits
who_again Nobody fits = refl

socket_is : (word : List ℕ) (socket : ℕ) → socket_of word ≡ Some socket → (word ≡ decimal socket) × (socket < 16)
socket_is [] socket is = absurd cc
socket_is (c ∷ []) socket is =
    let low : socket < 10 = grind (arith, nat_tests) in
    let same : c ≡ 48 + socket = grind (arith, nat_tests) in
    (ap (λ d. d ∷ []) same ∙ sym (decimal_digit socket low), omega (arith, low))
socket_is (ten ∷ c ∷ []) socket is =
    let low : c - 48 < 6 = grind (arith, nat_tests) in
    let same : socket ≡ 10 + (c - 48) = grind (arith, nat_tests) in
    let one : ten ≡ 49 = grind (arith, nat_tests) in
    let digit : c ≡ 48 + (c - 48) = grind (arith, nat_tests) in
    (ap (λ d. d ∷ c ∷ []) one ∙ ap (λ d. 49 ∷ d ∷ []) digit ∙ sym (from_ten (c - 48) low) ∙ ap decimal (sym same), omega (arith, same, low))
socket_is (ten ∷ c ∷ d ∷ ds) socket is = absurd cc

driver_by : (word : List ℕ) (cpu nobody : Bool) (socket : Option ℕ) (who : Who) → bytes_eq word (codes "cpu") ≡ cpu →
    bytes_eq word (codes "-") ≡ nobody → socket_of word ≡ socket →
    cond cpu (Some Cpu) (cond nobody (Some Nobody) (option_map Socket socket)) ≡ Some who → (word ≡ who_text who) × FitsWho who
driver_by word true nobody socket who one two three is =
    ((bytes_eq-Decides word (codes "cpu")).0 one ∙ ap who_text (same_Some Cpu who is), subst FitsWho (same_Some Cpu who is) tt)
driver_by word false true socket who one two three is =
    ((bytes_eq-Decides word (codes "-")).0 two ∙ ap who_text (same_Some Nobody who is), subst FitsWho (same_Some Nobody who is) tt)
driver_by word false false (Some socket) who one two three is =
    let same = same_Some (Socket socket) who is in
    let spelled_socket = socket_is word socket three in
    (spelled_socket.0 ∙ ap who_text same, subst FitsWho same spelled_socket.1)
driver_by word false false None who one two three is = absurd cc

driver_is : (word : List ℕ) (who : Who) → who_of word ≡ Some who → (word ≡ who_text who) × FitsWho who
unfolding who_of
driver_is word who is =
    driver_by word (bytes_eq word (codes "cpu")) (bytes_eq word (codes "-")) (socket_of word) who refl refl refl is

-- ---- what became of a step

unfoldable pub byte_text : TraceWhat → List ℕ
byte_text (Byte byte who) = hex2 byte
byte_text Fault = codes "--"

unfoldable pub driver_text : TraceWhat → List ℕ
driver_text (Byte byte who) = who_text who
driver_text Fault = codes "fault"

what_again : (what : TraceWhat) → FitsWhat what → what_of (byte_text what) (driver_text what) ≡ Some what
unfolding what_of byte_text driver_text
what_again (Byte byte who) fits =
    rw (digit_no_dash (byte / 16), byte_again byte fits.0, who_again who fits.1) refl
what_again Fault fits = refl

served_is : (word other : List ℕ) (byte : Option ℕ) (who : Option Who) (what : TraceWhat) → byte_of word ≡ byte → who_of other ≡ who →
    served byte who ≡ Some what → (word ≡ byte_text what) × (other ≡ driver_text what) × FitsWhat what
unfolding byte_text driver_text
served_is word other (Some byte) (Some who) what one two is =
    let same = same_Some (Byte byte who) what is in
    let front = byte_is word byte one in
    let back = driver_is other who two in
    (front.0 ∙ ap byte_text same, back.0 ∙ ap driver_text same, subst FitsWhat same (front.1, back.1))
served_is word other None who what one two is = absurd cc
served_is word other (Some byte) None what one two is = absurd cc

what_by : (word other : List ℕ) (fault : Bool) (what : TraceWhat) →
    (fault ≡ true → (word ≡ codes "--") × (other ≡ codes "fault")) →
    cond fault (Some Fault) (served (byte_of word) (who_of other)) ≡ Some what →
    (word ≡ byte_text what) × (other ≡ driver_text what) × FitsWhat what
unfolding byte_text driver_text
what_by word other true what texts is =
    let same = same_Some Fault what is in
    ((texts refl).0 ∙ ap byte_text same, (texts refl).1 ∙ ap driver_text same, subst FitsWhat same tt)
what_by word other false what texts is = served_is word other (byte_of word) (who_of other) what refl refl is

fault_texts : (word other : List ℕ) → bytes_eq word (codes "--") && bytes_eq other (codes "fault") ≡ true →
    (word ≡ codes "--") × (other ≡ codes "fault")
fault_texts word other is =
    let one : bytes_eq word (codes "--") ≡ true = grind arith in
    let two : bytes_eq other (codes "fault") ≡ true = grind arith in
    ((bytes_eq-Decides word (codes "--")).0 one, (bytes_eq-Decides other (codes "fault")).0 two)

what_is : (word other : List ℕ) (what : TraceWhat) → what_of word other ≡ Some what →
    (word ≡ byte_text what) × (other ≡ driver_text what) × FitsWhat what
unfolding what_of
what_is word other what is =
    what_by word other (bytes_eq word (codes "--") && bytes_eq other (codes "fault")) what (fault_texts word other) is

-- ---- words, with blanks between them

joined : List (List ℕ) → List ℕ
joined [] = []
joined (w ∷ []) = w
joined (w ∷ v ∷ ws) = w ++ 32 ∷ joined (v ∷ ws)

joined_blank : (ws : List (List ℕ)) (w : List ℕ) (vs : List (List ℕ)) → ws ≡ w ∷ vs → joined ([] ∷ ws) ≡ 32 ∷ joined ws
unfolding joined
joined_blank [] w vs is = absurd cc
joined_blank (v ∷ ws) w vs is = refl

joined_more : (b : ℕ) (ws : List (List ℕ)) (w : List ℕ) (vs : List (List ℕ)) → ws ≡ w ∷ vs → joined (with_first b ws) ≡ b ∷ joined ws
unfolding joined
joined_more b [] w vs is = absurd cc
joined_more b (v ∷ []) w vs is = refl
joined_more b (v ∷ u ∷ ws) w vs is = refl

joined_by : (blank : Bool) (b : ℕ) (bs : List ℕ) → (b == 32) ≡ blank → bs ≡ joined (words bs) →
    b ∷ bs ≡ joined (cond blank ([] ∷ words bs) (with_first b (words bs)))
joined_by true b bs is rest =
    let some = a_word bs in
    let same : b ≡ 32 = grind (arith, nat_tests) in
    ap (λ c. c ∷ bs) same ∙ ap (λ t. 32 ∷ t) rest ∙ sym (joined_blank (words bs) some.0 some.1 some.2)
joined_by false b bs is rest =
    let some = a_word bs in
    ap (λ t. b ∷ t) rest ∙ sym (joined_more b (words bs) some.0 some.1 some.2)

joined_words : (text : List ℕ) → text ≡ joined (words text)
unfolding joined
joined_words [] = refl
joined_words (b ∷ bs) = joined_by (b == 32) b bs refl (joined_words bs)

-- ---- a line

-- what stands behind `bus ` in a line that is printed, but for the LF
unfoldable pub text_by : ℕ → Bool → TraceWhat → List ℕ
text_by romc long what = hex2 romc ++ 32 ∷ (length_text long ++ 32 ∷ (byte_text what ++ 32 ∷ driver_text what))

unfoldable pub front : TraceStep → List ℕ
front s = codes "bus " ++ text_by s.romc s.long s.what

printed_by_front : (romc : ℕ) (long : Bool) (what : TraceWhat) →
    (codes "bus " ++ text_by romc long what) ++ codes "\n" ≡ printed_by romc long what
unfolding byte_text driver_text text_by bus_line bus_fault_line
printed_by_front romc true (Byte byte who) = refl
printed_by_front romc false (Byte byte who) = refl
printed_by_front romc true Fault = refl
printed_by_front romc false Fault = refl

pub printed_front : (s : TraceStep) → front s ++ codes "\n" ≡ printed s
unfolding front
printed_front s = printed_by_front s.romc s.long s.what

hex2_no_blank : (n : ℕ) → list_all no_blank (hex2 n) ≡ true
hex2_no_blank n = rw (digit_no_blank (n / 16), digit_no_blank (n % 16)) refl

length_no_blank : (long : Bool) → list_all no_blank (length_text long) ≡ true
length_no_blank true = refl
length_no_blank false = refl

low_no_blank : (n : ℕ) → list_all no_blank ((48 + n) ∷ []) ≡ true
low_no_blank n = grind (arith, nat_tests)

high_no_blank : (n : ℕ) → list_all no_blank (49 ∷ (48 + n) ∷ []) ≡ true
high_no_blank n = grind (arith, nat_tests)

socket_no_blank_by : (socket : ℕ) (low : Bool) → nat_lt socket 10 ≡ low → socket < 16 → list_all no_blank (decimal socket) ≡ true
socket_no_blank_by socket true is small =
    let below : socket < 10 = grind (arith, nat_tests) in
    rw (decimal_digit socket below) (low_no_blank socket)
socket_no_blank_by socket false is small =
    let above : 10 ≤ socket = grind (arith, nat_tests) in
    let parts : socket ≡ 10 + (socket - 10) = omega arith in
    let below : socket - 10 < 6 = omega (arith, above, small) in
    subst (λ n. list_all no_blank (decimal n) ≡ true) (sym parts)
    (rw (from_ten (socket - 10) below) (high_no_blank (socket - 10)))

driver_no_blank : (what : TraceWhat) → FitsWhat what → list_all no_blank (driver_text what) ≡ true
unfolding driver_text
driver_no_blank (Byte byte Cpu) fits = refl
driver_no_blank (Byte byte (Socket socket)) fits = socket_no_blank_by socket (nat_lt socket 10) refl fits.1
driver_no_blank (Byte byte Nobody) fits = refl
driver_no_blank Fault fits = refl

byte_no_blank : (what : TraceWhat) → list_all no_blank (byte_text what) ≡ true
unfolding byte_text
byte_no_blank (Byte byte who) = hex2_no_blank byte
byte_no_blank Fault = refl

text_words : (romc : ℕ) (long : Bool) (what : TraceWhat) → FitsWhat what →
    words (text_by romc long what) ≡ hex2 romc ∷ length_text long ∷ byte_text what ∷ driver_text what ∷ []
unfolding text_by
text_words romc long what fits =
    words_at_blank (hex2 romc) (length_text long ++ 32 ∷ (byte_text what ++ 32 ∷ driver_text what)) (hex2_no_blank romc)
    ∙ ap (λ ws. hex2 romc ∷ ws)
    (words_at_blank (length_text long) (byte_text what ++ 32 ∷ driver_text what) (length_no_blank long)
    ∙ ap (λ ws. length_text long ∷ ws)
    (words_at_blank (byte_text what) (driver_text what) (byte_no_blank what)
    ∙ ap (λ ws. byte_text what ∷ ws) (words_alone (driver_text what) (driver_no_blank what fits))))

step_again : (s : TraceStep) → FitsStep s →
    step_of (hex2 s.romc ∷ length_text s.long ∷ byte_text s.what ∷ driver_text s.what ∷ []) ≡ Some s
unfolding step_of
step_again s fits = rw (code_again s.romc fits.code, length_again s.long, what_again s.what fits.what) refl

-- a line that is printed is read
pub front_read : (s : TraceStep) → FitsStep s → read_in (front s) ≡ Some (Some s)
unfolding front
front_read s fits = ap Some (ap step_of (text_words s.romc s.long s.what fits.what) ∙ step_again s fits)

-- a line that is read is one that is printed
begins_by : (bus : Bool) (text : List ℕ) (s : TraceStep) →
    option_map (λ text. step_of (words text)) (cond bus (Some text) None) ≡ Some (Some s) → bus ≡ true
begins_by true text s is = refl
begins_by false text s is = absurd cc

text_is : (text : List ℕ) (s : TraceStep) → step_of (words text) ≡ Some s → (text ≡ text_by s.romc s.long s.what) × FitsStep s
unfolding joined text_by
text_is text s is =
    let parts = spelled (words text) s is in
    let code = code_is parts.code s.romc parts.has_code in
    let long = length_is parts.long s.long parts.has_length in
    let what = what_is parts.byte parts.who s.what parts.has_what in
    let whole : text ≡ parts.code ++ 32 ∷ (parts.long ++ 32 ∷ (parts.byte ++ 32 ∷ parts.who)) =
    joined_words text ∙ ap joined parts.parts in (
      whole
          ∙ ap (λ w. w ++ 32 ∷ (parts.long ++ 32 ∷ (parts.byte ++ 32 ∷ parts.who))) code.0
          ∙ ap (λ w. hex2 s.romc ++ 32 ∷ (w ++ 32 ∷ (parts.byte ++ 32 ∷ parts.who))) long
          ∙ ap (λ w. hex2 s.romc ++ 32 ∷ (length_text s.long ++ 32 ∷ (w ++ 32 ∷ parts.who))) what.0
          ∙ ap (λ w. hex2 s.romc ++ 32 ∷ (length_text s.long ++ 32 ∷ (byte_text s.what ++ 32 ∷ w))) what.1,
      record { code = code.1; what = what.2 },
    )

line_is : (line : List ℕ) (s : TraceStep) → read_in line ≡ Some (Some s) → (line ≡ front s) × FitsStep s
unfolding front
line_is line s is =
    let bus = begins_by (bytes_eq (take 4 line) (codes "bus ")) (drop 4 line) s is in
    let text = text_is (drop 4 line) s (read_by (bytes_eq (take 4 line) (codes "bus ")) (drop 4 line) s is) in (
      sym (take-append-drop 4 line)
          ∙ ap (λ t. t ++ drop 4 line) ((bytes_eq-Decides (take 4 line) (codes "bus ")).0 bus)
          ∙ ap (λ t. codes "bus " ++ t) text.0,
      text.1,
    )

-- ---- the law

pub exact : (line : List ℕ) (s : TraceStep) → (read_in line ≡ Some (Some s)) ↔ (FitsStep s × (line ++ codes "\n" ≡ printed s))
exact line s = (
  λ is. let found = line_is line s is in (found.1, ap (λ t. t ++ codes "\n") found.0 ∙ printed_front s),
  λ given.
      let same : line ≡ front s = append_cancel_right line (front s) (codes "\n") (given.1 ∙ sym (printed_front s)) in
      ap read_in same ∙ front_read s given.0,
)

pub traced : (s : TracedStep) → bus_line s ≡ printed (plain s)
unfolding bus_line
traced s = refl
