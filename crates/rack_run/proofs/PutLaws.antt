-- Calls that put texts, one after another.
use Rattle.std.proofs.Common.{◌≡◌, ◌≢◌, ℕ, Bool, true, false, List, [], ◌++◌, sym}
use Rattle.std.specs.Prelude.{if◌then◌else◌, Result, Ok, Err, OnOk, OnErr}
use Rattle.outside.specs.SinkRules.{Output, Adds, AddsPart}
use Rattle.console_spec.specs.BusTrace.{TracedStep}
use Rattle.console_spec.specs.RunText.{bus_line, bus_fault_line, out_line, frame_line, picture_row}
use Rattle.console_spec.specs.declared.PortWrite.{PortWrite}
use Rattle.outside.proofs.SinkLaws.{PutSoFar, put_so_far_more, put_so_far_all, put_so_far_part, adds_none, adds_then}
use Rattle.outside.proofs.SinkLaws.{adds_part_behind, adds_part_first}
use Rattle.console_spec.specs.Telling.{Told}
use Rattle.rack_run.specs.Texts.{is_told, is_traced, text_told, text_in, Puts}
use Rattle.rack_run.specs.declared.detail.Detail.{Detail}
use Rattle.rack_run.proofs.ToldTexts.{told_if, text_in-nil, traced_told, some_first, some_behind}

-- nothing is put
pub puts_none : {T : Type 0} {E : Type 0} (v : T) (a : Output) → Puts {T = T} {E = E} (Ok v) a a []
puts_none v a = record { ok = adds_none a; err = tt; some = tt }

pub puts_same : {T : Type 0} {E : Type 0} (r : Result T E) (a b : Output) (x y : List ℕ) → x ≡ y → Puts r a b x →
    Puts r a b y
puts_same r a b x y same puts = rw (sym same) puts

-- a put after one that was whole
pub puts_then : {S : Type 0} {T : Type 0} {E : Type 0} {F : Type 0} (v : S) (r : Result T E) (a b c : Output)
    (x y : List ℕ) →
    Puts {T = S} {E = F} (Ok v) a b x → Puts r b c y → Puts r a c (x ++ y)
puts_then v (Ok u) a b c x y first second = record { ok = adds_then a b c x y first.ok second.ok; err = tt; some = tt }
puts_then v (Err e) a b c x y first second = record {
  ok = tt;
  err = adds_part_behind a b c x y first.ok second.err;
  some = some_behind x y second.some;
}

-- a put that fails before another
pub puts_first : {S : Type 0} {T : Type 0} {E : Type 0} {F : Type 0} (e : E) (f : F) (a b : Output) (x y : List ℕ) →
    Puts {T = S} {E = E} (Err e) a b x → Puts {T = T} {E = F} (Err f) a b (x ++ y)
puts_first e f a b x y first =
    record { ok = tt; err = adds_part_first a b x y first.err; some = some_first x y first.some }

-- a line that is put, which is not empty
pub puts_line : {T : Type 0} {E : Type 0} (r : Result T E) (a b : Output) (text : List ℕ) → text ≢ [] →
    OnOk r (Adds a b text) → OnErr r (AddsPart a b text) → Puts r a b text
puts_line (Ok v) a b text some ok err = record { ok = ok; err = err; some = tt }
puts_line (Err e) a b text some ok err = record { ok = ok; err = err; some = some }

-- ---- lines are not empty

pub bus_some : (s : TracedStep) → bus_line s ≢ []
unfolding bus_line
bus_some s e = cc

pub bus_fault_some : (romc : ℕ) (long : Bool) → bus_fault_line romc long ≢ []
unfolding bus_fault_line
bus_fault_some romc long e = cc

pub out_some : (w : PortWrite) → out_line w ≢ []
unfolding out_line
out_some w e = cc

pub frame_some : (frame phi tone : ℕ) → frame_line frame phi tone ≢ []
unfolding frame_line
frame_some frame phi tone e = cc

pub row_some : (y : ℕ) (writes : List PortWrite) → picture_row y writes ≢ []
unfolding picture_row
row_some y writes e = cc

-- ---- the loops: what is left to put

pub so_far_more : (a b c : Output) (all rest line left : List ℕ) → PutSoFar a b all rest → rest ≡ line ++ left →
    Adds b c line →
    PutSoFar a c all left
so_far_more a b c all rest line left so_far is adds = put_so_far_more a b c all line left (rw is at so_far) adds

pub so_far_all : {T : Type 0} {E : Type 0} (v : T) (a b : Output) (all rest : List ℕ) → PutSoFar a b all rest →
    rest ≡ [] →
    Puts {T = T} {E = E} (Ok v) a b all
so_far_all v a b all rest so_far none = record { ok = put_so_far_all a b all (rw none at so_far); err = tt; some = tt }

pub so_far_cut : {T : Type 0} {F : Type 0} (f : F) (a b c : Output) (all rest line left : List ℕ) →
    PutSoFar a b all rest →
    rest ≡ line ++ left → line ≢ [] → AddsPart b c line → Puts {T = T} {E = F} (Err f) a c all
so_far_cut f a b c all rest line left so_far is some part =
    let behind : PutSoFar a b all (line ++ left) = rw is at so_far in
    record {
      ok = tt;
      err = put_so_far_part a b c all line left behind part;
      some = rw behind.whole (some_behind behind.first (line ++ left) (some_first line left some));
    }

-- ---- told, or not told, as a detail has it

-- steps where they are not told
pub puts_untraced : {T : Type 0} {E : Type 0} (v : T) (a : Output) (detail : Detail) (told : List Told) →
    is_traced detail ≡ false →
    Puts {T = T} {E = E} (Ok v) a a (text_in detail (if is_traced detail then told else []))
puts_untraced v a detail told off = rw off (rw (text_in-nil detail) (puts_none v a))

pub puts_traced : {T : Type 0} {E : Type 0} (r : Result T E) (a b : Output) (detail : Detail) (told : List Told) →
    is_traced detail ≡ true → Puts r a b (text_told told) →
    Puts r a b (text_in detail (if is_traced detail then told else []))
puts_traced r a b detail told on puts =
    rw on (rw (told_if (is_told detail) (traced_told detail on) (text_told told)) puts)

pub puts_told : {T : Type 0} {E : Type 0} (r : Result T E) (a b : Output) (detail : Detail) (told : List Told) →
    is_told detail ≡ true → Puts r a b (text_told told) → Puts r a b (text_in detail told)
puts_told r a b detail told on puts = rw (told_if (is_told detail) on (text_told told)) puts

-- nothing to tell
pub puts_nothing : {T : Type 0} {E : Type 0} (v : T) (a : Output) (detail : Detail) →
    Puts {T = T} {E = E} (Ok v) a a (text_in detail [])
puts_nothing v a detail = rw (text_in-nil detail) (puts_none v a)
