-- Along the bus steps of an instruction the byte that a port gives is the flat machine's, and the writes become the flat machine's.
use Rattle.std.proofs.Common.{◌≡◌, ℕ, Bool, true, false, List, [], ◌∷◌, ◌++◌, Option, None, refl, ap, ◌∙◌}
use Rattle.std.specs.Prelude.{◌==◌, nat_lt, if◌then◌else◌}
use Rattle.std.specs.List.{list_all}
use Rattle.f8_spec.specs.BusCodes.{driver_of}
use Rattle.f8_spec.specs.BusArbitration.{Seat}
use Rattle.f8_spec.specs.Instructions.{row_of}
use Rattle.f8_spec.specs.MicroSteps.{Step}
use Rattle.f8_spec.specs.declared.bus.Driver.{Driver}
use Rattle.f8_spec.specs.declared.bus.Driver.TheVariants.{Port}
use Rattle.f8_spec.specs.declared.instructions.Op.{Op}
use Rattle.f8_spec.specs.declared.instructions.Op.TheVariants.{In, Ins, Outs}
use Rattle.f8_spec.specs.declared.instructions.Row.{Row}
use Rattle.f8_spec.specs.declared.instructions.Row.TheVariants.{Idle, PortIn, PortOut, ShortIn, ShortOut}
use Rattle.console_spec.specs.FlatMachine.{FlatState, gets_all}
use Rattle.console_spec.specs.Processor.{Inputs, byte_of, if_taken, write_at, with_write, own_inputs}
use Rattle.console_spec.specs.Writes.{chip_port_byte}
use Rattle.console_spec.specs.declared.PortWrite.{PortWrite}
use Rattle.f8_machine.proofs.Places.{last_along}
use Rattle.f8_machine.proofs.StepTests.{both_true, is_port, is_portless, writes_no_port, reads_no_port}

-- ---- the writes along the steps

-- a port write is one of the run where one chip has the port
abbrev pub writes_by : ℕ → List Seat → ℕ → ℕ → ℕ → List PortWrite → List PortWrite
writes_by romc seats phi port byte writes =
    if romc == 0x1A then with_write (write_at phi byte (if_taken port seats)) writes else writes

-- the byte of the step before it names the port
abbrev pub writes_along : List Seat → ℕ → Inputs → List Step → ℕ → List PortWrite → List PortWrite
writes_along seats phi i [] last writes = writes
writes_along seats phi i (s ∷ later) last writes =
    writes_along seats phi i later (byte_of i s.source) (writes_by s.romc seats phi last (byte_of i s.source) writes)

pub writes_along-append : (seats : List Seat) (phi : ℕ) (i : Inputs) (first later : List Step) (last : ℕ)
    (writes : List PortWrite) →
    writes_along seats phi i (first ++ later) last writes
    ≡ writes_along seats phi i later (last_along i first last) (writes_along seats phi i first last writes)
writes_along-append seats phi i [] later last writes = refl
writes_along-append seats phi i (s ∷ first) later last writes = writes_along-append seats phi i first later _ _

-- the port that the steps of a row write
abbrev pub bus_port : Row → Inputs → List Seat → Option ℕ
bus_port PortOut i seats = if_taken i.operand seats
bus_port ShortOut i seats = if_taken i.port seats
bus_port row i seats = None

-- where no step writes a port
pub writes_stay : (seats : List Seat) (phi : ℕ) (i : Inputs) (steps : List Step) (last : ℕ) (writes : List PortWrite) →
    list_all is_portless steps ≡ true → writes_along seats phi i steps last writes ≡ writes
writes_stay seats phi i [] last writes all = refl
writes_stay seats phi i (s ∷ later) last writes all =
    let both = both_true (is_portless s) (list_all is_portless later) all in
    let taken = with_write (write_at phi (byte_of i s.source) (if_taken last seats)) writes in
    ap (λ (b : Bool). writes_along seats phi i later (byte_of i s.source) (if b then taken else writes))
    (writes_no_port s both.0)
    ∙ writes_stay seats phi i later (byte_of i s.source) writes both.1

-- ---- the bytes along the steps

-- what the byte of a step has to be where a port drives it
abbrev pub PortIs : Driver → List Seat → List ℕ → List PortWrite → ℕ → ℕ → Type 0
PortIs Port seats keys writes port value = value ≡ chip_port_byte port seats keys writes
PortIs driver seats keys writes port value = Unit {0}

abbrev pub PortValues : List Seat → List ℕ → ℕ → Inputs → List Step → ℕ → List PortWrite → Type 0
PortValues seats keys phi i [] last writes = Unit {0}
PortValues seats keys phi i (s ∷ later) last writes =
    PortIs (driver_of s.romc) seats keys writes last (byte_of i s.source)
    × PortValues seats keys phi i later (byte_of i s.source)
    (writes_by s.romc seats phi last (byte_of i s.source) writes)

pub PortValues-append : (seats : List Seat) (keys : List ℕ) (phi : ℕ) (i : Inputs) (first later : List Step)
    (last : ℕ) (writes : List PortWrite) →
    PortValues seats keys phi i first last writes →
    PortValues seats keys phi i later (last_along i first last) (writes_along seats phi i first last writes) →
    PortValues seats keys phi i (first ++ later) last writes
PortValues-append seats keys phi i [] later last writes front back = back
PortValues-append seats keys phi i (s ∷ first) later last writes front back =
    (front.0, PortValues-append seats keys phi i first later _ _ front.1 back)

-- what an instruction gets from a chip's port
abbrev pub FromPort : Row → Inputs → List Seat → List ℕ → List PortWrite → Type 0
FromPort PortIn i seats keys writes = i.port_byte ≡ chip_port_byte i.operand seats keys writes
FromPort ShortIn i seats keys writes = i.port_byte ≡ chip_port_byte i.port seats keys writes
FromPort row i seats keys writes = Unit {0}

-- where no step reads a port
port_is : (driver : Driver) (seats : List Seat) (keys : List ℕ) (writes : List PortWrite) (port value : ℕ) →
    is_port driver ≡ false → PortIs driver seats keys writes port value
port_is Port seats keys writes port value is = cc
port_is driver seats keys writes port value is = tt

pub no_port_values : (seats : List Seat) (keys : List ℕ) (phi : ℕ) (i : Inputs) (steps : List Step) (last : ℕ)
    (writes : List PortWrite) →
    list_all is_portless steps ≡ true → PortValues seats keys phi i steps last writes
no_port_values seats keys phi i [] last writes all = tt
no_port_values seats keys phi i (s ∷ later) last writes all =
    let both = both_true (is_portless s) (list_all is_portless later) all in (
      port_is (driver_of s.romc) seats keys writes last _ (reads_no_port s both.0),
      no_port_values seats keys phi i later _ _ both.1,
    )

-- `INS`, of a port of the CPU's own or of a chip's
from_short : (own : Bool) (n : ℕ) (i : Inputs) (seats : List Seat) (keys : List ℕ) (writes : List PortWrite)
    (value : ℕ) →
    i.port ≡ n → i.port_byte ≡ (if own then value else chip_port_byte n seats keys writes) →
    FromPort (if own then Idle else ShortIn) i seats keys writes
from_short true n i seats keys writes value port byte = tt
from_short false n i seats keys writes value port byte = rw port byte

out_short : (own : Bool) (i : Inputs) (seats : List Seat) (keys : List ℕ) (writes : List PortWrite) →
    FromPort (if own then Idle else ShortOut) i seats keys writes
out_short true i seats keys writes = tt
out_short false i seats keys writes = tt

from_short_port : (n : ℕ) (seats : List Seat) (chain : List ℕ) (f : FlatState) →
    FromPort (row_of (Ins n)) (gets_all (Ins n) seats chain f) seats f.state.keys f.state.writes
unfolding own_inputs
from_short_port n seats chain f = from_short (nat_lt n 2) n
    (gets_all (Ins n) seats chain f) seats f.state.keys f.state.writes _ refl refl

-- the flat machine's own inputs
pub from_port : (op : Op) (seats : List Seat) (chain : List ℕ) (f : FlatState) →
    FromPort (row_of op) (gets_all op seats chain f) seats f.state.keys f.state.writes
unfolding own_inputs
from_port In seats chain f = refl
from_port (Ins n) seats chain f = from_short_port n seats chain f
from_port (Outs n) seats chain f =
    out_short (nat_lt n 2) (gets_all (Outs n) seats chain f) seats f.state.keys f.state.writes
from_port op seats chain f = tt
