-- What says more is safe where what says less is, and free of faults where that is.
use Rattle.std.proofs.Common.{◌≡◌, ℕ, ◌<◌, Bool, true, false, ◌&&◌, ◌||◌, List, [], ◌∷◌, ◌++◌, refl, sym, ◌∙◌, ◌⊎◌, inl, inr}
use Rattle.std.specs.Prelude.{Option, Some, None, not, is_none}
use Rattle.std.specs.List.{AllByRecursion, AllZip}
use Rattle.std.specs.Option.{ForSome}
use Rattle.f8_spec.specs.Instructions.{row_of, is_shielding}
use Rattle.f8_spec.specs.ChipState.{has_counters}
use Rattle.f8_spec.specs.BusArbitration.{Seat, seat_holds}
use Rattle.f8_spec.specs.declared.chips.ChipKind.{ChipKind}
use Rattle.f8_spec.specs.declared.chips.ChipKind.TheVariants.{Psu, Smi, Pio}
use Rattle.f8_spec.specs.declared.instructions.Op.{Op}
use Rattle.f8_spec.specs.declared.instructions.Row.{Row}
use Rattle.f8_spec.specs.declared.instructions.Row.TheVariants.{StackFromK, CallK, JumpQ}
use Rattle.console_spec.specs.FlatMemory.{sort_of}
use Rattle.console_spec.specs.declared.Sort.{Sort}
use Rattle.console_spec.specs.declared.Sort.TheVariants.{Rom, Ram, Void, Nothing, Shared}
use Rattle.abs_domain.specs.Lattice.{Below, FactBelow}
use Rattle.abs_domain.specs.AbstractState.{KnownRegisters, KnownCounters, AbstractState, RegistersBelow, StateBelow, CountersBelow}
use Rattle.abs_domain.specs.declared.points.Point.{Point}
use Rattle.abs_domain.proofs.Orders.{below_refl}
use Rattle.abs_domain.specs.declared.reason.Reason.{Reason}
use Rattle.abs_step.specs.Known.{is_known_false}
use Rattle.abs_step.specs.MapView.{MapView, IsViewOf, is_shared, holds_every_address}
use Rattle.abs_step.specs.Successors.{Invariant, inputs_at, state_after}
use Rattle.abs_step.specs.Safety.{first_reason, code_reasons, reasons, unsafe_reason, jump_is_lost, return_is_lost, op_at}
use Rattle.abs_step.specs.Safety.{reads_at_data, goes_by_data, may_be_held_by_psu, may_part, may_be_shared, vector_is_lost, writes_of}
use Rattle.abs_step.specs.Safety.{is_answered, is_op_fault_free, is_fault_free}
use Rattle.abs_step.proofs.Knowing.{all_and_any, below_word}
use Rattle.abs_step.proofs.Members.{SomeOf}
use Rattle.abs_step.proofs.Scratchpads.{WriteBelow, register_below}
use Rattle.abs_step.proofs.Effects.{writes_below, results_below}
use Rattle.abs_step.proofs.InputLaws.{InputsBelow, inputs_below, used_below}
use Rattle.abs_step.proofs.CounterLaws.{counters_below}
use Rattle.abs_step.proofs.Holders.{some_hold}
use Rattle.abs_step.proofs.MapLaws.{IsMapped, all_mapped_seats}
use Rattle.abs_step.proofs.SafeRows.{NoneHold}
use Rattle.abs_step.proofs.Reasons.{IsSafeState, safe_state}
use Rattle.abs_step.proofs.Answered.{held_everywhere}
use Rattle.abs_step.proofs.Blurs.{blurred_below}

-- ---- tests that fall: where the upper one fails the lower one does

abbrev Falls : Bool → Bool → Type 0
Falls lower upper = upper ≡ false → lower ≡ false

or_falls : (a b c d : Bool) → Falls a c → Falls b d → Falls (a || b) (c || d)
or_falls a b true d p q e = absurd (cc)
or_falls a b false d p q e = rw (p refl) (q e)

and_falls : (a b c d : Bool) → Falls a c → Falls b d → Falls (a && b) (c && d)
and_falls true b true d p q e = q e
and_falls true b false d p q e = absurd (cc (p refl))
and_falls false b c d p q e = refl

same_falls : (a : Bool) → Falls a a
same_falls a e = e

not_falls : (s t : Bool) → FactBelow s t → Falls (not s) (not t)
not_falls s true p e = rw p refl
not_falls s false p e = absurd (cc)

none_falls : (x y : Option ℕ) → Below x y → Falls (is_none x) (is_none y)
none_falls x None p e = absurd (cc)
none_falls x (Some y) p e = rw p refl

-- ---- the state after an instruction keeps the order

abbrev pub at_point : Point → AbstractState → Invariant
at_point p s = record { point = p; state = s }

module _ (m : MapView) (p : Point) (s t : AbstractState) (below : StateBelow s t) (op : Op) where
  pub inputs_ordered : InputsBelow (inputs_at op m (at_point p s)) (inputs_at op m (at_point p t))
  inputs_ordered = inputs_below op m.byte p.at p.ret p.ret s.counters.d0 t.counters.d0 s.registers t.registers (below_refl p.ret)
      below.counters.d0 below.registers

  pub after_ordered : StateBelow (state_after op m (at_point p s)) (state_after op m (at_point p t))
  after_ordered =
      let i = inputs_ordered in
      record {
        registers = results_below op _ _ _ _ _ _ s.registers t.registers
            (used_below (row_of op) (inputs_at op m (at_point p s)) (inputs_at op m (at_point p t)) i) i.stack_bytes i.counter_bytes
            below.registers;
        counters = counters_below (row_of op) (inputs_at op m (at_point p s)) (inputs_at op m (at_point p t)) s.counters t.counters i
            below.counters;
      }

  pub writes_ordered : AllZip WriteBelow (writes_of op m (at_point p s)) (writes_of op m (at_point p t))
  writes_ordered =
      let i = inputs_ordered in
      writes_below op _ _ _ _ s.registers t.registers i.stack_bytes i.counter_bytes below.registers

-- ---- reasons

jump_falls : (row : Row) (k l : KnownRegisters) → RegistersBelow k l → Falls (jump_is_lost row k) (jump_is_lost row l)
jump_falls CallK k l h = none_falls _ _ (below_word _ _ _ _ (register_below 12 k l h) (register_below 13 k l h))
jump_falls JumpQ k l h = none_falls _ _ (below_word _ _ _ _ (register_below 14 k l h) (register_below 15 k l h))
jump_falls row k l h = same_falls false

return_falls : (row : Row) (k l : KnownRegisters) → RegistersBelow k l → Falls (return_is_lost row k) (return_is_lost row l)
return_falls StackFromK k l h = none_falls _ _ (below_word _ _ _ _ (register_below 12 k l h) (register_below 13 k l h))
return_falls row k l h = same_falls false

held_falls : (m : MapView) (x y : Option ℕ) → Below x y → Falls (may_be_held_by_psu m x) (may_be_held_by_psu m y)
held_falls m x None p e = absurd (cc)
held_falls m x (Some y) p e = rw p e

part_falls : (row : Row) (m : MapView) (k l : KnownCounters) → CountersBelow k l → Falls (may_part row m k) (may_part row m l)
part_falls row m k l h = or_falls _ _ _ _
    (and_falls _ (not k.s0) _ (not l.s0) (same_falls (goes_by_data row && m.any Smi)) (not_falls k.s0 l.s0 h.s0))
    (and_falls _ (may_be_held_by_psu m k.c) _ (may_be_held_by_psu m l.c)
    (and_falls _ (not k.p0) _ (not l.p0) (same_falls (reads_at_data row && m.any Psu)) (not_falls k.p0 l.p0 h.p0))
    (held_falls m k.c l.c h.c))

is_the_shared : (sort : Sort) → is_shared sort ≡ true → sort ≡ Shared
is_the_shared Rom e = absurd (cc)
is_the_shared Ram e = absurd (cc)
is_the_shared Void e = absurd (cc)
is_the_shared Nothing e = absurd (cc)
is_the_shared Shared e = refl

shared_falls : (m : MapView) (seats : List Seat) (x y : Option ℕ) → IsViewOf m seats → ForSome x (λ at. at < 65536) → Below x y →
    Falls (may_be_shared m x) (may_be_shared m y)
shared_falls m seats x (Some y) view small p e = rw p e
shared_falls m seats None None view small p e = e
shared_falls m seats (Some at) None view small p e = by (is_shared (m.sort at)) refl
  where
    by : (b : Bool) → is_shared (m.sort at) ≡ b → b ≡ false
    by false h = refl
    by true h =
        let shared : sort_of seats at ≡ Shared = sym (view.sort at (small at refl)) ∙ is_the_shared (m.sort at) h in
        let overlap = view.overlaps at (small at refl) shared in
        absurd (cc)

open_falls : (shields : Bool) (x y : Option Bool) → Below x y → Falls (not (shields || is_known_false x)) (not (shields || is_known_false y))
open_falls true x y p e = refl
open_falls false x None p e = absurd (cc)
open_falls false x (Some y) p e = rw p e

vector_falls : (op : Op) (m : MapView) (x y : Option Bool) → Below x y → Falls (vector_is_lost op m x) (vector_is_lost op m y)
vector_falls op m x y p = and_falls _ m.written _ m.written (open_falls (is_shielding op) x y p) (same_falls m.written)

-- ---- safety

first_none : (rs : List (Bool × Reason)) → NoneHold rs → first_reason rs ≡ None
first_none [] h = refl
first_none (r ∷ rs) h = rw h.0 (first_none rs h.1)

none_both : (rs ss : List (Bool × Reason)) → NoneHold rs → NoneHold ss → NoneHold (rs ++ ss)
none_both [] ss p q = q
none_both (r ∷ rs) ss p q = (p.0, none_both rs ss p.1 q)

not_true : (b : Bool) → b ≡ true → not b ≡ false
not_true b e = rw e refl

pub safe_of : (m : MapView) (tracked : List ℕ) (x : Invariant) (op : Op) → IsSafeState m tracked x op → unsafe_reason m tracked x ≡ None
unfolding unsafe_reason reasons
safe_of m tracked x op h =
    let code : first_reason (code_reasons m x.point.at) ≡ None =
    first_none (code_reasons m x.point.at) (not_true _ h.code.once, (h.code.stays, tt)) in
    let later : first_reason (reasons op m tracked x) ≡ None = first_none _ (none_both _ _ h.operands h.later) in
    rw (code, h.is) later

pub safe_below : (m : MapView) (seats : List Seat) (tracked : List ℕ) (p : Point) (s t : AbstractState) (op : Op) → IsViewOf m seats →
    StateBelow s t →
    ForSome s.counters.d0 (λ at. at < 65536) → IsSafeState m tracked (at_point p t) op → IsSafeState m tracked (at_point p s) op
safe_below m seats tracked p s t op view h small safe =
    let l = safe.later in
    record {
      is = safe.is;
      code = record { once = safe.code.once; stays = safe.code.stays };
      operands = safe.operands;
      later = (
        jump_falls (row_of op) s.registers t.registers h.registers l.0,
        (
          return_falls (row_of op) s.registers t.registers h.registers l.1.0,
          (
            l.1.1.0,
            (
              part_falls (row_of op) m s.counters t.counters h.counters l.1.1.1.0,
              (
                l.1.1.1.1.0,
                (
                  l.1.1.1.1.1.0,
                  (
                    vector_falls op m _ _ (after_ordered m p s t h op).registers.status.icb l.1.1.1.1.1.1.0,
                    (
                      and_falls _ _ _ _ (same_falls (goes_by_data (row_of op)))
                          (shared_falls m seats s.counters.d0 t.counters.d0 view small h.counters.d0) l.1.1.1.1.1.1.1.0,
                      (
                        blurred_below _ _ tracked (writes_ordered m p s t h op) l.1.1.1.1.1.1.1.1.0,
                        tt,
                      ),
                    ),
                  ),
                ),
              ),
            ),
          ),
        ),
      );
    }

pub reason_below : (m : MapView) (seats : List Seat) (tracked : List ℕ) (p : Point) (s t : AbstractState) → IsViewOf m seats →
    StateBelow s t →
    ForSome s.counters.d0 (λ at. at < 65536) → unsafe_reason m tracked (at_point p t) ≡ None → unsafe_reason m tracked (at_point p s) ≡ None
reason_below m seats tracked p s t view h small none =
    let safe = safe_state m tracked (at_point p t) none in
    safe_of m tracked (at_point p s) safe.0 (safe_below m seats tracked p s t safe.0 view h small safe.1)

-- ---- free of faults

-- an address that is held is held by some kind of chip
held_by_kind : (m : MapView) (ss : List Seat) (at : ℕ) → at < 65536 → AllByRecursion (IsMapped m) ss →
    SomeOf (λ (s : Seat). seat_holds s at ≡ true) ss →
    (m.held at Smi ≡ true) ⊎ ((m.held at Psu ≡ true) × (m.any Psu ≡ true))
held_by_kind m [] at small mapped some = absurd some
held_by_kind m (s ∷ ss) at small mapped (inl holds) = by s.kind refl
  where
    by : (kind : ChipKind) → s.kind ≡ kind → (m.held at Smi ≡ true) ⊎ ((m.held at Psu ≡ true) × (m.any Psu ≡ true))
    by Smi is = let held : m.held at s.kind ≡ true = mapped.0.held at small holds in inl (rw is at held)
    by Psu is =
        let held : m.held at s.kind ≡ true = mapped.0.held at small holds in
        let any : m.any s.kind ≡ true = mapped.0.any at holds in
        inr (rw is at held, rw is at any)
    by Pio is = let has : has_counters s.kind ≡ true = mapped.0.counted at holds in absurd (cc (rw is at has))
held_by_kind m (s ∷ ss) at small mapped (inr later) = held_by_kind m ss at small mapped.1 later

some_every : (all any p0 q0 : Bool) → FactBelow p0 q0 → (all && (not any || q0)) ≡ true → (all && (not any || p0)) ≡ true
some_every true true p0 true p e = p
some_every true true p0 false p e = absurd (cc)
some_every true false p0 q0 p e = refl
some_every false any p0 q0 p e = absurd (cc)

some_kind : (smi psu p0 q0 : Bool) → FactBelow p0 q0 → (smi || (psu && q0)) ≡ true → (smi || (psu && p0)) ≡ true
some_kind true psu p0 q0 p e = refl
some_kind false true p0 true p e = p
some_kind false true p0 false p e = absurd (cc)
some_kind false false p0 q0 p e = absurd (cc)

either_kind : (smi psu p0 : Bool) → (smi ≡ true) ⊎ ((psu ≡ true) × (p0 ≡ true)) → (smi || (psu && p0)) ≡ true
either_kind true psu p0 h = refl
either_kind false psu p0 (inl e) = absurd (cc)
either_kind false psu p0 (inr both) = rw (both.0, both.1) refl

fact_of : (p0 q0 : Bool) → FactBelow p0 q0 → q0 ≡ true → p0 ≡ true
fact_of p0 true p e = p
fact_of p0 false p e = absurd (cc)

answered_below : (m : MapView) (seats : List Seat) (x y : Option ℕ) (p0 q0 : Bool) → IsViewOf m seats → ForSome x (λ at. at < 65536) →
    Below x y →
    FactBelow p0 q0 → is_answered m y q0 ≡ true → is_answered m x p0 ≡ true
answered_below m seats x (Some at) p0 q0 view small p fact e = rw p (some_kind (m.held at Smi) (m.held at Psu) p0 q0 fact e)
answered_below m seats None None p0 q0 view small p fact e = some_every (holds_every_address m) (m.any Psu) p0 q0 fact e
answered_below m seats (Some at) None p0 q0 view small p fact e =
    let every = all_and_any (holds_every_address m) (m.any Psu) q0 e in
    let held = held_everywhere m seats at view (small at refl) every.0 in
    let kind = held_by_kind m seats at (small at refl) (all_mapped_seats m seats view) (some_hold at seats held) in
    either_kind (m.held at Smi) (m.held at Psu) p0 (either kind (λ any. fact_of p0 q0 fact (every.1 any)))
  where
    either : (m.held at Smi ≡ true) ⊎ ((m.held at Psu ≡ true) × (m.any Psu ≡ true)) → (m.any Psu ≡ true → p0 ≡ true) →
        (m.held at Smi ≡ true) ⊎ ((m.held at Psu ≡ true) × (p0 ≡ true))
    either (inl smi) f = inl smi
    either (inr psu) f = inr (psu.0, f psu.1)

or_below : (reads a b : Bool) → (b ≡ true → a ≡ true) → (not reads || b) ≡ true → (not reads || a) ≡ true
or_below true a b f e = f e
or_below false a b f e = refl

pub free_below : (m : MapView) (seats : List Seat) (p : Point) (s t : AbstractState) → IsViewOf m seats → StateBelow s t →
    ForSome s.counters.d0 (λ at. at < 65536) → is_fault_free m (at_point p t) ≡ true → is_fault_free m (at_point p s) ≡ true
unfolding is_fault_free
free_below m seats p s t view h small free = by (op_at m (at_point p t)) free
  where
    by : (o : Option Op) → is_op_fault_free o m t.counters ≡ true → is_op_fault_free o m s.counters ≡ true
    by None e = refl
    by (Some op) e = or_below (reads_at_data (row_of op)) _ _
        (answered_below m seats s.counters.d0 t.counters.d0 s.counters.p0 t.counters.p0 view small h.counters.d0 h.counters.p0) e
