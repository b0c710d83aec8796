-- The chips of a kind, and what sits in the sockets of a rack.
use Rattle.std.proofs.Common.{◌≡◌, ℕ, zero, suc, ◌+◌, ◌<◌, inl, inr, arith, List, [], ◌∷◌, ◌++◌, map, length}
use Rattle.std.proofs.Common.{get_or, take, drop, add-one, refl, sym, ap, ◌∙◌, subst}
use Rattle.std.specs.Prelude.{Option, Some, slice_get}
use Rattle.std.proofs.Math.ListN.{set, length-set}
use Rattle.std.proofs.Math.Seq.{drop-nil, map-set_same}
use Rattle.chip_face.specs.Fitting.{FitsAs, IsSpec, fitted}
use Rattle.chip_face.specs.declared.specification.ChipSpec.{ChipSpec}
use Rattle.chip_face.specs.declared.specification.ChipSpec.TheVariants.{Blank, Psu as PsuSpec, Smi as SmiSpec, Pio as PioSpec}
use Rattle.cpu3850.specs.OwnWrites.{LeaveOwnPorts}
use Rattle.f8_machine.proofs.OwnPorts.{leave_own_ports}
use Rattle.f8_spec.specs.BusArbitration.{seat_of}
use Rattle.data_bus.specs.Racks.{NumberedZip, views}
use Rattle.data_bus.proofs.Racks.{ChangedBelow, whole_again}
use Rattle.std.proofs.lemmas.List.{length-map}
use Rattle.f8_spec.specs.ChipState.{ChipView, ChipState, IsWhole}
use Rattle.f8_spec.specs.declared.chips.ChipKind.{ChipKind}
use Rattle.f8_machine.specs.Refinement.{AreWhole}
use Rattle.rack_run.specs.Seating.{LeavesOwn, seat_at, no_sockets, counted, seated_from, seated, kinds_of, fitted_as, fitted_views}
use Rattle.rack_run.specs.Seating.{FitsWhole, RackFitsInPart}
use Rattle.rack_run.proofs.CountedKinds.{seated_alike}

first_of : {A : Type 0} (xs ys : List A) (i : ℕ) (x : A) → drop i xs ≡ x ∷ ys → slice_get xs i ≡ Some x
first_of [] ys i x e = let none : [] ≡ x ∷ ys = sym (drop-nil i) ∙ e in cc
first_of (z ∷ xs) ys zero x e = cc
first_of (z ∷ xs) ys (suc i) x e = first_of xs ys i x e

rest_of : {A : Type 0} (xs ys : List A) (i : ℕ) (x : A) → drop i xs ≡ x ∷ ys → drop (suc i) xs ≡ ys
rest_of [] ys i x e = let none : [] ≡ x ∷ ys = sym (drop-nil i) ∙ e in cc
rest_of (z ∷ xs) ys zero x e = cc
rest_of (z ∷ xs) ys (suc i) x e = rest_of xs ys i x e

-- so far the sockets are counted by their kinds
pub record Counted (chips : List ChipSpec) (specs : List ChipSpec) (kinds : List ChipKind)
    (i : ℕ) (before : ChipKind → ℕ) : Type 0 where
  pub left : seated_from chips before (drop i kinds) ≡ drop i specs

pub counted_here : (chips specs : List ChipSpec) (kinds : List ChipKind) (i : ℕ) (before : ChipKind → ℕ) (kind : ChipKind)
    (later : List ChipKind) →
    drop i kinds ≡ kind ∷ later →
    Counted chips specs kinds i before → slice_get specs i ≡ Some (seat_at chips kind (before kind))
counted_here chips specs kinds i before kind later e counted =
    first_of specs _ i _ (sym counted.left ∙ ap (seated_from chips before) e)

pub counted_more : (chips specs : List ChipSpec) (kinds : List ChipKind) (i : ℕ) (before after : ChipKind → ℕ) (kind : ChipKind)
    (later : List ChipKind) →
    drop i kinds ≡ kind ∷ later →
    Counted chips specs kinds i before → ((k : ChipKind) → after k ≡ counted kind before k) →
    Counted chips specs kinds (suc i) after
counted_more chips specs kinds i before after kind later e so_far same = record {
  left = seated_alike chips (counted kind before) after (drop (suc i) kinds) same
      ∙ ap (seated_from chips (counted kind before)) (rest_of kinds later i kind e)
      ∙ sym (rest_of specs _ i _ (sym so_far.left ∙ ap (seated_from chips before) e));
}

-- the kinds from a socket on
pub kinds_from : (states : List ChipState) (i : ℕ) (s : ChipState) → slice_get states i ≡ Some s →
    drop i (kinds_of states) ≡ s.view.kind ∷ drop (suc i) (kinds_of states)
kinds_from [] i s lies = cc
kinds_from (t ∷ states) zero s lies =
    let same : t ≡ s = cc in ap (λ (u : ChipState). u.view.kind ∷ kinds_of states) same
kinds_from (t ∷ states) (suc i) s lies = kinds_from states i s lies

-- every chip of a rack that is fitted is whole
whole_from : (specs : List ChipSpec) (n : ℕ) (olds news : List ChipState) → NumberedZip (FitsWhole specs) n olds news →
    AreWhole news
whole_from specs n [] [] all place s lies = cc
whole_from specs n [] (y ∷ news) all place s lies = absurd all
whole_from specs n (x ∷ olds) [] all place s lies = absurd all
whole_from specs n (x ∷ olds) (y ∷ news) all zero s lies =
    let same : y ≡ s = cc in subst (λ (u : ChipState). IsWhole u.view) same all.0.whole
whole_from specs n (x ∷ olds) (y ∷ news) all (suc place) s lies = whole_from specs (n + 1) olds news all.1 place s lies

pub all_whole : (specs : List ChipSpec) (olds news : List ChipState) → NumberedZip (FitsWhole specs) 0 olds news →
    AreWhole news
all_whole specs olds news all = whole_from specs 0 olds news all

-- a chip that is fitted as what sits in the next socket
pub fits_seated : (specs : List ChipSpec) (socket : ℕ) (seat : ChipSpec) (old new : ChipState) →
    slice_get specs socket ≡ Some seat →
    FitsAs seat old new → IsWhole new.view → LeavesOwn new.view →
    FitsWhole specs socket old new
fits_seated specs socket seat old new is fits whole ports = record {
  fits =
      λ spec lies. let same : Some seat ≡ Some spec = sym is
      ∙ lies in let seats : seat ≡ spec = cc in subst (λ (c : ChipSpec). FitsAs c old new) seats fits;
  whole = whole;
  ports = ports;
}

-- a chip that is fitted leaves the processor its own ports
fitted_leaves : (patch : Option (ℕ × ℕ)) (spec : ChipSpec) → IsSpec spec → LeavesOwn (fitted patch spec)
fitted_leaves patch (Blank kind) is first e = cc
fitted_leaves patch (PsuSpec base rom ports vector wired) is first e =
    let same : ports ≡ first = cc in omega (arith, is.four_ports.above_cpu, same)
fitted_leaves patch (SmiSpec pages rom wired) is first e = let same : 12 ≡ first = cc in omega (arith, same)
fitted_leaves patch (PioSpec ports vector wired) is first e =
    let same : ports ≡ first = cc in omega (arith, is.above_cpu, same)

pub leaves_own : (spec : ChipSpec) (old new : ChipState) → IsSpec spec → FitsAs spec old new → LeavesOwn new.view
leaves_own spec old new is fits first e =
    fitted_leaves old.patch spec is first (ap (λ (v : ChipView). v.ports) (sym fits.view) ∙ e)

ports_from : (specs : List ChipSpec) (n : ℕ) (olds news : List ChipState) → NumberedZip (FitsWhole specs) n olds news →
    (place : ℕ) (s : ChipState) → slice_get news place ≡ Some s → LeavesOwn s.view
ports_from specs n [] [] all place s lies = cc
ports_from specs n [] (y ∷ news) all place s lies = absurd all
ports_from specs n (x ∷ olds) [] all place s lies = absurd all
ports_from specs n (x ∷ olds) (y ∷ news) all zero s lies =
    let same : y ≡ s = cc in subst (λ (u : ChipState). LeavesOwn u.view) same all.0.ports
ports_from specs n (x ∷ olds) (y ∷ news) all (suc place) s lies = ports_from specs (n + 1) olds news all.1 place s lies

pub all_leave : (specs : List ChipSpec) (olds news : List ChipState) → NumberedZip (FitsWhole specs) 0 olds news →
    LeaveOwnPorts (map seat_of (views news))
all_leave specs olds news all = leave_own_ports news (ports_from specs 0 olds news all)

-- ---- the views of a rack that is fitted

pub seated_length : (chips : List ChipSpec) (before : ChipKind → ℕ) (kinds : List ChipKind) →
    length (seated_from chips before kinds) ≡ length kinds
seated_length chips before [] = refl
seated_length chips before (kind ∷ kinds) = ap suc (seated_length chips (counted kind before) kinds)

views_from : (specs : List ChipSpec) (n : ℕ) (rest : List ChipSpec) (olds news : List ChipState) → drop n specs ≡ rest →
    length rest ≡ length olds → NumberedZip (FitsWhole specs) n olds news →
    views news ≡ fitted_as olds rest
views_from specs n rest [] [] lies long all = refl
views_from specs n rest [] (y ∷ news) lies long all = absurd all
views_from specs n rest (x ∷ olds) [] lies long all = absurd all
views_from specs n [] (x ∷ olds) (y ∷ news) lies long all = cc
views_from specs n (spec ∷ rest) (x ∷ olds) (y ∷ news) lies long all =
    let here : y.view ≡ fitted x.patch spec = (all.0.fits spec (first_of specs rest n spec lies)).view in
    let later : views news ≡ fitted_as olds rest =
    views_from specs (n + 1) rest olds news (rw add-one (rest_of specs rest n spec lies)) (omega (arith, long)) all.1 in
    ap (λ (v : ChipView). v ∷ views news) here ∙ ap (λ (vs : List ChipView). fitted x.patch spec ∷ vs) later

-- a rack that is fitted has the views that the description and the chips' own patches give
pub views_fitted : (chips : List ChipSpec) (olds news : List ChipState) →
    NumberedZip (FitsWhole (seated chips olds)) 0 olds news →
    views news ≡ fitted_views chips olds
views_fitted chips olds news all =
    views_from (seated chips olds) 0 (seated chips olds) olds news refl
    (seated_length chips no_sockets (kinds_of olds) ∙ length-map olds (λ (s : ChipState). s.view.kind)) all

-- ---- a rack that is fitted in part

-- a rack in which nothing was fitted
pub stays_in_part : (specs : List ChipSpec) (states : List ChipState) → RackFitsInPart specs states states
stays_in_part specs states = record { place = 0; there = inl refl; done = tt; left = refl }

-- a rack that is written back, whose chips were fitted up to one that was left as it was
pub partly_written : {X : Type 0} (V : X → ChipState) (specs : List ChipSpec) (xs ys : List X) (n i : ℕ) (x y : X) →
    length xs ≡ n → length ys ≡ length xs → i < length xs →
    ChangedBelow (FitsWhole specs) i (map V xs) (map V ys) → V y ≡ V (get_or ys i x) →
    RackFitsInPart specs (map V xs) (map V (take n (set ys i y ++ drop (length (set ys i y)) xs)))
partly_written V specs xs ys n i x y count long within changed same =
    let longer : length (set ys i y) ≡ length xs = length-set ys i y ∙ long in
    let there : i < length (map V xs) = omega (arith, length-map xs V, within) in
    rw (whole_again n xs (set ys i y) count longer, map-set_same V ys i y x same)
    (record {
      place = i;
      there = inr there;
      done = changed.done;
      left = changed.left;
    })
