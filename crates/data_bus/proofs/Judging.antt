-- What one pass over the chips gathers is what the bus rule reads of them.
use Rattle.std.proofs.Common.{◌≡◌, ℕ, ◌+◌, ◌<◌, Bool, true, false, not, ◌&&◌, List, [], ◌∷◌, ◌++◌, map, refl, sym, ap, ◌∙◌, append_assoc}
use Rattle.std.proofs.Common.{append-nil}
use Rattle.std.specs.Prelude.{Option, Some, None, filter_map}
use Rattle.std.specs.List.{cons_option, enumerate_from}
use Rattle.f8_spec.specs.BusCodes.{driver_of}
use Rattle.f8_spec.specs.ChipState.{ChipView, ChipState, offered}
use Rattle.f8_spec.specs.BusArbitration.{is_first, party_if, party_of, bystander_of, parties, bystanders, lowest}
use Rattle.f8_spec.specs.BusArbitration.{judged, rule_of, offer_of, offers, only_byte, byte_by, named_placed}
use Rattle.f8_spec.specs.BusArbitration.{view_ruling, bus_byte}
use Rattle.f8_spec.specs.declared.bus.BusRule.{BusRule}
use Rattle.f8_spec.specs.declared.bus.BusRule.TheVariants.{Read, Store, PortRead, PortWrite, Vector, NoChip}
use Rattle.f8_spec.specs.declared.bus.Party.{Party}
use Rattle.f8_spec.specs.declared.chips.Offer.{Offer}
use Rattle.data_bus.specs.declared.ask.Answer.{Answer}
use Rattle.data_bus.specs.declared.ask.Answer.TheVariants.{TakesPart, StandsBy, Passes}
use Rattle.data_bus.specs.declared.poll.Poll.{Poll}
use Rattle.data_bus.specs.declared.cycle.Cycle.{Cycle}
use Rattle.data_bus.specs.Racks.{views, named_views}
use Rattle.data_bus.specs.Steps.{answered, poll_answer}
use Rattle.data_bus.specs.Polling.{answer_by, answer_of, no_poll, counted, polled}
use Rattle.data_bus.proofs.CodeFacts.{place_if, place_of_offer, FactsBy, CodeFacts, code_facts}

-- ---- what an answer holds

abbrev pub party_in : ℕ → Answer → Option Party
party_in n (TakesPart o) = Some (record { socket = n; at = o.at })
party_in n (StandsBy at) = None
party_in n Passes = None

abbrev pub bystander_in : ℕ → Answer → Option Party
bystander_in n (TakesPart o) = None
bystander_in n (StandsBy at) = Some (record { socket = n; at = at })
bystander_in n Passes = None

abbrev pub offer_in : Answer → Option Offer
offer_in (TakesPart o) = Some o
offer_in (StandsBy at) = None
offer_in Passes = None

-- the party of an answer, where the chip offers at its own place or not at all
party_in-answer_by : (n at told : ℕ) (o : Option Offer) (there test : Bool) → place_of_offer o ≡ place_if test at →
    party_in n (answer_by o there told) ≡ party_if test n at
party_in-answer_by n at told None true true e = cc
party_in-answer_by n at told None false true e = cc
party_in-answer_by n at told None true false e = refl
party_in-answer_by n at told None false false e = refl
party_in-answer_by n at told (Some o) there true e = let same : o.at ≡ at = cc in ap (λ a. party_if true n a) same
party_in-answer_by n at told (Some o) there false e = cc

-- the bystander of an answer
bystander_in-answer_by : (n at told : ℕ) (o : Option Offer) (there test : Bool) → place_of_offer o ≡ place_if test at → told ≡ at →
    bystander_in n (answer_by o there told) ≡ party_if (not test && there) n at
bystander_in-answer_by n at told None there true e t = cc
bystander_in-answer_by n at told None true false e t = ap (λ a. party_if true n a) t
bystander_in-answer_by n at told None false false e t = refl
bystander_in-answer_by n at told (Some o) there true e t = refl
bystander_in-answer_by n at told (Some o) there false e t = cc

-- where no chip stands by
bystander_in-none : (n at told : ℕ) (o : Option Offer) (test : Bool) → bystander_in n (answer_by o false told) ≡ party_if (not test && false) n at
bystander_in-none n at told None true = refl
bystander_in-none n at told None false = refl
bystander_in-none n at told (Some o) true = refl
bystander_in-none n at told (Some o) false = refl

-- the offer of an answer
offer_in-answer_by : (o : Option Offer) (there : Bool) (told : ℕ) → offer_in (answer_by o there told) ≡ o
offer_in-answer_by None true told = refl
offer_in-answer_by None false told = refl
offer_in-answer_by (Some o) there told = refl

-- ---- what the poll holds

module _ (rule : BusRule) (romc reference : ℕ) (first : Option ℕ) where
  -- the answer of a chip in a socket
  abbrev answer_at : ℕ × ChipView → Answer
  answer_at x = answer_of rule romc reference (is_first first x.0) x.1

  -- the parties
  polled-parties : (f : ℕ × ChipView → Option Party) → ((x : ℕ × ChipView) → party_in x.0 (answer_at x) ≡ f x) → (n : ℕ) (vs : List ChipView) (poll : Poll) →
      (polled rule romc reference first n vs poll).parties ≡ poll.parties ++ filter_map f (enumerate_from n vs)
  polled-parties f says n [] poll = sym (append-nil poll.parties)
  polled-parties f says n (v ∷ vs) poll =
      polled-parties f says (n + 1) vs (counted n (answer_at (n, v)) poll)
      ∙ rw (← says (n, v)) (one (answer_at (n, v)) (filter_map f (enumerate_from (n + 1) vs)))
    where
      one : (a : Answer) (rest : List Party) → (counted n a poll).parties ++ rest ≡ poll.parties ++ cons_option (party_in n a) rest
      one (TakesPart o) rest = append_assoc poll.parties (record { socket = n; at = o.at } ∷ []) rest
      one (StandsBy at) rest = refl
      one Passes rest = refl

  -- the first of some, or of what follows them
  abbrev or_lowest : Option Party → List Party → Option Party
  or_lowest None qs = lowest qs
  or_lowest (Some q) qs = Some q

  -- the lowest that stands by
  polled-bystander : (f : ℕ × ChipView → Option Party) → ((x : ℕ × ChipView) → bystander_in x.0 (answer_at x) ≡ f x) →
      (n : ℕ) (vs : List ChipView) (poll : Poll) →
      (polled rule romc reference first n vs poll).bystander ≡ or_lowest poll.bystander (filter_map f (enumerate_from n vs))
  polled-bystander f says n [] poll = none poll.bystander
    where
      none : (o : Option Party) → o ≡ or_lowest o []
      none None = refl
      none (Some q) = refl
  polled-bystander f says n (v ∷ vs) poll =
      polled-bystander f says (n + 1) vs (counted n (answer_at (n, v)) poll)
      ∙ rw (← says (n, v)) (one (answer_at (n, v)) poll.bystander (filter_map f (enumerate_from (n + 1) vs)))
    where
      one : (a : Answer) (o : Option Party) (rest : List Party) →
          or_lowest (counted n a (record poll { bystander = o })).bystander rest ≡ or_lowest o (cons_option (bystander_in n a) rest)
      one (TakesPart offer) o rest = refl
      one (StandsBy at) None rest = refl
      one (StandsBy at) (Some q) rest = refl
      one Passes o rest = refl

  -- the byte after some parties and what the later chips offer
  abbrev byte_after : List Party → ℕ → List Offer → ℕ
  byte_after ps byte [] = byte
  byte_after [] byte (o ∷ []) = o.byte
  byte_after [] byte (o ∷ (p ∷ os)) = 0
  byte_after (q ∷ qs) byte (o ∷ os) = 0

  -- the byte
  polled-byte : (f : ℕ × ChipView → Option Offer) → ((x : ℕ × ChipView) → offer_in (answer_at x) ≡ f x) → (n : ℕ) (vs : List ChipView) (poll : Poll) →
      (polled rule romc reference first n vs poll).byte ≡ byte_after poll.parties poll.byte (filter_map f (enumerate_from n vs))
  polled-byte f says n [] poll = none poll.parties
    where
      none : (ps : List Party) → poll.byte ≡ byte_after ps poll.byte []
      none [] = refl
      none (p ∷ ps) = refl
  polled-byte f says n (v ∷ vs) poll =
      polled-byte f says (n + 1) vs (counted n (answer_at (n, v)) poll)
      ∙ rw (← says (n, v)) (one (answer_at (n, v)) poll.parties poll.byte
      (filter_map f (enumerate_from (n + 1) vs)))
    where
      one : (a : Answer) (ps : List Party) (byte : ℕ) (rest : List Offer) → let next = counted n a (record poll { parties = ps; byte = byte }) in
          byte_after next.parties next.byte rest ≡ byte_after ps byte (cons_option (offer_in a) rest)
      one (TakesPart o) [] byte [] = refl
      one (TakesPart o) [] byte (p ∷ rest) = refl
      one (TakesPart o) (q ∷ ps) byte [] = refl
      one (TakesPart o) (q ∷ ps) byte (p ∷ rest) = refl
      one (StandsBy at) ps byte rest = refl
      one Passes ps byte rest = refl

  -- mapped first
  of_mapped : {X Y Z : Type 0} (h : Y → Option Z) (f : X → Y) (xs : List X) → filter_map h (map f xs) ≡ filter_map (λ x. h (f x)) xs
  of_mapped h f [] = refl
  of_mapped h f (x ∷ xs) = ap (cons_option (h (f x))) (of_mapped h f xs)

  -- a ruling reads of the whole poll what it reads of the chips
  judged-polled : ((x : ℕ × ChipView) → party_in x.0 (answer_at x) ≡ party_of rule (named_placed romc x)) →
      ((x : ℕ × ChipView) → bystander_in x.0 (answer_at x) ≡ bystander_of rule reference (named_placed romc x)) → (vs : List ChipView) →
      judged rule first reference (polled rule romc reference first 0 vs no_poll).parties (polled rule romc reference first 0 vs no_poll).bystander
      ≡ judged rule first reference (parties rule (map (named_placed romc) (enumerate_from 0 vs)))
      (lowest (bystanders rule reference (map (named_placed romc) (enumerate_from 0 vs))))
  judged-polled takes stands vs =
      let all_parties : (polled rule romc reference first 0 vs no_poll).parties ≡ parties rule (map (named_placed romc) (enumerate_from 0 vs)) =
      polled-parties (λ x. party_of rule (named_placed romc x)) takes 0 vs no_poll
      ∙ sym (of_mapped (party_of rule) (named_placed romc) (enumerate_from 0 vs)) in
      let the_lowest : (polled rule romc reference first 0 vs no_poll).bystander
      ≡ lowest (bystanders rule reference (map (named_placed romc) (enumerate_from 0 vs))) =
      polled-bystander (λ x. bystander_of rule reference (named_placed romc x)) stands 0 vs no_poll
      ∙ ap lowest (sym (of_mapped (bystander_of rule reference) (named_placed romc) (enumerate_from 0 vs))) in
      rw (all_parties, the_lowest) refl

  -- the byte of the whole poll
  byte-polled : ((x : ℕ × ChipView) → offer_in (answer_at x) ≡ offer_of romc first x) → (vs : List ChipView) →
      (polled rule romc reference first 0 vs no_poll).byte ≡ only_byte (offers romc first (enumerate_from 0 vs))
  byte-polled says vs = polled-byte (offer_of romc first) says 0 vs no_poll ∙ only (offers romc first (enumerate_from 0 vs))
    where
      only : (os : List Offer) → byte_after [] 0 os ≡ only_byte os
      only [] = refl
      only (o ∷ []) = refl
      only (o ∷ (p ∷ os)) = refl

-- ---- by the rule of the code

-- what a chip's answer offers
offers-said : (rule : BusRule) (romc reference : ℕ) (mark : Bool) (v : ChipView) → ((m : Bool) → FactsBy rule romc m v) →
    offer_in (answer_of rule romc reference mark v) ≡ offered romc mark v
offers-said Read romc reference mark v facts = offer_in-answer_by (offered romc mark v) _ _
offers-said Store romc reference mark v facts = offer_in-answer_by (offered romc mark v) _ _
offers-said PortRead romc reference mark v facts = offer_in-answer_by (offered romc mark v) _ _
offers-said PortWrite romc reference mark v facts = offer_in-answer_by (offered romc mark v) _ _
offers-said Vector romc reference true v facts = offer_in-answer_by (offered romc true v) _ _
offers-said Vector romc reference false v facts = sym (facts false)
offers-said NoChip romc reference mark v facts = sym (facts mark)

-- the ruling on the poll
ruling-polled : (rule : BusRule) (romc reference : ℕ) (first : Option ℕ) → ((m : Bool) (v : ChipView) → FactsBy rule romc m v) → (vs : List ChipView) →
    judged rule first reference (polled rule romc reference first 0 vs no_poll).parties (polled rule romc reference first 0 vs no_poll).bystander
    ≡ judged rule first reference (parties rule (map (named_placed romc) (enumerate_from 0 vs)))
    (lowest (bystanders rule reference (map (named_placed romc) (enumerate_from 0 vs))))
ruling-polled Read romc reference first facts vs = judged-polled Read romc reference first
    (λ x. party_in-answer_by x.0 _ _ (offered romc (is_first first x.0) x.1) _ _ (facts (is_first first x.0) x.1).offers)
    (λ x. bystander_in-answer_by x.0 _ _ (offered romc (is_first first x.0) x.1) _ _
    (facts (is_first first x.0) x.1).offers (facts (is_first first x.0) x.1).tells) vs
ruling-polled Store romc reference first facts vs = judged-polled Store romc reference first
    (λ x. party_in-answer_by x.0 _ _ (offered romc (is_first first x.0) x.1) _ _ (facts (is_first first x.0) x.1).offers)
    (λ x. bystander_in-answer_by x.0 _ _ (offered romc (is_first first x.0) x.1) _ _
    (facts (is_first first x.0) x.1).offers (facts (is_first first x.0) x.1).tells) vs
ruling-polled PortRead romc reference first facts vs = judged-polled PortRead romc reference first
    (λ x. party_in-answer_by x.0 _ _ (offered romc (is_first first x.0) x.1) _ _ (facts (is_first first x.0) x.1))
    (λ x. bystander_in-none x.0 _ _ (offered romc (is_first first x.0) x.1) _) vs
ruling-polled PortWrite romc reference first facts vs = judged-polled PortWrite romc reference first
    (λ x. party_in-answer_by x.0 _ _ (offered romc (is_first first x.0) x.1) _ _ (facts (is_first first x.0) x.1))
    (λ x. bystander_in-none x.0 _ _ (offered romc (is_first first x.0) x.1) _) vs
ruling-polled Vector romc reference first facts vs = refl
ruling-polled NoChip romc reference first facts vs = refl

-- a step answers by the poll what the bus rule says of the rack
pub poll_answer-polled : (cycle : Cycle) (reference : ℕ) (states : List ChipState) → cycle.romc < 32 →
    poll_answer (rule_of cycle.romc) cycle reference (polled (rule_of cycle.romc) cycle.romc reference cycle.first 0 (views states) no_poll)
    ≡ answered cycle.romc (bus_byte cycle.romc cycle.first cycle.byte (named_views states)) (view_ruling cycle.romc cycle.first reference (named_views states))
poll_answer-polled cycle reference states below =
    let facts : CodeFacts cycle.romc = code_facts cycle.romc below in
    let byte = byte-polled (rule_of cycle.romc) cycle.romc reference cycle.first
    (λ x. offers-said (rule_of cycle.romc) cycle.romc reference (is_first cycle.first x.0) x.1 (λ m. facts m x.1)) (views states) in
    let ruling = ruling-polled (rule_of cycle.romc) cycle.romc reference cycle.first facts (views states) in
    let whole : Poll = polled (rule_of cycle.romc) cycle.romc reference cycle.first 0 (views states) no_poll in
    ap (λ (b : ℕ). answered cycle.romc (byte_by (driver_of cycle.romc) cycle.byte b)
    (judged (rule_of cycle.romc) cycle.first reference whole.parties whole.bystander)) byte
    ∙ ap (answered cycle.romc (bus_byte cycle.romc cycle.first cycle.byte (named_views states))) ruling

-- where no chip is asked, the poll is empty
pub polled_unasked : (romc reference : ℕ) (first : Option ℕ) (n : ℕ) (vs : List ChipView) → polled NoChip romc reference first n vs no_poll ≡ no_poll
polled_unasked romc reference first n [] = refl
polled_unasked romc reference first n (v ∷ vs) = polled_unasked romc reference first (n + 1) vs
