-- Where every chip's own place is known to be the probe's, a poll of the chips that are listed as holding it is the poll of all.
use Rattle.std.proofs.Common.{◌≡◌, ℕ, ◌+◌, ◌/◌, ◌<◌, Bool, true, false, List, [], ◌∷◌, ◌++◌, map, refl, sym, ap, subst, ◌∙◌, arith}
use Rattle.std.specs.Prelude.{◌==◌, ◌||◌, nat_lt, if◌then◌else◌, Option, Some, None, is_some, option_map, option_and_then, slice_get}
use Rattle.std.proofs.Common.{suc, append-nil, append_assoc, eqb-true}
use Rattle.std.proofs.lemmas.Bool.{lt-ltb}
use Rattle.f8_spec.specs.ChipState.{ChipView, is_ram, offered, place_of}
use Rattle.f8_spec.specs.BusArbitration.{Seat, is_first, seat_of, would_answer}
use Rattle.f8_spec.specs.declared.bus.BusRule.{BusRule}
use Rattle.f8_spec.specs.declared.bus.BusRule.TheVariants.{Read, Store, PortRead, PortWrite, Vector, NoChip}
use Rattle.f8_spec.specs.declared.bus.Party.{Party}
use Rattle.f8_spec.specs.declared.chips.Offer.{Offer}
use Rattle.f8_spec.specs.declared.chips.Page.{Page}
use Rattle.data_bus.specs.declared.ask.Answer.{Answer}
use Rattle.data_bus.specs.declared.ask.Answer.TheVariants.{TakesPart, Passes}
use Rattle.data_bus.specs.declared.poll.Poll.{Poll}
use Rattle.data_bus.specs.KnownAgreement.{has_page}
use Rattle.data_bus.specs.KnownPlaces.{AllAt, IsAt, byte_in, goes_by_counter, party_at}
use Rattle.data_bus.specs.PageIndex.{holding}
use Rattle.data_bus.specs.Polling.{answer_by, answer_of, counted, counted_byte, no_poll, polled}
use Rattle.data_bus.proofs.CodeFacts.{FactsBy, place_if, place_of_offer}
use Rattle.data_bus.proofs.Answers.{is_some_mapped}

-- ---- one chip

-- the answer of a chip that is at the reference
abbrev pub marked_answer : Bool → ℕ → Option Offer → Answer
marked_answer true at offer = TakesPart (record { byte = byte_in offer; at = at })
marked_answer false at offer = Passes

-- what a chip that is where it would answer offers, and answers
answer-marked : (o : Option Offer) (test : Bool) (at told : ℕ) → place_of_offer o ≡ place_if test at →
    answer_by o test told ≡ marked_answer test at o
answer-marked None true at told e = cc
answer-marked None false at told e = refl
answer-marked (Some o) true at told e =
    let same : o.at ≡ at = cc in
    ap (λ (a : ℕ). TakesPart (record { byte = o.byte; at = a })) same
answer-marked (Some o) false at told e = cc

or_true : (b : Bool) → (b || true) ≡ true
or_true true = refl
or_true false = refl

-- an address that lies in a page lies in one below 256
held-page : (pages : List Page) (number : ℕ) → number < 256 → is_some (place_of pages number) ≡ true → has_page pages ≡ true
held-page [] number small held = cc
held-page (page ∷ pages) number small held = by (page.number == number) refl (held-page pages number small)
  where
    by : (b : Bool) → (page.number == number) ≡ b → (is_some (place_of pages number) ≡ true → has_page pages ≡ true) →
        has_page (page ∷ pages) ≡ true
    by true e later =
        let same : page.number ≡ number = eqb-true page.number number e in
        let below : nat_lt page.number 256 ≡ true = lt-ltb _ _ (subst (λ (n : ℕ). n < 256) (sym same) small) in
        rw below refl
    by false e later =
        let there : is_some (place_of pages number) ≡ true = sym (is_some_mapped (λ place. place + 1) (place_of pages number)) ∙ rw e at held in
        rw (later there) (or_true (nat_lt page.number 256))

has-page : (rule : BusRule) (s : Seat) (at : ℕ) → at < 65536 → would_answer rule s at ≡ true → has_page s.pages ≡ true
has-page Read s at small there = held-page s.pages (at / 256) (omega arith) there
has-page Store s at small there = held-page s.pages (at / 256) (omega arith) (by (place_of s.pages (at / 256)) there)
  where
    by : (place : Option ℕ) →
        is_some (option_and_then (λ sort. if is_ram sort then Some sort else None)
        (option_and_then (λ place. option_map (λ p. p.sort) (slice_get s.pages place)) place)) ≡ true → is_some place ≡ true
    by None held = cc
    by (Some place) held = refl
has-page PortRead s at small there = cc
has-page PortWrite s at small there = cc
has-page Vector s at small there = cc
has-page NoChip s at small there = cc

-- where the chip would answer it is at the reference
same-place : (rule : BusRule) (s : Seat) (own reference : ℕ) → own < 65536 → reference < 65536 →
    (has_page s.pages ≡ true → own ≡ reference) →
    place_if (would_answer rule s own) own ≡ place_if (would_answer rule s reference) reference
same-place rule s own reference small below same = by (would_answer rule s own) (would_answer rule s reference) refl refl
  where
    by : (here there : Bool) → would_answer rule s own ≡ here → would_answer rule s reference ≡ there →
        place_if here own ≡ place_if there reference
    by true there e f =
        let is : own ≡ reference = same (has-page rule s own small e) in
        let alike : true ≡ there = sym e ∙ ap (would_answer rule s) is ∙ f in
        subst (λ (b : Bool). place_if true own ≡ place_if b reference) alike (ap (place_if true) is)
    by false true e f =
        let is : own ≡ reference = same (has-page rule s reference below f) in
        let no : false ≡ true = sym e ∙ ap (would_answer rule s) is ∙ f in
        cc
    by false false e f = refl

-- so by its address alone it is known whether it answers
said : (rule : BusRule) (romc reference : ℕ) (mark : Bool) (v : ChipView) → goes_by_counter rule ≡ true → FactsBy rule romc mark v →
    reference < 65536 → IsAt romc reference v →
    answer_of rule romc reference mark v ≡ marked_answer (would_answer rule (seat_of v) reference) reference (offered romc mark v)
said Read romc reference mark v by facts below at =
    answer-marked (offered romc mark v) _ reference _ (facts.offers ∙ same-place Read (seat_of v) _ reference at.address below at.same)
said Store romc reference mark v by facts below at =
    answer-marked (offered romc mark v) _ reference _ (facts.offers ∙ same-place Store (seat_of v) _ reference at.address below at.same)
said PortRead romc reference mark v by facts below at = cc
said PortWrite romc reference mark v by facts below at = cc
said Vector romc reference mark v by facts below at = cc
said NoChip romc reference mark v by facts below at = cc

-- ---- a rack

module _ (rule : BusRule) (romc reference : ℕ) (first : Option ℕ) where
  -- the chips that would answer, by their sockets, and the bytes that they offer
  abbrev pub offering : ℕ → List ChipView → List (ℕ × ℕ)
  offering n [] = []
  offering n (v ∷ vs) =
      if would_answer rule (seat_of v) reference
      then (n, byte_in (offered romc (is_first first n) v)) ∷ offering (n + 1) vs
      else offering (n + 1) vs

  -- a poll with what they offer at the reference
  abbrev pub gathered : List (ℕ × ℕ) → Poll → Poll
  gathered [] poll = poll
  gathered (x ∷ xs) poll = gathered xs (counted x.0 (TakesPart (record { byte = x.1; at = reference })) poll)

  pub polled-gathered : goes_by_counter rule ≡ true → ((m : Bool) (v : ChipView) → FactsBy rule romc m v) → reference < 65536 →
      (n : ℕ) (vs : List ChipView) → AllAt romc reference vs → (poll : Poll) →
      polled rule romc reference first n vs poll ≡ gathered (offering n vs) poll
  polled-gathered by facts below n [] at poll = refl
  polled-gathered by facts below n (v ∷ vs) at poll =
      rw (said rule romc reference (is_first first n) v by (facts (is_first first n) v) below at.0)
      (one (would_answer rule (seat_of v) reference) (polled-gathered by facts below (n + 1) vs at.1))
    where
      one : (b : Bool) → ((after : Poll) → polled rule romc reference first (n + 1) vs after ≡ gathered (offering (n + 1) vs) after) →
          polled rule romc reference first (n + 1) vs
          (counted n (marked_answer b reference (offered romc (is_first first n) v)) poll)
          ≡ gathered (if b then (n, byte_in (offered romc (is_first first n) v)) ∷ offering (n + 1) vs else offering (n + 1) vs) poll
      one true later = later _
      one false later = later poll

  -- their sockets are those of the chips that hold the reference
  pub offering-sockets : (n : ℕ) (vs : List ChipView) → map (λ x. x.0) (offering n vs) ≡ holding rule reference n (map seat_of vs)
  offering-sockets n [] = refl
  offering-sockets n (v ∷ vs) = one (would_answer rule (seat_of v) reference) (offering-sockets (n + 1) vs)
    where
      one : (b : Bool) → map (λ x. x.0) (offering (n + 1) vs) ≡ holding rule reference (n + 1) (map seat_of vs) →
          map (λ x. x.0) (if b then (n, byte_in (offered romc (is_first first n) v)) ∷ offering (n + 1) vs else offering (n + 1) vs)
          ≡ (if b then n ∷ holding rule reference (n + 1) (map seat_of vs) else holding rule reference (n + 1) (map seat_of vs))
      one true later = ap (λ l. n ∷ l) later
      one false later = later

  -- ---- by how many there are

  empty : (xs : List (ℕ × ℕ)) → map (λ x. x.0) xs ≡ [] → xs ≡ []
  empty [] e = refl
  empty (x ∷ xs) e = cc

  -- the only one is seated, and offers the byte
  pub record IsOnly (n : ℕ) (vs : List ChipView) (socket : ℕ) : Type 0 where
    pub chip : ChipView
    pub place : ℕ
    pub is : socket ≡ n + place
    pub lies : slice_get vs place ≡ Some chip
    pub offers : offering n vs ≡ (socket, byte_in (offered romc (is_first first socket) chip)) ∷ []

  pub only-one : (n : ℕ) (vs : List ChipView) (socket : ℕ) → holding rule reference n (map seat_of vs) ≡ socket ∷ [] → IsOnly n vs socket
  only-one n [] socket e = cc
  only-one n (v ∷ vs) socket e =
      one (would_answer rule (seat_of v) reference) refl (only-one (n + 1) vs socket)
    where
      one : (b : Bool) → would_answer rule (seat_of v) reference ≡ b →
          (holding rule reference (n + 1) (map seat_of vs) ≡ socket ∷ [] → IsOnly (n + 1) vs socket) → IsOnly n (v ∷ vs) socket
      one true f later =
          let both : n ∷ holding rule reference (n + 1) (map seat_of vs) ≡ socket ∷ [] = rw f at e in
          let here : n ≡ socket = cc in
          let rest : holding rule reference (n + 1) (map seat_of vs) ≡ [] = cc in
          let none : offering (n + 1) vs ≡ [] = empty (offering (n + 1) vs) (offering-sockets (n + 1) vs ∙ rest) in
          record {
            chip = v;
            place = 0;
            is = omega arith;
            lies = refl;
            offers = rw (f, none) (ap (λ (k : ℕ). (k, byte_in (offered romc (is_first first k) v)) ∷ []) here);
          }
      one false f later =
          let only = later (rw f at e) in
          record {
            chip = only.chip;
            place = suc only.place;
            is = let is = only.is in omega arith;
            lies = only.lies;
            offers = rw f only.offers;
          }

  -- with no party, and with the one
  pub none-listed : (vs : List ChipView) → holding rule reference 0 (map seat_of vs) ≡ [] → gathered (offering 0 vs) no_poll ≡ no_poll
  none-listed vs e = ap (λ xs. gathered xs no_poll) (empty (offering 0 vs) (offering-sockets 0 vs ∙ e))

  pub one-listed : (vs : List ChipView) (socket : ℕ) → (only : IsOnly 0 vs socket) → gathered (offering 0 vs) no_poll
      ≡ record { parties = party_at reference socket ∷ []; byte = byte_in (offered romc (is_first first socket) only.chip); bystander = None }
  one-listed vs socket only = ap (λ xs. gathered xs no_poll) only.offers

  -- with several: every one is a party, and there is no byte
  gathered-parties : (xs : List (ℕ × ℕ)) (poll : Poll) →
      (gathered xs poll).parties ≡ poll.parties ++ map (party_at reference) (map (λ x. x.0) xs)
  gathered-parties [] poll = sym (append-nil poll.parties)
  gathered-parties (x ∷ xs) poll =
      gathered-parties xs (counted x.0 (TakesPart (record { byte = x.1; at = reference })) poll)
      ∙ append_assoc poll.parties (party_at reference x.0 ∷ []) (map (party_at reference) (map (λ x. x.0) xs))

  gathered-bystander : (xs : List (ℕ × ℕ)) (poll : Poll) → (gathered xs poll).bystander ≡ poll.bystander
  gathered-bystander [] poll = refl
  gathered-bystander (x ∷ xs) poll = gathered-bystander xs (counted x.0 (TakesPart (record { byte = x.1; at = reference })) poll)

  no_byte : (ps : List Party) (q : Party) (byte : ℕ) → counted_byte (ps ++ q ∷ []) byte ≡ 0
  no_byte [] q byte = refl
  no_byte (p ∷ ps) q byte = refl

  gathered-byte : (xs : List (ℕ × ℕ)) (ps : List Party) (q : Party) (poll : Poll) → poll.parties ≡ ps ++ q ∷ [] → poll.byte ≡ 0 →
      (gathered xs poll).byte ≡ 0
  gathered-byte [] ps q poll some none = none
  gathered-byte (x ∷ xs) ps q poll some none =
      gathered-byte xs poll.parties (party_at reference x.0) (counted x.0 (TakesPart (record { byte = x.1; at = reference })) poll) refl
      (ap (λ l. counted_byte l x.1) some ∙ no_byte ps q x.1)

  pub several-listed : (vs : List ChipView) (k l : ℕ) (sockets : List ℕ) →
      holding rule reference 0 (map seat_of vs) ≡ k ∷ (l ∷ sockets) → gathered (offering 0 vs) no_poll
      ≡ record { parties = map (party_at reference) (k ∷ (l ∷ sockets)); byte = 0; bystander = None }
  several-listed vs k l sockets e = by (offering 0 vs) (offering-sockets 0 vs ∙ e)
    where
      by : (xs : List (ℕ × ℕ)) → map (λ x. x.0) xs ≡ k ∷ (l ∷ sockets) → gathered xs no_poll
          ≡ record { parties = map (party_at reference) (k ∷ (l ∷ sockets)); byte = 0; bystander = None }
      by [] f = cc
      by (x ∷ []) f = cc
      by (x ∷ (y ∷ xs)) f =
          let poll = gathered (x ∷ (y ∷ xs)) no_poll in
          let parties : poll.parties ≡ map (party_at reference) (k ∷ (l ∷ sockets)) =
          gathered-parties (x ∷ (y ∷ xs)) no_poll ∙ ap (map (party_at reference)) f in
          let byte : poll.byte ≡ 0 =
          gathered-byte xs (party_at reference x.0 ∷ []) (party_at reference y.0)
          (counted y.0 (TakesPart (record { byte = y.1; at = reference }))
          (counted x.0 (TakesPart (record { byte = x.1; at = reference })) no_poll)) refl refl in
          let bystander : poll.bystander ≡ None = gathered-bystander (x ∷ (y ∷ xs)) no_poll in
          ap (λ ps. record { parties = ps; byte = poll.byte; bystander = poll.bystander }) parties
          ∙ ap (λ (b : ℕ). record { parties = map (party_at reference) (k ∷ (l ∷ sockets)); byte = b; bystander = poll.bystander }) byte
          ∙ ap (λ (o : Option Party). record { parties = map (party_at reference) (k ∷ (l ∷ sockets)); byte = 0; bystander = o }) bystander
