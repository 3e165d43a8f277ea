-- A transfer in bounds, as facts. Whatever is decided keeps it in bounds, and its numbers fit 32 bits.
use Rattle.std.specs.Prelude.{ℕ, ◌+◌, ◌≤◌, ◌<◌, ◌≡◌, refl, Bool, false, cond, not, ◌&&◌, ◌||◌, List, [], ◌∷◌, leb, ltb, Err, None, Ok, Option, Result, Some}
use Rattle.std.proofs.Common.{arith, ap, ltb-true, ltb-false, leb-true, eqb-true, le-leb, eq-eqb, ne_eqb}
use Rattle.std.proofs.Math.Bool.{true}
use Rattle.std.proofs.Math.Dec.{eqb}
use Rattle.std.proofs.lemmas.Bool.{eqb-false, not-true, not-false}
use Rattle.laws.specs.Bools.{both, implied, implies, either_way}
use Rattle.laws.specs.Choice.{each_of, all_of_lem}
use Rattle.frame.specs.Pgn.{low_byte_ok, pgn_ok}
use Rattle.transport.specs.declared.Key.{Key}
use Rattle.transport.specs.declared.Kind.TheVariants.{Rts, Bam}
use Rattle.transport.specs.declared.cts.Cts.{Cts}
use Rattle.transport.specs.declared.cts.CtsRead.{CtsRead}
use Rattle.transport.specs.declared.eoma.Eoma.{Eoma}
use Rattle.transport.specs.declared.response.ResponseRead.TheVariants as response
use Rattle.transport.specs.Kinds.{is_rts}
use Rattle.transfer.specs.declared.Offer.{Offer}
use Rattle.transfer.specs.declared.Course.{Course}
use Rattle.transfer.specs.declared.Transfer.{Transfer}
use Rattle.session.specs.declared.Change.{Change}
use Rattle.session.specs.declared.Change.TheVariants.{Stays, Opens, Moves, Ends}
use Rattle.transfer.specs.declared.Step.{Step}
use Rattle.transfer.specs.Transfers.{segments_of, offer_kind, offer_segments, transfer_of}
use Rattle.transfer.specs.Bounds.{destination_ok, length_ok, offer_ok, course_ok, transfer_ok, state_ok}
use Rattle.transfer.specs.Decisions.{after, status_goes, NextFits, bad_grant, granted_by, stopped, after_segment, after_status}
use Rattle.transfer.specs.Decisions.{for_key, offer_of, announced_to, next_frame, asked_to, cts_open, as_sent, eoma_open, of_pgn, cts_to, eoma_to, abort_to, hears}
use Rattle.transfer.specs.Laws.{length_facts, grant_facts}
use Rattle.frame.specs.declared.refusal.Refusal.{Refusal}
use Rattle.transport.specs.declared.response.ResponseRead.{ResponseRead}

-- ---- bounds as facts

pub record OfferIn (o : Offer) : Type 0 where
  pub real : o.key.da.0 ≡ 254 → ⊥
  pub foreign : o.key.da.0 ≡ o.key.sa.0 → ⊥
  pub session : o.key.session.0 ≤ 15
  pub form : pgn_ok o.pgn ≡ true
  pub some : 1 ≤ o.total.0
  pub fits : o.total.0 ≤ 4096

pub record CourseIn (o : Offer) (c : Course) : Type 0 where
  pub within : c.granted.0 ≤ offer_segments o
  pub broadcast : o.key.da.0 ≡ 255 → c.granted.0 ≡ offer_segments o
  pub low : 1 ≤ c.next.0
  pub high : c.next.0 ≤ c.granted.0 + 1

pub record InBounds (t : Transfer) : Type 0 where
  pub offer : OfferIn t.offer
  pub course : CourseIn t.offer t.course

destination_tests : Key → List Bool
destination_tests k =
    not (eqb k.da.0 254) ∷ not (eqb k.da.0 k.sa.0) ∷ leb k.session.0 15 ∷ []

offer_tests : Offer → List Bool
offer_tests o = destination_ok o.key ∷ pgn_ok o.pgn ∷ length_ok o.total.0 ∷ []

course_tests : Offer → Course → List Bool
course_tests o c =
    leb c.granted.0 (offer_segments o)
    ∷ (not (eqb o.key.da.0 255) || eqb c.granted.0 (offer_segments o))
    ∷ leb 1 c.next.0
    ∷ leb c.next.0 (c.granted.0 + 1)
    ∷ []

pub offer_in : (o : Offer) → offer_ok o ≡ true → OfferIn o
unfolding destination_tests offer_tests
offer_in o e =
    let t = each_of (offer_tests o) e in
    let d = each_of (destination_tests o.key) t.0 in
    let l = length_facts o.total.0 t.1.1.0 in
    record {
      real = eqb-false _ _ (not-true _ d.0);
      foreign = eqb-false _ _ (not-true _ d.1.0);
      session = leb-true _ _ d.1.1.0;
      form = t.1.0;
      some = l.0;
      fits = l.1;
    }

pub in_offer : (o : Offer) → OfferIn o → offer_ok o ≡ true
unfolding destination_tests offer_tests
in_offer o h =
    all_of_lem (offer_tests o) (
      all_of_lem (destination_tests o.key) (
        ap not (ne_eqb _ _ h.real),
        (ap not (ne_eqb _ _ h.foreign), (le-leb _ _ h.session, tt)),
      ),
      (h.form, (both _ _ (le-leb _ _ h.some) (le-leb _ _ h.fits), tt)),
    )

pub course_in : (o : Offer) (c : Course) → course_ok o c ≡ true → CourseIn o c
unfolding course_tests
course_in o c e =
    let t = each_of (course_tests o c) e in
    record {
      within = leb-true _ _ t.0;
      broadcast = λ b. eqb-true _ _ (implied _ _ t.1.0 (eq-eqb _ _ b));
      low = leb-true _ _ t.1.1.0;
      high = leb-true _ _ t.1.1.1.0;
    }

pub in_course : (o : Offer) (c : Course) → CourseIn o c → course_ok o c ≡ true
unfolding course_tests
in_course o c h =
    all_of_lem (course_tests o c) (
      le-leb _ _ h.within,
      (
        implies _ _ (λ b. eq-eqb _ _ (h.broadcast (eqb-true _ _ b))),
        (le-leb _ _ h.low, (le-leb _ _ h.high, tt)),
      ),
    )

pub in_bounds_facts : (t : Transfer) → transfer_ok t ≡ true → InBounds t
in_bounds_facts t e =
    let p = each_of (offer_ok t.offer ∷ course_ok t.offer t.course ∷ []) e in
    record { offer = offer_in t.offer p.0; course = course_in t.offer t.course p.1.0 }

pub facts_in_bounds : (t : Transfer) → InBounds t → transfer_ok t ≡ true
facts_in_bounds t h = both _ _ (in_offer t.offer h.offer) (in_course t.offer t.course h.course)

-- ---- how large the numbers get

pub segments_69 : (n : ℕ) → n ≤ 4096 → segments_of n ≤ 69
unfolding segments_of
segments_69 n h = omega arith

pub offer_segments_69 : (o : Offer) → OfferIn o → offer_segments o ≤ 69
offer_segments_69 o h = segments_69 o.total.0 h.fits

pub granted_69 : (t : Transfer) → transfer_ok t ≡ true → t.course.granted.0 ≤ 69
granted_69 t e =
    let f = in_bounds_facts t e in
    let m : offer_segments t.offer ≤ 69 = offer_segments_69 t.offer f.offer in
    let w : t.course.granted.0 ≤ offer_segments t.offer = f.course.within in
    omega arith

pub next_70 : (t : Transfer) → transfer_ok t ≡ true → t.course.next.0 ≤ 70
next_70 t e =
    let g : t.course.granted.0 ≤ 69 = granted_69 t e in
    let h : t.course.next.0 ≤ t.course.granted.0 + 1 = (in_bounds_facts t e).course.high in
    omega arith

pub next_fits : (x : Option Transfer) → state_ok x ≡ true → NextFits x
next_fits None e = tt
next_fits (Some t) e = let n : t.course.next.0 ≤ 70 = next_70 t e in omega arith

-- ---- what is said of a change

-- a transfer in bounds stays so, and a closed one does not move
abbrev pub Keeps : Option Transfer → Change Transfer Course → Type 0
Keeps x Stays = Unit {0}
Keeps x (Opens t) = transfer_ok t ≡ true
Keeps None (Moves c) = ⊥
Keeps (Some t) (Moves c) = transfer_ok (record { offer = t.offer; course = c }) ≡ true
Keeps x Ends = Unit {0}

pub after_kept : (x : Option Transfer) (c : Change Transfer Course) → state_ok x ≡ true → Keeps x c → state_ok (after x c) ≡ true
after_kept x Stays e k = e
after_kept x (Opens t) e k = k
after_kept None (Moves c) e k = refl
after_kept (Some t) (Moves c) e k = k
after_kept x Ends e k = refl

-- what it opens is of the key
abbrev pub OpensFor : Key → Change Transfer Course → Type 0
OpensFor k Stays = Unit {0}
OpensFor k (Opens t) = t.offer.key ≡ k
OpensFor k (Moves c) = Unit {0}
OpensFor k Ends = Unit {0}

-- its numbers fit 32 bits
pub record CourseFits (c : Course) : Type 0 where
  pub next : c.next.0 < 4294967296
  pub granted : c.granted.0 < 4294967296
  pub mark : c.mark < 4294967296

pub record TransferFits (t : Transfer) : Type 0 where
  pub total : t.offer.total.0 < 4294967296
  pub pgn : t.offer.pgn < 4294967296
  pub course : CourseFits t.course

abbrev pub ChangeFits : Change Transfer Course → Type 0
ChangeFits Stays = Unit {0}
ChangeFits (Opens t) = TransferFits t
ChangeFits (Moves c) = CourseFits c
ChangeFits Ends = Unit {0}

-- a CTS grants segments to one destination: the transfer is no broadcast
abbrev pub Directed : Option Transfer → Type 0
Directed None = Unit {0}
Directed (Some t) = t.offer.key.da.0 ≡ 255 → ⊥

-- ---- each course that a decision leads to

first_in : (o : Offer) (last : ℕ) → CourseIn o (transfer_of o last).course
first_in o last = go (eqb o.key.da.0 255) refl
  where
    go : (b : Bool) → eqb o.key.da.0 255 ≡ b
        → CourseIn o (record {
          next = record { 0 = 1 };
          granted = record { 0 = cond (is_rts (cond b Bam Rts)) 0 (offer_segments o) };
          complete = false;
          reported = false;
          owed = false;
          mark = last;
        })
    go true e = record { within = omega arith; broadcast = λ b. refl; low = omega arith; high = omega arith }
    go false e =
        record { within = omega arith; broadcast = λ b. absurd (eqb-false _ _ e b); low = omega arith; high = omega arith }

pub opened_in_lem : (o : Offer) (last : ℕ) → offer_ok o ≡ true → transfer_ok (transfer_of o last) ≡ true
opened_in_lem o last e = both _ _ e (in_course o _ (first_in o last))

module _ (t : Transfer) (last : ℕ) (h : CourseIn t.offer t.course) where
  status_in : CourseIn t.offer (after_status t.course last)
  status_in = record { within = h.within; broadcast = h.broadcast; low = h.low; high = h.high }

  segment_in : t.course.next.0 ≤ t.course.granted.0 → CourseIn t.offer (after_segment t last)
  segment_in g = record { within = h.within; broadcast = h.broadcast; low = omega arith; high = omega arith }

  stopped_in : (owed : Bool) → Directed (Some t) → CourseIn t.offer (stopped t.course owed last)
  stopped_in owed d = record { within = omega arith; broadcast = λ b. absurd (d b); low = h.low; high = omega arith }

granted_in : (t : Transfer) (f : Cts) (last : ℕ) → Directed (Some t) → (f.count ≡ 0 → ⊥) → bad_grant (offer_segments t.offer) f ≡ false
    → CourseIn t.offer (granted_by t.course f last)
granted_in t f last d z e =
    let g = grant_facts (offer_segments t.offer) f e in
    let low : 1 ≤ f.next.0 = g.0 in
    let far : f.next.0 + f.count ≤ offer_segments t.offer + 1 = g.1 in
    record { within = omega arith; broadcast = λ b. absurd (d b); low = low; high = omega arith }

-- ---- each decision, with the last reading, and a key for what it opens

-- what opens is of the key, and what opens or moves is marked with the reading
abbrev Marked : Key → ℕ → Change Transfer Course → Type 0
Marked k last Stays = Unit {0}
Marked k last (Opens t) = (t.offer.key ≡ k) × (t.course.mark ≡ last)
Marked k last (Moves c) = c.mark ≡ last
Marked k last Ends = Unit {0}

module _ (k : Key) (last : ℕ) where
  abbrev Good : Option Transfer → Step → Type 0
  Good x s = Keeps x s.change × Marked k last s.change

  -- an announcement

  for_key_good : (x : Option Transfer) (room : Bool) (pgn n : ℕ) → offer_ok (offer_of k pgn n) ≡ true → Good x (for_key x room (offer_of k pgn n) last)
  for_key_good (Some t) room pgn n e = (tt, tt)
  for_key_good None room pgn n e =
      either_way (Good None) (not room) (λ r. (tt, tt)) (λ r. (opened_in_lem (offer_of k pgn n) last e, (refl, refl)))

  pub announce_good : (x : Option Transfer) (room : Bool) (pgn n : ℕ) → Good x (announced_to x room k pgn n last)
  unfolding announced_to offer_tests
  announce_good x room pgn n =
      either_way (Good x) (not (destination_ok k)) (λ e. (tt, tt)) (λ d.
      either_way (Good x) (not (pgn_ok pgn)) (λ e. (tt, tt)) (λ p.
      either_way (Good x) (not (length_ok n)) (λ e. (tt, tt)) (λ l.
      for_key_good x room pgn n
      (all_of_lem (offer_tests (offer_of k pgn n)) (not-false (destination_ok k) d, (not-false (pgn_ok pgn) p, (not-false (length_ok n) l, tt)))))))

  -- an open transfer

  module _ (t : Transfer) (e : transfer_ok t ≡ true) where
    goes : (c : Course) → CourseIn t.offer c → transfer_ok (record { offer = t.offer; course = c }) ≡ true
    goes c h =
        facts_in_bounds (record { offer = t.offer; course = c }) (record { offer = (in_bounds_facts t e).offer; course = h })

    status_good : Good (Some t) (status_goes t last)
    status_good =
        either_way (Good (Some t)) (is_rts (offer_kind t.offer))
        (λ r. (goes (after_status t.course last) (status_in t last (in_bounds_facts t e).course), refl))
        (λ r. (tt, tt))

    next_good : Good (Some t) (next_frame t last)
    unfolding next_frame
    next_good =
        either_way (Good (Some t)) t.course.owed (λ o. status_good) (λ o.
        either_way (Good (Some t)) (ltb t.course.granted.0 t.course.next.0) (λ g. (tt, tt)) (λ g.
        (goes (after_segment t last) (segment_in t last (in_bounds_facts t e).course (ltb-false _ _ g)), refl)))

    stops : (owed : Bool) → Directed (Some t) → transfer_ok (record { offer = t.offer; course = stopped t.course owed last }) ≡ true
    stops owed d = goes (stopped t.course owed last) (stopped_in t last (in_bounds_facts t e).course owed d)

    cts_good : (f : CtsRead) → Directed (Some t) → Good (Some t) (cts_open t f last)
    unfolding cts_open
    cts_good f d =
        either_way (Good (Some t)) (t.course.complete && eqb f.request 1) (λ r. (stops true d, refl)) (λ r.
        either_way (Good (Some t)) (eqb f.cts.count 0) (λ z. (stops t.course.owed d, refl)) (λ z.
        either_way (Good (Some t)) (bad_grant (offer_segments t.offer) f.cts) (λ b. (tt, tt)) (λ b.
        (goes (granted_by t.course f.cts last) (granted_in t f.cts last d (eqb-false _ _ z) b), refl))))

    eoma_good : (f : Eoma) → Good (Some t) (eoma_open t f)
    unfolding eoma_open
    eoma_good f = either_way (Good (Some t)) (as_sent t f) (λ a. (tt, tt)) (λ a. (tt, tt))

    -- a frame finds the transfer by its PGN, or none
    by_pgn : (pgn : ℕ) (to : Option Transfer → Step) → Good (Some t) (to None) → Good (Some t) (to (Some t)) → Good (Some t) (to (of_pgn (Some t) pgn))
    by_pgn pgn to p q =
        either_way (λ (x : Option Transfer). Good (Some t) (to x)) (eqb t.offer.pgn pgn) (λ e. q) (λ e. p)

  -- the next frame

  ask_good : (x : Option Transfer) (n : ℕ) → state_ok x ≡ true → Good x (asked_to x n last)
  unfolding asked_to
  ask_good None n e = (tt, tt)
  ask_good (Some t) n e =
      either_way (Good (Some t)) (not (eqb t.offer.total.0 n)) (λ m. (tt, tt)) (λ m. next_good t e)

  -- a responder's frame

  hear_good : (x : Option Transfer) (f : Result ResponseRead Refusal) → state_ok x ≡ true → Directed x → Good x (hears x f last)
  unfolding hears
  hear_good None (Ok (response.Cts f)) e d = (tt, tt)
  hear_good None (Ok (response.Eoma f)) e d = (tt, tt)
  hear_good None (Ok (response.Abort f)) e d = (tt, tt)
  hear_good (Some t) (Ok (response.Cts f)) e d =
      by_pgn t e f.cts.pgn (λ (x : Option Transfer). cts_to x f last) (tt, tt) (cts_good t e f d)
  hear_good (Some t) (Ok (response.Eoma f)) e d = by_pgn t e f.pgn (λ (x : Option Transfer). eoma_to x f) (tt, tt) (eoma_good t e f)
  hear_good (Some t) (Ok (response.Abort f)) e d = by_pgn t e f.pgn abort_to (tt, tt) (tt, tt)
  hear_good x (Err n) e d = (tt, tt)

-- ---- what fits 32 bits

pub pgn_fits : (pgn : ℕ) → pgn_ok pgn ≡ true → pgn < 4294967296
pgn_fits pgn e =
    let h : pgn < 262144 = ltb-true _ _ (each_of (ltb pgn 262144 ∷ low_byte_ok pgn ∷ []) e).0 in
    omega arith

pub transfer_fits : (t : Transfer) → transfer_ok t ≡ true → t.course.mark < 4294967296 → TransferFits t
transfer_fits t e m =
    let f = in_bounds_facts t e in
    let g : t.course.granted.0 ≤ 69 = granted_69 t e in
    let n : t.course.next.0 ≤ 70 = next_70 t e in
    let l : t.offer.total.0 ≤ 4096 = f.offer.fits in
    record {
      total = omega arith;
      pgn = pgn_fits _ f.offer.form;
      course = record { next = omega arith; granted = omega arith; mark = m };
    }

pub change_fits : (k : Key) (last : ℕ) → last < 4294967296 → (x : Option Transfer) (c : Change Transfer Course) → Keeps x c × Marked k last c → ChangeFits c
change_fits k last h x Stays g = tt
change_fits k last h x (Opens t) (e, m) = transfer_fits t e (omega arith)
change_fits k last h None (Moves c) (e, m) = absurd e
change_fits k last h (Some t) (Moves c) (e, m) = (transfer_fits (record { offer = t.offer; course = c }) e (omega arith)).course
change_fits k last h x Ends g = tt

pub change_for : (k : Key) (last : ℕ) (x : Option Transfer) (c : Change Transfer Course) → Keeps x c × Marked k last c → OpensFor k c
change_for k last x Stays g = tt
change_for k last x (Opens t) g = g.1.0
change_for k last x (Moves c) g = tt
change_for k last x Ends g = tt

-- ---- the laws

some_key : Key
some_key = record { sa = record { 0 = 0 }; da = record { 0 = 0 }; session = record { 0 = 0 } }

module _ (x : Option Transfer) (n last : ℕ) (ok : state_ok x ≡ true) where
  pub ask_kept : Keeps x (asked_to x n last).change
  ask_kept = (ask_good some_key last x n ok).0

  pub ask_fits : last < 4294967296 → ChangeFits (asked_to x n last).change
  ask_fits h = change_fits some_key last h x (asked_to x n last).change (ask_good some_key last x n ok)

  -- of any key, as it opens none
  pub ask_opens_for : (k : Key) → OpensFor k (asked_to x n last).change
  ask_opens_for k = change_for k last x (asked_to x n last).change (ask_good k last x n ok)

module _ (x : Option Transfer) (f : Result ResponseRead Refusal) (last : ℕ) (ok : state_ok x ≡ true) (one : Directed x) where
  pub hear_kept : Keeps x (hears x f last).change
  hear_kept = (hear_good some_key last x f ok one).0

  pub hear_fits : last < 4294967296 → ChangeFits (hears x f last).change
  hear_fits h = change_fits some_key last h x (hears x f last).change (hear_good some_key last x f ok one)

  pub hear_opens_for : (k : Key) → OpensFor k (hears x f last).change
  hear_opens_for k = change_for k last x (hears x f last).change (hear_good k last x f ok one)
