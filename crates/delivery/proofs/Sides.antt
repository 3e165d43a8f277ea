-- What a call at the sender does to the transfer of its key, and that it leaves every other key alone.
use Rattle.std.specs.Prelude.{Err, None, Ok, Option, Result, Some, ℕ, is_some}
use Prim.Native.Nat.{ℕ, zero, suc, ◌<◌}
use mathlib.Core.Path.{◌≡◌, refl, sym, ap, ◌∙◌, subst}
use mathlib.Core.Logic.{◌⊎◌, inl, inr}
use mathlib.Core.Bool.{Bool, true, false, cond, not, ◌&&◌, ◌||◌}
use mathlib.Core.List.{List, [], ◌∷◌, ◌++◌, map, append-nil}
use native.Mathlib.Omega.{arith}
use lib.Dec.{eqb, leb}
use lib.ListN.{length}
use borrow.Author.Tests.{eqb-false, not-true, not-false}
use mathlib.Mathlib.Data.Bool.Basic.{and_elim_left, and_elim_right}
use Rattle.laws.specs.Bools.{clash, not_both, not_passed, both, by_test, passed, either_way, cond_true, cond_false}
use Rattle.laws.specs.Choice.{each_of}
use Rattle.frame.specs.declared.Address.{Address}
use Rattle.frame.specs.declared.SessionNumber.{SessionNumber}
use Rattle.frame.specs.declared.judge.Route.{Route}
use Rattle.frame.specs.declared.judge.Content.TheVariants as verdict
use Rattle.frame.specs.declared.refusal.Refusal.{Refusal}
use Rattle.frame.specs.declared.refusal.Refusal.TheVariants.{IdentifierRange, FrameLength, NotTaken, PgnForm, MessageLength, KeyOpen, TransfersFull}
use Rattle.frame.specs.Pgn.{pgn_ok}
use Rattle.frame.specs.Identifiers.{identifier_of}
use Rattle.frame.specs.Lengths.{is_length}
use Rattle.frame.specs.Judge.{route_taken, by_format, route_of, judged}
use Rattle.transport.specs.declared.Key.{Key}
use Rattle.transport.specs.declared.response.ResponseRead.TheVariants as response
use Rattle.transport.specs.Heads.{session_key_of}
use Rattle.transport.specs.Responses.{response_of}
use Rattle.session.specs.Ends.{is_idle}
use Rattle.slots.specs.Slots.{same_key, or_else}
use Rattle.slots.specs.Searches.{first_some}
use Rattle.slots.specs.Bounds.{opening_ok}
use Rattle.isolation.proofs.Slots.{same_keys, keys_same}
use Rattle.transfer.specs.declared.Offer.{Offer}
use Rattle.session.specs.declared.Change.{Change}
use Rattle.session.specs.declared.Change.TheVariants.{Stays, Opens}
use Rattle.transfer.specs.declared.Reply.TheVariants as reply
use Rattle.transfer.specs.declared.Step.{Step}
use Rattle.transfer.specs.Transfers.{transfer_of}
use Rattle.transfer.specs.Bounds.{destination_ok, length_ok}
use Rattle.transfer.specs.Decisions.{after, refused, offer_of, for_key, announced_to, asked_to, hears}
use Rattle.sender_bytes.specs.Layout.{Sender, with_transfer}
use Rattle.sender.specs.Transfers.{is_free, holds, first_free, key_place, slot_for, state_in, transfers_ok, in_bounds}
use Rattle.sender.specs.Calls.{announces, asks, applied}
use Rattle.sender.specs.Clock.{end_of}
use Rattle.sender.specs.Model.{Stepped, stepped, key_of, announce_step, ask_step, by_verdict, frame_step, elapsed, reading_step}
use Rattle.isolation.specs.Replies.{Wire}
use Rattle.delivery.specs.Link.{kept_at}
use Rattle.delivery.specs.Losses.{ending_frames, sent_at}
use Rattle.delivery.specs.System.{state_for}
use Rattle.delivery.specs.Whole.{is_response, responds_to}
use Rattle.delivery.specs.WholeLosses.{ending_for, endings_for}
use Rattle.delivery.proofs.Transfers.{Transfers, at, known, Unique, AllOk, holds_self, only_for, find_some, find_none, known_held, known_none, transfers_ok_lem, ok_all, ok_unique, Place, set_unique, set_ok, set_known, set_others, map_unique, map_ok, map_known}
use Rattle.delivery.proofs.Kept.{Keeps, asked_kept, hears_kept, announced_kept, asked_shut, hears_shut, announced_full}
use Rattle.frame.specs.declared.judge.Content.{Content}
use Rattle.transfer.specs.declared.Transfer.{Transfer}
use Rattle.transport.specs.declared.response.ResponseRead.{ResponseRead}
use Rattle.transfer.specs.declared.Course.{Course}

-- ---- a record in bounds, by its places

pub record Ready (p : Sender) : Type 0 where
  pub good : opening_ok p.own p.limit ≡ true
  pub uniq : Unique p.transfers
  pub ok : AllOk p.transfers

pub ready_of : (p : Sender) → in_bounds p ≡ true → Ready p
unfolding in_bounds
ready_of p e =
    let ok = and_elim_right (opening_ok p.own p.limit) (transfers_ok p.transfers) e in
    record {
      good = and_elim_left (opening_ok p.own p.limit) (transfers_ok p.transfers) e;
      uniq = ok_unique p.transfers ok;
      ok = ok_all p.transfers ok;
    }

pub in_bounds_lem : (p : Sender) → Ready p → in_bounds p ≡ true
unfolding in_bounds
in_bounds_lem p h = both (opening_ok p.own p.limit) (transfers_ok p.transfers) h.good (transfers_ok_lem p.transfers h.uniq h.ok)

-- ---- a change to the transfer of a key

pub record Acts (κ : Key) (c : Change Transfer Course) (p q : Sender) : Type 0 where
  pub own : q.own ≡ p.own
  pub limit : q.limit ≡ p.limit
  pub last : q.last ≡ p.last
  pub ready : Ready q
  pub here : state_for κ q ≡ after (state_for κ p) c
  pub others : (n : Key) → (n ≡ κ → ⊥) → state_for n q ≡ state_for n p

module _ (p : Sender) (h : Ready p) (κ : Key) where
  acts_none : (c : Change Transfer Course) → c ≡ Stays → Acts κ c p p
  acts_none c e = record { own = refl; limit = refl; last = refl; ready = h; here = rw e; others = λ n ne. refl }

  acts_at : (i : ℕ) → i < length p.transfers → Place p.transfers i κ → known κ p.transfers ≡ at p.transfers i
      → (st : Step) → Keeps κ (at p.transfers i) st → Acts κ st.change p (with_transfer p i st.change)
  acts_at i low place e st k = record {
    own = refl;
    limit = refl;
    last = refl;
    ready = record {
      good = h.good;
      uniq = set_unique p.transfers κ i y low h.uniq place k.only;
      ok = set_ok p.transfers κ i y low h.uniq place k.only h.ok k.ok;
    };
    here = set_known p.transfers κ i y low h.uniq place k.only ∙ ap (λ (x : Option Transfer). after x st.change) (sym e);
    others = set_others p.transfers κ i y low h.uniq place k.only;
  }
    where
      y : Option Transfer
      y = after (at p.transfers i) st.change

  -- the key's own place
  its_place : (i : ℕ) → key_place κ p.transfers ≡ Some i → Place p.transfers i κ
  its_place i e j n g =
      let here : holds κ (at p.transfers i) ≡ true = (find_some κ p.transfers i e).0 in
      ((λ z. holds_self κ (at p.transfers i) here n (rw z at g)), (λ z. h.uniq j i κ (rw z at g) here))

  in_place : (D : Option Transfer → Step) → (D None).change ≡ Stays → ((x : Option Transfer) → holds κ x ≡ true → (i : ℕ) → at p.transfers i ≡ x → Keeps κ x (D x))
      → (f : Option ℕ) → key_place κ p.transfers ≡ f
      → Acts κ (D (state_in f p.transfers)).change p (applied p f (D (state_in f p.transfers)).change)
  in_place D shut k None e = acts_none _ shut
  in_place D shut k (Some i) e =
      let f : (holds κ (at p.transfers i) ≡ true) × (i < length p.transfers) = find_some κ p.transfers i e in
      acts_at i f.1 (its_place i e) (known_held κ p.transfers h.uniq i f.0) (D (at p.transfers i)) (k (at p.transfers i) f.0 i refl)

  pub ask_acts : (n : ℕ) → Acts κ (asked_to (state_for κ p) n p.last).change p (stepped p (asks p κ n)).1
  ask_acts n =
      in_place (λ (x : Option Transfer). asked_to x n p.last) (asked_shut n p.last)
      (λ x g i e. asked_kept κ x n p.last (rw e at (h.ok i)) (only_for κ x g)) (key_place κ p.transfers) refl

  pub hear_acts : eqb κ.da.0 255 ≡ false → (r : Result ResponseRead Refusal)
      → Acts κ (hears (state_for κ p) r p.last).change p (applied p (key_place κ p.transfers) (hears (state_for κ p) r p.last).change)
  hear_acts one r =
      in_place (λ (x : Option Transfer). hears x r p.last) (hears_shut r p.last)
      (λ x g i e. hears_kept κ x r p.last one (rw e at (h.ok i)) (only_for κ x g)) (key_place κ p.transfers) refl

  -- a place that is free, where the key has none
  free_place : (i : ℕ) → at p.transfers i ≡ None → key_place κ p.transfers ≡ None → Place p.transfers i κ
  free_place i z e j n g = (
    (λ w. absurd (clash (holds n None) (rw (w, z) at g) refl)),
    (λ w. absurd (clash (holds κ (at p.transfers j)) (rw w at g) (find_none κ p.transfers e j))),
  )

  open_none : (x : Option Transfer) → is_free x ≡ true → x ≡ None
  open_none None e = refl
  open_none (Some t) e = absurd (clash false e refl)

  pub announce_acts : (pgn n : ℕ) → Acts κ (announces p κ pgn n).step.change p (stepped p (announces p κ pgn n)).1
  announce_acts pgn n = go (key_place κ p.transfers) refl
    where
      room : (f : Option ℕ) → first_free p.transfers ≡ f → key_place κ p.transfers ≡ None
          → Acts κ (announced_to (state_in f p.transfers) (is_some f) κ pgn n p.last).change p (applied p f (announced_to (state_in f p.transfers) (is_some f) κ pgn n p.last).change)
      room None e g = acts_none _ (announced_full κ pgn n p.last)
      room (Some i) e g =
          let r = first_some None is_free p.transfers i e in
          let z : at p.transfers i ≡ None = open_none (at p.transfers i) r.0 in
          acts_at i r.1 (free_place i z g) (known_none κ p.transfers (find_none κ p.transfers g) ∙ sym z)
          (announced_to (at p.transfers i) true κ pgn n p.last) (announced_kept κ (at p.transfers i) true pgn n p.last (h.ok i) (rw z tt))

      go : (f : Option ℕ) → key_place κ p.transfers ≡ f
          → let g : Option ℕ = or_else f (first_free p.transfers) in
          Acts κ (announced_to (state_in g p.transfers) (is_some g) κ pgn n p.last).change p (applied p g (announced_to (state_in g p.transfers) (is_some g) κ pgn n p.last).change)
      go None e = room (first_free p.transfers) refl e
      go (Some i) e =
          let f : (holds κ (at p.transfers i) ≡ true) × (i < length p.transfers) = find_some κ p.transfers i e in
          acts_at i f.1 (its_place i e) (known_held κ p.transfers h.uniq i f.0) (announced_to (at p.transfers i) true κ pgn n p.last)
          (announced_kept κ (at p.transfers i) true pgn n p.last (h.ok i) (only_for κ (at p.transfers i) f.0))

-- ---- the calls

-- the step of the key's transfer, answered and applied
pub record Called (κ : Key) (st : Step) (p : Sender) (a : Stepped) : Type 0 where
  pub reply : a.0 ≡ st.reply
  pub acts : Acts κ st.change p a.1

-- the key's transfer is as it was
pub record Leaves (κ : Key) (p q : Sender) : Type 0 where
  pub own : q.own ≡ p.own
  pub limit : q.limit ≡ p.limit
  pub last : q.last ≡ p.last
  pub ready : Ready q
  pub same : state_for κ q ≡ state_for κ p

leaves_other : (κ n : Key) (c : Change Transfer Course) (p q : Sender) → (n ≡ κ → ⊥) → Acts κ c p q → Leaves n p q
leaves_other κ n c p q ne a = record { own = a.own; limit = a.limit; last = a.last; ready = a.ready; same = a.others n ne }

module _ (p : Sender) (e : in_bounds p ≡ true) where
  ready : Ready p
  ready = ready_of p e

  nothing_done : (κ : Key) → Leaves κ p p
  nothing_done κ = record { own = refl; limit = refl; last = refl; ready = ready; same = refl }

  pub ask_called : (da : Address) (session : SessionNumber) (n : ℕ)
      → Called (key_of p da session) (asked_to (state_for (key_of p da session) p) n p.last) p (ask_step p da session n)
  unfolding ask_step
  ask_called da session n = rw e (record { reply = refl; acts = ask_acts p ready (key_of p da session) n })

  key_is : (κ : Key) → p.own ≡ κ.sa → key_of p κ.da κ.session ≡ κ
  key_is κ w = ap (λ (a : Address). record { sa = a; da = κ.da; session = κ.session }) w

  pub asks_own : (κ : Key) → p.own ≡ κ.sa → (n : ℕ) → Called κ (asked_to (state_for κ p) n p.last) p (ask_step p κ.da κ.session n)
  asks_own κ w n =
      subst (λ (μ : Key). Called μ (asked_to (state_for μ p) n p.last) p (ask_step p κ.da κ.session n)) (key_is κ w) (ask_called κ.da κ.session n)

  other : (κ μ : Key) → same_key μ κ ≡ false → κ ≡ μ → ⊥
  other κ μ d z = clash (same_key μ κ) (keys_same μ κ (sym z)) d

  pub ask_aside_lem : (κ : Key) (da : Address) (session : SessionNumber) (n : ℕ) → same_key (key_of p da session) κ ≡ false → Leaves κ p (ask_step p da session n).1
  ask_aside_lem κ da session n d = leaves_other (key_of p da session) κ _ p _ (other κ (key_of p da session) d) (ask_called da session n).acts

  pub announce_called : (da : Address) (session : SessionNumber) (pgn n : ℕ) → Called (key_of p da session) (announces p (key_of p da session) pgn n).step p (announce_step p da session pgn n)
  unfolding announce_step
  announce_called da session pgn n = rw e (record { reply = refl; acts = announce_acts p ready (key_of p da session) pgn n })

  pub announce_aside_lem : (κ : Key) (da : Address) (session : SessionNumber) (pgn n : ℕ) → same_key (key_of p da session) κ ≡ false → Leaves κ p (announce_step p da session pgn n).1
  announce_aside_lem κ da session pgn n d = leaves_other (key_of p da session) κ _ p _ (other κ (key_of p da session) d) (announce_called da session pgn n).acts

-- ---- an announcement that is accepted

pub record Accepts (κ : Key) (pgn n : ℕ) (o : Offer) (p q : Sender) : Type 0 where
  pub offer : o ≡ offer_of κ pgn n
  pub own : q.own ≡ p.own
  pub limit : q.limit ≡ p.limit
  pub last : q.last ≡ p.last
  pub ready : in_bounds q ≡ true
  pub here : state_for κ q ≡ Some (transfer_of (offer_of κ pgn n) q.last)

-- by an announcement that is accepted the transfer opens
opens_by : (x : Option Transfer) (room : Bool) (κ : Key) (pgn n last : ℕ) (o : Offer) → (announced_to x room κ pgn n last).reply ≡ reply.Announced o
    → (o ≡ offer_of κ pgn n) × ((announced_to x room κ pgn n last).change ≡ Opens (transfer_of (offer_of κ pgn n) last))
unfolding announced_to
opens_by x room κ pgn n last o =
    either_way Fine (not (destination_ok κ)) (λ _. unfit NotTaken)
    (λ _. either_way Fine (not (pgn_ok pgn)) (λ _. unfit PgnForm) (λ _. either_way Fine (not (length_ok n)) (λ _. unfit MessageLength) (λ _. for_key_lem x)))
  where
    Fine : Step → Type 0
    Fine st = st.reply ≡ reply.Announced o → (o ≡ offer_of κ pgn n) × (st.change ≡ Opens (transfer_of (offer_of κ pgn n) last))

    unfit : (r : Refusal) → Fine (refused r)
    unfit r e = absurd (let z : ◌≡◌ {A = ℕ} 0 1 = cc in omega arith)

    for_key_lem : (x : Option Transfer) → Fine (for_key x room (offer_of κ pgn n) last)
    for_key_lem (Some t) = unfit KeyOpen
    for_key_lem None = either_way Fine (not room) (λ _. unfit TransfersFull) (λ _ e. ((cc), refl))

-- the record after it is one that the theorem starts from
pub accepted : (p : Sender) → in_bounds p ≡ true → (κ : Key) → p.own ≡ κ.sa → (pgn n : ℕ) (o : Offer)
    → (announce_step p κ.da κ.session pgn n).0 ≡ reply.Announced o → Accepts κ pgn n o p (announce_step p κ.da κ.session pgn n).1
accepted p e κ w pgn n o r = record {
  offer = d.0;
  own = a.own;
  limit = a.limit;
  last = a.last;
  ready = in_bounds_lem _ a.ready;
  here = a.here ∙ ap (after (state_for κ p)) d.1 ∙ ap (λ (t : ℕ). Some (transfer_of (offer_of κ pgn n) t)) (sym a.last);
}
  where
    f : Option ℕ
    f = slot_for κ p.transfers

    st : Step
    st = announced_to (state_in f p.transfers) (is_some f) κ pgn n p.last

    c : Called κ st p (announce_step p κ.da κ.session pgn n)
    c = subst (λ (μ : Key). Called μ (announces p μ pgn n).step p (announce_step p κ.da κ.session pgn n)) (key_is p e κ w) (announce_called p e κ.da κ.session pgn n)

    a : Acts κ st.change p (announce_step p κ.da κ.session pgn n).1
    a = c.acts

    d : (o ≡ offer_of κ pgn n) × (st.change ≡ Opens (transfer_of (offer_of κ pgn n) p.last))
    d = opens_by (state_in f p.transfers) (is_some f) κ pgn n p.last o (sym c.reply ∙ r)

-- ---- a frame

-- a control frame comes from a node, and goes the way that its identifier says
record Routed (id : ℕ) (ρ : Route) : Type 0 where
  way : ρ ≡ route_of (identifier_of id)
  node : eqb ρ.sa.0 255 ≡ false

control_only : (b c : Bool) (μ ρ : Route) → cond b (Ok (verdict.Control μ)) (cond c (Ok (verdict.Data μ)) (Err NotTaken)) ≡ Ok (verdict.Control ρ) → ρ ≡ μ
control_only true c μ ρ e = cc
control_only false true μ ρ e = absurd (let z : ◌≡◌ {A = ℕ} 0 1 = cc in omega arith)
control_only false false μ ρ e = absurd (let z : ◌≡◌ {A = ℕ} 0 1 = cc in omega arith)

routed : (own : Address) (id n : ℕ) (ρ : Route) → judged own id n ≡ Ok (verdict.Control ρ) → Routed id ρ
unfolding judged by_format
routed own id n ρ e =
    let a = passed (leb 536870912 id) (Err IdentifierRange) _ (Ok (verdict.Control ρ)) (λ z. no_refusal z) e in
    let b = passed (not (is_length n)) (Err FrameLength) _ (Ok (verdict.Control ρ)) (λ z. no_refusal z) a.1 in
    let c = passed (not (route_taken own (identifier_of id))) (Err NotTaken) _ (Ok (verdict.Control ρ)) (λ z. no_refusal z) b.1 in
    let d = passed (eqb (identifier_of id).pf 37) (Ok (verdict.MultiPg (route_of (identifier_of id)))) _ (Ok (verdict.Control ρ)) (λ z. absurd (let w : ◌≡◌ {A = ℕ} 0 1 = cc in omega arith)) c.1 in
    let way : ρ ≡ route_of (identifier_of id) = control_only (eqb (identifier_of id).pf 77) (eqb (identifier_of id).pf 78) (route_of (identifier_of id)) ρ d.1 in
    record { way = way; node = rw way (not-true (eqb (identifier_of id).sa.0 255) (tests (not-false (route_taken own (identifier_of id)) c.0))) }
  where
    no_refusal : {n : Refusal} → ◌≡◌ {A = Result Content Refusal} (Err n) (Ok (verdict.Control ρ)) → ⊥
    no_refusal z = let w : ◌≡◌ {A = ℕ} 0 1 = cc in omega arith

    tests : route_taken own (identifier_of id) ≡ true → not (eqb (identifier_of id).sa.0 255) ≡ true
    tests r =
        (each_of (eqb (identifier_of id).extended_data_page 0 ∷ eqb (identifier_of id).data_page 0 ∷ (eqb (identifier_of id).ps own.0 || eqb (identifier_of id).ps 255)
        ∷ not (eqb (identifier_of id).sa.0 254) ∷ not (eqb (identifier_of id).sa.0 255) ∷ not (eqb (identifier_of id).sa.0 own.0) ∷ []) r).1.1.1.1.0

-- from no broadcast
pub routed_aimed : (own : Address) (id n : ℕ) (ρ : Route) → judged own id n ≡ Ok (verdict.Control ρ) → ρ.sa.0 ≡ 255 → ⊥
routed_aimed own id n ρ e = eqb-false ρ.sa.0 255 (routed own id n ρ e).node

pub routed_way : (own : Address) (id n : ℕ) (ρ : Route) → judged own id n ≡ Ok (verdict.Control ρ) → ρ ≡ route_of (identifier_of id)
routed_way own id n ρ e = (routed own id n ρ e).way

module _ (p : Sender) (e : in_bounds p ≡ true) (id : ℕ) (d : List ℕ) where
  pub frame_is : frame_step p id d ≡ by_verdict (judged p.own id (length d)) p d
  unfolding frame_step
  frame_is = rw e

  pub hear_called : (ρ : Route) → judged p.own id (length d) ≡ Ok (verdict.Control ρ)
      → Called (session_key_of ρ d) (hears (state_for (session_key_of ρ d) p) (response_of ρ d) p.last) p (frame_step p id d)
  hear_called ρ j =
      subst (Called (session_key_of ρ d) (hears (state_for (session_key_of ρ d) p) (response_of ρ d) p.last) p)
      (sym (frame_is ∙ ap (λ (v : Result Content Refusal). by_verdict v p d) j))
      (record { reply = refl; acts = hear_acts p (ready_of p e) (session_key_of ρ d) (routed p.own id (length d) ρ j).node (response_of ρ d) })

  -- a frame that is no response changes nothing
  stays_refused : (x : Option Transfer) (r : Result ResponseRead Refusal) (last : ℕ) → is_response r ≡ false → (hears x r last).change ≡ Stays
  unfolding hears
  stays_refused x (Ok (response.Cts f)) last z = absurd (clash true refl z)
  stays_refused x (Ok (response.Eoma f)) last z = absurd (clash true refl z)
  stays_refused x (Ok (response.Abort f)) last z = absurd (clash true refl z)
  stays_refused x (Err n) last z = refl

  by_control_lem : (κ : Key) (ρ : Route) → judged p.own id (length d) ≡ Ok (verdict.Control ρ) → (same_key (session_key_of ρ d) κ && is_response (response_of ρ d)) ≡ false
      → Leaves κ p (frame_step p id d).1
  by_control_lem κ ρ j z = by_test (same_key (session_key_of ρ d) κ) mine others
    where
      a : Acts (session_key_of ρ d) (hears (state_for (session_key_of ρ d) p) (response_of ρ d) p.last).change p (frame_step p id d).1
      a = (hear_called ρ j).acts

      mine : same_key (session_key_of ρ d) κ ≡ true → Leaves κ p (frame_step p id d).1
      mine s =
          let k : session_key_of ρ d ≡ κ = same_keys (session_key_of ρ d) κ s in
          let c : (hears (state_for (session_key_of ρ d) p) (response_of ρ d) p.last).change ≡ Stays = stays_refused _ (response_of ρ d) p.last (not_both (same_key (session_key_of ρ d) κ) _ z s) in
          record {
            own = a.own;
            limit = a.limit;
            last = a.last;
            ready = a.ready;
            same = subst (λ (μ : Key). state_for μ (frame_step p id d).1 ≡ state_for μ p) k (a.here ∙ ap (after (state_for (session_key_of ρ d) p)) c);
          }

      others : same_key (session_key_of ρ d) κ ≡ false → Leaves κ p (frame_step p id d).1
      others s = leaves_other (session_key_of ρ d) κ _ p _ (λ w. clash (same_key (session_key_of ρ d) κ) (keys_same (session_key_of ρ d) κ (sym w)) s) a

  pub hear_aside_lem : (κ : Key) → responds_to κ (judged p.own id (length d)) d ≡ false → Leaves κ p (frame_step p id d).1
  hear_aside_lem κ z = go (judged p.own id (length d)) refl z
    where
      unread : (v : Result Content Refusal) → judged p.own id (length d) ≡ v → (by_verdict v p d).1 ≡ p → Leaves κ p (frame_step p id d).1
      unread v j s = subst (Leaves κ p) (sym (ap (λ (a : Stepped). a.1) frame_is ∙ ap (λ (v : Result Content Refusal). (by_verdict v p d).1) j ∙ s)) (nothing_done p e κ)

      go : (v : Result Content Refusal) → judged p.own id (length d) ≡ v → responds_to κ v d ≡ false → Leaves κ p (frame_step p id d).1
      go (Ok (verdict.Control ρ)) j z = by_control_lem κ ρ j z
      go (Ok (verdict.MultiPg ρ)) j z = unread (Ok (verdict.MultiPg ρ)) j refl
      go (Ok (verdict.Data ρ)) j z = unread (Ok (verdict.Data ρ)) j refl
      go (Err n) j z = unread (Err n) j refl

-- ---- a reading

pub record Reads (κ : Key) (t : ℕ) (p q : Sender) : Type 0 where
  pub own : q.own ≡ p.own
  pub limit : q.limit ≡ p.limit
  pub last : q.last ≡ t
  pub ready : Ready q
  pub here : state_for κ q ≡ kept_at p.limit t (state_for κ p)

elapsed_stays : (limit t : ℕ) (x : Option Transfer) → (elapsed limit t x ≡ x) ⊎ (elapsed limit t x ≡ None)
elapsed_stays limit t None = inl refl
elapsed_stays limit t (Some x) = by_test (is_idle limit x.course.mark t) (λ e. inr (rw e)) (λ e. inl (rw e))

elapsed_kept : (limit t : ℕ) (x : Option Transfer) → elapsed limit t x ≡ kept_at limit t x
unfolding kept_at
elapsed_kept limit t None = refl
elapsed_kept limit t (Some x) = by_test (is_idle limit x.course.mark t) (λ e. rw e) (λ e. rw e)

pub reading_reads : (p : Sender) → in_bounds p ≡ true → (κ : Key) (t : ℕ) → Reads κ t p (reading_step p t).1
unfolding reading_step
reading_reads p e κ t =
    let h : Ready p = ready_of p e in
    let f : Option Transfer → Option Transfer = elapsed p.limit t in
    rw e (record {
      own = refl;
      limit = refl;
      last = refl;
      ready = record {
        good = h.good;
        uniq = map_unique f refl (elapsed_stays p.limit t) p.transfers h.uniq;
        ok = map_ok f refl (elapsed_stays p.limit t) p.transfers h.uniq h.ok;
      };
      here = map_known f refl (elapsed_stays p.limit t) p.transfers h.uniq κ ∙ elapsed_kept p.limit t (state_for κ p);
    })

-- ---- what a reading sends for a key: the ending of its own transfer

module _ (κ : Key) (limit t : ℕ) where
  abbrev sends_at : Transfers → List Wire
  sends_at l = endings_for κ (map (end_of limit t) l)

  other_end : (x : Option Transfer) → holds κ x ≡ false → ending_for κ (end_of limit t x) ≡ []
  other_end None h = refl
  other_end (Some x) h = either_way (λ e. ending_for κ e ≡ []) (is_idle limit x.course.mark t) (λ e. cond_false (same_key x.offer.key κ) _ [] h) (λ e. refl)

  own_end : (x : Option Transfer) → holds κ x ≡ true → ending_for κ (end_of limit t x) ≡ sent_at limit t x
  own_end None h = refl
  own_end (Some x) h = either_way (λ e. ending_for κ e ≡ ending_frames e) (is_idle limit x.course.mark t) (λ e. cond_true (same_key x.offer.key κ) _ [] h) (λ e. refl)

  none_end : (l : Transfers) → ((i : ℕ) → holds κ (at l i) ≡ false) → sends_at l ≡ []
  none_end [] h = refl
  none_end (x ∷ l) h = rw (other_end x (h 0)) (none_end l (λ i. h (suc i)))

  one_ends : (l : Transfers) → Unique l → (i : ℕ) → holds κ (at l i) ≡ true → sends_at l ≡ sent_at limit t (at l i)
  one_ends [] u i h = absurd (clash false h refl)
  one_ends (x ∷ l) u zero h =
      ap (λ (fs : List Wire). ending_for κ (end_of limit t x) ++ fs)
      (none_end l (λ i. not_passed (holds κ (at l i)) (λ g. let z : 0 ≡ suc i = u 0 (suc i) κ h g in omega arith)))
      ∙ append-nil (ending_for κ (end_of limit t x)) ∙ own_end x h
  one_ends (x ∷ l) u (suc i) h =
      rw (other_end x (not_passed (holds κ x) (λ g. let z : 0 ≡ suc i = u 0 (suc i) κ g h in omega arith)))
      (one_ends l (λ a b n p q. let z : suc a ≡ suc b = u (suc a) (suc b) n p q in omega arith) i h)

pub reading_sends : (p : Sender) → in_bounds p ≡ true → (κ : Key) (t : ℕ) → endings_for κ (reading_step p t).0 ≡ sent_at p.limit t (state_for κ p)
unfolding reading_step
reading_sends p e κ t = rw e (go (key_place κ p.transfers) refl)
  where
    go : (f : Option ℕ) → key_place κ p.transfers ≡ f → sends_at κ p.limit t p.transfers ≡ sent_at p.limit t (state_in f p.transfers)
    go None z = none_end κ p.limit t p.transfers (find_none κ p.transfers z)
    go (Some i) z = one_ends κ p.limit t p.transfers (ready_of p e).uniq i (find_some κ p.transfers i z).0
