-- What a record in bounds says of each of its transfers, and that what goes out of it is a part of its message.
use Rattle.std.specs.Prelude.{ℕ, zero, suc, ◌+◌, ◌/◌, ◌≤◌, ◌≡◌, Bool, cond, not, List, [], ◌∷◌, eqb, length, get_or, None, Option, Some}
use Rattle.std.proofs.Common.{arith}
use Rattle.std.proofs.Math.Path.{refl}
use Rattle.std.proofs.Math.Bool.{true, false}
use mathlib.Mathlib.Data.Bool.Basic.{and_elim_left, and_elim_right}
use Rattle.std.proofs.Math.Dec.{ltb}
use borrow.Author.Tests.{eqb-true, ltb-false}
use Rattle.laws.specs.Bools.{guard_passed}
use Rattle.frame.specs.Pgn.{pgn_ok}
use Rattle.frame.specs.declared.refusal.Refusal.TheVariants.{NotTaken, PgnForm, MessageLength}
use Rattle.transport.specs.declared.Key.{Key}
use Rattle.transport.specs.Kinds.{is_rts}
use Rattle.session.specs.Laws.{segment_inside}
use Rattle.slots.specs.Bounds.{opening_ok}
use Rattle.transfer.specs.declared.Transfer.{Transfer}
use Rattle.session.specs.declared.Change.TheVariants.{Stays}
use Rattle.transfer.specs.declared.Reply.TheVariants as reply
use Rattle.transfer.specs.declared.Step.{Step}
use Rattle.transfer.specs.Transfers.{segments_of, offer_kind}
use Rattle.transfer.specs.Bounds.{destination_ok, length_ok, transfer_ok, state_ok}
use Rattle.transfer.specs.Decisions.{refused, moves, ends, offer_of, for_key, announced_to, after_segment, after_status, status_goes, next_frame, asked_to}
use Rattle.transfer.specs.Kept.{InBounds, in_bounds_facts}
use Rattle.sender_bytes.specs.Places.{record_length}
use Rattle.sender_bytes.specs.Layout.{sender_at, transfers_at}
use Rattle.sender.specs.Transfers.{any_holds, one_ok, transfers_ok, in_bounds, ready_in, state_in}
use Rattle.sender.specs.Calls.{Announces, Sendable}

-- ---- in bounds

module _ (b : List ℕ) (h : ready_in b ≡ true) where
  pub ready_long : length b ≡ record_length
  unfolding ready_in
  ready_long = eqb-true (length b) record_length (guard_passed (eqb (length b) record_length) (in_bounds (sender_at b)) h).0

  pub ready_bounds : in_bounds (sender_at b) ≡ true
  unfolding ready_in
  ready_bounds = (guard_passed (eqb (length b) record_length) (in_bounds (sender_at b)) h).1

one_ok_lem : (x : Option Transfer) (xs : List (Option Transfer)) → one_ok x xs ≡ true → state_ok x ≡ true
one_ok_lem None xs e = refl
one_ok_lem (Some t) xs e = and_elim_left (transfer_ok t) (not (any_holds t.offer.key xs)) e

pub each_ok : (ts : List (Option Transfer)) (i : ℕ) → transfers_ok ts ≡ true → state_ok (get_or ts i None) ≡ true
each_ok [] i e = refl
each_ok (x ∷ xs) zero e = one_ok_lem x xs (and_elim_left (one_ok x xs) (transfers_ok xs) e)
each_ok (x ∷ xs) (suc i) e = each_ok xs i (and_elim_right (one_ok x xs) (transfers_ok xs) e)

pub found_ok : (ts : List (Option Transfer)) (f : Option ℕ) → transfers_ok ts ≡ true → state_ok (state_in f ts) ≡ true
found_ok ts (Some i) e = each_ok ts i e
found_ok ts None e = refl

pub state_ok_lem : (b : List ℕ) (f : Option ℕ) → ready_in b ≡ true → state_ok (state_in f (transfers_at b)) ≡ true
unfolding in_bounds
state_ok_lem b f h =
    found_ok (transfers_at b) f (and_elim_right (opening_ok (sender_at b).own (sender_at b).limit) (transfers_ok (transfers_at b)) (ready_bounds b h))

-- ---- what goes out

abbrev Goes : List ℕ → Step → Type 0
Goes m st = Sendable m st.reply

pub announce_announces : (x : Option Transfer) (room : Bool) (k : Key) (pgn n last : ℕ) → Announces (announced_to x room k pgn n last).reply
unfolding announced_to
announce_announces x room k pgn n last = go (not (destination_ok k)) (not (pgn_ok pgn)) (not (length_ok n)) x room
  where
    go : (d p l : Bool) (x : Option Transfer) (room : Bool)
        → Announces (cond d (refused NotTaken) (cond p (refused PgnForm) (cond l (refused MessageLength) (for_key x room (offer_of k pgn n) last)))).reply
    go true p l x room = tt
    go false true l x room = tt
    go false false true x room = tt
    go false false false (Some t) room = tt
    go false false false None true = tt
    go false false false None false = tt

module _ (m : List ℕ) (t : Transfer) (last : ℕ) (i : InBounds t) (e : t.offer.total.0 ≡ length m) where
  status_sendable : (rts : Bool) → Goes m (cond rts (moves (after_status t.course last) (reply.Status t.offer)) (ends (reply.Status t.offer)))
  status_sendable true = tt
  status_sendable false = tt

  next_sendable : Goes m (next_frame t last)
  unfolding next_frame segments_of
  next_sendable = go t.course.owed (ltb t.course.granted.0 t.course.next.0) refl
    where
      go : (owed none : Bool) → ltb t.course.granted.0 t.course.next.0 ≡ none
          → Goes m (cond owed (status_goes t last) (cond none (record { change = Stays; reply = reply.NothingDue }) (moves (after_segment t last) (reply.Segment t.course.next))))
      go true none h = status_sendable (is_rts (offer_kind t.offer))
      go false true h = tt
      go false false h =
          let granted : t.course.next.0 ≤ t.course.granted.0 = ltb-false _ _ h in
          let few : t.course.granted.0 ≤ (t.offer.total.0 + 59) / 60 = i.course.within in
          let low : 1 ≤ t.course.next.0 = i.course.low in
          let fits : t.offer.total.0 ≤ 4096 = i.offer.fits in
          (low, segment_inside (length m) t.course.next.0 low (omega arith), omega arith)

pub ask_sendable : (m : List ℕ) (x : Option Transfer) (last : ℕ) → state_ok x ≡ true → Goes m (asked_to x (length m) last)
unfolding asked_to
ask_sendable m None last h = tt
ask_sendable m (Some t) last h = go (eqb t.offer.total.0 (length m)) refl
  where
    go : (same : Bool) → eqb t.offer.total.0 (length m) ≡ same → Goes m (cond (not same) (refused MessageLength) (next_frame t last))
    go true e = next_sendable m t last (in_bounds_facts t h) (eqb-true _ _ e)
    go false e = tt
