-- One call of a node: it is the receiver's call that it is received as, or it leaves the receiver as it was and shows nothing.
use Rattle.std.specs.Prelude.{None, Option, Some}
use Prim.Native.Nat.{ℕ}
use mathlib.Core.Path.{◌≡◌, refl, sym, ap, ap₂, ◌∙◌, subst}
use mathlib.Core.Bool.{Bool, true, false, cond, not, ◌&&◌}
use mathlib.Core.List.{List, [], ◌∷◌}
use lib.Dec.{eqb}
use lib.ListN.{length}
use Rattle.laws.specs.Choice.{then, else}
use Rattle.frame.specs.declared.refusal.Refusal.TheVariants.{OutOfBounds}
use Rattle.receiver.specs.Bounds.{in_bounds}
use Rattle.record_bytes.specs.Layout.{is_record, record_at}
use Rattle.lent_record.specs.Ready as receiver_ready
use Rattle.engine.specs.InBytes.{InBytes, frame_in}
use Rattle.transfer.specs.declared.Reply.{Reply}
use Rattle.transfer.specs.declared.Reply.TheVariants as reply
use Rattle.sender.specs.Transfers.{ready_in}
use Rattle.sender.specs.Calls.{hear_in}
use Rattle.answer_bytes.specs.Places.{answer_length}
use Rattle.reply_bytes.specs.Replies.{reply_number, reply_bytes}
use Rattle.node.specs.declared.NodeAnswer.TheVariants.{Sender}
use Rattle.node.specs.Node.{is_responders, by_receiver, node_in}
use Rattle.node.specs.Apart.{as_received, as_heard}
use Rattle.dwaebinam.specs.Calls.{told, framed_in}
use Rattle.dwaebinam.specs.Node.{NodeFramed, node_told, node_framed_in}
use Rattle.isolation.specs.Rules.{Values, Seen, stray}
use Rattle.isolation.specs.World.{frame, lent}
use Rattle.isolation.specs.Observe.{frame_seen_as, frame_elsewhere_as}
use Rattle.carried.specs.Crossed.{Lending, bytes_after, store_left}
use Rattle.carried.specs.Shown.{outcome_of, reply_in, shown}
use Rattle.carried.proofs.Step.{framed_is}
use Rattle.together.specs.Calls.{SenderBytes, kept, others, NodeCall, receiver, node, node_elsewhere, sender, Suits, lent_of, kept_of, record_next, store_next, sender_next}
use Rattle.together.specs.Received.{frame_received, received_of, frame_heard, heard_of}
use Rattle.together.specs.Seen.{Framed, receiver_part, sender_seen, seen_by, node_seen, node_elsewhere_seen, seen}
use Rattle.together.proofs.Ends.{reply_code, answer_code, node_is, same_self}

-- ---- what a received call shows and leaves; where there is none, nothing

abbrev pub shown_of : Values → ℕ → List ℕ → List ℕ → Option Lending → List Seen
shown_of v k b m None = []
shown_of v k b m (Some l) = shown v k b m l

abbrev pub bytes_of : List ℕ → List ℕ → Option Lending → List ℕ
bytes_of b m None = b
bytes_of b m (Some l) = bytes_after b m l

abbrev pub store_of : List ℕ → List ℕ → Option Lending → List ℕ
store_of b m None = m
store_of b m (Some l) = store_left b m l

-- ---- a frame

-- the receiver's own answer shows what it shows by itself
by_receiver_lem : (b m : List ℕ) (x : InBytes) (l : List Seen) → seen_by b m (told x) l ≡ l
by_receiver_lem b m x l = ap (λ (t : Bool). cond t (sender_seen b m (told x)) l) (answer_code x.0)

-- the sender's answer shows nothing, where the receiver is as it was
by_sender_lem : (b m : List ℕ) (n : ℕ) (r : Reply) (l : List Seen) → seen_by b m (n, (b, (m, reply_bytes r))) l ≡ []
by_sender_lem b m n r l =
    ap (λ (t : Bool). cond t (sender_seen b m (n, (b, (m, reply_bytes r)))) l) (reply_code r)
    ∙ ap₂ (λ (t u : Bool). cond (t && u) [] (stray (reply_in (n, (b, (m, reply_bytes r)))) ∷ [])) (same_self b) (same_self m)

module _ (v : Values) (k : ℕ) (b m s : List ℕ) (id : ℕ) (d a : List ℕ) where
  abbrev own_seen : Framed → List Seen
  own_seen x = frame_seen_as v k (record_at b) id d (outcome_of x) (reply_in x)

  -- x: what the call gives; o: what it is received as; h: the sender's record after it
  record Frame (x : NodeFramed) (o : Option Lending) (h : List ℕ) : Type 0 where
    shows_it : node_seen v k b m id d (receiver_part x) ≡ shown_of v k b m o
    bytes : x.1.0 ≡ bytes_of b m o
    store : x.1.1.0 ≡ store_of b m o
    sending : x.1.1.1.0 ≡ h

  answered : (r : Reply) (h : List ℕ) → Frame (node_told (Sender r, (b, (m, h)))) None h
  answered r h = record { shows_it = by_sender_lem b m (reply_number r) r (own_seen (reply_number r, (b, (m, reply_bytes r)))); bytes = refl; store = refl; sending = refl }

  taken_on : length a ≡ answer_length → Frame (node_told (by_receiver s (frame_in b id d m))) (Some (lent (frame id d), a)) s
  unfolding shown bytes_after store_left
  taken_on room =
      let e : told (frame_in b id d m) ≡ framed_in b id d m a = sym (framed_is b id d m a room) in
      record {
        shows_it = by_receiver_lem b m (frame_in b id d m) (own_seen (told (frame_in b id d m))) ∙ ap own_seen e;
        bytes = ap (λ (x : Framed). x.1.0) e;
        store = ap (λ (x : Framed). x.1.1.0) e;
        sending = refl;
      }

  -- the sender's record is out of bounds, and the receiver's is not
  sender_refuses : receiver_ready.ready_in b (length m) ≡ true → ready_in s ≡ false → node_in b m s id d ≡ (Sender (reply.Refused OutOfBounds), (b, (m, s)))
  unfolding node_in
  sender_refuses q e = sym (else (not (receiver_ready.ready_in b (length m))) _ _ _ (ap not q) (then (not (ready_in s)) _ _ _ (ap not e) refl))

  not_heard : ready_in s ≡ false → (hear_in s id d).1 ≡ s
  unfolding hear_in
  not_heard e = sym (ap (λ (x : Reply × List ℕ). x.1) (then (not (ready_in s)) (reply.Refused OutOfBounds, s) _ _ (ap not e) refl))

  frame_is : length a ≡ answer_length → receiver_ready.ready_in b (length m) ≡ true → Frame (node_framed_in b id d m s a) (frame_received (ready_in s) (is_responders id d) (lent (frame id d), a)) (frame_heard s id d)
  frame_is room q = subst (λ (x : NodeFramed). Frame x (frame_received (ready_in s) (is_responders id d) (lent (frame id d), a)) (frame_heard s id d)) (sym (node_is b id d m s a room)) (go (ready_in s) (is_responders id d) refl refl)
    where
      go : (y z : Bool) → ready_in s ≡ y → is_responders id d ≡ z
          → Frame (node_told (node_in b m s id d)) (frame_received y z (lent (frame id d), a)) (cond z (hear_in s id d).1 s)
      go false true e f = rw (not_heard e) (rw (sender_refuses q e) (answered (reply.Refused OutOfBounds) s))
      go false false e f = rw (sender_refuses q e) (answered (reply.Refused OutOfBounds) s)
      go true true e f = rw (as_heard b m s id d e q f) (answered (hear_in s id d).0 (hear_in s id d).1)
      go true false e f = rw (as_received b m s id d e f) (taken_on room)

-- ---- a frame with another buffer in the store's place

-- the receiver's own refusal
receiver_refuses : (b o s : List ℕ) (id : ℕ) (d : List ℕ) → eqb (length o) 32768 ≡ false → node_in b o s id d ≡ by_receiver s (frame_in b id d o)
unfolding node_in frame_in receiver_ready.ready_in
receiver_refuses b o s id d e =
    let q : receiver_ready.ready_in b (length o) ≡ false = ap (λ (t : Bool). is_record b && (t && in_bounds (record_at b))) e ∙ and_false (is_record b) in
    sym (then (not (receiver_ready.ready_in b (length o))) _ _ _ (ap not q) (sym (ap (by_receiver s) (else (receiver_ready.ready_in b (length o)) _ _ _ q refl))))
  where
    and_false : (t : Bool) → (t && false) ≡ false
    and_false true = refl
    and_false false = refl

-- ---- any call

pub record Agrees (v : Values) (k : ℕ) (b m s : List ℕ) (c : NodeCall) : Type 0 where
  pub shows_it : seen v k b m s c ≡ shown_of v k b m (received_of s c)
  pub bytes : record_next b m s c ≡ bytes_of b m (received_of s c)
  pub store : store_next b m s c ≡ store_of b m (received_of s c)
  pub sending : sender_next b m s c ≡ heard_of s c

kept_lent : (w : SenderBytes) (s : List ℕ) → kept_of w s (lent_of w s) ≡ s
kept_lent kept s = refl
kept_lent (others o) s = refl

module _ (v : Values) (k : ℕ) (b m s : List ℕ) where
  pub agrees : receiver_ready.ready_in b (length m) ≡ true → (c : NodeCall) → Suits c → Agrees v k b m s c
  unfolding seen record_next store_next sender_next received_of heard_of shown bytes_after store_left
  agrees q (receiver l) p = record { shows_it = refl; bytes = refl; store = refl; sending = refl }
  agrees q (node id d a w) (room, p) =
      let f : Frame v k b m (lent_of w s) id d a (node_framed_in b id d m (lent_of w s) a) (frame_received (ready_in (lent_of w s)) (is_responders id d) (lent (frame id d), a)) (frame_heard (lent_of w s) id d) = frame_is v k b m (lent_of w s) id d a room q in
      record { shows_it = f.shows_it; bytes = f.bytes; store = f.store; sending = ap (kept_of w s) f.sending }
  agrees q (node_elsewhere o e id d a w) (room, p) =
      let x : node_framed_in b id d o (lent_of w s) a ≡ node_told (by_receiver (lent_of w s) (frame_in b id d o)) =
      node_is b id d o (lent_of w s) a room ∙ ap node_told (receiver_refuses b o (lent_of w s) id d e) in
      let f : told (frame_in b id d o) ≡ framed_in b id d o a = sym (framed_is b id d o a room) in
      record {
        shows_it =
            ap (λ (y : NodeFramed). node_elsewhere_seen v k b o id d (receiver_part y)) x
            ∙ by_receiver_lem b o (frame_in b id d o) (frame_elsewhere_as v k (record_at b) id d (outcome_of (told (frame_in b id d o))) (reply_in (told (frame_in b id d o))))
            ∙ ap (λ (y : Framed). frame_elsewhere_as v k (record_at b) id d (outcome_of y) (reply_in y)) f;
        bytes = ap (λ (y : NodeFramed). y.1.0) x ∙ ap (λ (y : Framed). y.1.0) f;
        store = refl;
        sending = ap (λ (y : NodeFramed). kept_of w s y.1.1.1.0) x ∙ kept_lent w s;
      }
  agrees q (sender c w) p = record { shows_it = refl; bytes = refl; store = refl; sending = refl }
