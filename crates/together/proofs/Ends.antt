-- The two ends of a node at the boundary: what goes to the sender leaves the receiver, and an answer's code says which end gave it.
use Prim.Native.Nat.{ℕ}
use mathlib.Core.Path.{◌≡◌, refl, sym, ap, ap₂, ◌∙◌, subst}
use mathlib.Core.Bool.{Bool, true, false, cond, not, ◌&&◌, false≢true}
use mathlib.Core.List.{List, [], ◌∷◌, cons≢nil}
use mathlib.Mathlib.Data.Bool.Basic.{and_elim_left, and_elim_right}
use lib.Dec.{eqb}
use lib.ListN.{length}
use borrow.Author.Tests.{eqb-true, eq-eqb}
use Rattle.laws.specs.Choice.{else}
use Rattle.answer.specs.declared.Answer.{Answer}
use Rattle.answer.specs.declared.Answer.TheVariants as answer
use Rattle.transfer.specs.declared.Reply.{Reply}
use Rattle.transfer.specs.declared.Reply.TheVariants as reply
use Rattle.answer_bytes.specs.Places.{answer_length}
use Rattle.answer_bytes.specs.Answers.{answer_bytes, fields_bytes}
use Rattle.reply_bytes.specs.Replies.{reply_bytes}
use Rattle.sender.specs.Transfers as sender
use Rattle.node.specs.declared.NodeAnswer.TheVariants.{Receiver, Sender}
use Rattle.frame.specs.declared.refusal.Refusal.TheVariants.{OutOfBounds}
use Rattle.lent_record.specs.Ready as receiver
use Rattle.engine.specs.InBytes.{frame_in}
use Rattle.sender.specs.Calls.{hear_in}
use Rattle.node.specs.Node.{is_responders, NodeCalled, by_sender, by_receiver, node_in}
use Rattle.isolation.specs.Rules.{stray}
use Rattle.carried.specs.Shown.{reply_in}
use Rattle.node.specs.Apart.{receiver_left, not_made}
use Rattle.dwaebinam.specs.Node.{NodeFramed, node_bytes, node_told, node_framed_in}
use Rattle.together.specs.Seen.{same_bytes, Framed, sender_answers, sender_seen}

-- ---- codes

pub reply_code : (r : Reply) → sender_answers (reply_bytes r) ≡ true
unfolding fields_bytes
reply_code (reply.Announced o) = refl
reply_code (reply.Segment n) = refl
reply_code (reply.Status o) = refl
reply_code reply.NothingDue = refl
reply_code reply.Granted = refl
reply_code (reply.Acknowledged k) = refl
reply_code (reply.Aborted k) = refl
reply_code (reply.Ended e) = refl
reply_code (reply.Refused n) = refl

pub answer_code : (x : Answer) → sender_answers (answer_bytes x) ≡ false
unfolding fields_bytes
answer_code (answer.Groups route) = refl
answer_code (answer.Opened k) = refl
answer_code (answer.Taken t) = refl
answer_code (answer.Grant c) = refl
answer_code (answer.HandedOver m) = refl
answer_code (answer.Aborted k) = refl
answer_code (answer.Ended e) = refl
answer_code (answer.RefusedRts j) = refl
answer_code (answer.Refused n) = refl

-- ---- the node's frame call at the boundary

-- with room of the right length
pub node_is : (b : List ℕ) (id : ℕ) (d m s a : List ℕ) → length a ≡ answer_length → node_framed_in b id d m s a ≡ node_told (node_in b m s id d)
unfolding node_framed_in
node_is b id d m s a room = sym (else (not (eqb (length a) answer_length)) _ _ _ (ap not (eq-eqb _ _ room)) refl)

-- the receiver's record and store are b and m
abbrev pub Stays : List ℕ → List ℕ → NodeFramed → Type 0
Stays b m x = (x.1.0 ≡ b) × (x.1.1.0 ≡ m)

module _ (b m s : List ℕ) (id : ℕ) (d a : List ℕ) where
  stays_by : Stays b m (node_told (node_in b m s id d)) → Stays b m (node_framed_in b id d m s a)
  unfolding node_framed_in
  stays_by h = go (not (eqb (length a) answer_length))
    where
      go : (t : Bool) → Stays b m (cond t (23, (b, (m, (s, a)))) (node_told (node_in b m s id d)))
      go true = (refl, refl)
      go false = h

  -- WHAT GOES TO THE SENDER changes no byte of the receiver's record or store, whatever the three buffers, the frame and the room are.
  pub sender_apart : is_responders id d ≡ true → Stays b m (node_framed_in b id d m s a)
  sender_apart e = stays_by (receiver_left b m s id d e)

  -- Nor does a frame where the sender's record is out of bounds: it counts as not made.
  pub sender_out : sender.ready_in s ≡ false → Stays b m (node_framed_in b id d m s a)
  sender_out e = stays_by (let q = not_made b m s id d e in (ap (λ (x : List ℕ × (List ℕ × List ℕ)). x.0) q, ap (λ (x : List ℕ × (List ℕ × List ℕ)). x.1.0) q))

  -- Nor does any frame that the sender answers, by the code in the answer's bytes.
  pub answered_apart : length a ≡ answer_length → sender_answers (node_framed_in b id d m s a).1.1.1.1 ≡ true → Stays b m (node_framed_in b id d m s a)
  unfolding node_in
  answered_apart room e =
      let q : node_framed_in b id d m s a ≡ node_told (node_in b m s id d) = node_is b id d m s a room in
      stays_by (go (receiver.ready_in b (length m)) (sender.ready_in s) (is_responders id d) (subst (λ (x : NodeFramed). sender_answers x.1.1.1.1 ≡ true) q e))
    where
      by : Bool → Bool → Bool → NodeCalled
      by x y z =
          cond (not x) (Receiver (answer.Refused OutOfBounds), (b, (m, s)))
          (cond (not y) (Sender (reply.Refused OutOfBounds), (b, (m, s)))
          (cond z (by_sender b m (hear_in s id d)) (by_receiver s (frame_in b id d m))))

      not_receiver : {A : Type 0} (x : Answer) → sender_answers (answer_bytes x) ≡ true → A
      not_receiver x e = absurd (false≢true (sym (answer_code x) ∙ e))

      go : (x y z : Bool) → sender_answers (node_bytes (by x y z).0) ≡ true → Stays b m (node_told (by x y z))
      go false y z e = not_receiver (answer.Refused OutOfBounds) e
      go true false z e = (refl, refl)
      go true true true e = (refl, refl)
      go true true false e = not_receiver (frame_in b id d m).0 e

-- ---- bytes that are seen not to move

pub same_is : (x y : List ℕ) → same_bytes x y ≡ true → x ≡ y
same_is [] [] e = refl
same_is [] (y ∷ ys) e = absurd (false≢true e)
same_is (x ∷ xs) [] e = absurd (false≢true e)
same_is (x ∷ xs) (y ∷ ys) e =
    ap₂ (λ (a : ℕ) (l : List ℕ). a ∷ l) (eqb-true x y (and_elim_left (eqb x y) (same_bytes xs ys) e)) (same_is xs ys (and_elim_right (eqb x y) (same_bytes xs ys) e))

pub same_self : (x : List ℕ) → same_bytes x x ≡ true
same_self [] = refl
same_self (x ∷ xs) = ap₂ ◌&&◌ (eq-eqb x x refl) (same_self xs)

-- So a call that the sender answers shows nothing only if it left the receiver's record and store as they were.
pub unseen_stays : (b m : List ℕ) (x : Framed) → sender_seen b m x ≡ [] → (x.1.0 ≡ b) × (x.1.1.0 ≡ m)
unseen_stays b m x e =
    let h : (same_bytes x.1.0 b && same_bytes x.1.1.0 m) ≡ true = silent _ e in
    (same_is x.1.0 b (and_elim_left (same_bytes x.1.0 b) (same_bytes x.1.1.0 m) h), same_is x.1.1.0 m (and_elim_right (same_bytes x.1.0 b) (same_bytes x.1.1.0 m) h))
  where
    silent : (t : Bool) → cond t [] (stray (reply_in x) ∷ []) ≡ [] → t ≡ true
    silent true e = refl
    silent false e = absurd (cons≢nil e)
