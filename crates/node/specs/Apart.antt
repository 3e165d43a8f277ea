-- The two ends of a node: a frame changes one of them at most, and that one as its own call would.
use Rattle.std.specs.Prelude.{ℕ, ◌≡◌, Bool, cond, not, List, length}
use Rattle.std.proofs.Math.Path.{refl, ap}
use Rattle.std.proofs.Common.{sym, ◌∙◌}
use Rattle.std.proofs.Math.Bool.{true, false}
use Rattle.std.proofs.lemmas.Bool.{false≢true}
use Rattle.laws.specs.Choice.{else}
use Rattle.frame.specs.declared.refusal.Refusal.TheVariants.{OutOfBounds}
use Rattle.answer.specs.declared.Answer.TheVariants as answer
use Rattle.lent_record.specs.Ready as receiver
use Rattle.engine.specs.InBytes.{frame_in}
use Rattle.transfer.specs.declared.Reply.TheVariants as reply
use Rattle.sender.specs.Transfers as sender
use Rattle.sender.specs.Calls.{hear_in}
use Rattle.node.specs.declared.NodeAnswer.TheVariants.{Receiver, Sender}
use Rattle.node.specs.Node.{is_responders, NodeCalled, by_sender, by_receiver, node_in}

module _ (b m s : List ℕ) (id : ℕ) (d : List ℕ) where
  -- the three tests, whatever they are
  abbrev by : Bool → Bool → Bool → NodeCalled
  by x y z =
      cond (not x) (Receiver (answer.Refused OutOfBounds), (b, (m, s)))
      (cond (not y) (Sender (reply.Refused OutOfBounds), (b, (m, s)))
      (cond z (by_sender b m (hear_in s id d)) (by_receiver s (frame_in b id d m))))

  -- what goes to the sender changes no byte of the receiver's record or store
  pub receiver_left : is_responders id d ≡ true → ((node_in b m s id d).1.0 ≡ b) × ((node_in b m s id d).1.1.0 ≡ m)
  unfolding node_in
  receiver_left e = go (receiver.ready_in b (length m)) (sender.ready_in s) (is_responders id d) e
    where
      go : (x y z : Bool) → z ≡ true → ((by x y z).1.0 ≡ b) × ((by x y z).1.1.0 ≡ m)
      go false y z e = (refl, refl)
      go true false z e = (refl, refl)
      go true true true e = (refl, refl)
      go true true false e = absurd (false≢true e)

  -- and what goes to the receiver no byte of the sender's
  pub sender_left : is_responders id d ≡ false → (node_in b m s id d).1.1.1 ≡ s
  unfolding node_in
  sender_left e = go (receiver.ready_in b (length m)) (sender.ready_in s) (is_responders id d) e
    where
      go : (x y z : Bool) → z ≡ false → (by x y z).1.1.1 ≡ s
      go false y z e = refl
      go true false z e = refl
      go true true false e = refl
      go true true true e = absurd (false≢true (sym e))

  -- 23 for the sender's record: no byte moves, so the call counts as not made
  pub not_made : sender.ready_in s ≡ false → (node_in b m s id d).1 ≡ (b, (m, s))
  unfolding node_in
  not_made e = go (receiver.ready_in b (length m)) (sender.ready_in s) (is_responders id d) e
    where
      go : (x y z : Bool) → y ≡ false → (by x y z).1 ≡ (b, (m, s))
      go false y z e = refl
      go true false z e = refl
      go true true z e = absurd (false≢true (sym e))

  module _ (sending : sender.ready_in s ≡ true) where
    -- a frame that is not the sender's is the receiver's own call, 23 for its record or store included
    pub as_received : is_responders id d ≡ false → node_in b m s id d ≡ by_receiver s (frame_in b id d m)
    unfolding node_in frame_in
    as_received e = go (receiver.ready_in b (length m)) refl
      where
        go : (x : Bool) → receiver.ready_in b (length m) ≡ x → by x (sender.ready_in s) (is_responders id d) ≡ by_receiver s (frame_in b id d m)
        go true q =
            ap (λ (y : Bool). by true y (is_responders id d)) sending ∙ ap (by true true) e
        go false q = ap (by_receiver s) (else (receiver.ready_in b (length m)) _ _ _ q refl)

    -- and one that is the sender's is its own call, where the receiver's record is in bounds
    pub as_heard : receiver.ready_in b (length m) ≡ true → is_responders id d ≡ true → node_in b m s id d ≡ by_sender b m (hear_in s id d)
    unfolding node_in
    as_heard q e = ap (λ (x : Bool). by x (sender.ready_in s) (is_responders id d)) q ∙ ap (λ (y : Bool). by true y (is_responders id d)) sending ∙ ap (by true true) e
