-- Whose call a frame becomes, and that the node's frame call is that one.
use Rattle.std.specs.Prelude.{ℕ, ◌≡◌, Bool, cond, not, ◌&&◌, ◌||◌, List, length}
use Rattle.std.proofs.Math.Path.{refl, ap}
use Rattle.std.proofs.Common.{sym, ◌∙◌}
use Rattle.std.proofs.Math.Bool.{true, false}
use Rattle.laws.specs.Choice.{then, else}
use Rattle.frame.specs.declared.refusal.Refusal.TheVariants.{OutOfBounds}
use Rattle.answer.specs.declared.Answer.TheVariants as answer
use Rattle.lent_record.specs.Ready as receiver
use Rattle.engine.specs.InBytes.{frame_in}
use Rattle.transfer.specs.declared.Reply.TheVariants as reply
use Rattle.sender.specs.Transfers as sender
use Rattle.sender.specs.Calls.{hear_in}
use Rattle.node.specs.declared.NodeAnswer.TheVariants.{Receiver, Sender}
use Rattle.node.specs.Node.{is_responders, is_senders, NodeCalled, by_sender, by_receiver, node_in}

module _ (b : List ℕ) (n : ℕ) (s : List ℕ) (id : ℕ) (d : List ℕ) where
  -- one for the receiver, whatever the receiver's record
  pub others : sender.ready_in s ≡ true → is_responders id d ≡ false → false ≡ is_senders b n s id d
  unfolding is_senders
  others p e = ap (λ (y : Bool). (not y || false) && receiver.ready_in b n) (sym p) ∙ ap (λ (z : Bool). (not (sender.ready_in s) || z) && receiver.ready_in b n) (sym e)

  -- one for the sender, or that the sender's record must refuse
  pub responders : is_responders id d ≡ true → receiver.ready_in b n ≡ is_senders b n s id d
  unfolding is_senders
  responders e = go (sender.ready_in s) ∙ ap (λ (z : Bool). (not (sender.ready_in s) || z) && receiver.ready_in b n) (sym e)
    where
      go : (y : Bool) → receiver.ready_in b n ≡ ((not y || true) && receiver.ready_in b n)
      go true = refl
      go false = refl

  pub sender_out : sender.ready_in s ≡ false → receiver.ready_in b n ≡ is_senders b n s id d
  unfolding is_senders
  sender_out p = ap (λ (y : Bool). (not y || is_responders id d) && receiver.ready_in b n) (sym p)

-- the call of the end that the frame is for
abbrev pub node_by : List ℕ → List ℕ → List ℕ → ℕ → List ℕ → Bool → NodeCalled
node_by b m s id d t = cond t (by_sender b m (hear_in s id d)) (by_receiver s (frame_in b id d m))

pub routed : (b m s : List ℕ) (id : ℕ) (d : List ℕ) (t : Bool) → t ≡ is_senders b (length m) s id d → node_by b m s id d t ≡ node_in b m s id d
unfolding node_in is_senders frame_in hear_in
routed b m s id d t e = ap (node_by b m s id d) e ∙ go (receiver.ready_in b (length m)) (sender.ready_in s) (is_responders id d) refl refl
  where
    go : (x y z : Bool) → receiver.ready_in b (length m) ≡ x → sender.ready_in s ≡ y
        → node_by b m s id d ((not y || z) && x)
        ≡ cond (not x) (Receiver (answer.Refused OutOfBounds), (b, (m, s)))
        (cond (not y) (Sender (reply.Refused OutOfBounds), (b, (m, s)))
        (cond z (by_sender b m (hear_in s id d)) (by_receiver s (frame_in b id d m))))
    go false true true q p = ap (by_receiver s) (sym (else (receiver.ready_in b (length m)) _ _ _ q refl))
    go false true false q p = ap (by_receiver s) (sym (else (receiver.ready_in b (length m)) _ _ _ q refl))
    go false false z q p = ap (by_receiver s) (sym (else (receiver.ready_in b (length m)) _ _ _ q refl))
    go true false z q p = ap (by_sender b m) (sym (then (not (sender.ready_in s)) _ _ _ (ap not p) refl))
    go true true true q p = refl
    go true true false q p = refl
