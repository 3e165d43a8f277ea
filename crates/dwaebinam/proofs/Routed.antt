-- The node's frame call is that of the end that the frame is for.
use Prim.Native.Nat.{ℕ}
use mathlib.Core.Path.{◌≡◌, refl, sym, ap, ◌∙◌}
use mathlib.Core.Bool.{Bool, true, false, not}
use mathlib.Core.List.{List}
use lib.Dec.{eqb}
use lib.ListN.{length}
use borrow.Author.Tests.{eq-eqb}
use Rattle.laws.specs.Choice.{else}
use Rattle.answer_bytes.specs.Places.{answer_length}
use Rattle.sender.specs.Calls.{hear_in}
use Rattle.engine.specs.InBytes.{frame_in}
use Rattle.node.specs.Node.{is_senders}
use Rattle.node.specs.Routes.{node_by, routed}
use Rattle.dwaebinam.specs.Calls.{told, framed_in}
use Rattle.dwaebinam.specs.Sending.{replied, heard_in}
use Rattle.dwaebinam.specs.Node.{NodeFramed, node_told, node_framed_in}

module _ (b : List ℕ) (id : ℕ) (d m s a : List ℕ) (long : length a ≡ answer_length) where
  roomy : not (eqb (length a) answer_length) ≡ false
  roomy = ap not (eq-eqb (length a) answer_length long)

  told_by : (t : Bool) → t ≡ is_senders b (length m) s id d → node_told (node_by b m s id d t) ≡ node_framed_in b id d m s a
  unfolding node_framed_in
  told_by t e = else (not (eqb (length a) answer_length)) _ _ _ roomy (ap node_told (routed b m s id d t e))

  framed_long : framed_in b id d m a ≡ told (frame_in b id d m)
  unfolding framed_in
  framed_long = sym (else (not (eqb (length a) answer_length)) _ _ _ roomy refl)

  heard_long : heard_in s id d a ≡ replied (hear_in s id d)
  unfolding heard_in
  heard_long = sym (else (not (eqb (length a) answer_length)) _ _ _ roomy refl)

  abbrev received : ℕ × (List ℕ × (List ℕ × List ℕ)) → NodeFramed
  received q = (q.0, (q.1.0, (q.1.1.0, (s, q.1.1.1))))

  abbrev heard : ℕ × (List ℕ × List ℕ) → NodeFramed
  heard q = (q.0, (b, (m, (q.1.0, q.1.1))))

  -- the receiver's own call
  pub to_receiver : (n : ℕ) (b' m' o : List ℕ) → false ≡ is_senders b (length m) s id d
      → ◌≡◌ {A = ℕ × (List ℕ × (List ℕ × List ℕ))} (n, (b', (m', o))) (framed_in b id d m a)
      → (n, (b', (m', (s, o)))) ≡ node_framed_in b id d m s a
  to_receiver n b' m' o e p = ap received (p ∙ framed_long) ∙ told_by false e

  -- the sender's
  pub to_sender : (n : ℕ) (s' o : List ℕ) → true ≡ is_senders b (length m) s id d
      → ◌≡◌ {A = ℕ × (List ℕ × List ℕ)} (n, (s', o)) (heard_in s id d a)
      → (n, (b, (m, (s', o)))) ≡ node_framed_in b id d m s a
  to_sender n s' o e p = ap heard (p ∙ heard_long) ∙ told_by true e
