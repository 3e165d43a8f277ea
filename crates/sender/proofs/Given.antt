-- A call that is given a record in bounds and room for a frame, beside what Calls.antt says.
use Rattle.std.specs.Prelude.{ℕ, ◌≡◌, true, not, List, eqb, length}
use Rattle.std.proofs.Common.{ap, ◌∙◌, eq-eqb}
use Rattle.laws.specs.Choice.{else}
use Rattle.frame.specs.declared.Address.{Address}
use Rattle.frame.specs.declared.SessionNumber.{SessionNumber}
use Rattle.transport.specs.declared.Key.{Key}
use Rattle.sender_bytes.specs.Layout.{sender_at}
use Rattle.sender.specs.Transfers.{ready_in}
use Rattle.sender.specs.Calls.{Called, key_in, announces, asks, given_in, announce_in, ask_in}

module _ (b r : List ℕ) (da : Address) (session : SessionNumber) (m out : List ℕ) (x : Called) (k : Key) (same : r ≡ b) (ready : ready_in r ≡ true) (room : length out ≡ 64)
    (key : k ≡ key_in r da session) where
  pub announce_given : (pgn : ℕ) → x ≡ given_in r k m out (announces (sender_at r) k pgn (length m)) → x ≡ announce_in b da session pgn m out
  unfolding announce_in
  announce_given pgn g =
      else (not (ready_in r)) _ _ _ (ap not ready)
      (else (not (eqb (length out) 64)) _ _ _ (ap not (eq-eqb _ _ room))
      (g ∙ ap (λ (κ : Key). given_in r κ m out (announces (sender_at r) κ pgn (length m))) key))
      ∙ ap (λ (y : List ℕ). announce_in y da session pgn m out) same

  pub ask_given : x ≡ given_in r k m out (asks (sender_at r) k (length m)) → x ≡ ask_in b da session m out
  unfolding ask_in
  ask_given g =
      else (not (ready_in r)) _ _ _ (ap not ready)
      (else (not (eqb (length out) 64)) _ _ _ (ap not (eq-eqb _ _ room))
      (g ∙ ap (λ (κ : Key). given_in r κ m out (asks (sender_at r) κ (length m))) key))
      ∙ ap (λ (y : List ℕ). ask_in y da session m out) same
