-- What holds of each outcome of an EOMS holds of the EOMS: the cases are told apart once, here. Nothing here needs to be believed.
use Rattle.std.specs.Prelude.{◌≡◌, ℕ, Bool, true, false, cond, nat_lt, refl}
use Rattle.frame.specs.declared.refusal.Refusal.TheVariants.{StatusMismatch, RequestsSpent}
use Rattle.transport.specs.Kinds.{is_rts}
use Rattle.transport.specs.declared.eoms.Status.{Status}
use Rattle.session.specs.declared.Session.{Session}
use Rattle.session.specs.declared.Step.{Step}
use Rattle.session.specs.Ends.{status_matches, all_in}
use Rattle.session.specs.Decisions.{ended, hands_over, asks, status_open}

module _ (P : Step → Type 0) (s : Session) (slot : ℕ) (st : Status) (last : ℕ)
    (unlike : P (ended s StatusMismatch))
    (whole : status_matches s st ≡ true → all_in s ≡ true → P (hands_over slot s))
    (asked : is_rts s.announced.kind ≡ true → all_in s ≡ false → nat_lt s.progress.requests 5 ≡ true → P (asks s last))
    (spent : P (ended s RequestsSpent)) where
  pub by_status : P (status_open s slot st last)
  by_status = go (status_matches s st) refl (all_in s) refl (is_rts s.announced.kind) refl (nat_lt s.progress.requests 5) refl
    where
      go : (t : Bool) → status_matches s st ≡ t → (u : Bool) → all_in s ≡ u → (v : Bool) → is_rts s.announced.kind ≡ v
          → (w : Bool) → nat_lt s.progress.requests 5 ≡ w
          → P (cond t (cond u (hands_over slot s) (cond v (cond w (asks s last) (ended s RequestsSpent)) (ended s StatusMismatch))) (ended s StatusMismatch))
      go false a u b v c w d = unlike
      go true a true b v c w d = whole a b
      go true a false b false c w d = unlike
      go true a false b true c true d = asked c b d
      go true a false b true c false d = spent
