-- One session at a reading keeps step with its rules.
use Rattle.std.specs.Prelude.{None, Option, Some}
use Prim.Native.Nat.{ℕ}
use mathlib.Core.Path.{◌≡◌, refl, ap}
use mathlib.Core.Bool.{Bool, true, false, cond}
use mathlib.Core.List.{List, [], ◌∷◌}
use Rattle.progress.specs.declared.wait.IdleLimits.{IdleLimits}
use Rattle.frame.specs.declared.refusal.Refusal.TheVariants.{Silence}
use Rattle.session.specs.declared.Session.{Session}
use Rattle.transport.specs.Kinds.{is_rts}
use Rattle.slots.specs.Slots.{same_key}
use Rattle.session.specs.Decisions as D
use Rattle.receiver.specs.Calls.{after_end, expired, end_of}
use Rattle.transport.specs.Reasons.{reason_of}
use Rattle.isolation.specs.Standard.{silent, number_for, reason_for}
use Rattle.isolation.specs.OwnFrames as F
use Rattle.isolation.specs.Replies as P
use Rattle.isolation.specs.OwnFrames.{key_at}
use Rattle.isolation.specs.Replies.{Reply, ending, abort_frame}
use Rattle.isolation.specs.Rules.{Values, Open, judged_at, ends_at, is_silent}
use Rattle.isolation.specs.Observe.{end_reply, ending_of}
use Rattle.isolation.proofs.Tests.{clash}
use Rattle.isolation.proofs.Slots.{holds, own_key, holds_one}
use Rattle.isolation.proofs.Same.{kind_same, since_same}
use Rattle.isolation.proofs.Fit.{Kept, record_of, Ses, wire_cond}

pub ses_holds : (v : Values) (k : ℕ) (s : Session) (p : List ℕ) (y : Option Open) → Ses v k (Some s) p y → holds k (Some s) ≡ true
unfolding holds
ses_holds v k s p None m = absurd m
ses_holds v k s p (Some ρ) m = rw m.1 (own_key k)

pub ses_key : (v : Values) (k : ℕ) (x : Option Session) (p : List ℕ) (y : Option Open) → Ses v k x p y → (j : ℕ) → holds j x ≡ true → j ≡ k
ses_key v k None p y m j e = unfold holds in (absurd (clash false e refl))
ses_key v k (Some s) p y m j e = holds_one j k (Some s) e (ses_holds v k s p y m)

pub ses_shut : (v : Values) (k : ℕ) (x : Option Session) (p : List ℕ) (y : Option Open) → Ses v k x p y → holds k x ≡ false → (x ≡ None) × (y ≡ None)
ses_shut v k None p None m e = (refl, refl)
ses_shut v k None p (Some ρ) m e = absurd m
ses_shut v k (Some s) p y m e = absurd (clash (holds k (Some s)) (ses_holds v k s p y m) e)

pub expire_ses : (v : Values) (t k : ℕ) (x : Option Session) (p : List ℕ) (y : Option Open) → Ses v k x p y → Ses v k (expired v.limits t x) p (judged_at v t y)
unfolding judged_at is_silent
expire_ses v t k None p None m = tt
expire_ses v t k None p (Some ρ) m = absurd m
expire_ses v t k (Some s) p None m = absurd m
expire_ses v t k (Some s) p (Some ρ) m = rw (m.1, since_same ρ.mark t) (go (D.is_silent v.limits t (record_of k ρ m.0)))
  where
    go : (b : Bool) → Ses v k (after_end (cond b (Some (D.ending_of (record_of k ρ m.0) Silence)) None) (Some (record_of k ρ m.0))) p (cond b None (Some ρ))
    go true = tt
    go false = (m.0, refl, m.2)

pub expire_holds : (limits : IdleLimits) (t k : ℕ) (x : Option Session) → holds k (expired limits t x) ≡ true → holds k x ≡ true
unfolding holds
expire_holds limits t k None e = e
expire_holds limits t k (Some s) e = go (D.is_silent limits t s) e
  where
    go : (b : Bool) → holds k (after_end (cond b (Some (D.ending_of s Silence)) None) (Some s)) ≡ true → same_key s.announced.key (key_at k) ≡ true
    go true e = absurd (clash false e refl)
    go false e = e

end_same : (k : ℕ) (ρ : Open) (x : Kept) → end_reply (D.ending_of (record_of k ρ x) Silence) ≡ ending k ρ.told silent
unfolding end_reply ending number_for reason_for reason_of
end_same k ρ x =
    ap (λ (w : Option P.Wire). record { number = 22; says = P.ended (key_at k) ρ.told.kind ρ.told.pgn; sends = w })
    (wire_cond (is_rts ρ.told.kind) (F.is_rts ρ.told.kind) (abort_frame k silent ρ.told.pgn) (kind_same ρ.told.kind))

pub ends_own : (v : Values) (t k : ℕ) (x : Option Session) (p : List ℕ) (y : Option Open) → Ses v k x p y → ending_of k (end_of v.limits t x) ≡ ends_at v k t y
unfolding ending_of ends_at is_silent
ends_own v t k None p None m = refl
ends_own v t k None p (Some ρ) m = absurd m
ends_own v t k (Some s) p None m = absurd m
ends_own v t k (Some s) p (Some ρ) m = rw (m.1, since_same ρ.mark t) (go (D.is_silent v.limits t (record_of k ρ m.0)))
  where
    go : (b : Bool) → ending_of k (cond b (Some (D.ending_of (record_of k ρ m.0) Silence)) None) ≡ cond b (ending k ρ.told silent ∷ []) []
    go true = rw (own_key k) (ap (λ (e : Reply). e ∷ []) (end_same k ρ m.0))
    go false = refl

pub ends_other : (limits : IdleLimits) (t k : ℕ) (x : Option Session) → holds k x ≡ false → ending_of k (end_of limits t x) ≡ []
unfolding ending_of holds
ends_other limits t k None e = refl
ends_other limits t k (Some s) e = go (D.is_silent limits t s)
  where
    go : (b : Bool) → ending_of k (cond b (Some (D.ending_of s Silence)) None) ≡ []
    go true = rw e
    go false = refl
