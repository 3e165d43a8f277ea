-- The link's frames as Losses reads them: which may not be lost, and what each weighs; and calm moves, which are those of the link.
use Rattle.std.specs.Prelude.{None, Option, Result, Some}
use Prim.Native.Nat.{ℕ, zero, suc, ◌+◌, ◌*◌, ◌≤◌, ◌<◌}
use mathlib.Core.Path.{◌≡◌, refl, ap, ◌∙◌}
use mathlib.Core.Bool.{Bool, true, false, cond}
use mathlib.Core.List.{List, [], ◌∷◌, append-nil}
use native.Mathlib.Omega.{arith}
use Rattle.laws.specs.Bools.{by_test}
use Rattle.transport.specs.ReadBack.{Three}
use Rattle.transfer.specs.Sends.{offer_wire, segment_wire, status_wire}
use Rattle.isolation.specs.Standard.{Cause}
use Rattle.isolation.specs.OwnFrames.{Body}
use Rattle.isolation.specs.Replies.{Wire}
use Rattle.isolation.specs.Rules as rules
use Rattle.isolation.specs.Rules.{Values, is_silent, judged_at, ends_at}
use Rattle.delivery.specs.Link.{Setting, key_in, Link, take_backward, read_sender, read_receiver, step, offer}
use Rattle.delivery.specs.Arrival.{Fair, CalmAt, Unended}
use Rattle.delivery.specs.Losses.{keeps, queues, ending_frames, sent_at, sent_after, sent_in, lossy, may_lose, MayLoseOldest, weight_forth, weight_back, forth, back}
use Rattle.delivery.proofs.Wires.{reads_for, on_offer, on_status, on_segment, cts_wire, eoma_wire, abort_wire, cts_read, eoma_read, abort_read}
use Rattle.delivery.proofs.Expected.{count}
use Rattle.delivery.proofs.Stages.{flight}
use Rattle.frame.specs.declared.refusal.Refusal.{Refusal}
use Rattle.transfer.specs.declared.Transfer.{Transfer}
use Rattle.transport.specs.declared.response.ResponseRead.{ResponseRead}

-- ---- frames to the receiver

module _ (s : Setting) (fair : Fair s) where
  not_true : (t : Bool) → t ≡ false → t ≡ true → ⊥
  not_true t a b = let z : ◌≡◌ {A = ℕ} 0 1 = cc in omega arith

  -- the announcement and the EOMS are not lost
  pub offer_kept : (x : Option rules.Open) (fs : List Wire) → MayLoseOldest s x (offer_wire (offer s) ∷ fs) → ⊥
  unfolding may_lose
  offer_kept x fs h = not_true _ (ap (may_lose s x) (reads_for s _ _ (on_offer s fair))) h

  pub status_kept : (x : Option rules.Open) (fs : List Wire) → MayLoseOldest s x (status_wire (offer s) ∷ fs) → ⊥
  unfolding may_lose
  status_kept x fs h = not_true _ (ap (may_lose s x) (reads_for s _ _ (on_status s fair))) h

  pub forth_offer : (fs : List Wire) → forth s (offer_wire (offer s) ∷ fs) ≡ 53 * (5 + count s) + 2 + forth s fs
  unfolding forth
  forth_offer fs = ap (λ (b : Option Body). weight_forth s b + forth s fs) (reads_for s _ _ (on_offer s fair))

  pub forth_segment : (j : ℕ) → j < count s → (fs : List Wire) → forth s (segment_wire (key_in s) s.message (j + 1) ∷ fs) ≡ 2 + forth s fs
  unfolding forth
  forth_segment j l fs = ap (λ (b : Option Body). weight_forth s b + forth s fs) (reads_for s _ _ (on_segment s fair (j + 1) (omega arith) (omega arith)))

  pub forth_status : (fs : List Wire) → forth s (status_wire (offer s) ∷ fs) ≡ 2 + forth s fs
  unfolding forth
  forth_status fs = ap (λ (b : Option Body). weight_forth s b + forth s fs) (reads_for s _ _ (on_status s fair))

  pub forth_flight : (j n : ℕ) (e : Bool) → j + n ≤ count s → forth s (flight s j n e) ≡ 2 * n + cond e 2 0
  unfolding flight
  forth_flight j zero false l = unfold forth in refl
  forth_flight j zero true l = forth_status [] ∙ (unfold forth in refl)
  forth_flight j (suc n) e l =
      let ih : forth s (flight s (j + 1) n e) ≡ 2 * n + cond e 2 0 = forth_flight (j + 1) n e (omega arith) in
      let z = forth_segment j (omega arith) (flight s (j + 1) n e) in
      omega arith

  -- ---- frames to the sender

  pub back_cts : (n c : ℕ) → Three n → (fs : List Wire) → back (cts_wire s n c ∷ fs) ≡ 52 + back fs
  unfolding back
  back_cts n c l fs = ap (λ (r : Result ResponseRead Refusal). weight_back r + back fs) (cts_read s fair n c l)

  pub back_eoma : (fs : List Wire) → back (eoma_wire s ∷ fs) ≡ 1 + back fs
  unfolding back
  back_eoma fs = ap (λ (r : Result ResponseRead Refusal). weight_back r + back fs) (eoma_read s fair)

  pub back_abort : (c : Cause) (fs : List Wire) → back (abort_wire s c ∷ fs) ≡ 1 + back fs
  unfolding back
  back_abort c fs = ap (λ (r : Result ResponseRead Refusal). weight_back r + back fs) (abort_read s fair c)

-- ---- a calm reading sends nothing

unended_sends : (limit t : ℕ) (x : Option Transfer) → Unended limit t x → sent_at limit t x ≡ []
unended_sends limit t None u = refl
unended_sends limit t (Some x) u = ap ending_frames u

judged_sends : (v : Values) (k t : ℕ) (x : Option rules.Open) → judged_at v t x ≡ x → sent_in (ends_at v k t x) ≡ []
unfolding judged_at ends_at
judged_sends v k t None e = refl
judged_sends v k t (Some r) e = by_test (is_silent v t r) (λ h. absurd (gone (is_silent v t r) h e)) (λ h. rw h)
  where
    gone : (b : Bool) → b ≡ true → cond b None (Some r) ≡ Some r → ⊥
    gone true h e = let z : ◌≡◌ {A = ℕ} 0 1 = cc in omega arith
    gone false h e = let z : ◌≡◌ {A = ℕ} 0 1 = cc in omega arith

pub calm_sender : (s : Setting) (x : Link) (t : ℕ) → CalmAt s x (read_sender t) → lossy s x (keeps (read_sender t)) ≡ step s x (read_sender t)
unfolding lossy queues
calm_sender s x t calm = rw (unended_sends s.limit t x.transfer calm, append-nil (step s x (read_sender t)).forward)

pub calm_receiver : (s : Setting) (x : Link) (t : ℕ) → CalmAt s x (read_receiver t) → lossy s x (keeps (read_receiver t)) ≡ step s x (read_receiver t)
unfolding lossy queues
calm_receiver s x t calm = rw (judged_sends s.values s.key t x.session calm, append-nil (step s x (read_receiver t)).backward)

-- a frame taken at the sender, where what it answers sends nothing
pub calm_backward : (s : Setting) (x : Link) → sent_after s x x.backward ≡ [] → lossy s x (keeps take_backward) ≡ step s x take_backward
unfolding lossy queues
calm_backward s x e = rw (e, append-nil (step s x take_backward).forward)
