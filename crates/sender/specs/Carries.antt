-- The bytes carry the record: a call on a record in bounds leaves the bytes of the record that the model gives.
use Rattle.std.specs.Prelude.{ℕ, ◌<◌, ◌≡◌, Bool, true, List, [], ◌∷◌, eqb, length, get_or, None, Option, Some, is_some}
use Rattle.std.proofs.Common.{arith, sym, ◌∙◌, eqb-true}
use Rattle.std.proofs.Math.Path.{refl, ap}
use Rattle.laws.specs.Choice.{then, each_of}
use Rattle.frame.specs.declared.Address.{Address}
use Rattle.frame.specs.declared.SessionNumber.{SessionNumber}
use Rattle.frame.specs.declared.judge.Route.{Route}
use Rattle.transport.specs.declared.Key.{Key}
use Rattle.transport.specs.Heads.{session_key_of}
use Rattle.transport.specs.Responses.{response_of}
use Rattle.slots.specs.Slots.{Within, first_at, or_else}
use Rattle.slots.specs.Searches.{first_some}
use Rattle.transfer.specs.Kept.{Directed, ChangeFits, ask_fits, ask_opens_for, hear_fits, hear_opens_for}
use Rattle.transfer.proofs.Kept.{announce_fits, announce_opens_for}
use Rattle.sender_bytes.specs.Places.{last_place}
use Rattle.sender_bytes.specs.Layout.{sender_at, transfers_at}
use Rattle.sender_bytes.specs.Changed.{OwnOf, own_of, four_transfers}
use Rattle.sender_bytes.proofs.Changed.{changed_at}
use Rattle.words.specs.Words.{low32}
use Rattle.sender.specs.Transfers.{is_free, holds, first_free, key_place, slot_for, state_in, in_bounds, ready_in}
use Rattle.sender.specs.Calls.{Decides, key_in, announces, asks, hears_from, applied_in, decided_in}
use Rattle.sender.specs.Model.{Stepped, stepped, announce_step, ask_step}
use Rattle.sender.specs.Facts.{ready_long, ready_bounds, state_ok_lem}
use Rattle.transfer.specs.declared.Transfer.{Transfer}

-- what is found lies in the record
module _ (b : List ℕ) where
  below : (p : Option Transfer → Bool) (f : Option ℕ) → f ≡ first_at p 0 (transfers_at b) → Within f 4
  below p (Some i) e = let h : i < length (transfers_at b) = (first_some None p (transfers_at b) i (sym e)).1 in omega (arith, four_transfers b)
  below p None e = tt

  pub key_below : (k : Key) → Within (key_place k (transfers_at b)) 4
  key_below k = below (holds k) (key_place k (transfers_at b)) refl

  pub slot_below : (k : Key) → Within (slot_for k (transfers_at b)) 4
  slot_below k = go (key_place k (transfers_at b)) (key_below k)
    where
      go : (f : Option ℕ) → Within f 4 → Within (or_else f (first_free (transfers_at b))) 4
      go (Some i) h = h
      go None h = below is_free (first_free (transfers_at b)) refl

module _ (b : List ℕ) (ready : ready_in b ≡ true) where
  pub carried : (d : Decides) → Within d.place 4 → ChangeFits d.step.change → OwnOf b d.step.change
      → sender_at (decided_in b d).1 ≡ (stepped (sender_at b) d).1
  carried d w fits own = go d.place w
    where
      go : (f : Option ℕ) → Within f 4 → sender_at (applied_in b f d.step.change) ≡ (stepped (sender_at b) (record { place = f; step = d.step })).1
      go (Some i) low = changed_at b i (ready_long b ready) low d.step.change fits own
      go None low = refl

  module _ (small : low32 b last_place < 4294967296) where
    module _ (da : Address) (session : SessionNumber) where
      abbrev k : Key
      k = key_in b da session

      pub announce_carried : (pgn n : ℕ) → sender_at (decided_in b (announces (sender_at b) k pgn n)).1 ≡ (announce_step (sender_at b) da session pgn n).1
      unfolding announce_step
      announce_carried pgn n =
          let f : Option ℕ = slot_for k (transfers_at b) in
          let x : Option Transfer = state_in f (transfers_at b) in
          carried (announces (sender_at b) k pgn n) (slot_below b k) (announce_fits x (is_some f) k pgn n (low32 b last_place) small)
          (own_of b k (announces (sender_at b) k pgn n).step.change refl (announce_opens_for x (is_some f) k pgn n (low32 b last_place)))
          ∙ ap (λ (y : Stepped). y.1) (then (in_bounds (sender_at b)) _ _ _ (ready_bounds b ready) refl)

      pub ask_carried : (n : ℕ) → sender_at (decided_in b (asks (sender_at b) k n)).1 ≡ (ask_step (sender_at b) da session n).1
      unfolding ask_step
      ask_carried n =
          let f : Option ℕ = key_place k (transfers_at b) in
          let x : Option Transfer = state_in f (transfers_at b) in
          let ok = state_ok_lem b f ready in
          carried (asks (sender_at b) k n) (key_below b k) (ask_fits x n (low32 b last_place) ok small)
          (own_of b k (asks (sender_at b) k n).step.change refl (ask_opens_for x n (low32 b last_place) ok k))
          ∙ ap (λ (y : Stepped). y.1) (then (in_bounds (sender_at b)) _ _ _ (ready_bounds b ready) refl)

    -- a control frame: what is sent to 255 names no transfer of ours, so the one it names is no broadcast
    module _ (route : Route) (d : List ℕ) (aimed : route.sa.0 ≡ 255 → ⊥) where
      abbrev κ : Key
      κ = session_key_of route d

      directed : (f : Option ℕ) → f ≡ key_place κ (transfers_at b) → Directed (state_in f (transfers_at b))
      directed None e = tt
      directed (Some i) e = go (get_or (transfers_at b) i None) (first_some None (holds κ) (transfers_at b) i (sym e)).0
        where
          go : (x : Option Transfer) → holds κ x ≡ true → Directed x
          go None h = tt
          go (Some t) h = λ q. aimed (sym (eqb-true _ _ (each_of (eqb t.offer.key.sa.0 κ.sa.0 ∷ eqb t.offer.key.da.0 κ.da.0 ∷ eqb t.offer.key.session.0 κ.session.0 ∷ []) h).1.0) ∙ q)

      pub hear_carried : sender_at (decided_in b (hears_from (sender_at b) route d)).1 ≡ (stepped (sender_at b) (hears_from (sender_at b) route d)).1
      hear_carried =
          let f : Option ℕ = key_place κ (transfers_at b) in
          let x : Option Transfer = state_in f (transfers_at b) in
          let ok = state_ok_lem b f ready in
          carried (hears_from (sender_at b) route d) (key_below b κ)
          (hear_fits x (response_of route d) (low32 b last_place) ok (directed f refl) small)
          (own_of b (key_in b κ.da κ.session) (hears_from (sender_at b) route d).step.change refl
          (hear_opens_for x (response_of route d) (low32 b last_place) ok (directed f refl) (key_in b κ.da κ.session)))
