-- Every call on a sender's record in bounds gives one in bounds: of the record by value, and of its bytes (02, E2).
use Rattle.std.specs.Prelude.{Err, None, Ok, Option, Result, Some, ℕ}
use Prim.Native.Nat.{ℕ, ◌<◌}
use mathlib.Core.Path.{◌≡◌, refl, sym, ap, ◌∙◌}
use mathlib.Core.Bool.{true, not}
use mathlib.Core.List.{List}
use lib.Dec.{eqb}
use lib.ListN.{length}
use borrow.Author.Tests.{eq-eqb}
use Rattle.laws.specs.Choice.{else}
use Rattle.frame.specs.Judge.{judged}
use Rattle.frame.specs.declared.Address.{Address}
use Rattle.frame.specs.declared.SessionNumber.{SessionNumber}
use Rattle.frame.specs.declared.judge.Content.TheVariants as verdict
use Rattle.slots.specs.Slots.{Within}
use Rattle.transport.specs.Heads.{session_key_of}
use Rattle.session.specs.declared.Change.{Change}
use Rattle.transfer.specs.declared.Reply.{Reply}
use Rattle.words.specs.Words.{low32}
use Rattle.sender_bytes.specs.Places.{record_length, last_place}
use Rattle.sender_bytes.specs.Layout.{Sender, sender_at, own_at}
use Rattle.sender_bytes.proofs.Changed.{length_changed}
use Rattle.sender.specs.Transfers.{in_bounds, ready_in}
use Rattle.sender.specs.Calls.{Decides, key_in, announces, asks, hears_from, applied_in, decided_in, on_verdict, hear_in}
use Rattle.sender.specs.Model.{Stepped, announce_step, ask_step, by_verdict, frame_step, reading_step, key_of}
use Rattle.sender.specs.Facts.{ready_long, ready_bounds}
use Rattle.sender.specs.Carries.{key_below, slot_below, announce_carried, ask_carried, hear_carried}
use Rattle.sender.specs.Clock.{reading_in}
use Rattle.sender.specs.CarriesClock.{reading_long, reading_carried}
use Rattle.delivery.proofs.Sides.{in_bounds_lem, announce_called, ask_called, frame_is, hear_called, routed_aimed, reading_reads}
use Rattle.frame.specs.declared.judge.Content.{Content}
use Rattle.frame.specs.declared.refusal.Refusal.{Refusal}
use Rattle.transfer.specs.declared.Transfer.{Transfer}
use Rattle.transfer.specs.declared.Course.{Course}

module _ (p : Sender) (e : in_bounds p ≡ true) where
  pub announce_bounded : (da : Address) (session : SessionNumber) (pgn n : ℕ) → in_bounds (announce_step p da session pgn n).1 ≡ true
  announce_bounded da session pgn n = in_bounds_lem _ (announce_called p e da session pgn n).acts.ready

  pub ask_bounded : (da : Address) (session : SessionNumber) (n : ℕ) → in_bounds (ask_step p da session n).1 ≡ true
  ask_bounded da session n = in_bounds_lem _ (ask_called p e da session n).acts.ready

  pub frame_bounded : (id : ℕ) (d : List ℕ) → in_bounds (frame_step p id d).1 ≡ true
  frame_bounded id d = go (judged p.own id (length d)) refl
    where
      unread : (v : Result Content Refusal) → judged p.own id (length d) ≡ v → (by_verdict v p d).1 ≡ p → in_bounds (frame_step p id d).1 ≡ true
      unread v j s = ap in_bounds (ap (λ (a : Stepped). a.1) (frame_is p e id d) ∙ ap (λ (u : Result Content Refusal). (by_verdict u p d).1) j ∙ s) ∙ e

      go : (v : Result Content Refusal) → judged p.own id (length d) ≡ v → in_bounds (frame_step p id d).1 ≡ true
      go (Ok (verdict.Control ρ)) j = in_bounds_lem _ (hear_called p e id d ρ j).acts.ready
      go (Ok (verdict.MultiPg ρ)) j = unread (Ok (verdict.MultiPg ρ)) j refl
      go (Ok (verdict.Data ρ)) j = unread (Ok (verdict.Data ρ)) j refl
      go (Err n) j = unread (Err n) j refl

  pub reading_bounded : (t : ℕ) → in_bounds (reading_step p t).1 ≡ true
  reading_bounded t = in_bounds_lem _ (reading_reads p e (key_of p p.own (record { 0 = 0 })) t).ready

-- ---- the same of the bytes

record_ready : (b : List ℕ) → length b ≡ record_length → in_bounds (sender_at b) ≡ true → ready_in b ≡ true
unfolding ready_in
record_ready b l h = sym (else (not (eqb (length b) record_length)) _ _ _ (ap not (eq-eqb (length b) record_length l)) (sym h))

module _ (b : List ℕ) (ready : ready_in b ≡ true) where
  as_long : (f : Option ℕ) (c : Change Transfer Course) → Within f 4 → length (applied_in b f c) ≡ record_length
  as_long (Some i) c low = length_changed b i (ready_long b ready) low c
  as_long None c low = ready_long b ready

  module _ (small : low32 b last_place < 4294967296) where
    pub announce_ready : (da : Address) (session : SessionNumber) (pgn n : ℕ) → ready_in (decided_in b (announces (sender_at b) (key_in b da session) pgn n)).1 ≡ true
    announce_ready da session pgn n =
        let d : Decides = announces (sender_at b) (key_in b da session) pgn n in
        record_ready _ (as_long d.place d.step.change (slot_below b (key_in b da session)))
        (ap in_bounds (announce_carried b ready small da session pgn n) ∙ announce_bounded (sender_at b) (ready_bounds b ready) da session pgn n)

    pub ask_ready : (da : Address) (session : SessionNumber) (n : ℕ) → ready_in (decided_in b (asks (sender_at b) (key_in b da session) n)).1 ≡ true
    ask_ready da session n =
        let d : Decides = asks (sender_at b) (key_in b da session) n in
        record_ready _ (as_long d.place d.step.change (key_below b (key_in b da session)))
        (ap in_bounds (ask_carried b ready small da session n) ∙ ask_bounded (sender_at b) (ready_bounds b ready) da session n)

    pub frame_ready : (id : ℕ) (d : List ℕ) → ready_in (hear_in b id d).1 ≡ true
    unfolding hear_in
    frame_ready id d =
        ap (λ (x : Reply × List ℕ). ready_in x.1) (sym (else (not (ready_in b)) _ _ _ (ap not ready) refl)) ∙ go (judged (own_at b) id (length d)) refl
      where
        go : (v : Result Content Refusal) → judged (own_at b) id (length d) ≡ v → ready_in (on_verdict v b d).1 ≡ true
        go (Ok (verdict.MultiPg ρ)) j = ready
        go (Ok (verdict.Data ρ)) j = ready
        go (Err n) j = ready
        go (Ok (verdict.Control ρ)) j =
            let e : Decides = hears_from (sender_at b) ρ d in
            record_ready _ (as_long e.place e.step.change (key_below b (session_key_of ρ d)))
            (ap in_bounds (hear_carried b ready small ρ d (routed_aimed (own_at b) id (length d) ρ j)
            ∙ sym (ap (λ (x : Stepped). x.1) (frame_is (sender_at b) (ready_bounds b ready) id d ∙ ap (λ (u : Result Content Refusal). by_verdict u (sender_at b) d) j)))
            ∙ frame_bounded (sender_at b) (ready_bounds b ready) id d)

  pub reading_ready : (t : ℕ) → t < 4294967296 → ready_in (reading_in b t).1 ≡ true
  reading_ready t small =
      record_ready _ (reading_long b ready t small) (ap in_bounds (reading_carried b ready t small) ∙ reading_bounded (sender_at b) (ready_bounds b ready) t)
