-- What a reading answers fits its bytes.
use Rattle.std.specs.Prelude.{Err, None, Option, Some}
use Prim.Native.Nat.{ℕ, ◌≤◌}
use mathlib.Core.Path.{◌≡◌, refl, ◌∙◌}
use mathlib.Core.Bool.{Bool, true, false, cond, not}
use mathlib.Core.List.{List, [], ◌∷◌, map}
use lib.ListN.{length, replicate, length-map}
use Rattle.progress.specs.declared.wait.IdleLimits.{IdleLimits}
use Rattle.frame.specs.declared.refusal.Refusal.TheVariants.{Silence, OutOfBounds}
use Rattle.answer.specs.Answers.{abort_for, wire_of}
use Rattle.transport.specs.Kinds.{is_rts}
use Rattle.session.specs.Bounds.{session_ok, state_ok}
use Rattle.session.specs.Fits.{SessionSmall, StateSmall}
use Rattle.slots.specs.Bounds.{values_ok, twin_of, slots_ok}
use Rattle.receiver.specs.Bounds.{in_bounds}
use Rattle.laws.specs.Choice.{each_of}
use Rattle.frame.specs.declared.Address.{Address}
use mathlib.Mathlib.Data.Bool.Basic.{and_elim_right}
use lib.Dec.{eqb}
use Rattle.session.specs.declared.Session.{Session}
use Rattle.session.specs.Decisions.{ending_of, is_silent}
use Rattle.receiver.specs.declared.Receiver.{Receiver}
use Rattle.receiver.specs.Calls.{Elapsed, is_ready, end_of, stays, reading_kept, reading_step}
use Rattle.record_bytes.specs.RoundTrip.{SlotsFit, RecordFits}
use Rattle.isolation.proofs.Many.{own_small}
use Rattle.carried.proofs.ReadBack.{WireFits, EndFits, EndsFit}
use Rattle.carried.proofs.Sent.{session_id_fits}

abbrev read_by : Receiver → ℕ → Bool → Elapsed
read_by r t b = cond b (reading_kept r t) (record { next = r; answer = Err OutOfBounds; ends = replicate 8 stays })

pub reading_eight : (r : Receiver) → RecordFits r → (t : ℕ) (m : List ℕ) → length (reading_step r t m).ends ≡ 8
unfolding reading_step
reading_eight r f t m = go (is_ready r m)
  where
    go : (b : Bool) → length (read_by r t b).ends ≡ 8
    go true = length-map r.slots (end_of r.limits t) ∙ f.eight
    go false = refl

slot_ends : (own : Address) (limits : IdleLimits) (t : ℕ) → own.0 ≤ 253 → (l : List (Option Session)) → slots_ok own l ≡ true → SlotsFit l → EndsFit (map (end_of limits t) l)
unfolding slots_ok
slot_ends own limits t h [] e f = tt
slot_ends own limits t h (x ∷ l) e (f, fs) =
    let p = each_of (state_ok own x ∷ not (twin_of x l) ∷ slots_ok own l ∷ []) e in (
      go x p.0 f,
      slot_ends own limits t h l p.1.1.0 fs,
    )
  where
    sends : (s : Session) → session_ok own s ≡ true → (b : Bool) → WireFits (wire_of (cond b (Some (abort_for s.announced.key Silence s.announced.pgn)) None))
    sends s e true = session_id_fits own s h e
    sends s e false = tt

    by : (s : Session) → session_ok own s ≡ true → SessionSmall s → (b : Bool) → EndFits (cond b (Some (ending_of s Silence)) None)
    by s e f true = (f.pgn, sends s e (is_rts s.announced.kind))
    by s e f false = tt

    go : (st : Option Session) → state_ok own st ≡ true → StateSmall st → EndFits (end_of limits t st)
    go None e f = tt
    go (Some s) e f = by s e f (is_silent limits t s)

pub reading_ends : (r : Receiver) → RecordFits r → (t : ℕ) (m : List ℕ) → EndsFit (reading_step r t m).ends
unfolding reading_step in_bounds
reading_ends r f t m = go (is_ready r m) refl
  where
    go : (b : Bool) → is_ready r m ≡ b → EndsFit (read_by r t b).ends
    go true e =
        let p = each_of (values_ok r.own r.limits ∷ slots_ok r.own r.slots ∷ []) (and_elim_right (eqb (length m) 32768) (in_bounds r) e) in
        slot_ends r.own r.limits t (own_small r.own r.limits p.0) r.slots p.1.0 f.slots
    go false e = (tt, (tt, (tt, (tt, (tt, (tt, (tt, (tt, tt))))))))
