-- What the code wrote into the buffer, beside what the receiver's step says.
use Rattle.std.specs.Prelude.{None, Option, Some, ℕ}
use Prim.Native.Nat.{ℕ, ◌<◌}
use native.Mathlib.Omega.{arith}
use mathlib.Core.Path.{◌≡◌, refl, sym, ap, ◌∙◌}
use mathlib.Core.Bool.{Bool, true, false, cond}
use mathlib.Core.List.{List, []}
use lib.Dec.{eqb}
use lib.ListN.{get_or, replicate}
use lib.Seq.{paste}
use borrow.Author.Tests.{eqb-true, ne_eqb}
use Rattle.answer.specs.declared.Answer.{Answer}
use Rattle.progress.specs.declared.Progress.{Progress}
use Rattle.session.specs.declared.Session.{Session}
use Rattle.session.specs.declared.Change.TheVariants.{Stays, Opens, Moves, Ends}
use Rattle.session.specs.declared.Step.{Step}
use Rattle.session.specs.Decisions.{moved}
use Rattle.session.specs.Steps.{MeetsOpen}
use Rattle.slots.specs.Slots.{free_slot, on_found}
use Rattle.receiver.specs.Calls.{answered, with_slot, applied, apply}
use Rattle.record_bytes.specs.Places.{slot_length, progress_length, state_place, slot_place, progress_place}
use Rattle.record_bytes.specs.Layout.{progress_bytes, session_bytes, session_at, pieces_of, slots_at, record_at}
use Rattle.record_bytes.specs.Keeping.{put_in}
use Rattle.record_bytes.proofs.Kept.{keep, put_one, put_forward}
use Rattle.lent_record.specs.Held.{slot_of_lem}
use Rattle.engine.specs.InBytes.{stepped_in, Holds, InBytes}

abbrev is_open : Option Session → Bool
is_open None = false
is_open (Some s) = true

pub open_code : (p : List ℕ) (s : Session) (t : Bool) → t ≡ eqb (get_or p state_place 0) 1 → ◌≡◌ {A = (Option Session)} (cond t (Some (session_at p)) None) (Some s) → t ≡ true
open_code p s true e h = refl
open_code p s false e h = ap is_open h

module _ (b : List ℕ) (h : Holds b) where
  -- an answer with nothing written
  pub unchanged : (a : Answer) → ◌≡◌ {A = Answer × List ℕ} (a, b) (stepped_in b (answered (record_at b) a))
  unchanged a = ap (λ (l : List ℕ). (a, l)) (sym (keep b h.bytes h.codes))

  module _ (i : ℕ) (low : i < 8) (o : List ℕ) where
    abbrev state : Option Session
    state = (get_or (slots_at b) i free_slot)

    pub wrote_none : o ≡ b → o ≡ put_in b (applied (record_at b) i Stays)
    wrote_none p = p ∙ sym (keep b h.bytes h.codes)

    pub wrote_open : (s : Session) → o ≡ paste b (slot_place i) (session_bytes s) slot_length → o ≡ put_in b (applied (record_at b) i (Opens s))
    wrote_open s p = p ∙ sym (put_one b h.bytes h.codes i (Some s) low)

    -- of an open session only the progress is written
    pub wrote_forward : (p : Progress) → MeetsOpen (Moves p) state → o ≡ paste b (progress_place i) (progress_bytes p) progress_length → o ≡ put_in b (applied (record_at b) i (Moves p))
    wrote_forward p m e = go state refl m
      where
        go : (x : Option Session) → state ≡ x → MeetsOpen (Moves p) x → o ≡ put_in b (with_slot (record_at b) i (moved x p))
        go None q n = absurd n
        go (Some s) q n = e ∙ sym (put_forward b h.bytes h.codes i low s q p)

    -- an open slot freed
    pub wrote_free : MeetsOpen Ends state → o ≡ paste b (slot_place i) (replicate slot_length 0) slot_length → o ≡ put_in b (applied (record_at b) i Ends)
    wrote_free m p = go state refl m
      where
        go : (x : Option Session) → state ≡ x → MeetsOpen Ends x → o ≡ put_in b (with_slot (record_at b) i None)
        go None q n = absurd n
        go (Some s) q n =
            let w : List ℕ = get_or (pieces_of b) i [] in
            let one : get_or w state_place 0 ≡ 1 = eqb-true _ _ (open_code w s (eqb (get_or w state_place 0) 1) refl (sym (slot_of_lem b i) ∙ q)) in
            p
            ∙ ap (λ (t : Bool). paste b (slot_place i) (cond t w (replicate slot_length 0)) slot_length) (sym (ne_eqb (get_or w state_place 0) 0 (λ z. omega arith)))
            ∙ sym (put_one b h.bytes h.codes i None low)

  -- a step by the slot that was found
  module _ (f : Option ℕ) (st : Step) where
    abbrev by : Option ℕ → Answer × List ℕ
    by g = stepped_in b (answered (on_found g (λ i. applied (record_at b) i st.change) (record_at b)) st.answer)

    pub applied_at : (i : ℕ) (o : List ℕ) → f ≡ Some i → o ≡ put_in b (applied (record_at b) i st.change) → ◌≡◌ {A = Answer × List ℕ} (st.answer, o) (stepped_in b (apply (record_at b) f st))
    applied_at i o e p = ap (λ (l : List ℕ). (st.answer, l)) p ∙ ap by (sym e)

    pub applied_none : f ≡ None → ◌≡◌ {A = Answer × List ℕ} (st.answer, b) (stepped_in b (apply (record_at b) f st))
    applied_none e = unchanged st.answer ∙ ap by (sym e)

pub seen_put : (a : Answer) (o : List ℕ) (e : Answer × List ℕ) (m l : List ℕ) → ◌≡◌ {A = Answer × List ℕ} (a, o) e → m ≡ l → ◌≡◌ {A = InBytes} (a, (o, m)) (e.0, (e.1, l))
seen_put a o e m l p q = ap (λ (x : Answer × List ℕ). (x.0, (x.1, m))) p ∙ ap (λ (x : List ℕ). (e.0, (e.1, x))) q
