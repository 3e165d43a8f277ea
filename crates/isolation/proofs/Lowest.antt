-- The slot that an announcement takes: 01, "Announcement", and 02, E1.
use Rattle.std.specs.Prelude.{Err, None, Ok, Option, Result, Some, ℕ, ⊤, is_some}
use Prim.Native.Nat.{ℕ, ◌<◌}
use mathlib.Core.Path.{◌≡◌, refl, sym, ap, ◌∙◌, subst}
use mathlib.Core.Bool.{Bool, true, false, cond}
use mathlib.Core.List.{List}
use native.Mathlib.Omega.{arith}
use lib.ListN.{length}
use lib.Seq.{get_or-set_same, get_or-set_other}
use Rattle.frame.specs.Judge.{judged}
use Rattle.frame.specs.Refusals.{number_of}
use Rattle.frame.specs.declared.refusal.Refusal.{Refusal}
use Rattle.frame.specs.declared.refusal.Refusal.TheVariants.{AnnouncementForm, KeyOpen, SlotsFull, OutOfBounds}
use Rattle.frame.proofs.Numbers.{number_range}
use Rattle.transport.specs.Kinds.{is_rts}
use Rattle.transport.specs.declared.Key.{Key}
use Rattle.transport.specs.declared.announcement.Announcement.{Announcement}
use Rattle.answer.specs.declared.Answer.TheVariants as answer
use Rattle.answer.specs.Answers.{answer_number}
use Rattle.session.specs.declared.Session.{Session}
use Rattle.session.specs.declared.Step.{Step}
use Rattle.session.specs.Announcements.{misdirected, form_of, session_of}
use Rattle.session.specs.Decisions.{refused as refuse, rejection, opening, accepted_if, is_restart, on_form, announced_to}
use Rattle.slots.specs.Slots.{key_place, first_free, slot_for, state_in, or_else, free_slot, is_free}
use Rattle.receiver.specs.declared.Receiver.{Receiver}
use Rattle.receiver.specs.Calls.{Outcome, apply, is_ready, refused, on_verdict, frame_all, frame_step}
use Rattle.isolation.specs.OwnFrames.{key_at, frame_key, announce, body_of}
use Rattle.isolation.proofs.Tests.{clash}
use Rattle.slots.specs.Searches.{lowest_some, lowest_below}
use Rattle.isolation.proofs.Slots.{at, holds, holds_free, find_some, find_none}
use Rattle.isolation.proofs.Read.{Takes, frame_agrees}

-- slot i is the one for an announcement of key k that is accepted: the lowest free one, where the key is open in none; or the key's own,
-- where the announcement starts its session anew (02, E1)
pub data SlotTaken (r : Receiver) (k : ℕ) (a : Announcement) (i : ℕ) : Type 0 where
  lowest_free : at r.slots i ≡ None → ((j : ℕ) → j < i → is_free (at r.slots j) ≡ false) → ((j : ℕ) → holds k (at r.slots j) ≡ false) → SlotTaken r k a i
  its_own : (s : Session) → key_place (key_at k) r.slots ≡ Some i → at r.slots i ≡ Some s → is_restart s a ≡ true → SlotTaken r k a i

-- the session of key k opens in its slot, with none taken and marked with the last reading; nothing else of the record changes
pub record OpensIn (r : Receiver) (k : ℕ) (a : Announcement) (r' : Receiver) : Type 0 where
  pub slot : ℕ
  pub inside : slot < length r.slots
  pub taken : SlotTaken r k a slot
  pub opens : at r'.slots slot ≡ Some (session_of (key_at k) a r.last)
  pub others : (j : ℕ) → (j ≡ slot → ⊥) → at r'.slots j ≡ at r.slots j
  pub own : r'.own ≡ r.own
  pub limits : r'.limits ≡ r.limits
  pub last : r'.last ≡ r.last

-- ---- an announcement that is accepted meets a closed key and room, or is a restart

rejects : (κ : Key) (a : Announcement) (n : Refusal) → answer_number (rejection κ a n) ≡ number_of n
rejects κ a n = go (is_rts a.kind)
  where
    go : (t : Bool) → answer_number (cond t (answer.RefusedRts (record { key = κ; refusal = n; pgn = a.pgn })) (answer.Refused n)) ≡ number_of n
    go true = refl
    go false = refl

-- every refusal has a number
pub some_number : (n : Refusal) → number_of n ≡ 0 → ⊥
some_number n e = let r = (number_range n).0 in omega arith

module _ (κ : Key) (a : Announcement) (last : ℕ) where
  abbrev Admits : Option Session → Bool → Type 0
  Admits (Some s) room = is_restart s a ≡ true
  Admits None room = room ≡ true

  abbrev Accepts : Option Session → Bool → Step → Type 0
  Accepts x room st = Admits x room × (st ≡ opening κ a last)

  accepted : (t : Bool) (n : Refusal) → answer_number (accepted_if t n κ a last).answer ≡ 0 → (t ≡ true) × (accepted_if t n κ a last ≡ opening κ a last)
  accepted true n e = (refl, refl)
  accepted false n e = absurd (some_number n (sym (rejects κ a n) ∙ e))

  for_form : (f : Result ⊤ Refusal) (x : Option Session) (room : Bool) → answer_number (on_form f x room κ a last).answer ≡ 0 → Accepts x room (on_form f x room κ a last)
  for_form (Err n) x room e = absurd (some_number n (sym (rejects κ a n) ∙ e))
  for_form (Ok tt) (Some s) room e = accepted (is_restart s a) KeyOpen e
  for_form (Ok tt) None room e = accepted room SlotsFull e

  pub accepts : (x : Option Session) (room : Bool) → answer_number (announced_to x room κ a last).answer ≡ 0 → Accepts x room (announced_to x room κ a last)
  unfolding announced_to
  accepts x room e = go (misdirected κ.da a.kind) e
    where
      go : (t : Bool) → answer_number (cond t (refuse AnnouncementForm) (on_form (form_of a) x room κ a last)).answer ≡ 0
          → Accepts x room (cond t (refuse AnnouncementForm) (on_form (form_of a) x room κ a last))
      go true e = absurd (some_number AnnouncementForm e)
      go false e = for_form (form_of a) x room e

-- ---- the slot for its key is then that one

module _ (r : Receiver) (k : ℕ) (a : Announcement) where
  abbrev step : Option ℕ → Step
  step f = announced_to (state_in f r.slots) (is_some f) (key_at k) a r.last

  opened_in_lem : (i : ℕ) → i < length r.slots → SlotTaken r k a i → answer_number (step (Some i)).answer ≡ 0 → OpensIn r k a (apply r (Some i) (step (Some i))).next
  opened_in_lem i low taken z =
      subst (λ (st : Step). OpensIn r k a (apply r (Some i) st).next) (sym (accepts (key_at k) a r.last (at r.slots i) true z).1)
      (record {
        slot = i;
        inside = low;
        taken = taken;
        opens = (get_or-set_same r.slots i _ free_slot low);
        others = λ j ne. (get_or-set_other r.slots i j _ free_slot ne);
        own = refl;
        limits = refl;
        last = refl;
      })

  -- the key is open in slot i
  in_its_own : (i : ℕ) → key_place (key_at k) r.slots ≡ Some i → answer_number (step (Some i)).answer ≡ 0 → OpensIn r k a (apply r (Some i) (step (Some i))).next
  in_its_own i p z = opened_in_lem i (find_some k r.slots i p).1 (go (at r.slots i) refl (accepts (key_at k) a r.last (at r.slots i) true z).0) z
    where
      go : (y : Option Session) → at r.slots i ≡ y → Admits (key_at k) a r.last y true → SlotTaken r k a i
      go (Some s) y h = its_own s p y h
      go None y h = absurd (clash (holds k (at r.slots i)) (find_some k r.slots i p).0 (rw y (holds_free k)))

  -- f: the slot for the key; g: the one that has it open
  taken_in : (f g : Option ℕ) → key_place (key_at k) r.slots ≡ g → or_else g (first_free r.slots) ≡ f → answer_number (step f).answer ≡ 0
      → OpensIn r k a (apply r f (step f)).next
  taken_in None g p e z = absurd (clash (is_some {T = ℕ} None) (accepts (key_at k) a r.last None false z).0 refl)
  taken_in (Some i) (Some j) p e z = in_its_own i (p ∙ e) z
  taken_in (Some i) None p e z =
      opened_in_lem i (lowest_some r.slots i e).1 (lowest_free (lowest_some r.slots i e).0 (lowest_below r.slots i e) (find_none k r.slots p)) z

-- On every record and buffer: an own announcement that is not refused takes the lowest free slot, or starts its session anew in its own.
pub slot_taken : (r : Receiver) (id : ℕ) (d m : List ℕ) (a : Announcement) → body_of r.own id d ≡ Some (announce a) → answer_number (frame_step r id d m).answer ≡ 0
    → OpensIn r (frame_key id d) a (frame_step r id d m).next
unfolding frame_all
slot_taken r id d m a body zero_is = go (is_ready r m) zero_is
  where
    o : Outcome
    o = on_verdict (judged r.own id (length d)) r d m

    read : Takes r d m (key_at (frame_key id d)) o (Some (announce a)) → answer_number o.0.answer ≡ 0 → OpensIn r (frame_key id d) a o.0.next
    read t z =
        subst (λ (x : Outcome). OpensIn r (frame_key id d) a x.0.next) (sym t.0)
        (taken_in r (frame_key id d) a (slot_for (key_at (frame_key id d)) r.slots) (key_place (key_at (frame_key id d)) r.slots) refl refl
        (subst (λ (x : Outcome). answer_number x.0.answer ≡ 0) t.0 z))

    go : (t : Bool) → answer_number (cond t o (refused r OutOfBounds, m)).0.answer ≡ 0 → OpensIn r (frame_key id d) a (cond t o (refused r OutOfBounds, m)).0.next
    go true z = read (subst (Takes r d m (key_at (frame_key id d)) o) body (frame_agrees r id d m).does) z
    go false z = absurd (some_number OutOfBounds z)
