-- What a reading changes: 01, "Clock".
use Rattle.std.specs.Prelude.{Err, None, Option, Some}
use Prim.Native.Nat.{ℕ, ◌≤◌, ◌<◌}
use mathlib.Core.Path.{◌≡◌, refl, ap}
use mathlib.Core.Bool.{Bool, true, false, cond}
use mathlib.Core.List.{List, map}
use lib.ListN.{length, get_or, replicate, length-map, get_or-map}
use borrow.Author.Tests.{leb-true, leb-false}
use Rattle.progress.specs.declared.wait.IdleLimits.{IdleLimits}
use Rattle.frame.specs.declared.refusal.Refusal.TheVariants.{OutOfBounds, Silence}
use Rattle.session.specs.declared.Session.{Session}
use Rattle.progress.specs.Waits.{limit_in}
use Rattle.session.specs.Decisions.{ending_of, is_silent}
use Rattle.slots.specs.Slots.{free_slot}
use Rattle.receiver.specs.declared.Receiver.{Receiver}
use Rattle.receiver.specs.Calls.{Elapsed, is_ready, after_end, expired, end_of, stays, reading_step}
use Rattle.isolation.specs.Rules.{since}
use Rattle.isolation.proofs.Slots.{at}
use Rattle.isolation.proofs.Same.{since_same}
use Rattle.answer.specs.declared.Ending.{Ending}

-- the ending of slot i
abbrev pub end_in : Elapsed → ℕ → Option Ending
end_in e i = (get_or e.ends i stays)

-- one slot: x before the reading, y after it. A free slot and a session that was silent for less than the limit of its wait stay as they
-- are; a silent one ends with 22
pub data AtReading (limits : IdleLimits) (t : ℕ) (x : Option Session) (e : Option Ending) (y : Option Session) : Type 0 where
  free : x ≡ None → e ≡ None → y ≡ x → AtReading limits t x e y
  stays_open : (s : Session) → x ≡ Some s → since s.progress.mark t < limit_in limits s.progress.wait → e ≡ None → y ≡ x → AtReading limits t x e y
  ends : (s : Session) → x ≡ Some s → limit_in limits s.progress.wait ≤ since s.progress.mark t → e ≡ Some (ending_of s Silence) → y ≡ None
      → AtReading limits t x e y

one_slot : (limits : IdleLimits) (t : ℕ) (x : Option Session) → AtReading limits t x (end_of limits t x) (expired limits t x)
one_slot limits t None = free refl refl refl
one_slot limits t (Some s) = go (is_silent limits t s) refl
  where
    go : (b : Bool) → is_silent limits t s ≡ b
        → let e : Option Ending = cond b (Some (ending_of s Silence)) None in AtReading limits t (Some s) e (after_end e (Some s))
    go true e = ends s refl (rw (since_same s.progress.mark t) (leb-true (limit_in limits s.progress.wait) _ e)) refl refl
    go false e = stays_open s refl (rw (since_same s.progress.mark t) (leb-false (limit_in limits s.progress.wait) _ e)) refl refl

-- what an accepted reading leaves: all as it was but the last reading and the slots whose session it ends
pub record Leaves (r : Receiver) (t : ℕ) (e : Elapsed) : Type 0 where
  pub own : e.next.own ≡ r.own
  pub limits : e.next.limits ≡ r.limits
  pub last : e.next.last ≡ t
  pub count : length e.next.slots ≡ length r.slots
  pub slots : (i : ℕ) → AtReading r.limits t (at r.slots i) (end_in e i) (at e.next.slots i)

-- A reading changes nothing but the last reading and the slots that it ends, and it ends exactly the silent sessions: on every record
-- that is in bounds, with a store of 32,768 bytes.
pub reading_leaves : (r : Receiver) (t : ℕ) (m : List ℕ) → is_ready r m ≡ true → Leaves r t (reading_step r t m)
unfolding reading_step
reading_leaves r t m e = rw e (record {
  own = refl;
  limits = refl;
  last = refl;
  count = length-map r.slots (expired r.limits t);
  slots = λ i.
      let a : at (map (expired r.limits t) r.slots) i ≡ expired r.limits t (at r.slots i) =
      (get_or-map (expired r.limits t) r.slots i free_slot) in
      let b : (get_or (map (end_of r.limits t) r.slots) i stays) ≡ end_of r.limits t (at r.slots i) =
      (get_or-map (end_of r.limits t) r.slots i free_slot) in
      rw (a, b) (one_slot r.limits t (at r.slots i));
})

-- On any other record or buffer it is refused with 23, ends nothing and changes nothing.
pub reading_refused : (r : Receiver) (t : ℕ) (m : List ℕ) → is_ready r m ≡ false
    → reading_step r t m ≡ record { next = r; answer = Err OutOfBounds; ends = replicate 8 stays }
unfolding reading_step
reading_refused r t m e = rw e
