-- Which openings are accepted, and what an opening gives: 01, "Numbers that hold everywhere" and the last paragraph of "Numbered refusals".
use Rattle.std.specs.Prelude.{Err, None, Ok}
use Prim.Native.Nat.{ℕ, zero, suc, ◌≤◌}
use mathlib.Core.Path.{◌≡◌, refl}
use mathlib.Core.Bool.{true}
use lib.ListN.{length, replicate}
use borrow.Author.Tests.{leb-true, le-leb}
use Rattle.laws.specs.Choice.{each_of, all_of_lem}
use Rattle.progress.specs.declared.wait.IdleLimits.{IdleLimits}
use Rattle.frame.specs.declared.Address.{Address}
use Rattle.frame.specs.declared.refusal.Refusal.TheVariants.{OutOfBounds}
use Rattle.slots.specs.Slots.{free_slot}
use Rattle.slots.specs.Bounds.{values_ok}
use Rattle.receiver.specs.declared.Receiver.{Receiver}
use Rattle.receiver.specs.Bounds.{opened}
use Rattle.isolation.proofs.Tests.{or-false}
use Rattle.isolation.proofs.Slots.{at}
use Rattle.isolation.proofs.Many.{values_tests}
use Rattle.isolation.proofs.Run.{accepted_ok}

-- an own address 0 to 253, and both idle limits 1 to 60,000
pub record Allowed (own : ℕ) (limits : IdleLimits) : Type 0 where
  pub own_address : own ≤ 253
  pub first_low : 1 ≤ limits.first
  pub first_high : limits.first ≤ 60000
  pub second_low : 1 ≤ limits.second
  pub second_high : limits.second ≤ 60000

pub allowed : (own : Address) (limits : IdleLimits) → values_ok own limits ≡ true → Allowed own.0 limits
allowed own limits e =
    let t = each_of (values_tests own limits) e in
    record {
      own_address = leb-true _ _ t.0;
      first_low = leb-true _ _ t.1.0;
      first_high = leb-true _ _ t.1.1.0;
      second_low = leb-true _ _ t.1.1.1.0;
      second_high = leb-true _ _ t.1.1.1.1.0;
    }

pub ok_of : (own : Address) (limits : IdleLimits) → Allowed own.0 limits → values_ok own limits ≡ true
ok_of own limits h =
    all_of_lem (values_tests own limits) (
      le-leb _ _ h.own_address,
      (
        le-leb _ _ h.first_low,
        (le-leb _ _ h.first_high, (le-leb _ _ h.second_low, (le-leb _ _ h.second_high, tt))),
      ),
    )

-- An opening is accepted exactly for those, and refused with 23 for all others.
pub accepted_exactly : (own : Address) (limits : IdleLimits) (first : ℕ)
    → ((opened own limits first).answer ≡ Ok tt → Allowed own.0 limits)
    × (Allowed own.0 limits → (opened own limits first).answer ≡ (Ok tt))
    × ((Allowed own.0 limits → ⊥) → (opened own limits first).answer ≡ Err OutOfBounds)
unfolding opened
accepted_exactly own limits first = (
  (λ e. allowed own limits (accepted_ok own limits first e)),
  (λ h. rw (ok_of own limits h)),
  (λ n. rw (or-false (values_ok own limits) (λ e. n (allowed own limits e)))),
)

-- The record has the values given, the reading as its last, and eight slots, none of them open: accepted or not.
pub record Given (own : Address) (limits : IdleLimits) (first : ℕ) (r : Receiver) : Type 0 where
  pub own_address : r.own ≡ own
  pub idle_limits : r.limits ≡ limits
  pub last_reading : r.last ≡ first
  pub eight : length r.slots ≡ 8
  pub none_open : (i : ℕ) → at r.slots i ≡ None

free : (n i : ℕ) → at (replicate n free_slot) i ≡ None
free zero i = refl
free (suc n) zero = refl
free (suc n) (suc i) = free n i

pub opened_gives : (own : Address) (limits : IdleLimits) (first : ℕ) → Given own limits first (opened own limits first).receiver
unfolding opened
opened_gives own limits first =
    record { own_address = refl; idle_limits = refl; last_reading = refl; eight = refl; none_open = free 8 }
