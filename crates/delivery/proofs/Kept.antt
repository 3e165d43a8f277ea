-- Every decision of a transfer leaves it in bounds, and under its own key.
use Rattle.std.specs.Prelude.{Err, None, Ok, Option, Result, Some}
use Prim.Native.Nat.{ℕ}
use mathlib.Core.Path.{◌≡◌, refl, sym, ap, ◌∙◌}
use mathlib.Core.Bool.{Bool, true, false, not}
use lib.Dec.{eqb}
use borrow.Author.Tests.{eqb-false}
use Rattle.laws.specs.Bools.{either_way}
use Rattle.frame.specs.Pgn.{pgn_ok}
use Rattle.transport.specs.declared.Key.{Key}
use Rattle.transport.specs.declared.response.ResponseRead.TheVariants as response
use Rattle.session.specs.declared.Change.{Change}
use Rattle.session.specs.declared.Change.TheVariants.{Stays, Opens, Moves, Ends}
use Rattle.transfer.specs.declared.Step.{Step}
use Rattle.transfer.specs.Bounds.{destination_ok, length_ok, state_ok}
use Rattle.transfer.specs.Decisions.{after, announced_to, asked_to, hears}
use Rattle.transfer.specs.Kept.{after_kept, OpensFor, Directed, ask_kept, ask_opens_for, hear_kept, hear_opens_for}
use Rattle.transfer.proofs.Kept.{announce_kept, announce_opens_for}
use Rattle.delivery.proofs.Transfers.{OnlyFor}
use Rattle.frame.specs.declared.refusal.Refusal.{Refusal}
use Rattle.transfer.specs.declared.Transfer.{Transfer}
use Rattle.transport.specs.declared.response.ResponseRead.{ResponseRead}
use Rattle.transfer.specs.declared.Course.{Course}

-- a step from x of a transfer of the key
pub record Keeps (κ : Key) (x : Option Transfer) (st : Step) : Type 0 where
  pub ok : state_ok (after x st.change) ≡ true
  pub only : OnlyFor κ (after x st.change)

after_only : (κ : Key) (x : Option Transfer) (c : Change Transfer Course) → OnlyFor κ x → OpensFor κ c → OnlyFor κ (after x c)
after_only κ x Stays only o = only
after_only κ x (Opens t) only o = o
after_only κ None (Moves c) only o = tt
after_only κ (Some t) (Moves c) only o = only
after_only κ x Ends only o = tt

pub asked_kept : (κ : Key) (x : Option Transfer) (n last : ℕ) → state_ok x ≡ true → OnlyFor κ x → Keeps κ x (asked_to x n last)
asked_kept κ x n last ok only =
    let c : Change Transfer Course = (asked_to x n last).change in
    record { ok = after_kept x c ok (ask_kept x n last ok); only = after_only κ x c only (ask_opens_for x n last ok κ) }

aimed : (κ : Key) (x : Option Transfer) → eqb κ.da.0 255 ≡ false → OnlyFor κ x → Directed x
aimed κ None one only = tt
aimed κ (Some t) one only = λ q. eqb-false κ.da.0 255 one (sym (ap (λ (k : Key). k.da.0) only) ∙ q)

pub hears_kept : (κ : Key) (x : Option Transfer) (r : Result ResponseRead Refusal) (last : ℕ) → eqb κ.da.0 255 ≡ false → state_ok x ≡ true → OnlyFor κ x → Keeps κ x (hears x r last)
hears_kept κ x r last one ok only =
    let c : Change Transfer Course = (hears x r last).change in
    let d : Directed x = aimed κ x one only in
    record { ok = after_kept x c ok (hear_kept x r last ok d); only = after_only κ x c only (hear_opens_for x r last ok d κ) }

pub announced_kept : (κ : Key) (x : Option Transfer) (room : Bool) (pgn n last : ℕ) → state_ok x ≡ true → OnlyFor κ x → Keeps κ x (announced_to x room κ pgn n last)
announced_kept κ x room pgn n last ok only =
    let c : Change Transfer Course = (announced_to x room κ pgn n last).change in
    record { ok = after_kept x c ok (announce_kept x room κ pgn n last); only = after_only κ x c only (announce_opens_for x room κ pgn n last) }

-- ---- nothing is opened where nothing is known, but by an announcement with room

pub asked_shut : (n last : ℕ) → (asked_to None n last).change ≡ Stays
unfolding asked_to
asked_shut n last = refl

pub hears_shut : (r : Result ResponseRead Refusal) (last : ℕ) → (hears None r last).change ≡ Stays
unfolding hears
hears_shut (Ok (response.Cts f)) last = refl
hears_shut (Ok (response.Eoma f)) last = refl
hears_shut (Ok (response.Abort f)) last = refl
hears_shut (Err n) last = refl

pub announced_full : (κ : Key) (pgn n last : ℕ) → (announced_to None false κ pgn n last).change ≡ Stays
unfolding announced_to
announced_full κ pgn n last =
    either_way Still (not (destination_ok κ)) (λ _. refl) (λ _. either_way Still (not (pgn_ok pgn)) (λ _. refl) (λ _. either_way Still (not (length_ok n)) (λ _. refl) (λ _. refl)))
  where
    Still : Step → Type 0
    Still st = st.change ≡ Stays
