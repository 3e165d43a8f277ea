-- The rules' own tests and counts are the receiver's.
use Prim.Native.Nat.{ℕ, ◌+◌, ◌*◌, ◌-◌, ◌/◌, ◌%◌, ◌≤◌, ◌<◌, min}
use mathlib.Core.Path.{◌≡◌, refl, sym, ap}
use mathlib.Core.Logic.{◌⊎◌, inl, inr}
use mathlib.Core.Bool.{or_assoc, Bool, true, false, cond, not, ◌&&◌, ◌||◌}
use native.Mathlib.Omega.{arith}
use lib.Dec.{eqb, leb, ltb}
use borrow.Author.Tests.{eqb-true, eqb-false, eq-eqb, ne_eqb, leb-true, leb-false, ltb-true, ltb-false, lt-leb, le-leb}
use Rattle.laws.specs.Bools.{by_test}
use Rattle.frame.specs.declared.Address.{Address}
use Rattle.frame.specs.declared.refusal.Refusal.{Refusal}
use Rattle.frame.specs.declared.refusal.Refusal.TheVariants.{PgnForm, AnnouncementForm, TooLong, Assurance, KeyOpen, SlotsFull, OutOfSequence, StatusMismatch, RequestsSpent, Silence}
use Rattle.frame.specs.Refusals.{number_of}
use Rattle.frame.specs.Lengths.{is_length}
use Rattle.frame.specs.Pgn.{pgn_ok}
use Rattle.transport.specs.Reasons.{reason_of, wire_reason}
use Rattle.transport.specs.declared.Kind.{Kind}
use Rattle.transport.specs.declared.Kind.TheVariants.{Rts, Bam}
use Rattle.transport.specs.declared.announcement.Announcement.{Announcement}
use Rattle.transport.specs.Kinds.{is_rts}
use Rattle.progress.specs.Forward.{grant_of}
use Rattle.progress.specs.Waits.{wait_after}
use Rattle.progress.specs.declared.wait.Wait.TheVariants.{First, Second}
use Rattle.session.specs.Announcements as S
use Rattle.session.specs.Segments.{due_of}
use Rattle.session.specs.Ends.{elapsed}
use Rattle.isolation.specs.Standard as T
use Rattle.isolation.specs.Standard.{Cause, number_for, reason_for, fd_lengths, is_one_of, in_pgn_form}
use Rattle.isolation.specs.OwnFrames as F
use Rattle.isolation.specs.Rules as R
use Rattle.isolation.specs.OwnFrames.{key_at}
use Rattle.isolation.proofs.Tests.{or_either, same_test}

-- ---- causes, lengths, PGNs

-- the receiver's name of a cause
abbrev pub refusal_for : Cause → Refusal
refusal_for T.pgn_wrong = PgnForm
refusal_for T.numbers_wrong = AnnouncementForm
refusal_for T.too_long = TooLong
refusal_for T.assured = Assurance
refusal_for T.key_open = KeyOpen
refusal_for T.eight_open = SlotsFull
refusal_for T.out_of_order = OutOfSequence
refusal_for T.unlike_announced = StatusMismatch
refusal_for T.requests_spent = RequestsSpent
refusal_for T.silent = Silence

pub number_same : (c : Cause) → number_of (refusal_for c) ≡ number_for c
unfolding number_for
number_same T.pgn_wrong = refl
number_same T.numbers_wrong = refl
number_same T.too_long = refl
number_same T.assured = refl
number_same T.key_open = refl
number_same T.eight_open = refl
number_same T.out_of_order = refl
number_same T.unlike_announced = refl
number_same T.requests_spent = refl
number_same T.silent = refl

pub reason_same : (c : Cause) → wire_reason (refusal_for c) ≡ reason_for c
unfolding reason_of reason_for
reason_same T.pgn_wrong = refl
reason_same T.numbers_wrong = refl
reason_same T.too_long = refl
reason_same T.assured = refl
reason_same T.key_open = refl
reason_same T.eight_open = refl
reason_same T.out_of_order = refl
reason_same T.unlike_announced = refl
reason_same T.requests_spent = refl
reason_same T.silent = refl

pub length_same : (n : ℕ) → is_one_of n fd_lengths ≡ is_length n
unfolding is_one_of fd_lengths
length_same n = refl

pub pgn_same : (pgn : ℕ) → in_pgn_form pgn ≡ pgn_ok pgn
unfolding in_pgn_form
pgn_same pgn = ap (λ (t : Bool). ltb pgn 262144 && t) (go (pgn / 256 % 256))
  where
    go : (pf : ℕ) → cond (ltb pf 240) (eqb (pgn % 256) 0) true ≡ (leb 240 pf || eqb (pgn % 256) 0)
    go pf = by_test (ltb pf 240)
        (λ e. let h : pf < 240 = ltb-true pf 240 e in rw (e, lt-leb 240 pf (omega arith)))
        (λ e. let h : 240 ≤ pf = ltb-false pf 240 e in rw (e, le-leb 240 pf h))

-- ---- counts and tests

pub kind_same : (κ : Kind) → F.is_rts κ ≡ is_rts κ
unfolding F.is_rts
kind_same Rts = refl
kind_same Bam = refl

least_is : (a b : ℕ) (t : Bool) → leb a b ≡ t → cond t a b ≡ min a b
least_is a b true e = let h : a ≤ b = leb-true a b e in omega arith
least_is a b false e = let h : b < a = leb-false a b e in omega arith

pub least_same : (a b : ℕ) → R.least a b ≡ min a b
unfolding R.least
least_same a b = least_is a b (leb a b) refl

pub grant_same : (max left : ℕ) → R.grant max left ≡ grant_of max left
unfolding R.grant grant_of
grant_same max left = rw (least_same max 16) (least_same (min max 16) left)

due_is : (total n : ℕ) → 1 ≤ n → (t : Bool) → leb (60 * n) total ≡ t → cond t 60 (total - 60 * (n - 1)) ≡ min 60 (total - 60 * (n - 1))
due_is total n l true e = let h : 60 * n ≤ total = leb-true (60 * n) total e in omega arith
due_is total n l false e = let h : total < 60 * n = leb-false (60 * n) total e in omega arith

pub due_same : (total n : ℕ) → 1 ≤ n → R.due total n ≡ due_of total n
unfolding R.due due_of
due_same total n l = due_is total n l (leb (60 * n) total) refl

sixties_is : (n : ℕ) (t : Bool) → eqb (n % 60) 0 ≡ t → cond t (n / 60) (n / 60 + 1) ≡ (n + 59) / 60
sixties_is n true e = let h : n % 60 ≡ 0 = eqb-true (n % 60) 0 e in omega arith
sixties_is n false e = let h : n % 60 ≡ 0 → ⊥ = eqb-false (n % 60) 0 e in omega arith

pub sixties_same : (n : ℕ) → R.sixties n ≡ (n + 59) / 60
unfolding R.sixties
sixties_same n = sixties_is n (eqb (n % 60) 0) refl

pub numbers_same : (a : Announcement) → R.bad_numbers a ≡ S.bad_numbers a
unfolding R.bad_numbers
numbers_same a = rw (sixties_same a.total.0, kind_same a.kind) (sym (or_assoc (eqb a.total.0 0) (not (eqb a.segments.0 ((a.total.0 + 59) / 60))) (is_rts a.kind && eqb a.max 0)))

-- a frame that is taken goes to the own address or to 255
pub misdirected_same : (own : Address) (k : ℕ) (κ : Kind) → own.0 ≤ 253 → (eqb (key_at k).da.0 own.0 || eqb (key_at k).da.0 255) ≡ true
    → R.misdirected own k κ ≡ S.misdirected (key_at k).da κ
unfolding R.misdirected
misdirected_same own k Rts h e = refl
misdirected_same own k Bam h e = go (or_either (eqb (key_at k).da.0 own.0) (eqb (key_at k).da.0 255) e)
  where
    go : (eqb (key_at k).da.0 own.0 ≡ true) ⊎ (eqb (key_at k).da.0 255 ≡ true) → eqb (key_at k).da.0 own.0 ≡ not (eqb (key_at k).da.0 255)
    go (inl f) =
        let z : (key_at k).da.0 ≡ own.0 = eqb-true (key_at k).da.0 own.0 f in
        rw (f, ne_eqb (key_at k).da.0 255 (λ y. omega arith))
    go (inr f) =
        let z : (key_at k).da.0 ≡ 255 = eqb-true (key_at k).da.0 255 f in
        rw (f, ne_eqb (key_at k).da.0 own.0 (λ y. omega arith))

pub wait_same : (cts : Bool) → wait_after cts ≡ cond cts First Second
wait_same true = refl
wait_same false = refl

pub since_same : (mark t : ℕ) → R.since mark t ≡ elapsed mark t
unfolding R.since elapsed
since_same mark t = refl

pub eqb_next : (a b : ℕ) → eqb a b ≡ eqb (a + 1) (b + 1)
eqb_next a b = same_test (eqb a b) (eqb (a + 1) (b + 1))
    (λ e. let z : a ≡ b = eqb-true a b e in eq-eqb (a + 1) (b + 1) (omega arith))
    (λ e. let z : a + 1 ≡ b + 1 = eqb-true (a + 1) (b + 1) e in eq-eqb a b (omega arith))
