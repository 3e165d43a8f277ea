-- A run prints 01's lines, whatever its calls answer: a trace of less than 2^64 bytes is not too long, and no record of it is lost.
use Prim.Native.Nat.{ℕ, ◌+◌, ◌^◌, ◌<◌, ◌≤◌}
use native.Mathlib.Omega.{arith}
use mathlib.Core.Path.{◌≡◌, sym, subst}
use mathlib.Core.Bool.{true}
use mathlib.Core.Logic.{◌⊎◌, inl, inr}
use mathlib.Core.List.{List, [], ◌++◌, append_assoc}
use lib.Dec.{leb}
use lib.ListN.{length, drop, length-append, length-drop}
use lib.Seq.{drop-append-le}
use borrow.Author.Tests.{leb-true}
use Rattle.laws.specs.Bools.{or_either}
use Rattle.record_bytes.specs.Kept.{Bytes}
use Rattle.trace.specs.NumberTrips.{bytes_drop}
use Rattle.report.specs.Lines.{bad_line}
use Rattle.run.specs.Lines.{State, lines_of}
use Rattle.run.specs.Steps.{in_bytes}
use Rattle.run.specs.Goes.{Goes, none, more}
use Rattle.run.specs.Takes.{is_long, final_line}
use Rattle.run.specs.Cuts as cuts
use Rattle.run.specs.Cuts.{joined, Fed, turn_within}
use Rattle.run.specs.Feeds.{call_goes, call_ends, call_over}
use Rattle.program.specs.Opening.{opening}
use Rattle.program.specs.Calls.{Ran, goes, fails, loses, stops, reads, ends}
use Rattle.program.proofs.Numbers.{bytes_front}
use Rattle.program.proofs.Program.{program_prints}
use Rattle.program.proofs.Room.{Held, opening_held, call_not_lost, call_held}

-- every record takes a byte at least
goes_count : {d : List ℕ} {s t : State (List ℕ)} {l : List ℕ} → Goes in_bytes d s l t → t.records + s.place ≤ s.records + t.place
goes_count none = omega arith
goes_count {d} (more {l} {t} x next g e) =
    let (low, high) = turn_within in_bytes t.receiver t.store d t.place e in
    omega (arith, goes_count g)

not_long : (k offset n : ℕ) → k ≤ offset → offset + n < 2 ^ 64 → is_long k offset n ≡ true → ⊥
not_long k offset n h g e = go (or_either (leb (2 ^ 64) (k + n)) (leb (2 ^ 64) (offset + n)) e)
  where
    go : (leb (2 ^ 64) (k + n) ≡ true) ⊎ (leb (2 ^ 64) (offset + n) ≡ true) → ⊥
    go (inl x) = let z : 2 ^ 64 ≤ k + n = leb-true (2 ^ 64) (k + n) x in omega arith
    go (inr x) = let z : 2 ^ 64 ≤ offset + n = leb-true (2 ^ 64) (offset + n) x in omega arith

ran_fed : {s : State (List ℕ)} {d : List ℕ} {ps : List (List ℕ)} {l : List ℕ} → Ran s d ps l → Held s.receiver s.store → Bytes (d ++ joined ps)
    → s.records ≤ s.place → s.place + length (d ++ joined ps) < 2 ^ 64 → Fed in_bytes s d ps l
ran_fed {s} {d} {ps} (goes {l = l} c g x) h w few n =
    let t = c.takes in
    let at : c.went.at ≡ t.to.place = t.place in
    let good : c.went.records ≡ t.to.records = t.records in
    let inside : t.to.place ≤ length d = t.within in
    let count : t.to.records + 0 ≤ s.records + t.to.place = goes_count t.goes in
    let e : drop c.went.at (d ++ joined ps) ≡ drop c.went.at d ++ joined ps = drop-append-le c.went.at d (joined ps) (omega arith) in
    let a : length (drop c.went.at d ++ joined ps) ≡ length (drop c.went.at d) + length (joined ps) = length-append (drop c.went.at d) (joined ps) in
    let f : length (d ++ joined ps) ≡ length d + length (joined ps) = length-append d (joined ps) in
    let q = length-drop c.went.at d in
    call_goes t g
    (ran_fed x (call_held (bytes_front d (joined ps) w) h c g) (subst Bytes e (bytes_drop (d ++ joined ps) c.went.at w)) (omega arith) (omega arith))
ran_fed {s} {d} {ps} (fails c e) h w few n =
    subst (λ (i : ℕ). Fed in_bytes s d ps (c.takes.lines ++ bad_line (s.place + i))) (sym c.takes.place) (call_ends c.takes e)
ran_fed {d = d} {ps = ps} (loses c e) h w few n = absurd (call_not_lost (bytes_front d (joined ps) w) h c e)
ran_fed {s} {d} {ps} (stops e) h w few n =
    let f : length (d ++ joined ps) ≡ length d + length (joined ps) = length-append d (joined ps) in
    absurd (not_long s.records s.place (length d) few (omega arith) e)
ran_fed {s} {d} (reads {ps = ps} q x) h w few n =
    let e : (d ++ q) ++ joined ps ≡ d ++ (q ++ joined ps) = append_assoc d q (joined ps) in
    cuts.reads q (ran_fed x h (subst Bytes (sym e) w) few (subst (λ (z : List ℕ). s.place + length z < 2 ^ 64) (sym e) n))
ran_fed {s} {d} (ends c e) h w few n =
    let t = c.takes in
    subst (λ (i : ℕ). Fed in_bytes s d [] (t.lines ++ final_line (length (drop i d)) c.went.records (s.place + i))) (sym t.place)
    (subst (λ (i : ℕ). Fed in_bytes s d [] (t.lines ++ final_line (length (drop t.to.place d)) i (s.place + t.to.place))) (sym t.records) (call_over t e))

-- THE PROGRAM, WHATEVER ITS CALLS ANSWER. Every run from 01's opening over the pieces of a trace prints the lines of the whole.
pub prints_all : (ps : List (List ℕ)) (l : List ℕ) → Bytes (joined ps) → length (joined ps) < 2 ^ 64 → Ran opening [] ps l → l ≡ lines_of (joined ps)
prints_all ps l w n x = program_prints ps l w (ran_fed x opening_held w (omega arith) (omega arith))
