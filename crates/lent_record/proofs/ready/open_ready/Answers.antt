use Prim.Native.Nat.{ℕ, ◌+◌, ◌-◌}
use mathlib.Core.Path.{◌≡◌, ap, ◌∙◌}
use lib.ListN.{take, drop}
use native.Mathlib.Omega.{arith}
use borrow.Author.Tests.{not-true, not-false}
use Rattle.record_bytes.specs.Places.{slot_length, slot_place}
use Rattle.record_bytes.specs.Layout.{session_at}
use Rattle.lent_record.specs.Judged.{no_codes, no_bounds, no_twin}
use borrow.Author.Rules.{rules}
use Rattle.lent_record.proofs.ready.open_ready.Goals as goal

pub returns-then-not-codes_ok : goal.returns-then-not-codes_ok
returns-then-not-codes_ok c =
    let a = c.args in
    no_codes a.own a.bytes.now a.i (search rules) _ c.codes_ok.ensures (not-true _ c.if-not-codes_ok.true-raw)

pub returns-then-not-session_ok : goal.returns-then-not-session_ok
returns-then-not-session_ok c =
    let a = c.args in
    let k : ℕ = slot_place a.i in
    let e : k + slot_length - k ≡ slot_length = omega arith in
    no_bounds a.own a.bytes.now a.i (search rules) _ c.codes_ok.ensures (not-false _ c.if-not-codes_ok.false-raw) _ _
    (c.session_at-s.ensures ∙ ap (λ (n : ℕ). session_at (take n (drop k a.bytes.now))) e) c.session_ok.ensures (not-true _ c.if-not-session_ok.true-raw)

pub returns : goal.returns
returns c =
    let a = c.args in
    let k : ℕ = slot_place a.i in
    let e : k + slot_length - k ≡ slot_length = omega arith in
    no_twin a.own a.bytes.now a.i (search rules) _ c.codes_ok.ensures (not-false _ c.if-not-codes_ok.false-raw) _ _
    (c.session_at-s.ensures ∙ ap (λ (n : ℕ). session_at (take n (drop k a.bytes.now))) e) c.session_ok.ensures
    (not-false _ c.if-not-session_ok.false-raw) _ c.any_before.ensures
