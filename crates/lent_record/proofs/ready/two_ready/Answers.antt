use Prim.Native.Nat.{ℕ, ◌+◌}
use native.Mathlib.Omega.{arith}
use mathlib.Core.Path.{◌≡◌, sym, ap, ◌∙◌}
use lib.Dec.{eqb}
use lib.ListN.{get_or}
use borrow.Author.Tests.{eq-eqb, ne_eqb, not-true, not-false}
use Rattle.laws.specs.Choice.{and_next, and_stop, or_next, or_stop}
use Rattle.record_bytes.specs.Places.{slot_length, slot_place}
use Rattle.lent_record.proofs.ready.two_ready.Goals as goal
use Rattle.lent_record.proofs.ready.two_ready.Goals.{then-bytes-at-ne0+else-not-open_ready, else-bytes-at-ne0}

pub returns-then-not-open_ready : goal.returns-then-not-open_ready
returns-then-not-open_ready c = and_stop _ _ (sym (or_next _ _ _ (ne_eqb _ _ c.if-bytes-at-ne0.true) (sym (sym c.open_ready.ensures ∙ not-true _ c.if-not-open_ready.true-raw))))

pub returns-then-bytes-at-eq0 : goal.returns-then-bytes-at-eq0
returns-then-bytes-at-eq0 c =
    let a = c.args in let w : slot_place (a.i + 1)
    ≡ slot_place a.i + slot_length = omega arith in and_next _ _ _
    (elim c.if-bytes-at-ne0.branch [
      | then-bytes-at-ne0+else-not-open_ready w ↦ sym (or_next _ _ _ (ne_eqb _ _ w.if-bytes-at-ne0.true) (sym (sym w.open_ready.ensures ∙ w.if-not-open_ready.false)))
      | else-bytes-at-ne0 w ↦ sym (or_stop _ _ (eq-eqb _ _ w.if-bytes-at-ne0.false))
    ])
    (or_stop _ _ (ap (λ (k : ℕ). eqb (get_or a.bytes.now k 0) 0) w ∙ eq-eqb _ _ c.if-bytes-at-eq0.true))

pub returns : goal.returns
returns c =
    let a = c.args in let w : slot_place (a.i + 1)
    ≡ slot_place a.i + slot_length = omega arith in and_next _ _ _
    (elim c.if-bytes-at-ne0.branch [
      | then-bytes-at-ne0+else-not-open_ready w ↦ sym (or_next _ _ _ (ne_eqb _ _ w.if-bytes-at-ne0.true) (sym (sym w.open_ready.ensures ∙ w.if-not-open_ready.false)))
      | else-bytes-at-ne0 w ↦ sym (or_stop _ _ (eq-eqb _ _ w.if-bytes-at-ne0.false))
    ])
    (or_next _ _ _ (ap (λ (k : ℕ). eqb (get_or a.bytes.now k 0) 0) w ∙ ne_eqb _ _ c.if-bytes-at-eq0.false) c.open_ready-2.ensures)
