use native.Mathlib.Omega.{arith}
use mathlib.Core.Path.{sym, ap, ◌∙◌}
use mathlib.Core.List.{[]}
use lib.Dec.{eqb}
use lib.ListN.{length}
use borrow.Author.Tests.{eq-eqb, ne_eqb, not-true, not-false}
use Rattle.laws.specs.Choice.{and_next, and_stop}
use Rattle.record_bytes.specs.Places.{record_length}
use Rattle.record_bytes.specs.Layout.{pieces_of, record_at}
use Rattle.slots.specs.Bounds.{values_ok}
use Rattle.frame.specs.declared.Address.{Address}
use Rattle.lent_record.specs.Judged.{pieces_ready, ready_in_lem}
use Rattle.lent_record.proofs.ready.is_in_bounds.Goals as goal

pub returns-then-store : goal.returns-then-store
returns-then-store c =
    let a = c.args in
    and_next (eqb (length a.bytes.now) record_length) _ _ (eq-eqb _ _ (omega arith))
    (and_stop (eqb a.store 32768) _ (ne_eqb _ _ c.if-store.true))
    ∙ sym (ready_in_lem a.bytes.now a.store)

pub returns-then-not-values_ok : goal.returns-then-not-values_ok
returns-then-not-values_ok c =
    let a = c.args in
    let b = a.bytes.now in
    let own : Address = (record_at b).own in
    and_next (eqb (length a.bytes.now) record_length) _ _ (eq-eqb _ _ (omega arith))
    (and_next (eqb a.store 32768) _ _ (eq-eqb _ _ c.if-store.false)
    (and_stop _ (pieces_ready own [] (pieces_of b)) (ap (values_ok own) (sym c.limits_of.ensures) ∙ sym c.values_ok.ensures ∙ not-true _ c.if-not-values_ok.true-raw)))
    ∙ sym (ready_in_lem a.bytes.now a.store)

pub returns : goal.returns
returns c =
    let a = c.args in
    let b = a.bytes.now in
    let own : Address = (record_at b).own in
    and_next (eqb (length a.bytes.now) record_length) _ _ (eq-eqb _ _ (omega arith))
    (and_next (eqb a.store 32768) _ _ (eq-eqb _ _ c.if-store.false)
    (and_next _ _ _ (ap (values_ok own) (sym c.limits_of.ensures) ∙ sym c.values_ok.ensures ∙ not-false _ c.if-not-values_ok.false-raw) c.slots_ready.ensures))
    ∙ sym (ready_in_lem a.bytes.now a.store)
