use Prim.Native.Nat.{◌-◌}
use mathlib.Core.Path.{refl, sym, ◌∙◌}
use native.Mathlib.Omega.{arith}
use Rattle.laws.specs.Choice.{then, else}
use Rattle.laws.specs.Turn.{turn, end}
use Rattle.slots.specs.Slots.{free_slot, is_free, first_at}
use Rattle.record_bytes.specs.Layout.{slots_at}
use Rattle.lent_record.specs.Held.{length_slots}
use borrow.Author.Rules.{rules}
use Rattle.lent_record.proofs.search.find_free.Goals as goal

pub loop-i-init : goal.loop-i-init
loop-i-init c = (search rules, search rules, refl)

pub loop-i-preserved : goal.loop-i-preserved
loop-i-preserved c =
    let a = c.args in
    let at = c.loop-i in
    let b = a.bytes.now in (
      search rules,
      search rules,
      else _ _ _ _ (sym c.is_free.ensures ∙ c.if-is_free.false) refl
          ∙ sym (turn (first_at is_free at.i) (slots_at b) at.i free_slot (omega (arith, length_slots b)))
          ∙ at.invariant.2,
    )

pub returns-then-i-eq-SLOTS : goal.returns-then-i-eq-SLOTS
returns-then-i-eq-SLOTS c =
    let a = c.args in
    let at = c.loop-i in
    let b = a.bytes.now in
    (sym (end (first_at is_free at.i) (slots_at b) at.i (omega (arith, length_slots b))) ∙ at.invariant.2, tt)

pub returns-then-is_free : goal.returns-then-is_free
returns-then-is_free c =
    let a = c.args in
    let at = c.loop-i in
    let b = a.bytes.now in (
      then _ _ _ _ (sym c.is_free.ensures ∙ c.if-is_free.true) refl
          ∙ sym (turn (first_at is_free at.i) (slots_at b) at.i free_slot (omega (arith, length_slots b)))
          ∙ at.invariant.2,
      search rules,
    )
