use mathlib.Core.Path.{refl, sym, ◌∙◌}
use mathlib.Core.Bool.{true, false}
use borrow.Author.Tests.{not-true, not-false}
use Rattle.lent_record.specs.Judged.{two_ready, eight_ready}
use Rattle.lent_record.proofs.ready.slots_ready.Goals as goal

-- where a pair fails, those after it are not looked at
pub returns-then-not-two_ready : goal.returns-then-not-two_ready
returns-then-not-two_ready c =
    let a = c.args in
    eight_ready a.own a.bytes.now false _ _ _
    (sym (not-true _ c.if-not-two_ready.true-raw) ∙ c.two_ready.ensures)
    refl
    refl
    refl

pub returns-then-not-two_ready-2 : goal.returns-then-not-two_ready-2
returns-then-not-two_ready-2 c =
    let a = c.args in
    eight_ready a.own a.bytes.now true false _ _
    (sym (not-false _ c.if-not-two_ready.false-raw) ∙ c.two_ready.ensures)
    (sym (not-true _ c.if-not-two_ready-2.true-raw) ∙ c.two_ready-2.ensures)
    refl
    refl

pub returns-then-not-two_ready-3 : goal.returns-then-not-two_ready-3
returns-then-not-two_ready-3 c =
    let a = c.args in
    eight_ready a.own a.bytes.now true true false _
    (sym (not-false _ c.if-not-two_ready.false-raw) ∙ c.two_ready.ensures)
    (sym (not-false _ c.if-not-two_ready-2.false-raw) ∙ c.two_ready-2.ensures)
    (sym (not-true _ c.if-not-two_ready-3.true-raw) ∙ c.two_ready-3.ensures)
    refl

pub returns : goal.returns
returns c =
    let a = c.args in
    eight_ready a.own a.bytes.now true true true _
    (sym (not-false _ c.if-not-two_ready.false-raw) ∙ c.two_ready.ensures)
    (sym (not-false _ c.if-not-two_ready-2.false-raw) ∙ c.two_ready-2.ensures)
    (sym (not-false _ c.if-not-two_ready-3.false-raw) ∙ c.two_ready-3.ensures)
    c.two_ready-4.ensures
