use mathlib.Core.Path.{◌≡◌, refl, sym, ap, ◌∙◌}
use mathlib.Core.Bool.{Bool, true, false, ◌&&◌}
use borrow.Author.Tests.{not-true, not-false}
use Rattle.laws.specs.Bools.{and_same}
use Rattle.slots.specs.ByKind.{kind_ok}
use Rattle.slots.proofs.ByKind.{by_kind_lem}
use Rattle.slots.proofs.bounds.session_ok.Goals as goal

-- the three tests joined, those that the code did not come to as they are
three : {a b c x y z : Bool} → a ≡ x → b ≡ y → c ≡ z → (a && b && c) ≡ (x && y && z)
three p q r = and_same (and_same p q) r

pub returns-then-not-numbers_ok : goal.returns-then-not-numbers_ok
returns-then-not-numbers_ok c =
    three {a = false} (sym (not-true _ c.if-not-numbers_ok.true-raw) ∙ c.numbers_ok.ensures) refl refl
    ∙ by_kind_lem c.args.own c.args.s

pub returns-then-not-source_ok : goal.returns-then-not-source_ok
returns-then-not-source_ok c =
    three {a = true} {b = false} (sym (not-false _ c.if-not-numbers_ok.false-raw) ∙ c.numbers_ok.ensures)
    (sym (not-true _ c.if-not-source_ok.true-raw) ∙ c.source_ok.ensures) refl
    ∙ by_kind_lem c.args.own c.args.s

pub returns-then-not-rts_ok : goal.returns-then-not-rts_ok
returns-then-not-rts_ok c =
    let a = c.args in
    three {a = true} {b = true} (sym (not-false _ c.if-not-numbers_ok.false-raw) ∙ c.numbers_ok.ensures)
    (sym (not-false _ c.if-not-source_ok.false-raw) ∙ c.source_ok.ensures)
    (and_same {a = false} (sym (not-true _ c.if-not-rts_ok.true-raw) ∙ c.rts_ok.ensures) refl
    ∙ ap (kind_ok a.own a.s.announced a.s.progress) (sym c.in-Rts.is))
    ∙ by_kind_lem a.own a.s

pub returns-else-not-rts_ok : goal.returns-else-not-rts_ok
returns-else-not-rts_ok c =
    let a = c.args in
    three {a = true} {b = true} (sym (not-false _ c.if-not-numbers_ok.false-raw) ∙ c.numbers_ok.ensures)
    (sym (not-false _ c.if-not-source_ok.false-raw) ∙ c.source_ok.ensures)
    (and_same (sym (not-false _ c.if-not-rts_ok.false-raw) ∙ c.rts_ok.ensures) c.agree.ensures
    ∙ ap (kind_ok a.own a.s.announced a.s.progress) (sym c.in-Rts.is))
    ∙ by_kind_lem a.own a.s

pub returns-in-Bam : goal.returns-in-Bam
returns-in-Bam c =
    let a = c.args in
    three {a = true} {b = true} (sym (not-false _ c.if-not-numbers_ok.false-raw) ∙ c.numbers_ok.ensures)
    (sym (not-false _ c.if-not-source_ok.false-raw) ∙ c.source_ok.ensures)
    (c.bam_ok.ensures ∙ ap (kind_ok a.own a.s.announced a.s.progress) (sym c.in-Bam.is))
    ∙ by_kind_lem a.own a.s
