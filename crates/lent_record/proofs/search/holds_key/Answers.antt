use Rattle.std.proofs.Common.{◌∙◌, refl, arith}
use borrow.Author.Tests.{eq-eqb, ne_eqb}
use Rattle.laws.specs.Bools.{no_first, no_second, both_hold}
use Rattle.lent_record.specs.Held.{held}
use Rattle.lent_record.proofs.search.holds_key.Goals as goal

pub returns-then-bytes-at-ne1 : goal.returns-then-bytes-at-ne1
returns-then-bytes-at-ne1 c = let a = c.args in no_first _ _ _ _ (ne_eqb _ _ c.if-bytes-at-ne1.true) ∙ held a.k a.bytes.now a.i _ (omega arith) refl

pub returns-then-bytes-at : goal.returns-then-bytes-at
returns-then-bytes-at c = let a = c.args in no_second _ _ _ _ (eq-eqb _ _ c.if-bytes-at-ne1.false) (ne_eqb _ _ c.if-bytes-at.true) ∙ held a.k a.bytes.now a.i _ (omega arith) refl

pub returns : goal.returns
returns c = let a = c.args in both_hold _ _ _ _ (eq-eqb _ _ c.if-bytes-at-ne1.false) (eq-eqb _ _ c.if-bytes-at.false) ∙ held a.k a.bytes.now a.i _ (omega arith) refl
