use mathlib.Core.Path.{refl, sym, ap, ◌∙◌}
use mathlib.Core.List.{List}
use Prim.Native.Nat.{ℕ}
use borrow.Author.Tests.{not-true}
use Rattle.laws.specs.Choice.{else}
use Rattle.lent_record.specs.Ready.{ready_in, not_long}
use Rattle.engine.specs.Missing.{missing_in}
use Rattle.engine.proofs.missing.missing.Goals as goal

pub returns-in-None : goal.returns-in-None
unfolding missing_in
returns-in-None c = else _ _ _ _ (not_long c.args.buffer.now 32768 c.in-None.ensures.cases) refl

pub returns-then-not-is_in_bounds : goal.returns-then-not-is_in_bounds
unfolding missing_in
returns-then-not-is_in_bounds c =
    else _ _ _ _ (ap (λ (b : List ℕ). ready_in b 32768) (sym c.in-Some.ensures.cases.same) ∙ sym c.is_in_bounds.ensures ∙ not-true _ c.if-not-is_in_bounds.true-raw) refl
