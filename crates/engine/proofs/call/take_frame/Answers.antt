use mathlib.Core.Path.{refl, sym, ap, ◌∙◌}
use mathlib.Core.Bool.{false}
use mathlib.Core.List.{List}
use Prim.Native.Nat.{ℕ}
use lib.ListN.{length}
use Rattle.frame.specs.declared.refusal.Refusal.TheVariants.{OutOfBounds}
use Rattle.answer.specs.declared.Answer.TheVariants.{Refused}
use Rattle.lent_record.specs.Ready.{ready_in, not_long}
use Rattle.engine.proofs.Frames.{not_ready}
use Rattle.engine.proofs.call.take_frame.Goals as goal

pub returns-in-None : goal.returns-in-None
returns-in-None c = let a = c.args in
    not_ready a.buffer.now a.id a.bytes.now a.store.now false (sym (not_long a.buffer.now _ c.in-None.ensures.cases)) refl

pub returns-then-not-is_in_bounds : goal.returns-then-not-is_in_bounds
returns-then-not-is_in_bounds c = let a = c.args in
    let e = c.in-Some.ensures.cases.same in
    ap (λ (b : List ℕ). (Refused OutOfBounds, (b, a.store.now))) e
    ∙ not_ready a.buffer.now a.id a.bytes.now a.store.now c.is_in_bounds.result
    (c.is_in_bounds.ensures ∙ ap (λ (b : List ℕ). ready_in b (length a.store.now)) e) c.if-not-is_in_bounds.true-raw
