use mathlib.Core.Path.{refl, sym, ap, ◌∙◌}
use mathlib.Core.Bool.{false}
use mathlib.Core.List.{List}
use Prim.Native.Nat.{ℕ}
use lib.ListN.{length, replicate}
use Rattle.std.specs.Prelude.{Err}
use Rattle.frame.specs.declared.refusal.Refusal.TheVariants.{OutOfBounds}
use Rattle.receiver.specs.Calls.{stays}
use Rattle.engine.specs.declared.reading.ReadingAnswer.{ReadingAnswer}
use Rattle.lent_record.specs.Ready.{ready_in, not_long}
use Rattle.engine.proofs.Elapses.{reading_refused}
use Rattle.engine.proofs.reading.take_reading.Goals as goal

pub returns-in-None : goal.returns-in-None
returns-in-None c = let a = c.args in
    reading_refused a.buffer.now a.t a.store.now false (sym (not_long a.buffer.now _ c.in-None.ensures.cases)) refl

pub returns-then-not-is_in_bounds : goal.returns-then-not-is_in_bounds
returns-then-not-is_in_bounds c = let a = c.args in
    let e = c.in-Some.ensures.cases.same in
    let none : ReadingAnswer = record { answer = Err OutOfBounds; ends = replicate 8 stays } in
    ap (λ (b : List ℕ). (none, b)) e
    ∙ reading_refused a.buffer.now a.t a.store.now c.is_in_bounds.result
    (c.is_in_bounds.ensures ∙ ap (λ (b : List ℕ). ready_in b (length a.store.now)) e) c.if-not-is_in_bounds.true-raw
