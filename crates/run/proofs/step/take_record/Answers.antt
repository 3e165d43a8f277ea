use Rattle.std.specs.Prelude.{Option, Some, Ok}
use Rattle.std.proofs.Common.{sym, ap, ◌∙◌}
use Rattle.trace.specs.declared.record.Record.{Record}
use Rattle.run.proofs.Records.{by_frame}
use Rattle.run.proofs.step.take_record.Goals as goal

pub returns-in-Frame : goal.returns-in-Frame
returns-in-Frame c =
    by_frame _ _ _ _ _ _ _ _ _ _ _ _ _ _ _ _
    (sym c.read.ensures ∙ c.in-Ok-Some.is ∙ ap (λ (x : Option Record). Ok x) (c.in-Ok-Some.field-0-is ∙ ap (λ (x : Record). Some x) c.in-Frame.is))
    c.cut-frame.ensures c.take_frame.ensures c.behind-in-Frame.ensures
