use Prim.Native.Nat.{◌+◌, ◌-◌, ◌*◌}
use mathlib.Core.Path.{ap, ◌∙◌}
use lib.Seq.{paste}
use Rattle.transport.specs.Segments.{data_at}
use Rattle.engine.proofs.segment.store_due.Goals as goal

pub returns : goal.returns
returns c = let a = c.args in
    c.store_segment.ensures
    ∙ ap (paste a.store.now (4096 * a.i + 60 * (a.n.0 - 1)) (data_at a.bytes.now)) c.due-count.ensures
