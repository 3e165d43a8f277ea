use mathlib.Core.Path.{sym, ap, ◌∙◌}
use lib.Seq.{paste}
use Rattle.transport.specs.Segments.{data_at}
use Rattle.slots.proofs.store.copy_in.Goals as goal

pub returns-then-n-eq-SEGMENT_BYTES : goal.returns-then-n-eq-SEGMENT_BYTES
returns-then-n-eq-SEGMENT_BYTES c = c.copy_sixty.ensures ∙ ap (paste c.args.part.now c.args.at (data_at c.args.bytes.now)) (sym c.if-n-eq-SEGMENT_BYTES.true)
