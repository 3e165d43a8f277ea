use mathlib.Core.Path.{sym, ◌∙◌}
use lib.Dec.{eqb}
use lib.ListN.{length}
use borrow.Author.Tests.{ne_eqb}
use Rattle.laws.specs.Choice.{and_stop}
use Rattle.record_bytes.specs.Places.{record_length}
use Rattle.lent_record.specs.Judged.{ready_in_lem}
use Rattle.lent_record.proofs.ready.is_ready.Goals as goal

pub returns-in-None : goal.returns-in-None
returns-in-None c =
    let a = c.args in
    and_stop (eqb (length a.bytes.now) record_length) _ (ne_eqb _ _ c.in-None.ensures.cases) ∙ sym (ready_in_lem a.bytes.now a.store)
