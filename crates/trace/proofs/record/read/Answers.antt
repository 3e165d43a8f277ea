use Rattle.std.proofs.Common.{refl, sym, le-leb}
use Rattle.std.proofs.lemmas.Bool.{lt-leb}
use Rattle.std.proofs.lemmas.Result.{err_from_is_err_and}
use Rattle.laws.specs.Choice.{then, else}
use Rattle.trace.specs.Records.{record_at}
use Rattle.trace.proofs.record.read.Goals as goal

pub returns-then-s-at : goal.returns-then-s-at
unfolding record_at
returns-then-s-at c = then _ _ _ _ (le-leb _ _ c.if-s-at.true) refl

pub returns-in_err-kind : goal.returns-in_err-kind
unfolding record_at
returns-in_err-kind c =
    let p = err_from_is_err_and c.from_residual.result c.from_residual.ensures.1 in
    else _ _ _ _ (lt-leb _ _ c.if-s-at.false) (rw (sym c.read.ensures, c.in_err-kind.was, p.1, p.2) refl)

pub returns-in_err-by_kind : goal.returns-in_err-by_kind
unfolding record_at
returns-in_err-by_kind c =
    let p = err_from_is_err_and c.from_residual-in_err-by_kind.result c.from_residual-in_err-by_kind.ensures.1 in
    else _ _ _ _ (lt-leb _ _ c.if-s-at.false) (rw (sym c.read.ensures, c.in_ok-kind.was, sym c.by_kind.ensures, c.in_err-by_kind.was, p.1, p.2) refl)

pub returns : goal.returns
unfolding record_at
returns c = else _ _ _ _ (lt-leb _ _ c.if-s-at.false) (rw (sym c.read.ensures, c.in_ok-kind.was, sym c.by_kind.ensures, c.in_ok-by_kind.was) refl)
