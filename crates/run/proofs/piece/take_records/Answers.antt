use mathlib.Core.Path.{sym, ◌∙◌}
use native.Mathlib.Omega.{arith}
use Rattle.run.proofs.Walks.{took_by, walk_less, walk_count, walk_on, walk_full, walk_last}
use Rattle.run.proofs.piece.take_records.Goals as goal

pub returns-in-Err : goal.returns-in-Err
returns-in-Err c =
    walk_last _ _ _ _ _ _ _ _ _ _ _ _ c.loop-receiver.invariant _ _ _ _ _ _ (sym c.has_room.ensures ∙ c.loop-receiver-test.true)
    c.in-Err.is c.take_record.ensures c.from.ensures

pub overflow_add-good : goal.overflow_add-good
overflow_add-good c =
    record {
      fits = let h = walk_count _ _ _ _ _ _ _ _ _ _ _ _ c.loop-receiver.invariant _ _ _ _ _
          (took_by _ _ _ _ _ c.in-Ok.is c.take_record.ensures) in let g = c.requires in omega arith;
    }

pub loop-receiver-smaller : goal.loop-receiver-smaller
loop-receiver-smaller c =
    walk_less _ _ _ _ _ _ _ _ _ _ _ _ c.loop-receiver.invariant _ _ _ _ _ (took_by _ _ _ _ _ c.in-Ok.is c.take_record.ensures)

pub loop-receiver-preserved : goal.loop-receiver-preserved
loop-receiver-preserved c =
    walk_on _ _ _ _ _ _ _ _ _ _ _ _ c.loop-receiver.invariant _ _ _ _ _
    (took_by _ _ _ _ _ c.in-Ok.is c.take_record.ensures) c.take_record.auto.receiver
    c.take_record.auto.store c.take_record.auto.lines

pub returns : goal.returns
returns c = walk_full _ _ _ _ _ _ _ _ _ _ _ _ c.loop-receiver.invariant (sym c.has_room.ensures ∙ c.loop-receiver-test.false)
