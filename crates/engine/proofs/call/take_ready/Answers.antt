use mathlib.Core.Path.{refl, sym, ap, ◌∙◌}
use Rattle.std.specs.Prelude.{Ok}
use mathlib.Core.Bool.{true}
use native.Mathlib.Omega.{arith}
use Rattle.multi_pg.specs.Groups.{groups_read}
use Rattle.engine.proofs.Writes.{seen_put}
use Rattle.engine.proofs.Frames.{is_ready_lem, holds, by_verdict_lem, by_groups, seen_same}
use Rattle.engine.proofs.call.take_ready.Goals as goal

pub control-requires : goal.control-requires
control-requires c = let a = c.args in
    let b = a.buffer.now in
    let d = a.bytes.now in
    let m = a.store.now in
    let e = sym c.requires in
    holds b a.id d m true e refl c.own_of-own.ensures.1

pub data_frame-requires : goal.data_frame-requires
data_frame-requires c = let a = c.args in
    let b = a.buffer.now in
    let d = a.bytes.now in
    let m = a.store.now in
    let e = sym c.requires in
    let r = is_ready_lem b a.id d m true e refl in
    (r.bounds, r.store, holds b a.id d m true e refl c.own_of-own.ensures.1)

pub returns-in-Ok-MultiPg : goal.returns-in-Ok-MultiPg
returns-in-Ok-MultiPg c = let a = c.args in
    let b = a.buffer.now in
    let d = a.bytes.now in
    let m = a.store.now in
    let e = sym c.requires in
    by_verdict_lem b a.id d m true e refl c.own_of-own.result _ _ _ c.own_of-own.ensures.0 c.judge.ensures (c.in-Ok-MultiPg.is ∙ ap Ok c.in-Ok-MultiPg.field-0-is)
    (by_groups b m (holds b a.id d m true e refl c.own_of-own.ensures.1) _ (groups_read d) _ c.groups.ensures)

pub returns-in-Ok-Control : goal.returns-in-Ok-Control
returns-in-Ok-Control c = let a = c.args in
    let b = a.buffer.now in
    let d = a.bytes.now in
    let m = a.store.now in
    let e = sym c.requires in
    by_verdict_lem b a.id d m true e refl c.own_of-own.result _ _ _ c.own_of-own.ensures.0 c.judge.ensures (c.in-Ok-Control.is ∙ ap Ok c.in-Ok-Control.field-0-is)
    (seen_put _ _ _ _ _ c.control.ensures refl)

pub returns-in-Ok-Data : goal.returns-in-Ok-Data
returns-in-Ok-Data c = let a = c.args in
    let b = a.buffer.now in
    let d = a.bytes.now in
    let m = a.store.now in
    let e = sym c.requires in
    by_verdict_lem b a.id d m true e refl c.own_of-own.result _ _ _ c.own_of-own.ensures.0 c.judge.ensures (c.in-Ok-Data.is ∙ ap Ok c.in-Ok-Data.field-0-is)
    c.data_frame.ensures

pub returns-in-Err : goal.returns-in-Err
returns-in-Err c = let a = c.args in
    let b = a.buffer.now in
    let d = a.bytes.now in
    let m = a.store.now in
    let e = sym c.requires in
    by_verdict_lem b a.id d m true e refl c.own_of-own.result _ _ _ c.own_of-own.ensures.0 c.judge.ensures c.in-Err.is
    (seen_same b m (holds b a.id d m true e refl c.own_of-own.ensures.1) _)
