use Rattle.std.specs.Prelude.{Result}
use mathlib.Core.Path.{ap, subst, ◌∙◌}
use Rattle.transport.specs.declared.Key.{Key}
use Rattle.transport.specs.Heads.{key_of}
use Rattle.transport.specs.Segments.{Fits}
use Rattle.receiver.specs.Calls.{segment_step, on_data}
use Rattle.record_bytes.specs.Layout.{record_at}
use Rattle.engine.specs.InBytes.{outcome_in}
use Rattle.engine.proofs.Cases.{by_case}
use Rattle.engine.proofs.Frames.{seen_same}
use Rattle.engine.proofs.segment.data_frame.Goals as goal
use Rattle.frame.specs.declared.refusal.Refusal.{Refusal}
use Rattle.transport.specs.declared.segment.Segment.{Segment}

pub segment-requires : goal.segment-requires
segment-requires c = let p = c.requires in
    let h = subst (Fits c.args.bytes.now) c.in-Ok.is
    c.read_segment.ensures.1 in
    (p.0, h.0, h.1, p.1, p.2)

pub returns-in-Ok : goal.returns-in-Ok
returns-in-Ok c = let a = c.args in
    let r = record_at a.buffer.now in
    by_case (λ (z : Result Segment Refusal). outcome_in a.buffer.now (on_data z r (key_of a.route a.bytes.now) a.bytes.now a.store.now)) _ _ _ _
    c.read_segment.ensures.0
    c.in-Ok.is
    (c.segment.ensures
    ∙ ap (λ (k : Key). outcome_in a.buffer.now (segment_step r k c.in-Ok.sg
    a.bytes.now a.store.now)) c.key_of-k.ensures)

pub returns-in-Err : goal.returns-in-Err
returns-in-Err c = let a = c.args in
    by_case (λ (z : Result Segment Refusal). outcome_in a.buffer.now (on_data z (record_at a.buffer.now) (key_of a.route a.bytes.now) a.bytes.now a.store.now)) _ _ _ _
    c.read_segment.ensures.0
    c.in-Err.is
    (seen_same a.buffer.now a.store.now c.requires.2 _)
