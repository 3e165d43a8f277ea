use Rattle.std.proofs.Common.{sym, ◌∙◌}
use Rattle.dwaebinam.proofs.Routed.{to_receiver, to_sender}
use Rattle.dwaebinam.proofs.both.dwb_node_frame.Goals as goal

pub returns-then-is_senders : goal.returns-then-is_senders
returns-then-is_senders c =
    let a = c.args in
    to_sender a.buffer.now a.id a.bytes.now a.store.now a.sender.now a.answer.now c.if-answer-ne-ANSWER_BYTES.false
    _ _ _ (sym c.if-is_senders.true ∙ c.is_senders.ensures) c.dwb_sender_frame.ensures

pub returns : goal.returns
returns c =
    let a = c.args in
    to_receiver a.buffer.now a.id a.bytes.now a.store.now a.sender.now a.answer.now c.if-answer-ne-ANSWER_BYTES.false
    _ _ _ _ (sym c.if-is_senders.false ∙ c.is_senders.ensures) c.dwb_frame.ensures
