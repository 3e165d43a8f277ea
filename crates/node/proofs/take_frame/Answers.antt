use mathlib.Core.Path.{sym, ap, ◌∙◌}
use mathlib.Core.Bool.{true, false}
use Rattle.node.specs.Node.{by_sender, by_receiver}
use Rattle.node.specs.Routes.{routed}
use Rattle.node.proofs.take_frame.Goals as goal

pub returns-then-is_senders : goal.returns-then-is_senders
returns-then-is_senders c =
    let a = c.args in
    ap (by_sender a.receiver.now a.store.now) c.take_frame.ensures
    ∙ routed a.receiver.now a.store.now a.sender.now a.id a.bytes.now true (sym c.if-is_senders.true ∙ c.is_senders.ensures)

pub returns : goal.returns
returns c =
    let a = c.args in
    ap (by_receiver a.sender.now) c.take_frame-2.ensures
    ∙ routed a.receiver.now a.store.now a.sender.now a.id a.bytes.now false (sym c.if-is_senders.false ∙ c.is_senders.ensures)
