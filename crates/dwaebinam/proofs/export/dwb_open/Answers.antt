use Rattle.std.proofs.Common.{ap, ◌∙◌}
use Rattle.receiver.specs.declared.Opened.{Opened}
use Rattle.answer.specs.Answers.{acceptance_number}
use Rattle.receiver.specs.Bounds.{opened}
use Rattle.dwaebinam.proofs.Exports.{opened_put}
use Rattle.dwaebinam.proofs.export.dwb_open.Goals as goal

pub returns : goal.returns
unfolding opened
returns c =
    let a = c.args in
    opened_put a.own (record { first = a.first; second = a.second }) a.reading a.buffer.now c.write_record.result
    c.open-opened.result.receiver c.acceptance_number.result c.write_record.new.out c.if-buffer-ne-RECORD_BYTES.false
    (ap (λ (x : Opened). x.receiver) c.open-opened.ensures) c.write_record.ensures
    (c.acceptance_number.ensures ∙ ap (λ (x : Opened). acceptance_number x.answer) c.open-opened.ensures)
