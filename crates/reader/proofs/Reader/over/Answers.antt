use Rattle.std.proofs.Common.{ap, ◌∙◌}
use Rattle.reader.specs.Runs.{groups_left}
use Rattle.reader.proofs.Runs.{left_over}
use Rattle.reader.proofs.Reader.over.Goals as goal

pub returns-clause-groups : goal.returns-clause-groups
returns-clause-groups c =
    ap (λ at. groups_left (record { frame = c.args.frame; at = at })) c.over-start.ensures ∙ left_over c.args.frame
