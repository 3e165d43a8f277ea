use Rattle.std.proofs.Common.{refl, ◌∙◌}
use Rattle.unpacking.specs.Unpacking.{row}
use Rattle.unpacking.proofs.Rows.{six_put}
use Rattle.unpacking.proofs.row.write.Goals as goal

pub returns : goal.returns
returns c =
    six_put c.args.out.now c.copy_from_slice.new.self (row c.args.group) c.args.i
    (c.copy_from_slice.ensures.after ∙ c.row.ensures) refl c.requires.0
