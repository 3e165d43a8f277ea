use Prim.Native.Nat.{◌+◌, ◌/◌}
use mathlib.Core.Path.{ap}
use mathlib.Core.Bool.{Bool, ◌&&◌}
use lib.Dec.{eqb, leb}
use Rattle.slots.proofs.bounds.numbers_ok.Goals as goal

pub returns : goal.returns
returns c =
    let a = c.args in
    ap (λ (form : Bool). leb 1 a.total && leb a.total 4096 && eqb a.segments ((a.total + 59) / 60) && form) c.is_pgn.ensures
