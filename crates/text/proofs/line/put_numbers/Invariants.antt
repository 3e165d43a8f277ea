use Rattle.std.proofs.Common.{◌≤◌, length, map, drop}
use Rattle.text.specs.Put.{Going}
use Rattle.text.specs.Line.{numbers}
use Rattle.text.proofs.line.put_numbers.Given as goal

abbrev pub invariant-loop-number : goal.invariant-loop-number
invariant-loop-number g l =
    let n = g.N.Decimal.number in
    (l.number-index ≤ length l.list) × Going l.initial.out l.at (numbers (map n l.list)) l.out l.place (numbers (map n (drop l.number-index l.list)))
