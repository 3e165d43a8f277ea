use Rattle.std.proofs.Common.{◌≡◌, ◌≤◌, length, map, drop}
use Rattle.text.specs.Line.{numbers, left_by}
use Rattle.text.proofs.line.left_after_numbers.Given as goal

abbrev pub invariant-loop-number : goal.invariant-loop-number
invariant-loop-number g l =
    let n = g.N.Decimal.number in
    (l.number-index ≤ length l.list) × (left_by l.left (length (numbers (map n (drop l.number-index l.list)))) ≡ left_by l.room (length (numbers (map n l.list))))
