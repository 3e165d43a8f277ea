use Rattle.std.proofs.Common.{◌≡◌, ◌+◌, ◌-◌, ℕ, ◌∙◌, arith}
use Rattle.trace.proofs.Groups.{next, scale_at, scale_is, scale_next, group_low}
use Rattle.trace.proofs.number.later_groups.Goals as goal

pub loop-scale-preserved : goal.loop-scale-preserved
loop-scale-preserved c =
    let i : ℕ = c.loop-scale.scale-index in
    let less : 3 - (i + 1) ≡ 3 - i - 1 = omega arith in
    let (inside, is, byte) = c.in_ok-b.ensures in
    rw (scale_is i c.loop-scale-test.true, scale_next i, less)
    (record {
      low = group_low c.loop-scale.value (scale_at i) (c.in_ok-b.b - 128) c.loop-scale.invariant.low (omega arith);
      same =
          next c.args.s.now c.loop-scale.at c.loop-scale.value (scale_at i) c.in_ok-b.b inside is (3 - i) (omega arith) c.if-b-lt128.false
          ∙ c.loop-scale.invariant.same;
    })
