use native.Mathlib.Omega.{arith}
use mathlib.Core.Path.{◌≡◌}
use Prim.Native.Nat.{min}
use Rattle.std.specs.Prelude.{MatchOption}
use Rattle.std.proofs.Common.{rules}
use Rattle.segments.proofs.Runs.{asked, found_run}
use Rattle.segments.proofs.Segments.run.Goals as goal

-- the gap, as far as is asked for
pub returns : goal.returns
returns c =
    let r = c.map_or.result in
    let k = c.min-asked.result in
    let found : MatchOption c.gap.result (r ≡ k) (λ z. r ≡ min z k) = search rules in
    asked c.args.self c.args.from c.args.count c.args.most r k (omega arith) (omega arith) (omega arith)
    (found_run c.args.self c.args.from k r c.gap.result c.gap.ensures found)
