use Prim.Native.Nat.{◌+◌}
use mathlib.Core.Path.{refl, ◌∙◌}
use mathlib.Core.List.{[]}
use native.Mathlib.Omega.{arith}
use lib.ListN.{length-set}
use lib.Seq.{paste-zero}
use Rattle.trace.specs.Numbers.{number_bytes}
use Rattle.trace.specs.NumberLaws.{next_left, next_held, last_left, all_left}
use Rattle.trace.specs.Placing.{store_turn, stored, left_inside, left_next, left_last}
use borrow.Author.Rules.{rules}
use Rattle.trace.proofs.number.put.Goals as goal

pub loop-rest-init : goal.loop-rest-init
loop-rest-init c = (search rules, all_left c.args.n, refl, paste-zero c.args.out.now c.args.at (number_bytes c.args.n))

pub bounds-out-at : goal.bounds-out-at
bounds-out-at c = omega (
  arith,
  left_inside (number_bytes c.args.n) c.loop-rest.i
      (next_left c.loop-rest.i c.loop-rest.rest (number_bytes c.args.n) c.loop-rest-test.true c.loop-rest.invariant.0
      c.loop-rest.invariant.1),
)

pub loop-rest-preserved : goal.loop-rest-preserved
loop-rest-preserved c = (
  next_held c.loop-rest.i c.loop-rest.rest [] c.loop-rest-test.true c.loop-rest.invariant.0,
  left_next
      (number_bytes c.args.n) c.loop-rest.i
      (next_left c.loop-rest.i c.loop-rest.rest (number_bytes c.args.n) c.loop-rest-test.true c.loop-rest.invariant.0
      c.loop-rest.invariant.1),
  simp length-set c.loop-rest.invariant.2,
  store_turn c.args.out.now
      c.args.at (number_bytes c.args.n) c.loop-rest.i
      (next_left c.loop-rest.i c.loop-rest.rest (number_bytes c.args.n) c.loop-rest-test.true c.loop-rest.invariant.0
      c.loop-rest.invariant.1) c.requires c.loop-rest.invariant.3,
)

pub overflow_add-out-2 : goal.overflow_add-out-2
overflow_add-out-2 c = omega (
  arith,
  left_inside (number_bytes c.args.n) c.loop-rest.i
      (last_left c.loop-rest.i c.loop-rest.rest (number_bytes c.args.n) c.loop-rest-test.false
      c.loop-rest.invariant.1),
)

pub bounds-out-at-2 : goal.bounds-out-at-2
bounds-out-at-2 c = omega (
  arith,
  left_inside (number_bytes c.args.n) c.loop-rest.i
      (last_left c.loop-rest.i c.loop-rest.rest (number_bytes c.args.n) c.loop-rest-test.false
      c.loop-rest.invariant.1),
)

pub overflow_add-result : goal.overflow_add-result
overflow_add-result c = omega (
  arith,
  left_inside (number_bytes c.args.n) c.loop-rest.i
      (last_left c.loop-rest.i c.loop-rest.rest (number_bytes c.args.n) c.loop-rest-test.false
      c.loop-rest.invariant.1),
)

pub overflow_add-result-2 : goal.overflow_add-result-2
overflow_add-result-2 c = omega (
  arith,
  left_inside (number_bytes c.args.n) c.loop-rest.i
      (last_left c.loop-rest.i c.loop-rest.rest (number_bytes c.args.n) c.loop-rest-test.false
      c.loop-rest.invariant.1),
)

pub returns : goal.returns
returns c = let e = last_left c.loop-rest.i c.loop-rest.rest (number_bytes c.args.n) c.loop-rest-test.false
    c.loop-rest.invariant.1 in record {
      place = omega
          (arith, left_last (number_bytes c.args.n) c.loop-rest.i e);
      bytes = store_turn c.args.out.now
          c.args.at (number_bytes c.args.n) c.loop-rest.i e c.requires c.loop-rest.invariant.3
          ∙ stored c.args.out.now c.args.at (number_bytes c.args.n) (c.loop-rest.i + 1)
          (left_last (number_bytes c.args.n) c.loop-rest.i e);
    }
