use native.Mathlib.Omega.{arith}
use mathlib.Core.Bool.{true}
use mathlib.Core.Path.{◌≡◌, refl}
use lib.Count.{ones}
use Rattle.segments.specs.Model.{none_past}
use Rattle.segments.proofs.Parts.{past_low_yes, past_low_no, past_high_yes, past_high_no, counted_low, counted_high, agree_past, agree_not, agree_count}
use Rattle.segments.proofs.Segments.agree.Goals.{then-count-gt69-via-then-count-gt69, then-count-gt69-via-else-count-gt69+then-self-count-ne0}
use Rattle.segments.proofs.Segments.agree.Goals as goal

pub overflow_sub-result : goal.overflow_sub-result
overflow_sub-result c =
    let s = c.args.self in
    let count = c.args.count in
    let none : none_past s count ≡ true = past_low_yes s (omega arith) count _ (omega arith) c.from.ensures c.if-from-self-eq0.true in
    omega (arith, counted_low s (omega arith) count _ (omega arith) none refl)

pub returns-then-from-self-eq0 : goal.returns-then-from-self-eq0
returns-then-from-self-eq0 c =
    let s = c.args.self in
    let count = c.args.count in
    let none : none_past s count ≡ true = past_low_yes s (omega arith) count _ (omega arith) c.from.ensures c.if-from-self-eq0.true in
    agree_count s (omega arith) count c.args.left (ones s.low) (omega arith) none (counted_low s (omega arith) count _ (omega arith) none refl)

pub returns-then-count-lt64 : goal.returns-then-count-lt64
returns-then-count-lt64 c =
    agree_not c.args.self (omega arith) c.args.count c.args.left (omega arith)
    (past_low_no c.args.self (omega arith) c.args.count _ (omega arith) c.from.ensures c.if-from-self-eq0.false)

pub returns-then-count-gt69 : goal.returns-then-count-gt69
returns-then-count-gt69 c =
    let s = c.args.self in
    let count = c.args.count in
    elim c.then-count-gt69.branch [
      | then-count-gt69-via-then-count-gt69 w ↦ agree_past s (omega arith) count c.args.left (omega arith)
      | then-count-gt69-via-else-count-gt69+then-self-count-ne0 w ↦
          agree_not s (omega arith) count c.args.left (omega arith) (past_high_no s (omega arith) count (omega arith) w.if-self-count-ne0.true)
    ]

pub overflow_sub-result-2 : goal.overflow_sub-result-2
overflow_sub-result-2 c =
    let s = c.args.self in
    let count = c.args.count in
    let none : none_past s count ≡ true = past_high_yes s (omega arith) count (omega arith) c.if-self-count-ne0.false in
    omega (arith, counted_high s (omega arith) count _ (omega arith) none refl)

pub returns : goal.returns
returns c =
    let s = c.args.self in
    let count = c.args.count in
    let none : none_past s count ≡ true = past_high_yes s (omega arith) count (omega arith) c.if-self-count-ne0.false in
    agree_count s (omega arith) count c.args.left _ (omega arith) none (counted_high s (omega arith) count _ (omega arith) none refl)
