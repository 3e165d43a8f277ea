use mathlib.Core.Path.{refl, sym}
use mathlib.Core.Bool.{true}
use native.Mathlib.Omega.{arith}
use Rattle.engine.proofs.Elapses.{reading_holds, reading_kept_lem}
use Rattle.engine.proofs.reading.read_ready.Goals as goal

pub expire_all-ends-requires : goal.expire_all-ends-requires
expire_all-ends-requires c = let a = c.args in
    reading_holds a.buffer.now a.t a.store.now true (sym c.requires) refl (λ i. omega (arith, c.shared_slice_known-1.given i))

pub returns : goal.returns
returns c =
    let a = c.args in
    reading_kept_lem a.buffer.now a.t a.store.now true (sym c.requires) refl
    (λ i. omega (arith, c.shared_slice_known-1.given i))
    c.limits_of-limits.result c.expire_all-ends.result
    c.expire_all-ends.new.buffer c.put_last.new.out c.limits_of-limits.ensures
    c.expire_all-ends.ensures c.put_last.ensures
