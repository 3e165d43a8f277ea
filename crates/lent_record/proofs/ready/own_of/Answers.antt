use native.Mathlib.Omega.{arith}
use mathlib.Core.Path.{refl}
use Rattle.lent_record.proofs.ready.own_of.Goals as goal

pub returns : goal.returns
returns c = (refl, λ i. omega (arith, c.shared_slice_known-1.given i))
