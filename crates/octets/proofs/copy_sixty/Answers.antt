use native.Mathlib.Omega.{arith}
use mathlib.Core.Path.{refl}
use lib.ListN.{drop, replicate, length-drop}
use Rattle.laws.specs.Pastes.{copied_twice}
use Rattle.octets.proofs.copy_sixty.Goals as goal

pub returns : goal.returns
returns c =
    copied_twice _ c.args.out.now (replicate 60 0) c.copy.new.out (drop c.args.from c.args.src.now) c.args.at
    60 60 refl (simp length-drop (omega arith)) c.copy.ensures c.copy-2.ensures
