use native.Mathlib.Omega.{arith}
use mathlib.Core.List.{[], ◌∷◌}
use Rattle.text.specs.Put.{put_set, put_then}
use Rattle.text.specs.Line.{spaced}
use Rattle.text.proofs.line.put_spaced.Goals as goal

pub returns : goal.returns
unfolding spaced
returns g c = put_then _ _ (32 ∷ []) _ _ (omega arith) (put_set _ _ 32 (omega arith)) _ _ _ c.put.ensures
