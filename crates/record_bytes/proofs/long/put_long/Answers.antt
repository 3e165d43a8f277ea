use native.Mathlib.Omega.{arith}
use Prim.Native.Nat.{◌%◌, ◌/◌}
use mathlib.Core.Path.{refl}
use mathlib.Core.List.{[]}
use Rattle.words.specs.Words.{low4}
use Rattle.words.specs.Laws.{next_field}
use Rattle.record_bytes.proofs.long.put_long.Goals as goal

pub returns : goal.returns
returns c =
    let a = c.args in
    next_field a.out.now a.at (low4 (a.n % 4294967296) []) _ (low4 (a.n / 4294967296) [])
    c.put_word.ensures c.put_word-2.ensures refl (omega arith)
