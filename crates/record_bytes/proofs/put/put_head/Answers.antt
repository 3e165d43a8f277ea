use Prim.Native.Nat.{ℕ}
use native.Mathlib.Omega.{arith}
use mathlib.Core.Path.{refl}
use mathlib.Core.List.{List, [], ◌∷◌, ◌++◌}
use Rattle.words.specs.Laws.{next_field}
use Rattle.record_bytes.specs.Places.{own_place, first_limit_place, second_limit_place, last_place}
use Rattle.record_bytes.specs.Layout.{head_bytes}
use Rattle.words.specs.Words.{low4}
use Rattle.record_bytes.proofs.put.put_head.Goals as goal

pub returns : goal.returns
unfolding head_bytes
returns c =
    let a = c.args in
    let d = a.out.now in
    let own : List ℕ = a.r.own.0 ∷ [] in
    let one = low4 a.r.limits.first [] in
    let two = low4 a.r.limits.second [] in
    next_field d own_place (own ++ one ++ two) last_place (low4 a.r.last [])
    (next_field d own_place (own ++ one) second_limit_place two
    (next_field d own_place own first_limit_place one c.copy.ensures c.put_word.ensures refl (omega arith))
    c.put_word-2.ensures refl (omega arith))
    c.put_last.ensures refl (omega arith)
