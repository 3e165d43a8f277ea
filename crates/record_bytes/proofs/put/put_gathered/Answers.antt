use Prim.Native.Nat.{ℕ, ◌+◌}
use native.Mathlib.Omega.{arith}
use mathlib.Core.List.{List, [], ◌∷◌, ◌++◌}
use Rattle.record_bytes.specs.Places.{taken_place, taken_high_place, missing_place, requests_place}
use Rattle.record_bytes.specs.Longs.{low8}
use Rattle.words.specs.Words.{low4}
use Rattle.words.specs.Laws.{next_field}
use Rattle.record_bytes.proofs.put.put_gathered.Goals as goal

pub returns : goal.returns
returns c =
    let s = c.args in
    let d = s.out.now in
    let slot = s.at in
    let at = slot + taken_place in
    let low = low8 s.p.taken.low [] in
    let high : List ℕ = s.p.taken.high ∷ [] in
    let missing = low4 s.p.missing [] in
    next_field d at (low ++ high ++ missing) (slot + requests_place) (s.p.requests ∷ [])
    (next_field d at (low ++ high) (slot + missing_place) missing
    (next_field d at low (slot + taken_high_place) high c.put_long.ensures c.copy.ensures (omega arith) (omega arith))
    c.put_word.ensures (omega arith) (omega arith))
    c.copy-2.ensures (omega arith) (omega arith)
