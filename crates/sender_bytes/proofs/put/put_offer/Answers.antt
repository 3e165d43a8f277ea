use Prim.Native.Nat.{ℕ, ◌+◌}
use native.Mathlib.Omega.{arith}
use mathlib.Core.List.{List, [], ◌∷◌, ◌++◌}
use Rattle.words.specs.Words.{low4}
use Rattle.words.specs.Laws.{next_field}
use Rattle.sender_bytes.specs.Places.{total_place, pgn_place}
use Rattle.sender_bytes.proofs.put.put_offer.Goals as goal

pub returns : goal.returns
returns c = let a = c.args in
    let d = a.out.now in
    let at = a.at in
    let front : List ℕ = 1 ∷ a.o.key.da.0 ∷ a.o.key.session.0 ∷ [] in
    let total : List ℕ = low4 a.o.total.0 [] in
    next_field d at (front ++ total) (at + pgn_place) (low4 a.o.pgn [])
    (next_field d at front (at + total_place) total c.copy.ensures c.put_word.ensures (omega arith) (omega arith))
    c.put_word-2.ensures (omega arith) (omega arith)
