use Prim.Native.Nat.{ℕ, ◌+◌}
use native.Mathlib.Omega.{arith}
use mathlib.Core.Path.{refl}
use mathlib.Core.List.{List, [], ◌∷◌, ◌++◌}
use Rattle.words.specs.Words.{low4}
use Rattle.words.specs.Laws.{next_field}
use Rattle.answer_bytes.specs.Places.{pgn_place, total_place, segment_place}
use Rattle.answer_bytes.specs.Answers.{fields_bytes}
use Rattle.answer_bytes.proofs.put_fields.Goals as goal

pub returns : goal.returns
unfolding fields_bytes
returns c =
    let a = c.args in
    let d = a.out.now in
    let at = a.at in
    let f = a.f in
    let front : List ℕ = f.number ∷ f.code ∷ f.key.sa.0 ∷ f.key.da.0 ∷ f.key.session.0 ∷ f.kind ∷ f.extra ∷ [] in
    let pgn = low4 f.pgn [] in
    let total = low4 f.total [] in
    next_field d at (front ++ pgn ++ total) (at + segment_place) (low4 f.segment [])
    (next_field d at (front ++ pgn) (at + total_place) total
    (next_field d at front (at + pgn_place) pgn
    c.copy.ensures c.put_word.ensures refl (omega arith))
    c.put_word-2.ensures refl (omega arith))
    c.put_word-3.ensures refl (omega arith)
