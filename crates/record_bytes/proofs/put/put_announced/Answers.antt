use Prim.Native.Nat.{ℕ, ◌+◌}
use native.Mathlib.Omega.{arith}
use mathlib.Core.Path.{ap, ◌∙◌}
use mathlib.Core.List.{List, [], ◌∷◌, ◌++◌}
use lib.Seq.{paste}
use Rattle.words.specs.Laws.{next_field}
use Rattle.record_bytes.specs.Places.{total_place, segments_place, max_place, pgn_place}
use Rattle.record_bytes.specs.Layout.{kind_byte}
use Rattle.words.specs.Words.{low4}
use Rattle.record_bytes.proofs.put.put_announced.Goals as goal

pub returns : goal.returns
returns c =
    let s = c.args in
    let d = s.out.now in
    let at = s.at in
    let a = s.a in
    let front : List ℕ = 1 ∷ kind_byte a.kind ∷ a.key.sa.0 ∷ a.key.da.0 ∷ a.key.session.0 ∷ [] in
    let total : List ℕ = low4 a.total.0 [] in
    let segments : List ℕ = low4 a.segments.0 [] in
    let max : List ℕ = a.max ∷ [] in
    next_field d at (front ++ total ++ segments ++ max) (at + pgn_place) (low4 a.pgn [])
    (next_field d at (front ++ total ++ segments) (at + max_place) max
    (next_field d at (front ++ total) (at + segments_place) segments
    (next_field d at front (at + total_place) total
    (c.copy.ensures ∙ ap (λ (k : ℕ). paste d at (1 ∷ k ∷ a.key.sa.0 ∷ a.key.da.0 ∷ a.key.session.0 ∷ []) total_place) c.kind_byte.ensures)
    c.put_word.ensures (omega arith) (omega arith))
    c.put_word-2.ensures (omega arith) (omega arith))
    c.copy-2.ensures (omega arith) (omega arith))
    c.put_word-3.ensures (omega arith) (omega arith)
