use Prim.Native.Nat.{ℕ, ◌+◌}
use native.Mathlib.Omega.{arith}
use mathlib.Core.Path.{◌≡◌, ap, ◌∙◌}
use mathlib.Core.List.{List, [], ◌∷◌, ◌++◌}
use lib.Seq.{paste}
use Rattle.record_bytes.specs.Places.{next_place, granted_place, mark_place, wait_place, taken_place, progress_length, progress_place}
use Rattle.record_bytes.specs.Layout.{gathered_bytes}
use Rattle.words.specs.Words.{low4}
use Rattle.words.specs.Laws.{next_field}
use Rattle.record_bytes.proofs.put.put_progress.Goals as goal

pub returns : goal.returns
returns c =
    let a = c.args in
    let d = a.out.now in
    let at = progress_place a.i in
    let slot = c.slot_place-at.result in
    let next = low4 a.p.next.0 [] in
    let granted = low4 a.p.granted.0 [] in
    let mark = low4 a.p.mark [] in
    let wait : List ℕ = c.wait_byte.result ∷ [] in
    let gathered = gathered_bytes a.p in
    let w : slot + next_place ≡ at = omega (arith, c.slot_place-at.ensures) in
    next_field d at (next ++ granted ++ mark ++ wait) (slot + taken_place) gathered
    (next_field d at (next ++ granted ++ mark) (slot + wait_place) wait
    (next_field d at (next ++ granted) (slot + mark_place) mark
    (next_field d at next (slot + granted_place) granted
    (c.put_word.ensures ∙ ap (λ (k : ℕ). paste d k next 4) w)
    c.put_word-2.ensures (omega (arith, w)) (omega arith))
    c.put_word-3.ensures (omega (arith, w)) (omega arith))
    c.copy.ensures (omega (arith, w)) (omega arith))
    c.put_gathered.ensures (omega (arith, w)) (omega arith)
    ∙ ap (λ (k : ℕ). paste d at (next ++ granted ++ mark ++ (k ∷ []) ++ gathered) progress_length) c.wait_byte.ensures
