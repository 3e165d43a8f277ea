use Rattle.std.specs.Int.{from_bool}
use Prim.Native.Nat.{ℕ, ◌+◌}
use native.Mathlib.Omega.{arith}
use mathlib.Core.Path.{◌≡◌, refl, ap, ◌∙◌}
use mathlib.Core.List.{List, [], ◌∷◌, ◌++◌}
use lib.Seq.{paste}
use Rattle.words.specs.Words.{low4}
use Rattle.words.specs.Laws.{next_field, both}
use Rattle.sender_bytes.specs.Places.{course_place, complete_place, next_place, granted_place, mark_place}
use Rattle.sender_bytes.proofs.put.put_course.Goals as goal

pub returns : goal.returns
returns c = let a = c.args in
    let d = a.out.now in
    let at = course_place a.i in
    let place = c.transfer_place-at.result in
    let k = a.c in
    let flags : List ℕ = from_bool k.complete ∷ from_bool k.reported ∷ from_bool k.owed ∷ [] in
    let made : List ℕ = c.from.result ∷ c.from-2.result ∷ c.from-3.result ∷ [] in
    let next : List ℕ = low4 k.next.0 [] in
    let granted : List ℕ = low4 k.granted.0 [] in
    let w : place + complete_place ≡ at = omega (arith, c.transfer_place-at.ensures) in
    next_field d at (flags ++ next ++ granted) (place + mark_place) (low4 k.mark [])
    (next_field d at (flags ++ next) (place + granted_place) granted
    (next_field d at flags (place + next_place) next
    (c.copy.ensures
    ∙ ap (λ (n : ℕ). paste d n made 3) w
    ∙ ap (λ (l : List ℕ). paste d at l 3) (both c.from.ensures (both c.from-2.ensures (both {xs = []} c.from-3.ensures refl))))
    c.put_word.ensures (omega (arith, w)) (omega arith))
    c.put_word-2.ensures (omega (arith, w)) (omega arith))
    c.put_word-3.ensures (omega (arith, w)) (omega arith)
