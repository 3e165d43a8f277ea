use Prim.Native.Nat.{ℕ}
use native.Mathlib.Omega.{arith}
use mathlib.Core.Path.{ap, ◌∙◌}
use lib.Seq.{paste}
use Rattle.words.specs.Laws.{next_field}
use Rattle.sender_bytes.specs.Places.{transfer_place, course_place, offer_length}
use Rattle.sender_bytes.specs.Layout.{offer_bytes, course_bytes}
use Rattle.sender_bytes.proofs.put.put_transfer.Goals as goal

pub returns : goal.returns
returns c = let a = c.args in
    let d = a.out.now in
    let front = offer_bytes a.t.offer in
    next_field d (transfer_place a.i) front (course_place a.i) (course_bytes a.t.course)
    (c.put_offer.ensures ∙ ap (λ (k : ℕ). paste d k front offer_length) c.transfer_place.ensures)
    c.put_course.ensures (omega arith) (omega arith)
