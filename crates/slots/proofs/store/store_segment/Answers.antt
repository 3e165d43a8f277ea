use Prim.Native.Nat.{ℕ, ◌+◌, ◌-◌, ◌*◌}
use mathlib.Core.Path.{ap, ◌∙◌}
use native.Mathlib.Omega.{arith}
use borrow.Rule.Slice.PartMut.{put_mid}
use Rattle.transport.specs.Segments.{data_at}
use Rattle.laws.specs.Copy.{paste_part}
use Rattle.slots.proofs.store.store_segment.Goals as goal

pub returns : goal.returns
returns c =
    let a = c.args in
    let base : ℕ = 4096 * a.slot in
    let k : ℕ = base + 4096 - base in
    ap (put_mid base k a.store.now) c.copy_in.ensures
    ∙ paste_part a.store.now base k a.at (data_at a.bytes.now) a.n (omega arith) (omega arith)
