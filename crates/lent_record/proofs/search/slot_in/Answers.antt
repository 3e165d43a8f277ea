use Prim.Native.Nat.{ℕ, ◌+◌, ◌-◌}
use native.Mathlib.Omega.{arith}
use mathlib.Core.Path.{◌≡◌, sym, ap, ◌∙◌}
use lib.ListN.{take, drop}
use Rattle.record_bytes.specs.Places.{slot_length, slot_place}
use Rattle.record_bytes.specs.Layout.{slot_at}
use Rattle.record_bytes.specs.Pieces.{piece_of}
use Rattle.lent_record.specs.Held.{slot_of_lem}
use Rattle.lent_record.proofs.search.slot_in.Goals as goal

pub returns : goal.returns
returns c =
    let b = c.args.bytes.now in let i : ℕ = c.args.i in let k : ℕ = slot_place i in let e : k + slot_length - k
    ≡ slot_length = omega arith in c.slot_at.ensures ∙ ap (λ (n : ℕ). slot_at (take n (drop k b))) e ∙ ap slot_at (sym (piece_of b i c.requires))
    ∙ sym (slot_of_lem b i)
