use Prim.Native.Nat.{ℕ, ◌+◌, ◌-◌}
use native.Mathlib.Omega.{arith}
use mathlib.Core.Path.{◌≡◌, sym, ap, ◌∙◌}
use lib.ListN.{take, drop}
use Rattle.sender_bytes.specs.Places.{transfer_length}
use Rattle.sender_bytes.specs.Layout.{own_at, state_at}
use Rattle.sender_bytes.specs.Changed.{transfer_at_lem}
use Rattle.sender.proofs.search.transfer_in.Goals as goal

pub returns : goal.returns
returns c =
    let a = c.args in
    let b = a.bytes.now in
    let at : ℕ = c.transfer_place-at.result in
    let e : at + transfer_length - at ≡ transfer_length = omega arith in
    c.state_at.ensures
    ∙ ap (λ (n : ℕ). state_at (own_at b) (take n (drop at b))) e
    ∙ ap (λ (n : ℕ). state_at (own_at b) (take transfer_length (drop n b))) c.transfer_place-at.ensures
    ∙ sym (transfer_at_lem b a.i c.requires)
