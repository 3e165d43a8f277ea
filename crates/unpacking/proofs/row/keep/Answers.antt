use Rattle.std.proofs.Common.{arith, ◌≡◌, ◌+◌, ◌-◌, length-drop, length-take-le, take, drop, ℕ, ap, ◌∙◌}
use Rattle.unpacking.proofs.Rows.{six_put}
use Rattle.unpacking.proofs.row.keep.Goals as goal

pub returns : goal.returns
returns c =
    let o = c.args.out.now in
    let i = c.args.i in
    let six : i + 6 - i ≡ 6 = omega arith in
    let there = c.requires.0 in
    six_put c.args.kept.now c.copy_from_slice-2.new.self (take 6 (drop i o)) i
    (c.copy_from_slice-2.ensures.after ∙ c.copy_from_slice.ensures.after ∙ ap (λ (n : ℕ). take n (drop i o)) six)
    (length-take-le 6 (drop i o) (simp length-drop (omega (arith, there)))) c.requires.1
