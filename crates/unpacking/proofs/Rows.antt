-- A part of six numbers written over.
use Rattle.std.proofs.Common.{arith, ◌≡◌, ℕ, List, length, ◌+◌, ◌-◌, ◌≤◌, sym, ap, ◌∙◌}
use borrow.Rule.Slice.PartMut.{put_mid}
use Rattle.std.proofs.lemmas.Slice.{put_mid-paste}
use Rattle.std.proofs.lemmas.List.Edits.{sets, sets-eq}
use Rattle.std.proofs.Math.Seq.{paste}
use Rattle.laws.specs.Pastes.{paste_whole}

pub six_put : (l part numbers : List ℕ) (i : ℕ) → part ≡ numbers → length numbers ≡ 6 → i + 6 ≤ length l → put_mid i (i + 6 - i) l part ≡ sets l i numbers
six_put l part numbers i e n h =
    let six : 6 ≡ i + 6 - i = omega arith in
    put_mid-paste i (i + 6 - i) l part numbers 6 e six (sym n)
    ∙ ap (paste l i numbers) (sym n)
    ∙ paste_whole l i numbers
    ∙ sym (sets-eq numbers l i (omega (arith, n)))
