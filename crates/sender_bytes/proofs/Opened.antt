-- The bytes of a record with no transfer open, put one after another.
use Prim.Native.Nat.{ℕ, ◌≤◌}
use native.Mathlib.Omega.{arith}
use mathlib.Core.Path.{◌≡◌, refl, ap, ◌∙◌}
use mathlib.Core.Bool.{true, not}
use mathlib.Core.List.{List, [], ◌∷◌, ◌++◌, append-nil}
use lib.Dec.{eqb}
use lib.ListN.{length, drop, replicate, drop_of_length-le}
use lib.Seq.{paste}
use borrow.Author.Tests.{eq-eqb}
use Rattle.laws.specs.Choice.{else}
use Rattle.frame.specs.declared.Address.{Address}
use Rattle.words.specs.Words.{low4}
use Rattle.words.specs.Laws.{next_field}
use Rattle.sender_bytes.specs.Places.{record_length, head_length, own_place, limit_place, last_place}
use Rattle.sender_bytes.specs.Layout.{opened_bytes, opened_in}

pub opened : (own : Address) (limit reading : ℕ) (d o₁ o₂ o₃ o₄ : List ℕ) → length d ≡ record_length
    → o₁ ≡ paste d own_place (own.0 ∷ []) 1 → o₂ ≡ paste o₁ limit_place (low4 limit []) 4 → o₃ ≡ paste o₂ last_place (low4 reading []) 4
    → o₄ ≡ paste o₃ head_length (replicate 104 0) 104
    → (true, o₄) ≡ opened_in own limit reading d
unfolding opened_in
opened own limit reading d o₁ o₂ o₃ o₄ l e₁ e₂ e₃ e₄ =
    let front : List ℕ = own.0 ∷ [] in
    let f₂ : o₂ ≡ paste d own_place (front ++ low4 limit []) 5 = next_field d own_place front limit_place (low4 limit []) e₁ e₂ refl (omega arith) in
    let f₃ : o₃ ≡ paste d own_place (front ++ low4 limit [] ++ low4 reading []) 9 = next_field d own_place (front ++ low4 limit []) last_place (low4 reading []) f₂ e₃ refl (omega arith) in
    let f₄ : o₄ ≡ paste d own_place (opened_bytes own limit reading) record_length =
    next_field d own_place (front ++ low4 limit [] ++ low4 reading []) head_length (replicate 104 0) f₃ e₄ refl (omega arith) in
    let short : length d ≤ record_length = omega arith in
    let rest : drop record_length d ≡ [] = drop_of_length-le d short in
    else (not (eqb (length d) record_length)) _ _ _ (ap not (eq-eqb (length d) record_length l))
    (ap (λ (x : List ℕ). (true, x)) (f₄ ∙ ap (λ (x : List ℕ). opened_bytes own limit reading ++ x) rest ∙ append-nil (opened_bytes own limit reading)))
