-- A reading, carried by the bytes: four transfers judged one after the other are all of them judged, and the reading is kept.
use Rattle.std.specs.Prelude.{ℕ, ◌<◌, ◌≡◌, refl, true, get_or, None, Option, Result, Some}
use Rattle.std.proofs.Common.{arith, sym, ◌∙◌}
use Rattle.std.proofs.Math.Path.{ap}
use Rattle.std.proofs.Math.Bool.{not}
use mathlib.Core.List.{List}
use Rattle.std.proofs.Math.ListN.{length}
use Rattle.frame.specs.declared.refusal.Refusal.{Refusal}
use Rattle.laws.specs.Choice.{then, else}
use Rattle.transfer.specs.Kept.{ChangeFits}
use Rattle.sender_bytes.specs.Places.{record_length}
use Rattle.sender_bytes.specs.Layout.{Sender, sender_at, transfers_at, with_transfer}
use Rattle.sender_bytes.specs.Changed.{OwnOf, length_put_last, put_last_at}
use Rattle.sender_bytes.proofs.Changed.{length_changed, changed_at}
use Rattle.sender.specs.Transfers.{in_bounds, ready_in}
use Rattle.sender.specs.Clock.{end_of, change_by, one_elapsed, elapsed_in, reading_in}
use Rattle.sender.specs.Model.{reading_step}
use Rattle.sender.specs.Facts.{ready_long, ready_bounds}
use Rattle.answer.specs.declared.Ending.{Ending}

end_fits : (e : Option Ending) → ChangeFits (change_by e)
end_fits None = tt
end_fits (Some e) = tt

end_own : (b : List ℕ) (e : Option Ending) → OwnOf b (change_by e)
end_own b None = tt
end_own b (Some e) = tt

module _ (limit t : ℕ) where
  -- transfer i of a record at the reading, and the same of its bytes
  abbrev judges : ℕ → Sender → Sender
  judges i s = with_transfer s i (change_by (end_of limit t (get_or s.transfers i None)))

  abbrev bytes_after : ℕ → List ℕ → List ℕ
  bytes_after i b = (one_elapsed b i limit t).1

  module _ (b : List ℕ) (long : length b ≡ record_length) (i : ℕ) (low : i < 4) where
    one_long : length (bytes_after i b) ≡ record_length
    one_long = length_changed b i long low (change_by (end_of limit t (get_or (transfers_at b) i None)))

    one_carried : sender_at (bytes_after i b) ≡ judges i (sender_at b)
    one_carried = let e : Option Ending = end_of limit t (get_or (transfers_at b) i None) in changed_at b i long low (change_by e) (end_fits e) (end_own b e)

module _ (b : List ℕ) (ready : ready_in b ≡ true) (t : ℕ) (small : t < 4294967296) where
  abbrev limit : ℕ
  limit = (sender_at b).limit

  abbrev b₁ : List ℕ
  b₁ = bytes_after limit t 0 b

  abbrev b₂ : List ℕ
  b₂ = bytes_after limit t 1 b₁

  abbrev b₃ : List ℕ
  b₃ = bytes_after limit t 2 b₂

  abbrev b₄ : List ℕ
  b₄ = bytes_after limit t 3 b₃

  abbrev long : length b ≡ record_length
  long = ready_long b ready

  abbrev long₁ : length b₁ ≡ record_length
  long₁ = one_long limit t b long 0 (omega arith)

  abbrev long₂ : length b₂ ≡ record_length
  long₂ = one_long limit t b₁ long₁ 1 (omega arith)

  abbrev long₃ : length b₃ ≡ record_length
  long₃ = one_long limit t b₂ long₂ 2 (omega arith)

  all_carried : sender_at b₄ ≡ judges limit t 3 (judges limit t 2 (judges limit t 1 (judges limit t 0 (sender_at b))))
  all_carried =
      one_carried limit t b₃ long₃ 3 (omega arith)
      ∙ ap (judges limit t 3) (one_carried limit t b₂ long₂ 2 (omega arith))
      ∙ ap (λ (s : Sender). judges limit t 3 (judges limit t 2 s)) (one_carried limit t b₁ long₁ 1 (omega arith))
      ∙ ap (λ (s : Sender). judges limit t 3 (judges limit t 2 (judges limit t 1 s))) (one_carried limit t b long 0 (omega arith))

  abbrev kept : Sender → Sender
  kept s = record { own = s.own; limit = s.limit; last = t; transfers = s.transfers }

  pub reading_long : length (reading_in b t).1 ≡ record_length
  unfolding reading_in elapsed_in
  reading_long =
      ap (λ (x : Result (List (Option Ending)) Refusal × List ℕ). length x.1) (sym (else (not (ready_in b)) _ _ _ (ap not ready) refl))
      ∙ length_put_last b₄ t (one_long limit t b₃ long₃ 3 (omega arith)) small

  pub reading_carried : sender_at (reading_in b t).1 ≡ (reading_step (sender_at b) t).1
  unfolding reading_in elapsed_in reading_step transfers_at
  reading_carried =
      ap (λ (x : Result (List (Option Ending)) Refusal × List ℕ). sender_at x.1) (sym (else (not (ready_in b)) _ _ _ (ap not ready) refl))
      ∙ put_last_at b₄ t (one_long limit t b₃ long₃ 3 (omega arith)) small
      ∙ ap kept all_carried
      ∙ ap (λ (x : List (Option Ending) × Sender). x.1) (then (in_bounds (sender_at b)) _ _ _ (ready_bounds b ready) refl)
