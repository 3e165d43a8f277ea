-- A reading at the sender: 02, E2; 01, "Clock".
use Rattle.std.specs.Prelude.{ℕ, cond, not, List, [], ◌∷◌, get_or, Err, None, Ok, Option, Result, Some}
use Rattle.std.proofs.Math.Seq.{paste}
use Rattle.frame.specs.declared.refusal.Refusal.{Refusal}
use Rattle.frame.specs.declared.refusal.Refusal.TheVariants.{OutOfBounds}
use Rattle.words.specs.Words.{low4}
use Rattle.session.specs.declared.Change.{Change}
use Rattle.transfer.specs.declared.Course.{Course}
use Rattle.session.specs.declared.Change.TheVariants as change
use Rattle.transfer.specs.declared.Transfer.{Transfer}
use Rattle.transfer.specs.Decisions.{end_at}
use Rattle.sender_bytes.specs.Places.{last_place}
use Rattle.sender_bytes.specs.Layout.{sender_at, transfers_at, changed}
use Rattle.sender.specs.Transfers.{ready_in}
use Rattle.answer.specs.declared.Ending.{Ending}

-- ---- one transfer: it stays, or ends with 22

abbrev pub end_of : ℕ → ℕ → Option Transfer → Option Ending
end_of limit t None = None
end_of limit t (Some x) = end_at limit t x

abbrev pub change_by : Option Ending → Change Transfer Course
change_by None = change.Stays
change_by (Some e) = change.Ends

abbrev pub ends_in : List ℕ → ℕ → Option Ending → Option Ending × List ℕ
ends_in b i e = (e, changed b i (change_by e))

abbrev pub elapsed_of : List ℕ → ℕ → Transfer → ℕ → ℕ → Option Ending × List ℕ
elapsed_of b i x limit t = ends_in b i (end_at limit t x)

abbrev pub one_elapsed : List ℕ → ℕ → ℕ → ℕ → Option Ending × List ℕ
one_elapsed b i limit t = ends_in b i (end_of limit t (get_or (transfers_at b) i None))

-- ---- all four, one after the other, then the reading kept as the last

unfoldable pub elapsed_in : List ℕ → ℕ → ℕ → List (Option Ending) × List ℕ
elapsed_in b limit t =
    let x₀ : Option Ending × List ℕ = one_elapsed b 0 limit t in
    let x₁ : Option Ending × List ℕ = one_elapsed x₀.1 1 limit t in
    let x₂ : Option Ending × List ℕ = one_elapsed x₁.1 2 limit t in
    let x₃ : Option Ending × List ℕ = one_elapsed x₂.1 3 limit t in
    (x₀.0 ∷ x₁.0 ∷ x₂.0 ∷ x₃.0 ∷ [], x₃.1)

-- 23, or the ending of each
unfoldable pub reading_in : List ℕ → ℕ → Result (List (Option Ending)) Refusal × List ℕ
reading_in b t =
    let e : List (Option Ending) × List ℕ = elapsed_in b (sender_at b).limit t in
    cond (not (ready_in b)) (Err OutOfBounds, b)
    (Ok e.0, paste e.1 last_place (low4 t []) 4)
