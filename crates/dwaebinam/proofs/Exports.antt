-- What an opening writes, from what its parts say.
use Prim.Native.Nat.{ℕ}
use mathlib.Core.Path.{◌≡◌, refl, sym, ap, ◌∙◌}
use mathlib.Core.Bool.{Bool, true, not}
use mathlib.Core.List.{List}
use lib.Dec.{eqb}
use lib.ListN.{length}
use borrow.Author.Tests.{eq-eqb}
use Rattle.progress.specs.declared.wait.IdleLimits.{IdleLimits}
use Rattle.laws.specs.Choice.{else}
use Rattle.receiver.specs.declared.Receiver.{Receiver}
use Rattle.receiver.specs.Bounds.{opened_with}
use Rattle.record_bytes.specs.Places.{record_length}
use Rattle.record_bytes.specs.Layout.{record_bytes, stored_in}
use Rattle.dwaebinam.specs.Calls.{opening_number, opened_in}

stored_whole : (r : Receiver) (d o : List ℕ) (w : Bool) → length d ≡ record_length → (w, o) ≡ stored_in r d → o ≡ record_bytes r
unfolding stored_in
stored_whole r d o w long e =
    let whole : Bool × List ℕ = (true, record_bytes r) in
    let p : whole ≡ stored_in r d = else (not (eqb (length d) record_length)) _ _ _ (ap not (eq-eqb _ _ long)) refl in
    ap (λ (x : Bool × List ℕ). x.1) (e ∙ sym p)

module _ (own : ℕ) (limits : IdleLimits) (reading : ℕ) (d : List ℕ) where
  pub opened_put : (w : Bool) (R : Receiver) (n : ℕ) (o : List ℕ) → length d ≡ record_length → R ≡ opened_with (record { 0 = own }) limits reading
      → (w, o) ≡ stored_in R d → n ≡ opening_number (record { 0 = own }) limits reading → (n, o) ≡ opened_in own limits reading d
  unfolding opened_in
  opened_put w R n o long eR e en =
      else (not (eqb (length d) record_length)) _ _ _ (ap not (eq-eqb _ _ long))
      (ap (λ (x : ℕ). (x, o)) en
      ∙ ap (λ (l : List ℕ). (opening_number (record { 0 = own }) limits reading, l)) (stored_whole R d o w long e ∙ ap record_bytes eR))
