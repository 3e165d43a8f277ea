-- When a call is not refused with 23: 01, "Numbered refusals".
use Rattle.std.specs.Prelude.{ℕ, ◌≡◌, Bool, true, ◌&&◌, List, [], ◌∷◌, eqb, length, false, ◌≢◌}
use Rattle.std.proofs.Common.{eqb-true}
use Rattle.laws.specs.Bools.{by_test}
use Rattle.laws.specs.Choice.{each_of}
use Rattle.receiver.specs.Bounds.{in_bounds}
use Rattle.record_bytes.specs.Places.{record_length}
use Rattle.record_bytes.specs.Layout.{is_record, record_at}
use Rattle.record_bytes.specs.Pieces.{record_long}

-- the buffer is a record, the store has its eight times 4,096 bytes, and the record is in bounds
unfoldable pub ready_in : List ℕ → ℕ → Bool
ready_in b store = is_record b && (eqb store 32768 && in_bounds (record_at b))

-- the same, as facts
pub record Ready (b : List ℕ) (n : ℕ) : Type 0 where
  pub long : length b ≡ record_length
  pub codes : is_record b ≡ true
  pub store : n ≡ 32768
  pub bounds : in_bounds (record_at b) ≡ true

pub ready_of : (b : List ℕ) (n : ℕ) → ready_in b n ≡ true → Ready b n
unfolding ready_in
ready_of b n e =
    let p = each_of (is_record b ∷ (eqb n 32768 && in_bounds (record_at b)) ∷ []) e in
    let q = each_of (eqb n 32768 ∷ in_bounds (record_at b) ∷ []) p.1.0 in
    record { long = record_long b p.0; codes = p.0; store = eqb-true n 32768 q.0; bounds = q.1.0 }

-- bytes of another length are no record
pub not_long : (b : List ℕ) (n : ℕ) → length b ≢ record_length → ready_in b n ≡ false
not_long b n h = by_test (ready_in b n) (λ e. absurd (h (ready_of b n e).long)) (λ e. e)
